-- "The first fault `Codegen::gen_function` meets in its own statement order", statement by statement. A chain is one statement
-- with every fault that it can have; each row repairs the fault that the row before was refused for, so a row shows that its
-- refusal comes before all those that follow. The last row of a chain has no fault. With the answers of the published Rust;
-- written by `compare written`, in whose notation each book stands over its row.
use Rattle.std.specs.Prelude.{◌≡◌, refl, List, [], ◌∷◌, map}
use Rattle.assembly.specs.Cases.{unlines}
use Rattle.lowering.specs.Sheet.{Sheet, Answer, answers, says_of, open_sheet}

unfoldable pub chains : List Sheet
chains =
    -- load: func:f void param:p ptr . block:e load { label [16777217 i8 } %u - ret - . .
    record {
      entries =
          (5, 1) ∷ (10, 0) ∷ (6, 3) ∷ (12, 0) ∷ (0, 0) ∷ (7, 0) ∷ (71, 0) ∷ (16, 0) ∷ (19, 0) ∷ (13, 16777217) ∷ (11, 8) ∷ (0, 0) ∷ (30, 3) ∷ (21, 0)
          ∷ (90, 0) ∷ (21, 0) ∷ (0, 0) ∷ (0, 0) ∷ [];
      names =
          "e" ∷ "f" ∷ "p" ∷ "u" ∷ [];
      says = Answer.refusal 6;
    } ∷
    -- load: func:f void param:p ptr . block:e load { [16777217 i8 label } %u - ret - . .
    record {
      entries =
          (5, 1) ∷ (10, 0) ∷ (6, 3) ∷ (12, 0) ∷ (0, 0) ∷ (7, 0) ∷ (71, 0) ∷ (16, 0) ∷ (13, 16777217) ∷ (11, 8) ∷ (19, 0) ∷ (0, 0) ∷ (30, 3) ∷ (21, 0)
          ∷ (90, 0) ∷ (21, 0) ∷ (0, 0) ∷ (0, 0) ∷ [];
      names =
          "e" ∷ "f" ∷ "p" ∷ "u" ∷ [];
      says = Answer.refusal 7;
    } ∷
    -- load: func:f void param:p ptr . block:e load [3 i8 %u - ret - . .
    record {
      entries =
          (5, 1) ∷ (10, 0) ∷ (6, 3) ∷ (12, 0) ∷ (0, 0) ∷ (7, 0) ∷ (71, 0) ∷ (13, 3) ∷ (11, 8) ∷ (30, 3) ∷ (21, 0) ∷ (90, 0) ∷ (21, 0) ∷ (0, 0) ∷ (0, 0) ∷ [];
      names =
          "e" ∷ "f" ∷ "p" ∷ "u" ∷ [];
      says = Answer.refusal 11;
    } ∷
    -- load: func:f void param:p ptr . block:e load i8 %u - ret - . .
    record {
      entries =
          (5, 1) ∷ (10, 0) ∷ (6, 3) ∷ (12, 0) ∷ (0, 0) ∷ (7, 0) ∷ (71, 0) ∷ (11, 8) ∷ (30, 3) ∷ (21, 0) ∷ (90, 0) ∷ (21, 0) ∷ (0, 0) ∷ (0, 0) ∷ [];
      names =
          "e" ∷ "f" ∷ "p" ∷ "u" ∷ [];
      says = Answer.refusal 10;
    } ∷
    -- load: func:f void param:p ptr . block:e load i8 %p - ret - . .
    record {
      entries =
          (5, 1) ∷ (10, 0) ∷ (6, 3) ∷ (12, 0) ∷ (0, 0) ∷ (7, 0) ∷ (71, 0) ∷ (11, 8) ∷ (30, 2) ∷ (21, 0) ∷ (90, 0) ∷ (21, 0) ∷ (0, 0) ∷ (0, 0) ∷ [];
      names =
          "e" ∷ "f" ∷ "p" ∷ [];
      says = Answer.refusal 5;
    } ∷
    -- load: func:f void param:p ptr . block:e q=load i8 %p - ret - . .
    record {
      entries =
          (5, 1) ∷ (10, 0) ∷ (6, 3) ∷ (12, 0) ∷ (0, 0) ∷ (7, 0) ∷ (71, 4) ∷ (11, 8) ∷ (30, 2) ∷ (21, 0) ∷ (90, 0) ∷ (21, 0) ∷ (0, 0) ∷ (0, 0) ∷ [];
      names =
          "e" ∷ "f" ∷ "p" ∷ "q" ∷ [];
      says = Answer.text (unlines (
          "# void @f(1 params)" ∷ "f:" ∷ "push_0n 1;" ∷ "f__e:" ∷ "get_arg 0;" ∷ "load_u8;" ∷ "set_local 0;" ∷ "push 0;" ∷ "ret;" ∷ "" ∷ [])) 0;
    } ∷
    -- load of a struct in a struct: func:f void param:p ptr . block:e load { { [16777217 i8 label } } %u - ret - . .
    record {
      entries =
          (5, 1) ∷ (10, 0) ∷ (6, 3) ∷ (12, 0) ∷ (0, 0) ∷ (7, 0) ∷ (71, 0) ∷ (16, 0) ∷ (16, 0) ∷ (13, 16777217) ∷ (11, 8) ∷ (19, 0) ∷ (0, 0) ∷ (0, 0)
          ∷ (30, 3) ∷ (21, 0) ∷ (90, 0) ∷ (21, 0) ∷ (0, 0) ∷ (0, 0) ∷ [];
      names =
          "e" ∷ "f" ∷ "p" ∷ "u" ∷ [];
      says = Answer.refusal 6;
    } ∷
    -- load of a struct in a struct: func:f void param:p ptr . block:e load <{ { [16777217 i8 label } } %u - ret - . .
    record {
      entries =
          (5, 1) ∷ (10, 0) ∷ (6, 3) ∷ (12, 0) ∷ (0, 0) ∷ (7, 0) ∷ (71, 0) ∷ (17, 0) ∷ (16, 0) ∷ (13, 16777217) ∷ (11, 8) ∷ (19, 0) ∷ (0, 0) ∷ (0, 0)
          ∷ (30, 3) ∷ (21, 0) ∷ (90, 0) ∷ (21, 0) ∷ (0, 0) ∷ (0, 0) ∷ [];
      names =
          "e" ∷ "f" ∷ "p" ∷ "u" ∷ [];
      says = Answer.refusal 6;
    } ∷
    -- load of a struct in a struct: func:f void param:p ptr . block:e load { <{ [16777217 i8 label } } %u - ret - . .
    record {
      entries =
          (5, 1) ∷ (10, 0) ∷ (6, 3) ∷ (12, 0) ∷ (0, 0) ∷ (7, 0) ∷ (71, 0) ∷ (16, 0) ∷ (17, 0) ∷ (13, 16777217) ∷ (11, 8) ∷ (19, 0) ∷ (0, 0) ∷ (0, 0)
          ∷ (30, 3) ∷ (21, 0) ∷ (90, 0) ∷ (21, 0) ∷ (0, 0) ∷ (0, 0) ∷ [];
      names =
          "e" ∷ "f" ∷ "p" ∷ "u" ∷ [];
      says = Answer.refusal 7;
    } ∷
    -- load of a struct in a struct: func:f void param:p ptr . block:e load { <{ [16777216 i8 label } } %u - ret - . .
    record {
      entries =
          (5, 1) ∷ (10, 0) ∷ (6, 3) ∷ (12, 0) ∷ (0, 0) ∷ (7, 0) ∷ (71, 0) ∷ (16, 0) ∷ (17, 0) ∷ (13, 16777216) ∷ (11, 8) ∷ (19, 0) ∷ (0, 0) ∷ (0, 0)
          ∷ (30, 3) ∷ (21, 0) ∷ (90, 0) ∷ (21, 0) ∷ (0, 0) ∷ (0, 0) ∷ [];
      names =
          "e" ∷ "f" ∷ "p" ∷ "u" ∷ [];
      says = Answer.refusal 6;
    } ∷
    -- load of a struct in a struct: func:f void param:p ptr . block:e load { <{ [16777216 i8 i8 } } %u - ret - . .
    record {
      entries =
          (5, 1) ∷ (10, 0) ∷ (6, 3) ∷ (12, 0) ∷ (0, 0) ∷ (7, 0) ∷ (71, 0) ∷ (16, 0) ∷ (17, 0) ∷ (13, 16777216) ∷ (11, 8) ∷ (11, 8) ∷ (0, 0) ∷ (0, 0)
          ∷ (30, 3) ∷ (21, 0) ∷ (90, 0) ∷ (21, 0) ∷ (0, 0) ∷ (0, 0) ∷ [];
      names =
          "e" ∷ "f" ∷ "p" ∷ "u" ∷ [];
      says = Answer.refusal 7;
    } ∷
    -- load of a struct in a struct: func:f void param:p ptr . block:e load { <{ [16777215 i8 i8 } } %u - ret - . .
    record {
      entries =
          (5, 1) ∷ (10, 0) ∷ (6, 3) ∷ (12, 0) ∷ (0, 0) ∷ (7, 0) ∷ (71, 0) ∷ (16, 0) ∷ (17, 0) ∷ (13, 16777215) ∷ (11, 8) ∷ (11, 8) ∷ (0, 0) ∷ (0, 0)
          ∷ (30, 3) ∷ (21, 0) ∷ (90, 0) ∷ (21, 0) ∷ (0, 0) ∷ (0, 0) ∷ [];
      names =
          "e" ∷ "f" ∷ "p" ∷ "u" ∷ [];
      says = Answer.refusal 11;
    } ∷
    -- load of nothing: func:f void param:p ptr . block:e load void %u - ret - . .
    record {
      entries =
          (5, 1) ∷ (10, 0) ∷ (6, 3) ∷ (12, 0) ∷ (0, 0) ∷ (7, 0) ∷ (71, 0) ∷ (10, 0) ∷ (30, 3) ∷ (21, 0) ∷ (90, 0) ∷ (21, 0) ∷ (0, 0) ∷ (0, 0) ∷ [];
      names =
          "e" ∷ "f" ∷ "p" ∷ "u" ∷ [];
      says = Answer.refusal 11;
    } ∷
    -- load of nothing: func:f void param:p ptr . block:e load { } %u - ret - . .
    record {
      entries =
          (5, 1) ∷ (10, 0) ∷ (6, 3) ∷ (12, 0) ∷ (0, 0) ∷ (7, 0) ∷ (71, 0) ∷ (16, 0) ∷ (0, 0) ∷ (30, 3) ∷ (21, 0) ∷ (90, 0) ∷ (21, 0) ∷ (0, 0) ∷ (0, 0) ∷ [];
      names =
          "e" ∷ "f" ∷ "p" ∷ "u" ∷ [];
      says = Answer.refusal 11;
    } ∷
    -- load of nothing: func:f void param:p ptr . block:e load [0 i64 %u - ret - . .
    record {
      entries =
          (5, 1) ∷ (10, 0) ∷ (6, 3) ∷ (12, 0) ∷ (0, 0) ∷ (7, 0) ∷ (71, 0) ∷ (13, 0) ∷ (11, 64) ∷ (30, 3) ∷ (21, 0) ∷ (90, 0) ∷ (21, 0) ∷ (0, 0) ∷ (0, 0) ∷ [];
      names =
          "e" ∷ "f" ∷ "p" ∷ "u" ∷ [];
      says = Answer.refusal 11;
    } ∷
    -- store: func:f void param:p ptr . block:e store { label [16777217 i8 } %u %u - ret - . .
    record {
      entries =
          (5, 1) ∷ (10, 0) ∷ (6, 3) ∷ (12, 0) ∷ (0, 0) ∷ (7, 0) ∷ (72, 0) ∷ (16, 0) ∷ (19, 0) ∷ (13, 16777217) ∷ (11, 8) ∷ (0, 0) ∷ (30, 3) ∷ (30, 3)
          ∷ (21, 0) ∷ (90, 0) ∷ (21, 0) ∷ (0, 0) ∷ (0, 0) ∷ [];
      names =
          "e" ∷ "f" ∷ "p" ∷ "u" ∷ [];
      says = Answer.refusal 6;
    } ∷
    -- store: func:f void param:p ptr . block:e store [16777217 i8 %u %u - ret - . .
    record {
      entries =
          (5, 1) ∷ (10, 0) ∷ (6, 3) ∷ (12, 0) ∷ (0, 0) ∷ (7, 0) ∷ (72, 0) ∷ (13, 16777217) ∷ (11, 8) ∷ (30, 3) ∷ (30, 3) ∷ (21, 0) ∷ (90, 0) ∷ (21, 0)
          ∷ (0, 0) ∷ (0, 0) ∷ [];
      names =
          "e" ∷ "f" ∷ "p" ∷ "u" ∷ [];
      says = Answer.refusal 7;
    } ∷
    -- store: func:f void param:p ptr . block:e store [3 i8 %u %u - ret - . .
    record {
      entries =
          (5, 1) ∷ (10, 0) ∷ (6, 3) ∷ (12, 0) ∷ (0, 0) ∷ (7, 0) ∷ (72, 0) ∷ (13, 3) ∷ (11, 8) ∷ (30, 3) ∷ (30, 3) ∷ (21, 0) ∷ (90, 0) ∷ (21, 0) ∷ (0, 0)
          ∷ (0, 0) ∷ [];
      names =
          "e" ∷ "f" ∷ "p" ∷ "u" ∷ [];
      says = Answer.refusal 11;
    } ∷
    -- store: func:f void param:p ptr . block:e store [4 i8 %u %u - ret - . .
    record {
      entries =
          (5, 1) ∷ (10, 0) ∷ (6, 3) ∷ (12, 0) ∷ (0, 0) ∷ (7, 0) ∷ (72, 0) ∷ (13, 4) ∷ (11, 8) ∷ (30, 3) ∷ (30, 3) ∷ (21, 0) ∷ (90, 0) ∷ (21, 0) ∷ (0, 0)
          ∷ (0, 0) ∷ [];
      names =
          "e" ∷ "f" ∷ "p" ∷ "u" ∷ [];
      says = Answer.refusal 10;
    } ∷
    -- store: func:f void param:p ptr . block:e store [4 i8 %u %p - ret - . .
    record {
      entries =
          (5, 1) ∷ (10, 0) ∷ (6, 3) ∷ (12, 0) ∷ (0, 0) ∷ (7, 0) ∷ (72, 0) ∷ (13, 4) ∷ (11, 8) ∷ (30, 3) ∷ (30, 2) ∷ (21, 0) ∷ (90, 0) ∷ (21, 0) ∷ (0, 0)
          ∷ (0, 0) ∷ [];
      names =
          "e" ∷ "f" ∷ "p" ∷ "u" ∷ [];
      says = Answer.refusal 9;
    } ∷
    -- store: func:f void param:p ptr . block:e store i32 %u %p - ret - . .
    record {
      entries =
          (5, 1) ∷ (10, 0) ∷ (6, 3) ∷ (12, 0) ∷ (0, 0) ∷ (7, 0) ∷ (72, 0) ∷ (11, 32) ∷ (30, 3) ∷ (30, 2) ∷ (21, 0) ∷ (90, 0) ∷ (21, 0) ∷ (0, 0) ∷ (0, 0) ∷ [];
      names =
          "e" ∷ "f" ∷ "p" ∷ "u" ∷ [];
      says = Answer.refusal 10;
    } ∷
    -- store: func:f void param:p ptr . block:e store i32 1 %p - ret - . .
    record {
      entries =
          (5, 1) ∷ (10, 0) ∷ (6, 3) ∷ (12, 0) ∷ (0, 0) ∷ (7, 0) ∷ (72, 0) ∷ (11, 32) ∷ (32, 1) ∷ (30, 2) ∷ (21, 0) ∷ (90, 0) ∷ (21, 0) ∷ (0, 0) ∷ (0, 0) ∷ [];
      names =
          "e" ∷ "f" ∷ "p" ∷ [];
      says = Answer.text (unlines (
          "# void @f(1 params)" ∷ "f:" ∷ "f__e:" ∷ "get_arg 0;" ∷ "push 1;" ∷ "store_u32;" ∷ "push 0;" ∷ "ret;" ∷ "" ∷ [])) 0;
    } ∷
    -- fixed place: func:f void param:p ptr . block:e x=add label %u %u alloca { label [16777217 i8 } label 1 - ret - . .
    record {
      entries =
          (5, 1) ∷ (10, 0) ∷ (6, 3) ∷ (12, 0) ∷ (0, 0) ∷ (7, 0) ∷ (40, 5) ∷ (19, 0) ∷ (30, 3) ∷ (30, 3) ∷ (73, 0) ∷ (16, 0) ∷ (19, 0) ∷ (13, 16777217)
          ∷ (11, 8) ∷ (0, 0) ∷ (19, 0) ∷ (32, 1) ∷ (21, 0) ∷ (90, 0) ∷ (21, 0) ∷ (0, 0) ∷ (0, 0) ∷ [];
      names =
          "e" ∷ "f" ∷ "p" ∷ "u" ∷ "x" ∷ [];
      says = Answer.refusal 5;
    } ∷
    -- fixed place: func:f void param:p ptr . block:e x=add label %u %u q=alloca { [16777217 i8 label } label 1 - ret - . .
    record {
      entries =
          (5, 1) ∷ (10, 0) ∷ (6, 3) ∷ (12, 0) ∷ (0, 0) ∷ (7, 0) ∷ (40, 6) ∷ (19, 0) ∷ (30, 4) ∷ (30, 4) ∷ (73, 4) ∷ (16, 0) ∷ (13, 16777217) ∷ (11, 8)
          ∷ (19, 0) ∷ (0, 0) ∷ (19, 0) ∷ (32, 1) ∷ (21, 0) ∷ (90, 0) ∷ (21, 0) ∷ (0, 0) ∷ (0, 0) ∷ [];
      names =
          "e" ∷ "f" ∷ "p" ∷ "q" ∷ "u" ∷ "x" ∷ [];
      says = Answer.refusal 6;
    } ∷
    -- fixed place: func:f void param:p ptr . block:e x=add label %u %u q=alloca [16777217 i8 label 1 - ret - . .
    record {
      entries =
          (5, 1) ∷ (10, 0) ∷ (6, 3) ∷ (12, 0) ∷ (0, 0) ∷ (7, 0) ∷ (40, 6) ∷ (19, 0) ∷ (30, 4) ∷ (30, 4) ∷ (73, 4) ∷ (13, 16777217) ∷ (11, 8) ∷ (19, 0)
          ∷ (32, 1) ∷ (21, 0) ∷ (90, 0) ∷ (21, 0) ∷ (0, 0) ∷ (0, 0) ∷ [];
      names =
          "e" ∷ "f" ∷ "p" ∷ "q" ∷ "u" ∷ "x" ∷ [];
      says = Answer.refusal 7;
    } ∷
    -- fixed place: func:f void param:p ptr . block:e x=add label %u %u q=alloca [16777216 i8 label 129 - ret - . .
    record {
      entries =
          (5, 1) ∷ (10, 0) ∷ (6, 3) ∷ (12, 0) ∷ (0, 0) ∷ (7, 0) ∷ (40, 6) ∷ (19, 0) ∷ (30, 4) ∷ (30, 4) ∷ (73, 4) ∷ (13, 16777216) ∷ (11, 8) ∷ (19, 0)
          ∷ (32, 129) ∷ (21, 0) ∷ (90, 0) ∷ (21, 0) ∷ (0, 0) ∷ (0, 0) ∷ [];
      names =
          "e" ∷ "f" ∷ "p" ∷ "q" ∷ "u" ∷ "x" ∷ [];
      says = Answer.refusal 7;
    } ∷
    -- fixed place: func:f void param:p ptr . block:e x=add label %u %u q=alloca [16777216 i8 label 128 - ret - . .
    record {
      entries =
          (5, 1) ∷ (10, 0) ∷ (6, 3) ∷ (12, 0) ∷ (0, 0) ∷ (7, 0) ∷ (40, 6) ∷ (19, 0) ∷ (30, 4) ∷ (30, 4) ∷ (73, 4) ∷ (13, 16777216) ∷ (11, 8) ∷ (19, 0)
          ∷ (32, 128) ∷ (21, 0) ∷ (90, 0) ∷ (21, 0) ∷ (0, 0) ∷ (0, 0) ∷ [];
      names =
          "e" ∷ "f" ∷ "p" ∷ "q" ∷ "u" ∷ "x" ∷ [];
      says = Answer.refusal 9;
    } ∷
    -- fixed place: func:f void param:p ptr . block:e x=add i8 %u %u q=alloca [16777216 i8 label 128 - ret - . .
    record {
      entries =
          (5, 1) ∷ (10, 0) ∷ (6, 3) ∷ (12, 0) ∷ (0, 0) ∷ (7, 0) ∷ (40, 6) ∷ (11, 8) ∷ (30, 4) ∷ (30, 4) ∷ (73, 4) ∷ (13, 16777216) ∷ (11, 8) ∷ (19, 0)
          ∷ (32, 128) ∷ (21, 0) ∷ (90, 0) ∷ (21, 0) ∷ (0, 0) ∷ (0, 0) ∷ [];
      names =
          "e" ∷ "f" ∷ "p" ∷ "q" ∷ "u" ∷ "x" ∷ [];
      says = Answer.refusal 10;
    } ∷
    -- fixed place: func:f void param:p ptr . block:e x=add i8 1 1 q=alloca [16777216 i8 label 128 - ret - . .
    record {
      entries =
          (5, 1) ∷ (10, 0) ∷ (6, 3) ∷ (12, 0) ∷ (0, 0) ∷ (7, 0) ∷ (40, 5) ∷ (11, 8) ∷ (32, 1) ∷ (32, 1) ∷ (73, 4) ∷ (13, 16777216) ∷ (11, 8) ∷ (19, 0)
          ∷ (32, 128) ∷ (21, 0) ∷ (90, 0) ∷ (21, 0) ∷ (0, 0) ∷ (0, 0) ∷ [];
      names =
          "e" ∷ "f" ∷ "p" ∷ "q" ∷ "x" ∷ [];
      says = Answer.text (unlines (
          "# void @f(1 params)" ∷ "f:" ∷ "push_0n 3;" ∷ "thread_get 0;" ∷ "dup;" ∷ "set_local 2;" ∷ "push 2147483648;" ∷ "add_u64;" ∷ "thread_set 0;"
          ∷ "f__e:" ∷ "push 1;" ∷ "push 1;" ∷ "add_u32;" ∷ "trunc_u8;" ∷ "set_local 0;" ∷ "get_local 2;" ∷ "set_local 1;" ∷ "push 0;" ∷ "get_local 2;"
          ∷ "thread_set 0;" ∷ "ret;" ∷ "" ∷ [])) 0;
    } ∷
    -- two fixed places: func:f void param:p ptr . block:e q=alloca [16777216 i8 i8 129 - alloca label - - ret - . .
    record {
      entries =
          (5, 1) ∷ (10, 0) ∷ (6, 3) ∷ (12, 0) ∷ (0, 0) ∷ (7, 0) ∷ (73, 4) ∷ (13, 16777216) ∷ (11, 8) ∷ (11, 8) ∷ (32, 129) ∷ (21, 0) ∷ (73, 0) ∷ (19, 0)
          ∷ (21, 0) ∷ (21, 0) ∷ (90, 0) ∷ (21, 0) ∷ (0, 0) ∷ (0, 0) ∷ [];
      names =
          "e" ∷ "f" ∷ "p" ∷ "q" ∷ [];
      says = Answer.refusal 7;
    } ∷
    -- two fixed places: func:f void param:p ptr . block:e q=alloca [16777216 i8 i8 128 - alloca label - - ret - . .
    record {
      entries =
          (5, 1) ∷ (10, 0) ∷ (6, 3) ∷ (12, 0) ∷ (0, 0) ∷ (7, 0) ∷ (73, 4) ∷ (13, 16777216) ∷ (11, 8) ∷ (11, 8) ∷ (32, 128) ∷ (21, 0) ∷ (73, 0) ∷ (19, 0)
          ∷ (21, 0) ∷ (21, 0) ∷ (90, 0) ∷ (21, 0) ∷ (0, 0) ∷ (0, 0) ∷ [];
      names =
          "e" ∷ "f" ∷ "p" ∷ "q" ∷ [];
      says = Answer.refusal 5;
    } ∷
    -- two fixed places: func:f void param:p ptr . block:e q=alloca [16777216 i8 i8 128 - x=alloca label - - ret - . .
    record {
      entries =
          (5, 1) ∷ (10, 0) ∷ (6, 3) ∷ (12, 0) ∷ (0, 0) ∷ (7, 0) ∷ (73, 4) ∷ (13, 16777216) ∷ (11, 8) ∷ (11, 8) ∷ (32, 128) ∷ (21, 0) ∷ (73, 5) ∷ (19, 0)
          ∷ (21, 0) ∷ (21, 0) ∷ (90, 0) ∷ (21, 0) ∷ (0, 0) ∷ (0, 0) ∷ [];
      names =
          "e" ∷ "f" ∷ "p" ∷ "q" ∷ "x" ∷ [];
      says = Answer.refusal 6;
    } ∷
    -- two fixed places: func:f void param:p ptr . block:e q=alloca [16777216 i8 i8 128 - x=alloca i8 - - ret - . .
    record {
      entries =
          (5, 1) ∷ (10, 0) ∷ (6, 3) ∷ (12, 0) ∷ (0, 0) ∷ (7, 0) ∷ (73, 4) ∷ (13, 16777216) ∷ (11, 8) ∷ (11, 8) ∷ (32, 128) ∷ (21, 0) ∷ (73, 5) ∷ (11, 8)
          ∷ (21, 0) ∷ (21, 0) ∷ (90, 0) ∷ (21, 0) ∷ (0, 0) ∷ (0, 0) ∷ [];
      names =
          "e" ∷ "f" ∷ "p" ∷ "q" ∷ "x" ∷ [];
      says = Answer.refusal 7;
    } ∷
    -- two fixed places: func:f void param:p ptr . block:e q=alloca [16777216 i8 i8 128 - x=alloca { } - - ret - . .
    record {
      entries =
          (5, 1) ∷ (10, 0) ∷ (6, 3) ∷ (12, 0) ∷ (0, 0) ∷ (7, 0) ∷ (73, 4) ∷ (13, 16777216) ∷ (11, 8) ∷ (11, 8) ∷ (32, 128) ∷ (21, 0) ∷ (73, 5) ∷ (16, 0)
          ∷ (0, 0) ∷ (21, 0) ∷ (21, 0) ∷ (90, 0) ∷ (21, 0) ∷ (0, 0) ∷ (0, 0) ∷ [];
      names =
          "e" ∷ "f" ∷ "p" ∷ "q" ∷ "x" ∷ [];
      says = Answer.text (unlines (
          "# void @f(1 params)" ∷ "f:" ∷ "push_0n 3;" ∷ "thread_get 0;" ∷ "dup;" ∷ "set_local 2;" ∷ "push 2147483648;" ∷ "add_u64;" ∷ "thread_set 0;"
          ∷ "f__e:" ∷ "get_local 2;" ∷ "set_local 0;" ∷ "get_local 2;" ∷ "push 2147483648;" ∷ "add_u64;" ∷ "set_local 1;" ∷ "push 0;" ∷ "get_local 2;"
          ∷ "thread_set 0;" ∷ "ret;" ∷ "" ∷ [])) 0;
    } ∷
    -- varying place: func:f void param:p ptr . block:e x=add label %u %u alloca label i32 %u - ret - . .
    record {
      entries =
          (5, 1) ∷ (10, 0) ∷ (6, 3) ∷ (12, 0) ∷ (0, 0) ∷ (7, 0) ∷ (40, 5) ∷ (19, 0) ∷ (30, 3) ∷ (30, 3) ∷ (73, 0) ∷ (19, 0) ∷ (11, 32) ∷ (30, 3) ∷ (21, 0)
          ∷ (90, 0) ∷ (21, 0) ∷ (0, 0) ∷ (0, 0) ∷ [];
      names =
          "e" ∷ "f" ∷ "p" ∷ "u" ∷ "x" ∷ [];
      says = Answer.refusal 5;
    } ∷
    -- varying place: func:f void param:p ptr . block:e x=add label %u %u q=alloca label i32 %u - ret - . .
    record {
      entries =
          (5, 1) ∷ (10, 0) ∷ (6, 3) ∷ (12, 0) ∷ (0, 0) ∷ (7, 0) ∷ (40, 6) ∷ (19, 0) ∷ (30, 4) ∷ (30, 4) ∷ (73, 4) ∷ (19, 0) ∷ (11, 32) ∷ (30, 4) ∷ (21, 0)
          ∷ (90, 0) ∷ (21, 0) ∷ (0, 0) ∷ (0, 0) ∷ [];
      names =
          "e" ∷ "f" ∷ "p" ∷ "q" ∷ "u" ∷ "x" ∷ [];
      says = Answer.refusal 9;
    } ∷
    -- varying place: func:f void param:p ptr . block:e q=alloca { label [16777217 i8 } i32 %u - ret - . .
    record {
      entries =
          (5, 1) ∷ (10, 0) ∷ (6, 3) ∷ (12, 0) ∷ (0, 0) ∷ (7, 0) ∷ (73, 4) ∷ (16, 0) ∷ (19, 0) ∷ (13, 16777217) ∷ (11, 8) ∷ (0, 0) ∷ (11, 32) ∷ (30, 4)
          ∷ (21, 0) ∷ (90, 0) ∷ (21, 0) ∷ (0, 0) ∷ (0, 0) ∷ [];
      names =
          "e" ∷ "f" ∷ "p" ∷ "q" ∷ "u" ∷ [];
      says = Answer.refusal 6;
    } ∷
    -- varying place: func:f void param:p ptr . block:e q=alloca { [16777217 i8 label } i32 %u - ret - . .
    record {
      entries =
          (5, 1) ∷ (10, 0) ∷ (6, 3) ∷ (12, 0) ∷ (0, 0) ∷ (7, 0) ∷ (73, 4) ∷ (16, 0) ∷ (13, 16777217) ∷ (11, 8) ∷ (19, 0) ∷ (0, 0) ∷ (11, 32) ∷ (30, 4)
          ∷ (21, 0) ∷ (90, 0) ∷ (21, 0) ∷ (0, 0) ∷ (0, 0) ∷ [];
      names =
          "e" ∷ "f" ∷ "p" ∷ "q" ∷ "u" ∷ [];
      says = Answer.refusal 7;
    } ∷
    -- varying place: func:f void param:p ptr . block:e q=alloca i8 i32 %u - ret - . .
    record {
      entries =
          (5, 1) ∷ (10, 0) ∷ (6, 3) ∷ (12, 0) ∷ (0, 0) ∷ (7, 0) ∷ (73, 4) ∷ (11, 8) ∷ (11, 32) ∷ (30, 4) ∷ (21, 0) ∷ (90, 0) ∷ (21, 0) ∷ (0, 0) ∷ (0, 0) ∷ [];
      names =
          "e" ∷ "f" ∷ "p" ∷ "q" ∷ "u" ∷ [];
      says = Answer.refusal 10;
    } ∷
    -- varying place: func:f void param:p ptr . block:e q=alloca i8 i32 %p - ret - . .
    record {
      entries =
          (5, 1) ∷ (10, 0) ∷ (6, 3) ∷ (12, 0) ∷ (0, 0) ∷ (7, 0) ∷ (73, 4) ∷ (11, 8) ∷ (11, 32) ∷ (30, 2) ∷ (21, 0) ∷ (90, 0) ∷ (21, 0) ∷ (0, 0) ∷ (0, 0) ∷ [];
      names =
          "e" ∷ "f" ∷ "p" ∷ "q" ∷ [];
      says = Answer.text (unlines (
          "# void @f(1 params)" ∷ "f:" ∷ "push_0n 2;" ∷ "thread_get 0;" ∷ "dup;" ∷ "set_local 1;" ∷ "push 0;" ∷ "add_u64;" ∷ "thread_set 0;" ∷ "f__e:"
          ∷ "thread_get 0;" ∷ "push 7;" ∷ "add_u64;" ∷ "push 18446744073709551608;" ∷ "and_u64;" ∷ "dup;" ∷ "get_arg 0;" ∷ "add_u64;" ∷ "thread_set 0;"
          ∷ "set_local 0;" ∷ "push 0;" ∷ "get_local 1;" ∷ "thread_set 0;" ∷ "ret;" ∷ "" ∷ [])) 0;
    } ∷
    -- varying place, stated align: func:f void param:p ptr . block:e q=alloca label i32 %u #16 ret - . .
    record {
      entries =
          (5, 1) ∷ (10, 0) ∷ (6, 3) ∷ (12, 0) ∷ (0, 0) ∷ (7, 0) ∷ (73, 4) ∷ (19, 0) ∷ (11, 32) ∷ (30, 4) ∷ (22, 16) ∷ (90, 0) ∷ (21, 0) ∷ (0, 0) ∷ (0, 0)
          ∷ [];
      names =
          "e" ∷ "f" ∷ "p" ∷ "q" ∷ "u" ∷ [];
      says = Answer.refusal 6;
    } ∷
    -- varying place, stated align: func:f void param:p ptr . block:e q=alloca { [16777217 i8 label } i32 %u #16 ret - . .
    record {
      entries =
          (5, 1) ∷ (10, 0) ∷ (6, 3) ∷ (12, 0) ∷ (0, 0) ∷ (7, 0) ∷ (73, 4) ∷ (16, 0) ∷ (13, 16777217) ∷ (11, 8) ∷ (19, 0) ∷ (0, 0) ∷ (11, 32) ∷ (30, 4)
          ∷ (22, 16) ∷ (90, 0) ∷ (21, 0) ∷ (0, 0) ∷ (0, 0) ∷ [];
      names =
          "e" ∷ "f" ∷ "p" ∷ "q" ∷ "u" ∷ [];
      says = Answer.refusal 7;
    } ∷
    -- varying place, stated align: func:f void param:p ptr . block:e q=alloca i8 i32 %u #16 ret - . .
    record {
      entries =
          (5, 1) ∷ (10, 0) ∷ (6, 3) ∷ (12, 0) ∷ (0, 0) ∷ (7, 0) ∷ (73, 4) ∷ (11, 8) ∷ (11, 32) ∷ (30, 4) ∷ (22, 16) ∷ (90, 0) ∷ (21, 0) ∷ (0, 0) ∷ (0, 0)
          ∷ [];
      names =
          "e" ∷ "f" ∷ "p" ∷ "q" ∷ "u" ∷ [];
      says = Answer.refusal 10;
    } ∷
    -- varying place, stated align: func:f void param:p ptr . block:e q=alloca i8 i32 %p #16 ret - . .
    record {
      entries =
          (5, 1) ∷ (10, 0) ∷ (6, 3) ∷ (12, 0) ∷ (0, 0) ∷ (7, 0) ∷ (73, 4) ∷ (11, 8) ∷ (11, 32) ∷ (30, 2) ∷ (22, 16) ∷ (90, 0) ∷ (21, 0) ∷ (0, 0) ∷ (0, 0)
          ∷ [];
      names =
          "e" ∷ "f" ∷ "p" ∷ "q" ∷ [];
      says = Answer.text (unlines (
          "# void @f(1 params)" ∷ "f:" ∷ "push_0n 2;" ∷ "thread_get 0;" ∷ "dup;" ∷ "set_local 1;" ∷ "push 0;" ∷ "add_u64;" ∷ "thread_set 0;" ∷ "f__e:"
          ∷ "thread_get 0;" ∷ "push 15;" ∷ "add_u64;" ∷ "push 18446744073709551600;" ∷ "and_u64;" ∷ "dup;" ∷ "get_arg 0;" ∷ "add_u64;" ∷ "thread_set 0;"
          ∷ "set_local 0;" ∷ "push 0;" ∷ "get_local 1;" ∷ "thread_set 0;" ∷ "ret;" ∷ "" ∷ [])) 0;
    } ∷
    -- atomic load: func:f void param:p ptr . block:e atomicload { label [16777217 i8 } %u ret - . .
    record {
      entries =
          (5, 1) ∷ (10, 0) ∷ (6, 3) ∷ (12, 0) ∷ (0, 0) ∷ (7, 0) ∷ (78, 0) ∷ (16, 0) ∷ (19, 0) ∷ (13, 16777217) ∷ (11, 8) ∷ (0, 0) ∷ (30, 3) ∷ (90, 0)
          ∷ (21, 0) ∷ (0, 0) ∷ (0, 0) ∷ [];
      names =
          "e" ∷ "f" ∷ "p" ∷ "u" ∷ [];
      says = Answer.refusal 6;
    } ∷
    -- atomic load: func:f void param:p ptr . block:e atomicload { [16777217 i8 label } %u ret - . .
    record {
      entries =
          (5, 1) ∷ (10, 0) ∷ (6, 3) ∷ (12, 0) ∷ (0, 0) ∷ (7, 0) ∷ (78, 0) ∷ (16, 0) ∷ (13, 16777217) ∷ (11, 8) ∷ (19, 0) ∷ (0, 0) ∷ (30, 3) ∷ (90, 0)
          ∷ (21, 0) ∷ (0, 0) ∷ (0, 0) ∷ [];
      names =
          "e" ∷ "f" ∷ "p" ∷ "u" ∷ [];
      says = Answer.refusal 7;
    } ∷
    -- atomic load: func:f void param:p ptr . block:e atomicload i32 %u ret - . .
    record {
      entries =
          (5, 1) ∷ (10, 0) ∷ (6, 3) ∷ (12, 0) ∷ (0, 0) ∷ (7, 0) ∷ (78, 0) ∷ (11, 32) ∷ (30, 3) ∷ (90, 0) ∷ (21, 0) ∷ (0, 0) ∷ (0, 0) ∷ [];
      names =
          "e" ∷ "f" ∷ "p" ∷ "u" ∷ [];
      says = Answer.refusal 12;
    } ∷
    -- atomic load: func:f void param:p ptr . block:e atomicload { i64 } %u ret - . .
    record {
      entries =
          (5, 1) ∷ (10, 0) ∷ (6, 3) ∷ (12, 0) ∷ (0, 0) ∷ (7, 0) ∷ (78, 0) ∷ (16, 0) ∷ (11, 64) ∷ (0, 0) ∷ (30, 3) ∷ (90, 0) ∷ (21, 0) ∷ (0, 0) ∷ (0, 0) ∷ [];
      names =
          "e" ∷ "f" ∷ "p" ∷ "u" ∷ [];
      says = Answer.refusal 10;
    } ∷
    -- atomic load: func:f void param:p ptr . block:e atomicload { i64 } %p ret - . .
    record {
      entries =
          (5, 1) ∷ (10, 0) ∷ (6, 3) ∷ (12, 0) ∷ (0, 0) ∷ (7, 0) ∷ (78, 0) ∷ (16, 0) ∷ (11, 64) ∷ (0, 0) ∷ (30, 2) ∷ (90, 0) ∷ (21, 0) ∷ (0, 0) ∷ (0, 0) ∷ [];
      names =
          "e" ∷ "f" ∷ "p" ∷ [];
      says = Answer.refusal 5;
    } ∷
    -- atomic load: func:f void param:p ptr . block:e q=atomicload { i64 } %p ret - . .
    record {
      entries =
          (5, 1) ∷ (10, 0) ∷ (6, 3) ∷ (12, 0) ∷ (0, 0) ∷ (7, 0) ∷ (78, 4) ∷ (16, 0) ∷ (11, 64) ∷ (0, 0) ∷ (30, 2) ∷ (90, 0) ∷ (21, 0) ∷ (0, 0) ∷ (0, 0) ∷ [];
      names =
          "e" ∷ "f" ∷ "p" ∷ "q" ∷ [];
      says = Answer.text (unlines (
          "# void @f(1 params)" ∷ "f:" ∷ "push_0n 1;" ∷ "f__e:" ∷ "get_arg 0;" ∷ "atomic_load_u64;" ∷ "set_local 0;" ∷ "push 0;" ∷ "ret;" ∷ "" ∷ [])) 0;
    } ∷
    -- atomic store: func:f void param:p ptr . block:e atomicstore { label [16777217 i8 } %u %u ret - . .
    record {
      entries =
          (5, 1) ∷ (10, 0) ∷ (6, 3) ∷ (12, 0) ∷ (0, 0) ∷ (7, 0) ∷ (79, 0) ∷ (16, 0) ∷ (19, 0) ∷ (13, 16777217) ∷ (11, 8) ∷ (0, 0) ∷ (30, 3) ∷ (30, 3)
          ∷ (90, 0) ∷ (21, 0) ∷ (0, 0) ∷ (0, 0) ∷ [];
      names =
          "e" ∷ "f" ∷ "p" ∷ "u" ∷ [];
      says = Answer.refusal 6;
    } ∷
    -- atomic store: func:f void param:p ptr . block:e atomicstore { [16777217 i8 label } %u %u ret - . .
    record {
      entries =
          (5, 1) ∷ (10, 0) ∷ (6, 3) ∷ (12, 0) ∷ (0, 0) ∷ (7, 0) ∷ (79, 0) ∷ (16, 0) ∷ (13, 16777217) ∷ (11, 8) ∷ (19, 0) ∷ (0, 0) ∷ (30, 3) ∷ (30, 3)
          ∷ (90, 0) ∷ (21, 0) ∷ (0, 0) ∷ (0, 0) ∷ [];
      names =
          "e" ∷ "f" ∷ "p" ∷ "u" ∷ [];
      says = Answer.refusal 7;
    } ∷
    -- atomic store: func:f void param:p ptr . block:e atomicstore { } %u %u ret - . .
    record {
      entries =
          (5, 1) ∷ (10, 0) ∷ (6, 3) ∷ (12, 0) ∷ (0, 0) ∷ (7, 0) ∷ (79, 0) ∷ (16, 0) ∷ (0, 0) ∷ (30, 3) ∷ (30, 3) ∷ (90, 0) ∷ (21, 0) ∷ (0, 0) ∷ (0, 0) ∷ [];
      names =
          "e" ∷ "f" ∷ "p" ∷ "u" ∷ [];
      says = Answer.refusal 12;
    } ∷
    -- atomic store: func:f void param:p ptr . block:e atomicstore [8 i8 %u %u ret - . .
    record {
      entries =
          (5, 1) ∷ (10, 0) ∷ (6, 3) ∷ (12, 0) ∷ (0, 0) ∷ (7, 0) ∷ (79, 0) ∷ (13, 8) ∷ (11, 8) ∷ (30, 3) ∷ (30, 3) ∷ (90, 0) ∷ (21, 0) ∷ (0, 0) ∷ (0, 0) ∷ [];
      names =
          "e" ∷ "f" ∷ "p" ∷ "u" ∷ [];
      says = Answer.refusal 10;
    } ∷
    -- atomic store: func:f void param:p ptr . block:e atomicstore [8 i8 %u %p ret - . .
    record {
      entries =
          (5, 1) ∷ (10, 0) ∷ (6, 3) ∷ (12, 0) ∷ (0, 0) ∷ (7, 0) ∷ (79, 0) ∷ (13, 8) ∷ (11, 8) ∷ (30, 3) ∷ (30, 2) ∷ (90, 0) ∷ (21, 0) ∷ (0, 0) ∷ (0, 0) ∷ [];
      names =
          "e" ∷ "f" ∷ "p" ∷ "u" ∷ [];
      says = Answer.refusal 10;
    } ∷
    -- atomic store: func:f void param:p ptr . block:e atomicstore [8 i8 -1 %p ret - . .
    record {
      entries =
          (5, 1) ∷ (10, 0) ∷ (6, 3) ∷ (12, 0) ∷ (0, 0) ∷ (7, 0) ∷ (79, 0) ∷ (13, 8) ∷ (11, 8) ∷ (32, 18446744073709551615) ∷ (30, 2) ∷ (90, 0) ∷ (21, 0)
          ∷ (0, 0) ∷ (0, 0) ∷ [];
      names =
          "e" ∷ "f" ∷ "p" ∷ [];
      says = Answer.text (unlines (
          "# void @f(1 params)" ∷ "f:" ∷ "f__e:" ∷ "get_arg 0;" ∷ "push 18446744073709551615;" ∷ "atomic_store_u64;" ∷ "push 0;" ∷ "ret;" ∷ "" ∷ [])) 0;
    } ∷
    -- cmpxchg: func:f void param:p ptr . block:e cmpxchg { label [16777217 i8 } %u %u %u ret - . .
    record {
      entries =
          (5, 1) ∷ (10, 0) ∷ (6, 3) ∷ (12, 0) ∷ (0, 0) ∷ (7, 0) ∷ (80, 0) ∷ (16, 0) ∷ (19, 0) ∷ (13, 16777217) ∷ (11, 8) ∷ (0, 0) ∷ (30, 3) ∷ (30, 3)
          ∷ (30, 3) ∷ (90, 0) ∷ (21, 0) ∷ (0, 0) ∷ (0, 0) ∷ [];
      names =
          "e" ∷ "f" ∷ "p" ∷ "u" ∷ [];
      says = Answer.refusal 6;
    } ∷
    -- cmpxchg: func:f void param:p ptr . block:e cmpxchg { [16777217 i8 label } %u %u %u ret - . .
    record {
      entries =
          (5, 1) ∷ (10, 0) ∷ (6, 3) ∷ (12, 0) ∷ (0, 0) ∷ (7, 0) ∷ (80, 0) ∷ (16, 0) ∷ (13, 16777217) ∷ (11, 8) ∷ (19, 0) ∷ (0, 0) ∷ (30, 3) ∷ (30, 3)
          ∷ (30, 3) ∷ (90, 0) ∷ (21, 0) ∷ (0, 0) ∷ (0, 0) ∷ [];
      names =
          "e" ∷ "f" ∷ "p" ∷ "u" ∷ [];
      says = Answer.refusal 7;
    } ∷
    -- cmpxchg: func:f void param:p ptr . block:e cmpxchg i16 %u %u %u ret - . .
    record {
      entries =
          (5, 1) ∷ (10, 0) ∷ (6, 3) ∷ (12, 0) ∷ (0, 0) ∷ (7, 0) ∷ (80, 0) ∷ (11, 16) ∷ (30, 3) ∷ (30, 3) ∷ (30, 3) ∷ (90, 0) ∷ (21, 0) ∷ (0, 0) ∷ (0, 0) ∷ [];
      names =
          "e" ∷ "f" ∷ "p" ∷ "u" ∷ [];
      says = Answer.refusal 12;
    } ∷
    -- cmpxchg: func:f void param:p ptr . block:e cmpxchg i64 %u %u %u ret - . .
    record {
      entries =
          (5, 1) ∷ (10, 0) ∷ (6, 3) ∷ (12, 0) ∷ (0, 0) ∷ (7, 0) ∷ (80, 0) ∷ (11, 64) ∷ (30, 3) ∷ (30, 3) ∷ (30, 3) ∷ (90, 0) ∷ (21, 0) ∷ (0, 0) ∷ (0, 0) ∷ [];
      names =
          "e" ∷ "f" ∷ "p" ∷ "u" ∷ [];
      says = Answer.refusal 5;
    } ∷
    -- cmpxchg: func:f void param:p ptr . block:e q=cmpxchg i64 %u %u %u ret - . .
    record {
      entries =
          (5, 1) ∷ (10, 0) ∷ (6, 3) ∷ (12, 0) ∷ (0, 0) ∷ (7, 0) ∷ (80, 4) ∷ (11, 64) ∷ (30, 4) ∷ (30, 4) ∷ (30, 4) ∷ (90, 0) ∷ (21, 0) ∷ (0, 0) ∷ (0, 0) ∷ [];
      names =
          "e" ∷ "f" ∷ "p" ∷ "q" ∷ "u" ∷ [];
      says = Answer.refusal 10;
    } ∷
    -- cmpxchg: func:f void param:p ptr . block:e q=cmpxchg i64 %p %u %u ret - . .
    record {
      entries =
          (5, 1) ∷ (10, 0) ∷ (6, 3) ∷ (12, 0) ∷ (0, 0) ∷ (7, 0) ∷ (80, 4) ∷ (11, 64) ∷ (30, 2) ∷ (30, 4) ∷ (30, 4) ∷ (90, 0) ∷ (21, 0) ∷ (0, 0) ∷ (0, 0) ∷ [];
      names =
          "e" ∷ "f" ∷ "p" ∷ "q" ∷ "u" ∷ [];
      says = Answer.refusal 10;
    } ∷
    -- cmpxchg: func:f void param:p ptr . block:e q=cmpxchg i64 %p 1 %u ret - . .
    record {
      entries =
          (5, 1) ∷ (10, 0) ∷ (6, 3) ∷ (12, 0) ∷ (0, 0) ∷ (7, 0) ∷ (80, 4) ∷ (11, 64) ∷ (30, 2) ∷ (32, 1) ∷ (30, 4) ∷ (90, 0) ∷ (21, 0) ∷ (0, 0) ∷ (0, 0) ∷ [];
      names =
          "e" ∷ "f" ∷ "p" ∷ "q" ∷ "u" ∷ [];
      says = Answer.refusal 10;
    } ∷
    -- cmpxchg: func:f void param:p ptr . block:e q=cmpxchg i64 %p 1 2 ret - . .
    record {
      entries =
          (5, 1) ∷ (10, 0) ∷ (6, 3) ∷ (12, 0) ∷ (0, 0) ∷ (7, 0) ∷ (80, 4) ∷ (11, 64) ∷ (30, 2) ∷ (32, 1) ∷ (32, 2) ∷ (90, 0) ∷ (21, 0) ∷ (0, 0) ∷ (0, 0) ∷ [];
      names =
          "e" ∷ "f" ∷ "p" ∷ "q" ∷ [];
      says = Answer.text (unlines (
          "# void @f(1 params)" ∷ "f:" ∷ "push_0n 2;" ∷ "f__e:" ∷ "get_arg 0;" ∷ "push 1;" ∷ "push 2;" ∷ "atomic_cas_u64;" ∷ "dup;" ∷ "set_local 0;"
          ∷ "push 1;" ∷ "eq_u64;" ∷ "set_local 1;" ∷ "push 0;" ∷ "ret;" ∷ "" ∷ [])) 0;
    } ∷
    -- extractvalue: func:f void param:p ptr . block:e extractvalue @p #2 ret - . .
    record {
      entries =
          (5, 1) ∷ (10, 0) ∷ (6, 3) ∷ (12, 0) ∷ (0, 0) ∷ (7, 0) ∷ (81, 0) ∷ (31, 2) ∷ (22, 2) ∷ (90, 0) ∷ (21, 0) ∷ (0, 0) ∷ (0, 0) ∷ [];
      names =
          "e" ∷ "f" ∷ "p" ∷ [];
      says = Answer.refusal 16;
    } ∷
    -- extractvalue: func:f void param:p ptr . block:e extractvalue %u #2 ret - . .
    record {
      entries =
          (5, 1) ∷ (10, 0) ∷ (6, 3) ∷ (12, 0) ∷ (0, 0) ∷ (7, 0) ∷ (81, 0) ∷ (30, 3) ∷ (22, 2) ∷ (90, 0) ∷ (21, 0) ∷ (0, 0) ∷ (0, 0) ∷ [];
      names =
          "e" ∷ "f" ∷ "p" ∷ "u" ∷ [];
      says = Answer.refusal 16;
    } ∷
    -- extractvalue: func:f void param:p ptr . block:e extractvalue %p #2 ret - . .
    record {
      entries =
          (5, 1) ∷ (10, 0) ∷ (6, 3) ∷ (12, 0) ∷ (0, 0) ∷ (7, 0) ∷ (81, 0) ∷ (30, 2) ∷ (22, 2) ∷ (90, 0) ∷ (21, 0) ∷ (0, 0) ∷ (0, 0) ∷ [];
      names =
          "e" ∷ "f" ∷ "p" ∷ [];
      says = Answer.refusal 16;
    } ∷
    -- extractvalue: func:f void param:p ptr . block:e q=fence extractvalue %q #2 ret - . .
    record {
      entries =
          (5, 1) ∷ (10, 0) ∷ (6, 3) ∷ (12, 0) ∷ (0, 0) ∷ (7, 0) ∷ (82, 4) ∷ (81, 0) ∷ (30, 3) ∷ (22, 2) ∷ (90, 0) ∷ (21, 0) ∷ (0, 0) ∷ (0, 0) ∷ [];
      names =
          "e" ∷ "f" ∷ "p" ∷ "q" ∷ [];
      says = Answer.refusal 16;
    } ∷
    -- extractvalue: func:f void param:p ptr . block:e q=fence extractvalue %q #1 ret - . .
    record {
      entries =
          (5, 1) ∷ (10, 0) ∷ (6, 3) ∷ (12, 0) ∷ (0, 0) ∷ (7, 0) ∷ (82, 4) ∷ (81, 0) ∷ (30, 3) ∷ (22, 1) ∷ (90, 0) ∷ (21, 0) ∷ (0, 0) ∷ (0, 0) ∷ [];
      names =
          "e" ∷ "f" ∷ "p" ∷ "q" ∷ [];
      says = Answer.refusal 5;
    } ∷
    -- extractvalue: func:f void param:p ptr . block:e q=fence x=extractvalue %q #1 ret - . .
    record {
      entries =
          (5, 1) ∷ (10, 0) ∷ (6, 3) ∷ (12, 0) ∷ (0, 0) ∷ (7, 0) ∷ (82, 4) ∷ (81, 5) ∷ (30, 3) ∷ (22, 1) ∷ (90, 0) ∷ (21, 0) ∷ (0, 0) ∷ (0, 0) ∷ [];
      names =
          "e" ∷ "f" ∷ "p" ∷ "q" ∷ "x" ∷ [];
      says = Answer.text (unlines (
          "# void @f(1 params)" ∷ "f:" ∷ "push_0n 2;" ∷ "f__e:" ∷ "get_local 1;" ∷ "set_local 1;" ∷ "push 0;" ∷ "ret;" ∷ "" ∷ [])) 0;
    } ∷
    []

pub chains_hold : map answers chains ≡ map says_of chains
unfolding open_sheet chains
chains_hold = refl
