-- "The first fault `Codegen::gen_function` meets in its own statement order", statement by statement. A chain is one statement
-- with every fault that it can have; each row repairs the fault that the row before was refused for, so a row shows that its
-- refusal comes before all those that follow. The last row of a chain has no fault. With the answers of the published Rust;
-- written by `compare written`, in whose notation each book stands over its row.
use Rattle.std.specs.Prelude.{◌≡◌, refl, List, [], ◌∷◌, map}
use Rattle.assembly.specs.Cases.{unlines}
use Rattle.lowering.specs.Sheet.{Sheet, Answer, answers, says_of, open_sheet}

unfoldable pub chains : List Sheet
chains =
    -- getelementptr: func:f void param:p ptr . block:e getelementptr { label [16777217 i8 } %u label %u label %u . ret - . .
    record {
      entries =
          (5, 1) ∷ (10, 0) ∷ (6, 3) ∷ (12, 0) ∷ (0, 0) ∷ (7, 0) ∷ (74, 0) ∷ (16, 0) ∷ (19, 0) ∷ (13, 16777217) ∷ (11, 8) ∷ (0, 0) ∷ (30, 3) ∷ (19, 0)
          ∷ (30, 3) ∷ (19, 0) ∷ (30, 3) ∷ (0, 0) ∷ (90, 0) ∷ (21, 0) ∷ (0, 0) ∷ (0, 0) ∷ [];
      names =
          "e" ∷ "f" ∷ "p" ∷ "u" ∷ [];
      says = Answer.refusal 6;
    } ∷
    -- getelementptr: func:f void param:p ptr . block:e getelementptr { [16777217 i8 label } %u label %u label %u . ret - . .
    record {
      entries =
          (5, 1) ∷ (10, 0) ∷ (6, 3) ∷ (12, 0) ∷ (0, 0) ∷ (7, 0) ∷ (74, 0) ∷ (16, 0) ∷ (13, 16777217) ∷ (11, 8) ∷ (19, 0) ∷ (0, 0) ∷ (30, 3) ∷ (19, 0)
          ∷ (30, 3) ∷ (19, 0) ∷ (30, 3) ∷ (0, 0) ∷ (90, 0) ∷ (21, 0) ∷ (0, 0) ∷ (0, 0) ∷ [];
      names =
          "e" ∷ "f" ∷ "p" ∷ "u" ∷ [];
      says = Answer.refusal 7;
    } ∷
    -- getelementptr: func:f void param:p ptr . block:e getelementptr i32 %u label %u i32 %u . ret - . .
    record {
      entries =
          (5, 1) ∷ (10, 0) ∷ (6, 3) ∷ (12, 0) ∷ (0, 0) ∷ (7, 0) ∷ (74, 0) ∷ (11, 32) ∷ (30, 3) ∷ (19, 0) ∷ (30, 3) ∷ (11, 32) ∷ (30, 3) ∷ (0, 0) ∷ (90, 0)
          ∷ (21, 0) ∷ (0, 0) ∷ (0, 0) ∷ [];
      names =
          "e" ∷ "f" ∷ "p" ∷ "u" ∷ [];
      says = Answer.refusal 9;
    } ∷
    -- getelementptr: func:f void param:p ptr . block:e getelementptr i32 %u i32 %u label %u . ret - . .
    record {
      entries =
          (5, 1) ∷ (10, 0) ∷ (6, 3) ∷ (12, 0) ∷ (0, 0) ∷ (7, 0) ∷ (74, 0) ∷ (11, 32) ∷ (30, 3) ∷ (11, 32) ∷ (30, 3) ∷ (19, 0) ∷ (30, 3) ∷ (0, 0) ∷ (90, 0)
          ∷ (21, 0) ∷ (0, 0) ∷ (0, 0) ∷ [];
      names =
          "e" ∷ "f" ∷ "p" ∷ "u" ∷ [];
      says = Answer.refusal 14;
    } ∷
    -- getelementptr: func:f void param:p ptr . block:e getelementptr i32 %u i32 %u . ret - . .
    record {
      entries =
          (5, 1) ∷ (10, 0) ∷ (6, 3) ∷ (12, 0) ∷ (0, 0) ∷ (7, 0) ∷ (74, 0) ∷ (11, 32) ∷ (30, 3) ∷ (11, 32) ∷ (30, 3) ∷ (0, 0) ∷ (90, 0) ∷ (21, 0) ∷ (0, 0)
          ∷ (0, 0) ∷ [];
      names =
          "e" ∷ "f" ∷ "p" ∷ "u" ∷ [];
      says = Answer.refusal 10;
    } ∷
    -- getelementptr: func:f void param:p ptr . block:e getelementptr i32 %p i32 %u . ret - . .
    record {
      entries =
          (5, 1) ∷ (10, 0) ∷ (6, 3) ∷ (12, 0) ∷ (0, 0) ∷ (7, 0) ∷ (74, 0) ∷ (11, 32) ∷ (30, 2) ∷ (11, 32) ∷ (30, 3) ∷ (0, 0) ∷ (90, 0) ∷ (21, 0) ∷ (0, 0)
          ∷ (0, 0) ∷ [];
      names =
          "e" ∷ "f" ∷ "p" ∷ "u" ∷ [];
      says = Answer.refusal 10;
    } ∷
    -- getelementptr: func:f void param:p ptr . block:e getelementptr i32 %p i32 0 . ret - . .
    record {
      entries =
          (5, 1) ∷ (10, 0) ∷ (6, 3) ∷ (12, 0) ∷ (0, 0) ∷ (7, 0) ∷ (74, 0) ∷ (11, 32) ∷ (30, 2) ∷ (11, 32) ∷ (32, 0) ∷ (0, 0) ∷ (90, 0) ∷ (21, 0) ∷ (0, 0)
          ∷ (0, 0) ∷ [];
      names =
          "e" ∷ "f" ∷ "p" ∷ [];
      says = Answer.refusal 5;
    } ∷
    -- getelementptr: func:f void param:p ptr . block:e q=getelementptr i32 %p i32 0 . ret - . .
    record {
      entries =
          (5, 1) ∷ (10, 0) ∷ (6, 3) ∷ (12, 0) ∷ (0, 0) ∷ (7, 0) ∷ (74, 4) ∷ (11, 32) ∷ (30, 2) ∷ (11, 32) ∷ (32, 0) ∷ (0, 0) ∷ (90, 0) ∷ (21, 0) ∷ (0, 0)
          ∷ (0, 0) ∷ [];
      names =
          "e" ∷ "f" ∷ "p" ∷ "q" ∷ [];
      says = Answer.text (unlines (
          "# void @f(1 params)" ∷ "f:" ∷ "push_0n 1;" ∷ "f__e:" ∷ "get_arg 0;" ∷ "set_local 0;" ∷ "push 0;" ∷ "ret;" ∷ "" ∷ [])) 0;
    } ∷
    -- getelementptr without index: func:f void param:p ptr . block:e getelementptr label %u . ret - . .
    record {
      entries =
          (5, 1) ∷ (10, 0) ∷ (6, 3) ∷ (12, 0) ∷ (0, 0) ∷ (7, 0) ∷ (74, 0) ∷ (19, 0) ∷ (30, 3) ∷ (0, 0) ∷ (90, 0) ∷ (21, 0) ∷ (0, 0) ∷ (0, 0) ∷ [];
      names =
          "e" ∷ "f" ∷ "p" ∷ "u" ∷ [];
      says = Answer.refusal 10;
    } ∷
    -- getelementptr without index: func:f void param:p ptr . block:e getelementptr label %p . ret - . .
    record {
      entries =
          (5, 1) ∷ (10, 0) ∷ (6, 3) ∷ (12, 0) ∷ (0, 0) ∷ (7, 0) ∷ (74, 0) ∷ (19, 0) ∷ (30, 2) ∷ (0, 0) ∷ (90, 0) ∷ (21, 0) ∷ (0, 0) ∷ (0, 0) ∷ [];
      names =
          "e" ∷ "f" ∷ "p" ∷ [];
      says = Answer.refusal 5;
    } ∷
    -- getelementptr without index: func:f void param:p ptr . block:e q=getelementptr label %p . ret - . .
    record {
      entries =
          (5, 1) ∷ (10, 0) ∷ (6, 3) ∷ (12, 0) ∷ (0, 0) ∷ (7, 0) ∷ (74, 4) ∷ (19, 0) ∷ (30, 2) ∷ (0, 0) ∷ (90, 0) ∷ (21, 0) ∷ (0, 0) ∷ (0, 0) ∷ [];
      names =
          "e" ∷ "f" ∷ "p" ∷ "q" ∷ [];
      says = Answer.text (unlines (
          "# void @f(1 params)" ∷ "f:" ∷ "push_0n 1;" ∷ "f__e:" ∷ "get_arg 0;" ∷ "set_local 0;" ∷ "push 0;" ∷ "ret;" ∷ "" ∷ [])) 0;
    } ∷
    -- getelementptr into an array: func:f void param:p ptr . block:e getelementptr [2 i8 %u i8 0 label %u i8 0 . ret - . .
    record {
      entries =
          (5, 1) ∷ (10, 0) ∷ (6, 3) ∷ (12, 0) ∷ (0, 0) ∷ (7, 0) ∷ (74, 0) ∷ (13, 2) ∷ (11, 8) ∷ (30, 3) ∷ (11, 8) ∷ (32, 0) ∷ (19, 0) ∷ (30, 3) ∷ (11, 8)
          ∷ (32, 0) ∷ (0, 0) ∷ (90, 0) ∷ (21, 0) ∷ (0, 0) ∷ (0, 0) ∷ [];
      names =
          "e" ∷ "f" ∷ "p" ∷ "u" ∷ [];
      says = Answer.refusal 9;
    } ∷
    -- getelementptr into an array: func:f void param:p ptr . block:e getelementptr [2 i8 %u i8 0 i8 %u label %u . ret - . .
    record {
      entries =
          (5, 1) ∷ (10, 0) ∷ (6, 3) ∷ (12, 0) ∷ (0, 0) ∷ (7, 0) ∷ (74, 0) ∷ (13, 2) ∷ (11, 8) ∷ (30, 3) ∷ (11, 8) ∷ (32, 0) ∷ (11, 8) ∷ (30, 3) ∷ (19, 0)
          ∷ (30, 3) ∷ (0, 0) ∷ (90, 0) ∷ (21, 0) ∷ (0, 0) ∷ (0, 0) ∷ [];
      names =
          "e" ∷ "f" ∷ "p" ∷ "u" ∷ [];
      says = Answer.refusal 14;
    } ∷
    -- getelementptr into an array: func:f void param:p ptr . block:e getelementptr [2 i8 %u i8 0 i8 %u . ret - . .
    record {
      entries =
          (5, 1) ∷ (10, 0) ∷ (6, 3) ∷ (12, 0) ∷ (0, 0) ∷ (7, 0) ∷ (74, 0) ∷ (13, 2) ∷ (11, 8) ∷ (30, 3) ∷ (11, 8) ∷ (32, 0) ∷ (11, 8) ∷ (30, 3) ∷ (0, 0)
          ∷ (90, 0) ∷ (21, 0) ∷ (0, 0) ∷ (0, 0) ∷ [];
      names =
          "e" ∷ "f" ∷ "p" ∷ "u" ∷ [];
      says = Answer.refusal 10;
    } ∷
    -- getelementptr into an array: func:f void param:p ptr . block:e getelementptr [2 i8 %p i8 0 i8 %u . ret - . .
    record {
      entries =
          (5, 1) ∷ (10, 0) ∷ (6, 3) ∷ (12, 0) ∷ (0, 0) ∷ (7, 0) ∷ (74, 0) ∷ (13, 2) ∷ (11, 8) ∷ (30, 2) ∷ (11, 8) ∷ (32, 0) ∷ (11, 8) ∷ (30, 3) ∷ (0, 0)
          ∷ (90, 0) ∷ (21, 0) ∷ (0, 0) ∷ (0, 0) ∷ [];
      names =
          "e" ∷ "f" ∷ "p" ∷ "u" ∷ [];
      says = Answer.refusal 10;
    } ∷
    -- getelementptr into an array: func:f void param:p ptr . block:e getelementptr [2 i8 %p i8 0 i8 1 . ret - . .
    record {
      entries =
          (5, 1) ∷ (10, 0) ∷ (6, 3) ∷ (12, 0) ∷ (0, 0) ∷ (7, 0) ∷ (74, 0) ∷ (13, 2) ∷ (11, 8) ∷ (30, 2) ∷ (11, 8) ∷ (32, 0) ∷ (11, 8) ∷ (32, 1) ∷ (0, 0)
          ∷ (90, 0) ∷ (21, 0) ∷ (0, 0) ∷ (0, 0) ∷ [];
      names =
          "e" ∷ "f" ∷ "p" ∷ [];
      says = Answer.refusal 5;
    } ∷
    -- getelementptr into an array: func:f void param:p ptr . block:e q=getelementptr [2 i8 %p i8 0 i8 1 . ret - . .
    record {
      entries =
          (5, 1) ∷ (10, 0) ∷ (6, 3) ∷ (12, 0) ∷ (0, 0) ∷ (7, 0) ∷ (74, 4) ∷ (13, 2) ∷ (11, 8) ∷ (30, 2) ∷ (11, 8) ∷ (32, 0) ∷ (11, 8) ∷ (32, 1) ∷ (0, 0)
          ∷ (90, 0) ∷ (21, 0) ∷ (0, 0) ∷ (0, 0) ∷ [];
      names =
          "e" ∷ "f" ∷ "p" ∷ "q" ∷ [];
      says = Answer.text (unlines (
          "# void @f(1 params)" ∷ "f:" ∷ "push_0n 1;" ∷ "f__e:" ∷ "get_arg 0;" ∷ "push 1;" ∷ "add_u64;" ∷ "set_local 0;" ∷ "push 0;" ∷ "ret;" ∷ "" ∷ [])) 0;
    } ∷
    -- getelementptr into a struct: struct:s { i8 i32 } func:f void param:p ptr . block:e getelementptr %%s %u i8 %u i8 %u . ret - . .
    record {
      entries =
          (3, 3) ∷ (16, 0) ∷ (11, 8) ∷ (11, 32) ∷ (0, 0) ∷ (5, 1) ∷ (10, 0) ∷ (6, 3) ∷ (12, 0) ∷ (0, 0) ∷ (7, 0) ∷ (74, 0) ∷ (15, 3) ∷ (30, 4) ∷ (11, 8)
          ∷ (30, 4) ∷ (11, 8) ∷ (30, 4) ∷ (0, 0) ∷ (90, 0) ∷ (21, 0) ∷ (0, 0) ∷ (0, 0) ∷ [];
      names =
          "e" ∷ "f" ∷ "p" ∷ "s" ∷ "u" ∷ [];
      says = Answer.refusal 14;
    } ∷
    -- getelementptr into a struct: struct:s { i8 i32 } func:f void param:p ptr . block:e getelementptr %%s %u i8 %u i8 undef . ret - . .
    record {
      entries =
          (3, 3) ∷ (16, 0) ∷ (11, 8) ∷ (11, 32) ∷ (0, 0) ∷ (5, 1) ∷ (10, 0) ∷ (6, 3) ∷ (12, 0) ∷ (0, 0) ∷ (7, 0) ∷ (74, 0) ∷ (15, 3) ∷ (30, 4) ∷ (11, 8)
          ∷ (30, 4) ∷ (11, 8) ∷ (34, 0) ∷ (0, 0) ∷ (90, 0) ∷ (21, 0) ∷ (0, 0) ∷ (0, 0) ∷ [];
      names =
          "e" ∷ "f" ∷ "p" ∷ "s" ∷ "u" ∷ [];
      says = Answer.refusal 14;
    } ∷
    -- getelementptr into a struct: struct:s { i8 i32 } func:f void param:p ptr . block:e getelementptr %%s %u i8 %u i8 2 . ret - . .
    record {
      entries =
          (3, 3) ∷ (16, 0) ∷ (11, 8) ∷ (11, 32) ∷ (0, 0) ∷ (5, 1) ∷ (10, 0) ∷ (6, 3) ∷ (12, 0) ∷ (0, 0) ∷ (7, 0) ∷ (74, 0) ∷ (15, 3) ∷ (30, 4) ∷ (11, 8)
          ∷ (30, 4) ∷ (11, 8) ∷ (32, 2) ∷ (0, 0) ∷ (90, 0) ∷ (21, 0) ∷ (0, 0) ∷ (0, 0) ∷ [];
      names =
          "e" ∷ "f" ∷ "p" ∷ "s" ∷ "u" ∷ [];
      says = Answer.refusal 14;
    } ∷
    -- getelementptr into a struct: struct:s { i8 i32 } func:f void param:p ptr . block:e getelementptr %%s %u i8 %u i8 -1 . ret - . .
    record {
      entries =
          (3, 3) ∷ (16, 0) ∷ (11, 8) ∷ (11, 32) ∷ (0, 0) ∷ (5, 1) ∷ (10, 0) ∷ (6, 3) ∷ (12, 0) ∷ (0, 0) ∷ (7, 0) ∷ (74, 0) ∷ (15, 3) ∷ (30, 4) ∷ (11, 8)
          ∷ (30, 4) ∷ (11, 8) ∷ (32, 18446744073709551615) ∷ (0, 0) ∷ (90, 0) ∷ (21, 0) ∷ (0, 0) ∷ (0, 0) ∷ [];
      names =
          "e" ∷ "f" ∷ "p" ∷ "s" ∷ "u" ∷ [];
      says = Answer.refusal 14;
    } ∷
    -- getelementptr into a struct: struct:s { i8 i32 } func:f void param:p ptr . block:e getelementptr %%s %u i8 %u i8 1 . ret - . .
    record {
      entries =
          (3, 3) ∷ (16, 0) ∷ (11, 8) ∷ (11, 32) ∷ (0, 0) ∷ (5, 1) ∷ (10, 0) ∷ (6, 3) ∷ (12, 0) ∷ (0, 0) ∷ (7, 0) ∷ (74, 0) ∷ (15, 3) ∷ (30, 4) ∷ (11, 8)
          ∷ (30, 4) ∷ (11, 8) ∷ (32, 1) ∷ (0, 0) ∷ (90, 0) ∷ (21, 0) ∷ (0, 0) ∷ (0, 0) ∷ [];
      names =
          "e" ∷ "f" ∷ "p" ∷ "s" ∷ "u" ∷ [];
      says = Answer.refusal 10;
    } ∷
    -- getelementptr into a struct: struct:s { i8 i32 } func:f void param:p ptr . block:e getelementptr %%s %p i8 %u i8 1 . ret - . .
    record {
      entries =
          (3, 3) ∷ (16, 0) ∷ (11, 8) ∷ (11, 32) ∷ (0, 0) ∷ (5, 1) ∷ (10, 0) ∷ (6, 3) ∷ (12, 0) ∷ (0, 0) ∷ (7, 0) ∷ (74, 0) ∷ (15, 3) ∷ (30, 2) ∷ (11, 8)
          ∷ (30, 4) ∷ (11, 8) ∷ (32, 1) ∷ (0, 0) ∷ (90, 0) ∷ (21, 0) ∷ (0, 0) ∷ (0, 0) ∷ [];
      names =
          "e" ∷ "f" ∷ "p" ∷ "s" ∷ "u" ∷ [];
      says = Answer.refusal 10;
    } ∷
    -- getelementptr into a struct: struct:s { i8 i32 } func:f void param:p ptr . block:e getelementptr %%s %p i8 %p i8 1 . ret - . .
    record {
      entries =
          (3, 3) ∷ (16, 0) ∷ (11, 8) ∷ (11, 32) ∷ (0, 0) ∷ (5, 1) ∷ (10, 0) ∷ (6, 3) ∷ (12, 0) ∷ (0, 0) ∷ (7, 0) ∷ (74, 0) ∷ (15, 3) ∷ (30, 2) ∷ (11, 8)
          ∷ (30, 2) ∷ (11, 8) ∷ (32, 1) ∷ (0, 0) ∷ (90, 0) ∷ (21, 0) ∷ (0, 0) ∷ (0, 0) ∷ [];
      names =
          "e" ∷ "f" ∷ "p" ∷ "s" ∷ [];
      says = Answer.refusal 5;
    } ∷
    -- getelementptr into a struct: struct:s { i8 i32 } func:f void param:p ptr . block:e q=getelementptr %%s %p i8 %p i8 1 . ret - . .
    record {
      entries =
          (3, 4) ∷ (16, 0) ∷ (11, 8) ∷ (11, 32) ∷ (0, 0) ∷ (5, 1) ∷ (10, 0) ∷ (6, 3) ∷ (12, 0) ∷ (0, 0) ∷ (7, 0) ∷ (74, 4) ∷ (15, 4) ∷ (30, 2) ∷ (11, 8)
          ∷ (30, 2) ∷ (11, 8) ∷ (32, 1) ∷ (0, 0) ∷ (90, 0) ∷ (21, 0) ∷ (0, 0) ∷ (0, 0) ∷ [];
      names =
          "e" ∷ "f" ∷ "p" ∷ "q" ∷ "s" ∷ [];
      says = Answer.text (unlines (
          "# void @f(1 params)" ∷ "f:" ∷ "push_0n 1;" ∷ "f__e:" ∷ "get_arg 0;" ∷ "get_arg 0;" ∷ "sx_i8_i64;" ∷ "push 8;" ∷ "mul_u64;" ∷ "add_u64;"
          ∷ "push 4;" ∷ "add_u64;" ∷ "set_local 0;" ∷ "push 0;" ∷ "ret;" ∷ "" ∷ [])) 0;
    } ∷
    -- call of a global: func:f void param:p ptr . block:e call i32 @g label %u i32 %u . ret - . .
    record {
      entries =
          (5, 1) ∷ (10, 0) ∷ (6, 4) ∷ (12, 0) ∷ (0, 0) ∷ (7, 0) ∷ (76, 0) ∷ (11, 32) ∷ (31, 2) ∷ (19, 0) ∷ (30, 4) ∷ (11, 32) ∷ (30, 4) ∷ (0, 0) ∷ (90, 0)
          ∷ (21, 0) ∷ (0, 0) ∷ (0, 0) ∷ [];
      names =
          "e" ∷ "f" ∷ "g" ∷ "p" ∷ "u" ∷ [];
      says = Answer.refusal 9;
    } ∷
    -- call of a global: func:f void param:p ptr . block:e call i32 @g i32 %u label 1 . ret - . .
    record {
      entries =
          (5, 1) ∷ (10, 0) ∷ (6, 4) ∷ (12, 0) ∷ (0, 0) ∷ (7, 0) ∷ (76, 0) ∷ (11, 32) ∷ (31, 2) ∷ (11, 32) ∷ (30, 4) ∷ (19, 0) ∷ (32, 1) ∷ (0, 0) ∷ (90, 0)
          ∷ (21, 0) ∷ (0, 0) ∷ (0, 0) ∷ [];
      names =
          "e" ∷ "f" ∷ "g" ∷ "p" ∷ "u" ∷ [];
      says = Answer.refusal 10;
    } ∷
    -- call of a global: func:f void param:p ptr . block:e call i32 @g i32 1 label %u . ret - . .
    record {
      entries =
          (5, 1) ∷ (10, 0) ∷ (6, 4) ∷ (12, 0) ∷ (0, 0) ∷ (7, 0) ∷ (76, 0) ∷ (11, 32) ∷ (31, 2) ∷ (11, 32) ∷ (32, 1) ∷ (19, 0) ∷ (30, 4) ∷ (0, 0) ∷ (90, 0)
          ∷ (21, 0) ∷ (0, 0) ∷ (0, 0) ∷ [];
      names =
          "e" ∷ "f" ∷ "g" ∷ "p" ∷ "u" ∷ [];
      says = Answer.refusal 9;
    } ∷
    -- call of a global: func:f void param:p ptr . block:e call i32 @g i32 1 i8 %u . ret - . .
    record {
      entries =
          (5, 1) ∷ (10, 0) ∷ (6, 4) ∷ (12, 0) ∷ (0, 0) ∷ (7, 0) ∷ (76, 0) ∷ (11, 32) ∷ (31, 2) ∷ (11, 32) ∷ (32, 1) ∷ (11, 8) ∷ (30, 4) ∷ (0, 0) ∷ (90, 0)
          ∷ (21, 0) ∷ (0, 0) ∷ (0, 0) ∷ [];
      names =
          "e" ∷ "f" ∷ "g" ∷ "p" ∷ "u" ∷ [];
      says = Answer.refusal 10;
    } ∷
    -- call of a global: func:f void param:p ptr . block:e call i32 @g i32 1 i8 1 . ret - . .
    record {
      entries =
          (5, 1) ∷ (10, 0) ∷ (6, 4) ∷ (12, 0) ∷ (0, 0) ∷ (7, 0) ∷ (76, 0) ∷ (11, 32) ∷ (31, 2) ∷ (11, 32) ∷ (32, 1) ∷ (11, 8) ∷ (32, 1) ∷ (0, 0) ∷ (90, 0)
          ∷ (21, 0) ∷ (0, 0) ∷ (0, 0) ∷ [];
      names =
          "e" ∷ "f" ∷ "g" ∷ "p" ∷ [];
      says = Answer.refusal 15;
    } ∷
    -- call of a global: def:g func:f void param:p ptr . block:e call i32 @g i32 1 i8 1 . ret - . .
    record {
      entries =
          (1, 2) ∷ (5, 1) ∷ (10, 0) ∷ (6, 4) ∷ (12, 0) ∷ (0, 0) ∷ (7, 0) ∷ (76, 0) ∷ (11, 32) ∷ (31, 2) ∷ (11, 32) ∷ (32, 1) ∷ (11, 8) ∷ (32, 1) ∷ (0, 0)
          ∷ (90, 0) ∷ (21, 0) ∷ (0, 0) ∷ (0, 0) ∷ [];
      names =
          "e" ∷ "f" ∷ "g" ∷ "p" ∷ [];
      says = Answer.text (unlines (
          "# void @f(1 params)" ∷ "f:" ∷ "f__e:" ∷ "push 1;" ∷ "push 1;" ∷ "call g, 2;" ∷ "pop;" ∷ "push 0;" ∷ "ret;" ∷ "" ∷ [])) 0;
    } ∷
    -- call of a local: func:f void param:p ptr . block:e call i32 %u label %u . ret - . .
    record {
      entries =
          (5, 1) ∷ (10, 0) ∷ (6, 3) ∷ (12, 0) ∷ (0, 0) ∷ (7, 0) ∷ (76, 0) ∷ (11, 32) ∷ (30, 3) ∷ (19, 0) ∷ (30, 3) ∷ (0, 0) ∷ (90, 0) ∷ (21, 0) ∷ (0, 0)
          ∷ (0, 0) ∷ [];
      names =
          "e" ∷ "f" ∷ "p" ∷ "u" ∷ [];
      says = Answer.refusal 9;
    } ∷
    -- call of a local: func:f void param:p ptr . block:e call i32 %u i32 %u . ret - . .
    record {
      entries =
          (5, 1) ∷ (10, 0) ∷ (6, 3) ∷ (12, 0) ∷ (0, 0) ∷ (7, 0) ∷ (76, 0) ∷ (11, 32) ∷ (30, 3) ∷ (11, 32) ∷ (30, 3) ∷ (0, 0) ∷ (90, 0) ∷ (21, 0) ∷ (0, 0)
          ∷ (0, 0) ∷ [];
      names =
          "e" ∷ "f" ∷ "p" ∷ "u" ∷ [];
      says = Answer.refusal 10;
    } ∷
    -- call of a local: func:f void param:p ptr . block:e call i32 %u i32 1 . ret - . .
    record {
      entries =
          (5, 1) ∷ (10, 0) ∷ (6, 3) ∷ (12, 0) ∷ (0, 0) ∷ (7, 0) ∷ (76, 0) ∷ (11, 32) ∷ (30, 3) ∷ (11, 32) ∷ (32, 1) ∷ (0, 0) ∷ (90, 0) ∷ (21, 0) ∷ (0, 0)
          ∷ (0, 0) ∷ [];
      names =
          "e" ∷ "f" ∷ "p" ∷ "u" ∷ [];
      says = Answer.refusal 10;
    } ∷
    -- call of a local: func:f void param:p ptr . block:e call i32 %p i32 1 . ret - . .
    record {
      entries =
          (5, 1) ∷ (10, 0) ∷ (6, 3) ∷ (12, 0) ∷ (0, 0) ∷ (7, 0) ∷ (76, 0) ∷ (11, 32) ∷ (30, 2) ∷ (11, 32) ∷ (32, 1) ∷ (0, 0) ∷ (90, 0) ∷ (21, 0) ∷ (0, 0)
          ∷ (0, 0) ∷ [];
      names =
          "e" ∷ "f" ∷ "p" ∷ [];
      says = Answer.text (unlines (
          "# void @f(1 params)" ∷ "f:" ∷ "f__e:" ∷ "push 1;" ∷ "get_arg 0;" ∷ "call_fp 1;" ∷ "pop;" ∷ "push 0;" ∷ "ret;" ∷ "" ∷ [])) 0;
    } ∷
    -- call of null: func:f void param:p ptr . block:e call i32 null label %u . ret - . .
    record {
      entries =
          (5, 1) ∷ (10, 0) ∷ (6, 3) ∷ (12, 0) ∷ (0, 0) ∷ (7, 0) ∷ (76, 0) ∷ (11, 32) ∷ (33, 0) ∷ (19, 0) ∷ (30, 3) ∷ (0, 0) ∷ (90, 0) ∷ (21, 0) ∷ (0, 0)
          ∷ (0, 0) ∷ [];
      names =
          "e" ∷ "f" ∷ "p" ∷ "u" ∷ [];
      says = Answer.refusal 9;
    } ∷
    -- call of null: func:f void param:p ptr . block:e call i32 null i32 %u . ret - . .
    record {
      entries =
          (5, 1) ∷ (10, 0) ∷ (6, 3) ∷ (12, 0) ∷ (0, 0) ∷ (7, 0) ∷ (76, 0) ∷ (11, 32) ∷ (33, 0) ∷ (11, 32) ∷ (30, 3) ∷ (0, 0) ∷ (90, 0) ∷ (21, 0) ∷ (0, 0)
          ∷ (0, 0) ∷ [];
      names =
          "e" ∷ "f" ∷ "p" ∷ "u" ∷ [];
      says = Answer.refusal 10;
    } ∷
    -- call of null: func:f void param:p ptr . block:e call i32 null i32 1 . ret - . .
    record {
      entries =
          (5, 1) ∷ (10, 0) ∷ (6, 3) ∷ (12, 0) ∷ (0, 0) ∷ (7, 0) ∷ (76, 0) ∷ (11, 32) ∷ (33, 0) ∷ (11, 32) ∷ (32, 1) ∷ (0, 0) ∷ (90, 0) ∷ (21, 0) ∷ (0, 0)
          ∷ (0, 0) ∷ [];
      names =
          "e" ∷ "f" ∷ "p" ∷ [];
      says = Answer.refusal 15;
    } ∷
    -- syscall: func:f void param:p ptr . block:e call label @__uvm_a label %u . ret - . .
    record {
      entries =
          (5, 2) ∷ (10, 0) ∷ (6, 4) ∷ (12, 0) ∷ (0, 0) ∷ (7, 1) ∷ (76, 0) ∷ (19, 0) ∷ (31, 0) ∷ (19, 0) ∷ (30, 4) ∷ (0, 0) ∷ (90, 0) ∷ (21, 0) ∷ (0, 0)
          ∷ (0, 0) ∷ [];
      names =
          "__uvm_a" ∷ "e" ∷ "f" ∷ "p" ∷ "u" ∷ [];
      says = Answer.refusal 9;
    } ∷
    -- syscall: func:f void param:p ptr . block:e call label @__uvm_a i8 %u label 1 . ret - . .
    record {
      entries =
          (5, 2) ∷ (10, 0) ∷ (6, 4) ∷ (12, 0) ∷ (0, 0) ∷ (7, 1) ∷ (76, 0) ∷ (19, 0) ∷ (31, 0) ∷ (11, 8) ∷ (30, 4) ∷ (19, 0) ∷ (32, 1) ∷ (0, 0) ∷ (90, 0)
          ∷ (21, 0) ∷ (0, 0) ∷ (0, 0) ∷ [];
      names =
          "__uvm_a" ∷ "e" ∷ "f" ∷ "p" ∷ "u" ∷ [];
      says = Answer.refusal 10;
    } ∷
    -- syscall: func:f void param:p ptr . block:e call label @__uvm_a i8 1 label 1 . ret - . .
    record {
      entries =
          (5, 2) ∷ (10, 0) ∷ (6, 4) ∷ (12, 0) ∷ (0, 0) ∷ (7, 1) ∷ (76, 0) ∷ (19, 0) ∷ (31, 0) ∷ (11, 8) ∷ (32, 1) ∷ (19, 0) ∷ (32, 1) ∷ (0, 0) ∷ (90, 0)
          ∷ (21, 0) ∷ (0, 0) ∷ (0, 0) ∷ [];
      names =
          "__uvm_a" ∷ "e" ∷ "f" ∷ "p" ∷ [];
      says = Answer.refusal 9;
    } ∷
    -- syscall: func:f void param:p ptr . block:e call label @__uvm_a i8 1 . ret - . .
    record {
      entries =
          (5, 2) ∷ (10, 0) ∷ (6, 4) ∷ (12, 0) ∷ (0, 0) ∷ (7, 1) ∷ (76, 0) ∷ (19, 0) ∷ (31, 0) ∷ (11, 8) ∷ (32, 1) ∷ (0, 0) ∷ (90, 0) ∷ (21, 0) ∷ (0, 0)
          ∷ (0, 0) ∷ [];
      names =
          "__uvm_a" ∷ "e" ∷ "f" ∷ "p" ∷ [];
      says = Answer.text (unlines (
          "# void @f(1 params)" ∷ "f:" ∷ "f__e:" ∷ "push 1;" ∷ "syscall a;" ∷ "pop;" ∷ "push 0;" ∷ "ret;" ∷ "" ∷ [])) 0;
    } ∷
    -- memcmp: func:f void param:p ptr . block:e call label @memcmp label %u . ret - . .
    record {
      entries =
          (5, 1) ∷ (10, 0) ∷ (6, 4) ∷ (12, 0) ∷ (0, 0) ∷ (7, 0) ∷ (76, 0) ∷ (19, 0) ∷ (31, 2) ∷ (19, 0) ∷ (30, 4) ∷ (0, 0) ∷ (90, 0) ∷ (21, 0) ∷ (0, 0)
          ∷ (0, 0) ∷ [];
      names =
          "e" ∷ "f" ∷ "memcmp" ∷ "p" ∷ "u" ∷ [];
      says = Answer.refusal 9;
    } ∷
    -- memcmp: func:f void param:p ptr . block:e call label @memcmp i8 %u label 1 . ret - . .
    record {
      entries =
          (5, 1) ∷ (10, 0) ∷ (6, 4) ∷ (12, 0) ∷ (0, 0) ∷ (7, 0) ∷ (76, 0) ∷ (19, 0) ∷ (31, 2) ∷ (11, 8) ∷ (30, 4) ∷ (19, 0) ∷ (32, 1) ∷ (0, 0) ∷ (90, 0)
          ∷ (21, 0) ∷ (0, 0) ∷ (0, 0) ∷ [];
      names =
          "e" ∷ "f" ∷ "memcmp" ∷ "p" ∷ "u" ∷ [];
      says = Answer.refusal 10;
    } ∷
    -- memcmp: func:f void param:p ptr . block:e call label @memcmp i8 1 label 1 . ret - . .
    record {
      entries =
          (5, 1) ∷ (10, 0) ∷ (6, 4) ∷ (12, 0) ∷ (0, 0) ∷ (7, 0) ∷ (76, 0) ∷ (19, 0) ∷ (31, 2) ∷ (11, 8) ∷ (32, 1) ∷ (19, 0) ∷ (32, 1) ∷ (0, 0) ∷ (90, 0)
          ∷ (21, 0) ∷ (0, 0) ∷ (0, 0) ∷ [];
      names =
          "e" ∷ "f" ∷ "memcmp" ∷ "p" ∷ [];
      says = Answer.refusal 9;
    } ∷
    -- memcmp: func:f void param:p ptr . block:e call label @memcmp i8 1 . ret - . .
    record {
      entries =
          (5, 1) ∷ (10, 0) ∷ (6, 4) ∷ (12, 0) ∷ (0, 0) ∷ (7, 0) ∷ (76, 0) ∷ (19, 0) ∷ (31, 2) ∷ (11, 8) ∷ (32, 1) ∷ (0, 0) ∷ (90, 0) ∷ (21, 0) ∷ (0, 0)
          ∷ (0, 0) ∷ [];
      names =
          "e" ∷ "f" ∷ "memcmp" ∷ "p" ∷ [];
      says = Answer.text (unlines (
          "# void @f(1 params)" ∷ "f:" ∷ "f__e:" ∷ "push 1;" ∷ "syscall memcmp;" ∷ "pop;" ∷ "push 0;" ∷ "ret;" ∷ "" ∷ [])) 0;
    } ∷
    []

pub chains_hold : map answers chains ≡ map says_of chains
unfolding open_sheet chains
chains_hold = refl
