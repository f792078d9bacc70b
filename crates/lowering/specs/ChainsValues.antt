-- "The first fault `Codegen::gen_function` meets in its own statement order", statement by statement. A chain is one statement
-- with every fault that it can have; each row repairs the fault that the row before was refused for, so a row shows that its
-- refusal comes before all those that follow. The last row of a chain has no fault. With the answers of the published Rust;
-- written by `compare written`, in whose notation each book stands over its row.
use Rattle.std.specs.Prelude.{◌≡◌, refl, List, [], ◌∷◌, map}
use Rattle.assembly.specs.Cases.{unlines}
use Rattle.lowering.specs.Sheet.{Sheet, Answer, answers, says_of, open_sheet}

unfoldable pub chains : List Sheet
chains =
    -- bin: func:f void param:p ptr . block:e add %%o %u %u ret - . .
    record {
      entries =
          (5, 1) ∷ (10, 0) ∷ (6, 4) ∷ (12, 0) ∷ (0, 0) ∷ (7, 0) ∷ (40, 0) ∷ (15, 2) ∷ (30, 4) ∷ (30, 4) ∷ (90, 0) ∷ (21, 0) ∷ (0, 0) ∷ (0, 0) ∷ [];
      names =
          "e" ∷ "f" ∷ "o" ∷ "p" ∷ "u" ∷ [];
      says = Answer.refusal 9;
    } ∷
    -- bin: func:f void param:p ptr . block:e add i32 %u %u ret - . .
    record {
      entries =
          (5, 1) ∷ (10, 0) ∷ (6, 3) ∷ (12, 0) ∷ (0, 0) ∷ (7, 0) ∷ (40, 0) ∷ (11, 32) ∷ (30, 3) ∷ (30, 3) ∷ (90, 0) ∷ (21, 0) ∷ (0, 0) ∷ (0, 0) ∷ [];
      names =
          "e" ∷ "f" ∷ "p" ∷ "u" ∷ [];
      says = Answer.refusal 10;
    } ∷
    -- bin: func:f void param:p ptr . block:e add i32 1 %u ret - . .
    record {
      entries =
          (5, 1) ∷ (10, 0) ∷ (6, 3) ∷ (12, 0) ∷ (0, 0) ∷ (7, 0) ∷ (40, 0) ∷ (11, 32) ∷ (32, 1) ∷ (30, 3) ∷ (90, 0) ∷ (21, 0) ∷ (0, 0) ∷ (0, 0) ∷ [];
      names =
          "e" ∷ "f" ∷ "p" ∷ "u" ∷ [];
      says = Answer.refusal 10;
    } ∷
    -- bin: func:f void param:p ptr . block:e add i32 1 1 ret - . .
    record {
      entries =
          (5, 1) ∷ (10, 0) ∷ (6, 3) ∷ (12, 0) ∷ (0, 0) ∷ (7, 0) ∷ (40, 0) ∷ (11, 32) ∷ (32, 1) ∷ (32, 1) ∷ (90, 0) ∷ (21, 0) ∷ (0, 0) ∷ (0, 0) ∷ [];
      names =
          "e" ∷ "f" ∷ "p" ∷ [];
      says = Answer.refusal 5;
    } ∷
    -- bin: func:f void param:p ptr . block:e q=add i32 1 1 ret - . .
    record {
      entries =
          (5, 1) ∷ (10, 0) ∷ (6, 3) ∷ (12, 0) ∷ (0, 0) ∷ (7, 0) ∷ (40, 4) ∷ (11, 32) ∷ (32, 1) ∷ (32, 1) ∷ (90, 0) ∷ (21, 0) ∷ (0, 0) ∷ (0, 0) ∷ [];
      names =
          "e" ∷ "f" ∷ "p" ∷ "q" ∷ [];
      says = Answer.text (unlines (
          "# void @f(1 params)" ∷ "f:" ∷ "push_0n 1;" ∷ "f__e:" ∷ "push 1;" ∷ "push 1;" ∷ "add_u32;" ∷ "set_local 0;" ∷ "push 0;" ∷ "ret;" ∷ "" ∷ [])) 0;
    } ∷
    -- sdiv: func:f void param:p ptr . block:e sdiv label %u %u ret - . .
    record {
      entries =
          (5, 1) ∷ (10, 0) ∷ (6, 3) ∷ (12, 0) ∷ (0, 0) ∷ (7, 0) ∷ (44, 0) ∷ (19, 0) ∷ (30, 3) ∷ (30, 3) ∷ (90, 0) ∷ (21, 0) ∷ (0, 0) ∷ (0, 0) ∷ [];
      names =
          "e" ∷ "f" ∷ "p" ∷ "u" ∷ [];
      says = Answer.refusal 9;
    } ∷
    -- sdiv: func:f void param:p ptr . block:e sdiv i8 %u %u ret - . .
    record {
      entries =
          (5, 1) ∷ (10, 0) ∷ (6, 3) ∷ (12, 0) ∷ (0, 0) ∷ (7, 0) ∷ (44, 0) ∷ (11, 8) ∷ (30, 3) ∷ (30, 3) ∷ (90, 0) ∷ (21, 0) ∷ (0, 0) ∷ (0, 0) ∷ [];
      names =
          "e" ∷ "f" ∷ "p" ∷ "u" ∷ [];
      says = Answer.refusal 10;
    } ∷
    -- sdiv: func:f void param:p ptr . block:e sdiv i8 1 %u ret - . .
    record {
      entries =
          (5, 1) ∷ (10, 0) ∷ (6, 3) ∷ (12, 0) ∷ (0, 0) ∷ (7, 0) ∷ (44, 0) ∷ (11, 8) ∷ (32, 1) ∷ (30, 3) ∷ (90, 0) ∷ (21, 0) ∷ (0, 0) ∷ (0, 0) ∷ [];
      names =
          "e" ∷ "f" ∷ "p" ∷ "u" ∷ [];
      says = Answer.refusal 10;
    } ∷
    -- sdiv: func:f void param:p ptr . block:e sdiv i8 1 1 ret - . .
    record {
      entries =
          (5, 1) ∷ (10, 0) ∷ (6, 3) ∷ (12, 0) ∷ (0, 0) ∷ (7, 0) ∷ (44, 0) ∷ (11, 8) ∷ (32, 1) ∷ (32, 1) ∷ (90, 0) ∷ (21, 0) ∷ (0, 0) ∷ (0, 0) ∷ [];
      names =
          "e" ∷ "f" ∷ "p" ∷ [];
      says = Answer.refusal 5;
    } ∷
    -- sdiv: func:f void param:p ptr . block:e q=sdiv i8 1 1 ret - . .
    record {
      entries =
          (5, 1) ∷ (10, 0) ∷ (6, 3) ∷ (12, 0) ∷ (0, 0) ∷ (7, 0) ∷ (44, 4) ∷ (11, 8) ∷ (32, 1) ∷ (32, 1) ∷ (90, 0) ∷ (21, 0) ∷ (0, 0) ∷ (0, 0) ∷ [];
      names =
          "e" ∷ "f" ∷ "p" ∷ "q" ∷ [];
      says = Answer.text (unlines (
          "# void @f(1 params)" ∷ "f:" ∷ "push_0n 1;" ∷ "f__e:" ∷ "push 1;" ∷ "sx_i8_i32;" ∷ "push 1;" ∷ "sx_i8_i32;" ∷ "div_i32;" ∷ "trunc_u8;"
          ∷ "set_local 0;" ∷ "push 0;" ∷ "ret;" ∷ "" ∷ [])) 0;
    } ∷
    -- icmp: func:f void param:p ptr . block:e slt { i32 } %u %u ret - . .
    record {
      entries =
          (5, 1) ∷ (10, 0) ∷ (6, 3) ∷ (12, 0) ∷ (0, 0) ∷ (7, 0) ∷ (68, 0) ∷ (16, 0) ∷ (11, 32) ∷ (0, 0) ∷ (30, 3) ∷ (30, 3) ∷ (90, 0) ∷ (21, 0) ∷ (0, 0)
          ∷ (0, 0) ∷ [];
      names =
          "e" ∷ "f" ∷ "p" ∷ "u" ∷ [];
      says = Answer.refusal 9;
    } ∷
    -- icmp: func:f void param:p ptr . block:e slt i8 %u %u ret - . .
    record {
      entries =
          (5, 1) ∷ (10, 0) ∷ (6, 3) ∷ (12, 0) ∷ (0, 0) ∷ (7, 0) ∷ (68, 0) ∷ (11, 8) ∷ (30, 3) ∷ (30, 3) ∷ (90, 0) ∷ (21, 0) ∷ (0, 0) ∷ (0, 0) ∷ [];
      names =
          "e" ∷ "f" ∷ "p" ∷ "u" ∷ [];
      says = Answer.refusal 10;
    } ∷
    -- icmp: func:f void param:p ptr . block:e slt i8 1 %u ret - . .
    record {
      entries =
          (5, 1) ∷ (10, 0) ∷ (6, 3) ∷ (12, 0) ∷ (0, 0) ∷ (7, 0) ∷ (68, 0) ∷ (11, 8) ∷ (32, 1) ∷ (30, 3) ∷ (90, 0) ∷ (21, 0) ∷ (0, 0) ∷ (0, 0) ∷ [];
      names =
          "e" ∷ "f" ∷ "p" ∷ "u" ∷ [];
      says = Answer.refusal 10;
    } ∷
    -- icmp: func:f void param:p ptr . block:e slt i8 1 1 ret - . .
    record {
      entries =
          (5, 1) ∷ (10, 0) ∷ (6, 3) ∷ (12, 0) ∷ (0, 0) ∷ (7, 0) ∷ (68, 0) ∷ (11, 8) ∷ (32, 1) ∷ (32, 1) ∷ (90, 0) ∷ (21, 0) ∷ (0, 0) ∷ (0, 0) ∷ [];
      names =
          "e" ∷ "f" ∷ "p" ∷ [];
      says = Answer.refusal 5;
    } ∷
    -- icmp: func:f void param:p ptr . block:e q=slt i8 1 1 ret - . .
    record {
      entries =
          (5, 1) ∷ (10, 0) ∷ (6, 3) ∷ (12, 0) ∷ (0, 0) ∷ (7, 0) ∷ (68, 4) ∷ (11, 8) ∷ (32, 1) ∷ (32, 1) ∷ (90, 0) ∷ (21, 0) ∷ (0, 0) ∷ (0, 0) ∷ [];
      names =
          "e" ∷ "f" ∷ "p" ∷ "q" ∷ [];
      says = Answer.text (unlines (
          "# void @f(1 params)" ∷ "f:" ∷ "push_0n 1;" ∷ "f__e:" ∷ "push 1;" ∷ "sx_i8_i32;" ∷ "push 1;" ∷ "sx_i8_i32;" ∷ "lt_i32;" ∷ "set_local 0;"
          ∷ "push 0;" ∷ "ret;" ∷ "" ∷ [])) 0;
    } ∷
    -- trunc: func:f void param:p ptr . block:e trunc void %u [2 i8 ret - . .
    record {
      entries =
          (5, 1) ∷ (10, 0) ∷ (6, 3) ∷ (12, 0) ∷ (0, 0) ∷ (7, 0) ∷ (53, 0) ∷ (10, 0) ∷ (30, 3) ∷ (13, 2) ∷ (11, 8) ∷ (90, 0) ∷ (21, 0) ∷ (0, 0) ∷ (0, 0) ∷ [];
      names =
          "e" ∷ "f" ∷ "p" ∷ "u" ∷ [];
      says = Answer.refusal 9;
    } ∷
    -- trunc: func:f void param:p ptr . block:e trunc i64 %u [2 i8 ret - . .
    record {
      entries =
          (5, 1) ∷ (10, 0) ∷ (6, 3) ∷ (12, 0) ∷ (0, 0) ∷ (7, 0) ∷ (53, 0) ∷ (11, 64) ∷ (30, 3) ∷ (13, 2) ∷ (11, 8) ∷ (90, 0) ∷ (21, 0) ∷ (0, 0) ∷ (0, 0) ∷ [];
      names =
          "e" ∷ "f" ∷ "p" ∷ "u" ∷ [];
      says = Answer.refusal 9;
    } ∷
    -- trunc: func:f void param:p ptr . block:e trunc i64 %u i8 ret - . .
    record {
      entries =
          (5, 1) ∷ (10, 0) ∷ (6, 3) ∷ (12, 0) ∷ (0, 0) ∷ (7, 0) ∷ (53, 0) ∷ (11, 64) ∷ (30, 3) ∷ (11, 8) ∷ (90, 0) ∷ (21, 0) ∷ (0, 0) ∷ (0, 0) ∷ [];
      names =
          "e" ∷ "f" ∷ "p" ∷ "u" ∷ [];
      says = Answer.refusal 10;
    } ∷
    -- trunc: func:f void param:p ptr . block:e trunc i64 1 i8 ret - . .
    record {
      entries =
          (5, 1) ∷ (10, 0) ∷ (6, 3) ∷ (12, 0) ∷ (0, 0) ∷ (7, 0) ∷ (53, 0) ∷ (11, 64) ∷ (32, 1) ∷ (11, 8) ∷ (90, 0) ∷ (21, 0) ∷ (0, 0) ∷ (0, 0) ∷ [];
      names =
          "e" ∷ "f" ∷ "p" ∷ [];
      says = Answer.refusal 5;
    } ∷
    -- trunc: func:f void param:p ptr . block:e q=trunc i64 1 i8 ret - . .
    record {
      entries =
          (5, 1) ∷ (10, 0) ∷ (6, 3) ∷ (12, 0) ∷ (0, 0) ∷ (7, 0) ∷ (53, 4) ∷ (11, 64) ∷ (32, 1) ∷ (11, 8) ∷ (90, 0) ∷ (21, 0) ∷ (0, 0) ∷ (0, 0) ∷ [];
      names =
          "e" ∷ "f" ∷ "p" ∷ "q" ∷ [];
      says = Answer.text (unlines (
          "# void @f(1 params)" ∷ "f:" ∷ "push_0n 1;" ∷ "f__e:" ∷ "push 1;" ∷ "trunc_u8;" ∷ "set_local 0;" ∷ "push 0;" ∷ "ret;" ∷ "" ∷ [])) 0;
    } ∷
    -- zext: func:f void param:p ptr . block:e zext i8 %u void ret - . .
    record {
      entries =
          (5, 1) ∷ (10, 0) ∷ (6, 3) ∷ (12, 0) ∷ (0, 0) ∷ (7, 0) ∷ (54, 0) ∷ (11, 8) ∷ (30, 3) ∷ (10, 0) ∷ (90, 0) ∷ (21, 0) ∷ (0, 0) ∷ (0, 0) ∷ [];
      names =
          "e" ∷ "f" ∷ "p" ∷ "u" ∷ [];
      says = Answer.refusal 9;
    } ∷
    -- zext: func:f void param:p ptr . block:e zext i8 %u i16 ret - . .
    record {
      entries =
          (5, 1) ∷ (10, 0) ∷ (6, 3) ∷ (12, 0) ∷ (0, 0) ∷ (7, 0) ∷ (54, 0) ∷ (11, 8) ∷ (30, 3) ∷ (11, 16) ∷ (90, 0) ∷ (21, 0) ∷ (0, 0) ∷ (0, 0) ∷ [];
      names =
          "e" ∷ "f" ∷ "p" ∷ "u" ∷ [];
      says = Answer.refusal 10;
    } ∷
    -- zext: func:f void param:p ptr . block:e zext i8 1 i16 ret - . .
    record {
      entries =
          (5, 1) ∷ (10, 0) ∷ (6, 3) ∷ (12, 0) ∷ (0, 0) ∷ (7, 0) ∷ (54, 0) ∷ (11, 8) ∷ (32, 1) ∷ (11, 16) ∷ (90, 0) ∷ (21, 0) ∷ (0, 0) ∷ (0, 0) ∷ [];
      names =
          "e" ∷ "f" ∷ "p" ∷ [];
      says = Answer.refusal 5;
    } ∷
    -- zext: func:f void param:p ptr . block:e q=zext i8 1 i16 ret - . .
    record {
      entries =
          (5, 1) ∷ (10, 0) ∷ (6, 3) ∷ (12, 0) ∷ (0, 0) ∷ (7, 0) ∷ (54, 4) ∷ (11, 8) ∷ (32, 1) ∷ (11, 16) ∷ (90, 0) ∷ (21, 0) ∷ (0, 0) ∷ (0, 0) ∷ [];
      names =
          "e" ∷ "f" ∷ "p" ∷ "q" ∷ [];
      says = Answer.text (unlines (
          "# void @f(1 params)" ∷ "f:" ∷ "push_0n 1;" ∷ "f__e:" ∷ "push 1;" ∷ "set_local 0;" ∷ "push 0;" ∷ "ret;" ∷ "" ∷ [])) 0;
    } ∷
    -- sext: func:f void param:p ptr . block:e sext metadata %u functype ret - . .
    record {
      entries =
          (5, 1) ∷ (10, 0) ∷ (6, 3) ∷ (12, 0) ∷ (0, 0) ∷ (7, 0) ∷ (55, 0) ∷ (20, 0) ∷ (30, 3) ∷ (18, 0) ∷ (90, 0) ∷ (21, 0) ∷ (0, 0) ∷ (0, 0) ∷ [];
      names =
          "e" ∷ "f" ∷ "p" ∷ "u" ∷ [];
      says = Answer.refusal 9;
    } ∷
    -- sext: func:f void param:p ptr . block:e sext i64 %u functype ret - . .
    record {
      entries =
          (5, 1) ∷ (10, 0) ∷ (6, 3) ∷ (12, 0) ∷ (0, 0) ∷ (7, 0) ∷ (55, 0) ∷ (11, 64) ∷ (30, 3) ∷ (18, 0) ∷ (90, 0) ∷ (21, 0) ∷ (0, 0) ∷ (0, 0) ∷ [];
      names =
          "e" ∷ "f" ∷ "p" ∷ "u" ∷ [];
      says = Answer.refusal 9;
    } ∷
    -- sext: func:f void param:p ptr . block:e sext i64 %u i64 ret - . .
    record {
      entries =
          (5, 1) ∷ (10, 0) ∷ (6, 3) ∷ (12, 0) ∷ (0, 0) ∷ (7, 0) ∷ (55, 0) ∷ (11, 64) ∷ (30, 3) ∷ (11, 64) ∷ (90, 0) ∷ (21, 0) ∷ (0, 0) ∷ (0, 0) ∷ [];
      names =
          "e" ∷ "f" ∷ "p" ∷ "u" ∷ [];
      says = Answer.refusal 10;
    } ∷
    -- sext: func:f void param:p ptr . block:e sext i64 1 i64 ret - . .
    record {
      entries =
          (5, 1) ∷ (10, 0) ∷ (6, 3) ∷ (12, 0) ∷ (0, 0) ∷ (7, 0) ∷ (55, 0) ∷ (11, 64) ∷ (32, 1) ∷ (11, 64) ∷ (90, 0) ∷ (21, 0) ∷ (0, 0) ∷ (0, 0) ∷ [];
      names =
          "e" ∷ "f" ∷ "p" ∷ [];
      says = Answer.refusal 13;
    } ∷
    -- sext: func:f void param:p ptr . block:e sext i32 1 i64 ret - . .
    record {
      entries =
          (5, 1) ∷ (10, 0) ∷ (6, 3) ∷ (12, 0) ∷ (0, 0) ∷ (7, 0) ∷ (55, 0) ∷ (11, 32) ∷ (32, 1) ∷ (11, 64) ∷ (90, 0) ∷ (21, 0) ∷ (0, 0) ∷ (0, 0) ∷ [];
      names =
          "e" ∷ "f" ∷ "p" ∷ [];
      says = Answer.refusal 5;
    } ∷
    -- sext: func:f void param:p ptr . block:e q=sext i32 1 i64 ret - . .
    record {
      entries =
          (5, 1) ∷ (10, 0) ∷ (6, 3) ∷ (12, 0) ∷ (0, 0) ∷ (7, 0) ∷ (55, 4) ∷ (11, 32) ∷ (32, 1) ∷ (11, 64) ∷ (90, 0) ∷ (21, 0) ∷ (0, 0) ∷ (0, 0) ∷ [];
      names =
          "e" ∷ "f" ∷ "p" ∷ "q" ∷ [];
      says = Answer.text (unlines (
          "# void @f(1 params)" ∷ "f:" ∷ "push_0n 1;" ∷ "f__e:" ∷ "push 1;" ∷ "sx_i32_i64;" ∷ "set_local 0;" ∷ "push 0;" ∷ "ret;" ∷ "" ∷ [])) 0;
    } ∷
    -- ptrtoint: func:f void param:p ptr . block:e ptrtoint <2 i8 %u <{ } ret - . .
    record {
      entries =
          (5, 1) ∷ (10, 0) ∷ (6, 3) ∷ (12, 0) ∷ (0, 0) ∷ (7, 0) ∷ (56, 0) ∷ (14, 2) ∷ (11, 8) ∷ (30, 3) ∷ (17, 0) ∷ (0, 0) ∷ (90, 0) ∷ (21, 0) ∷ (0, 0)
          ∷ (0, 0) ∷ [];
      names =
          "e" ∷ "f" ∷ "p" ∷ "u" ∷ [];
      says = Answer.refusal 9;
    } ∷
    -- ptrtoint: func:f void param:p ptr . block:e ptrtoint ptr %u <{ } ret - . .
    record {
      entries =
          (5, 1) ∷ (10, 0) ∷ (6, 3) ∷ (12, 0) ∷ (0, 0) ∷ (7, 0) ∷ (56, 0) ∷ (12, 0) ∷ (30, 3) ∷ (17, 0) ∷ (0, 0) ∷ (90, 0) ∷ (21, 0) ∷ (0, 0) ∷ (0, 0) ∷ [];
      names =
          "e" ∷ "f" ∷ "p" ∷ "u" ∷ [];
      says = Answer.refusal 9;
    } ∷
    -- ptrtoint: func:f void param:p ptr . block:e ptrtoint ptr %u i32 ret - . .
    record {
      entries =
          (5, 1) ∷ (10, 0) ∷ (6, 3) ∷ (12, 0) ∷ (0, 0) ∷ (7, 0) ∷ (56, 0) ∷ (12, 0) ∷ (30, 3) ∷ (11, 32) ∷ (90, 0) ∷ (21, 0) ∷ (0, 0) ∷ (0, 0) ∷ [];
      names =
          "e" ∷ "f" ∷ "p" ∷ "u" ∷ [];
      says = Answer.refusal 10;
    } ∷
    -- ptrtoint: func:f void param:p ptr . block:e ptrtoint ptr 1 i32 ret - . .
    record {
      entries =
          (5, 1) ∷ (10, 0) ∷ (6, 3) ∷ (12, 0) ∷ (0, 0) ∷ (7, 0) ∷ (56, 0) ∷ (12, 0) ∷ (32, 1) ∷ (11, 32) ∷ (90, 0) ∷ (21, 0) ∷ (0, 0) ∷ (0, 0) ∷ [];
      names =
          "e" ∷ "f" ∷ "p" ∷ [];
      says = Answer.refusal 5;
    } ∷
    -- ptrtoint: func:f void param:p ptr . block:e q=ptrtoint ptr 1 i32 ret - . .
    record {
      entries =
          (5, 1) ∷ (10, 0) ∷ (6, 3) ∷ (12, 0) ∷ (0, 0) ∷ (7, 0) ∷ (56, 4) ∷ (12, 0) ∷ (32, 1) ∷ (11, 32) ∷ (90, 0) ∷ (21, 0) ∷ (0, 0) ∷ (0, 0) ∷ [];
      names =
          "e" ∷ "f" ∷ "p" ∷ "q" ∷ [];
      says = Answer.text (unlines (
          "# void @f(1 params)" ∷ "f:" ∷ "push_0n 1;" ∷ "f__e:" ∷ "push 1;" ∷ "trunc_u32;" ∷ "set_local 0;" ∷ "push 0;" ∷ "ret;" ∷ "" ∷ [])) 0;
    } ∷
    -- inttoptr: func:f void param:p ptr . block:e inttoptr i32 %u label ret - . .
    record {
      entries =
          (5, 1) ∷ (10, 0) ∷ (6, 3) ∷ (12, 0) ∷ (0, 0) ∷ (7, 0) ∷ (57, 0) ∷ (11, 32) ∷ (30, 3) ∷ (19, 0) ∷ (90, 0) ∷ (21, 0) ∷ (0, 0) ∷ (0, 0) ∷ [];
      names =
          "e" ∷ "f" ∷ "p" ∷ "u" ∷ [];
      says = Answer.refusal 9;
    } ∷
    -- inttoptr: func:f void param:p ptr . block:e inttoptr i32 %u ptr ret - . .
    record {
      entries =
          (5, 1) ∷ (10, 0) ∷ (6, 3) ∷ (12, 0) ∷ (0, 0) ∷ (7, 0) ∷ (57, 0) ∷ (11, 32) ∷ (30, 3) ∷ (12, 0) ∷ (90, 0) ∷ (21, 0) ∷ (0, 0) ∷ (0, 0) ∷ [];
      names =
          "e" ∷ "f" ∷ "p" ∷ "u" ∷ [];
      says = Answer.refusal 10;
    } ∷
    -- inttoptr: func:f void param:p ptr . block:e inttoptr i32 1 ptr ret - . .
    record {
      entries =
          (5, 1) ∷ (10, 0) ∷ (6, 3) ∷ (12, 0) ∷ (0, 0) ∷ (7, 0) ∷ (57, 0) ∷ (11, 32) ∷ (32, 1) ∷ (12, 0) ∷ (90, 0) ∷ (21, 0) ∷ (0, 0) ∷ (0, 0) ∷ [];
      names =
          "e" ∷ "f" ∷ "p" ∷ [];
      says = Answer.refusal 5;
    } ∷
    -- inttoptr: func:f void param:p ptr . block:e q=inttoptr i32 1 ptr ret - . .
    record {
      entries =
          (5, 1) ∷ (10, 0) ∷ (6, 3) ∷ (12, 0) ∷ (0, 0) ∷ (7, 0) ∷ (57, 4) ∷ (11, 32) ∷ (32, 1) ∷ (12, 0) ∷ (90, 0) ∷ (21, 0) ∷ (0, 0) ∷ (0, 0) ∷ [];
      names =
          "e" ∷ "f" ∷ "p" ∷ "q" ∷ [];
      says = Answer.text (unlines (
          "# void @f(1 params)" ∷ "f:" ∷ "push_0n 1;" ∷ "f__e:" ∷ "push 1;" ∷ "set_local 0;" ∷ "push 0;" ∷ "ret;" ∷ "" ∷ [])) 0;
    } ∷
    -- bitcast: func:f void param:p ptr . block:e bitcast label %u label ret - . .
    record {
      entries =
          (5, 1) ∷ (10, 0) ∷ (6, 3) ∷ (12, 0) ∷ (0, 0) ∷ (7, 0) ∷ (58, 0) ∷ (19, 0) ∷ (30, 3) ∷ (19, 0) ∷ (90, 0) ∷ (21, 0) ∷ (0, 0) ∷ (0, 0) ∷ [];
      names =
          "e" ∷ "f" ∷ "p" ∷ "u" ∷ [];
      says = Answer.refusal 9;
    } ∷
    -- bitcast: func:f void param:p ptr . block:e bitcast i8 %u label ret - . .
    record {
      entries =
          (5, 1) ∷ (10, 0) ∷ (6, 3) ∷ (12, 0) ∷ (0, 0) ∷ (7, 0) ∷ (58, 0) ∷ (11, 8) ∷ (30, 3) ∷ (19, 0) ∷ (90, 0) ∷ (21, 0) ∷ (0, 0) ∷ (0, 0) ∷ [];
      names =
          "e" ∷ "f" ∷ "p" ∷ "u" ∷ [];
      says = Answer.refusal 10;
    } ∷
    -- bitcast: func:f void param:p ptr . block:e bitcast i8 1 label ret - . .
    record {
      entries =
          (5, 1) ∷ (10, 0) ∷ (6, 3) ∷ (12, 0) ∷ (0, 0) ∷ (7, 0) ∷ (58, 0) ∷ (11, 8) ∷ (32, 1) ∷ (19, 0) ∷ (90, 0) ∷ (21, 0) ∷ (0, 0) ∷ (0, 0) ∷ [];
      names =
          "e" ∷ "f" ∷ "p" ∷ [];
      says = Answer.refusal 5;
    } ∷
    -- bitcast: func:f void param:p ptr . block:e q=bitcast i8 1 label ret - . .
    record {
      entries =
          (5, 1) ∷ (10, 0) ∷ (6, 3) ∷ (12, 0) ∷ (0, 0) ∷ (7, 0) ∷ (58, 4) ∷ (11, 8) ∷ (32, 1) ∷ (19, 0) ∷ (90, 0) ∷ (21, 0) ∷ (0, 0) ∷ (0, 0) ∷ [];
      names =
          "e" ∷ "f" ∷ "p" ∷ "q" ∷ [];
      says = Answer.text (unlines (
          "# void @f(1 params)" ∷ "f:" ∷ "push_0n 1;" ∷ "f__e:" ∷ "push 1;" ∷ "set_local 0;" ∷ "push 0;" ∷ "ret;" ∷ "" ∷ [])) 0;
    } ∷
    -- select: func:f void param:p ptr . block:e select %u label %u %u ret - . .
    record {
      entries =
          (5, 1) ∷ (10, 0) ∷ (6, 3) ∷ (12, 0) ∷ (0, 0) ∷ (7, 0) ∷ (70, 0) ∷ (30, 3) ∷ (19, 0) ∷ (30, 3) ∷ (30, 3) ∷ (90, 0) ∷ (21, 0) ∷ (0, 0) ∷ (0, 0) ∷ [];
      names =
          "e" ∷ "f" ∷ "p" ∷ "u" ∷ [];
      says = Answer.refusal 9;
    } ∷
    -- select: func:f void param:p ptr . block:e select %u i32 %u %u ret - . .
    record {
      entries =
          (5, 1) ∷ (10, 0) ∷ (6, 3) ∷ (12, 0) ∷ (0, 0) ∷ (7, 0) ∷ (70, 0) ∷ (30, 3) ∷ (11, 32) ∷ (30, 3) ∷ (30, 3) ∷ (90, 0) ∷ (21, 0) ∷ (0, 0) ∷ (0, 0) ∷ [];
      names =
          "e" ∷ "f" ∷ "p" ∷ "u" ∷ [];
      says = Answer.refusal 10;
    } ∷
    -- select: func:f void param:p ptr . block:e select 1 i32 %u %u ret - . .
    record {
      entries =
          (5, 1) ∷ (10, 0) ∷ (6, 3) ∷ (12, 0) ∷ (0, 0) ∷ (7, 0) ∷ (70, 0) ∷ (32, 1) ∷ (11, 32) ∷ (30, 3) ∷ (30, 3) ∷ (90, 0) ∷ (21, 0) ∷ (0, 0) ∷ (0, 0) ∷ [];
      names =
          "e" ∷ "f" ∷ "p" ∷ "u" ∷ [];
      says = Answer.refusal 10;
    } ∷
    -- select: func:f void param:p ptr . block:e select 1 i32 1 %u ret - . .
    record {
      entries =
          (5, 1) ∷ (10, 0) ∷ (6, 3) ∷ (12, 0) ∷ (0, 0) ∷ (7, 0) ∷ (70, 0) ∷ (32, 1) ∷ (11, 32) ∷ (32, 1) ∷ (30, 3) ∷ (90, 0) ∷ (21, 0) ∷ (0, 0) ∷ (0, 0) ∷ [];
      names =
          "e" ∷ "f" ∷ "p" ∷ "u" ∷ [];
      says = Answer.refusal 10;
    } ∷
    -- select: func:f void param:p ptr . block:e select 1 i32 1 1 ret - . .
    record {
      entries =
          (5, 1) ∷ (10, 0) ∷ (6, 3) ∷ (12, 0) ∷ (0, 0) ∷ (7, 0) ∷ (70, 0) ∷ (32, 1) ∷ (11, 32) ∷ (32, 1) ∷ (32, 1) ∷ (90, 0) ∷ (21, 0) ∷ (0, 0) ∷ (0, 0) ∷ [];
      names =
          "e" ∷ "f" ∷ "p" ∷ [];
      says = Answer.refusal 5;
    } ∷
    -- select: func:f void param:p ptr . block:e q=select 1 i32 1 1 ret - . .
    record {
      entries =
          (5, 1) ∷ (10, 0) ∷ (6, 3) ∷ (12, 0) ∷ (0, 0) ∷ (7, 0) ∷ (70, 4) ∷ (32, 1) ∷ (11, 32) ∷ (32, 1) ∷ (32, 1) ∷ (90, 0) ∷ (21, 0) ∷ (0, 0) ∷ (0, 0) ∷ [];
      names =
          "e" ∷ "f" ∷ "p" ∷ "q" ∷ [];
      says = Answer.text (unlines (
          "# void @f(1 params)" ∷ "f:" ∷ "push_0n 1;" ∷ "f__e:" ∷ "push 1;" ∷ "jz __sel_false_0;" ∷ "push 1;" ∷ "jmp __sel_done_1;" ∷ "__sel_false_0:"
          ∷ "push 1;" ∷ "__sel_done_1:" ∷ "set_local 0;" ∷ "push 0;" ∷ "ret;" ∷ "" ∷ [])) 2;
    } ∷
    -- freeze: func:f void param:p ptr . block:e freeze { label [16777217 i8 } %u ret - . .
    record {
      entries =
          (5, 1) ∷ (10, 0) ∷ (6, 3) ∷ (12, 0) ∷ (0, 0) ∷ (7, 0) ∷ (77, 0) ∷ (16, 0) ∷ (19, 0) ∷ (13, 16777217) ∷ (11, 8) ∷ (0, 0) ∷ (30, 3) ∷ (90, 0)
          ∷ (21, 0) ∷ (0, 0) ∷ (0, 0) ∷ [];
      names =
          "e" ∷ "f" ∷ "p" ∷ "u" ∷ [];
      says = Answer.refusal 6;
    } ∷
    -- freeze: func:f void param:p ptr . block:e freeze { [16777217 i8 label } %u ret - . .
    record {
      entries =
          (5, 1) ∷ (10, 0) ∷ (6, 3) ∷ (12, 0) ∷ (0, 0) ∷ (7, 0) ∷ (77, 0) ∷ (16, 0) ∷ (13, 16777217) ∷ (11, 8) ∷ (19, 0) ∷ (0, 0) ∷ (30, 3) ∷ (90, 0)
          ∷ (21, 0) ∷ (0, 0) ∷ (0, 0) ∷ [];
      names =
          "e" ∷ "f" ∷ "p" ∷ "u" ∷ [];
      says = Answer.refusal 7;
    } ∷
    -- freeze: func:f void param:p ptr . block:e freeze [3 i8 %u ret - . .
    record {
      entries =
          (5, 1) ∷ (10, 0) ∷ (6, 3) ∷ (12, 0) ∷ (0, 0) ∷ (7, 0) ∷ (77, 0) ∷ (13, 3) ∷ (11, 8) ∷ (30, 3) ∷ (90, 0) ∷ (21, 0) ∷ (0, 0) ∷ (0, 0) ∷ [];
      names =
          "e" ∷ "f" ∷ "p" ∷ "u" ∷ [];
      says = Answer.refusal 10;
    } ∷
    -- freeze: func:f void param:p ptr . block:e freeze [3 i8 1 ret - . .
    record {
      entries =
          (5, 1) ∷ (10, 0) ∷ (6, 3) ∷ (12, 0) ∷ (0, 0) ∷ (7, 0) ∷ (77, 0) ∷ (13, 3) ∷ (11, 8) ∷ (32, 1) ∷ (90, 0) ∷ (21, 0) ∷ (0, 0) ∷ (0, 0) ∷ [];
      names =
          "e" ∷ "f" ∷ "p" ∷ [];
      says = Answer.refusal 5;
    } ∷
    -- freeze: func:f void param:p ptr . block:e q=freeze [3 i8 -1 ret - . .
    record {
      entries =
          (5, 1) ∷ (10, 0) ∷ (6, 3) ∷ (12, 0) ∷ (0, 0) ∷ (7, 0) ∷ (77, 4) ∷ (13, 3) ∷ (11, 8) ∷ (32, 18446744073709551615) ∷ (90, 0) ∷ (21, 0) ∷ (0, 0)
          ∷ (0, 0) ∷ [];
      names =
          "e" ∷ "f" ∷ "p" ∷ "q" ∷ [];
      says = Answer.text (unlines (
          "# void @f(1 params)" ∷ "f:" ∷ "push_0n 1;" ∷ "f__e:" ∷ "push 16777215;" ∷ "set_local 0;" ∷ "push 0;" ∷ "ret;" ∷ "" ∷ [])) 0;
    } ∷
    -- nothing asked: func:f void param:p ptr . block:e fence phi label . q=phi label %u :e . ret - . .
    record {
      entries =
          (5, 1) ∷ (10, 0) ∷ (6, 3) ∷ (12, 0) ∷ (0, 0) ∷ (7, 0) ∷ (82, 0) ∷ (75, 0) ∷ (19, 0) ∷ (0, 0) ∷ (75, 4) ∷ (19, 0) ∷ (30, 4) ∷ (23, 0) ∷ (0, 0)
          ∷ (90, 0) ∷ (21, 0) ∷ (0, 0) ∷ (0, 0) ∷ [];
      names =
          "e" ∷ "f" ∷ "p" ∷ "q" ∷ "u" ∷ [];
      says = Answer.text (unlines (
          "# void @f(1 params)" ∷ "f:" ∷ "push_0n 1;" ∷ "f__e:" ∷ "push 0;" ∷ "ret;" ∷ "" ∷ [])) 0;
    } ∷
    []

pub chains_hold : map answers chains ≡ map says_of chains
unfolding open_sheet chains
chains_hold = refl
