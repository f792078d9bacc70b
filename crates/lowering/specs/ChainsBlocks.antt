-- "The first fault `Codegen::gen_function` meets in its own statement order", statement by statement. A chain is one statement
-- with every fault that it can have; each row repairs the fault that the row before was refused for, so a row shows that its
-- refusal comes before all those that follow. The last row of a chain has no fault. With the answers of the published Rust;
-- written by `compare written`, in whose notation each book stands over its row.
use Rattle.std.specs.Prelude.{◌≡◌, refl, List, [], ◌∷◌, map}
use Rattle.assembly.specs.Cases.{unlines}
use Rattle.lowering.specs.Sheet.{Sheet, Answer, answers, says_of, open_sheet}

unfoldable pub chains : List Sheet
chains =
    -- ret: func:f void param:p ptr . block:e ret label %u . .
    record {
      entries =
          (5, 1) ∷ (10, 0) ∷ (6, 3) ∷ (12, 0) ∷ (0, 0) ∷ (7, 0) ∷ (90, 0) ∷ (19, 0) ∷ (30, 3) ∷ (0, 0) ∷ (0, 0) ∷ [];
      names =
          "e" ∷ "f" ∷ "p" ∷ "u" ∷ [];
      says = Answer.refusal 9;
    } ∷
    -- ret: func:f void param:p ptr . block:e ret i32 %u . .
    record {
      entries =
          (5, 1) ∷ (10, 0) ∷ (6, 3) ∷ (12, 0) ∷ (0, 0) ∷ (7, 0) ∷ (90, 0) ∷ (11, 32) ∷ (30, 3) ∷ (0, 0) ∷ (0, 0) ∷ [];
      names =
          "e" ∷ "f" ∷ "p" ∷ "u" ∷ [];
      says = Answer.refusal 10;
    } ∷
    -- ret: func:f void param:p ptr . block:e ret i32 1 . .
    record {
      entries =
          (5, 1) ∷ (10, 0) ∷ (6, 3) ∷ (12, 0) ∷ (0, 0) ∷ (7, 0) ∷ (90, 0) ∷ (11, 32) ∷ (32, 1) ∷ (0, 0) ∷ (0, 0) ∷ [];
      names =
          "e" ∷ "f" ∷ "p" ∷ [];
      says = Answer.text (unlines (
          "# void @f(1 params)" ∷ "f:" ∷ "f__e:" ∷ "push 1;" ∷ "ret;" ∷ "" ∷ [])) 0;
    } ∷
    -- edge: func:f void param:p ptr . block:e br - :l - block:k phi label . ret label %u . .
    record {
      entries =
          (5, 1) ∷ (10, 0) ∷ (6, 5) ∷ (12, 0) ∷ (0, 0) ∷ (7, 0) ∷ (91, 0) ∷ (21, 0) ∷ (23, 3) ∷ (21, 0) ∷ (7, 2) ∷ (75, 0) ∷ (19, 0) ∷ (0, 0) ∷ (90, 0)
          ∷ (19, 0) ∷ (30, 5) ∷ (0, 0) ∷ (0, 0) ∷ [];
      names =
          "e" ∷ "f" ∷ "k" ∷ "l" ∷ "p" ∷ "u" ∷ [];
      says = Answer.refusal 17;
    } ∷
    -- edge: func:f void param:p ptr . block:e br - :l - block:l phi label . phi label . ret label %u . .
    record {
      entries =
          (5, 1) ∷ (10, 0) ∷ (6, 4) ∷ (12, 0) ∷ (0, 0) ∷ (7, 0) ∷ (91, 0) ∷ (21, 0) ∷ (23, 2) ∷ (21, 0) ∷ (7, 2) ∷ (75, 0) ∷ (19, 0) ∷ (0, 0) ∷ (75, 0)
          ∷ (19, 0) ∷ (0, 0) ∷ (90, 0) ∷ (19, 0) ∷ (30, 4) ∷ (0, 0) ∷ (0, 0) ∷ [];
      names =
          "e" ∷ "f" ∷ "l" ∷ "p" ∷ "u" ∷ [];
      says = Answer.refusal 5;
    } ∷
    -- edge: func:f void param:p ptr . block:e br - :l - block:l x=phi label 1 :l . phi label . ret label %u . .
    record {
      entries =
          (5, 1) ∷ (10, 0) ∷ (6, 4) ∷ (12, 0) ∷ (0, 0) ∷ (7, 0) ∷ (91, 0) ∷ (21, 0) ∷ (23, 2) ∷ (21, 0) ∷ (7, 2) ∷ (75, 6) ∷ (19, 0) ∷ (32, 1) ∷ (23, 2)
          ∷ (0, 0) ∷ (75, 0) ∷ (19, 0) ∷ (0, 0) ∷ (90, 0) ∷ (19, 0) ∷ (30, 4) ∷ (0, 0) ∷ (0, 0) ∷ [];
      names =
          "e" ∷ "f" ∷ "l" ∷ "p" ∷ "u" ∷ "x" ∷ [];
      says = Answer.refusal 18;
    } ∷
    -- edge: func:f void param:p ptr . block:e br - :l - block:l x=phi label %u :e . phi label . ret label %u . .
    record {
      entries =
          (5, 1) ∷ (10, 0) ∷ (6, 4) ∷ (12, 0) ∷ (0, 0) ∷ (7, 0) ∷ (91, 0) ∷ (21, 0) ∷ (23, 2) ∷ (21, 0) ∷ (7, 2) ∷ (75, 6) ∷ (19, 0) ∷ (30, 4) ∷ (23, 0)
          ∷ (0, 0) ∷ (75, 0) ∷ (19, 0) ∷ (0, 0) ∷ (90, 0) ∷ (19, 0) ∷ (30, 4) ∷ (0, 0) ∷ (0, 0) ∷ [];
      names =
          "e" ∷ "f" ∷ "l" ∷ "p" ∷ "u" ∷ "x" ∷ [];
      says = Answer.refusal 5;
    } ∷
    -- edge: func:f void param:p ptr . block:e br - :l - block:l x=phi label %u :e . y=phi label . ret label %u . .
    record {
      entries =
          (5, 1) ∷ (10, 0) ∷ (6, 4) ∷ (12, 0) ∷ (0, 0) ∷ (7, 0) ∷ (91, 0) ∷ (21, 0) ∷ (23, 2) ∷ (21, 0) ∷ (7, 2) ∷ (75, 6) ∷ (19, 0) ∷ (30, 4) ∷ (23, 0)
          ∷ (0, 0) ∷ (75, 7) ∷ (19, 0) ∷ (0, 0) ∷ (90, 0) ∷ (19, 0) ∷ (30, 4) ∷ (0, 0) ∷ (0, 0) ∷ [];
      names =
          "e" ∷ "f" ∷ "l" ∷ "p" ∷ "u" ∷ "x" ∷ "y" ∷ [];
      says = Answer.refusal 18;
    } ∷
    -- edge: func:f void param:p ptr . block:e br - :l - block:l x=phi label %u :e . y=phi label %u :e . ret label %u . .
    record {
      entries =
          (5, 1) ∷ (10, 0) ∷ (6, 4) ∷ (12, 0) ∷ (0, 0) ∷ (7, 0) ∷ (91, 0) ∷ (21, 0) ∷ (23, 2) ∷ (21, 0) ∷ (7, 2) ∷ (75, 6) ∷ (19, 0) ∷ (30, 4) ∷ (23, 0)
          ∷ (0, 0) ∷ (75, 7) ∷ (19, 0) ∷ (30, 4) ∷ (23, 0) ∷ (0, 0) ∷ (90, 0) ∷ (19, 0) ∷ (30, 4) ∷ (0, 0) ∷ (0, 0) ∷ [];
      names =
          "e" ∷ "f" ∷ "l" ∷ "p" ∷ "u" ∷ "x" ∷ "y" ∷ [];
      says = Answer.refusal 9;
    } ∷
    -- edge: func:f void param:p ptr . block:e br - :l - block:l x=phi i8 %u :e . y=phi label %u :e . ret label %u . .
    record {
      entries =
          (5, 1) ∷ (10, 0) ∷ (6, 4) ∷ (12, 0) ∷ (0, 0) ∷ (7, 0) ∷ (91, 0) ∷ (21, 0) ∷ (23, 2) ∷ (21, 0) ∷ (7, 2) ∷ (75, 6) ∷ (11, 8) ∷ (30, 4) ∷ (23, 0)
          ∷ (0, 0) ∷ (75, 7) ∷ (19, 0) ∷ (30, 4) ∷ (23, 0) ∷ (0, 0) ∷ (90, 0) ∷ (19, 0) ∷ (30, 4) ∷ (0, 0) ∷ (0, 0) ∷ [];
      names =
          "e" ∷ "f" ∷ "l" ∷ "p" ∷ "u" ∷ "x" ∷ "y" ∷ [];
      says = Answer.refusal 10;
    } ∷
    -- edge: func:f void param:p ptr . block:e br - :l - block:l x=phi i8 1 :e . y=phi label %u :e . ret label %u . .
    record {
      entries =
          (5, 1) ∷ (10, 0) ∷ (6, 4) ∷ (12, 0) ∷ (0, 0) ∷ (7, 0) ∷ (91, 0) ∷ (21, 0) ∷ (23, 2) ∷ (21, 0) ∷ (7, 2) ∷ (75, 6) ∷ (11, 8) ∷ (32, 1) ∷ (23, 0)
          ∷ (0, 0) ∷ (75, 7) ∷ (19, 0) ∷ (30, 4) ∷ (23, 0) ∷ (0, 0) ∷ (90, 0) ∷ (19, 0) ∷ (30, 4) ∷ (0, 0) ∷ (0, 0) ∷ [];
      names =
          "e" ∷ "f" ∷ "l" ∷ "p" ∷ "u" ∷ "x" ∷ "y" ∷ [];
      says = Answer.refusal 9;
    } ∷
    -- edge: func:f void param:p ptr . block:e br - :l - block:l x=phi i8 1 :e . y=phi i8 %u :e . ret label %u . .
    record {
      entries =
          (5, 1) ∷ (10, 0) ∷ (6, 4) ∷ (12, 0) ∷ (0, 0) ∷ (7, 0) ∷ (91, 0) ∷ (21, 0) ∷ (23, 2) ∷ (21, 0) ∷ (7, 2) ∷ (75, 6) ∷ (11, 8) ∷ (32, 1) ∷ (23, 0)
          ∷ (0, 0) ∷ (75, 7) ∷ (11, 8) ∷ (30, 4) ∷ (23, 0) ∷ (0, 0) ∷ (90, 0) ∷ (19, 0) ∷ (30, 4) ∷ (0, 0) ∷ (0, 0) ∷ [];
      names =
          "e" ∷ "f" ∷ "l" ∷ "p" ∷ "u" ∷ "x" ∷ "y" ∷ [];
      says = Answer.refusal 10;
    } ∷
    -- edge: func:f void param:p ptr . block:e br - :l - block:l x=phi i8 1 :e . y=phi i8 1 :e . ret label %u . .
    record {
      entries =
          (5, 1) ∷ (10, 0) ∷ (6, 4) ∷ (12, 0) ∷ (0, 0) ∷ (7, 0) ∷ (91, 0) ∷ (21, 0) ∷ (23, 2) ∷ (21, 0) ∷ (7, 2) ∷ (75, 6) ∷ (11, 8) ∷ (32, 1) ∷ (23, 0)
          ∷ (0, 0) ∷ (75, 7) ∷ (11, 8) ∷ (32, 1) ∷ (23, 0) ∷ (0, 0) ∷ (90, 0) ∷ (19, 0) ∷ (30, 4) ∷ (0, 0) ∷ (0, 0) ∷ [];
      names =
          "e" ∷ "f" ∷ "l" ∷ "p" ∷ "u" ∷ "x" ∷ "y" ∷ [];
      says = Answer.refusal 9;
    } ∷
    -- edge: func:f void param:p ptr . block:e br - :l - block:l x=phi i8 1 :e . y=phi i8 1 :e . ret - . .
    record {
      entries =
          (5, 1) ∷ (10, 0) ∷ (6, 4) ∷ (12, 0) ∷ (0, 0) ∷ (7, 0) ∷ (91, 0) ∷ (21, 0) ∷ (23, 2) ∷ (21, 0) ∷ (7, 2) ∷ (75, 5) ∷ (11, 8) ∷ (32, 1) ∷ (23, 0)
          ∷ (0, 0) ∷ (75, 6) ∷ (11, 8) ∷ (32, 1) ∷ (23, 0) ∷ (0, 0) ∷ (90, 0) ∷ (21, 0) ∷ (0, 0) ∷ (0, 0) ∷ [];
      names =
          "e" ∷ "f" ∷ "l" ∷ "p" ∷ "x" ∷ "y" ∷ [];
      says = Answer.text (unlines (
          "# void @f(1 params)" ∷ "f:" ∷ "push_0n 2;" ∷ "f__e:" ∷ "push 1;" ∷ "push 1;" ∷ "set_local 1;" ∷ "set_local 0;" ∷ "jmp f__l;" ∷ "f__l:" ∷ "push 0;"
          ∷ "ret;" ∷ "" ∷ [])) 0;
    } ∷
    -- jump: func:f void param:p ptr . block:e br - :k :k . .
    record {
      entries =
          (5, 1) ∷ (10, 0) ∷ (6, 4) ∷ (12, 0) ∷ (0, 0) ∷ (7, 0) ∷ (91, 0) ∷ (21, 0) ∷ (23, 2) ∷ (23, 2) ∷ (0, 0) ∷ (0, 0) ∷ [];
      names =
          "e" ∷ "f" ∷ "k" ∷ "p" ∷ [];
      says = Answer.refusal 17;
    } ∷
    -- jump: func:f void param:p ptr . block:e br - :e :k . .
    record {
      entries =
          (5, 1) ∷ (10, 0) ∷ (6, 4) ∷ (12, 0) ∷ (0, 0) ∷ (7, 0) ∷ (91, 0) ∷ (21, 0) ∷ (23, 0) ∷ (23, 2) ∷ (0, 0) ∷ (0, 0) ∷ [];
      names =
          "e" ∷ "f" ∷ "k" ∷ "p" ∷ [];
      says = Answer.text (unlines (
          "# void @f(1 params)" ∷ "f:" ∷ "f__e:" ∷ "jmp f__e;" ∷ "" ∷ [])) 0;
    } ∷
    -- condition: func:f void param:p ptr . block:e br %u :k - . .
    record {
      entries =
          (5, 1) ∷ (10, 0) ∷ (6, 4) ∷ (12, 0) ∷ (0, 0) ∷ (7, 0) ∷ (91, 0) ∷ (30, 4) ∷ (23, 2) ∷ (21, 0) ∷ (0, 0) ∷ (0, 0) ∷ [];
      names =
          "e" ∷ "f" ∷ "k" ∷ "p" ∷ "u" ∷ [];
      says = Answer.refusal 19;
    } ∷
    -- condition: func:f void param:p ptr . block:e br %u :k :k . .
    record {
      entries =
          (5, 1) ∷ (10, 0) ∷ (6, 4) ∷ (12, 0) ∷ (0, 0) ∷ (7, 0) ∷ (91, 0) ∷ (30, 4) ∷ (23, 2) ∷ (23, 2) ∷ (0, 0) ∷ (0, 0) ∷ [];
      names =
          "e" ∷ "f" ∷ "k" ∷ "p" ∷ "u" ∷ [];
      says = Answer.refusal 10;
    } ∷
    -- condition: func:f void param:p ptr . block:e br 1 :k :l block:l x=phi i8 . ret - . .
    record {
      entries =
          (5, 1) ∷ (10, 0) ∷ (6, 5) ∷ (12, 0) ∷ (0, 0) ∷ (7, 0) ∷ (91, 0) ∷ (32, 1) ∷ (23, 2) ∷ (23, 3) ∷ (7, 3) ∷ (75, 6) ∷ (11, 8) ∷ (0, 0) ∷ (90, 0)
          ∷ (21, 0) ∷ (0, 0) ∷ (0, 0) ∷ [];
      names =
          "e" ∷ "f" ∷ "k" ∷ "l" ∷ "p" ∷ "x" ∷ [];
      says = Answer.refusal 17;
    } ∷
    -- condition: func:f void param:p ptr . block:e br 1 :l :k block:l x=phi i8 . ret - . .
    record {
      entries =
          (5, 1) ∷ (10, 0) ∷ (6, 5) ∷ (12, 0) ∷ (0, 0) ∷ (7, 0) ∷ (91, 0) ∷ (32, 1) ∷ (23, 3) ∷ (23, 2) ∷ (7, 3) ∷ (75, 6) ∷ (11, 8) ∷ (0, 0) ∷ (90, 0)
          ∷ (21, 0) ∷ (0, 0) ∷ (0, 0) ∷ [];
      names =
          "e" ∷ "f" ∷ "k" ∷ "l" ∷ "p" ∷ "x" ∷ [];
      says = Answer.refusal 18;
    } ∷
    -- condition: func:f void param:p ptr . block:e br 1 :l :k block:l x=phi i8 %u :e . ret - . .
    record {
      entries =
          (5, 1) ∷ (10, 0) ∷ (6, 5) ∷ (12, 0) ∷ (0, 0) ∷ (7, 0) ∷ (91, 0) ∷ (32, 1) ∷ (23, 3) ∷ (23, 2) ∷ (7, 3) ∷ (75, 7) ∷ (11, 8) ∷ (30, 5) ∷ (23, 0)
          ∷ (0, 0) ∷ (90, 0) ∷ (21, 0) ∷ (0, 0) ∷ (0, 0) ∷ [];
      names =
          "e" ∷ "f" ∷ "k" ∷ "l" ∷ "p" ∷ "u" ∷ "x" ∷ [];
      says = Answer.refusal 10;
    } ∷
    -- condition: func:f void param:p ptr . block:e br 1 :l :k block:l x=phi i8 1 :e . ret - . .
    record {
      entries =
          (5, 1) ∷ (10, 0) ∷ (6, 5) ∷ (12, 0) ∷ (0, 0) ∷ (7, 0) ∷ (91, 0) ∷ (32, 1) ∷ (23, 3) ∷ (23, 2) ∷ (7, 3) ∷ (75, 6) ∷ (11, 8) ∷ (32, 1) ∷ (23, 0)
          ∷ (0, 0) ∷ (90, 0) ∷ (21, 0) ∷ (0, 0) ∷ (0, 0) ∷ [];
      names =
          "e" ∷ "f" ∷ "k" ∷ "l" ∷ "p" ∷ "x" ∷ [];
      says = Answer.refusal 17;
    } ∷
    -- condition: func:f void param:p ptr . block:e br 1 :l :k block:l x=phi i8 1 :e . ret - block:k y=phi i8 . ret - . .
    record {
      entries =
          (5, 1) ∷ (10, 0) ∷ (6, 5) ∷ (12, 0) ∷ (0, 0) ∷ (7, 0) ∷ (91, 0) ∷ (32, 1) ∷ (23, 3) ∷ (23, 2) ∷ (7, 3) ∷ (75, 6) ∷ (11, 8) ∷ (32, 1) ∷ (23, 0)
          ∷ (0, 0) ∷ (90, 0) ∷ (21, 0) ∷ (7, 2) ∷ (75, 7) ∷ (11, 8) ∷ (0, 0) ∷ (90, 0) ∷ (21, 0) ∷ (0, 0) ∷ (0, 0) ∷ [];
      names =
          "e" ∷ "f" ∷ "k" ∷ "l" ∷ "p" ∷ "x" ∷ "y" ∷ [];
      says = Answer.refusal 18;
    } ∷
    -- condition: func:f void param:p ptr . block:e br 1 :l :k block:l x=phi i8 1 :e . ret - block:k y=phi i8 2 :e . ret - . .
    record {
      entries =
          (5, 1) ∷ (10, 0) ∷ (6, 5) ∷ (12, 0) ∷ (0, 0) ∷ (7, 0) ∷ (91, 0) ∷ (32, 1) ∷ (23, 3) ∷ (23, 2) ∷ (7, 3) ∷ (75, 6) ∷ (11, 8) ∷ (32, 1) ∷ (23, 0)
          ∷ (0, 0) ∷ (90, 0) ∷ (21, 0) ∷ (7, 2) ∷ (75, 7) ∷ (11, 8) ∷ (32, 2) ∷ (23, 0) ∷ (0, 0) ∷ (90, 0) ∷ (21, 0) ∷ (0, 0) ∷ (0, 0) ∷ [];
      names =
          "e" ∷ "f" ∷ "k" ∷ "l" ∷ "p" ∷ "x" ∷ "y" ∷ [];
      says = Answer.text (unlines (
          "# void @f(1 params)" ∷ "f:" ∷ "push_0n 2;" ∷ "f__e:" ∷ "push 1;" ∷ "jz __br_false_0;" ∷ "push 1;" ∷ "set_local 0;" ∷ "jmp f__l;" ∷ "__br_false_0:"
          ∷ "push 2;" ∷ "set_local 1;" ∷ "jmp f__k;" ∷ "f__l:" ∷ "push 0;" ∷ "ret;" ∷ "f__k:" ∷ "push 0;" ∷ "ret;" ∷ "" ∷ [])) 1;
    } ∷
    -- switch: func:f void param:p ptr . block:e switch label %u :k 1 :k . . .
    record {
      entries =
          (5, 1) ∷ (10, 0) ∷ (6, 4) ∷ (12, 0) ∷ (0, 0) ∷ (7, 0) ∷ (92, 0) ∷ (19, 0) ∷ (30, 4) ∷ (23, 2) ∷ (32, 1) ∷ (23, 2) ∷ (0, 0) ∷ (0, 0) ∷ (0, 0) ∷ [];
      names =
          "e" ∷ "f" ∷ "k" ∷ "p" ∷ "u" ∷ [];
      says = Answer.refusal 9;
    } ∷
    -- switch: func:f void param:p ptr . block:e switch i8 %u :k 1 :k . . .
    record {
      entries =
          (5, 1) ∷ (10, 0) ∷ (6, 4) ∷ (12, 0) ∷ (0, 0) ∷ (7, 0) ∷ (92, 0) ∷ (11, 8) ∷ (30, 4) ∷ (23, 2) ∷ (32, 1) ∷ (23, 2) ∷ (0, 0) ∷ (0, 0) ∷ (0, 0) ∷ [];
      names =
          "e" ∷ "f" ∷ "k" ∷ "p" ∷ "u" ∷ [];
      says = Answer.refusal 10;
    } ∷
    -- switch: func:f void param:p ptr . block:e switch i8 1 :k 1 :l . block:l x=phi i8 . ret - . .
    record {
      entries =
          (5, 1) ∷ (10, 0) ∷ (6, 5) ∷ (12, 0) ∷ (0, 0) ∷ (7, 0) ∷ (92, 0) ∷ (11, 8) ∷ (32, 1) ∷ (23, 2) ∷ (32, 1) ∷ (23, 3) ∷ (0, 0) ∷ (7, 3) ∷ (75, 6)
          ∷ (11, 8) ∷ (0, 0) ∷ (90, 0) ∷ (21, 0) ∷ (0, 0) ∷ (0, 0) ∷ [];
      names =
          "e" ∷ "f" ∷ "k" ∷ "l" ∷ "p" ∷ "x" ∷ [];
      says = Answer.refusal 17;
    } ∷
    -- switch: func:f void param:p ptr . block:e switch i8 1 :l 1 :k . block:l x=phi i8 . ret - . .
    record {
      entries =
          (5, 1) ∷ (10, 0) ∷ (6, 5) ∷ (12, 0) ∷ (0, 0) ∷ (7, 0) ∷ (92, 0) ∷ (11, 8) ∷ (32, 1) ∷ (23, 3) ∷ (32, 1) ∷ (23, 2) ∷ (0, 0) ∷ (7, 3) ∷ (75, 6)
          ∷ (11, 8) ∷ (0, 0) ∷ (90, 0) ∷ (21, 0) ∷ (0, 0) ∷ (0, 0) ∷ [];
      names =
          "e" ∷ "f" ∷ "k" ∷ "l" ∷ "p" ∷ "x" ∷ [];
      says = Answer.refusal 18;
    } ∷
    -- switch: func:f void param:p ptr . block:e switch i8 1 :l 1 :k . block:l x=phi i8 1 :e . ret - . .
    record {
      entries =
          (5, 1) ∷ (10, 0) ∷ (6, 5) ∷ (12, 0) ∷ (0, 0) ∷ (7, 0) ∷ (92, 0) ∷ (11, 8) ∷ (32, 1) ∷ (23, 3) ∷ (32, 1) ∷ (23, 2) ∷ (0, 0) ∷ (7, 3) ∷ (75, 6)
          ∷ (11, 8) ∷ (32, 1) ∷ (23, 0) ∷ (0, 0) ∷ (90, 0) ∷ (21, 0) ∷ (0, 0) ∷ (0, 0) ∷ [];
      names =
          "e" ∷ "f" ∷ "k" ∷ "l" ∷ "p" ∷ "x" ∷ [];
      says = Answer.refusal 17;
    } ∷
    -- switch: func:f void param:p ptr . block:e switch i8 1 :l 1 :k 1 :m . block:l x=phi i8 1 :e . ret - block:k y=phi i8 . ret - . .
    record {
      entries =
          (5, 1) ∷ (10, 0) ∷ (6, 6) ∷ (12, 0) ∷ (0, 0) ∷ (7, 0) ∷ (92, 0) ∷ (11, 8) ∷ (32, 1) ∷ (23, 3) ∷ (32, 1) ∷ (23, 2) ∷ (32, 1) ∷ (23, 4) ∷ (0, 0)
          ∷ (7, 3) ∷ (75, 7) ∷ (11, 8) ∷ (32, 1) ∷ (23, 0) ∷ (0, 0) ∷ (90, 0) ∷ (21, 0) ∷ (7, 2) ∷ (75, 8) ∷ (11, 8) ∷ (0, 0) ∷ (90, 0) ∷ (21, 0) ∷ (0, 0)
          ∷ (0, 0) ∷ [];
      names =
          "e" ∷ "f" ∷ "k" ∷ "l" ∷ "m" ∷ "p" ∷ "x" ∷ "y" ∷ [];
      says = Answer.refusal 18;
    } ∷
    -- switch: func:f void param:p ptr . block:e switch i8 1 :l 1 :k 1 :m . block:l x=phi i8 1 :e . ret - block:k y=phi i8 2 :e . ret - . .
    record {
      entries =
          (5, 1) ∷ (10, 0) ∷ (6, 6) ∷ (12, 0) ∷ (0, 0) ∷ (7, 0) ∷ (92, 0) ∷ (11, 8) ∷ (32, 1) ∷ (23, 3) ∷ (32, 1) ∷ (23, 2) ∷ (32, 1) ∷ (23, 4) ∷ (0, 0)
          ∷ (7, 3) ∷ (75, 7) ∷ (11, 8) ∷ (32, 1) ∷ (23, 0) ∷ (0, 0) ∷ (90, 0) ∷ (21, 0) ∷ (7, 2) ∷ (75, 8) ∷ (11, 8) ∷ (32, 2) ∷ (23, 0) ∷ (0, 0) ∷ (90, 0)
          ∷ (21, 0) ∷ (0, 0) ∷ (0, 0) ∷ [];
      names =
          "e" ∷ "f" ∷ "k" ∷ "l" ∷ "m" ∷ "p" ∷ "x" ∷ "y" ∷ [];
      says = Answer.refusal 17;
    } ∷
    -- switch: func:f void param:p ptr . block:e switch i8 1 :l 1 :k 1 :e . block:l x=phi i8 1 :e . ret - block:k y=phi i8 2 :e . ret - . .
    record {
      entries =
          (5, 1) ∷ (10, 0) ∷ (6, 5) ∷ (12, 0) ∷ (0, 0) ∷ (7, 0) ∷ (92, 0) ∷ (11, 8) ∷ (32, 1) ∷ (23, 3) ∷ (32, 1) ∷ (23, 2) ∷ (32, 1) ∷ (23, 0) ∷ (0, 0)
          ∷ (7, 3) ∷ (75, 6) ∷ (11, 8) ∷ (32, 1) ∷ (23, 0) ∷ (0, 0) ∷ (90, 0) ∷ (21, 0) ∷ (7, 2) ∷ (75, 7) ∷ (11, 8) ∷ (32, 2) ∷ (23, 0) ∷ (0, 0) ∷ (90, 0)
          ∷ (21, 0) ∷ (0, 0) ∷ (0, 0) ∷ [];
      names =
          "e" ∷ "f" ∷ "k" ∷ "l" ∷ "p" ∷ "x" ∷ "y" ∷ [];
      says = Answer.text (unlines (
          "# void @f(1 params)" ∷ "f:" ∷ "push_0n 2;" ∷ "f__e:" ∷ "push 1;" ∷ "push 1;" ∷ "eq_u32;" ∷ "jnz __sw_case_0;" ∷ "push 1;" ∷ "push 1;" ∷ "eq_u32;"
          ∷ "jnz __sw_case_1;" ∷ "push 1;" ∷ "set_local 0;" ∷ "jmp f__l;" ∷ "__sw_case_0:" ∷ "push 2;" ∷ "set_local 1;" ∷ "jmp f__k;" ∷ "__sw_case_1:"
          ∷ "jmp f__e;" ∷ "f__l:" ∷ "push 0;" ∷ "ret;" ∷ "f__k:" ∷ "push 0;" ∷ "ret;" ∷ "" ∷ [])) 2;
    } ∷
    -- switch without cases: func:f void param:p ptr . block:e switch void %u :k . . .
    record {
      entries =
          (5, 1) ∷ (10, 0) ∷ (6, 4) ∷ (12, 0) ∷ (0, 0) ∷ (7, 0) ∷ (92, 0) ∷ (10, 0) ∷ (30, 4) ∷ (23, 2) ∷ (0, 0) ∷ (0, 0) ∷ (0, 0) ∷ [];
      names =
          "e" ∷ "f" ∷ "k" ∷ "p" ∷ "u" ∷ [];
      says = Answer.refusal 9;
    } ∷
    -- switch without cases: func:f void param:p ptr . block:e switch i8 %u :k . . .
    record {
      entries =
          (5, 1) ∷ (10, 0) ∷ (6, 4) ∷ (12, 0) ∷ (0, 0) ∷ (7, 0) ∷ (92, 0) ∷ (11, 8) ∷ (30, 4) ∷ (23, 2) ∷ (0, 0) ∷ (0, 0) ∷ (0, 0) ∷ [];
      names =
          "e" ∷ "f" ∷ "k" ∷ "p" ∷ "u" ∷ [];
      says = Answer.refusal 17;
    } ∷
    -- switch without cases: func:f void param:p ptr . block:e switch i8 %u :e . . .
    record {
      entries =
          (5, 1) ∷ (10, 0) ∷ (6, 3) ∷ (12, 0) ∷ (0, 0) ∷ (7, 0) ∷ (92, 0) ∷ (11, 8) ∷ (30, 3) ∷ (23, 0) ∷ (0, 0) ∷ (0, 0) ∷ (0, 0) ∷ [];
      names =
          "e" ∷ "f" ∷ "p" ∷ "u" ∷ [];
      says = Answer.text (unlines (
          "# void @f(1 params)" ∷ "f:" ∷ "f__e:" ∷ "jmp f__e;" ∷ "" ∷ [])) 0;
    } ∷
    -- blocks in order: func:f void param:p ptr . block:e add void 1 1 load i8 %u - br - :k - block:l store [3 i8 1 1 - ret label 1 . .
    record {
      entries =
          (5, 1) ∷ (10, 0) ∷ (6, 5) ∷ (12, 0) ∷ (0, 0) ∷ (7, 0) ∷ (40, 0) ∷ (10, 0) ∷ (32, 1) ∷ (32, 1) ∷ (71, 0) ∷ (11, 8) ∷ (30, 5) ∷ (21, 0) ∷ (91, 0)
          ∷ (21, 0) ∷ (23, 2) ∷ (21, 0) ∷ (7, 3) ∷ (72, 0) ∷ (13, 3) ∷ (11, 8) ∷ (32, 1) ∷ (32, 1) ∷ (21, 0) ∷ (90, 0) ∷ (19, 0) ∷ (32, 1) ∷ (0, 0) ∷ (0, 0)
          ∷ [];
      names =
          "e" ∷ "f" ∷ "k" ∷ "l" ∷ "p" ∷ "u" ∷ [];
      says = Answer.refusal 9;
    } ∷
    -- blocks in order: func:f void param:p ptr . block:e q=add i8 1 1 load i8 %u - br - :k - block:l store [3 i8 1 1 - ret label 1 . .
    record {
      entries =
          (5, 1) ∷ (10, 0) ∷ (6, 5) ∷ (12, 0) ∷ (0, 0) ∷ (7, 0) ∷ (40, 6) ∷ (11, 8) ∷ (32, 1) ∷ (32, 1) ∷ (71, 0) ∷ (11, 8) ∷ (30, 6) ∷ (21, 0) ∷ (91, 0)
          ∷ (21, 0) ∷ (23, 2) ∷ (21, 0) ∷ (7, 3) ∷ (72, 0) ∷ (13, 3) ∷ (11, 8) ∷ (32, 1) ∷ (32, 1) ∷ (21, 0) ∷ (90, 0) ∷ (19, 0) ∷ (32, 1) ∷ (0, 0) ∷ (0, 0)
          ∷ [];
      names =
          "e" ∷ "f" ∷ "k" ∷ "l" ∷ "p" ∷ "q" ∷ "u" ∷ [];
      says = Answer.refusal 10;
    } ∷
    -- blocks in order: func:f void param:p ptr . block:e q=add i8 1 1 x=load i8 %p - br - :k - block:l store [3 i8 1 1 - ret label 1 . .
    record {
      entries =
          (5, 1) ∷ (10, 0) ∷ (6, 5) ∷ (12, 0) ∷ (0, 0) ∷ (7, 0) ∷ (40, 6) ∷ (11, 8) ∷ (32, 1) ∷ (32, 1) ∷ (71, 7) ∷ (11, 8) ∷ (30, 4) ∷ (21, 0) ∷ (91, 0)
          ∷ (21, 0) ∷ (23, 2) ∷ (21, 0) ∷ (7, 3) ∷ (72, 0) ∷ (13, 3) ∷ (11, 8) ∷ (32, 1) ∷ (32, 1) ∷ (21, 0) ∷ (90, 0) ∷ (19, 0) ∷ (32, 1) ∷ (0, 0) ∷ (0, 0)
          ∷ [];
      names =
          "e" ∷ "f" ∷ "k" ∷ "l" ∷ "p" ∷ "q" ∷ "x" ∷ [];
      says = Answer.refusal 17;
    } ∷
    -- blocks in order: func:f void param:p ptr . block:e q=add i8 1 1 x=load i8 %p - br - :l - block:l store [3 i8 1 1 - ret label 1 . .
    record {
      entries =
          (5, 1) ∷ (10, 0) ∷ (6, 4) ∷ (12, 0) ∷ (0, 0) ∷ (7, 0) ∷ (40, 5) ∷ (11, 8) ∷ (32, 1) ∷ (32, 1) ∷ (71, 6) ∷ (11, 8) ∷ (30, 3) ∷ (21, 0) ∷ (91, 0)
          ∷ (21, 0) ∷ (23, 2) ∷ (21, 0) ∷ (7, 2) ∷ (72, 0) ∷ (13, 3) ∷ (11, 8) ∷ (32, 1) ∷ (32, 1) ∷ (21, 0) ∷ (90, 0) ∷ (19, 0) ∷ (32, 1) ∷ (0, 0) ∷ (0, 0)
          ∷ [];
      names =
          "e" ∷ "f" ∷ "l" ∷ "p" ∷ "q" ∷ "x" ∷ [];
      says = Answer.refusal 11;
    } ∷
    -- blocks in order: func:f void param:p ptr . block:e q=add i8 1 1 x=load i8 %p - br - :l - block:l store i8 1 1 - ret label 1 . .
    record {
      entries =
          (5, 1) ∷ (10, 0) ∷ (6, 4) ∷ (12, 0) ∷ (0, 0) ∷ (7, 0) ∷ (40, 5) ∷ (11, 8) ∷ (32, 1) ∷ (32, 1) ∷ (71, 6) ∷ (11, 8) ∷ (30, 3) ∷ (21, 0) ∷ (91, 0)
          ∷ (21, 0) ∷ (23, 2) ∷ (21, 0) ∷ (7, 2) ∷ (72, 0) ∷ (11, 8) ∷ (32, 1) ∷ (32, 1) ∷ (21, 0) ∷ (90, 0) ∷ (19, 0) ∷ (32, 1) ∷ (0, 0) ∷ (0, 0) ∷ [];
      names =
          "e" ∷ "f" ∷ "l" ∷ "p" ∷ "q" ∷ "x" ∷ [];
      says = Answer.refusal 9;
    } ∷
    -- blocks in order: func:f void param:p ptr . block:e q=add i8 1 1 x=load i8 %p - br - :l - block:l store i8 1 1 - ret i8 1 . .
    record {
      entries =
          (5, 1) ∷ (10, 0) ∷ (6, 4) ∷ (12, 0) ∷ (0, 0) ∷ (7, 0) ∷ (40, 5) ∷ (11, 8) ∷ (32, 1) ∷ (32, 1) ∷ (71, 6) ∷ (11, 8) ∷ (30, 3) ∷ (21, 0) ∷ (91, 0)
          ∷ (21, 0) ∷ (23, 2) ∷ (21, 0) ∷ (7, 2) ∷ (72, 0) ∷ (11, 8) ∷ (32, 1) ∷ (32, 1) ∷ (21, 0) ∷ (90, 0) ∷ (11, 8) ∷ (32, 1) ∷ (0, 0) ∷ (0, 0) ∷ [];
      names =
          "e" ∷ "f" ∷ "l" ∷ "p" ∷ "q" ∷ "x" ∷ [];
      says = Answer.text (unlines (
          "# void @f(1 params)" ∷ "f:" ∷ "push_0n 2;" ∷ "f__e:" ∷ "push 1;" ∷ "push 1;" ∷ "add_u32;" ∷ "trunc_u8;" ∷ "set_local 0;" ∷ "get_arg 0;"
          ∷ "load_u8;" ∷ "set_local 1;" ∷ "jmp f__l;" ∷ "f__l:" ∷ "push 1;" ∷ "push 1;" ∷ "store_u8;" ∷ "push 1;" ∷ "ret;" ∷ "" ∷ [])) 0;
    } ∷
    -- frame pass: func:f void param:p ptr . block:e add void %u %u br - :k - block:l alloca label - - ret - . .
    record {
      entries =
          (5, 1) ∷ (10, 0) ∷ (6, 5) ∷ (12, 0) ∷ (0, 0) ∷ (7, 0) ∷ (40, 0) ∷ (10, 0) ∷ (30, 5) ∷ (30, 5) ∷ (91, 0) ∷ (21, 0) ∷ (23, 2) ∷ (21, 0) ∷ (7, 3)
          ∷ (73, 0) ∷ (19, 0) ∷ (21, 0) ∷ (21, 0) ∷ (90, 0) ∷ (21, 0) ∷ (0, 0) ∷ (0, 0) ∷ [];
      names =
          "e" ∷ "f" ∷ "k" ∷ "l" ∷ "p" ∷ "u" ∷ [];
      says = Answer.refusal 5;
    } ∷
    -- frame pass: func:f void param:p ptr . block:e add void %u %u br - :k - block:l q=alloca label - - ret - . .
    record {
      entries =
          (5, 1) ∷ (10, 0) ∷ (6, 5) ∷ (12, 0) ∷ (0, 0) ∷ (7, 0) ∷ (40, 0) ∷ (10, 0) ∷ (30, 6) ∷ (30, 6) ∷ (91, 0) ∷ (21, 0) ∷ (23, 2) ∷ (21, 0) ∷ (7, 3)
          ∷ (73, 6) ∷ (19, 0) ∷ (21, 0) ∷ (21, 0) ∷ (90, 0) ∷ (21, 0) ∷ (0, 0) ∷ (0, 0) ∷ [];
      names =
          "e" ∷ "f" ∷ "k" ∷ "l" ∷ "p" ∷ "q" ∷ "u" ∷ [];
      says = Answer.refusal 6;
    } ∷
    -- frame pass: func:f void param:p ptr . block:e add void %u %u br - :k - block:l q=alloca i8 - - ret - . .
    record {
      entries =
          (5, 1) ∷ (10, 0) ∷ (6, 5) ∷ (12, 0) ∷ (0, 0) ∷ (7, 0) ∷ (40, 0) ∷ (10, 0) ∷ (30, 6) ∷ (30, 6) ∷ (91, 0) ∷ (21, 0) ∷ (23, 2) ∷ (21, 0) ∷ (7, 3)
          ∷ (73, 6) ∷ (11, 8) ∷ (21, 0) ∷ (21, 0) ∷ (90, 0) ∷ (21, 0) ∷ (0, 0) ∷ (0, 0) ∷ [];
      names =
          "e" ∷ "f" ∷ "k" ∷ "l" ∷ "p" ∷ "q" ∷ "u" ∷ [];
      says = Answer.refusal 9;
    } ∷
    []

pub chains_hold : map answers chains ≡ map says_of chains
unfolding open_sheet chains
chains_hold = refl
