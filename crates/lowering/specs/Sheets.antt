-- The cases marked M of "Sheets to check": one table, one theorem. Books go from raw entries to text bytes; {i8, i32, i8} is measured.
use Rattle.std.specs.Prelude.{ℕ, ◌≡◌, refl, true, false, List, [], ◌∷◌, map}
use Rattle.book.specs.Result.{Result, ok}
use Rattle.layout.specs.Cases.{measured, three_holds}
use Rattle.assembly.specs.Cases.{unlines}
use Rattle.lowering.specs.Sheet.{Sheet, Answer, answers, says_of, open_sheet}

unfoldable pub sheets : List Sheet
sheets =
    -- i32 @add1(i32 %a): %r = add i32 %a, 1; ret i32 %r
    record {
      entries =
          (5, 1) ∷ (11, 32) ∷ (6, 1) ∷ (11, 32) ∷ (0, 0) ∷ (7, 2) ∷ (40, 4) ∷ (11, 32) ∷ (30, 0) ∷ (32, 1) ∷ (90, 0) ∷ (11, 32) ∷ (30, 3) ∷ (0, 0) ∷ (0, 0) ∷ [];
      names = "a" ∷ "add1" ∷ "entry" ∷ "r" ∷ [];
      says = Answer.text (unlines (
          "# i32 @add1(1 params)" ∷ "add1:" ∷ "push_0n 1;" ∷ "add1__entry:" ∷ "get_arg 0;" ∷ "push 1;" ∷ "add_u32;" ∷ "set_local 0;" ∷ "get_local 0;" ∷ "ret;"
          ∷ "" ∷ [])) 0;
    } ∷
    -- getelementptr {i8, i32, i8}, %p, index 1, field 2
    record {
      entries =
          (5, 1) ∷ (10, 0) ∷ (6, 3) ∷ (12, 0) ∷ (0, 0) ∷ (7, 0) ∷ (74, 4) ∷ (16, 0) ∷ (11, 8) ∷ (11, 32) ∷ (11, 8) ∷ (0, 0) ∷ (30, 2) ∷ (11, 32) ∷ (32, 1)
          ∷ (11, 32) ∷ (32, 2) ∷ (0, 0) ∷ (90, 0) ∷ (21, 0) ∷ (0, 0) ∷ (0, 0) ∷ [];
      names = "e" ∷ "f" ∷ "p" ∷ "q" ∷ [];
      says = Answer.text (unlines (
          "# void @f(1 params)" ∷ "f:" ∷ "push_0n 1;" ∷ "f__e:" ∷ "get_arg 0;" ∷ "push 20;" ∷ "add_u64;" ∷ "set_local 0;" ∷ "push 0;" ∷ "ret;" ∷ "" ∷ [])) 0;
    } ∷
    -- index -1, field 0
    record {
      entries =
          (5, 1) ∷ (10, 0) ∷ (6, 3) ∷ (12, 0) ∷ (0, 0) ∷ (7, 0) ∷ (74, 4) ∷ (16, 0) ∷ (11, 8) ∷ (11, 32) ∷ (11, 8) ∷ (0, 0) ∷ (30, 2) ∷ (11, 32)
          ∷ (32, 18446744073709551615) ∷ (11, 32) ∷ (32, 0) ∷ (0, 0) ∷ (90, 0) ∷ (21, 0) ∷ (0, 0) ∷ (0, 0) ∷ [];
      names = "e" ∷ "f" ∷ "p" ∷ "q" ∷ [];
      says = Answer.text (unlines (
          "# void @f(1 params)" ∷ "f:" ∷ "push_0n 1;" ∷ "f__e:" ∷ "get_arg 0;" ∷ "push 18446744073709551604;" ∷ "add_u64;" ∷ "set_local 0;" ∷ "push 0;" ∷ "ret;"
          ∷ "" ∷ [])) 0;
    } ∷
    -- index 0, field 0
    record {
      entries =
          (5, 1) ∷ (10, 0) ∷ (6, 3) ∷ (12, 0) ∷ (0, 0) ∷ (7, 0) ∷ (74, 4) ∷ (16, 0) ∷ (11, 8) ∷ (11, 32) ∷ (11, 8) ∷ (0, 0) ∷ (30, 2) ∷ (11, 32) ∷ (32, 0)
          ∷ (11, 32) ∷ (32, 0) ∷ (0, 0) ∷ (90, 0) ∷ (21, 0) ∷ (0, 0) ∷ (0, 0) ∷ [];
      names = "e" ∷ "f" ∷ "p" ∷ "q" ∷ [];
      says = Answer.text (unlines (
          "# void @f(1 params)" ∷ "f:" ∷ "push_0n 1;" ∷ "f__e:" ∷ "get_arg 0;" ∷ "set_local 0;" ∷ "push 0;" ∷ "ret;" ∷ "" ∷ [])) 0;
    } ∷
    -- sext i1 to i8
    record {
      entries =
          (5, 1) ∷ (10, 0) ∷ (6, 3) ∷ (11, 1) ∷ (0, 0) ∷ (7, 0) ∷ (55, 4) ∷ (11, 1) ∷ (30, 2) ∷ (11, 8) ∷ (90, 0) ∷ (21, 0) ∷ (0, 0) ∷ (0, 0) ∷ [];
      names = "e" ∷ "f" ∷ "p" ∷ "q" ∷ [];
      says = Answer.text (unlines (
          "# void @f(1 params)" ∷ "f:" ∷ "push_0n 1;" ∷ "f__e:" ∷ "get_arg 0;" ∷ "push 1;" ∷ "and_u32;" ∷ "push 255;" ∷ "mul_u32;" ∷ "set_local 0;" ∷ "push 0;"
          ∷ "ret;" ∷ "" ∷ [])) 0;
    } ∷
    -- sext i8 to i16
    record {
      entries =
          (5, 1) ∷ (10, 0) ∷ (6, 3) ∷ (11, 8) ∷ (0, 0) ∷ (7, 0) ∷ (55, 4) ∷ (11, 8) ∷ (30, 2) ∷ (11, 16) ∷ (90, 0) ∷ (21, 0) ∷ (0, 0) ∷ (0, 0) ∷ [];
      names = "e" ∷ "f" ∷ "p" ∷ "q" ∷ [];
      says = Answer.text (unlines (
          "# void @f(1 params)" ∷ "f:" ∷ "push_0n 1;" ∷ "f__e:" ∷ "get_arg 0;" ∷ "sx_i8_i32;" ∷ "trunc_u16;" ∷ "set_local 0;" ∷ "push 0;" ∷ "ret;" ∷ "" ∷ [])) 0;
    } ∷
    -- phis: x takes y, y takes x
    record {
      entries =
          (5, 1) ∷ (10, 0) ∷ (0, 0) ∷ (7, 0) ∷ (91, 0) ∷ (21, 0) ∷ (23, 2) ∷ (21, 0) ∷ (7, 2) ∷ (75, 4) ∷ (11, 32) ∷ (32, 1) ∷ (23, 0) ∷ (30, 4) ∷ (23, 2)
          ∷ (0, 0) ∷ (75, 5) ∷ (11, 32) ∷ (32, 2) ∷ (23, 0) ∷ (30, 3) ∷ (23, 2) ∷ (0, 0) ∷ (91, 0) ∷ (21, 0) ∷ (23, 2) ∷ (21, 0) ∷ (0, 0) ∷ (0, 0) ∷ [];
      names = "e" ∷ "f" ∷ "l" ∷ "x" ∷ "y" ∷ [];
      says = Answer.text (unlines (
          "# void @f(0 params)" ∷ "f:" ∷ "push_0n 2;" ∷ "f__e:" ∷ "push 1;" ∷ "push 2;" ∷ "set_local 1;" ∷ "set_local 0;" ∷ "jmp f__l;" ∷ "f__l:"
          ∷ "get_local 1;" ∷ "get_local 0;" ∷ "set_local 1;" ∷ "set_local 0;" ∷ "jmp f__l;" ∷ "" ∷ [])) 0;
    } ∷
    -- alloca i8, then i32
    record {
      entries =
          (5, 1) ∷ (10, 0) ∷ (0, 0) ∷ (7, 0) ∷ (73, 3) ∷ (11, 8) ∷ (21, 0) ∷ (21, 0) ∷ (73, 4) ∷ (11, 32) ∷ (21, 0) ∷ (21, 0) ∷ (90, 0) ∷ (21, 0) ∷ (0, 0)
          ∷ (0, 0) ∷ [];
      names = "e" ∷ "f" ∷ "x" ∷ "y" ∷ [];
      says = Answer.text (unlines (
          "# void @f(0 params)" ∷ "f:" ∷ "push_0n 3;" ∷ "thread_get 0;" ∷ "dup;" ∷ "set_local 2;" ∷ "push 8;" ∷ "add_u64;" ∷ "thread_set 0;" ∷ "f__e:"
          ∷ "get_local 2;" ∷ "set_local 0;" ∷ "get_local 2;" ∷ "push 4;" ∷ "add_u64;" ∷ "set_local 1;" ∷ "push 0;" ∷ "get_local 2;" ∷ "thread_set 0;" ∷ "ret;"
          ∷ "" ∷ [])) 0;
    } ∷
    []

-- size and offsets of {i8, i32, i8}, and packed
unfoldable pub sizes : List (List (Result ℕ))
sizes = (ok 12 ∷ ok 0 ∷ ok 4 ∷ ok 8 ∷ []) ∷ (ok 6 ∷ ok 0 ∷ ok 1 ∷ ok 5 ∷ []) ∷ []

pub sheets_hold : (map answers sheets ≡ map says_of sheets) × (map measured (false ∷ true ∷ []) ≡ sizes)
unfolding open_sheet sheets sizes
sheets_hold = (refl, three_holds)
