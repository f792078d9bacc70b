-- Corners that random books meet seldom, both sides of each: counts and indices of odd types, strides of 0 and 1, results
-- that a call may have, names that nearly are special, maps with two of one name. With the answers of the published Rust;
-- written by `compare written`, in whose notation each book stands over its row.
use Rattle.std.specs.Prelude.{◌≡◌, refl, List, [], ◌∷◌, map}
use Rattle.assembly.specs.Cases.{unlines}
use Rattle.lowering.specs.Sheet.{Sheet, Answer, answers, says_of, open_sheet}

unfoldable pub corners : List Sheet
corners =
    -- count of a struct type, an integer: func:f void param:p ptr . block:e q=alloca i32 { i8 ptr } 3 - ret - . .
    record {
      entries =
          (5, 1) ∷ (10, 0) ∷ (6, 3) ∷ (12, 0) ∷ (0, 0) ∷ (7, 0) ∷ (73, 4) ∷ (11, 32) ∷ (16, 0) ∷ (11, 8) ∷ (12, 0) ∷ (0, 0) ∷ (32, 3) ∷ (21, 0) ∷ (90, 0)
          ∷ (21, 0) ∷ (0, 0) ∷ (0, 0) ∷ [];
      names =
          "e" ∷ "f" ∷ "p" ∷ "q" ∷ [];
      says = Answer.text (unlines (
          "# void @f(1 params)" ∷ "f:" ∷ "push_0n 2;" ∷ "thread_get 0;" ∷ "dup;" ∷ "set_local 1;" ∷ "push 16;" ∷ "add_u64;" ∷ "thread_set 0;" ∷ "f__e:"
          ∷ "get_local 1;" ∷ "set_local 0;" ∷ "push 0;" ∷ "get_local 1;" ∷ "thread_set 0;" ∷ "ret;" ∷ "" ∷ [])) 0;
    } ∷
    -- count of an array type, varying: func:f void param:p ptr . block:e q=alloca i32 [2 i8 %p - ret - . .
    record {
      entries =
          (5, 1) ∷ (10, 0) ∷ (6, 3) ∷ (12, 0) ∷ (0, 0) ∷ (7, 0) ∷ (73, 4) ∷ (11, 32) ∷ (13, 2) ∷ (11, 8) ∷ (30, 2) ∷ (21, 0) ∷ (90, 0) ∷ (21, 0) ∷ (0, 0)
          ∷ (0, 0) ∷ [];
      names =
          "e" ∷ "f" ∷ "p" ∷ "q" ∷ [];
      says = Answer.text (unlines (
          "# void @f(1 params)" ∷ "f:" ∷ "push_0n 2;" ∷ "thread_get 0;" ∷ "dup;" ∷ "set_local 1;" ∷ "push 0;" ∷ "add_u64;" ∷ "thread_set 0;" ∷ "f__e:"
          ∷ "thread_get 0;" ∷ "push 7;" ∷ "add_u64;" ∷ "push 18446744073709551608;" ∷ "and_u64;" ∷ "dup;" ∷ "get_arg 0;" ∷ "push 4;" ∷ "mul_u64;"
          ∷ "add_u64;" ∷ "thread_set 0;" ∷ "set_local 0;" ∷ "push 0;" ∷ "get_local 1;" ∷ "thread_set 0;" ∷ "ret;" ∷ "" ∷ [])) 0;
    } ∷
    -- count of label type: func:f void param:p ptr . block:e q=alloca i8 label 2 - x=alloca i8 label null - ret - . .
    record {
      entries =
          (5, 1) ∷ (10, 0) ∷ (6, 3) ∷ (12, 0) ∷ (0, 0) ∷ (7, 0) ∷ (73, 4) ∷ (11, 8) ∷ (19, 0) ∷ (32, 2) ∷ (21, 0) ∷ (73, 5) ∷ (11, 8) ∷ (19, 0) ∷ (33, 0)
          ∷ (21, 0) ∷ (90, 0) ∷ (21, 0) ∷ (0, 0) ∷ (0, 0) ∷ [];
      names =
          "e" ∷ "f" ∷ "p" ∷ "q" ∷ "x" ∷ [];
      says = Answer.text (unlines (
          "# void @f(1 params)" ∷ "f:" ∷ "push_0n 3;" ∷ "thread_get 0;" ∷ "dup;" ∷ "set_local 2;" ∷ "push 8;" ∷ "add_u64;" ∷ "thread_set 0;" ∷ "f__e:"
          ∷ "get_local 2;" ∷ "set_local 0;" ∷ "thread_get 0;" ∷ "push 7;" ∷ "add_u64;" ∷ "push 18446744073709551608;" ∷ "and_u64;" ∷ "dup;" ∷ "push 0;"
          ∷ "add_u64;" ∷ "thread_set 0;" ∷ "set_local 1;" ∷ "push 0;" ∷ "get_local 2;" ∷ "thread_set 0;" ∷ "ret;" ∷ "" ∷ [])) 0;
    } ∷
    -- count 0: func:f void param:p ptr . block:e q=alloca i32 i8 0 - x=alloca i64 - - ret - . .
    record {
      entries =
          (5, 1) ∷ (10, 0) ∷ (6, 3) ∷ (12, 0) ∷ (0, 0) ∷ (7, 0) ∷ (73, 4) ∷ (11, 32) ∷ (11, 8) ∷ (32, 0) ∷ (21, 0) ∷ (73, 5) ∷ (11, 64) ∷ (21, 0) ∷ (21, 0)
          ∷ (90, 0) ∷ (21, 0) ∷ (0, 0) ∷ (0, 0) ∷ [];
      names =
          "e" ∷ "f" ∷ "p" ∷ "q" ∷ "x" ∷ [];
      says = Answer.text (unlines (
          "# void @f(1 params)" ∷ "f:" ∷ "push_0n 3;" ∷ "thread_get 0;" ∷ "dup;" ∷ "set_local 2;" ∷ "push 8;" ∷ "add_u64;" ∷ "thread_set 0;" ∷ "f__e:"
          ∷ "get_local 2;" ∷ "set_local 0;" ∷ "get_local 2;" ∷ "set_local 1;" ∷ "push 0;" ∷ "get_local 2;" ∷ "thread_set 0;" ∷ "ret;" ∷ "" ∷ [])) 0;
    } ∷
    -- count -1 of size 0: func:f void param:p ptr . block:e q=alloca { } i64 -1 - ret - . .
    record {
      entries =
          (5, 1) ∷ (10, 0) ∷ (6, 3) ∷ (12, 0) ∷ (0, 0) ∷ (7, 0) ∷ (73, 4) ∷ (16, 0) ∷ (0, 0) ∷ (11, 64) ∷ (32, 18446744073709551615) ∷ (21, 0) ∷ (90, 0)
          ∷ (21, 0) ∷ (0, 0) ∷ (0, 0) ∷ [];
      names =
          "e" ∷ "f" ∷ "p" ∷ "q" ∷ [];
      says = Answer.text (unlines (
          "# void @f(1 params)" ∷ "f:" ∷ "push_0n 1;" ∷ "f__e:" ∷ "get_local 1;" ∷ "set_local 0;" ∷ "push 0;" ∷ "ret;" ∷ "" ∷ [])) 0;
    } ∷
    -- count -1 of size 1: func:f void param:p ptr . block:e q=alloca i8 i64 -1 - ret - . .
    record {
      entries =
          (5, 1) ∷ (10, 0) ∷ (6, 3) ∷ (12, 0) ∷ (0, 0) ∷ (7, 0) ∷ (73, 4) ∷ (11, 8) ∷ (11, 64) ∷ (32, 18446744073709551615) ∷ (21, 0) ∷ (90, 0) ∷ (21, 0)
          ∷ (0, 0) ∷ (0, 0) ∷ [];
      names =
          "e" ∷ "f" ∷ "p" ∷ "q" ∷ [];
      says = Answer.refusal 7;
    } ∷
    -- count of a type above the frame, 2^31 bytes: func:f void param:p ptr . block:e q=alloca i64 i64 268435456 - ret - . .
    record {
      entries =
          (5, 1) ∷ (10, 0) ∷ (6, 3) ∷ (12, 0) ∷ (0, 0) ∷ (7, 0) ∷ (73, 4) ∷ (11, 64) ∷ (11, 64) ∷ (32, 268435456) ∷ (21, 0) ∷ (90, 0) ∷ (21, 0) ∷ (0, 0)
          ∷ (0, 0) ∷ [];
      names =
          "e" ∷ "f" ∷ "p" ∷ "q" ∷ [];
      says = Answer.text (unlines (
          "# void @f(1 params)" ∷ "f:" ∷ "push_0n 2;" ∷ "thread_get 0;" ∷ "dup;" ∷ "set_local 1;" ∷ "push 2147483648;" ∷ "add_u64;" ∷ "thread_set 0;"
          ∷ "f__e:" ∷ "get_local 1;" ∷ "set_local 0;" ∷ "push 0;" ∷ "get_local 1;" ∷ "thread_set 0;" ∷ "ret;" ∷ "" ∷ [])) 0;
    } ∷
    -- count of a type above the frame, one more: func:f void param:p ptr . block:e q=alloca i64 i64 268435457 - ret - . .
    record {
      entries =
          (5, 1) ∷ (10, 0) ∷ (6, 3) ∷ (12, 0) ∷ (0, 0) ∷ (7, 0) ∷ (73, 4) ∷ (11, 64) ∷ (11, 64) ∷ (32, 268435457) ∷ (21, 0) ∷ (90, 0) ∷ (21, 0) ∷ (0, 0)
          ∷ (0, 0) ∷ [];
      names =
          "e" ∷ "f" ∷ "p" ∷ "q" ∷ [];
      says = Answer.refusal 7;
    } ∷
    -- frame rounded up to 2^31: func:f void param:p ptr . block:e q=alloca i8 i64 2147483641 - ret - . .
    record {
      entries =
          (5, 1) ∷ (10, 0) ∷ (6, 3) ∷ (12, 0) ∷ (0, 0) ∷ (7, 0) ∷ (73, 4) ∷ (11, 8) ∷ (11, 64) ∷ (32, 2147483641) ∷ (21, 0) ∷ (90, 0) ∷ (21, 0) ∷ (0, 0)
          ∷ (0, 0) ∷ [];
      names =
          "e" ∷ "f" ∷ "p" ∷ "q" ∷ [];
      says = Answer.text (unlines (
          "# void @f(1 params)" ∷ "f:" ∷ "push_0n 2;" ∷ "thread_get 0;" ∷ "dup;" ∷ "set_local 1;" ∷ "push 2147483648;" ∷ "add_u64;" ∷ "thread_set 0;"
          ∷ "f__e:" ∷ "get_local 1;" ∷ "set_local 0;" ∷ "push 0;" ∷ "get_local 1;" ∷ "thread_set 0;" ∷ "ret;" ∷ "" ∷ [])) 0;
    } ∷
    -- fixed place, stated align: func:f void param:p ptr . block:e q=alloca i8 - #4096 x=alloca i8 - #64 ret - . .
    record {
      entries =
          (5, 1) ∷ (10, 0) ∷ (6, 3) ∷ (12, 0) ∷ (0, 0) ∷ (7, 0) ∷ (73, 4) ∷ (11, 8) ∷ (21, 0) ∷ (22, 4096) ∷ (73, 5) ∷ (11, 8) ∷ (21, 0) ∷ (22, 64) ∷ (90, 0)
          ∷ (21, 0) ∷ (0, 0) ∷ (0, 0) ∷ [];
      names =
          "e" ∷ "f" ∷ "p" ∷ "q" ∷ "x" ∷ [];
      says = Answer.text (unlines (
          "# void @f(1 params)" ∷ "f:" ∷ "push_0n 3;" ∷ "thread_get 0;" ∷ "dup;" ∷ "set_local 2;" ∷ "push 8;" ∷ "add_u64;" ∷ "thread_set 0;" ∷ "f__e:"
          ∷ "get_local 2;" ∷ "set_local 0;" ∷ "get_local 2;" ∷ "push 1;" ∷ "add_u64;" ∷ "set_local 1;" ∷ "push 0;" ∷ "get_local 2;" ∷ "thread_set 0;"
          ∷ "ret;" ∷ "" ∷ [])) 0;
    } ∷
    -- varying place, align 4096: func:f void param:p ptr . block:e q=alloca i8 i8 %p #4096 ret - . .
    record {
      entries =
          (5, 1) ∷ (10, 0) ∷ (6, 3) ∷ (12, 0) ∷ (0, 0) ∷ (7, 0) ∷ (73, 4) ∷ (11, 8) ∷ (11, 8) ∷ (30, 2) ∷ (22, 4096) ∷ (90, 0) ∷ (21, 0) ∷ (0, 0) ∷ (0, 0)
          ∷ [];
      names =
          "e" ∷ "f" ∷ "p" ∷ "q" ∷ [];
      says = Answer.text (unlines (
          "# void @f(1 params)" ∷ "f:" ∷ "push_0n 2;" ∷ "thread_get 0;" ∷ "dup;" ∷ "set_local 1;" ∷ "push 0;" ∷ "add_u64;" ∷ "thread_set 0;" ∷ "f__e:"
          ∷ "thread_get 0;" ∷ "push 4095;" ∷ "add_u64;" ∷ "push 18446744073709547520;" ∷ "and_u64;" ∷ "dup;" ∷ "get_arg 0;" ∷ "add_u64;" ∷ "thread_set 0;"
          ∷ "set_local 0;" ∷ "push 0;" ∷ "get_local 1;" ∷ "thread_set 0;" ∷ "ret;" ∷ "" ∷ [])) 0;
    } ∷
    -- varying place, align 4: func:f void param:p ptr . block:e q=alloca i64 i8 %p #4 ret - . .
    record {
      entries =
          (5, 1) ∷ (10, 0) ∷ (6, 3) ∷ (12, 0) ∷ (0, 0) ∷ (7, 0) ∷ (73, 4) ∷ (11, 64) ∷ (11, 8) ∷ (30, 2) ∷ (22, 4) ∷ (90, 0) ∷ (21, 0) ∷ (0, 0) ∷ (0, 0) ∷ [];
      names =
          "e" ∷ "f" ∷ "p" ∷ "q" ∷ [];
      says = Answer.text (unlines (
          "# void @f(1 params)" ∷ "f:" ∷ "push_0n 2;" ∷ "thread_get 0;" ∷ "dup;" ∷ "set_local 1;" ∷ "push 0;" ∷ "add_u64;" ∷ "thread_set 0;" ∷ "f__e:"
          ∷ "thread_get 0;" ∷ "push 7;" ∷ "add_u64;" ∷ "push 18446744073709551608;" ∷ "and_u64;" ∷ "dup;" ∷ "get_arg 0;" ∷ "push 8;" ∷ "mul_u64;"
          ∷ "add_u64;" ∷ "thread_set 0;" ∷ "set_local 0;" ∷ "push 0;" ∷ "get_local 1;" ∷ "thread_set 0;" ∷ "ret;" ∷ "" ∷ [])) 0;
    } ∷
    -- varying place of size 0: func:f void param:p ptr . block:e q=alloca { } i8 %p - ret - . .
    record {
      entries =
          (5, 1) ∷ (10, 0) ∷ (6, 3) ∷ (12, 0) ∷ (0, 0) ∷ (7, 0) ∷ (73, 4) ∷ (16, 0) ∷ (0, 0) ∷ (11, 8) ∷ (30, 2) ∷ (21, 0) ∷ (90, 0) ∷ (21, 0) ∷ (0, 0)
          ∷ (0, 0) ∷ [];
      names =
          "e" ∷ "f" ∷ "p" ∷ "q" ∷ [];
      says = Answer.text (unlines (
          "# void @f(1 params)" ∷ "f:" ∷ "push_0n 2;" ∷ "thread_get 0;" ∷ "dup;" ∷ "set_local 1;" ∷ "push 0;" ∷ "add_u64;" ∷ "thread_set 0;" ∷ "f__e:"
          ∷ "thread_get 0;" ∷ "push 7;" ∷ "add_u64;" ∷ "push 18446744073709551608;" ∷ "and_u64;" ∷ "dup;" ∷ "get_arg 0;" ∷ "push 0;" ∷ "mul_u64;"
          ∷ "add_u64;" ∷ "thread_set 0;" ∷ "set_local 0;" ∷ "push 0;" ∷ "get_local 1;" ∷ "thread_set 0;" ∷ "ret;" ∷ "" ∷ [])) 0;
    } ∷
    -- varying place of size 1: func:f void param:p ptr . block:e q=alloca { i8 } i8 %p - ret - . .
    record {
      entries =
          (5, 1) ∷ (10, 0) ∷ (6, 3) ∷ (12, 0) ∷ (0, 0) ∷ (7, 0) ∷ (73, 4) ∷ (16, 0) ∷ (11, 8) ∷ (0, 0) ∷ (11, 8) ∷ (30, 2) ∷ (21, 0) ∷ (90, 0) ∷ (21, 0)
          ∷ (0, 0) ∷ (0, 0) ∷ [];
      names =
          "e" ∷ "f" ∷ "p" ∷ "q" ∷ [];
      says = Answer.text (unlines (
          "# void @f(1 params)" ∷ "f:" ∷ "push_0n 2;" ∷ "thread_get 0;" ∷ "dup;" ∷ "set_local 1;" ∷ "push 0;" ∷ "add_u64;" ∷ "thread_set 0;" ∷ "f__e:"
          ∷ "thread_get 0;" ∷ "push 7;" ∷ "add_u64;" ∷ "push 18446744073709551608;" ∷ "and_u64;" ∷ "dup;" ∷ "get_arg 0;" ∷ "add_u64;" ∷ "thread_set 0;"
          ∷ "set_local 0;" ∷ "push 0;" ∷ "get_local 1;" ∷ "thread_set 0;" ∷ "ret;" ∷ "" ∷ [])) 0;
    } ∷
    -- varying place of size 2: func:f void param:p ptr . block:e q=alloca i16 i8 zero - ret - . .
    record {
      entries =
          (5, 1) ∷ (10, 0) ∷ (6, 3) ∷ (12, 0) ∷ (0, 0) ∷ (7, 0) ∷ (73, 4) ∷ (11, 16) ∷ (11, 8) ∷ (36, 0) ∷ (21, 0) ∷ (90, 0) ∷ (21, 0) ∷ (0, 0) ∷ (0, 0) ∷ [];
      names =
          "e" ∷ "f" ∷ "p" ∷ "q" ∷ [];
      says = Answer.text (unlines (
          "# void @f(1 params)" ∷ "f:" ∷ "push_0n 2;" ∷ "thread_get 0;" ∷ "dup;" ∷ "set_local 1;" ∷ "push 0;" ∷ "add_u64;" ∷ "thread_set 0;" ∷ "f__e:"
          ∷ "thread_get 0;" ∷ "push 7;" ∷ "add_u64;" ∷ "push 18446744073709551608;" ∷ "and_u64;" ∷ "dup;" ∷ "push 0;" ∷ "push 2;" ∷ "mul_u64;" ∷ "add_u64;"
          ∷ "thread_set 0;" ∷ "set_local 0;" ∷ "push 0;" ∷ "get_local 1;" ∷ "thread_set 0;" ∷ "ret;" ∷ "" ∷ [])) 0;
    } ∷
    -- varying place named like a fixed one behind it: func:f void param:p ptr . block:e q=alloca label i8 %u - q=alloca i8 - - ret - . .
    record {
      entries =
          (5, 1) ∷ (10, 0) ∷ (6, 3) ∷ (12, 0) ∷ (0, 0) ∷ (7, 0) ∷ (73, 4) ∷ (19, 0) ∷ (11, 8) ∷ (30, 4) ∷ (21, 0) ∷ (73, 4) ∷ (11, 8) ∷ (21, 0) ∷ (21, 0)
          ∷ (90, 0) ∷ (21, 0) ∷ (0, 0) ∷ (0, 0) ∷ [];
      names =
          "e" ∷ "f" ∷ "p" ∷ "q" ∷ "u" ∷ [];
      says = Answer.text (unlines (
          "# void @f(1 params)" ∷ "f:" ∷ "push_0n 3;" ∷ "thread_get 0;" ∷ "dup;" ∷ "set_local 2;" ∷ "push 8;" ∷ "add_u64;" ∷ "thread_set 0;" ∷ "f__e:"
          ∷ "get_local 2;" ∷ "set_local 1;" ∷ "get_local 2;" ∷ "set_local 1;" ∷ "push 0;" ∷ "get_local 2;" ∷ "thread_set 0;" ∷ "ret;" ∷ "" ∷ [])) 0;
    } ∷
    -- varying place named like a fixed one before it: func:f void param:p ptr . block:e q=alloca i8 - - x=alloca i64 - - q=alloca label i8 %u - ret - . .
    record {
      entries =
          (5, 1) ∷ (10, 0) ∷ (6, 3) ∷ (12, 0) ∷ (0, 0) ∷ (7, 0) ∷ (73, 4) ∷ (11, 8) ∷ (21, 0) ∷ (21, 0) ∷ (73, 6) ∷ (11, 64) ∷ (21, 0) ∷ (21, 0) ∷ (73, 4)
          ∷ (19, 0) ∷ (11, 8) ∷ (30, 4) ∷ (21, 0) ∷ (90, 0) ∷ (21, 0) ∷ (0, 0) ∷ (0, 0) ∷ [];
      names =
          "e" ∷ "f" ∷ "p" ∷ "q" ∷ "u" ∷ "x" ∷ [];
      says = Answer.text (unlines (
          "# void @f(1 params)" ∷ "f:" ∷ "push_0n 4;" ∷ "thread_get 0;" ∷ "dup;" ∷ "set_local 3;" ∷ "push 16;" ∷ "add_u64;" ∷ "thread_set 0;" ∷ "f__e:"
          ∷ "get_local 3;" ∷ "set_local 2;" ∷ "get_local 3;" ∷ "push 8;" ∷ "add_u64;" ∷ "set_local 1;" ∷ "get_local 3;" ∷ "set_local 2;" ∷ "push 0;"
          ∷ "get_local 3;" ∷ "thread_set 0;" ∷ "ret;" ∷ "" ∷ [])) 0;
    } ∷
    -- two fixed places of one name: func:f void param:p ptr . block:e q=alloca i8 - - x=alloca i8 - - q=alloca i8 - - ret - . .
    record {
      entries =
          (5, 1) ∷ (10, 0) ∷ (6, 3) ∷ (12, 0) ∷ (0, 0) ∷ (7, 0) ∷ (73, 4) ∷ (11, 8) ∷ (21, 0) ∷ (21, 0) ∷ (73, 5) ∷ (11, 8) ∷ (21, 0) ∷ (21, 0) ∷ (73, 4)
          ∷ (11, 8) ∷ (21, 0) ∷ (21, 0) ∷ (90, 0) ∷ (21, 0) ∷ (0, 0) ∷ (0, 0) ∷ [];
      names =
          "e" ∷ "f" ∷ "p" ∷ "q" ∷ "x" ∷ [];
      says = Answer.text (unlines (
          "# void @f(1 params)" ∷ "f:" ∷ "push_0n 4;" ∷ "thread_get 0;" ∷ "dup;" ∷ "set_local 3;" ∷ "push 8;" ∷ "add_u64;" ∷ "thread_set 0;" ∷ "f__e:"
          ∷ "get_local 3;" ∷ "push 2;" ∷ "add_u64;" ∷ "set_local 2;" ∷ "get_local 3;" ∷ "push 1;" ∷ "add_u64;" ∷ "set_local 1;" ∷ "get_local 3;" ∷ "push 2;"
          ∷ "add_u64;" ∷ "set_local 2;" ∷ "push 0;" ∷ "get_local 3;" ∷ "thread_set 0;" ∷ "ret;" ∷ "" ∷ [])) 0;
    } ∷
    -- varying index, stride 1: func:f void param:p ptr . block:e q=getelementptr i8 %p i64 %p . ret - . .
    record {
      entries =
          (5, 1) ∷ (10, 0) ∷ (6, 3) ∷ (12, 0) ∷ (0, 0) ∷ (7, 0) ∷ (74, 4) ∷ (11, 8) ∷ (30, 2) ∷ (11, 64) ∷ (30, 2) ∷ (0, 0) ∷ (90, 0) ∷ (21, 0) ∷ (0, 0)
          ∷ (0, 0) ∷ [];
      names =
          "e" ∷ "f" ∷ "p" ∷ "q" ∷ [];
      says = Answer.text (unlines (
          "# void @f(1 params)" ∷ "f:" ∷ "push_0n 1;" ∷ "f__e:" ∷ "get_arg 0;" ∷ "get_arg 0;" ∷ "push 1;" ∷ "mul_u64;" ∷ "add_u64;" ∷ "set_local 0;"
          ∷ "push 0;" ∷ "ret;" ∷ "" ∷ [])) 0;
    } ∷
    -- varying index, stride 0: func:f void param:p ptr . block:e q=getelementptr void %p i64 %p . ret - . .
    record {
      entries =
          (5, 1) ∷ (10, 0) ∷ (6, 3) ∷ (12, 0) ∷ (0, 0) ∷ (7, 0) ∷ (74, 4) ∷ (10, 0) ∷ (30, 2) ∷ (11, 64) ∷ (30, 2) ∷ (0, 0) ∷ (90, 0) ∷ (21, 0) ∷ (0, 0)
          ∷ (0, 0) ∷ [];
      names =
          "e" ∷ "f" ∷ "p" ∷ "q" ∷ [];
      says = Answer.text (unlines (
          "# void @f(1 params)" ∷ "f:" ∷ "push_0n 1;" ∷ "f__e:" ∷ "get_arg 0;" ∷ "get_arg 0;" ∷ "push 0;" ∷ "mul_u64;" ∷ "add_u64;" ∷ "set_local 0;"
          ∷ "push 0;" ∷ "ret;" ∷ "" ∷ [])) 0;
    } ∷
    -- varying index of ptr type, stride 2: func:f void param:p ptr . block:e q=getelementptr i16 %p ptr undef . ret - . .
    record {
      entries =
          (5, 1) ∷ (10, 0) ∷ (6, 3) ∷ (12, 0) ∷ (0, 0) ∷ (7, 0) ∷ (74, 4) ∷ (11, 16) ∷ (30, 2) ∷ (12, 0) ∷ (34, 0) ∷ (0, 0) ∷ (90, 0) ∷ (21, 0) ∷ (0, 0)
          ∷ (0, 0) ∷ [];
      names =
          "e" ∷ "f" ∷ "p" ∷ "q" ∷ [];
      says = Answer.text (unlines (
          "# void @f(1 params)" ∷ "f:" ∷ "push_0n 1;" ∷ "f__e:" ∷ "get_arg 0;" ∷ "push 0;" ∷ "push 2;" ∷ "mul_u64;" ∷ "add_u64;" ∷ "set_local 0;" ∷ "push 0;"
          ∷ "ret;" ∷ "" ∷ [])) 0;
    } ∷
    -- varying index of i1, stride 4: func:f void param:p ptr . block:e q=getelementptr i32 %p i1 %p . ret - . .
    record {
      entries =
          (5, 1) ∷ (10, 0) ∷ (6, 3) ∷ (12, 0) ∷ (0, 0) ∷ (7, 0) ∷ (74, 4) ∷ (11, 32) ∷ (30, 2) ∷ (11, 1) ∷ (30, 2) ∷ (0, 0) ∷ (90, 0) ∷ (21, 0) ∷ (0, 0)
          ∷ (0, 0) ∷ [];
      names =
          "e" ∷ "f" ∷ "p" ∷ "q" ∷ [];
      says = Answer.text (unlines (
          "# void @f(1 params)" ∷ "f:" ∷ "push_0n 1;" ∷ "f__e:" ∷ "get_arg 0;" ∷ "get_arg 0;" ∷ "push 1;" ∷ "and_u64;" ∷ "push 18446744073709551615;"
          ∷ "mul_u64;" ∷ "push 4;" ∷ "mul_u64;" ∷ "add_u64;" ∷ "set_local 0;" ∷ "push 0;" ∷ "ret;" ∷ "" ∷ [])) 0;
    } ∷
    -- varying index of i32, a global: func:f void param:p ptr . block:e q=getelementptr [3 i8 %p i32 @g i16 null . ret - . .
    record {
      entries =
          (5, 1) ∷ (10, 0) ∷ (6, 4) ∷ (12, 0) ∷ (0, 0) ∷ (7, 0) ∷ (74, 5) ∷ (13, 3) ∷ (11, 8) ∷ (30, 3) ∷ (11, 32) ∷ (31, 2) ∷ (11, 16) ∷ (33, 0) ∷ (0, 0)
          ∷ (90, 0) ∷ (21, 0) ∷ (0, 0) ∷ (0, 0) ∷ [];
      names =
          "e" ∷ "f" ∷ "g" ∷ "p" ∷ "q" ∷ [];
      says = Answer.text (unlines (
          "# void @f(1 params)" ∷ "f:" ∷ "push_0n 1;" ∷ "f__e:" ∷ "get_arg 0;" ∷ "push g;" ∷ "sx_i32_i64;" ∷ "push 3;" ∷ "mul_u64;" ∷ "add_u64;" ∷ "push 0;"
          ∷ "sx_i16_i64;" ∷ "push 1;" ∷ "mul_u64;" ∷ "add_u64;" ∷ "set_local 0;" ∷ "push 0;" ∷ "ret;" ∷ "" ∷ [])) 0;
    } ∷
    -- constant index of label type: func:f void param:p ptr . block:e q=getelementptr { i8 i32 } %p label 1 metadata 1 . ret - . .
    record {
      entries =
          (5, 1) ∷ (10, 0) ∷ (6, 3) ∷ (12, 0) ∷ (0, 0) ∷ (7, 0) ∷ (74, 4) ∷ (16, 0) ∷ (11, 8) ∷ (11, 32) ∷ (0, 0) ∷ (30, 2) ∷ (19, 0) ∷ (32, 1) ∷ (20, 0)
          ∷ (32, 1) ∷ (0, 0) ∷ (90, 0) ∷ (21, 0) ∷ (0, 0) ∷ (0, 0) ∷ [];
      names =
          "e" ∷ "f" ∷ "p" ∷ "q" ∷ [];
      says = Answer.text (unlines (
          "# void @f(1 params)" ∷ "f:" ∷ "push_0n 1;" ∷ "f__e:" ∷ "get_arg 0;" ∷ "push 12;" ∷ "add_u64;" ∷ "set_local 0;" ∷ "push 0;" ∷ "ret;" ∷ "" ∷ [])) 0;
    } ∷
    -- varying index of label type: func:f void param:p ptr . block:e q=getelementptr { i8 i32 } %p label %p metadata 1 . ret - . .
    record {
      entries =
          (5, 1) ∷ (10, 0) ∷ (6, 3) ∷ (12, 0) ∷ (0, 0) ∷ (7, 0) ∷ (74, 4) ∷ (16, 0) ∷ (11, 8) ∷ (11, 32) ∷ (0, 0) ∷ (30, 2) ∷ (19, 0) ∷ (30, 2) ∷ (20, 0)
          ∷ (32, 1) ∷ (0, 0) ∷ (90, 0) ∷ (21, 0) ∷ (0, 0) ∷ (0, 0) ∷ [];
      names =
          "e" ∷ "f" ∷ "p" ∷ "q" ∷ [];
      says = Answer.refusal 9;
    } ∷
    -- constants around a varying index: func:f void param:p ptr . block:e q=getelementptr [2 [2 i32 %p i8 1 i8 %p i8 1 . ret - . .
    record {
      entries =
          (5, 1) ∷ (10, 0) ∷ (6, 3) ∷ (12, 0) ∷ (0, 0) ∷ (7, 0) ∷ (74, 4) ∷ (13, 2) ∷ (13, 2) ∷ (11, 32) ∷ (30, 2) ∷ (11, 8) ∷ (32, 1) ∷ (11, 8) ∷ (30, 2)
          ∷ (11, 8) ∷ (32, 1) ∷ (0, 0) ∷ (90, 0) ∷ (21, 0) ∷ (0, 0) ∷ (0, 0) ∷ [];
      names =
          "e" ∷ "f" ∷ "p" ∷ "q" ∷ [];
      says = Answer.text (unlines (
          "# void @f(1 params)" ∷ "f:" ∷ "push_0n 1;" ∷ "f__e:" ∷ "get_arg 0;" ∷ "get_arg 0;" ∷ "sx_i8_i64;" ∷ "push 8;" ∷ "mul_u64;" ∷ "add_u64;"
          ∷ "push 20;" ∷ "add_u64;" ∷ "set_local 0;" ∷ "push 0;" ∷ "ret;" ∷ "" ∷ [])) 0;
    } ∷
    -- constants that cancel, a varying index between: func:f void param:p ptr . block:e q=getelementptr [2 [2 i32 %p i8 1 i8 %p i8 -4 . ret - . .
    record {
      entries =
          (5, 1) ∷ (10, 0) ∷ (6, 3) ∷ (12, 0) ∷ (0, 0) ∷ (7, 0) ∷ (74, 4) ∷ (13, 2) ∷ (13, 2) ∷ (11, 32) ∷ (30, 2) ∷ (11, 8) ∷ (32, 1) ∷ (11, 8) ∷ (30, 2)
          ∷ (11, 8) ∷ (32, 18446744073709551612) ∷ (0, 0) ∷ (90, 0) ∷ (21, 0) ∷ (0, 0) ∷ (0, 0) ∷ [];
      names =
          "e" ∷ "f" ∷ "p" ∷ "q" ∷ [];
      says = Answer.text (unlines (
          "# void @f(1 params)" ∷ "f:" ∷ "push_0n 1;" ∷ "f__e:" ∷ "get_arg 0;" ∷ "get_arg 0;" ∷ "sx_i8_i64;" ∷ "push 8;" ∷ "mul_u64;" ∷ "add_u64;"
          ∷ "set_local 0;" ∷ "push 0;" ∷ "ret;" ∷ "" ∷ [])) 0;
    } ∷
    -- array of length 0: func:f void param:p ptr . block:e q=getelementptr [0 i32 %p i8 7 i8 2 . ret - . .
    record {
      entries =
          (5, 1) ∷ (10, 0) ∷ (6, 3) ∷ (12, 0) ∷ (0, 0) ∷ (7, 0) ∷ (74, 4) ∷ (13, 0) ∷ (11, 32) ∷ (30, 2) ∷ (11, 8) ∷ (32, 7) ∷ (11, 8) ∷ (32, 2) ∷ (0, 0)
          ∷ (90, 0) ∷ (21, 0) ∷ (0, 0) ∷ (0, 0) ∷ [];
      names =
          "e" ∷ "f" ∷ "p" ∷ "q" ∷ [];
      says = Answer.text (unlines (
          "# void @f(1 params)" ∷ "f:" ∷ "push_0n 1;" ∷ "f__e:" ∷ "get_arg 0;" ∷ "push 8;" ∷ "add_u64;" ∷ "set_local 0;" ∷ "push 0;" ∷ "ret;" ∷ "" ∷ [])) 0;
    } ∷
    -- packed array: func:f void param:p ptr . block:e q=getelementptr <3 i16 %p i8 1 i8 2 . ret - . .
    record {
      entries =
          (5, 1) ∷ (10, 0) ∷ (6, 3) ∷ (12, 0) ∷ (0, 0) ∷ (7, 0) ∷ (74, 4) ∷ (14, 3) ∷ (11, 16) ∷ (30, 2) ∷ (11, 8) ∷ (32, 1) ∷ (11, 8) ∷ (32, 2) ∷ (0, 0)
          ∷ (90, 0) ∷ (21, 0) ∷ (0, 0) ∷ (0, 0) ∷ [];
      names =
          "e" ∷ "f" ∷ "p" ∷ "q" ∷ [];
      says = Answer.text (unlines (
          "# void @f(1 params)" ∷ "f:" ∷ "push_0n 1;" ∷ "f__e:" ∷ "get_arg 0;" ∷ "push 10;" ∷ "add_u64;" ∷ "set_local 0;" ∷ "push 0;" ∷ "ret;" ∷ "" ∷ [])) 0;
    } ∷
    -- packed struct, field 1: func:f void param:p ptr . block:e q=getelementptr <{ i8 i32 } %p i8 1 i8 1 . ret - . .
    record {
      entries =
          (5, 1) ∷ (10, 0) ∷ (6, 3) ∷ (12, 0) ∷ (0, 0) ∷ (7, 0) ∷ (74, 4) ∷ (17, 0) ∷ (11, 8) ∷ (11, 32) ∷ (0, 0) ∷ (30, 2) ∷ (11, 8) ∷ (32, 1) ∷ (11, 8)
          ∷ (32, 1) ∷ (0, 0) ∷ (90, 0) ∷ (21, 0) ∷ (0, 0) ∷ (0, 0) ∷ [];
      names =
          "e" ∷ "f" ∷ "p" ∷ "q" ∷ [];
      says = Answer.text (unlines (
          "# void @f(1 params)" ∷ "f:" ∷ "push_0n 1;" ∷ "f__e:" ∷ "get_arg 0;" ∷ "push 6;" ∷ "add_u64;" ∷ "set_local 0;" ∷ "push 0;" ∷ "ret;" ∷ "" ∷ [])) 0;
    } ∷
    -- size of a struct with a packed one: func:f void param:p ptr . block:e q=getelementptr { <{ i64 } i16 } %p i8 1 . ret - . .
    record {
      entries =
          (5, 1) ∷ (10, 0) ∷ (6, 3) ∷ (12, 0) ∷ (0, 0) ∷ (7, 0) ∷ (74, 4) ∷ (16, 0) ∷ (17, 0) ∷ (11, 64) ∷ (0, 0) ∷ (11, 16) ∷ (0, 0) ∷ (30, 2) ∷ (11, 8)
          ∷ (32, 1) ∷ (0, 0) ∷ (90, 0) ∷ (21, 0) ∷ (0, 0) ∷ (0, 0) ∷ [];
      names =
          "e" ∷ "f" ∷ "p" ∷ "q" ∷ [];
      says = Answer.text (unlines (
          "# void @f(1 params)" ∷ "f:" ∷ "push_0n 1;" ∷ "f__e:" ∷ "get_arg 0;" ∷ "push 10;" ∷ "add_u64;" ∷ "set_local 0;" ∷ "push 0;" ∷ "ret;" ∷ "" ∷ [])) 0;
    } ∷
    -- size of a struct with void: func:f void param:p ptr . block:e q=getelementptr { void ptr i1 } %p i8 1 i8 2 . ret - . .
    record {
      entries =
          (5, 1) ∷ (10, 0) ∷ (6, 3) ∷ (12, 0) ∷ (0, 0) ∷ (7, 0) ∷ (74, 4) ∷ (16, 0) ∷ (10, 0) ∷ (12, 0) ∷ (11, 1) ∷ (0, 0) ∷ (30, 2) ∷ (11, 8) ∷ (32, 1)
          ∷ (11, 8) ∷ (32, 2) ∷ (0, 0) ∷ (90, 0) ∷ (21, 0) ∷ (0, 0) ∷ (0, 0) ∷ [];
      names =
          "e" ∷ "f" ∷ "p" ∷ "q" ∷ [];
      says = Answer.text (unlines (
          "# void @f(1 params)" ∷ "f:" ∷ "push_0n 1;" ∷ "f__e:" ∷ "get_arg 0;" ∷ "push 24;" ∷ "add_u64;" ∷ "set_local 0;" ∷ "push 0;" ∷ "ret;" ∷ "" ∷ [])) 0;
    } ∷
    -- size of a struct padded at its end: func:f void param:p ptr . block:e q=getelementptr { i16 [3 i8 } %p i8 1 i8 1 . ret - . .
    record {
      entries =
          (5, 1) ∷ (10, 0) ∷ (6, 3) ∷ (12, 0) ∷ (0, 0) ∷ (7, 0) ∷ (74, 4) ∷ (16, 0) ∷ (11, 16) ∷ (13, 3) ∷ (11, 8) ∷ (0, 0) ∷ (30, 2) ∷ (11, 8) ∷ (32, 1)
          ∷ (11, 8) ∷ (32, 1) ∷ (0, 0) ∷ (90, 0) ∷ (21, 0) ∷ (0, 0) ∷ (0, 0) ∷ [];
      names =
          "e" ∷ "f" ∷ "p" ∷ "q" ∷ [];
      says = Answer.text (unlines (
          "# void @f(1 params)" ∷ "f:" ∷ "push_0n 1;" ∷ "f__e:" ∷ "get_arg 0;" ∷ "push 8;" ∷ "add_u64;" ∷ "set_local 0;" ∷ "push 0;" ∷ "ret;" ∷ "" ∷ [])) 0;
    } ∷
    -- size of a packed struct with padding inside: func:f void param:p ptr . block:e q=getelementptr <{ i8 { i8 i32 } } %p i8 1 i8 1 . ret - . .
    record {
      entries =
          (5, 1) ∷ (10, 0) ∷ (6, 3) ∷ (12, 0) ∷ (0, 0) ∷ (7, 0) ∷ (74, 4) ∷ (17, 0) ∷ (11, 8) ∷ (16, 0) ∷ (11, 8) ∷ (11, 32) ∷ (0, 0) ∷ (0, 0) ∷ (30, 2)
          ∷ (11, 8) ∷ (32, 1) ∷ (11, 8) ∷ (32, 1) ∷ (0, 0) ∷ (90, 0) ∷ (21, 0) ∷ (0, 0) ∷ (0, 0) ∷ [];
      names =
          "e" ∷ "f" ∷ "p" ∷ "q" ∷ [];
      says = Answer.text (unlines (
          "# void @f(1 params)" ∷ "f:" ∷ "push_0n 1;" ∷ "f__e:" ∷ "get_arg 0;" ∷ "push 10;" ∷ "add_u64;" ∷ "set_local 0;" ∷ "push 0;" ∷ "ret;" ∷ "" ∷ [])) 0;
    } ∷
    -- offset of a named struct: struct:s { i8 ptr } func:f void param:p ptr . block:e q=getelementptr { i8 %%s } %p i8 1 i8 1 i8 1 . ret - . .
    record {
      entries =
          (3, 4) ∷ (16, 0) ∷ (11, 8) ∷ (12, 0) ∷ (0, 0) ∷ (5, 1) ∷ (10, 0) ∷ (6, 3) ∷ (12, 0) ∷ (0, 0) ∷ (7, 0) ∷ (74, 4) ∷ (16, 0) ∷ (11, 8) ∷ (15, 4)
          ∷ (0, 0) ∷ (30, 2) ∷ (11, 8) ∷ (32, 1) ∷ (11, 8) ∷ (32, 1) ∷ (11, 8) ∷ (32, 1) ∷ (0, 0) ∷ (90, 0) ∷ (21, 0) ∷ (0, 0) ∷ (0, 0) ∷ [];
      names =
          "e" ∷ "f" ∷ "p" ∷ "q" ∷ "s" ∷ [];
      says = Answer.text (unlines (
          "# void @f(1 params)" ∷ "f:" ∷ "push_0n 1;" ∷ "f__e:" ∷ "get_arg 0;" ∷ "push 40;" ∷ "add_u64;" ∷ "set_local 0;" ∷ "push 0;" ∷ "ret;" ∷ "" ∷ [])) 0;
    } ∷
    -- no field: func:f void param:p ptr . block:e q=getelementptr { } %p i8 0 i8 0 . ret - . .
    record {
      entries =
          (5, 1) ∷ (10, 0) ∷ (6, 3) ∷ (12, 0) ∷ (0, 0) ∷ (7, 0) ∷ (74, 4) ∷ (16, 0) ∷ (0, 0) ∷ (30, 2) ∷ (11, 8) ∷ (32, 0) ∷ (11, 8) ∷ (32, 0) ∷ (0, 0)
          ∷ (90, 0) ∷ (21, 0) ∷ (0, 0) ∷ (0, 0) ∷ [];
      names =
          "e" ∷ "f" ∷ "p" ∷ "q" ∷ [];
      says = Answer.refusal 14;
    } ∷
    -- into a pointer: func:f void param:p ptr . block:e q=getelementptr ptr %p i8 0 i8 0 . ret - . .
    record {
      entries =
          (5, 1) ∷ (10, 0) ∷ (6, 3) ∷ (12, 0) ∷ (0, 0) ∷ (7, 0) ∷ (74, 4) ∷ (12, 0) ∷ (30, 2) ∷ (11, 8) ∷ (32, 0) ∷ (11, 8) ∷ (32, 0) ∷ (0, 0) ∷ (90, 0)
          ∷ (21, 0) ∷ (0, 0) ∷ (0, 0) ∷ [];
      names =
          "e" ∷ "f" ∷ "p" ∷ "q" ∷ [];
      says = Answer.refusal 14;
    } ∷
    -- into void: func:f void param:p ptr . block:e q=getelementptr void %p i8 0 i8 0 . ret - . .
    record {
      entries =
          (5, 1) ∷ (10, 0) ∷ (6, 3) ∷ (12, 0) ∷ (0, 0) ∷ (7, 0) ∷ (74, 4) ∷ (10, 0) ∷ (30, 2) ∷ (11, 8) ∷ (32, 0) ∷ (11, 8) ∷ (32, 0) ∷ (0, 0) ∷ (90, 0)
          ∷ (21, 0) ∷ (0, 0) ∷ (0, 0) ∷ [];
      names =
          "e" ∷ "f" ∷ "p" ∷ "q" ∷ [];
      says = Answer.refusal 14;
    } ∷
    []

pub corners_hold : map answers corners ≡ map says_of corners
unfolding open_sheet corners
corners_hold = refl
