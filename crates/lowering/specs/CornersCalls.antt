-- Corners that random books meet seldom, both sides of each: counts and indices of odd types, strides of 0 and 1, results
-- that a call may have, names that nearly are special, maps with two of one name. With the answers of the published Rust;
-- written by `compare written`, in whose notation each book stands over its row.
use Rattle.std.specs.Prelude.{◌≡◌, refl, List, [], ◌∷◌, map}
use Rattle.assembly.specs.Cases.{unlines}
use Rattle.lowering.specs.Sheet.{Sheet, Answer, answers, says_of, open_sheet}

unfoldable pub corners : List Sheet
corners =
    -- syscall, result of label type: func:f void param:p ptr . block:e q=call label @__uvm_a . ret - . .
    record {
      entries =
          (5, 2) ∷ (10, 0) ∷ (6, 4) ∷ (12, 0) ∷ (0, 0) ∷ (7, 1) ∷ (76, 5) ∷ (19, 0) ∷ (31, 0) ∷ (0, 0) ∷ (90, 0) ∷ (21, 0) ∷ (0, 0) ∷ (0, 0) ∷ [];
      names =
          "__uvm_a" ∷ "e" ∷ "f" ∷ "p" ∷ "q" ∷ [];
      says = Answer.text (unlines (
          "# void @f(1 params)" ∷ "f:" ∷ "push_0n 1;" ∷ "f__e:" ∷ "syscall a;" ∷ "set_local 0;" ∷ "push 0;" ∷ "ret;" ∷ "" ∷ [])) 0;
    } ∷
    -- syscall, result of function type: func:f void param:p ptr . block:e call functype @__uvm_a . ret - . .
    record {
      entries =
          (5, 2) ∷ (10, 0) ∷ (6, 4) ∷ (12, 0) ∷ (0, 0) ∷ (7, 1) ∷ (76, 0) ∷ (18, 0) ∷ (31, 0) ∷ (0, 0) ∷ (90, 0) ∷ (21, 0) ∷ (0, 0) ∷ (0, 0) ∷ [];
      names =
          "__uvm_a" ∷ "e" ∷ "f" ∷ "p" ∷ [];
      says = Answer.text (unlines (
          "# void @f(1 params)" ∷ "f:" ∷ "f__e:" ∷ "syscall a;" ∷ "pop;" ∷ "push 0;" ∷ "ret;" ∷ "" ∷ [])) 0;
    } ∷
    -- syscall, result of struct type: func:f void param:p ptr . block:e q=call { i8 } @__uvm_a . ret - . .
    record {
      entries =
          (5, 2) ∷ (10, 0) ∷ (6, 4) ∷ (12, 0) ∷ (0, 0) ∷ (7, 1) ∷ (76, 5) ∷ (16, 0) ∷ (11, 8) ∷ (0, 0) ∷ (31, 0) ∷ (0, 0) ∷ (90, 0) ∷ (21, 0) ∷ (0, 0)
          ∷ (0, 0) ∷ [];
      names =
          "__uvm_a" ∷ "e" ∷ "f" ∷ "p" ∷ "q" ∷ [];
      says = Answer.text (unlines (
          "# void @f(1 params)" ∷ "f:" ∷ "push_0n 1;" ∷ "f__e:" ∷ "syscall a;" ∷ "set_local 0;" ∷ "push 0;" ∷ "ret;" ∷ "" ∷ [])) 0;
    } ∷
    -- syscall, result of an undefined struct: func:f void param:p ptr . block:e call %%o @__uvm_a . ret - . .
    record {
      entries =
          (5, 2) ∷ (10, 0) ∷ (6, 5) ∷ (12, 0) ∷ (0, 0) ∷ (7, 1) ∷ (76, 0) ∷ (15, 3) ∷ (31, 0) ∷ (0, 0) ∷ (90, 0) ∷ (21, 0) ∷ (0, 0) ∷ (0, 0) ∷ [];
      names =
          "__uvm_a" ∷ "e" ∷ "f" ∷ "o" ∷ "p" ∷ [];
      says = Answer.text (unlines (
          "# void @f(1 params)" ∷ "f:" ∷ "f__e:" ∷ "syscall a;" ∷ "pop;" ∷ "push 0;" ∷ "ret;" ∷ "" ∷ [])) 0;
    } ∷
    -- syscall, result of array type: func:f void param:p ptr . block:e q=call [0 i8 @__uvm_a . ret - . .
    record {
      entries =
          (5, 2) ∷ (10, 0) ∷ (6, 4) ∷ (12, 0) ∷ (0, 0) ∷ (7, 1) ∷ (76, 5) ∷ (13, 0) ∷ (11, 8) ∷ (31, 0) ∷ (0, 0) ∷ (90, 0) ∷ (21, 0) ∷ (0, 0) ∷ (0, 0) ∷ [];
      names =
          "__uvm_a" ∷ "e" ∷ "f" ∷ "p" ∷ "q" ∷ [];
      says = Answer.text (unlines (
          "# void @f(1 params)" ∷ "f:" ∷ "push_0n 1;" ∷ "f__e:" ∷ "syscall a;" ∷ "set_local 0;" ∷ "push 0;" ∷ "ret;" ∷ "" ∷ [])) 0;
    } ∷
    -- syscall, void with a name: func:f void param:p ptr . block:e q=call void @__uvm_a . x=fence ret - . .
    record {
      entries =
          (5, 2) ∷ (10, 0) ∷ (6, 4) ∷ (12, 0) ∷ (0, 0) ∷ (7, 1) ∷ (76, 5) ∷ (10, 0) ∷ (31, 0) ∷ (0, 0) ∷ (82, 6) ∷ (90, 0) ∷ (21, 0) ∷ (0, 0) ∷ (0, 0) ∷ [];
      names =
          "__uvm_a" ∷ "e" ∷ "f" ∷ "p" ∷ "q" ∷ "x" ∷ [];
      says = Answer.text (unlines (
          "# void @f(1 params)" ∷ "f:" ∷ "push_0n 2;" ∷ "f__e:" ∷ "syscall a;" ∷ "push 0;" ∷ "ret;" ∷ "" ∷ [])) 0;
    } ∷
    -- memcmp, void: func:f void param:p ptr . block:e call void @memcmp . q=call void @bcmp . ret - . .
    record {
      entries =
          (5, 2) ∷ (10, 0) ∷ (6, 5) ∷ (12, 0) ∷ (0, 0) ∷ (7, 1) ∷ (76, 0) ∷ (10, 0) ∷ (31, 3) ∷ (0, 0) ∷ (76, 6) ∷ (10, 0) ∷ (31, 0) ∷ (0, 0) ∷ (90, 0)
          ∷ (21, 0) ∷ (0, 0) ∷ (0, 0) ∷ [];
      names =
          "bcmp" ∷ "e" ∷ "f" ∷ "memcmp" ∷ "p" ∷ "q" ∷ [];
      says = Answer.text (unlines (
          "# void @f(1 params)" ∷ "f:" ∷ "push_0n 1;" ∷ "f__e:" ∷ "syscall memcmp;" ∷ "pop;" ∷ "syscall memcmp;" ∷ "set_local 0;" ∷ "push 0;" ∷ "ret;" ∷ ""
          ∷ [])) 0;
    } ∷
    -- plain call, void: func:f void param:p ptr . block:e call void @f . q=call void @f . ret - . .
    record {
      entries =
          (5, 1) ∷ (10, 0) ∷ (6, 3) ∷ (12, 0) ∷ (0, 0) ∷ (7, 0) ∷ (76, 0) ∷ (10, 0) ∷ (31, 1) ∷ (0, 0) ∷ (76, 4) ∷ (10, 0) ∷ (31, 1) ∷ (0, 0) ∷ (90, 0)
          ∷ (21, 0) ∷ (0, 0) ∷ (0, 0) ∷ [];
      names =
          "e" ∷ "f" ∷ "p" ∷ "q" ∷ [];
      says = Answer.text (unlines (
          "# void @f(1 params)" ∷ "f:" ∷ "push_0n 1;" ∷ "f__e:" ∷ "call f, 0;" ∷ "pop;" ∷ "call f, 0;" ∷ "set_local 0;" ∷ "push 0;" ∷ "ret;" ∷ "" ∷ [])) 0;
    } ∷
    -- syscall marked defined: def:__uvm_a func:f void param:p ptr . block:e call i8 @__uvm_a . ret - . .
    record {
      entries =
          (1, 0) ∷ (5, 2) ∷ (10, 0) ∷ (6, 4) ∷ (12, 0) ∷ (0, 0) ∷ (7, 1) ∷ (76, 0) ∷ (11, 8) ∷ (31, 0) ∷ (0, 0) ∷ (90, 0) ∷ (21, 0) ∷ (0, 0) ∷ (0, 0) ∷ [];
      names =
          "__uvm_a" ∷ "e" ∷ "f" ∷ "p" ∷ [];
      says = Answer.text (unlines (
          "# void @f(1 params)" ∷ "f:" ∷ "f__e:" ∷ "syscall a;" ∷ "pop;" ∷ "push 0;" ∷ "ret;" ∷ "" ∷ [])) 0;
    } ∷
    -- syscall marked reserved: res:__uvm_a func:f void param:p ptr . block:e call i8 @__uvm_a . ret - . .
    record {
      entries =
          (2, 0) ∷ (5, 2) ∷ (10, 0) ∷ (6, 4) ∷ (12, 0) ∷ (0, 0) ∷ (7, 1) ∷ (76, 0) ∷ (11, 8) ∷ (31, 0) ∷ (0, 0) ∷ (90, 0) ∷ (21, 0) ∷ (0, 0) ∷ (0, 0) ∷ [];
      names =
          "__uvm_a" ∷ "e" ∷ "f" ∷ "p" ∷ [];
      says = Answer.refusal 3;
    } ∷
    -- memcmp marked defined: def:memcmp func:f void param:p ptr . block:e call i8 @memcmp . ret - . .
    record {
      entries =
          (1, 2) ∷ (5, 1) ∷ (10, 0) ∷ (6, 4) ∷ (12, 0) ∷ (0, 0) ∷ (7, 0) ∷ (76, 0) ∷ (11, 8) ∷ (31, 2) ∷ (0, 0) ∷ (90, 0) ∷ (21, 0) ∷ (0, 0) ∷ (0, 0) ∷ [];
      names =
          "e" ∷ "f" ∷ "memcmp" ∷ "p" ∷ [];
      says = Answer.text (unlines (
          "# void @f(1 params)" ∷ "f:" ∷ "f__e:" ∷ "syscall memcmp;" ∷ "pop;" ∷ "push 0;" ∷ "ret;" ∷ "" ∷ [])) 0;
    } ∷
    -- the function marked reserved: res:f func:f void param:p ptr . block:e call i8 @f . ret - . .
    record {
      entries =
          (2, 1) ∷ (5, 1) ∷ (10, 0) ∷ (6, 3) ∷ (12, 0) ∷ (0, 0) ∷ (7, 0) ∷ (76, 0) ∷ (11, 8) ∷ (31, 1) ∷ (0, 0) ∷ (90, 0) ∷ (21, 0) ∷ (0, 0) ∷ (0, 0) ∷ [];
      names =
          "e" ∷ "f" ∷ "p" ∷ [];
      says = Answer.refusal 3;
    } ∷
    -- the function marked reserved, as an operand: res:f func:f void param:p ptr . block:e store ptr @f @f - ret - . .
    record {
      entries =
          (2, 1) ∷ (5, 1) ∷ (10, 0) ∷ (6, 3) ∷ (12, 0) ∷ (0, 0) ∷ (7, 0) ∷ (72, 0) ∷ (12, 0) ∷ (31, 1) ∷ (31, 1) ∷ (21, 0) ∷ (90, 0) ∷ (21, 0) ∷ (0, 0)
          ∷ (0, 0) ∷ [];
      names =
          "e" ∷ "f" ∷ "p" ∷ [];
      says = Answer.text (unlines (
          "# void @f(1 params)" ∷ "f:" ∷ "f__e:" ∷ "push f;" ∷ "push f;" ∷ "store_u64;" ∷ "push 0;" ∷ "ret;" ∷ "" ∷ [])) 0;
    } ∷
    -- llvm. marked defined: def:llvm.a func:f void param:p ptr . block:e call i8 @llvm.a . ret - . .
    record {
      entries =
          (1, 2) ∷ (5, 1) ∷ (10, 0) ∷ (6, 4) ∷ (12, 0) ∷ (0, 0) ∷ (7, 0) ∷ (76, 0) ∷ (11, 8) ∷ (31, 2) ∷ (0, 0) ∷ (90, 0) ∷ (21, 0) ∷ (0, 0) ∷ (0, 0) ∷ [];
      names =
          "e" ∷ "f" ∷ "llvm.a" ∷ "p" ∷ [];
      says = Answer.refusal 3;
    } ∷
    -- a local named llvm.: func:f void param:p ptr . block:e call i8 %llvm.a . ret - . .
    record {
      entries =
          (5, 1) ∷ (10, 0) ∷ (6, 4) ∷ (12, 0) ∷ (0, 0) ∷ (7, 0) ∷ (76, 0) ∷ (11, 8) ∷ (30, 2) ∷ (0, 0) ∷ (90, 0) ∷ (21, 0) ∷ (0, 0) ∷ (0, 0) ∷ [];
      names =
          "e" ∷ "f" ∷ "llvm.a" ∷ "p" ∷ [];
      says = Answer.refusal 10;
    } ∷
    -- a parameter called: func:f void param:p ptr . block:e call i8 %p ptr %p i1 -1 i8 -1 i16 -1 . ret - . .
    record {
      entries =
          (5, 1) ∷ (10, 0) ∷ (6, 3) ∷ (12, 0) ∷ (0, 0) ∷ (7, 0) ∷ (76, 0) ∷ (11, 8) ∷ (30, 2) ∷ (12, 0) ∷ (30, 2) ∷ (11, 1) ∷ (32, 18446744073709551615)
          ∷ (11, 8) ∷ (32, 18446744073709551615) ∷ (11, 16) ∷ (32, 18446744073709551615) ∷ (0, 0) ∷ (90, 0) ∷ (21, 0) ∷ (0, 0) ∷ (0, 0) ∷ [];
      names =
          "e" ∷ "f" ∷ "p" ∷ [];
      says = Answer.text (unlines (
          "# void @f(1 params)" ∷ "f:" ∷ "f__e:" ∷ "get_arg 0;" ∷ "push 1;" ∷ "push 255;" ∷ "push 65535;" ∷ "get_arg 0;" ∷ "call_fp 4;" ∷ "pop;" ∷ "push 0;"
          ∷ "ret;" ∷ "" ∷ [])) 0;
    } ∷
    -- call of a name: func:f void param:p ptr . block:e call ptr @__uvm_ . ret - . .
    record {
      entries =
          (5, 2) ∷ (10, 0) ∷ (6, 4) ∷ (12, 0) ∷ (0, 0) ∷ (7, 1) ∷ (76, 0) ∷ (12, 0) ∷ (31, 0) ∷ (0, 0) ∷ (90, 0) ∷ (21, 0) ∷ (0, 0) ∷ (0, 0) ∷ [];
      names =
          "__uvm_" ∷ "e" ∷ "f" ∷ "p" ∷ [];
      says = Answer.text (unlines (
          "# void @f(1 params)" ∷ "f:" ∷ "f__e:" ∷ "syscall ;" ∷ "pop;" ∷ "push 0;" ∷ "ret;" ∷ "" ∷ [])) 0;
    } ∷
    -- call of a name: func:f void param:p ptr . block:e call ptr @__uvm_a . ret - . .
    record {
      entries =
          (5, 2) ∷ (10, 0) ∷ (6, 4) ∷ (12, 0) ∷ (0, 0) ∷ (7, 1) ∷ (76, 0) ∷ (12, 0) ∷ (31, 0) ∷ (0, 0) ∷ (90, 0) ∷ (21, 0) ∷ (0, 0) ∷ (0, 0) ∷ [];
      names =
          "__uvm_a" ∷ "e" ∷ "f" ∷ "p" ∷ [];
      says = Answer.text (unlines (
          "# void @f(1 params)" ∷ "f:" ∷ "f__e:" ∷ "syscall a;" ∷ "pop;" ∷ "push 0;" ∷ "ret;" ∷ "" ∷ [])) 0;
    } ∷
    -- call of a name: func:f void param:p ptr . block:e call ptr @__uvm . ret - . .
    record {
      entries =
          (5, 2) ∷ (10, 0) ∷ (6, 4) ∷ (12, 0) ∷ (0, 0) ∷ (7, 1) ∷ (76, 0) ∷ (12, 0) ∷ (31, 0) ∷ (0, 0) ∷ (90, 0) ∷ (21, 0) ∷ (0, 0) ∷ (0, 0) ∷ [];
      names =
          "__uvm" ∷ "e" ∷ "f" ∷ "p" ∷ [];
      says = Answer.refusal 15;
    } ∷
    -- call of a name: func:f void param:p ptr . block:e call ptr @_uvm_a . ret - . .
    record {
      entries =
          (5, 2) ∷ (10, 0) ∷ (6, 4) ∷ (12, 0) ∷ (0, 0) ∷ (7, 1) ∷ (76, 0) ∷ (12, 0) ∷ (31, 0) ∷ (0, 0) ∷ (90, 0) ∷ (21, 0) ∷ (0, 0) ∷ (0, 0) ∷ [];
      names =
          "_uvm_a" ∷ "e" ∷ "f" ∷ "p" ∷ [];
      says = Answer.refusal 15;
    } ∷
    -- call of a name: func:f void param:p ptr . block:e call ptr @x__uvm_a . ret - . .
    record {
      entries =
          (5, 1) ∷ (10, 0) ∷ (6, 3) ∷ (12, 0) ∷ (0, 0) ∷ (7, 0) ∷ (76, 0) ∷ (12, 0) ∷ (31, 3) ∷ (0, 0) ∷ (90, 0) ∷ (21, 0) ∷ (0, 0) ∷ (0, 0) ∷ [];
      names =
          "e" ∷ "f" ∷ "p" ∷ "x__uvm_a" ∷ [];
      says = Answer.refusal 15;
    } ∷
    -- call of a name: func:f void param:p ptr . block:e call ptr @__uvM_a . ret - . .
    record {
      entries =
          (5, 2) ∷ (10, 0) ∷ (6, 4) ∷ (12, 0) ∷ (0, 0) ∷ (7, 1) ∷ (76, 0) ∷ (12, 0) ∷ (31, 0) ∷ (0, 0) ∷ (90, 0) ∷ (21, 0) ∷ (0, 0) ∷ (0, 0) ∷ [];
      names =
          "__uvM_a" ∷ "e" ∷ "f" ∷ "p" ∷ [];
      says = Answer.refusal 15;
    } ∷
    -- call of a name: func:f void param:p ptr . block:e call ptr @llvm. . ret - . .
    record {
      entries =
          (5, 1) ∷ (10, 0) ∷ (6, 4) ∷ (12, 0) ∷ (0, 0) ∷ (7, 0) ∷ (76, 0) ∷ (12, 0) ∷ (31, 2) ∷ (0, 0) ∷ (90, 0) ∷ (21, 0) ∷ (0, 0) ∷ (0, 0) ∷ [];
      names =
          "e" ∷ "f" ∷ "llvm." ∷ "p" ∷ [];
      says = Answer.refusal 3;
    } ∷
    -- call of a name: func:f void param:p ptr . block:e call ptr @llvm.a . ret - . .
    record {
      entries =
          (5, 1) ∷ (10, 0) ∷ (6, 4) ∷ (12, 0) ∷ (0, 0) ∷ (7, 0) ∷ (76, 0) ∷ (12, 0) ∷ (31, 2) ∷ (0, 0) ∷ (90, 0) ∷ (21, 0) ∷ (0, 0) ∷ (0, 0) ∷ [];
      names =
          "e" ∷ "f" ∷ "llvm.a" ∷ "p" ∷ [];
      says = Answer.refusal 3;
    } ∷
    -- call of a name: func:f void param:p ptr . block:e call ptr @llvm . ret - . .
    record {
      entries =
          (5, 1) ∷ (10, 0) ∷ (6, 4) ∷ (12, 0) ∷ (0, 0) ∷ (7, 0) ∷ (76, 0) ∷ (12, 0) ∷ (31, 2) ∷ (0, 0) ∷ (90, 0) ∷ (21, 0) ∷ (0, 0) ∷ (0, 0) ∷ [];
      names =
          "e" ∷ "f" ∷ "llvm" ∷ "p" ∷ [];
      says = Answer.refusal 15;
    } ∷
    -- call of a name: func:f void param:p ptr . block:e call ptr @llvm_a . ret - . .
    record {
      entries =
          (5, 1) ∷ (10, 0) ∷ (6, 4) ∷ (12, 0) ∷ (0, 0) ∷ (7, 0) ∷ (76, 0) ∷ (12, 0) ∷ (31, 2) ∷ (0, 0) ∷ (90, 0) ∷ (21, 0) ∷ (0, 0) ∷ (0, 0) ∷ [];
      names =
          "e" ∷ "f" ∷ "llvm_a" ∷ "p" ∷ [];
      says = Answer.refusal 15;
    } ∷
    -- call of a name: func:f void param:p ptr . block:e call ptr @xllvm.a . ret - . .
    record {
      entries =
          (5, 1) ∷ (10, 0) ∷ (6, 3) ∷ (12, 0) ∷ (0, 0) ∷ (7, 0) ∷ (76, 0) ∷ (12, 0) ∷ (31, 3) ∷ (0, 0) ∷ (90, 0) ∷ (21, 0) ∷ (0, 0) ∷ (0, 0) ∷ [];
      names =
          "e" ∷ "f" ∷ "p" ∷ "xllvm.a" ∷ [];
      says = Answer.refusal 15;
    } ∷
    -- call of a name: func:f void param:p ptr . block:e call ptr @Llvm.a . ret - . .
    record {
      entries =
          (5, 2) ∷ (10, 0) ∷ (6, 4) ∷ (12, 0) ∷ (0, 0) ∷ (7, 1) ∷ (76, 0) ∷ (12, 0) ∷ (31, 0) ∷ (0, 0) ∷ (90, 0) ∷ (21, 0) ∷ (0, 0) ∷ (0, 0) ∷ [];
      names =
          "Llvm.a" ∷ "e" ∷ "f" ∷ "p" ∷ [];
      says = Answer.refusal 15;
    } ∷
    -- call of a name: func:f void param:p ptr . block:e call ptr @bcmp . ret - . .
    record {
      entries =
          (5, 2) ∷ (10, 0) ∷ (6, 4) ∷ (12, 0) ∷ (0, 0) ∷ (7, 1) ∷ (76, 0) ∷ (12, 0) ∷ (31, 0) ∷ (0, 0) ∷ (90, 0) ∷ (21, 0) ∷ (0, 0) ∷ (0, 0) ∷ [];
      names =
          "bcmp" ∷ "e" ∷ "f" ∷ "p" ∷ [];
      says = Answer.text (unlines (
          "# void @f(1 params)" ∷ "f:" ∷ "f__e:" ∷ "syscall memcmp;" ∷ "pop;" ∷ "push 0;" ∷ "ret;" ∷ "" ∷ [])) 0;
    } ∷
    -- call of a name: func:f void param:p ptr . block:e call ptr @bcm . ret - . .
    record {
      entries =
          (5, 2) ∷ (10, 0) ∷ (6, 4) ∷ (12, 0) ∷ (0, 0) ∷ (7, 1) ∷ (76, 0) ∷ (12, 0) ∷ (31, 0) ∷ (0, 0) ∷ (90, 0) ∷ (21, 0) ∷ (0, 0) ∷ (0, 0) ∷ [];
      names =
          "bcm" ∷ "e" ∷ "f" ∷ "p" ∷ [];
      says = Answer.refusal 15;
    } ∷
    -- call of a name: func:f void param:p ptr . block:e call ptr @bcmpx . ret - . .
    record {
      entries =
          (5, 2) ∷ (10, 0) ∷ (6, 4) ∷ (12, 0) ∷ (0, 0) ∷ (7, 1) ∷ (76, 0) ∷ (12, 0) ∷ (31, 0) ∷ (0, 0) ∷ (90, 0) ∷ (21, 0) ∷ (0, 0) ∷ (0, 0) ∷ [];
      names =
          "bcmpx" ∷ "e" ∷ "f" ∷ "p" ∷ [];
      says = Answer.refusal 15;
    } ∷
    -- call of a name: func:f void param:p ptr . block:e call ptr @xbcmp . ret - . .
    record {
      entries =
          (5, 1) ∷ (10, 0) ∷ (6, 3) ∷ (12, 0) ∷ (0, 0) ∷ (7, 0) ∷ (76, 0) ∷ (12, 0) ∷ (31, 3) ∷ (0, 0) ∷ (90, 0) ∷ (21, 0) ∷ (0, 0) ∷ (0, 0) ∷ [];
      names =
          "e" ∷ "f" ∷ "p" ∷ "xbcmp" ∷ [];
      says = Answer.refusal 15;
    } ∷
    -- call of a name: func:f void param:p ptr . block:e call ptr @memcmp . ret - . .
    record {
      entries =
          (5, 1) ∷ (10, 0) ∷ (6, 4) ∷ (12, 0) ∷ (0, 0) ∷ (7, 0) ∷ (76, 0) ∷ (12, 0) ∷ (31, 2) ∷ (0, 0) ∷ (90, 0) ∷ (21, 0) ∷ (0, 0) ∷ (0, 0) ∷ [];
      names =
          "e" ∷ "f" ∷ "memcmp" ∷ "p" ∷ [];
      says = Answer.text (unlines (
          "# void @f(1 params)" ∷ "f:" ∷ "f__e:" ∷ "syscall memcmp;" ∷ "pop;" ∷ "push 0;" ∷ "ret;" ∷ "" ∷ [])) 0;
    } ∷
    -- call of a name: func:f void param:p ptr . block:e call ptr @memcm . ret - . .
    record {
      entries =
          (5, 1) ∷ (10, 0) ∷ (6, 4) ∷ (12, 0) ∷ (0, 0) ∷ (7, 0) ∷ (76, 0) ∷ (12, 0) ∷ (31, 2) ∷ (0, 0) ∷ (90, 0) ∷ (21, 0) ∷ (0, 0) ∷ (0, 0) ∷ [];
      names =
          "e" ∷ "f" ∷ "memcm" ∷ "p" ∷ [];
      says = Answer.refusal 15;
    } ∷
    -- call of a name: func:f void param:p ptr . block:e call ptr @memcmp. . ret - . .
    record {
      entries =
          (5, 1) ∷ (10, 0) ∷ (6, 4) ∷ (12, 0) ∷ (0, 0) ∷ (7, 0) ∷ (76, 0) ∷ (12, 0) ∷ (31, 2) ∷ (0, 0) ∷ (90, 0) ∷ (21, 0) ∷ (0, 0) ∷ (0, 0) ∷ [];
      names =
          "e" ∷ "f" ∷ "memcmp." ∷ "p" ∷ [];
      says = Answer.refusal 15;
    } ∷
    -- call of a name: func:f void param:p ptr . block:e call ptr @Memcmp . ret - . .
    record {
      entries =
          (5, 2) ∷ (10, 0) ∷ (6, 4) ∷ (12, 0) ∷ (0, 0) ∷ (7, 1) ∷ (76, 0) ∷ (12, 0) ∷ (31, 0) ∷ (0, 0) ∷ (90, 0) ∷ (21, 0) ∷ (0, 0) ∷ (0, 0) ∷ [];
      names =
          "Memcmp" ∷ "e" ∷ "f" ∷ "p" ∷ [];
      says = Answer.refusal 15;
    } ∷
    -- call of a name: func:f void param:p ptr . block:e call ptr @memcpy . ret - . .
    record {
      entries =
          (5, 1) ∷ (10, 0) ∷ (6, 4) ∷ (12, 0) ∷ (0, 0) ∷ (7, 0) ∷ (76, 0) ∷ (12, 0) ∷ (31, 2) ∷ (0, 0) ∷ (90, 0) ∷ (21, 0) ∷ (0, 0) ∷ (0, 0) ∷ [];
      names =
          "e" ∷ "f" ∷ "memcpy" ∷ "p" ∷ [];
      says = Answer.refusal 15;
    } ∷
    -- call of a name: func:f void param:p ptr . block:e call ptr @__uvm_x.with.overflow. . ret - . .
    record {
      entries =
          (5, 2) ∷ (10, 0) ∷ (6, 4) ∷ (12, 0) ∷ (0, 0) ∷ (7, 1) ∷ (76, 0) ∷ (12, 0) ∷ (31, 0) ∷ (0, 0) ∷ (90, 0) ∷ (21, 0) ∷ (0, 0) ∷ (0, 0) ∷ [];
      names =
          "__uvm_x.with.overflow." ∷ "e" ∷ "f" ∷ "p" ∷ [];
      says = Answer.text (unlines (
          "# void @f(1 params)" ∷ "f:" ∷ "f__e:" ∷ "syscall x.with.overflow.;" ∷ "pop;" ∷ "push 0;" ∷ "ret;" ∷ "" ∷ [])) 0;
    } ∷
    -- slots of a call: def:.with.overflow. func:f void param:p ptr . block:e q=call ptr @.with.overflow. . x=call ptr @.with.overflow. . ret - . .
    record {
      entries =
          (1, 0) ∷ (5, 2) ∷ (10, 0) ∷ (6, 4) ∷ (12, 0) ∷ (0, 0) ∷ (7, 1) ∷ (76, 5) ∷ (12, 0) ∷ (31, 0) ∷ (0, 0) ∷ (76, 6) ∷ (12, 0) ∷ (31, 0) ∷ (0, 0)
          ∷ (90, 0) ∷ (21, 0) ∷ (0, 0) ∷ (0, 0) ∷ [];
      names =
          ".with.overflow." ∷ "e" ∷ "f" ∷ "p" ∷ "q" ∷ "x" ∷ [];
      says = Answer.text (unlines (
          "# void @f(1 params)" ∷ "f:" ∷ "push_0n 4;" ∷ "f__e:" ∷ "call _with_overflow_, 0;" ∷ "set_local 0;" ∷ "call _with_overflow_, 0;" ∷ "set_local 2;"
          ∷ "push 0;" ∷ "ret;" ∷ "" ∷ [])) 0;
    } ∷
    -- slots of a call: def:a.with.overflow.b func:f void param:p ptr . block:e q=call ptr @a.with.overflow.b . x=call ptr @a.with.overflow.b . ret - . .
    record {
      entries =
          (1, 0) ∷ (5, 2) ∷ (10, 0) ∷ (6, 4) ∷ (12, 0) ∷ (0, 0) ∷ (7, 1) ∷ (76, 5) ∷ (12, 0) ∷ (31, 0) ∷ (0, 0) ∷ (76, 6) ∷ (12, 0) ∷ (31, 0) ∷ (0, 0)
          ∷ (90, 0) ∷ (21, 0) ∷ (0, 0) ∷ (0, 0) ∷ [];
      names =
          "a.with.overflow.b" ∷ "e" ∷ "f" ∷ "p" ∷ "q" ∷ "x" ∷ [];
      says = Answer.text (unlines (
          "# void @f(1 params)" ∷ "f:" ∷ "push_0n 4;" ∷ "f__e:" ∷ "call a_with_overflow_b, 0;" ∷ "set_local 0;" ∷ "call a_with_overflow_b, 0;"
          ∷ "set_local 2;" ∷ "push 0;" ∷ "ret;" ∷ "" ∷ [])) 0;
    } ∷
    -- slots of a call: def:a.with.overflow.with.overflow. func:f void param:p ptr . block:e q=call ptr @a.with.overflow.with.overflow. . x=call ptr @a.with.overflow.with.overflow. . ret - . .
    record {
      entries =
          (1, 0) ∷ (5, 2) ∷ (10, 0) ∷ (6, 4) ∷ (12, 0) ∷ (0, 0) ∷ (7, 1) ∷ (76, 5) ∷ (12, 0) ∷ (31, 0) ∷ (0, 0) ∷ (76, 6) ∷ (12, 0) ∷ (31, 0) ∷ (0, 0)
          ∷ (90, 0) ∷ (21, 0) ∷ (0, 0) ∷ (0, 0) ∷ [];
      names =
          "a.with.overflow.with.overflow." ∷ "e" ∷ "f" ∷ "p" ∷ "q" ∷ "x" ∷ [];
      says = Answer.text (unlines (
          "# void @f(1 params)" ∷ "f:" ∷ "push_0n 4;" ∷ "f__e:" ∷ "call a_with_overflow_with_overflow_, 0;" ∷ "set_local 0;"
          ∷ "call a_with_overflow_with_overflow_, 0;" ∷ "set_local 2;" ∷ "push 0;" ∷ "ret;" ∷ "" ∷ [])) 0;
    } ∷
    -- slots of a call: def:..with.overflow. func:f void param:p ptr . block:e q=call ptr @..with.overflow. . x=call ptr @..with.overflow. . ret - . .
    record {
      entries =
          (1, 0) ∷ (5, 2) ∷ (10, 0) ∷ (6, 4) ∷ (12, 0) ∷ (0, 0) ∷ (7, 1) ∷ (76, 5) ∷ (12, 0) ∷ (31, 0) ∷ (0, 0) ∷ (76, 6) ∷ (12, 0) ∷ (31, 0) ∷ (0, 0)
          ∷ (90, 0) ∷ (21, 0) ∷ (0, 0) ∷ (0, 0) ∷ [];
      names =
          "..with.overflow." ∷ "e" ∷ "f" ∷ "p" ∷ "q" ∷ "x" ∷ [];
      says = Answer.text (unlines (
          "# void @f(1 params)" ∷ "f:" ∷ "push_0n 4;" ∷ "f__e:" ∷ "call __with_overflow_, 0;" ∷ "set_local 0;" ∷ "call __with_overflow_, 0;" ∷ "set_local 2;"
          ∷ "push 0;" ∷ "ret;" ∷ "" ∷ [])) 0;
    } ∷
    -- slots of a call: def:.with.overflow func:f void param:p ptr . block:e q=call ptr @.with.overflow . x=call ptr @.with.overflow . ret - . .
    record {
      entries =
          (1, 0) ∷ (5, 2) ∷ (10, 0) ∷ (6, 4) ∷ (12, 0) ∷ (0, 0) ∷ (7, 1) ∷ (76, 5) ∷ (12, 0) ∷ (31, 0) ∷ (0, 0) ∷ (76, 6) ∷ (12, 0) ∷ (31, 0) ∷ (0, 0)
          ∷ (90, 0) ∷ (21, 0) ∷ (0, 0) ∷ (0, 0) ∷ [];
      names =
          ".with.overflow" ∷ "e" ∷ "f" ∷ "p" ∷ "q" ∷ "x" ∷ [];
      says = Answer.text (unlines (
          "# void @f(1 params)" ∷ "f:" ∷ "push_0n 2;" ∷ "f__e:" ∷ "call _with_overflow, 0;" ∷ "set_local 0;" ∷ "call _with_overflow, 0;" ∷ "set_local 1;"
          ∷ "push 0;" ∷ "ret;" ∷ "" ∷ [])) 0;
    } ∷
    -- slots of a call: def:with.overflow. func:f void param:p ptr . block:e q=call ptr @with.overflow. . x=call ptr @with.overflow. . ret - . .
    record {
      entries =
          (1, 4) ∷ (5, 1) ∷ (10, 0) ∷ (6, 3) ∷ (12, 0) ∷ (0, 0) ∷ (7, 0) ∷ (76, 4) ∷ (12, 0) ∷ (31, 4) ∷ (0, 0) ∷ (76, 6) ∷ (12, 0) ∷ (31, 4) ∷ (0, 0)
          ∷ (90, 0) ∷ (21, 0) ∷ (0, 0) ∷ (0, 0) ∷ [];
      names =
          "e" ∷ "f" ∷ "p" ∷ "q" ∷ "with.overflow." ∷ "x" ∷ [];
      says = Answer.text (unlines (
          "# void @f(1 params)" ∷ "f:" ∷ "push_0n 2;" ∷ "f__e:" ∷ "call with_overflow_, 0;" ∷ "set_local 0;" ∷ "call with_overflow_, 0;" ∷ "set_local 1;"
          ∷ "push 0;" ∷ "ret;" ∷ "" ∷ [])) 0;
    } ∷
    -- slots of a call: def:.with_overflow. func:f void param:p ptr . block:e q=call ptr @.with_overflow. . x=call ptr @.with_overflow. . ret - . .
    record {
      entries =
          (1, 0) ∷ (5, 2) ∷ (10, 0) ∷ (6, 4) ∷ (12, 0) ∷ (0, 0) ∷ (7, 1) ∷ (76, 5) ∷ (12, 0) ∷ (31, 0) ∷ (0, 0) ∷ (76, 6) ∷ (12, 0) ∷ (31, 0) ∷ (0, 0)
          ∷ (90, 0) ∷ (21, 0) ∷ (0, 0) ∷ (0, 0) ∷ [];
      names =
          ".with_overflow." ∷ "e" ∷ "f" ∷ "p" ∷ "q" ∷ "x" ∷ [];
      says = Answer.text (unlines (
          "# void @f(1 params)" ∷ "f:" ∷ "push_0n 2;" ∷ "f__e:" ∷ "call _with_overflow_, 0;" ∷ "set_local 0;" ∷ "call _with_overflow_, 0;" ∷ "set_local 1;"
          ∷ "push 0;" ∷ "ret;" ∷ "" ∷ [])) 0;
    } ∷
    -- slots of a call: def:.with.Overflow. func:f void param:p ptr . block:e q=call ptr @.with.Overflow. . x=call ptr @.with.Overflow. . ret - . .
    record {
      entries =
          (1, 0) ∷ (5, 2) ∷ (10, 0) ∷ (6, 4) ∷ (12, 0) ∷ (0, 0) ∷ (7, 1) ∷ (76, 5) ∷ (12, 0) ∷ (31, 0) ∷ (0, 0) ∷ (76, 6) ∷ (12, 0) ∷ (31, 0) ∷ (0, 0)
          ∷ (90, 0) ∷ (21, 0) ∷ (0, 0) ∷ (0, 0) ∷ [];
      names =
          ".with.Overflow." ∷ "e" ∷ "f" ∷ "p" ∷ "q" ∷ "x" ∷ [];
      says = Answer.text (unlines (
          "# void @f(1 params)" ∷ "f:" ∷ "push_0n 2;" ∷ "f__e:" ∷ "call _with_Overflow_, 0;" ∷ "set_local 0;" ∷ "call _with_Overflow_, 0;" ∷ "set_local 1;"
          ∷ "push 0;" ∷ "ret;" ∷ "" ∷ [])) 0;
    } ∷
    -- slots of a call: def:.with..overflow. func:f void param:p ptr . block:e q=call ptr @.with..overflow. . x=call ptr @.with..overflow. . ret - . .
    record {
      entries =
          (1, 0) ∷ (5, 2) ∷ (10, 0) ∷ (6, 4) ∷ (12, 0) ∷ (0, 0) ∷ (7, 1) ∷ (76, 5) ∷ (12, 0) ∷ (31, 0) ∷ (0, 0) ∷ (76, 6) ∷ (12, 0) ∷ (31, 0) ∷ (0, 0)
          ∷ (90, 0) ∷ (21, 0) ∷ (0, 0) ∷ (0, 0) ∷ [];
      names =
          ".with..overflow." ∷ "e" ∷ "f" ∷ "p" ∷ "q" ∷ "x" ∷ [];
      says = Answer.text (unlines (
          "# void @f(1 params)" ∷ "f:" ∷ "push_0n 2;" ∷ "f__e:" ∷ "call _with__overflow_, 0;" ∷ "set_local 0;" ∷ "call _with__overflow_, 0;" ∷ "set_local 1;"
          ∷ "push 0;" ∷ "ret;" ∷ "" ∷ [])) 0;
    } ∷
    []

pub corners_hold : map answers corners ≡ map says_of corners
unfolding open_sheet corners
corners_hold = refl
