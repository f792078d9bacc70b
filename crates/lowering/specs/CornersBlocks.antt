-- Corners that random books meet seldom, both sides of each: counts and indices of odd types, strides of 0 and 1, results
-- that a call may have, names that nearly are special, maps with two of one name. With the answers of the published Rust;
-- written by `compare written`, in whose notation each book stands over its row.
use Rattle.std.specs.Prelude.{◌≡◌, refl, List, [], ◌∷◌, map}
use Rattle.assembly.specs.Cases.{unlines}
use Rattle.lowering.specs.Sheet.{Sheet, Answer, answers, says_of, open_sheet}

unfoldable pub corners : List Sheet
corners =
    -- integers at their widths: func:f void param:p ptr . block:e call void @f i1 3 i8 256 i16 65536 i32 4294967297 i64 -1 ptr -1 . ret - . .
    record {
      entries =
          (5, 1) ∷ (10, 0) ∷ (6, 3) ∷ (12, 0) ∷ (0, 0) ∷ (7, 0) ∷ (76, 0) ∷ (10, 0) ∷ (31, 1) ∷ (11, 1) ∷ (32, 3) ∷ (11, 8) ∷ (32, 256) ∷ (11, 16)
          ∷ (32, 65536) ∷ (11, 32) ∷ (32, 4294967297) ∷ (11, 64) ∷ (32, 18446744073709551615) ∷ (12, 0) ∷ (32, 18446744073709551615) ∷ (0, 0) ∷ (90, 0)
          ∷ (21, 0) ∷ (0, 0) ∷ (0, 0) ∷ [];
      names =
          "e" ∷ "f" ∷ "p" ∷ [];
      says = Answer.text (unlines (
          "# void @f(1 params)" ∷ "f:" ∷ "f__e:" ∷ "push 1;" ∷ "push 0;" ∷ "push 0;" ∷ "push 1;" ∷ "push 18446744073709551615;"
          ∷ "push 18446744073709551615;" ∷ "call f, 6;" ∷ "pop;" ∷ "push 0;" ∷ "ret;" ∷ "" ∷ [])) 0;
    } ∷
    -- select on an integer condition: func:f void param:p ptr . block:e q=select 3 ptr -1 -1 ret - . .
    record {
      entries =
          (5, 1) ∷ (10, 0) ∷ (6, 3) ∷ (12, 0) ∷ (0, 0) ∷ (7, 0) ∷ (70, 4) ∷ (32, 3) ∷ (12, 0) ∷ (32, 18446744073709551615) ∷ (32, 18446744073709551615)
          ∷ (90, 0) ∷ (21, 0) ∷ (0, 0) ∷ (0, 0) ∷ [];
      names =
          "e" ∷ "f" ∷ "p" ∷ "q" ∷ [];
      says = Answer.text (unlines (
          "# void @f(1 params)" ∷ "f:" ∷ "push_0n 1;" ∷ "f__e:" ∷ "push 1;" ∷ "jz __sel_false_0;" ∷ "push 18446744073709551615;" ∷ "jmp __sel_done_1;"
          ∷ "__sel_false_0:" ∷ "push 18446744073709551615;" ∷ "__sel_done_1:" ∷ "set_local 0;" ∷ "push 0;" ∷ "ret;" ∷ "" ∷ [])) 2;
    } ∷
    -- freeze of 3, 8 and 9 bytes: func:f void param:p ptr . block:e q=freeze [3 i8 -1 x=freeze { ptr } -1 y=freeze [9 i8 -1 ret - . .
    record {
      entries =
          (5, 1) ∷ (10, 0) ∷ (6, 3) ∷ (12, 0) ∷ (0, 0) ∷ (7, 0) ∷ (77, 4) ∷ (13, 3) ∷ (11, 8) ∷ (32, 18446744073709551615) ∷ (77, 5) ∷ (16, 0) ∷ (12, 0)
          ∷ (0, 0) ∷ (32, 18446744073709551615) ∷ (77, 6) ∷ (13, 9) ∷ (11, 8) ∷ (32, 18446744073709551615) ∷ (90, 0) ∷ (21, 0) ∷ (0, 0) ∷ (0, 0) ∷ [];
      names =
          "e" ∷ "f" ∷ "p" ∷ "q" ∷ "x" ∷ "y" ∷ [];
      says = Answer.text (unlines (
          "# void @f(1 params)" ∷ "f:" ∷ "push_0n 3;" ∷ "f__e:" ∷ "push 16777215;" ∷ "set_local 0;" ∷ "push 18446744073709551615;" ∷ "set_local 1;"
          ∷ "push 18446744073709551615;" ∷ "set_local 2;" ∷ "push 0;" ∷ "ret;" ∷ "" ∷ [])) 0;
    } ∷
    -- freeze of a pointer and of i1: func:f void param:p ptr . block:e q=freeze ptr -1 x=freeze i1 -1 ret - . .
    record {
      entries =
          (5, 1) ∷ (10, 0) ∷ (6, 3) ∷ (12, 0) ∷ (0, 0) ∷ (7, 0) ∷ (77, 4) ∷ (12, 0) ∷ (32, 18446744073709551615) ∷ (77, 5) ∷ (11, 1)
          ∷ (32, 18446744073709551615) ∷ (90, 0) ∷ (21, 0) ∷ (0, 0) ∷ (0, 0) ∷ [];
      names =
          "e" ∷ "f" ∷ "p" ∷ "q" ∷ "x" ∷ [];
      says = Answer.text (unlines (
          "# void @f(1 params)" ∷ "f:" ∷ "push_0n 2;" ∷ "f__e:" ∷ "push 18446744073709551615;" ∷ "set_local 0;" ∷ "push 1;" ∷ "set_local 1;" ∷ "push 0;"
          ∷ "ret;" ∷ "" ∷ [])) 0;
    } ∷
    -- store of i1, of a pointer: func:f void param:p ptr . block:e store i1 -1 %p #1 store ptr -1 %p - ret - . .
    record {
      entries =
          (5, 1) ∷ (10, 0) ∷ (6, 3) ∷ (12, 0) ∷ (0, 0) ∷ (7, 0) ∷ (72, 0) ∷ (11, 1) ∷ (32, 18446744073709551615) ∷ (30, 2) ∷ (22, 1) ∷ (72, 0) ∷ (12, 0)
          ∷ (32, 18446744073709551615) ∷ (30, 2) ∷ (21, 0) ∷ (90, 0) ∷ (21, 0) ∷ (0, 0) ∷ (0, 0) ∷ [];
      names =
          "e" ∷ "f" ∷ "p" ∷ [];
      says = Answer.text (unlines (
          "# void @f(1 params)" ∷ "f:" ∷ "f__e:" ∷ "get_arg 0;" ∷ "push 1;" ∷ "store_u8;" ∷ "get_arg 0;" ∷ "push 18446744073709551615;" ∷ "store_u64;"
          ∷ "push 0;" ∷ "ret;" ∷ "" ∷ [])) 0;
    } ∷
    -- load of arrays of 2, 4 and 8 bytes: func:f void param:p ptr . block:e q=load [2 i8 %p - x=load { i16 i8 } %p - y=load [1 ptr %p - ret - . .
    record {
      entries =
          (5, 1) ∷ (10, 0) ∷ (6, 3) ∷ (12, 0) ∷ (0, 0) ∷ (7, 0) ∷ (71, 4) ∷ (13, 2) ∷ (11, 8) ∷ (30, 2) ∷ (21, 0) ∷ (71, 5) ∷ (16, 0) ∷ (11, 16) ∷ (11, 8)
          ∷ (0, 0) ∷ (30, 2) ∷ (21, 0) ∷ (71, 6) ∷ (13, 1) ∷ (12, 0) ∷ (30, 2) ∷ (21, 0) ∷ (90, 0) ∷ (21, 0) ∷ (0, 0) ∷ (0, 0) ∷ [];
      names =
          "e" ∷ "f" ∷ "p" ∷ "q" ∷ "x" ∷ "y" ∷ [];
      says = Answer.text (unlines (
          "# void @f(1 params)" ∷ "f:" ∷ "push_0n 3;" ∷ "f__e:" ∷ "get_arg 0;" ∷ "load_u16;" ∷ "set_local 0;" ∷ "get_arg 0;" ∷ "load_u32;" ∷ "set_local 1;"
          ∷ "get_arg 0;" ∷ "load_u64;" ∷ "set_local 2;" ∷ "push 0;" ∷ "ret;" ∷ "" ∷ [])) 0;
    } ∷
    -- load of 16 bytes: func:f void param:p ptr . block:e q=load [2 ptr %p - ret - . .
    record {
      entries =
          (5, 1) ∷ (10, 0) ∷ (6, 3) ∷ (12, 0) ∷ (0, 0) ∷ (7, 0) ∷ (71, 4) ∷ (13, 2) ∷ (12, 0) ∷ (30, 2) ∷ (21, 0) ∷ (90, 0) ∷ (21, 0) ∷ (0, 0) ∷ (0, 0) ∷ [];
      names =
          "e" ∷ "f" ∷ "p" ∷ "q" ∷ [];
      says = Answer.refusal 11;
    } ∷
    -- atomic of pointer type: func:f void param:p ptr . block:e q=atomicload ptr %p atomicstore ptr -1 %p x=cmpxchg ptr %p -1 -1 ret - . .
    record {
      entries =
          (5, 1) ∷ (10, 0) ∷ (6, 3) ∷ (12, 0) ∷ (0, 0) ∷ (7, 0) ∷ (78, 4) ∷ (12, 0) ∷ (30, 2) ∷ (79, 0) ∷ (12, 0) ∷ (32, 18446744073709551615) ∷ (30, 2)
          ∷ (80, 5) ∷ (12, 0) ∷ (30, 2) ∷ (32, 18446744073709551615) ∷ (32, 18446744073709551615) ∷ (90, 0) ∷ (21, 0) ∷ (0, 0) ∷ (0, 0) ∷ [];
      names =
          "e" ∷ "f" ∷ "p" ∷ "q" ∷ "x" ∷ [];
      says = Answer.text (unlines (
          "# void @f(1 params)" ∷ "f:" ∷ "push_0n 3;" ∷ "f__e:" ∷ "get_arg 0;" ∷ "atomic_load_u64;" ∷ "set_local 0;" ∷ "get_arg 0;"
          ∷ "push 18446744073709551615;" ∷ "atomic_store_u64;" ∷ "get_arg 0;" ∷ "push 18446744073709551615;" ∷ "push 18446744073709551615;"
          ∷ "atomic_cas_u64;" ∷ "dup;" ∷ "set_local 1;" ∷ "push 18446744073709551615;" ∷ "eq_u64;" ∷ "set_local 2;" ∷ "push 0;" ∷ "ret;" ∷ "" ∷ [])) 0;
    } ∷
    -- atomic of 16 bytes: func:f void param:p ptr . block:e q=atomicload [2 i64 %p ret - . .
    record {
      entries =
          (5, 1) ∷ (10, 0) ∷ (6, 3) ∷ (12, 0) ∷ (0, 0) ∷ (7, 0) ∷ (78, 4) ∷ (13, 2) ∷ (11, 64) ∷ (30, 2) ∷ (90, 0) ∷ (21, 0) ∷ (0, 0) ∷ (0, 0) ∷ [];
      names =
          "e" ∷ "f" ∷ "p" ∷ "q" ∷ [];
      says = Answer.refusal 12;
    } ∷
    -- store and fence with names take slots: func:f void param:p ptr . block:e q=store i8 1 %p - x=fence y=add i8 1 1 ret - . .
    record {
      entries =
          (5, 1) ∷ (10, 0) ∷ (6, 3) ∷ (12, 0) ∷ (0, 0) ∷ (7, 0) ∷ (72, 4) ∷ (11, 8) ∷ (32, 1) ∷ (30, 2) ∷ (21, 0) ∷ (82, 5) ∷ (40, 6) ∷ (11, 8) ∷ (32, 1)
          ∷ (32, 1) ∷ (90, 0) ∷ (21, 0) ∷ (0, 0) ∷ (0, 0) ∷ [];
      names =
          "e" ∷ "f" ∷ "p" ∷ "q" ∷ "x" ∷ "y" ∷ [];
      says = Answer.text (unlines (
          "# void @f(1 params)" ∷ "f:" ∷ "push_0n 3;" ∷ "f__e:" ∷ "get_arg 0;" ∷ "push 1;" ∷ "store_u8;" ∷ "push 1;" ∷ "push 1;" ∷ "add_u32;" ∷ "trunc_u8;"
          ∷ "set_local 2;" ∷ "push 0;" ∷ "ret;" ∷ "" ∷ [])) 0;
    } ∷
    -- extractvalue beyond one slot: func:f void param:p ptr . block:e q=add i8 1 1 x=extractvalue %q #1 y=extractvalue %q #0 ret - . .
    record {
      entries =
          (5, 1) ∷ (10, 0) ∷ (6, 3) ∷ (12, 0) ∷ (0, 0) ∷ (7, 0) ∷ (40, 4) ∷ (11, 8) ∷ (32, 1) ∷ (32, 1) ∷ (81, 5) ∷ (30, 3) ∷ (22, 1) ∷ (81, 6) ∷ (30, 3)
          ∷ (22, 0) ∷ (90, 0) ∷ (21, 0) ∷ (0, 0) ∷ (0, 0) ∷ [];
      names =
          "e" ∷ "f" ∷ "p" ∷ "q" ∷ "x" ∷ "y" ∷ [];
      says = Answer.text (unlines (
          "# void @f(1 params)" ∷ "f:" ∷ "push_0n 3;" ∷ "f__e:" ∷ "push 1;" ∷ "push 1;" ∷ "add_u32;" ∷ "trunc_u8;" ∷ "set_local 0;" ∷ "get_local 1;"
          ∷ "set_local 1;" ∷ "get_local 0;" ∷ "set_local 2;" ∷ "push 0;" ∷ "ret;" ∷ "" ∷ [])) 0;
    } ∷
    -- extractvalue, index 2: func:f void param:p ptr . block:e q=cmpxchg i64 %p 1 1 x=extractvalue %q #2 ret - . .
    record {
      entries =
          (5, 1) ∷ (10, 0) ∷ (6, 3) ∷ (12, 0) ∷ (0, 0) ∷ (7, 0) ∷ (80, 4) ∷ (11, 64) ∷ (30, 2) ∷ (32, 1) ∷ (32, 1) ∷ (81, 5) ∷ (30, 3) ∷ (22, 2) ∷ (90, 0)
          ∷ (21, 0) ∷ (0, 0) ∷ (0, 0) ∷ [];
      names =
          "e" ∷ "f" ∷ "p" ∷ "q" ∷ "x" ∷ [];
      says = Answer.refusal 16;
    } ∷
    -- extractvalue, index 2^32 - 1: func:f void param:p ptr . block:e q=cmpxchg i64 %p 1 1 x=extractvalue %q #4294967295 ret - . .
    record {
      entries =
          (5, 1) ∷ (10, 0) ∷ (6, 3) ∷ (12, 0) ∷ (0, 0) ∷ (7, 0) ∷ (80, 4) ∷ (11, 64) ∷ (30, 2) ∷ (32, 1) ∷ (32, 1) ∷ (81, 5) ∷ (30, 3) ∷ (22, 4294967295)
          ∷ (90, 0) ∷ (21, 0) ∷ (0, 0) ∷ (0, 0) ∷ [];
      names =
          "e" ∷ "f" ∷ "p" ∷ "q" ∷ "x" ∷ [];
      says = Answer.refusal 16;
    } ∷
    -- extractvalue of a parameter that is also a result: func:f void param:p ptr . block:e p=cmpxchg i64 %p 1 1 x=extractvalue %p #1 ret - . .
    record {
      entries =
          (5, 1) ∷ (10, 0) ∷ (6, 3) ∷ (12, 0) ∷ (0, 0) ∷ (7, 0) ∷ (80, 3) ∷ (11, 64) ∷ (30, 2) ∷ (32, 1) ∷ (32, 1) ∷ (81, 4) ∷ (30, 2) ∷ (22, 1) ∷ (90, 0)
          ∷ (21, 0) ∷ (0, 0) ∷ (0, 0) ∷ [];
      names =
          "e" ∷ "f" ∷ "p" ∷ "x" ∷ [];
      says = Answer.text (unlines (
          "# void @f(1 params)" ∷ "f:" ∷ "push_0n 3;" ∷ "f__e:" ∷ "get_arg 0;" ∷ "push 1;" ∷ "push 1;" ∷ "atomic_cas_u64;" ∷ "dup;" ∷ "set_local 0;"
          ∷ "push 1;" ∷ "eq_u64;" ∷ "set_local 1;" ∷ "get_local 1;" ∷ "set_local 2;" ∷ "push 0;" ∷ "ret;" ∷ "" ∷ [])) 0;
    } ∷
    -- a result named like the parameter: func:f void param:p ptr . block:e p=add i8 1 1 q=add i8 %p %p ret - . .
    record {
      entries =
          (5, 1) ∷ (10, 0) ∷ (6, 3) ∷ (12, 0) ∷ (0, 0) ∷ (7, 0) ∷ (40, 3) ∷ (11, 8) ∷ (32, 1) ∷ (32, 1) ∷ (40, 4) ∷ (11, 8) ∷ (30, 2) ∷ (30, 2) ∷ (90, 0)
          ∷ (21, 0) ∷ (0, 0) ∷ (0, 0) ∷ [];
      names =
          "e" ∷ "f" ∷ "p" ∷ "q" ∷ [];
      says = Answer.text (unlines (
          "# void @f(1 params)" ∷ "f:" ∷ "push_0n 2;" ∷ "f__e:" ∷ "push 1;" ∷ "push 1;" ∷ "add_u32;" ∷ "trunc_u8;" ∷ "set_local 0;" ∷ "get_arg 0;"
          ∷ "get_arg 0;" ∷ "add_u32;" ∷ "trunc_u8;" ∷ "set_local 1;" ∷ "push 0;" ∷ "ret;" ∷ "" ∷ [])) 0;
    } ∷
    -- two results of one name: func:f void param:p ptr . block:e q=add i8 1 1 q=add i8 %q 2 x=add i8 %q 3 ret - . .
    record {
      entries =
          (5, 1) ∷ (10, 0) ∷ (6, 3) ∷ (12, 0) ∷ (0, 0) ∷ (7, 0) ∷ (40, 4) ∷ (11, 8) ∷ (32, 1) ∷ (32, 1) ∷ (40, 4) ∷ (11, 8) ∷ (30, 3) ∷ (32, 2) ∷ (40, 5)
          ∷ (11, 8) ∷ (30, 3) ∷ (32, 3) ∷ (90, 0) ∷ (21, 0) ∷ (0, 0) ∷ (0, 0) ∷ [];
      names =
          "e" ∷ "f" ∷ "p" ∷ "q" ∷ "x" ∷ [];
      says = Answer.text (unlines (
          "# void @f(1 params)" ∷ "f:" ∷ "push_0n 3;" ∷ "f__e:" ∷ "push 1;" ∷ "push 1;" ∷ "add_u32;" ∷ "trunc_u8;" ∷ "set_local 1;" ∷ "get_local 1;"
          ∷ "push 2;" ∷ "add_u32;" ∷ "trunc_u8;" ∷ "set_local 1;" ∷ "get_local 1;" ∷ "push 3;" ∷ "add_u32;" ∷ "trunc_u8;" ∷ "set_local 2;" ∷ "push 0;"
          ∷ "ret;" ∷ "" ∷ [])) 0;
    } ∷
    -- two results of one name, the first of two slots: func:f void param:p ptr . block:e q=cmpxchg i64 %p 1 1 q=add i8 1 1 x=extractvalue %q #1 ret - . .
    record {
      entries =
          (5, 1) ∷ (10, 0) ∷ (6, 3) ∷ (12, 0) ∷ (0, 0) ∷ (7, 0) ∷ (80, 4) ∷ (11, 64) ∷ (30, 2) ∷ (32, 1) ∷ (32, 1) ∷ (40, 4) ∷ (11, 8) ∷ (32, 1) ∷ (32, 1)
          ∷ (81, 5) ∷ (30, 3) ∷ (22, 1) ∷ (90, 0) ∷ (21, 0) ∷ (0, 0) ∷ (0, 0) ∷ [];
      names =
          "e" ∷ "f" ∷ "p" ∷ "q" ∷ "x" ∷ [];
      says = Answer.text (unlines (
          "# void @f(1 params)" ∷ "f:" ∷ "push_0n 4;" ∷ "f__e:" ∷ "get_arg 0;" ∷ "push 1;" ∷ "push 1;" ∷ "atomic_cas_u64;" ∷ "dup;" ∷ "set_local 2;"
          ∷ "push 1;" ∷ "eq_u64;" ∷ "set_local 3;" ∷ "push 1;" ∷ "push 1;" ∷ "add_u32;" ∷ "trunc_u8;" ∷ "set_local 2;" ∷ "get_local 3;" ∷ "set_local 3;"
          ∷ "push 0;" ∷ "ret;" ∷ "" ∷ [])) 0;
    } ∷
    -- trunc to i64 and zext to i8: func:f void param:p ptr . block:e q=trunc i8 1 i64 x=zext i64 -1 i8 ret - . .
    record {
      entries =
          (5, 1) ∷ (10, 0) ∷ (6, 3) ∷ (12, 0) ∷ (0, 0) ∷ (7, 0) ∷ (53, 4) ∷ (11, 8) ∷ (32, 1) ∷ (11, 64) ∷ (54, 5) ∷ (11, 64) ∷ (32, 18446744073709551615)
          ∷ (11, 8) ∷ (90, 0) ∷ (21, 0) ∷ (0, 0) ∷ (0, 0) ∷ [];
      names =
          "e" ∷ "f" ∷ "p" ∷ "q" ∷ "x" ∷ [];
      says = Answer.text (unlines (
          "# void @f(1 params)" ∷ "f:" ∷ "push_0n 2;" ∷ "f__e:" ∷ "push 1;" ∷ "set_local 0;" ∷ "push 18446744073709551615;" ∷ "set_local 1;" ∷ "push 0;"
          ∷ "ret;" ∷ "" ∷ [])) 0;
    } ∷
    -- ptrtoint to i64, to ptr, to i1: func:f void param:p ptr . block:e q=ptrtoint i8 -1 i64 x=ptrtoint ptr -1 ptr y=ptrtoint ptr -1 i1 ret - . .
    record {
      entries =
          (5, 1) ∷ (10, 0) ∷ (6, 3) ∷ (12, 0) ∷ (0, 0) ∷ (7, 0) ∷ (56, 4) ∷ (11, 8) ∷ (32, 18446744073709551615) ∷ (11, 64) ∷ (56, 5) ∷ (12, 0)
          ∷ (32, 18446744073709551615) ∷ (12, 0) ∷ (56, 6) ∷ (12, 0) ∷ (32, 18446744073709551615) ∷ (11, 1) ∷ (90, 0) ∷ (21, 0) ∷ (0, 0) ∷ (0, 0) ∷ [];
      names =
          "e" ∷ "f" ∷ "p" ∷ "q" ∷ "x" ∷ "y" ∷ [];
      says = Answer.text (unlines (
          "# void @f(1 params)" ∷ "f:" ∷ "push_0n 3;" ∷ "f__e:" ∷ "push 255;" ∷ "set_local 0;" ∷ "push 18446744073709551615;" ∷ "set_local 1;"
          ∷ "push 18446744073709551615;" ∷ "push 1;" ∷ "and_u32;" ∷ "set_local 2;" ∷ "push 0;" ∷ "ret;" ∷ "" ∷ [])) 0;
    } ∷
    -- inttoptr to i8: func:f void param:p ptr . block:e q=inttoptr ptr -1 i8 ret - . .
    record {
      entries =
          (5, 1) ∷ (10, 0) ∷ (6, 3) ∷ (12, 0) ∷ (0, 0) ∷ (7, 0) ∷ (57, 4) ∷ (12, 0) ∷ (32, 18446744073709551615) ∷ (11, 8) ∷ (90, 0) ∷ (21, 0) ∷ (0, 0)
          ∷ (0, 0) ∷ [];
      names =
          "e" ∷ "f" ∷ "p" ∷ "q" ∷ [];
      says = Answer.text (unlines (
          "# void @f(1 params)" ∷ "f:" ∷ "push_0n 1;" ∷ "f__e:" ∷ "push 18446744073709551615;" ∷ "set_local 0;" ∷ "push 0;" ∷ "ret;" ∷ "" ∷ [])) 0;
    } ∷
    -- sext of i1 to every width: func:f void param:p ptr . block:e a=sext i1 -1 i1 b=sext i1 -1 i8 c=sext i1 -1 i16 d=sext i1 -1 i32 g=sext i1 -1 i64 h=sext i1 -1 ptr ret - . .
    record {
      entries =
          (5, 5) ∷ (10, 0) ∷ (6, 9) ∷ (12, 0) ∷ (0, 0) ∷ (7, 4) ∷ (55, 1) ∷ (11, 1) ∷ (32, 18446744073709551615) ∷ (11, 1) ∷ (55, 2) ∷ (11, 1)
          ∷ (32, 18446744073709551615) ∷ (11, 8) ∷ (55, 3) ∷ (11, 1) ∷ (32, 18446744073709551615) ∷ (11, 16) ∷ (55, 4) ∷ (11, 1) ∷ (32, 18446744073709551615)
          ∷ (11, 32) ∷ (55, 7) ∷ (11, 1) ∷ (32, 18446744073709551615) ∷ (11, 64) ∷ (55, 8) ∷ (11, 1) ∷ (32, 18446744073709551615) ∷ (12, 0) ∷ (90, 0)
          ∷ (21, 0) ∷ (0, 0) ∷ (0, 0) ∷ [];
      names =
          "a" ∷ "b" ∷ "c" ∷ "d" ∷ "e" ∷ "f" ∷ "g" ∷ "h" ∷ "p" ∷ [];
      says = Answer.text (unlines (
          "# void @f(1 params)" ∷ "f:" ∷ "push_0n 6;" ∷ "f__e:" ∷ "push 1;" ∷ "push 1;" ∷ "and_u32;" ∷ "push 1;" ∷ "mul_u32;" ∷ "set_local 0;" ∷ "push 1;"
          ∷ "push 1;" ∷ "and_u32;" ∷ "push 255;" ∷ "mul_u32;" ∷ "set_local 1;" ∷ "push 1;" ∷ "push 1;" ∷ "and_u32;" ∷ "push 65535;" ∷ "mul_u32;"
          ∷ "set_local 2;" ∷ "push 1;" ∷ "push 1;" ∷ "and_u32;" ∷ "push 4294967295;" ∷ "mul_u32;" ∷ "set_local 3;" ∷ "push 1;" ∷ "push 1;" ∷ "and_u64;"
          ∷ "push 18446744073709551615;" ∷ "mul_u64;" ∷ "set_local 4;" ∷ "push 1;" ∷ "push 1;" ∷ "and_u64;" ∷ "push 18446744073709551615;" ∷ "mul_u64;"
          ∷ "set_local 5;" ∷ "push 0;" ∷ "ret;" ∷ "" ∷ [])) 0;
    } ∷
    -- sext of i8 to i8 and ptr: func:f void param:p ptr . block:e q=sext i8 -1 i8 x=sext i8 -1 ptr y=sext i16 -1 i1 ret - . .
    record {
      entries =
          (5, 1) ∷ (10, 0) ∷ (6, 3) ∷ (12, 0) ∷ (0, 0) ∷ (7, 0) ∷ (55, 4) ∷ (11, 8) ∷ (32, 18446744073709551615) ∷ (11, 8) ∷ (55, 5) ∷ (11, 8)
          ∷ (32, 18446744073709551615) ∷ (12, 0) ∷ (55, 6) ∷ (11, 16) ∷ (32, 18446744073709551615) ∷ (11, 1) ∷ (90, 0) ∷ (21, 0) ∷ (0, 0) ∷ (0, 0) ∷ [];
      names =
          "e" ∷ "f" ∷ "p" ∷ "q" ∷ "x" ∷ "y" ∷ [];
      says = Answer.text (unlines (
          "# void @f(1 params)" ∷ "f:" ∷ "push_0n 3;" ∷ "f__e:" ∷ "push 255;" ∷ "sx_i8_i32;" ∷ "trunc_u8;" ∷ "set_local 0;" ∷ "push 255;" ∷ "sx_i8_i64;"
          ∷ "set_local 1;" ∷ "push 65535;" ∷ "sx_i16_i32;" ∷ "push 1;" ∷ "and_u32;" ∷ "set_local 2;" ∷ "push 0;" ∷ "ret;" ∷ "" ∷ [])) 0;
    } ∷
    -- sext of i32 to i32: func:f void param:p ptr . block:e q=sext i32 -1 i32 ret - . .
    record {
      entries =
          (5, 1) ∷ (10, 0) ∷ (6, 3) ∷ (12, 0) ∷ (0, 0) ∷ (7, 0) ∷ (55, 4) ∷ (11, 32) ∷ (32, 18446744073709551615) ∷ (11, 32) ∷ (90, 0) ∷ (21, 0) ∷ (0, 0)
          ∷ (0, 0) ∷ [];
      names =
          "e" ∷ "f" ∷ "p" ∷ "q" ∷ [];
      says = Answer.refusal 13;
    } ∷
    -- sext of i32 to i8: func:f void param:p ptr . block:e q=sext i32 -1 i8 ret - . .
    record {
      entries =
          (5, 1) ∷ (10, 0) ∷ (6, 3) ∷ (12, 0) ∷ (0, 0) ∷ (7, 0) ∷ (55, 4) ∷ (11, 32) ∷ (32, 18446744073709551615) ∷ (11, 8) ∷ (90, 0) ∷ (21, 0) ∷ (0, 0)
          ∷ (0, 0) ∷ [];
      names =
          "e" ∷ "f" ∷ "p" ∷ "q" ∷ [];
      says = Answer.refusal 13;
    } ∷
    -- sext of ptr to ptr: func:f void param:p ptr . block:e q=sext ptr -1 ptr ret - . .
    record {
      entries =
          (5, 1) ∷ (10, 0) ∷ (6, 3) ∷ (12, 0) ∷ (0, 0) ∷ (7, 0) ∷ (55, 4) ∷ (12, 0) ∷ (32, 18446744073709551615) ∷ (12, 0) ∷ (90, 0) ∷ (21, 0) ∷ (0, 0)
          ∷ (0, 0) ∷ [];
      names =
          "e" ∷ "f" ∷ "p" ∷ "q" ∷ [];
      says = Answer.refusal 13;
    } ∷
    -- no block: func:f void param:p ptr . . .
    record {
      entries =
          (5, 0) ∷ (10, 0) ∷ (6, 2) ∷ (12, 0) ∷ (0, 0) ∷ (0, 0) ∷ (0, 0) ∷ [];
      names =
          "f" ∷ "p" ∷ [];
      says = Answer.text (unlines (
          "# void @f(1 params)" ∷ "f:" ∷ "" ∷ [])) 0;
    } ∷
    -- two blocks of one name: the later one's phis: func:f void param:p ptr . block:e br - :l - block:l x=phi i8 1 :e . ret - block:l y=phi i8 2 :e . ret - . .
    record {
      entries =
          (5, 1) ∷ (10, 0) ∷ (6, 4) ∷ (12, 0) ∷ (0, 0) ∷ (7, 0) ∷ (91, 0) ∷ (21, 0) ∷ (23, 2) ∷ (21, 0) ∷ (7, 2) ∷ (75, 5) ∷ (11, 8) ∷ (32, 1) ∷ (23, 0)
          ∷ (0, 0) ∷ (90, 0) ∷ (21, 0) ∷ (7, 2) ∷ (75, 6) ∷ (11, 8) ∷ (32, 2) ∷ (23, 0) ∷ (0, 0) ∷ (90, 0) ∷ (21, 0) ∷ (0, 0) ∷ (0, 0) ∷ [];
      names =
          "e" ∷ "f" ∷ "l" ∷ "p" ∷ "x" ∷ "y" ∷ [];
      says = Answer.text (unlines (
          "# void @f(1 params)" ∷ "f:" ∷ "push_0n 2;" ∷ "f__e:" ∷ "push 2;" ∷ "set_local 1;" ∷ "jmp f__l;" ∷ "f__l:" ∷ "push 0;" ∷ "ret;" ∷ "f__l:"
          ∷ "push 0;" ∷ "ret;" ∷ "" ∷ [])) 0;
    } ∷
    -- a value of the second predecessor of that name: func:f void param:p ptr . block:e br - :l - block:l x=phi i8 1 :k 2 :e 3 :e . ret - . .
    record {
      entries =
          (5, 1) ∷ (10, 0) ∷ (6, 5) ∷ (12, 0) ∷ (0, 0) ∷ (7, 0) ∷ (91, 0) ∷ (21, 0) ∷ (23, 3) ∷ (21, 0) ∷ (7, 3) ∷ (75, 6) ∷ (11, 8) ∷ (32, 1) ∷ (23, 2)
          ∷ (32, 2) ∷ (23, 0) ∷ (32, 3) ∷ (23, 0) ∷ (0, 0) ∷ (90, 0) ∷ (21, 0) ∷ (0, 0) ∷ (0, 0) ∷ [];
      names =
          "e" ∷ "f" ∷ "k" ∷ "l" ∷ "p" ∷ "x" ∷ [];
      says = Answer.text (unlines (
          "# void @f(1 params)" ∷ "f:" ∷ "push_0n 1;" ∷ "f__e:" ∷ "push 2;" ∷ "set_local 0;" ∷ "jmp f__l;" ∷ "f__l:" ∷ "push 0;" ∷ "ret;" ∷ "" ∷ [])) 0;
    } ∷
    -- a phi in the first block, which jumps to itself: func:f void param:p ptr . block:e x=phi i8 1 :l 2 :e . br - :e - . .
    record {
      entries =
          (5, 1) ∷ (10, 0) ∷ (6, 4) ∷ (12, 0) ∷ (0, 0) ∷ (7, 0) ∷ (75, 5) ∷ (11, 8) ∷ (32, 1) ∷ (23, 2) ∷ (32, 2) ∷ (23, 0) ∷ (0, 0) ∷ (91, 0) ∷ (21, 0)
          ∷ (23, 0) ∷ (21, 0) ∷ (0, 0) ∷ (0, 0) ∷ [];
      names =
          "e" ∷ "f" ∷ "l" ∷ "p" ∷ "x" ∷ [];
      says = Answer.text (unlines (
          "# void @f(1 params)" ∷ "f:" ∷ "push_0n 1;" ∷ "f__e:" ∷ "push 2;" ∷ "set_local 0;" ∷ "jmp f__e;" ∷ "" ∷ [])) 0;
    } ∷
    -- a phi behind a fence is none of the leading ones: func:f void param:p ptr . block:e br - :l - block:l fence x=phi i8 . ret - . .
    record {
      entries =
          (5, 1) ∷ (10, 0) ∷ (6, 4) ∷ (12, 0) ∷ (0, 0) ∷ (7, 0) ∷ (91, 0) ∷ (21, 0) ∷ (23, 2) ∷ (21, 0) ∷ (7, 2) ∷ (82, 0) ∷ (75, 5) ∷ (11, 8) ∷ (0, 0)
          ∷ (90, 0) ∷ (21, 0) ∷ (0, 0) ∷ (0, 0) ∷ [];
      names =
          "e" ∷ "f" ∷ "l" ∷ "p" ∷ "x" ∷ [];
      says = Answer.text (unlines (
          "# void @f(1 params)" ∷ "f:" ∷ "push_0n 1;" ∷ "f__e:" ∷ "jmp f__l;" ∷ "f__l:" ∷ "push 0;" ∷ "ret;" ∷ "" ∷ [])) 0;
    } ∷
    -- a phi behind a phi behind a store: func:f void param:p ptr . block:e br - :l - block:l x=phi i8 1 :e . store i8 1 1 - y=phi i8 . ret - . .
    record {
      entries =
          (5, 1) ∷ (10, 0) ∷ (6, 4) ∷ (12, 0) ∷ (0, 0) ∷ (7, 0) ∷ (91, 0) ∷ (21, 0) ∷ (23, 2) ∷ (21, 0) ∷ (7, 2) ∷ (75, 5) ∷ (11, 8) ∷ (32, 1) ∷ (23, 0)
          ∷ (0, 0) ∷ (72, 0) ∷ (11, 8) ∷ (32, 1) ∷ (32, 1) ∷ (21, 0) ∷ (75, 6) ∷ (11, 8) ∷ (0, 0) ∷ (90, 0) ∷ (21, 0) ∷ (0, 0) ∷ (0, 0) ∷ [];
      names =
          "e" ∷ "f" ∷ "l" ∷ "p" ∷ "x" ∷ "y" ∷ [];
      says = Answer.text (unlines (
          "# void @f(1 params)" ∷ "f:" ∷ "push_0n 2;" ∷ "f__e:" ∷ "push 1;" ∷ "set_local 0;" ∷ "jmp f__l;" ∷ "f__l:" ∷ "push 1;" ∷ "push 1;" ∷ "store_u8;"
          ∷ "push 0;" ∷ "ret;" ∷ "" ∷ [])) 0;
    } ∷
    -- phis at their widths: func:f void param:p ptr . block:e br - :l - block:l x=phi i1 -1 :e . y=phi ptr -1 :e . z=phi i16 -1 :e . ret - . .
    record {
      entries =
          (5, 1) ∷ (10, 0) ∷ (6, 4) ∷ (12, 0) ∷ (0, 0) ∷ (7, 0) ∷ (91, 0) ∷ (21, 0) ∷ (23, 2) ∷ (21, 0) ∷ (7, 2) ∷ (75, 5) ∷ (11, 1)
          ∷ (32, 18446744073709551615) ∷ (23, 0) ∷ (0, 0) ∷ (75, 6) ∷ (12, 0) ∷ (32, 18446744073709551615) ∷ (23, 0) ∷ (0, 0) ∷ (75, 7) ∷ (11, 16)
          ∷ (32, 18446744073709551615) ∷ (23, 0) ∷ (0, 0) ∷ (90, 0) ∷ (21, 0) ∷ (0, 0) ∷ (0, 0) ∷ [];
      names =
          "e" ∷ "f" ∷ "l" ∷ "p" ∷ "x" ∷ "y" ∷ "z" ∷ [];
      says = Answer.text (unlines (
          "# void @f(1 params)" ∷ "f:" ∷ "push_0n 3;" ∷ "f__e:" ∷ "push 1;" ∷ "push 18446744073709551615;" ∷ "push 65535;" ∷ "set_local 2;" ∷ "set_local 1;"
          ∷ "set_local 0;" ∷ "jmp f__l;" ∷ "f__l:" ∷ "push 0;" ∷ "ret;" ∷ "" ∷ [])) 0;
    } ∷
    -- a condition at width 1, both edges: func:f void param:p ptr . block:e br -1 :l :l block:l x=phi i8 1 :e . ret - . .
    record {
      entries =
          (5, 1) ∷ (10, 0) ∷ (6, 4) ∷ (12, 0) ∷ (0, 0) ∷ (7, 0) ∷ (91, 0) ∷ (32, 18446744073709551615) ∷ (23, 2) ∷ (23, 2) ∷ (7, 2) ∷ (75, 5) ∷ (11, 8)
          ∷ (32, 1) ∷ (23, 0) ∷ (0, 0) ∷ (90, 0) ∷ (21, 0) ∷ (0, 0) ∷ (0, 0) ∷ [];
      names =
          "e" ∷ "f" ∷ "l" ∷ "p" ∷ "x" ∷ [];
      says = Answer.text (unlines (
          "# void @f(1 params)" ∷ "f:" ∷ "push_0n 1;" ∷ "f__e:" ∷ "push 1;" ∷ "jz __br_false_0;" ∷ "push 1;" ∷ "set_local 0;" ∷ "jmp f__l;" ∷ "__br_false_0:"
          ∷ "push 1;" ∷ "set_local 0;" ∷ "jmp f__l;" ∷ "f__l:" ∷ "push 0;" ∷ "ret;" ∷ "" ∷ [])) 1;
    } ∷
    -- switch at 64 bits and at 1: func:f void param:p ptr . block:e switch ptr %p :l -1 :e . block:l switch i1 3 :e 3 :l . . .
    record {
      entries =
          (5, 1) ∷ (10, 0) ∷ (6, 4) ∷ (12, 0) ∷ (0, 0) ∷ (7, 0) ∷ (92, 0) ∷ (12, 0) ∷ (30, 3) ∷ (23, 2) ∷ (32, 18446744073709551615) ∷ (23, 0) ∷ (0, 0)
          ∷ (7, 2) ∷ (92, 0) ∷ (11, 1) ∷ (32, 3) ∷ (23, 0) ∷ (32, 3) ∷ (23, 2) ∷ (0, 0) ∷ (0, 0) ∷ (0, 0) ∷ [];
      names =
          "e" ∷ "f" ∷ "l" ∷ "p" ∷ [];
      says = Answer.text (unlines (
          "# void @f(1 params)" ∷ "f:" ∷ "f__e:" ∷ "get_arg 0;" ∷ "push 18446744073709551615;" ∷ "eq_u64;" ∷ "jnz __sw_case_0;" ∷ "jmp f__l;"
          ∷ "__sw_case_0:" ∷ "jmp f__e;" ∷ "f__l:" ∷ "push 1;" ∷ "push 1;" ∷ "eq_u32;" ∷ "jnz __sw_case_1;" ∷ "jmp f__e;" ∷ "__sw_case_1:" ∷ "jmp f__l;" ∷ ""
          ∷ [])) 2;
    } ∷
    -- ret of an integer at its width, with a frame: func:f void param:p ptr . block:e q=alloca i8 - - ret i1 3 . .
    record {
      entries =
          (5, 1) ∷ (10, 0) ∷ (6, 3) ∷ (12, 0) ∷ (0, 0) ∷ (7, 0) ∷ (73, 4) ∷ (11, 8) ∷ (21, 0) ∷ (21, 0) ∷ (90, 0) ∷ (11, 1) ∷ (32, 3) ∷ (0, 0) ∷ (0, 0) ∷ [];
      names =
          "e" ∷ "f" ∷ "p" ∷ "q" ∷ [];
      says = Answer.text (unlines (
          "# void @f(1 params)" ∷ "f:" ∷ "push_0n 2;" ∷ "thread_get 0;" ∷ "dup;" ∷ "set_local 1;" ∷ "push 8;" ∷ "add_u64;" ∷ "thread_set 0;" ∷ "f__e:"
          ∷ "get_local 1;" ∷ "set_local 0;" ∷ "push 1;" ∷ "get_local 1;" ∷ "thread_set 0;" ∷ "ret;" ∷ "" ∷ [])) 0;
    } ∷
    -- ret of a global: func:f void param:p ptr . block:e ret i8 @f . .
    record {
      entries =
          (5, 1) ∷ (10, 0) ∷ (6, 3) ∷ (12, 0) ∷ (0, 0) ∷ (7, 0) ∷ (90, 0) ∷ (11, 8) ∷ (31, 1) ∷ (0, 0) ∷ (0, 0) ∷ [];
      names =
          "e" ∷ "f" ∷ "p" ∷ [];
      says = Answer.text (unlines (
          "# void @f(1 params)" ∷ "f:" ∷ "f__e:" ∷ "push f;" ∷ "ret;" ∷ "" ∷ [])) 0;
    } ∷
    -- unreachable with a frame: func:f void param:p ptr . block:e q=alloca i8 - - unreachable . .
    record {
      entries =
          (5, 1) ∷ (10, 0) ∷ (6, 3) ∷ (12, 0) ∷ (0, 0) ∷ (7, 0) ∷ (73, 4) ∷ (11, 8) ∷ (21, 0) ∷ (21, 0) ∷ (93, 0) ∷ (0, 0) ∷ (0, 0) ∷ [];
      names =
          "e" ∷ "f" ∷ "p" ∷ "q" ∷ [];
      says = Answer.text (unlines (
          "# void @f(1 params)" ∷ "f:" ∷ "push_0n 2;" ∷ "thread_get 0;" ∷ "dup;" ∷ "set_local 1;" ∷ "push 8;" ∷ "add_u64;" ∷ "thread_set 0;" ∷ "f__e:"
          ∷ "get_local 1;" ∷ "set_local 0;" ∷ "panic;" ∷ "" ∷ [])) 0;
    } ∷
    -- a varying place alone: func:f void param:p ptr . block:e q=alloca i8 i8 %p - ret ptr -1 . .
    record {
      entries =
          (5, 1) ∷ (10, 0) ∷ (6, 3) ∷ (12, 0) ∷ (0, 0) ∷ (7, 0) ∷ (73, 4) ∷ (11, 8) ∷ (11, 8) ∷ (30, 2) ∷ (21, 0) ∷ (90, 0) ∷ (12, 0)
          ∷ (32, 18446744073709551615) ∷ (0, 0) ∷ (0, 0) ∷ [];
      names =
          "e" ∷ "f" ∷ "p" ∷ "q" ∷ [];
      says = Answer.text (unlines (
          "# void @f(1 params)" ∷ "f:" ∷ "push_0n 2;" ∷ "thread_get 0;" ∷ "dup;" ∷ "set_local 1;" ∷ "push 0;" ∷ "add_u64;" ∷ "thread_set 0;" ∷ "f__e:"
          ∷ "thread_get 0;" ∷ "push 7;" ∷ "add_u64;" ∷ "push 18446744073709551608;" ∷ "and_u64;" ∷ "dup;" ∷ "get_arg 0;" ∷ "add_u64;" ∷ "thread_set 0;"
          ∷ "set_local 0;" ∷ "push 18446744073709551615;" ∷ "get_local 1;" ∷ "thread_set 0;" ∷ "ret;" ∷ "" ∷ [])) 0;
    } ∷
    -- a parameter without name between: func:f i8 param:p i8 param ptr param:q i8 . block:e x=add i8 %p %q ret i8 %x . .
    record {
      entries =
          (5, 1) ∷ (11, 8) ∷ (6, 3) ∷ (11, 8) ∷ (6, 0) ∷ (12, 0) ∷ (6, 4) ∷ (11, 8) ∷ (0, 0) ∷ (7, 0) ∷ (40, 5) ∷ (11, 8) ∷ (30, 2) ∷ (30, 3) ∷ (90, 0)
          ∷ (11, 8) ∷ (30, 4) ∷ (0, 0) ∷ (0, 0) ∷ [];
      names =
          "e" ∷ "f" ∷ "p" ∷ "q" ∷ "x" ∷ [];
      says = Answer.text (unlines (
          "# i8 @f(3 params)" ∷ "f:" ∷ "push_0n 1;" ∷ "f__e:" ∷ "get_arg 0;" ∷ "get_arg 2;" ∷ "add_u32;" ∷ "trunc_u8;" ∷ "set_local 0;" ∷ "get_local 0;"
          ∷ "ret;" ∷ "" ∷ [])) 0;
    } ∷
    -- two parameters of one name: func:f i8 param:p i8 param:p i8 . block:e ret i8 %p . .
    record {
      entries =
          (5, 1) ∷ (11, 8) ∷ (6, 3) ∷ (11, 8) ∷ (6, 3) ∷ (11, 8) ∷ (0, 0) ∷ (7, 0) ∷ (90, 0) ∷ (11, 8) ∷ (30, 2) ∷ (0, 0) ∷ (0, 0) ∷ [];
      names =
          "e" ∷ "f" ∷ "p" ∷ [];
      says = Answer.text (unlines (
          "# i8 @f(2 params)" ∷ "f:" ∷ "f__e:" ∷ "get_arg 1;" ∷ "ret;" ∷ "" ∷ [])) 0;
    } ∷
    -- a parameter of label type: func:f label param:p label . block:e ret i8 %p . .
    record {
      entries =
          (5, 1) ∷ (19, 0) ∷ (6, 3) ∷ (19, 0) ∷ (0, 0) ∷ (7, 0) ∷ (90, 0) ∷ (11, 8) ∷ (30, 2) ∷ (0, 0) ∷ (0, 0) ∷ [];
      names =
          "e" ∷ "f" ∷ "p" ∷ [];
      says = Answer.text (unlines (
          "# label @f(1 params)" ∷ "f:" ∷ "f__e:" ∷ "get_arg 0;" ∷ "ret;" ∷ "" ∷ [])) 0;
    } ∷
    -- a call through a local with .with.overflow. takes one slot: func:f void param:a.with.overflow.b ptr . block:e q=call i8 %a.with.overflow.b . x=fence ret - . .
    record {
      entries =
          (5, 2) ∷ (10, 0) ∷ (6, 1) ∷ (12, 0) ∷ (0, 0) ∷ (7, 1) ∷ (76, 4) ∷ (11, 8) ∷ (30, 0) ∷ (0, 0) ∷ (82, 5) ∷ (90, 0) ∷ (21, 0) ∷ (0, 0) ∷ (0, 0) ∷ [];
      names =
          "a.with.overflow.b" ∷ "e" ∷ "f" ∷ "q" ∷ "x" ∷ [];
      says = Answer.text (unlines (
          "# void @f(1 params)" ∷ "f:" ∷ "push_0n 2;" ∷ "f__e:" ∷ "get_arg 0;" ∷ "call_fp 0;" ∷ "set_local 0;" ∷ "push 0;" ∷ "ret;" ∷ "" ∷ [])) 0;
    } ∷
    -- a struct of the function's name: struct:f { i8 } func:f %%f . block:f q=alloca %%f - - ret - . .
    record {
      entries =
          (3, 0) ∷ (16, 0) ∷ (11, 8) ∷ (0, 0) ∷ (5, 0) ∷ (15, 0) ∷ (0, 0) ∷ (7, 0) ∷ (73, 2) ∷ (15, 0) ∷ (21, 0) ∷ (21, 0) ∷ (90, 0) ∷ (21, 0) ∷ (0, 0)
          ∷ (0, 0) ∷ [];
      names =
          "f" ∷ "q" ∷ [];
      says = Answer.text (unlines (
          "# %f @f(0 params)" ∷ "f:" ∷ "push_0n 2;" ∷ "thread_get 0;" ∷ "dup;" ∷ "set_local 1;" ∷ "push 8;" ∷ "add_u64;" ∷ "thread_set 0;" ∷ "f__f:"
          ∷ "get_local 1;" ∷ "set_local 0;" ∷ "push 0;" ∷ "get_local 1;" ∷ "thread_set 0;" ∷ "ret;" ∷ "" ∷ [])) 0;
    } ∷
    []

pub corners_hold : map answers corners ≡ map says_of corners
unfolding open_sheet corners
corners_hold = refl
