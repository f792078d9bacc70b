-- Books of several functions: what each has of its own, what they share, how the list of them is closed, and which refusal of
-- several comes first. With the answers of the published Rust, asked function by function; written by `compare written`, in whose notation
-- each book stands over its row.
use Rattle.std.specs.Prelude.{◌^◌, ◌≡◌, refl, List, [], ◌∷◌, map}
use Rattle.assembly.specs.Cases.{unlines}
use Rattle.lowering.specs.Sheet.{Sheet, Answer, answers_at, answers, says_of, open_sheet}

unfoldable pub pieces : List Sheet
pieces =
    -- two functions that call each other: func:f void . block:e call void @g i8 1 . ret - . func:g i8 param:p i8 . block:e call void @f . ret i8 %p . .
    record {
      entries =
          (5, 1) ∷ (10, 0) ∷ (0, 0) ∷ (7, 0) ∷ (76, 0) ∷ (10, 0) ∷ (31, 2) ∷ (11, 8) ∷ (32, 1) ∷ (0, 0) ∷ (90, 0) ∷ (21, 0) ∷ (0, 0) ∷ (5, 2) ∷ (11, 8)
          ∷ (6, 4) ∷ (11, 8) ∷ (0, 0) ∷ (7, 0) ∷ (76, 0) ∷ (10, 0) ∷ (31, 1) ∷ (0, 0) ∷ (90, 0) ∷ (11, 8) ∷ (30, 3) ∷ (0, 0) ∷ (0, 0) ∷ [];
      names =
          "e" ∷ "f" ∷ "g" ∷ "p" ∷ [];
      says = Answer.text (unlines (
          "# void @f(0 params)" ∷ "f:" ∷ "f__e:" ∷ "push 1;" ∷ "call g, 1;" ∷ "pop;" ∷ "push 0;" ∷ "ret;" ∷ "" ∷ "# i8 @g(1 params)" ∷ "g:" ∷ "g__e:"
          ∷ "call f, 0;" ∷ "pop;" ∷ "get_arg 0;" ∷ "ret;" ∷ "" ∷ [])) 0;
    } ∷
    -- three functions, the one in the middle called: func:f void . block:e call void @g . ret - . func:g void . block:e ret - . func:h void . block:e call void @g . ret - . .
    record {
      entries =
          (5, 1) ∷ (10, 0) ∷ (0, 0) ∷ (7, 0) ∷ (76, 0) ∷ (10, 0) ∷ (31, 2) ∷ (0, 0) ∷ (90, 0) ∷ (21, 0) ∷ (0, 0) ∷ (5, 2) ∷ (10, 0) ∷ (0, 0) ∷ (7, 0)
          ∷ (90, 0) ∷ (21, 0) ∷ (0, 0) ∷ (5, 3) ∷ (10, 0) ∷ (0, 0) ∷ (7, 0) ∷ (76, 0) ∷ (10, 0) ∷ (31, 2) ∷ (0, 0) ∷ (90, 0) ∷ (21, 0) ∷ (0, 0) ∷ (0, 0) ∷ [];
      names =
          "e" ∷ "f" ∷ "g" ∷ "h" ∷ [];
      says = Answer.text (unlines (
          "# void @f(0 params)" ∷ "f:" ∷ "f__e:" ∷ "call g, 0;" ∷ "pop;" ∷ "push 0;" ∷ "ret;" ∷ "" ∷ "# void @g(0 params)" ∷ "g:" ∷ "g__e:" ∷ "push 0;"
          ∷ "ret;" ∷ "" ∷ "# void @h(0 params)" ∷ "h:" ∷ "h__e:" ∷ "call g, 0;" ∷ "pop;" ∷ "push 0;" ∷ "ret;" ∷ "" ∷ [])) 0;
    } ∷
    -- a function marked defined: def:g func:f void . block:e call void @g . ret - . func:g void . block:e call void @f . ret - . .
    record {
      entries =
          (1, 2) ∷ (5, 1) ∷ (10, 0) ∷ (0, 0) ∷ (7, 0) ∷ (76, 0) ∷ (10, 0) ∷ (31, 2) ∷ (0, 0) ∷ (90, 0) ∷ (21, 0) ∷ (0, 0) ∷ (5, 2) ∷ (10, 0) ∷ (0, 0)
          ∷ (7, 0) ∷ (76, 0) ∷ (10, 0) ∷ (31, 1) ∷ (0, 0) ∷ (90, 0) ∷ (21, 0) ∷ (0, 0) ∷ (0, 0) ∷ [];
      names =
          "e" ∷ "f" ∷ "g" ∷ [];
      says = Answer.text (unlines (
          "# void @f(0 params)" ∷ "f:" ∷ "f__e:" ∷ "call g, 0;" ∷ "pop;" ∷ "push 0;" ∷ "ret;" ∷ "" ∷ "# void @g(0 params)" ∷ "g:" ∷ "g__e:" ∷ "call f, 0;"
          ∷ "pop;" ∷ "push 0;" ∷ "ret;" ∷ "" ∷ [])) 0;
    } ∷
    -- a function marked reserved: res:g func:f ptr . block:e ret ptr @g . func:g void . block:e call void @f . ret - . .
    record {
      entries =
          (2, 2) ∷ (5, 1) ∷ (12, 0) ∷ (0, 0) ∷ (7, 0) ∷ (90, 0) ∷ (12, 0) ∷ (31, 2) ∷ (0, 0) ∷ (5, 2) ∷ (10, 0) ∷ (0, 0) ∷ (7, 0) ∷ (76, 0) ∷ (10, 0)
          ∷ (31, 1) ∷ (0, 0) ∷ (90, 0) ∷ (21, 0) ∷ (0, 0) ∷ (0, 0) ∷ [];
      names =
          "e" ∷ "f" ∷ "g" ∷ [];
      says = Answer.text (unlines (
          "# ptr @f(0 params)" ∷ "f:" ∷ "f__e:" ∷ "push g;" ∷ "ret;" ∷ "" ∷ "# void @g(0 params)" ∷ "g:" ∷ "g__e:" ∷ "call f, 0;" ∷ "pop;" ∷ "push 0;"
          ∷ "ret;" ∷ "" ∷ [])) 0;
    } ∷
    -- a function marked reserved, called: res:g func:f void . block:e call void @g . ret - . func:g void . block:e ret - . .
    record {
      entries =
          (2, 2) ∷ (5, 1) ∷ (10, 0) ∷ (0, 0) ∷ (7, 0) ∷ (76, 0) ∷ (10, 0) ∷ (31, 2) ∷ (0, 0) ∷ (90, 0) ∷ (21, 0) ∷ (0, 0) ∷ (5, 2) ∷ (10, 0) ∷ (0, 0)
          ∷ (7, 0) ∷ (90, 0) ∷ (21, 0) ∷ (0, 0) ∷ (0, 0) ∷ [];
      names =
          "e" ∷ "f" ∷ "g" ∷ [];
      says = Answer.refusal 3;
    } ∷
    -- a function without blocks, called: func:f void . . func:g void . block:e call void @f . ret - . .
    record {
      entries =
          (5, 1) ∷ (10, 0) ∷ (0, 0) ∷ (0, 0) ∷ (5, 2) ∷ (10, 0) ∷ (0, 0) ∷ (7, 0) ∷ (76, 0) ∷ (10, 0) ∷ (31, 1) ∷ (0, 0) ∷ (90, 0) ∷ (21, 0) ∷ (0, 0)
          ∷ (0, 0) ∷ [];
      names =
          "e" ∷ "f" ∷ "g" ∷ [];
      says = Answer.text (unlines (
          "# void @f(0 params)" ∷ "f:" ∷ "" ∷ "# void @g(0 params)" ∷ "g:" ∷ "g__e:" ∷ "call f, 0;" ∷ "pop;" ∷ "push 0;" ∷ "ret;" ∷ "" ∷ [])) 0;
    } ∷
    -- a function that calls nobody's: func:f void . block:e ret - . func:g void . block:e call void @h . ret - . .
    record {
      entries =
          (5, 1) ∷ (10, 0) ∷ (0, 0) ∷ (7, 0) ∷ (90, 0) ∷ (21, 0) ∷ (0, 0) ∷ (5, 2) ∷ (10, 0) ∷ (0, 0) ∷ (7, 0) ∷ (76, 0) ∷ (10, 0) ∷ (31, 3) ∷ (0, 0)
          ∷ (90, 0) ∷ (21, 0) ∷ (0, 0) ∷ (0, 0) ∷ [];
      names =
          "e" ∷ "f" ∷ "g" ∷ "h" ∷ [];
      says = Answer.refusal 15;
    } ∷
    -- a call through a function's address: func:f ptr . block:e ret ptr @g . func:g void param:p ptr . block:e call void %p . ret - . .
    record {
      entries =
          (5, 1) ∷ (12, 0) ∷ (0, 0) ∷ (7, 0) ∷ (90, 0) ∷ (12, 0) ∷ (31, 2) ∷ (0, 0) ∷ (5, 2) ∷ (10, 0) ∷ (6, 4) ∷ (12, 0) ∷ (0, 0) ∷ (7, 0) ∷ (76, 0)
          ∷ (10, 0) ∷ (30, 3) ∷ (0, 0) ∷ (90, 0) ∷ (21, 0) ∷ (0, 0) ∷ (0, 0) ∷ [];
      names =
          "e" ∷ "f" ∷ "g" ∷ "p" ∷ [];
      says = Answer.text (unlines (
          "# ptr @f(0 params)" ∷ "f:" ∷ "f__e:" ∷ "push g;" ∷ "ret;" ∷ "" ∷ "# void @g(1 params)" ∷ "g:" ∷ "g__e:" ∷ "get_arg 0;" ∷ "call_fp 0;" ∷ "pop;"
          ∷ "push 0;" ∷ "ret;" ∷ "" ∷ [])) 0;
    } ∷
    -- a function named like a syscall: func:__uvm_a void . block:e call void @__uvm_a . ret - . func:f void . block:e call i8 @__uvm_a . ret - . .
    record {
      entries =
          (5, 0) ∷ (10, 0) ∷ (0, 0) ∷ (7, 1) ∷ (76, 0) ∷ (10, 0) ∷ (31, 0) ∷ (0, 0) ∷ (90, 0) ∷ (21, 0) ∷ (0, 0) ∷ (5, 2) ∷ (10, 0) ∷ (0, 0) ∷ (7, 1)
          ∷ (76, 0) ∷ (11, 8) ∷ (31, 0) ∷ (0, 0) ∷ (90, 0) ∷ (21, 0) ∷ (0, 0) ∷ (0, 0) ∷ [];
      names =
          "__uvm_a" ∷ "e" ∷ "f" ∷ [];
      says = Answer.text (unlines (
          "# void @__uvm_a(0 params)" ∷ "__uvm_a:" ∷ "__uvm_a__e:" ∷ "syscall a;" ∷ "push 0;" ∷ "ret;" ∷ "" ∷ "# void @f(0 params)" ∷ "f:" ∷ "f__e:"
          ∷ "syscall a;" ∷ "pop;" ∷ "push 0;" ∷ "ret;" ∷ "" ∷ [])) 0;
    } ∷
    -- a function named memcmp: func:f void . block:e call i8 @memcmp . ret - . func:memcmp void . block:e ret - . .
    record {
      entries =
          (5, 1) ∷ (10, 0) ∷ (0, 0) ∷ (7, 0) ∷ (76, 0) ∷ (11, 8) ∷ (31, 2) ∷ (0, 0) ∷ (90, 0) ∷ (21, 0) ∷ (0, 0) ∷ (5, 2) ∷ (10, 0) ∷ (0, 0) ∷ (7, 0)
          ∷ (90, 0) ∷ (21, 0) ∷ (0, 0) ∷ (0, 0) ∷ [];
      names =
          "e" ∷ "f" ∷ "memcmp" ∷ [];
      says = Answer.text (unlines (
          "# void @f(0 params)" ∷ "f:" ∷ "f__e:" ∷ "syscall memcmp;" ∷ "pop;" ∷ "push 0;" ∷ "ret;" ∷ "" ∷ "# void @memcmp(0 params)" ∷ "memcmp:"
          ∷ "memcmp__e:" ∷ "push 0;" ∷ "ret;" ∷ "" ∷ [])) 0;
    } ∷
    -- a function named llvm., not called: func:f void . block:e ret - . func:llvm.a void . block:e ret - . .
    record {
      entries =
          (5, 1) ∷ (10, 0) ∷ (0, 0) ∷ (7, 0) ∷ (90, 0) ∷ (21, 0) ∷ (0, 0) ∷ (5, 2) ∷ (10, 0) ∷ (0, 0) ∷ (7, 0) ∷ (90, 0) ∷ (21, 0) ∷ (0, 0) ∷ (0, 0) ∷ [];
      names =
          "e" ∷ "f" ∷ "llvm.a" ∷ [];
      says = Answer.text (unlines (
          "# void @f(0 params)" ∷ "f:" ∷ "f__e:" ∷ "push 0;" ∷ "ret;" ∷ "" ∷ "# void @llvm.a(0 params)" ∷ "llvm_a:" ∷ "llvm_a__e:" ∷ "push 0;" ∷ "ret;" ∷ ""
          ∷ [])) 0;
    } ∷
    -- a function named llvm., called: func:f void . block:e ret - . func:llvm.a void . block:e call void @llvm.a . ret - . .
    record {
      entries =
          (5, 1) ∷ (10, 0) ∷ (0, 0) ∷ (7, 0) ∷ (90, 0) ∷ (21, 0) ∷ (0, 0) ∷ (5, 2) ∷ (10, 0) ∷ (0, 0) ∷ (7, 0) ∷ (76, 0) ∷ (10, 0) ∷ (31, 2) ∷ (0, 0)
          ∷ (90, 0) ∷ (21, 0) ∷ (0, 0) ∷ (0, 0) ∷ [];
      names =
          "e" ∷ "f" ∷ "llvm.a" ∷ [];
      says = Answer.refusal 3;
    } ∷
    -- a function with .with.overflow., called by another: func:a.with.overflow.b i8 . block:e ret i8 1 . func:f i8 . block:e q=call i8 @a.with.overflow.b . x=extractvalue %q #1 ret i8 %x . .
    record {
      entries =
          (5, 0) ∷ (11, 8) ∷ (0, 0) ∷ (7, 1) ∷ (90, 0) ∷ (11, 8) ∷ (32, 1) ∷ (0, 0) ∷ (5, 2) ∷ (11, 8) ∷ (0, 0) ∷ (7, 1) ∷ (76, 4) ∷ (11, 8) ∷ (31, 0)
          ∷ (0, 0) ∷ (81, 5) ∷ (30, 3) ∷ (22, 1) ∷ (90, 0) ∷ (11, 8) ∷ (30, 4) ∷ (0, 0) ∷ (0, 0) ∷ [];
      names =
          "a.with.overflow.b" ∷ "e" ∷ "f" ∷ "q" ∷ "x" ∷ [];
      says = Answer.text (unlines (
          "# i8 @a.with.overflow.b(0 params)" ∷ "a_with_overflow_b:" ∷ "a_with_overflow_b__e:" ∷ "push 1;" ∷ "ret;" ∷ "" ∷ "# i8 @f(0 params)" ∷ "f:"
          ∷ "push_0n 3;" ∷ "f__e:" ∷ "call a_with_overflow_b, 0;" ∷ "set_local 0;" ∷ "get_local 1;" ∷ "set_local 2;" ∷ "get_local 2;" ∷ "ret;" ∷ "" ∷ [])) 0;
    } ∷
    -- labels are counted on: func:f i8 . block:e q=select 1 i8 1 2 ret i8 %q . func:g void . block:e br 1 :e :e . func:h void . block:e switch i8 1 :e 1 :e 2 :e . . .
    record {
      entries =
          (5, 1) ∷ (11, 8) ∷ (0, 0) ∷ (7, 0) ∷ (70, 5) ∷ (32, 1) ∷ (11, 8) ∷ (32, 1) ∷ (32, 2) ∷ (90, 0) ∷ (11, 8) ∷ (30, 4) ∷ (0, 0) ∷ (5, 2) ∷ (10, 0)
          ∷ (0, 0) ∷ (7, 0) ∷ (91, 0) ∷ (32, 1) ∷ (23, 0) ∷ (23, 0) ∷ (0, 0) ∷ (5, 3) ∷ (10, 0) ∷ (0, 0) ∷ (7, 0) ∷ (92, 0) ∷ (11, 8) ∷ (32, 1) ∷ (23, 0)
          ∷ (32, 1) ∷ (23, 0) ∷ (32, 2) ∷ (23, 0) ∷ (0, 0) ∷ (0, 0) ∷ (0, 0) ∷ [];
      names =
          "e" ∷ "f" ∷ "g" ∷ "h" ∷ "q" ∷ [];
      says = Answer.text (unlines (
          "# i8 @f(0 params)" ∷ "f:" ∷ "push_0n 1;" ∷ "f__e:" ∷ "push 1;" ∷ "jz __sel_false_0;" ∷ "push 1;" ∷ "jmp __sel_done_1;" ∷ "__sel_false_0:"
          ∷ "push 2;" ∷ "__sel_done_1:" ∷ "set_local 0;" ∷ "get_local 0;" ∷ "ret;" ∷ "" ∷ "# void @g(0 params)" ∷ "g:" ∷ "g__e:" ∷ "push 1;"
          ∷ "jz __br_false_2;" ∷ "jmp g__e;" ∷ "__br_false_2:" ∷ "jmp g__e;" ∷ "" ∷ "# void @h(0 params)" ∷ "h:" ∷ "h__e:" ∷ "push 1;" ∷ "push 1;"
          ∷ "eq_u32;" ∷ "jnz __sw_case_3;" ∷ "push 1;" ∷ "push 2;" ∷ "eq_u32;" ∷ "jnz __sw_case_4;" ∷ "jmp h__e;" ∷ "__sw_case_3:" ∷ "jmp h__e;"
          ∷ "__sw_case_4:" ∷ "jmp h__e;" ∷ "" ∷ [])) 5;
    } ∷
    -- a struct of both: struct:s { i8 ptr } func:f void . block:e q=alloca %%s - - ret - . func:g void . block:e q=alloca i8 - - r=alloca %%s - - ret - . .
    record {
      entries =
          (3, 5) ∷ (16, 0) ∷ (11, 8) ∷ (12, 0) ∷ (0, 0) ∷ (5, 1) ∷ (10, 0) ∷ (0, 0) ∷ (7, 0) ∷ (73, 4) ∷ (15, 5) ∷ (21, 0) ∷ (21, 0) ∷ (90, 0) ∷ (21, 0)
          ∷ (0, 0) ∷ (5, 2) ∷ (10, 0) ∷ (0, 0) ∷ (7, 0) ∷ (73, 4) ∷ (11, 8) ∷ (21, 0) ∷ (21, 0) ∷ (73, 5) ∷ (15, 5) ∷ (21, 0) ∷ (21, 0) ∷ (90, 0) ∷ (21, 0)
          ∷ (0, 0) ∷ (0, 0) ∷ [];
      names =
          "e" ∷ "f" ∷ "g" ∷ "q" ∷ "r" ∷ "s" ∷ [];
      says = Answer.text (unlines (
          "# void @f(0 params)" ∷ "f:" ∷ "push_0n 2;" ∷ "thread_get 0;" ∷ "dup;" ∷ "set_local 1;" ∷ "push 16;" ∷ "add_u64;" ∷ "thread_set 0;" ∷ "f__e:"
          ∷ "get_local 1;" ∷ "set_local 0;" ∷ "push 0;" ∷ "get_local 1;" ∷ "thread_set 0;" ∷ "ret;" ∷ "" ∷ "# void @g(0 params)" ∷ "g:" ∷ "push_0n 3;"
          ∷ "thread_get 0;" ∷ "dup;" ∷ "set_local 2;" ∷ "push 24;" ∷ "add_u64;" ∷ "thread_set 0;" ∷ "g__e:" ∷ "get_local 2;" ∷ "set_local 0;"
          ∷ "get_local 2;" ∷ "push 8;" ∷ "add_u64;" ∷ "set_local 1;" ∷ "push 0;" ∷ "get_local 2;" ∷ "thread_set 0;" ∷ "ret;" ∷ "" ∷ [])) 0;
    } ∷
    -- the second function returns a struct: struct:s { i8 } func:f void . . func:g %%s param:p i8 param i8 . . .
    record {
      entries =
          (3, 3) ∷ (16, 0) ∷ (11, 8) ∷ (0, 0) ∷ (5, 0) ∷ (10, 0) ∷ (0, 0) ∷ (0, 0) ∷ (5, 1) ∷ (15, 3) ∷ (6, 3) ∷ (11, 8) ∷ (6, 0) ∷ (11, 8) ∷ (0, 0) ∷ (0, 0)
          ∷ (0, 0) ∷ [];
      names =
          "f" ∷ "g" ∷ "p" ∷ "s" ∷ [];
      says = Answer.text (unlines (
          "# void @f(0 params)" ∷ "f:" ∷ "" ∷ "# %s @g(2 params)" ∷ "g:" ∷ "" ∷ [])) 0;
    } ∷
    -- one name for all, in both: func:f i8 param:p i8 . block:e q=add i8 %p 1 ret i8 %q . func:g i8 param:p i8 . block:e q=sub i8 %p 1 ret i8 %q . .
    record {
      entries =
          (5, 1) ∷ (11, 8) ∷ (6, 4) ∷ (11, 8) ∷ (0, 0) ∷ (7, 0) ∷ (40, 5) ∷ (11, 8) ∷ (30, 3) ∷ (32, 1) ∷ (90, 0) ∷ (11, 8) ∷ (30, 4) ∷ (0, 0) ∷ (5, 2)
          ∷ (11, 8) ∷ (6, 4) ∷ (11, 8) ∷ (0, 0) ∷ (7, 0) ∷ (41, 5) ∷ (11, 8) ∷ (30, 3) ∷ (32, 1) ∷ (90, 0) ∷ (11, 8) ∷ (30, 4) ∷ (0, 0) ∷ (0, 0) ∷ [];
      names =
          "e" ∷ "f" ∷ "g" ∷ "p" ∷ "q" ∷ [];
      says = Answer.text (unlines (
          "# i8 @f(1 params)" ∷ "f:" ∷ "push_0n 1;" ∷ "f__e:" ∷ "get_arg 0;" ∷ "push 1;" ∷ "add_u32;" ∷ "trunc_u8;" ∷ "set_local 0;" ∷ "get_local 0;"
          ∷ "ret;" ∷ "" ∷ "# i8 @g(1 params)" ∷ "g:" ∷ "push_0n 1;" ∷ "g__e:" ∷ "get_arg 0;" ∷ "push 1;" ∷ "sub_u32;" ∷ "trunc_u8;" ∷ "set_local 0;"
          ∷ "get_local 0;" ∷ "ret;" ∷ "" ∷ [])) 0;
    } ∷
    -- a result of the function before: func:f void . block:e q=add i8 1 1 ret - . func:g i8 . block:e ret i8 %q . .
    record {
      entries =
          (5, 1) ∷ (10, 0) ∷ (0, 0) ∷ (7, 0) ∷ (40, 4) ∷ (11, 8) ∷ (32, 1) ∷ (32, 1) ∷ (90, 0) ∷ (21, 0) ∷ (0, 0) ∷ (5, 2) ∷ (11, 8) ∷ (0, 0) ∷ (7, 0)
          ∷ (90, 0) ∷ (11, 8) ∷ (30, 3) ∷ (0, 0) ∷ (0, 0) ∷ [];
      names =
          "e" ∷ "f" ∷ "g" ∷ "q" ∷ [];
      says = Answer.refusal 10;
    } ∷
    -- a parameter of the function before: func:f void param:p i8 . block:e ret - . func:g i8 . block:e ret i8 %p . .
    record {
      entries =
          (5, 1) ∷ (10, 0) ∷ (6, 4) ∷ (11, 8) ∷ (0, 0) ∷ (7, 0) ∷ (90, 0) ∷ (21, 0) ∷ (0, 0) ∷ (5, 2) ∷ (11, 8) ∷ (0, 0) ∷ (7, 0) ∷ (90, 0) ∷ (11, 8)
          ∷ (30, 3) ∷ (0, 0) ∷ (0, 0) ∷ [];
      names =
          "e" ∷ "f" ∷ "g" ∷ "p" ∷ [];
      says = Answer.refusal 10;
    } ∷
    -- a result of the function behind: func:f i8 . block:e ret i8 %q . func:g void . block:e q=add i8 1 1 ret - . .
    record {
      entries =
          (5, 1) ∷ (11, 8) ∷ (0, 0) ∷ (7, 0) ∷ (90, 0) ∷ (11, 8) ∷ (30, 3) ∷ (0, 0) ∷ (5, 2) ∷ (10, 0) ∷ (0, 0) ∷ (7, 0) ∷ (40, 4) ∷ (11, 8) ∷ (32, 1)
          ∷ (32, 1) ∷ (90, 0) ∷ (21, 0) ∷ (0, 0) ∷ (0, 0) ∷ [];
      names =
          "e" ∷ "f" ∷ "g" ∷ "q" ∷ [];
      says = Answer.refusal 10;
    } ∷
    -- a block of the function before: func:f void . block:b ret - . func:g void . block:e br - :b - . .
    record {
      entries =
          (5, 2) ∷ (10, 0) ∷ (0, 0) ∷ (7, 0) ∷ (90, 0) ∷ (21, 0) ∷ (0, 0) ∷ (5, 3) ∷ (10, 0) ∷ (0, 0) ∷ (7, 1) ∷ (91, 0) ∷ (21, 0) ∷ (23, 0) ∷ (21, 0)
          ∷ (0, 0) ∷ (0, 0) ∷ [];
      names =
          "b" ∷ "e" ∷ "f" ∷ "g" ∷ [];
      says = Answer.refusal 17;
    } ∷
    -- a block of the function behind: func:f void . block:e br - :b - . func:g void . block:b ret - . .
    record {
      entries =
          (5, 2) ∷ (10, 0) ∷ (0, 0) ∷ (7, 1) ∷ (91, 0) ∷ (21, 0) ∷ (23, 0) ∷ (21, 0) ∷ (0, 0) ∷ (5, 3) ∷ (10, 0) ∷ (0, 0) ∷ (7, 0) ∷ (90, 0) ∷ (21, 0)
          ∷ (0, 0) ∷ (0, 0) ∷ [];
      names =
          "b" ∷ "e" ∷ "f" ∷ "g" ∷ [];
      says = Answer.refusal 17;
    } ∷
    -- phis of one block's name in both: func:f void . block:e br - :l - block:l x=phi i8 1 :e . ret - . func:g void . block:e br - :l - block:l x=phi i8 2 :e . y=phi i8 3 :e . ret - . .
    record {
      entries =
          (5, 1) ∷ (10, 0) ∷ (0, 0) ∷ (7, 0) ∷ (91, 0) ∷ (21, 0) ∷ (23, 3) ∷ (21, 0) ∷ (7, 3) ∷ (75, 5) ∷ (11, 8) ∷ (32, 1) ∷ (23, 0) ∷ (0, 0) ∷ (90, 0)
          ∷ (21, 0) ∷ (0, 0) ∷ (5, 2) ∷ (10, 0) ∷ (0, 0) ∷ (7, 0) ∷ (91, 0) ∷ (21, 0) ∷ (23, 3) ∷ (21, 0) ∷ (7, 3) ∷ (75, 5) ∷ (11, 8) ∷ (32, 2) ∷ (23, 0)
          ∷ (0, 0) ∷ (75, 6) ∷ (11, 8) ∷ (32, 3) ∷ (23, 0) ∷ (0, 0) ∷ (90, 0) ∷ (21, 0) ∷ (0, 0) ∷ (0, 0) ∷ [];
      names =
          "e" ∷ "f" ∷ "g" ∷ "l" ∷ "x" ∷ "y" ∷ [];
      says = Answer.text (unlines (
          "# void @f(0 params)" ∷ "f:" ∷ "push_0n 1;" ∷ "f__e:" ∷ "push 1;" ∷ "set_local 0;" ∷ "jmp f__l;" ∷ "f__l:" ∷ "push 0;" ∷ "ret;" ∷ ""
          ∷ "# void @g(0 params)" ∷ "g:" ∷ "push_0n 2;" ∷ "g__e:" ∷ "push 2;" ∷ "push 3;" ∷ "set_local 1;" ∷ "set_local 0;" ∷ "jmp g__l;" ∷ "g__l:"
          ∷ "push 0;" ∷ "ret;" ∷ "" ∷ [])) 0;
    } ∷
    -- phis of the function before: func:f void . block:e br - :l - block:l x=phi i8 1 :e . ret - . func:g void . block:k br - :l - block:l ret - . .
    record {
      entries =
          (5, 1) ∷ (10, 0) ∷ (0, 0) ∷ (7, 0) ∷ (91, 0) ∷ (21, 0) ∷ (23, 4) ∷ (21, 0) ∷ (7, 4) ∷ (75, 6) ∷ (11, 8) ∷ (32, 1) ∷ (23, 0) ∷ (0, 0) ∷ (90, 0)
          ∷ (21, 0) ∷ (0, 0) ∷ (5, 2) ∷ (10, 0) ∷ (0, 0) ∷ (7, 3) ∷ (91, 0) ∷ (21, 0) ∷ (23, 4) ∷ (21, 0) ∷ (7, 4) ∷ (90, 0) ∷ (21, 0) ∷ (0, 0) ∷ (0, 0) ∷ [];
      names =
          "e" ∷ "f" ∷ "g" ∷ "k" ∷ "l" ∷ "x" ∷ [];
      says = Answer.text (unlines (
          "# void @f(0 params)" ∷ "f:" ∷ "push_0n 1;" ∷ "f__e:" ∷ "push 1;" ∷ "set_local 0;" ∷ "jmp f__l;" ∷ "f__l:" ∷ "push 0;" ∷ "ret;" ∷ ""
          ∷ "# void @g(0 params)" ∷ "g:" ∷ "g__k:" ∷ "jmp g__l;" ∷ "g__l:" ∷ "push 0;" ∷ "ret;" ∷ "" ∷ [])) 0;
    } ∷
    -- a parameter there, a result here: func:f i8 param:q i8 . block:e ret i8 %q . func:g i8 . block:e q=add i8 1 1 ret i8 %q . func:h i8 param:x ptr param:q i8 . block:e ret i8 %q . .
    record {
      entries =
          (5, 1) ∷ (11, 8) ∷ (6, 5) ∷ (11, 8) ∷ (0, 0) ∷ (7, 0) ∷ (90, 0) ∷ (11, 8) ∷ (30, 4) ∷ (0, 0) ∷ (5, 2) ∷ (11, 8) ∷ (0, 0) ∷ (7, 0) ∷ (40, 5)
          ∷ (11, 8) ∷ (32, 1) ∷ (32, 1) ∷ (90, 0) ∷ (11, 8) ∷ (30, 4) ∷ (0, 0) ∷ (5, 3) ∷ (11, 8) ∷ (6, 6) ∷ (12, 0) ∷ (6, 5) ∷ (11, 8) ∷ (0, 0) ∷ (7, 0)
          ∷ (90, 0) ∷ (11, 8) ∷ (30, 4) ∷ (0, 0) ∷ (0, 0) ∷ [];
      names =
          "e" ∷ "f" ∷ "g" ∷ "h" ∷ "q" ∷ "x" ∷ [];
      says = Answer.text (unlines (
          "# i8 @f(1 params)" ∷ "f:" ∷ "f__e:" ∷ "get_arg 0;" ∷ "ret;" ∷ "" ∷ "# i8 @g(0 params)" ∷ "g:" ∷ "push_0n 1;" ∷ "g__e:" ∷ "push 1;" ∷ "push 1;"
          ∷ "add_u32;" ∷ "trunc_u8;" ∷ "set_local 0;" ∷ "get_local 0;" ∷ "ret;" ∷ "" ∷ "# i8 @h(2 params)" ∷ "h:" ∷ "h__e:" ∷ "get_arg 1;" ∷ "ret;" ∷ "" ∷ [])) 0;
    } ∷
    -- a pair there, one slot here: func:f void . block:e q=cmpxchg i64 null 1 2 x=fence ret - . func:g i8 . block:e q=add i8 1 1 x=add i8 %q 1 ret i8 %x . .
    record {
      entries =
          (5, 1) ∷ (10, 0) ∷ (0, 0) ∷ (7, 0) ∷ (80, 4) ∷ (11, 64) ∷ (33, 0) ∷ (32, 1) ∷ (32, 2) ∷ (82, 5) ∷ (90, 0) ∷ (21, 0) ∷ (0, 0) ∷ (5, 2) ∷ (11, 8)
          ∷ (0, 0) ∷ (7, 0) ∷ (40, 4) ∷ (11, 8) ∷ (32, 1) ∷ (32, 1) ∷ (40, 5) ∷ (11, 8) ∷ (30, 3) ∷ (32, 1) ∷ (90, 0) ∷ (11, 8) ∷ (30, 4) ∷ (0, 0) ∷ (0, 0)
          ∷ [];
      names =
          "e" ∷ "f" ∷ "g" ∷ "q" ∷ "x" ∷ [];
      says = Answer.text (unlines (
          "# void @f(0 params)" ∷ "f:" ∷ "push_0n 3;" ∷ "f__e:" ∷ "push 0;" ∷ "push 1;" ∷ "push 2;" ∷ "atomic_cas_u64;" ∷ "dup;" ∷ "set_local 0;" ∷ "push 1;"
          ∷ "eq_u64;" ∷ "set_local 1;" ∷ "push 0;" ∷ "ret;" ∷ "" ∷ "# i8 @g(0 params)" ∷ "g:" ∷ "push_0n 2;" ∷ "g__e:" ∷ "push 1;" ∷ "push 1;" ∷ "add_u32;"
          ∷ "trunc_u8;" ∷ "set_local 0;" ∷ "get_local 0;" ∷ "push 1;" ∷ "add_u32;" ∷ "trunc_u8;" ∷ "set_local 1;" ∷ "get_local 1;" ∷ "ret;" ∷ "" ∷ [])) 0;
    } ∷
    -- an extractvalue of the pair before: func:f void . block:e q=cmpxchg i64 null 1 2 ret - . func:g void . block:e x=extractvalue %q #0 ret - . .
    record {
      entries =
          (5, 1) ∷ (10, 0) ∷ (0, 0) ∷ (7, 0) ∷ (80, 4) ∷ (11, 64) ∷ (33, 0) ∷ (32, 1) ∷ (32, 2) ∷ (90, 0) ∷ (21, 0) ∷ (0, 0) ∷ (5, 2) ∷ (10, 0) ∷ (0, 0)
          ∷ (7, 0) ∷ (81, 5) ∷ (30, 3) ∷ (22, 0) ∷ (90, 0) ∷ (21, 0) ∷ (0, 0) ∷ (0, 0) ∷ [];
      names =
          "e" ∷ "f" ∷ "g" ∷ "q" ∷ "x" ∷ [];
      says = Answer.refusal 16;
    } ∷
    -- a frame there, none here: func:f void . block:e q=alloca i64 - - ret - . func:g i8 . block:e q=add i8 1 1 ret i8 %q . func:h void . block:e ret - . .
    record {
      entries =
          (5, 1) ∷ (10, 0) ∷ (0, 0) ∷ (7, 0) ∷ (73, 5) ∷ (11, 64) ∷ (21, 0) ∷ (21, 0) ∷ (90, 0) ∷ (21, 0) ∷ (0, 0) ∷ (5, 2) ∷ (11, 8) ∷ (0, 0) ∷ (7, 0)
          ∷ (40, 5) ∷ (11, 8) ∷ (32, 1) ∷ (32, 1) ∷ (90, 0) ∷ (11, 8) ∷ (30, 4) ∷ (0, 0) ∷ (5, 3) ∷ (10, 0) ∷ (0, 0) ∷ (7, 0) ∷ (90, 0) ∷ (21, 0) ∷ (0, 0)
          ∷ (0, 0) ∷ [];
      names =
          "e" ∷ "f" ∷ "g" ∷ "h" ∷ "q" ∷ [];
      says = Answer.text (unlines (
          "# void @f(0 params)" ∷ "f:" ∷ "push_0n 2;" ∷ "thread_get 0;" ∷ "dup;" ∷ "set_local 1;" ∷ "push 8;" ∷ "add_u64;" ∷ "thread_set 0;" ∷ "f__e:"
          ∷ "get_local 1;" ∷ "set_local 0;" ∷ "push 0;" ∷ "get_local 1;" ∷ "thread_set 0;" ∷ "ret;" ∷ "" ∷ "# i8 @g(0 params)" ∷ "g:" ∷ "push_0n 1;"
          ∷ "g__e:" ∷ "push 1;" ∷ "push 1;" ∷ "add_u32;" ∷ "trunc_u8;" ∷ "set_local 0;" ∷ "get_local 0;" ∷ "ret;" ∷ "" ∷ "# void @h(0 params)" ∷ "h:"
          ∷ "h__e:" ∷ "push 0;" ∷ "ret;" ∷ "" ∷ [])) 0;
    } ∷
    -- a frame in each: func:f void . block:e q=alloca i8 - - r=alloca i32 - - ret - . func:g void . block:e r=alloca i32 - - q=alloca i8 - - ret - . .
    record {
      entries =
          (5, 1) ∷ (10, 0) ∷ (0, 0) ∷ (7, 0) ∷ (73, 4) ∷ (11, 8) ∷ (21, 0) ∷ (21, 0) ∷ (73, 5) ∷ (11, 32) ∷ (21, 0) ∷ (21, 0) ∷ (90, 0) ∷ (21, 0) ∷ (0, 0)
          ∷ (5, 2) ∷ (10, 0) ∷ (0, 0) ∷ (7, 0) ∷ (73, 5) ∷ (11, 32) ∷ (21, 0) ∷ (21, 0) ∷ (73, 4) ∷ (11, 8) ∷ (21, 0) ∷ (21, 0) ∷ (90, 0) ∷ (21, 0) ∷ (0, 0)
          ∷ (0, 0) ∷ [];
      names =
          "e" ∷ "f" ∷ "g" ∷ "q" ∷ "r" ∷ [];
      says = Answer.text (unlines (
          "# void @f(0 params)" ∷ "f:" ∷ "push_0n 3;" ∷ "thread_get 0;" ∷ "dup;" ∷ "set_local 2;" ∷ "push 8;" ∷ "add_u64;" ∷ "thread_set 0;" ∷ "f__e:"
          ∷ "get_local 2;" ∷ "set_local 0;" ∷ "get_local 2;" ∷ "push 4;" ∷ "add_u64;" ∷ "set_local 1;" ∷ "push 0;" ∷ "get_local 2;" ∷ "thread_set 0;"
          ∷ "ret;" ∷ "" ∷ "# void @g(0 params)" ∷ "g:" ∷ "push_0n 3;" ∷ "thread_get 0;" ∷ "dup;" ∷ "set_local 2;" ∷ "push 8;" ∷ "add_u64;" ∷ "thread_set 0;"
          ∷ "g__e:" ∷ "get_local 2;" ∷ "set_local 0;" ∷ "get_local 2;" ∷ "push 4;" ∷ "add_u64;" ∷ "set_local 1;" ∷ "push 0;" ∷ "get_local 2;"
          ∷ "thread_set 0;" ∷ "ret;" ∷ "" ∷ [])) 0;
    } ∷
    -- a fixed place there, a varying one of the name here: func:f void . block:e q=alloca i8 - - ret - . func:g void param:p i8 . block:e q=alloca i16 i8 %p - ret - . .
    record {
      entries =
          (5, 1) ∷ (10, 0) ∷ (0, 0) ∷ (7, 0) ∷ (73, 5) ∷ (11, 8) ∷ (21, 0) ∷ (21, 0) ∷ (90, 0) ∷ (21, 0) ∷ (0, 0) ∷ (5, 2) ∷ (10, 0) ∷ (6, 4) ∷ (11, 8)
          ∷ (0, 0) ∷ (7, 0) ∷ (73, 5) ∷ (11, 16) ∷ (11, 8) ∷ (30, 3) ∷ (21, 0) ∷ (90, 0) ∷ (21, 0) ∷ (0, 0) ∷ (0, 0) ∷ [];
      names =
          "e" ∷ "f" ∷ "g" ∷ "p" ∷ "q" ∷ [];
      says = Answer.text (unlines (
          "# void @f(0 params)" ∷ "f:" ∷ "push_0n 2;" ∷ "thread_get 0;" ∷ "dup;" ∷ "set_local 1;" ∷ "push 8;" ∷ "add_u64;" ∷ "thread_set 0;" ∷ "f__e:"
          ∷ "get_local 1;" ∷ "set_local 0;" ∷ "push 0;" ∷ "get_local 1;" ∷ "thread_set 0;" ∷ "ret;" ∷ "" ∷ "# void @g(1 params)" ∷ "g:" ∷ "push_0n 2;"
          ∷ "thread_get 0;" ∷ "dup;" ∷ "set_local 1;" ∷ "push 0;" ∷ "add_u64;" ∷ "thread_set 0;" ∷ "g__e:" ∷ "thread_get 0;" ∷ "push 7;" ∷ "add_u64;"
          ∷ "push 18446744073709551608;" ∷ "and_u64;" ∷ "dup;" ∷ "get_arg 0;" ∷ "push 2;" ∷ "mul_u64;" ∷ "add_u64;" ∷ "thread_set 0;" ∷ "set_local 0;"
          ∷ "push 0;" ∷ "get_local 1;" ∷ "thread_set 0;" ∷ "ret;" ∷ "" ∷ [])) 0;
    } ∷
    -- a varying place there, a fixed one of the name here: func:f void param:p i8 . block:e q=alloca i16 i8 %p - ret - . func:g void . block:e q=alloca i8 - - ret - . .
    record {
      entries =
          (5, 1) ∷ (10, 0) ∷ (6, 4) ∷ (11, 8) ∷ (0, 0) ∷ (7, 0) ∷ (73, 5) ∷ (11, 16) ∷ (11, 8) ∷ (30, 3) ∷ (21, 0) ∷ (90, 0) ∷ (21, 0) ∷ (0, 0) ∷ (5, 2)
          ∷ (10, 0) ∷ (0, 0) ∷ (7, 0) ∷ (73, 5) ∷ (11, 8) ∷ (21, 0) ∷ (21, 0) ∷ (90, 0) ∷ (21, 0) ∷ (0, 0) ∷ (0, 0) ∷ [];
      names =
          "e" ∷ "f" ∷ "g" ∷ "p" ∷ "q" ∷ [];
      says = Answer.text (unlines (
          "# void @f(1 params)" ∷ "f:" ∷ "push_0n 2;" ∷ "thread_get 0;" ∷ "dup;" ∷ "set_local 1;" ∷ "push 0;" ∷ "add_u64;" ∷ "thread_set 0;" ∷ "f__e:"
          ∷ "thread_get 0;" ∷ "push 7;" ∷ "add_u64;" ∷ "push 18446744073709551608;" ∷ "and_u64;" ∷ "dup;" ∷ "get_arg 0;" ∷ "push 2;" ∷ "mul_u64;"
          ∷ "add_u64;" ∷ "thread_set 0;" ∷ "set_local 0;" ∷ "push 0;" ∷ "get_local 1;" ∷ "thread_set 0;" ∷ "ret;" ∷ "" ∷ "# void @g(0 params)" ∷ "g:"
          ∷ "push_0n 2;" ∷ "thread_get 0;" ∷ "dup;" ∷ "set_local 1;" ∷ "push 8;" ∷ "add_u64;" ∷ "thread_set 0;" ∷ "g__e:" ∷ "get_local 1;" ∷ "set_local 0;"
          ∷ "push 0;" ∷ "get_local 1;" ∷ "thread_set 0;" ∷ "ret;" ∷ "" ∷ [])) 0;
    } ∷
    -- a varying place whose name is fixed in the function before is measured: func:f void . block:e q=alloca i8 - - ret - . func:g void param:p i8 . block:e q=alloca label i8 %p - ret - . .
    record {
      entries =
          (5, 1) ∷ (10, 0) ∷ (0, 0) ∷ (7, 0) ∷ (73, 5) ∷ (11, 8) ∷ (21, 0) ∷ (21, 0) ∷ (90, 0) ∷ (21, 0) ∷ (0, 0) ∷ (5, 2) ∷ (10, 0) ∷ (6, 4) ∷ (11, 8)
          ∷ (0, 0) ∷ (7, 0) ∷ (73, 5) ∷ (19, 0) ∷ (11, 8) ∷ (30, 3) ∷ (21, 0) ∷ (90, 0) ∷ (21, 0) ∷ (0, 0) ∷ (0, 0) ∷ [];
      names =
          "e" ∷ "f" ∷ "g" ∷ "p" ∷ "q" ∷ [];
      says = Answer.refusal 6;
    } ∷
    -- frames of 2^31 in each: func:f void . block:e q=alloca i8 i64 2147483648 - ret - . func:g void . block:e q=alloca i8 i64 2147483648 - ret - . .
    record {
      entries =
          (5, 1) ∷ (10, 0) ∷ (0, 0) ∷ (7, 0) ∷ (73, 4) ∷ (11, 8) ∷ (11, 64) ∷ (32, 2147483648) ∷ (21, 0) ∷ (90, 0) ∷ (21, 0) ∷ (0, 0) ∷ (5, 2) ∷ (10, 0)
          ∷ (0, 0) ∷ (7, 0) ∷ (73, 4) ∷ (11, 8) ∷ (11, 64) ∷ (32, 2147483648) ∷ (21, 0) ∷ (90, 0) ∷ (21, 0) ∷ (0, 0) ∷ (0, 0) ∷ [];
      names =
          "e" ∷ "f" ∷ "g" ∷ "q" ∷ [];
      says = Answer.text (unlines (
          "# void @f(0 params)" ∷ "f:" ∷ "push_0n 2;" ∷ "thread_get 0;" ∷ "dup;" ∷ "set_local 1;" ∷ "push 2147483648;" ∷ "add_u64;" ∷ "thread_set 0;"
          ∷ "f__e:" ∷ "get_local 1;" ∷ "set_local 0;" ∷ "push 0;" ∷ "get_local 1;" ∷ "thread_set 0;" ∷ "ret;" ∷ "" ∷ "# void @g(0 params)" ∷ "g:"
          ∷ "push_0n 2;" ∷ "thread_get 0;" ∷ "dup;" ∷ "set_local 1;" ∷ "push 2147483648;" ∷ "add_u64;" ∷ "thread_set 0;" ∷ "g__e:" ∷ "get_local 1;"
          ∷ "set_local 0;" ∷ "push 0;" ∷ "get_local 1;" ∷ "thread_set 0;" ∷ "ret;" ∷ "" ∷ [])) 0;
    } ∷
    -- a block, a local and a function of one name: func:f i8 param:g i8 . block:g f=add i8 %g 1 ret i8 %f . func:g i8 param:f i8 . block:f g=add i8 %f 1 h=call i8 @g . ret i8 %g . .
    record {
      entries =
          (5, 0) ∷ (11, 8) ∷ (6, 2) ∷ (11, 8) ∷ (0, 0) ∷ (7, 1) ∷ (40, 1) ∷ (11, 8) ∷ (30, 1) ∷ (32, 1) ∷ (90, 0) ∷ (11, 8) ∷ (30, 0) ∷ (0, 0) ∷ (5, 1)
          ∷ (11, 8) ∷ (6, 1) ∷ (11, 8) ∷ (0, 0) ∷ (7, 0) ∷ (40, 2) ∷ (11, 8) ∷ (30, 0) ∷ (32, 1) ∷ (76, 3) ∷ (11, 8) ∷ (31, 1) ∷ (0, 0) ∷ (90, 0) ∷ (11, 8)
          ∷ (30, 1) ∷ (0, 0) ∷ (0, 0) ∷ [];
      names =
          "f" ∷ "g" ∷ "h" ∷ [];
      says = Answer.text (unlines (
          "# i8 @f(1 params)" ∷ "f:" ∷ "push_0n 1;" ∷ "f__g:" ∷ "get_arg 0;" ∷ "push 1;" ∷ "add_u32;" ∷ "trunc_u8;" ∷ "set_local 0;" ∷ "get_local 0;"
          ∷ "ret;" ∷ "" ∷ "# i8 @g(1 params)" ∷ "g:" ∷ "push_0n 2;" ∷ "g__f:" ∷ "get_arg 0;" ∷ "push 1;" ∷ "add_u32;" ∷ "trunc_u8;" ∷ "set_local 0;"
          ∷ "call g, 0;" ∷ "set_local 1;" ∷ "get_local 0;" ∷ "ret;" ∷ "" ∷ [])) 0;
    } ∷
    -- no function: def:f .
    record {
      entries =
          (1, 0) ∷ (0, 0) ∷ [];
      names =
          "f" ∷ [];
      says = Answer.refusal 1;
    } ∷
    -- nothing but the end: .
    record {
      entries =
          (0, 0) ∷ [];
      names =
          [];
      says = Answer.refusal 1;
    } ∷
    -- not closed: func:f void . block:e ret - .
    record {
      entries =
          (5, 1) ∷ (10, 0) ∷ (0, 0) ∷ (7, 0) ∷ (90, 0) ∷ (21, 0) ∷ (0, 0) ∷ [];
      names =
          "e" ∷ "f" ∷ [];
      says = Answer.refusal 1;
    } ∷
    -- two functions, not closed: func:f void . . func:g void . .
    record {
      entries =
          (5, 0) ∷ (10, 0) ∷ (0, 0) ∷ (0, 0) ∷ (5, 1) ∷ (10, 0) ∷ (0, 0) ∷ (0, 0) ∷ [];
      names =
          "f" ∷ "g" ∷ [];
      says = Answer.refusal 1;
    } ∷
    -- two functions, closed: func:f void . . func:g void . . .
    record {
      entries =
          (5, 0) ∷ (10, 0) ∷ (0, 0) ∷ (0, 0) ∷ (5, 1) ∷ (10, 0) ∷ (0, 0) ∷ (0, 0) ∷ (0, 0) ∷ [];
      names =
          "f" ∷ "g" ∷ [];
      says = Answer.text (unlines (
          "# void @f(0 params)" ∷ "f:" ∷ "" ∷ "# void @g(0 params)" ∷ "g:" ∷ "" ∷ [])) 0;
    } ∷
    -- closed twice: func:f void . . . .
    record {
      entries =
          (5, 0) ∷ (10, 0) ∷ (0, 0) ∷ (0, 0) ∷ (0, 0) ∷ (0, 0) ∷ [];
      names =
          "f" ∷ [];
      says = Answer.refusal 1;
    } ∷
    -- closed between: func:f void . . . func:g void . . .
    record {
      entries =
          (5, 0) ∷ (10, 0) ∷ (0, 0) ∷ (0, 0) ∷ (0, 0) ∷ (5, 1) ∷ (10, 0) ∷ (0, 0) ∷ (0, 0) ∷ (0, 0) ∷ [];
      names =
          "f" ∷ "g" ∷ [];
      says = Answer.refusal 1;
    } ∷
    -- a function twice: func:f void . . func:f void . . .
    record {
      entries =
          (5, 0) ∷ (10, 0) ∷ (0, 0) ∷ (0, 0) ∷ (5, 0) ∷ (10, 0) ∷ (0, 0) ∷ (0, 0) ∷ (0, 0) ∷ [];
      names =
          "f" ∷ [];
      says = Answer.refusal 1;
    } ∷
    -- a function twice, another between: func:f void . . func:g void . . func:f i8 param:p i8 . . .
    record {
      entries =
          (5, 0) ∷ (10, 0) ∷ (0, 0) ∷ (0, 0) ∷ (5, 1) ∷ (10, 0) ∷ (0, 0) ∷ (0, 0) ∷ (5, 0) ∷ (11, 8) ∷ (6, 3) ∷ (11, 8) ∷ (0, 0) ∷ (0, 0) ∷ (0, 0) ∷ [];
      names =
          "f" ∷ "g" ∷ "p" ∷ [];
      says = Answer.refusal 1;
    } ∷
    -- a mark behind a function: func:f void . . def:g func:g void . . .
    record {
      entries =
          (5, 0) ∷ (10, 0) ∷ (0, 0) ∷ (0, 0) ∷ (1, 1) ∷ (5, 1) ∷ (10, 0) ∷ (0, 0) ∷ (0, 0) ∷ (0, 0) ∷ [];
      names =
          "f" ∷ "g" ∷ [];
      says = Answer.refusal 1;
    } ∷
    -- a struct behind a function: func:f void . . struct:s opaque func:g void . . .
    record {
      entries =
          (5, 0) ∷ (10, 0) ∷ (0, 0) ∷ (0, 0) ∷ (3, 2) ∷ (4, 0) ∷ (5, 1) ∷ (10, 0) ∷ (0, 0) ∷ (0, 0) ∷ (0, 0) ∷ [];
      names =
          "f" ∷ "g" ∷ "s" ∷ [];
      says = Answer.refusal 1;
    } ∷
    -- blocks of a function not closed: func:f void . block:e ret - func:g void . block:e ret - . .
    record {
      entries =
          (5, 1) ∷ (10, 0) ∷ (0, 0) ∷ (7, 0) ∷ (90, 0) ∷ (21, 0) ∷ (5, 2) ∷ (10, 0) ∷ (0, 0) ∷ (7, 0) ∷ (90, 0) ∷ (21, 0) ∷ (0, 0) ∷ (0, 0) ∷ [];
      names =
          "e" ∷ "f" ∷ "g" ∷ [];
      says = Answer.refusal 1;
    } ∷
    -- parameters of a function not closed: func:f void func:g void . . . .
    record {
      entries =
          (5, 0) ∷ (10, 0) ∷ (5, 1) ∷ (10, 0) ∷ (0, 0) ∷ (0, 0) ∷ (0, 0) ∷ (0, 0) ∷ [];
      names =
          "f" ∷ "g" ∷ [];
      says = Answer.refusal 1;
    } ∷
    -- a block behind the functions: func:f void . . . block:e ret - .
    record {
      entries =
          (5, 1) ∷ (10, 0) ∷ (0, 0) ∷ (0, 0) ∷ (0, 0) ∷ (7, 0) ∷ (90, 0) ∷ (21, 0) ∷ (0, 0) ∷ [];
      names =
          "e" ∷ "f" ∷ [];
      says = Answer.refusal 1;
    } ∷
    -- functions in order: func:f void . block:e alloca label - - add label %u %u ret - . func:g void . block:e alloca label - - call void @llvm.a . br - :k - . func:g void . . .
    record {
      entries =
          (5, 1) ∷ (10, 0) ∷ (0, 0) ∷ (7, 0) ∷ (73, 0) ∷ (19, 0) ∷ (21, 0) ∷ (21, 0) ∷ (40, 0) ∷ (19, 0) ∷ (30, 5) ∷ (30, 5) ∷ (90, 0) ∷ (21, 0) ∷ (0, 0)
          ∷ (5, 2) ∷ (10, 0) ∷ (0, 0) ∷ (7, 0) ∷ (73, 0) ∷ (19, 0) ∷ (21, 0) ∷ (21, 0) ∷ (76, 0) ∷ (10, 0) ∷ (31, 4) ∷ (0, 0) ∷ (91, 0) ∷ (21, 0) ∷ (23, 3)
          ∷ (21, 0) ∷ (0, 0) ∷ (5, 2) ∷ (10, 0) ∷ (0, 0) ∷ (0, 0) ∷ (0, 0) ∷ [];
      names =
          "e" ∷ "f" ∷ "g" ∷ "k" ∷ "llvm.a" ∷ "u" ∷ [];
      says = Answer.refusal 1;
    } ∷
    -- functions in order: func:f void . block:e alloca label - - add label %u %u ret - . func:g void . block:e alloca label - - call void @llvm.a . br - :k - . .
    record {
      entries =
          (5, 1) ∷ (10, 0) ∷ (0, 0) ∷ (7, 0) ∷ (73, 0) ∷ (19, 0) ∷ (21, 0) ∷ (21, 0) ∷ (40, 0) ∷ (19, 0) ∷ (30, 5) ∷ (30, 5) ∷ (90, 0) ∷ (21, 0) ∷ (0, 0)
          ∷ (5, 2) ∷ (10, 0) ∷ (0, 0) ∷ (7, 0) ∷ (73, 0) ∷ (19, 0) ∷ (21, 0) ∷ (21, 0) ∷ (76, 0) ∷ (10, 0) ∷ (31, 4) ∷ (0, 0) ∷ (91, 0) ∷ (21, 0) ∷ (23, 3)
          ∷ (21, 0) ∷ (0, 0) ∷ (0, 0) ∷ [];
      names =
          "e" ∷ "f" ∷ "g" ∷ "k" ∷ "llvm.a" ∷ "u" ∷ [];
      says = Answer.refusal 3;
    } ∷
    -- functions in order: func:f void . block:e alloca label - - add label %u %u ret - . func:g void . block:e alloca label - - call void @h . br - :k - . .
    record {
      entries =
          (5, 1) ∷ (10, 0) ∷ (0, 0) ∷ (7, 0) ∷ (73, 0) ∷ (19, 0) ∷ (21, 0) ∷ (21, 0) ∷ (40, 0) ∷ (19, 0) ∷ (30, 5) ∷ (30, 5) ∷ (90, 0) ∷ (21, 0) ∷ (0, 0)
          ∷ (5, 2) ∷ (10, 0) ∷ (0, 0) ∷ (7, 0) ∷ (73, 0) ∷ (19, 0) ∷ (21, 0) ∷ (21, 0) ∷ (76, 0) ∷ (10, 0) ∷ (31, 3) ∷ (0, 0) ∷ (91, 0) ∷ (21, 0) ∷ (23, 4)
          ∷ (21, 0) ∷ (0, 0) ∷ (0, 0) ∷ [];
      names =
          "e" ∷ "f" ∷ "g" ∷ "h" ∷ "k" ∷ "u" ∷ [];
      says = Answer.refusal 5;
    } ∷
    -- functions in order: func:f void . block:e q=alloca label - - add label %u %u ret - . func:g void . block:e alloca label - - call void @h . br - :k - . .
    record {
      entries =
          (5, 1) ∷ (10, 0) ∷ (0, 0) ∷ (7, 0) ∷ (73, 6) ∷ (19, 0) ∷ (21, 0) ∷ (21, 0) ∷ (40, 0) ∷ (19, 0) ∷ (30, 6) ∷ (30, 6) ∷ (90, 0) ∷ (21, 0) ∷ (0, 0)
          ∷ (5, 2) ∷ (10, 0) ∷ (0, 0) ∷ (7, 0) ∷ (73, 0) ∷ (19, 0) ∷ (21, 0) ∷ (21, 0) ∷ (76, 0) ∷ (10, 0) ∷ (31, 3) ∷ (0, 0) ∷ (91, 0) ∷ (21, 0) ∷ (23, 4)
          ∷ (21, 0) ∷ (0, 0) ∷ (0, 0) ∷ [];
      names =
          "e" ∷ "f" ∷ "g" ∷ "h" ∷ "k" ∷ "q" ∷ "u" ∷ [];
      says = Answer.refusal 6;
    } ∷
    -- functions in order: func:f void . block:e q=alloca i8 - - add label %u %u ret - . func:g void . block:e alloca label - - call void @h . br - :k - . .
    record {
      entries =
          (5, 1) ∷ (10, 0) ∷ (0, 0) ∷ (7, 0) ∷ (73, 6) ∷ (11, 8) ∷ (21, 0) ∷ (21, 0) ∷ (40, 0) ∷ (19, 0) ∷ (30, 6) ∷ (30, 6) ∷ (90, 0) ∷ (21, 0) ∷ (0, 0)
          ∷ (5, 2) ∷ (10, 0) ∷ (0, 0) ∷ (7, 0) ∷ (73, 0) ∷ (19, 0) ∷ (21, 0) ∷ (21, 0) ∷ (76, 0) ∷ (10, 0) ∷ (31, 3) ∷ (0, 0) ∷ (91, 0) ∷ (21, 0) ∷ (23, 4)
          ∷ (21, 0) ∷ (0, 0) ∷ (0, 0) ∷ [];
      names =
          "e" ∷ "f" ∷ "g" ∷ "h" ∷ "k" ∷ "q" ∷ "u" ∷ [];
      says = Answer.refusal 9;
    } ∷
    -- functions in order: func:f void . block:e q=alloca i8 - - add i8 %u %u ret - . func:g void . block:e alloca label - - call void @h . br - :k - . .
    record {
      entries =
          (5, 1) ∷ (10, 0) ∷ (0, 0) ∷ (7, 0) ∷ (73, 6) ∷ (11, 8) ∷ (21, 0) ∷ (21, 0) ∷ (40, 0) ∷ (11, 8) ∷ (30, 6) ∷ (30, 6) ∷ (90, 0) ∷ (21, 0) ∷ (0, 0)
          ∷ (5, 2) ∷ (10, 0) ∷ (0, 0) ∷ (7, 0) ∷ (73, 0) ∷ (19, 0) ∷ (21, 0) ∷ (21, 0) ∷ (76, 0) ∷ (10, 0) ∷ (31, 3) ∷ (0, 0) ∷ (91, 0) ∷ (21, 0) ∷ (23, 4)
          ∷ (21, 0) ∷ (0, 0) ∷ (0, 0) ∷ [];
      names =
          "e" ∷ "f" ∷ "g" ∷ "h" ∷ "k" ∷ "q" ∷ "u" ∷ [];
      says = Answer.refusal 10;
    } ∷
    -- functions in order: func:f void . block:e q=alloca i8 - - x=add i8 1 1 ret - . func:g void . block:e alloca label - - call void @h . br - :k - . .
    record {
      entries =
          (5, 1) ∷ (10, 0) ∷ (0, 0) ∷ (7, 0) ∷ (73, 6) ∷ (11, 8) ∷ (21, 0) ∷ (21, 0) ∷ (40, 7) ∷ (11, 8) ∷ (32, 1) ∷ (32, 1) ∷ (90, 0) ∷ (21, 0) ∷ (0, 0)
          ∷ (5, 2) ∷ (10, 0) ∷ (0, 0) ∷ (7, 0) ∷ (73, 0) ∷ (19, 0) ∷ (21, 0) ∷ (21, 0) ∷ (76, 0) ∷ (10, 0) ∷ (31, 3) ∷ (0, 0) ∷ (91, 0) ∷ (21, 0) ∷ (23, 4)
          ∷ (21, 0) ∷ (0, 0) ∷ (0, 0) ∷ [];
      names =
          "e" ∷ "f" ∷ "g" ∷ "h" ∷ "k" ∷ "q" ∷ "x" ∷ [];
      says = Answer.refusal 5;
    } ∷
    -- functions in order: func:f void . block:e q=alloca i8 - - x=add i8 1 1 ret - . func:g void . block:e q=alloca label - - call void @h . br - :k - . .
    record {
      entries =
          (5, 1) ∷ (10, 0) ∷ (0, 0) ∷ (7, 0) ∷ (73, 6) ∷ (11, 8) ∷ (21, 0) ∷ (21, 0) ∷ (40, 7) ∷ (11, 8) ∷ (32, 1) ∷ (32, 1) ∷ (90, 0) ∷ (21, 0) ∷ (0, 0)
          ∷ (5, 2) ∷ (10, 0) ∷ (0, 0) ∷ (7, 0) ∷ (73, 6) ∷ (19, 0) ∷ (21, 0) ∷ (21, 0) ∷ (76, 0) ∷ (10, 0) ∷ (31, 3) ∷ (0, 0) ∷ (91, 0) ∷ (21, 0) ∷ (23, 4)
          ∷ (21, 0) ∷ (0, 0) ∷ (0, 0) ∷ [];
      names =
          "e" ∷ "f" ∷ "g" ∷ "h" ∷ "k" ∷ "q" ∷ "x" ∷ [];
      says = Answer.refusal 6;
    } ∷
    -- functions in order: func:f void . block:e q=alloca i8 - - x=add i8 1 1 ret - . func:g void . block:e q=alloca [16777217 i8 - - call void @h . br - :k - . .
    record {
      entries =
          (5, 1) ∷ (10, 0) ∷ (0, 0) ∷ (7, 0) ∷ (73, 6) ∷ (11, 8) ∷ (21, 0) ∷ (21, 0) ∷ (40, 7) ∷ (11, 8) ∷ (32, 1) ∷ (32, 1) ∷ (90, 0) ∷ (21, 0) ∷ (0, 0)
          ∷ (5, 2) ∷ (10, 0) ∷ (0, 0) ∷ (7, 0) ∷ (73, 6) ∷ (13, 16777217) ∷ (11, 8) ∷ (21, 0) ∷ (21, 0) ∷ (76, 0) ∷ (10, 0) ∷ (31, 3) ∷ (0, 0) ∷ (91, 0)
          ∷ (21, 0) ∷ (23, 4) ∷ (21, 0) ∷ (0, 0) ∷ (0, 0) ∷ [];
      names =
          "e" ∷ "f" ∷ "g" ∷ "h" ∷ "k" ∷ "q" ∷ "x" ∷ [];
      says = Answer.refusal 7;
    } ∷
    -- functions in order: func:f void . block:e q=alloca i8 - - x=add i8 1 1 ret - . func:g void . block:e q=alloca i8 - - call void @h . br - :k - . .
    record {
      entries =
          (5, 1) ∷ (10, 0) ∷ (0, 0) ∷ (7, 0) ∷ (73, 6) ∷ (11, 8) ∷ (21, 0) ∷ (21, 0) ∷ (40, 7) ∷ (11, 8) ∷ (32, 1) ∷ (32, 1) ∷ (90, 0) ∷ (21, 0) ∷ (0, 0)
          ∷ (5, 2) ∷ (10, 0) ∷ (0, 0) ∷ (7, 0) ∷ (73, 6) ∷ (11, 8) ∷ (21, 0) ∷ (21, 0) ∷ (76, 0) ∷ (10, 0) ∷ (31, 3) ∷ (0, 0) ∷ (91, 0) ∷ (21, 0) ∷ (23, 4)
          ∷ (21, 0) ∷ (0, 0) ∷ (0, 0) ∷ [];
      names =
          "e" ∷ "f" ∷ "g" ∷ "h" ∷ "k" ∷ "q" ∷ "x" ∷ [];
      says = Answer.refusal 15;
    } ∷
    -- functions in order: func:f void . block:e q=alloca i8 - - x=add i8 1 1 ret - . func:g void . block:e q=alloca i8 - - call void @f . br - :k - . .
    record {
      entries =
          (5, 1) ∷ (10, 0) ∷ (0, 0) ∷ (7, 0) ∷ (73, 5) ∷ (11, 8) ∷ (21, 0) ∷ (21, 0) ∷ (40, 6) ∷ (11, 8) ∷ (32, 1) ∷ (32, 1) ∷ (90, 0) ∷ (21, 0) ∷ (0, 0)
          ∷ (5, 2) ∷ (10, 0) ∷ (0, 0) ∷ (7, 0) ∷ (73, 5) ∷ (11, 8) ∷ (21, 0) ∷ (21, 0) ∷ (76, 0) ∷ (10, 0) ∷ (31, 1) ∷ (0, 0) ∷ (91, 0) ∷ (21, 0) ∷ (23, 3)
          ∷ (21, 0) ∷ (0, 0) ∷ (0, 0) ∷ [];
      names =
          "e" ∷ "f" ∷ "g" ∷ "k" ∷ "q" ∷ "x" ∷ [];
      says = Answer.refusal 17;
    } ∷
    -- functions in order: func:f void . block:e q=alloca i8 - - x=add i8 1 1 ret - . func:g void . block:e q=alloca i8 - - call void @f . br - :e - . .
    record {
      entries =
          (5, 1) ∷ (10, 0) ∷ (0, 0) ∷ (7, 0) ∷ (73, 4) ∷ (11, 8) ∷ (21, 0) ∷ (21, 0) ∷ (40, 5) ∷ (11, 8) ∷ (32, 1) ∷ (32, 1) ∷ (90, 0) ∷ (21, 0) ∷ (0, 0)
          ∷ (5, 2) ∷ (10, 0) ∷ (0, 0) ∷ (7, 0) ∷ (73, 4) ∷ (11, 8) ∷ (21, 0) ∷ (21, 0) ∷ (76, 0) ∷ (10, 0) ∷ (31, 1) ∷ (0, 0) ∷ (91, 0) ∷ (21, 0) ∷ (23, 0)
          ∷ (21, 0) ∷ (0, 0) ∷ (0, 0) ∷ [];
      names =
          "e" ∷ "f" ∷ "g" ∷ "q" ∷ "x" ∷ [];
      says = Answer.text (unlines (
          "# void @f(0 params)" ∷ "f:" ∷ "push_0n 3;" ∷ "thread_get 0;" ∷ "dup;" ∷ "set_local 2;" ∷ "push 8;" ∷ "add_u64;" ∷ "thread_set 0;" ∷ "f__e:"
          ∷ "get_local 2;" ∷ "set_local 0;" ∷ "push 1;" ∷ "push 1;" ∷ "add_u32;" ∷ "trunc_u8;" ∷ "set_local 1;" ∷ "push 0;" ∷ "get_local 2;"
          ∷ "thread_set 0;" ∷ "ret;" ∷ "" ∷ "# void @g(0 params)" ∷ "g:" ∷ "push_0n 2;" ∷ "thread_get 0;" ∷ "dup;" ∷ "set_local 1;" ∷ "push 8;" ∷ "add_u64;"
          ∷ "thread_set 0;" ∷ "g__e:" ∷ "get_local 1;" ∷ "set_local 0;" ∷ "call f, 0;" ∷ "pop;" ∷ "jmp g__e;" ∷ "" ∷ [])) 0;
    } ∷
    -- an instruction, then a frame above 2^31: func:f void . block:e q=load [3 i8 null - ret - . func:g void . block:e q=alloca i8 i64 2147483649 - ret - . .
    record {
      entries =
          (5, 1) ∷ (10, 0) ∷ (0, 0) ∷ (7, 0) ∷ (71, 4) ∷ (13, 3) ∷ (11, 8) ∷ (33, 0) ∷ (21, 0) ∷ (90, 0) ∷ (21, 0) ∷ (0, 0) ∷ (5, 2) ∷ (10, 0) ∷ (0, 0)
          ∷ (7, 0) ∷ (73, 4) ∷ (11, 8) ∷ (11, 64) ∷ (32, 2147483649) ∷ (21, 0) ∷ (90, 0) ∷ (21, 0) ∷ (0, 0) ∷ (0, 0) ∷ [];
      names =
          "e" ∷ "f" ∷ "g" ∷ "q" ∷ [];
      says = Answer.refusal 11;
    } ∷
    -- an instruction, then a frame above 2^31: func:f void . block:e q=load i8 null - ret - . func:g void . block:e q=alloca i8 i64 2147483649 - ret - . .
    record {
      entries =
          (5, 1) ∷ (10, 0) ∷ (0, 0) ∷ (7, 0) ∷ (71, 4) ∷ (11, 8) ∷ (33, 0) ∷ (21, 0) ∷ (90, 0) ∷ (21, 0) ∷ (0, 0) ∷ (5, 2) ∷ (10, 0) ∷ (0, 0) ∷ (7, 0)
          ∷ (73, 4) ∷ (11, 8) ∷ (11, 64) ∷ (32, 2147483649) ∷ (21, 0) ∷ (90, 0) ∷ (21, 0) ∷ (0, 0) ∷ (0, 0) ∷ [];
      names =
          "e" ∷ "f" ∷ "g" ∷ "q" ∷ [];
      says = Answer.refusal 7;
    } ∷
    -- a fault in the third of four: func:f void . . func:g void . block:e ret - . func:h void . block:e br 1 :e - . func:i void . block:e ret label 1 . .
    record {
      entries =
          (5, 1) ∷ (10, 0) ∷ (0, 0) ∷ (0, 0) ∷ (5, 2) ∷ (10, 0) ∷ (0, 0) ∷ (7, 0) ∷ (90, 0) ∷ (21, 0) ∷ (0, 0) ∷ (5, 3) ∷ (10, 0) ∷ (0, 0) ∷ (7, 0) ∷ (91, 0)
          ∷ (32, 1) ∷ (23, 0) ∷ (21, 0) ∷ (0, 0) ∷ (5, 4) ∷ (10, 0) ∷ (0, 0) ∷ (7, 0) ∷ (90, 0) ∷ (19, 0) ∷ (32, 1) ∷ (0, 0) ∷ (0, 0) ∷ [];
      names =
          "e" ∷ "f" ∷ "g" ∷ "h" ∷ "i" ∷ [];
      says = Answer.refusal 19;
    } ∷
    -- the same, mended: func:f void . . func:g void . block:e ret - . func:h void . block:e br 1 :e :e . func:i void . block:e ret label 1 . .
    record {
      entries =
          (5, 1) ∷ (10, 0) ∷ (0, 0) ∷ (0, 0) ∷ (5, 2) ∷ (10, 0) ∷ (0, 0) ∷ (7, 0) ∷ (90, 0) ∷ (21, 0) ∷ (0, 0) ∷ (5, 3) ∷ (10, 0) ∷ (0, 0) ∷ (7, 0) ∷ (91, 0)
          ∷ (32, 1) ∷ (23, 0) ∷ (23, 0) ∷ (0, 0) ∷ (5, 4) ∷ (10, 0) ∷ (0, 0) ∷ (7, 0) ∷ (90, 0) ∷ (19, 0) ∷ (32, 1) ∷ (0, 0) ∷ (0, 0) ∷ [];
      names =
          "e" ∷ "f" ∷ "g" ∷ "h" ∷ "i" ∷ [];
      says = Answer.refusal 9;
    } ∷
    []

pub pieces_hold : map answers pieces ≡ map says_of pieces
unfolding open_sheet pieces
pieces_hold = refl

-- at the largest counter, so that only a later function begins above it
unfoldable pub largest : List Sheet
largest =
    -- labels are counted on above 2^32: func:f i8 . block:e q=select 1 i8 1 2 ret i8 %q . func:g void . block:e br 1 :e :e . func:h void . block:e ret - . .
    record {
      entries =
          (5, 1) ∷ (11, 8) ∷ (0, 0) ∷ (7, 0) ∷ (70, 5) ∷ (32, 1) ∷ (11, 8) ∷ (32, 1) ∷ (32, 2) ∷ (90, 0) ∷ (11, 8) ∷ (30, 4) ∷ (0, 0) ∷ (5, 2) ∷ (10, 0)
          ∷ (0, 0) ∷ (7, 0) ∷ (91, 0) ∷ (32, 1) ∷ (23, 0) ∷ (23, 0) ∷ (0, 0) ∷ (5, 3) ∷ (10, 0) ∷ (0, 0) ∷ (7, 0) ∷ (90, 0) ∷ (21, 0) ∷ (0, 0) ∷ (0, 0) ∷ [];
      names =
          "e" ∷ "f" ∷ "g" ∷ "h" ∷ "q" ∷ [];
      says = Answer.text (unlines (
          "# i8 @f(0 params)" ∷ "f:" ∷ "push_0n 1;" ∷ "f__e:" ∷ "push 1;" ∷ "jz __sel_false_4294967296;" ∷ "push 1;" ∷ "jmp __sel_done_4294967297;"
          ∷ "__sel_false_4294967296:" ∷ "push 2;" ∷ "__sel_done_4294967297:" ∷ "set_local 0;" ∷ "get_local 0;" ∷ "ret;" ∷ "" ∷ "# void @g(0 params)" ∷ "g:"
          ∷ "g__e:" ∷ "push 1;" ∷ "jz __br_false_4294967298;" ∷ "jmp g__e;" ∷ "__br_false_4294967298:" ∷ "jmp g__e;" ∷ "" ∷ "# void @h(0 params)" ∷ "h:"
          ∷ "h__e:" ∷ "push 0;" ∷ "ret;" ∷ "" ∷ [])) 4294967299;
    } ∷
    -- a fault in a function that begins above 2^32: func:f i8 . block:e q=select 1 i8 1 2 ret i8 %q . func:g i8 . block:e ret i8 %u . .
    record {
      entries =
          (5, 1) ∷ (11, 8) ∷ (0, 0) ∷ (7, 0) ∷ (70, 4) ∷ (32, 1) ∷ (11, 8) ∷ (32, 1) ∷ (32, 2) ∷ (90, 0) ∷ (11, 8) ∷ (30, 3) ∷ (0, 0) ∷ (5, 2) ∷ (11, 8)
          ∷ (0, 0) ∷ (7, 0) ∷ (90, 0) ∷ (11, 8) ∷ (30, 4) ∷ (0, 0) ∷ (0, 0) ∷ [];
      names =
          "e" ∷ "f" ∷ "g" ∷ "q" ∷ "u" ∷ [];
      says = Answer.refusal 10;
    } ∷
    []

pub largest_hold : map (answers_at (2 ^ 32)) largest ≡ map says_of largest
unfolding open_sheet largest
largest_hold = refl
