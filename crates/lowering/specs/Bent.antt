-- "Lowering that is easily bent": a small book for each sentence, from raw entries to text bytes: one table, one theorem.
use Rattle.std.specs.Prelude.{◌≡◌, refl, List, [], ◌∷◌, map}
use Rattle.assembly.specs.Cases.{unlines}
use Rattle.lowering.specs.Sheet.{Sheet, Answer, answers, says_of, open_sheet}

unfoldable pub bent : List Sheet
bent =
    -- cmpxchg takes two slots, and so does a call of a name with `.with.overflow.`
    record {
      entries =
          (1, 6) ∷ (5, 4) ∷ (10, 0) ∷ (6, 6) ∷ (12, 0) ∷ (0, 0) ∷ (7, 3) ∷ (80, 1) ∷ (12, 0) ∷ (30, 5) ∷ (32, 0) ∷ (32, 1) ∷ (76, 2) ∷ (11, 32) ∷ (31, 6)
          ∷ (0, 0) ∷ (81, 3) ∷ (30, 0) ∷ (22, 1) ∷ (90, 0) ∷ (21, 0) ∷ (0, 0) ∷ (0, 0) ∷ [];
      names = "a" ∷ "b" ∷ "c" ∷ "e" ∷ "f" ∷ "p" ∷ "x.with.overflow.y" ∷ [];
      says = Answer.text (unlines (
          "# void @f(1 params)" ∷ "f:" ∷ "push_0n 5;" ∷ "f__e:" ∷ "get_arg 0;" ∷ "push 0;" ∷ "push 1;" ∷ "atomic_cas_u64;" ∷ "dup;" ∷ "set_local 0;" ∷ "push 0;"
          ∷ "eq_u64;" ∷ "set_local 1;" ∷ "call x_with_overflow_y, 0;" ∷ "set_local 2;" ∷ "get_local 1;" ∷ "set_local 4;" ∷ "push 0;" ∷ "ret;" ∷ "" ∷ [])) 0;
    } ∷
    -- later duplicates win: two results %r, two parameters %p
    record {
      entries =
          (5, 1) ∷ (10, 0) ∷ (6, 3) ∷ (11, 32) ∷ (6, 3) ∷ (11, 32) ∷ (0, 0) ∷ (7, 0) ∷ (40, 4) ∷ (11, 32) ∷ (30, 2) ∷ (32, 1) ∷ (40, 4) ∷ (11, 32) ∷ (30, 3)
          ∷ (32, 2) ∷ (90, 0) ∷ (21, 0) ∷ (0, 0) ∷ (0, 0) ∷ [];
      names = "e" ∷ "f" ∷ "p" ∷ "r" ∷ [];
      says = Answer.text (unlines (
          "# void @f(2 params)" ∷ "f:" ∷ "push_0n 2;" ∷ "f__e:" ∷ "get_arg 1;" ∷ "push 1;" ∷ "add_u32;" ∷ "set_local 1;" ∷ "get_local 1;" ∷ "push 2;"
          ∷ "add_u32;" ∷ "set_local 1;" ∷ "push 0;" ∷ "ret;" ∷ "" ∷ [])) 0;
    } ∷
    -- later duplicates win: two blocks %l, the edge copies for the second
    record {
      entries =
          (5, 1) ∷ (10, 0) ∷ (0, 0) ∷ (7, 0) ∷ (91, 0) ∷ (21, 0) ∷ (23, 2) ∷ (21, 0) ∷ (7, 2) ∷ (75, 4) ∷ (11, 32) ∷ (32, 1) ∷ (23, 0) ∷ (0, 0) ∷ (90, 0)
          ∷ (21, 0) ∷ (7, 2) ∷ (75, 5) ∷ (11, 32) ∷ (32, 2) ∷ (23, 0) ∷ (0, 0) ∷ (90, 0) ∷ (21, 0) ∷ (0, 0) ∷ (0, 0) ∷ [];
      names = "e" ∷ "f" ∷ "l" ∷ "x" ∷ "y" ∷ [];
      says = Answer.text (unlines (
          "# void @f(0 params)" ∷ "f:" ∷ "push_0n 2;" ∷ "f__e:" ∷ "push 2;" ∷ "set_local 1;" ∷ "jmp f__l;" ∷ "f__l:" ∷ "push 0;" ∷ "ret;" ∷ "f__l:" ∷ "push 0;"
          ∷ "ret;" ∷ "" ∷ [])) 0;
    } ∷
    -- a local is a parameter first; a parameter without name is counted
    record {
      entries =
          (5, 1) ∷ (11, 32) ∷ (6, 0) ∷ (11, 32) ∷ (6, 3) ∷ (11, 32) ∷ (0, 0) ∷ (7, 0) ∷ (40, 3) ∷ (11, 32) ∷ (30, 2) ∷ (32, 1) ∷ (90, 0) ∷ (11, 32) ∷ (30, 2)
          ∷ (0, 0) ∷ (0, 0) ∷ [];
      names = "e" ∷ "f" ∷ "p" ∷ [];
      says = Answer.text (unlines (
          "# i32 @f(2 params)" ∷ "f:" ∷ "push_0n 1;" ∷ "f__e:" ∷ "get_arg 1;" ∷ "push 1;" ∷ "add_u32;" ∷ "set_local 0;" ∷ "get_arg 1;" ∷ "ret;" ∷ "" ∷ [])) 0;
    } ∷
    -- sdiv i8 extends both sides; the result is truncated
    record {
      entries =
          (5, 1) ∷ (10, 0) ∷ (6, 3) ∷ (11, 8) ∷ (0, 0) ∷ (7, 0) ∷ (44, 4) ∷ (11, 8) ∷ (30, 2) ∷ (32, 18446744073709551615) ∷ (90, 0) ∷ (21, 0) ∷ (0, 0) ∷ (0, 0)
          ∷ [];
      names = "e" ∷ "f" ∷ "p" ∷ "q" ∷ [];
      says = Answer.text (unlines (
          "# void @f(1 params)" ∷ "f:" ∷ "push_0n 1;" ∷ "f__e:" ∷ "get_arg 0;" ∷ "sx_i8_i32;" ∷ "push 255;" ∷ "sx_i8_i32;" ∷ "div_i32;" ∷ "trunc_u8;"
          ∷ "set_local 0;" ∷ "push 0;" ∷ "ret;" ∷ "" ∷ [])) 0;
    } ∷
    -- ashr i1 extends the left side only
    record {
      entries =
          (5, 1) ∷ (10, 0) ∷ (6, 3) ∷ (11, 1) ∷ (0, 0) ∷ (7, 0) ∷ (52, 4) ∷ (11, 1) ∷ (30, 2) ∷ (32, 0) ∷ (90, 0) ∷ (21, 0) ∷ (0, 0) ∷ (0, 0) ∷ [];
      names = "e" ∷ "f" ∷ "p" ∷ "q" ∷ [];
      says = Answer.text (unlines (
          "# void @f(1 params)" ∷ "f:" ∷ "push_0n 1;" ∷ "f__e:" ∷ "get_arg 0;" ∷ "push 1;" ∷ "and_u32;" ∷ "push 4294967295;" ∷ "mul_u32;" ∷ "push 0;"
          ∷ "rshift_i32;" ∷ "push 1;" ∷ "and_u32;" ∷ "set_local 0;" ∷ "push 0;" ∷ "ret;" ∷ "" ∷ [])) 0;
    } ∷
    -- icmp slt i16 extends both sides; icmp ult ptr works at 64; srem i32 extends none
    record {
      entries =
          (5, 4) ∷ (10, 0) ∷ (6, 6) ∷ (12, 0) ∷ (0, 0) ∷ (7, 3) ∷ (68, 1) ∷ (11, 16) ∷ (32, 1) ∷ (32, 2) ∷ (64, 2) ∷ (12, 0) ∷ (30, 5) ∷ (33, 0) ∷ (46, 3)
          ∷ (11, 32) ∷ (32, 7) ∷ (32, 18446744073709551614) ∷ (90, 0) ∷ (21, 0) ∷ (0, 0) ∷ (0, 0) ∷ [];
      names = "a" ∷ "b" ∷ "c" ∷ "e" ∷ "f" ∷ "p" ∷ [];
      says = Answer.text (unlines (
          "# void @f(1 params)" ∷ "f:" ∷ "push_0n 3;" ∷ "f__e:" ∷ "push 1;" ∷ "sx_i16_i32;" ∷ "push 2;" ∷ "sx_i16_i32;" ∷ "lt_i32;" ∷ "set_local 0;"
          ∷ "get_arg 0;" ∷ "push 0;" ∷ "lt_u64;" ∷ "set_local 1;" ∷ "push 7;" ∷ "push 4294967294;" ∷ "mod_i32;" ∷ "set_local 2;" ∷ "push 0;" ∷ "ret;" ∷ "" ∷ [])) 0;
    } ∷
    -- a stated align counts for nothing on a fixed place, and for a varying count
    record {
      entries =
          (5, 4) ∷ (10, 0) ∷ (6, 6) ∷ (11, 32) ∷ (0, 0) ∷ (7, 3) ∷ (73, 1) ∷ (11, 8) ∷ (21, 0) ∷ (22, 16) ∷ (73, 2) ∷ (11, 32) ∷ (21, 0) ∷ (22, 16) ∷ (73, 3)
          ∷ (11, 16) ∷ (11, 32) ∷ (30, 5) ∷ (22, 32) ∷ (90, 0) ∷ (21, 0) ∷ (0, 0) ∷ (0, 0) ∷ [];
      names = "a" ∷ "b" ∷ "d" ∷ "e" ∷ "f" ∷ "n" ∷ [];
      says = Answer.text (unlines (
          "# void @f(1 params)" ∷ "f:" ∷ "push_0n 4;" ∷ "thread_get 0;" ∷ "dup;" ∷ "set_local 3;" ∷ "push 8;" ∷ "add_u64;" ∷ "thread_set 0;" ∷ "f__e:"
          ∷ "get_local 3;" ∷ "set_local 0;" ∷ "get_local 3;" ∷ "push 4;" ∷ "add_u64;" ∷ "set_local 1;" ∷ "thread_get 0;" ∷ "push 31;" ∷ "add_u64;"
          ∷ "push 18446744073709551584;" ∷ "and_u64;" ∷ "dup;" ∷ "get_arg 0;" ∷ "push 2;" ∷ "mul_u64;" ∷ "add_u64;" ∷ "thread_set 0;" ∷ "set_local 2;"
          ∷ "push 0;" ∷ "get_local 3;" ∷ "thread_set 0;" ∷ "ret;" ∷ "" ∷ [])) 0;
    } ∷
    -- a varying place of bytes: no multiplication, aligned at 8 at least
    record {
      entries =
          (5, 1) ∷ (10, 0) ∷ (6, 3) ∷ (11, 8) ∷ (0, 0) ∷ (7, 0) ∷ (73, 4) ∷ (11, 8) ∷ (11, 8) ∷ (30, 2) ∷ (22, 1) ∷ (90, 0) ∷ (21, 0) ∷ (0, 0) ∷ (0, 0) ∷ [];
      names = "e" ∷ "f" ∷ "n" ∷ "q" ∷ [];
      says = Answer.text (unlines (
          "# void @f(1 params)" ∷ "f:" ∷ "push_0n 2;" ∷ "thread_get 0;" ∷ "dup;" ∷ "set_local 1;" ∷ "push 0;" ∷ "add_u64;" ∷ "thread_set 0;" ∷ "f__e:"
          ∷ "thread_get 0;" ∷ "push 7;" ∷ "add_u64;" ∷ "push 18446744073709551608;" ∷ "and_u64;" ∷ "dup;" ∷ "get_arg 0;" ∷ "add_u64;" ∷ "thread_set 0;"
          ∷ "set_local 0;" ∷ "push 0;" ∷ "get_local 1;" ∷ "thread_set 0;" ∷ "ret;" ∷ "" ∷ [])) 0;
    } ∷
    -- fixed places that end at 2^31 pass
    record {
      entries =
          (5, 1) ∷ (10, 0) ∷ (0, 0) ∷ (7, 0) ∷ (73, 3) ∷ (13, 16777216) ∷ (11, 8) ∷ (11, 32) ∷ (32, 128) ∷ (21, 0) ∷ (93, 0) ∷ (0, 0) ∷ (0, 0) ∷ [];
      names = "e" ∷ "f" ∷ "q" ∷ [];
      says = Answer.text (unlines (
          "# void @f(0 params)" ∷ "f:" ∷ "push_0n 2;" ∷ "thread_get 0;" ∷ "dup;" ∷ "set_local 1;" ∷ "push 2147483648;" ∷ "add_u64;" ∷ "thread_set 0;" ∷ "f__e:"
          ∷ "get_local 1;" ∷ "set_local 0;" ∷ "panic;" ∷ "" ∷ [])) 0;
    } ∷
    -- fixed places of size 0 and no varying one: a slot that was never made
    record {
      entries =
          (5, 1) ∷ (10, 0) ∷ (0, 0) ∷ (7, 0) ∷ (73, 3) ∷ (13, 0) ∷ (11, 64) ∷ (21, 0) ∷ (21, 0) ∷ (90, 0) ∷ (21, 0) ∷ (0, 0) ∷ (0, 0) ∷ [];
      names = "e" ∷ "f" ∷ "q" ∷ [];
      says = Answer.text (unlines (
          "# void @f(0 params)" ∷ "f:" ∷ "push_0n 1;" ∷ "f__e:" ∷ "get_local 1;" ∷ "set_local 0;" ∷ "push 0;" ∷ "ret;" ∷ "" ∷ [])) 0;
    } ∷
    -- getelementptr: constants add up to one push, varying indices are signed
    record {
      entries =
          (5, 1) ∷ (10, 0) ∷ (6, 4) ∷ (12, 0) ∷ (6, 3) ∷ (11, 8) ∷ (0, 0) ∷ (7, 0) ∷ (74, 5) ∷ (13, 4) ∷ (16, 0) ∷ (11, 32) ∷ (11, 64) ∷ (0, 0) ∷ (30, 3)
          ∷ (11, 8) ∷ (30, 2) ∷ (11, 64) ∷ (32, 18446744073709551615) ∷ (11, 32) ∷ (32, 1) ∷ (0, 0) ∷ (90, 0) ∷ (21, 0) ∷ (0, 0) ∷ (0, 0) ∷ [];
      names = "e" ∷ "f" ∷ "i" ∷ "p" ∷ "q" ∷ [];
      says = Answer.text (unlines (
          "# void @f(2 params)" ∷ "f:" ∷ "push_0n 1;" ∷ "f__e:" ∷ "get_arg 0;" ∷ "get_arg 1;" ∷ "sx_i8_i64;" ∷ "push 64;" ∷ "mul_u64;" ∷ "add_u64;"
          ∷ "push 18446744073709551608;" ∷ "add_u64;" ∷ "set_local 0;" ∷ "push 0;" ∷ "ret;" ∷ "" ∷ [])) 0;
    } ∷
    -- constants that cancel give no push
    record {
      entries =
          (5, 1) ∷ (10, 0) ∷ (6, 3) ∷ (12, 0) ∷ (0, 0) ∷ (7, 0) ∷ (74, 4) ∷ (13, 2) ∷ (11, 64) ∷ (30, 2) ∷ (11, 32) ∷ (32, 1) ∷ (11, 64)
          ∷ (32, 18446744073709551614) ∷ (0, 0) ∷ (90, 0) ∷ (21, 0) ∷ (0, 0) ∷ (0, 0) ∷ [];
      names = "e" ∷ "f" ∷ "p" ∷ "q" ∷ [];
      says = Answer.text (unlines (
          "# void @f(1 params)" ∷ "f:" ∷ "push_0n 1;" ∷ "f__e:" ∷ "get_arg 0;" ∷ "set_local 0;" ∷ "push 0;" ∷ "ret;" ∷ "" ∷ [])) 0;
    } ∷
    -- two varying indices, in order, each with its stride
    record {
      entries =
          (5, 1) ∷ (10, 0) ∷ (6, 5) ∷ (12, 0) ∷ (6, 3) ∷ (11, 32) ∷ (6, 4) ∷ (11, 64) ∷ (0, 0) ∷ (7, 0) ∷ (74, 6) ∷ (13, 4) ∷ (11, 16) ∷ (30, 4) ∷ (11, 32)
          ∷ (30, 2) ∷ (11, 64) ∷ (30, 3) ∷ (0, 0) ∷ (90, 0) ∷ (21, 0) ∷ (0, 0) ∷ (0, 0) ∷ [];
      names = "e" ∷ "f" ∷ "i" ∷ "j" ∷ "p" ∷ "q" ∷ [];
      says = Answer.text (unlines (
          "# void @f(3 params)" ∷ "f:" ∷ "push_0n 1;" ∷ "f__e:" ∷ "get_arg 0;" ∷ "get_arg 1;" ∷ "sx_i32_i64;" ∷ "push 8;" ∷ "mul_u64;" ∷ "add_u64;"
          ∷ "get_arg 2;" ∷ "push 2;" ∷ "mul_u64;" ∷ "add_u64;" ∷ "set_local 0;" ∷ "push 0;" ∷ "ret;" ∷ "" ∷ [])) 0;
    } ∷
    -- an edge: every value, then the slots backwards; the scan ends at the first instruction that is no phi; the first predecessor counts
    record {
      entries =
          (5, 1) ∷ (10, 0) ∷ (0, 0) ∷ (7, 0) ∷ (91, 0) ∷ (21, 0) ∷ (23, 2) ∷ (21, 0) ∷ (7, 2) ∷ (75, 5) ∷ (11, 8) ∷ (32, 18446744073709551615) ∷ (23, 0)
          ∷ (32, 2) ∷ (23, 0) ∷ (0, 0) ∷ (75, 6) ∷ (11, 64) ∷ (32, 18446744073709551615) ∷ (23, 0) ∷ (0, 0) ∷ (40, 7) ∷ (11, 32) ∷ (32, 1) ∷ (32, 2) ∷ (75, 4)
          ∷ (11, 32) ∷ (32, 9) ∷ (23, 0) ∷ (0, 0) ∷ (90, 0) ∷ (21, 0) ∷ (0, 0) ∷ (0, 0) ∷ [];
      names = "e" ∷ "f" ∷ "l" ∷ "w" ∷ "x" ∷ "y" ∷ "z" ∷ [];
      says = Answer.text (unlines (
          "# void @f(0 params)" ∷ "f:" ∷ "push_0n 4;" ∷ "f__e:" ∷ "push 255;" ∷ "push 18446744073709551615;" ∷ "set_local 1;" ∷ "set_local 0;" ∷ "jmp f__l;"
          ∷ "f__l:" ∷ "push 1;" ∷ "push 2;" ∷ "add_u32;" ∷ "set_local 2;" ∷ "push 0;" ∷ "ret;" ∷ "" ∷ [])) 0;
    } ∷
    -- a phi behind a call, an alloca or a cmpxchg is none of the leading ones
    record {
      entries =
          (5, 2) ∷ (10, 0) ∷ (6, 7) ∷ (12, 0) ∷ (0, 0) ∷ (7, 1) ∷ (91, 0) ∷ (21, 0) ∷ (23, 3) ∷ (21, 0) ∷ (7, 3) ∷ (76, 0) ∷ (10, 0) ∷ (31, 0) ∷ (0, 0)
          ∷ (75, 8) ∷ (11, 32) ∷ (0, 0) ∷ (91, 0) ∷ (21, 0) ∷ (23, 4) ∷ (21, 0) ∷ (7, 4) ∷ (73, 9) ∷ (13, 0) ∷ (11, 8) ∷ (21, 0) ∷ (21, 0) ∷ (75, 10) ∷ (11, 32)
          ∷ (0, 0) ∷ (91, 0) ∷ (21, 0) ∷ (23, 5) ∷ (21, 0) ∷ (7, 5) ∷ (80, 11) ∷ (12, 0) ∷ (30, 6) ∷ (32, 0) ∷ (32, 1) ∷ (75, 12) ∷ (11, 32) ∷ (0, 0) ∷ (93, 0)
          ∷ (0, 0) ∷ (0, 0) ∷ [];
      names = "__uvm_a.b" ∷ "e" ∷ "f" ∷ "l" ∷ "m" ∷ "n" ∷ "p" ∷ "u" ∷ "v" ∷ "w" ∷ "x" ∷ "y" ∷ [];
      says = Answer.text (unlines (
          "# void @f(1 params)" ∷ "f:" ∷ "push_0n 6;" ∷ "f__e:" ∷ "jmp f__l;" ∷ "f__l:" ∷ "syscall a.b;" ∷ "jmp f__m;" ∷ "f__m:" ∷ "get_local 6;"
          ∷ "set_local 1;" ∷ "jmp f__n;" ∷ "f__n:" ∷ "get_arg 0;" ∷ "push 0;" ∷ "push 1;" ∷ "atomic_cas_u64;" ∷ "dup;" ∷ "set_local 3;" ∷ "push 0;" ∷ "eq_u64;"
          ∷ "set_local 4;" ∷ "panic;" ∷ "" ∷ [])) 0;
    } ∷
    -- `sanitize` gives one `_` for each other character
    record {
      entries =
          (5, 1) ∷ (10, 0) ∷ (0, 0) ∷ (7, 0) ∷ (91, 0) ∷ (21, 0) ∷ (23, 0) ∷ (21, 0) ∷ (0, 0) ∷ (0, 0) ∷ [];
      names = "b..1" ∷ "f-$x" ∷ [];
      says = Answer.text (unlines (
          "# void @f-$x(0 params)" ∷ "f__x:" ∷ "f__x__b__1:" ∷ "jmp f__x__b__1;" ∷ "" ∷ [])) 0;
    } ∷
    -- calls: a syscall with a result and one without, bcmp, a value that is called
    record {
      entries =
          (5, 6) ∷ (10, 0) ∷ (6, 8) ∷ (12, 0) ∷ (0, 0) ∷ (7, 5) ∷ (76, 3) ∷ (11, 32) ∷ (31, 1) ∷ (0, 0) ∷ (76, 0) ∷ (10, 0) ∷ (31, 0) ∷ (11, 8) ∷ (32, 1)
          ∷ (0, 0) ∷ (76, 4) ∷ (11, 32) ∷ (31, 4) ∷ (12, 0) ∷ (30, 7) ∷ (0, 0) ∷ (76, 0) ∷ (12, 0) ∷ (30, 7) ∷ (11, 16) ∷ (32, 18446744073709551615) ∷ (0, 0)
          ∷ (90, 0) ∷ (21, 0) ∷ (0, 0) ∷ (0, 0) ∷ [];
      names = "__uvm_exit" ∷ "__uvm_time" ∷ "a" ∷ "b" ∷ "bcmp" ∷ "e" ∷ "f" ∷ "p" ∷ [];
      says = Answer.text (unlines (
          "# void @f(1 params)" ∷ "f:" ∷ "push_0n 2;" ∷ "f__e:" ∷ "syscall time;" ∷ "set_local 0;" ∷ "push 1;" ∷ "syscall exit;" ∷ "get_arg 0;"
          ∷ "syscall memcmp;" ∷ "set_local 1;" ∷ "push 65535;" ∷ "get_arg 0;" ∷ "call_fp 1;" ∷ "pop;" ∷ "push 0;" ∷ "ret;" ∷ "" ∷ [])) 0;
    } ∷
    -- a reserved name as an operand; memcmp; a result that nobody keeps
    record {
      entries =
          (2, 5) ∷ (5, 3) ∷ (10, 0) ∷ (0, 0) ∷ (7, 2) ∷ (76, 2) ∷ (11, 32) ∷ (31, 4) ∷ (12, 0) ∷ (31, 5) ∷ (12, 0) ∷ (33, 0) ∷ (0, 0) ∷ (76, 0) ∷ (11, 32)
          ∷ (31, 0) ∷ (0, 0) ∷ (90, 0) ∷ (21, 0) ∷ (0, 0) ∷ (0, 0) ∷ [];
      names = "__uvm_time" ∷ "a" ∷ "e" ∷ "f" ∷ "memcmp" ∷ "sinf" ∷ [];
      says = Answer.text (unlines (
          "# void @f(0 params)" ∷ "f:" ∷ "push_0n 1;" ∷ "f__e:" ∷ "push sinf;" ∷ "push 0;" ∷ "syscall memcmp;" ∷ "set_local 0;" ∷ "syscall time;" ∷ "pop;"
          ∷ "push 0;" ∷ "ret;" ∷ "" ∷ [])) 0;
    } ∷
    -- select and a condition: labels count on
    record {
      entries =
          (5, 1) ∷ (10, 0) ∷ (6, 3) ∷ (11, 1) ∷ (0, 0) ∷ (7, 0) ∷ (70, 4) ∷ (30, 2) ∷ (11, 8) ∷ (32, 1) ∷ (32, 2) ∷ (91, 0) ∷ (30, 2) ∷ (23, 0) ∷ (23, 0)
          ∷ (0, 0) ∷ (0, 0) ∷ [];
      names = "e" ∷ "f" ∷ "p" ∷ "q" ∷ [];
      says = Answer.text (unlines (
          "# void @f(1 params)" ∷ "f:" ∷ "push_0n 1;" ∷ "f__e:" ∷ "get_arg 0;" ∷ "jz __sel_false_0;" ∷ "push 1;" ∷ "jmp __sel_done_1;" ∷ "__sel_false_0:"
          ∷ "push 2;" ∷ "__sel_done_1:" ∷ "set_local 0;" ∷ "get_arg 0;" ∷ "jz __br_false_2;" ∷ "jmp f__e;" ∷ "__br_false_2:" ∷ "jmp f__e;" ∷ "" ∷ [])) 3;
    } ∷
    -- switch: the tests, the default edge, then the edges of the cases
    record {
      entries =
          (5, 1) ∷ (10, 0) ∷ (6, 4) ∷ (11, 8) ∷ (0, 0) ∷ (7, 0) ∷ (92, 0) ∷ (11, 8) ∷ (30, 3) ∷ (23, 0) ∷ (32, 18446744073709551615) ∷ (23, 0) ∷ (32, 2)
          ∷ (23, 2) ∷ (0, 0) ∷ (7, 2) ∷ (93, 0) ∷ (0, 0) ∷ (0, 0) ∷ [];
      names = "e" ∷ "f" ∷ "g" ∷ "p" ∷ [];
      says = Answer.text (unlines (
          "# void @f(1 params)" ∷ "f:" ∷ "f__e:" ∷ "get_arg 0;" ∷ "push 255;" ∷ "eq_u32;" ∷ "jnz __sw_case_0;" ∷ "get_arg 0;" ∷ "push 2;" ∷ "eq_u32;"
          ∷ "jnz __sw_case_1;" ∷ "jmp f__e;" ∷ "__sw_case_0:" ∷ "jmp f__e;" ∷ "__sw_case_1:" ∷ "jmp f__g;" ∷ "f__g:" ∷ "panic;" ∷ "" ∷ [])) 2;
    } ∷
    -- freeze: a type without a width takes 8 bits for each byte, none masks to 0
    record {
      entries =
          (5, 3) ∷ (10, 0) ∷ (0, 0) ∷ (7, 2) ∷ (77, 1) ∷ (13, 0) ∷ (11, 8) ∷ (32, 5) ∷ (77, 2) ∷ (13, 2) ∷ (11, 8) ∷ (32, 18446744073709551615) ∷ (90, 0)
          ∷ (21, 0) ∷ (0, 0) ∷ (0, 0) ∷ [];
      names = "a" ∷ "b" ∷ "e" ∷ "f" ∷ [];
      says = Answer.text (unlines (
          "# void @f(0 params)" ∷ "f:" ∷ "push_0n 2;" ∷ "f__e:" ∷ "push 0;" ∷ "set_local 0;" ∷ "push 65535;" ∷ "set_local 1;" ∷ "push 0;" ∷ "ret;" ∷ "" ∷ [])) 0;
    } ∷
    []

pub bent_holds : map answers bent ≡ map says_of bent
unfolding open_sheet bent
bent_holds = refl
