-- Short programs of the machine and what they give, from the sentences of document 01, "Machine": one table, one theorem.
use Rattle.std.specs.Prelude.{ℕ, ◌+◌, ◌-◌, ◌^◌, ◌≡◌, refl, true, false, cond, List, [], ◌∷◌, map, eqb}
use Rattle.std.proofs.Math.Option.{none, some}
use Rattle.names.specs.Text.{bytes, same}
use Rattle.book.specs.Ast.{BinOp, ICmpPred}
use Rattle.assembly.specs.Line.{Line, Work, Mem, Narrow, Hint}
use Rattle.machine.specs.Memory.{Memory, peek}
use Rattle.machine.specs.State.{Target, Call, World}
use Rattle.machine.specs.Labels.{placed}
use Rattle.machine.specs.Run.{Outcome, running, returned, failed, steps, start}
use Rattle.machine.specs.Open.{open_machine}

-- what a program gives back: its value, the calls listed, and the 8 bytes at address 4096
pub record Summary : Type 0 where
  pub value : ℕ
  pub calls : List Call
  pub bytes : ℕ

-- it returns, fails, or is still running
pub data End : Type 0 where
  returns : Summary → End
  fails goes_on : End

pub record Program : Type 0 where
  pub lines : List Line
  pub says : End

-- name 0 is the function, name 1 a block of it, name 2 a function, names 3 and 4 syscalls: one of two arguments with a reply, one of one without
names : List (List ℕ)
names = map bytes ("f" ∷ "b" ∷ "g" ∷ "__uvm_ask" ∷ "__uvm_put" ∷ [])

-- memory with one byte
unfoldable pub holding : ℕ → ℕ → Memory
holding a v x = cond (eqb x a) v 0

-- the reply at position n is the cell n + 40, and the byte n + 50 at address 4096
unfoldable pub world : World
unfolding holding
world = record {
  globals = λ x. 8192 + x;
  shapes = λ t. cond (same t (bytes "ask")) (some (record { args = 2; replies = true })) (cond (same t (bytes "put")) (some (record { args = 1; replies = false })) none);
  replies = λ n. record { cell = n + 40; memory = holding 4096 (n + 50) };
}

ended : Outcome → End
ended (running x) = End.goes_on
ended (returned v e n) = End.returns (record { value = v; calls = e.calls; bytes = peek 8 e.memory 4096 })
ended failed = End.fails

-- 24 steps from the first line, a comment line in front of those given, with the arguments 11 and 12, the byte 7 at address 4096 and the stack pointer 1000
unfoldable pub runs : Program → End
unfolding names world holding ended
runs p = ended (steps names world (placed (Line.comment 0 ∷ p.lines)) 24 (running (start 0 (11 ∷ 12 ∷ []) (holding 4096 7) 1000)))

abbrev pub expected : Program → End
expected p = p.says

-- ---- short ways to write a program
failing : List Line → Program
failing ls = record { lines = ls; says = End.fails }

-- a value, no call, memory as it was
gives : ℕ → List Line → Program
gives v ls = record { lines = ls; says = End.returns (record { value = v; calls = []; bytes = 7 }) }

-- a value, and what stands at address 4096
stores : (value bytes : ℕ) → List Line → Program
stores v n ls = record { lines = ls; says = End.returns (record { value = v; calls = []; bytes = n }) }

-- two cells pushed, a line, the end
two : (a b : ℕ) → Line → List Line
two a b l = Line.push a ∷ Line.push b ∷ l ∷ Line.ret ∷ []

one : ℕ → Line → List Line
one a l = Line.push a ∷ l ∷ Line.ret ∷ []

-- 2 where a jump is taken, else 1
either : Hint → List Line
either h = Line.jump h 5 ∷ Line.push 1 ∷ Line.ret ∷ Line.label h 5 ∷ Line.push 2 ∷ Line.ret ∷ []

-- a call listed
asked : Target → List ℕ → Call
asked t xs = record { target = t; args = xs }

unfoldable pub programs : List Program
unfolding failing gives stores two one either asked
programs =
    -- "operations pop what the Rust pushed": the right side was pushed last
    gives (2 ^ 64 - 7) (two 3 10 (Line.bin BinOp.sub Work.w64)) ∷
    -- "u32 and i32 ones take low halves and leave results below 2^32"
    gives (2 ^ 32 - 7) (two (2 ^ 32 + 3) 10 (Line.bin BinOp.sub Work.w32)) ∷
    gives 8 (two 1 (2 ^ 32 + 3) (Line.bin BinOp.shl Work.w32)) ∷
    gives 1 (two (2 ^ 32 + 5) 5 (Line.icmp ICmpPred.eq Work.w32)) ∷
    gives 0 (two (2 ^ 32 + 5) 5 (Line.icmp ICmpPred.eq Work.w64)) ∷
    -- signed ones: -7 / 2 is -3, -7 rem 2 is -1, -8 shifted by 1 is -4, -1 is below 1
    gives (2 ^ 32 - 3) (two (2 ^ 32 - 7) 2 (Line.bin BinOp.sdiv Work.w32)) ∷
    gives (2 ^ 64 - 1) (two (2 ^ 64 - 7) 2 (Line.bin BinOp.srem Work.w64)) ∷
    gives (2 ^ 32 - 4) (two (2 ^ 32 - 8) 1 (Line.bin BinOp.ashr Work.w32)) ∷
    gives (2 ^ 64 - 4) (two (2 ^ 64 - 8) 1 (Line.bin BinOp.ashr Work.w64)) ∷
    gives 1 (two (2 ^ 32 - 1) 1 (Line.icmp ICmpPred.slt Work.w32)) ∷
    gives 0 (two (2 ^ 32 - 1) 1 (Line.icmp ICmpPred.ult Work.w32)) ∷
    -- "A zero divisor, an overflowing signed division or remainder, a shift by the width or more, `panic` or anything missing fails"
    failing (two 3 (2 ^ 32) (Line.bin BinOp.udiv Work.w32)) ∷
    failing (two (2 ^ 31) (2 ^ 32 - 1) (Line.bin BinOp.sdiv Work.w32)) ∷
    failing (two (2 ^ 63) (2 ^ 64 - 1) (Line.bin BinOp.srem Work.w64)) ∷
    failing (two 1 32 (Line.bin BinOp.lshr Work.w32)) ∷
    gives 1 (two (2 ^ 32) 32 (Line.bin BinOp.lshr Work.w64)) ∷
    failing (Line.push 1 ∷ Line.panic ∷ Line.ret ∷ []) ∷
    failing (Line.ret ∷ []) ∷
    failing (Line.push 1 ∷ []) ∷
    failing (Line.push 1 ∷ Line.bin BinOp.add Work.w64 ∷ Line.ret ∷ []) ∷
    failing (Line.get_arg 2 ∷ Line.ret ∷ []) ∷
    failing (Line.push0n 1 ∷ Line.get_local 1 ∷ Line.ret ∷ []) ∷
    failing (Line.jmp_block 1 ∷ []) ∷
    -- widths
    gives 255 (one 511 (Line.trunc Narrow.n8)) ∷
    gives (2 ^ 32 - 56) (one 456 (Line.sx8 Work.w32)) ∷
    gives (2 ^ 64 - 56) (one 200 (Line.sx8 Work.w64)) ∷
    gives (2 ^ 64 - 1) (one (2 ^ 33 - 1) Line.sx32) ∷
    -- "`push_0n` adds slots of 0, a get pushes, a set pops"
    gives 0 (Line.push0n 1 ∷ Line.get_local 0 ∷ Line.ret ∷ []) ∷
    gives 9 (Line.push0n 2 ∷ Line.push 9 ∷ Line.set_local 1 ∷ Line.get_local 1 ∷ Line.ret ∷ []) ∷
    gives 12 (Line.get_arg 1 ∷ Line.ret ∷ []) ∷
    gives 8194 (Line.push_name 2 ∷ Line.ret ∷ []) ∷
    -- "a jump goes to its label, by a popped cell if conditional": where it is 0, and for a switch's where it is not
    gives 2 (Line.push 0 ∷ either Hint.br_false) ∷
    gives 1 (Line.push 3 ∷ either Hint.br_false) ∷
    gives 2 (Line.push 0 ∷ either Hint.sel_false) ∷
    gives 1 (Line.push 0 ∷ either Hint.sw_case) ∷
    gives 2 (Line.push 3 ∷ either Hint.sw_case) ∷
    gives 2 (either Hint.sel_done) ∷
    gives 4 (Line.jmp_block 1 ∷ Line.panic ∷ Line.block_label 1 ∷ Line.push 4 ∷ Line.ret ∷ []) ∷
    -- "stores pop the value first"; "memory (2^64 bytes, wrapping, little-endian)"
    stores 5 1799 (Line.push 4097 ∷ Line.push 7 ∷ Line.store Mem.m8 ∷ Line.push 5 ∷ Line.ret ∷ []) ∷
    gives 258 (Line.push (2 ^ 64 - 1) ∷ Line.push 66051 ∷ Line.store Mem.m32 ∷ Line.push 0 ∷ Line.load Mem.m16 ∷ Line.ret ∷ []) ∷
    -- "compare-and-swap pushes the cell found", and stores where that is the one compared with
    stores 7 9 (Line.push 4096 ∷ Line.push 7 ∷ Line.push 9 ∷ Line.atomic_cas ∷ Line.ret ∷ []) ∷
    stores 7 7 (Line.push 4096 ∷ Line.push 8 ∷ Line.push 9 ∷ Line.atomic_cas ∷ Line.ret ∷ []) ∷
    -- "`thread_get 0` is the stack pointer"
    gives 1004 (Line.thread_get ∷ Line.push 4 ∷ Line.bin BinOp.add Work.w64 ∷ Line.thread_set ∷ Line.thread_get ∷ Line.ret ∷ []) ∷
    -- "A call pops its arguments and any address called, is listed, takes its reply's memory and pushes its cell"
    record {
      lines = Line.push 1 ∷ Line.push 2 ∷ Line.call 2 2 ∷ Line.push 3 ∷ Line.push 600 ∷ Line.call_fp 2 ∷ Line.ret ∷ [];
      says = End.returns (record { value = 41; calls = asked (Target.address 600) (40 ∷ 3 ∷ []) ∷ asked (Target.function 2) (1 ∷ 2 ∷ []) ∷ []; bytes = 51 });
    } ∷
    -- "Syscall names have a fixed argument count and a reply or none: one without takes the memory of its position all the same and pushes no cell"
    record {
      lines = Line.push 1 ∷ Line.push 2 ∷ Line.push 3 ∷ Line.syscall 4 ∷ Line.syscall 3 ∷ Line.ret ∷ [];
      says = End.returns (record { value = 41; calls = asked (Target.syscall (bytes "ask")) (1 ∷ 2 ∷ []) ∷ asked (Target.syscall (bytes "put")) (3 ∷ []) ∷ []; bytes = 51 });
    } ∷
    -- "memcmp has 3 and a reply"
    record {
      lines = Line.push 1 ∷ Line.push 2 ∷ Line.push 3 ∷ Line.sys_memcmp ∷ Line.ret ∷ [];
      says = End.returns (record { value = 40; calls = asked (Target.syscall (bytes "memcmp")) (1 ∷ 2 ∷ 3 ∷ []) ∷ []; bytes = 50 });
    } ∷
    failing (Line.push 1 ∷ Line.push 2 ∷ Line.sys_memcmp ∷ Line.ret ∷ []) ∷
    -- a block that jumps to itself
    record { lines = Line.block_label 1 ∷ Line.jmp_block 1 ∷ []; says = End.goes_on } ∷
    []

pub programs_hold : map runs programs ≡ map expected programs
unfolding open_machine runs programs
programs_hold = refl
