-- What a line does: "Lines do as named". An operand stack is a list, its top first.
use Rattle.std.specs.Prelude.{ℕ, zero, suc, ◌%◌, ◌^◌, Bool, true, false, not, cond, List, [], ◌∷◌, ◌++◌, eqb, ltb, length, set, replicate}
use Rattle.std.proofs.Math.Option.{Option, none, some}
use Rattle.names.specs.Name.{name_at}
use Rattle.assembly.specs.Line.{Line, Work, Mem, Narrow, Hint}
use Rattle.assembly.specs.Text.{hinted}
use Rattle.machine.specs.Memory.{Memory, peek, poke}
use Rattle.machine.specs.Labels.{block_in}
use Rattle.machine.specs.State.{Target, Call, Reply, World, Frame, set_slots, set_memory, set_sp, called, cell_at, global_at, memcmp, shape_of, printed_name}
use Rattle.machine.specs.Values.{word_op, word_test, extended, flag}

-- on to the next line, past a block's label, to the line with a label, the end with a value, or a failure
pub data Effect : Type 0 where
  goes passes : Frame → (operands : List ℕ) → Effect
  jumps : (label : List ℕ) → Frame → (operands : List ℕ) → Effect
  ends : (value : ℕ) → Frame → Effect
  fails : Effect

-- ---- "anything missing fails"
abbrev pub or_fails : {A : Type 0} → Option A → (A → Effect) → Effect
or_fails none k = fails
or_fails (some a) k = k a

abbrev pub pop1 : List ℕ → (ℕ → List ℕ → Effect) → Effect
pop1 [] k = fails
pop1 (x ∷ o) k = k x o

-- two cells, the one pushed first first
abbrev pub pop2 : List ℕ → (ℕ → ℕ → List ℕ → Effect) → Effect
pop2 [] k = fails
pop2 (y ∷ []) k = fails
pop2 (y ∷ x ∷ o) k = k x y o

abbrev pub pop3 : List ℕ → (ℕ → ℕ → ℕ → List ℕ → Effect) → Effect
pop3 [] k = fails
pop3 (z ∷ []) k = fails
pop3 (z ∷ y ∷ []) k = fails
pop3 (z ∷ y ∷ x ∷ o) k = k x y z o

-- n cells, the one pushed first first, in front of those given
unfoldable pub pop_n : (n : ℕ) → (popped operands : List ℕ) → (List ℕ → List ℕ → Effect) → Effect
pop_n zero xs o k = k xs o
pop_n (suc n) xs [] k = fails
pop_n (suc n) xs (x ∷ o) k = pop_n n (x ∷ xs) o k

-- ---- widths
abbrev pub work_width : Work → ℕ
work_width Work.w32 = 32
work_width Work.w64 = 64

abbrev pub mem_bytes : Mem → ℕ
mem_bytes Mem.m8 = 1
mem_bytes Mem.m16 = 2
mem_bytes Mem.m32 = 4
mem_bytes Mem.m64 = 8

abbrev pub narrow_width : Narrow → ℕ
narrow_width Narrow.n8 = 8
narrow_width Narrow.n16 = 16
narrow_width Narrow.n32 = 32

-- "u32 and i32 ones take low halves"
abbrev pub word : Work → ℕ → ℕ
word w x = x % 2 ^ work_width w

-- ---- memory
-- "compare-and-swap pushes the cell found", and stores the new one where it is the one compared with
unfoldable pub swapped : Memory → (address compared new : ℕ) → Memory
swapped m a c n = cond (eqb (peek 8 m a) c) (poke 8 m a n) m

-- ---- jumps
unfoldable pub branch : Bool → (label : List ℕ) → Frame → List ℕ → Effect
branch true t e o = jumps t e o
branch false t e o = goes e o

-- "by a popped cell if conditional"
unfoldable pub jump : Hint → (label : List ℕ) → Frame → List ℕ → Effect
jump Hint.sel_done t e o = jumps t e o
jump Hint.sel_false t e o = pop1 o (λ x r. branch (eqb x 0) t e r)
jump Hint.br_false t e o = pop1 o (λ x r. branch (eqb x 0) t e r)
jump Hint.sw_case t e o = pop1 o (λ x r. branch (not (eqb x 0)) t e r)

-- ---- calls
module _ (world : World) where
  abbrev pub reply_to : List Call → Reply
  reply_to cs = world.replies (length cs)

  -- "is listed, takes its reply's memory and pushes its cell"
  abbrev pub calls : Target → Frame → (args operands : List ℕ) → Effect
  calls t e xs o = goes (called e (record { target = t; args = xs }) (reply_to e.calls).memory) ((reply_to e.calls).cell ∷ o)

  -- "one without takes the memory of its position all the same and pushes no cell"
  abbrev pub calls_quietly : Target → Frame → (args operands : List ℕ) → Effect
  calls_quietly t e xs o = goes (called e (record { target = t; args = xs }) (reply_to e.calls).memory) o

  unfoldable pub replying : Bool → Target → Frame → (args operands : List ℕ) → Effect
  replying true = calls
  replying false = calls_quietly

  unfoldable pub system_call : (printed : List ℕ) → Frame → List ℕ → Effect
  system_call t e o = or_fails (shape_of world t) (λ s. pop_n s.args [] o (replying s.replies (Target.syscall t) e))

-- f: the function that the line belongs to
module _ (names : List (List ℕ)) (f : Option ℕ) (world : World) where
  unfoldable pub does : Line → Frame → List ℕ → Effect
  does (Line.comment x) e o = goes e o
  does (Line.fn_label x) e o = goes e o
  does (Line.label h n) e o = goes e o
  does Line.blank e o = goes e o
  -- a block's label, and a jump to one, have a function
  does (Line.block_label x) e o = or_fails (block_in names f x) (λ t. passes e o)
  does (Line.jmp_block x) e o = or_fails (block_in names f x) (λ t. jumps t e o)
  does (Line.jump h n) e o = jump h (hinted h n) e o
  -- "`push_0n` adds slots of 0, a get pushes, a set pops"
  does (Line.push0n n) e o = goes (set_slots e (e.slots ++ replicate n 0)) o
  does (Line.push n) e o = goes e (n ∷ o)
  does (Line.push_name x) e o = goes e (global_at world x ∷ o)
  does (Line.get_arg i) e o = or_fails (cell_at e.args i) (λ x. goes e (x ∷ o))
  does (Line.get_local i) e o = or_fails (cell_at e.slots i) (λ x. goes e (x ∷ o))
  does (Line.set_local i) e o = pop1 o (λ x r. cond (ltb i (length e.slots)) (goes (set_slots e (set e.slots i x)) r) fails)
  -- "operations pop what the Rust pushed and push the result"
  does (Line.bin op w) e o = pop2 o (λ a b r. or_fails (word_op op (work_width w) (word w a) (word w b)) (λ x. goes e (x ∷ r)))
  does (Line.icmp p w) e o = pop2 o (λ a b r. goes e (flag (word_test p (work_width w) (word w a) (word w b)) ∷ r))
  does (Line.trunc n) e o = pop1 o (λ x r. goes e (x % 2 ^ narrow_width n ∷ r))
  does (Line.sx8 w) e o = pop1 o (λ x r. goes e (extended 8 (work_width w) x ∷ r))
  does (Line.sx16 w) e o = pop1 o (λ x r. goes e (extended 16 (work_width w) x ∷ r))
  does Line.sx32 e o = pop1 o (λ x r. goes e (extended 32 64 x ∷ r))
  -- "stores pop the value first"
  does (Line.load m) e o = pop1 o (λ a r. goes e (peek (mem_bytes m) e.memory a ∷ r))
  does (Line.store m) e o = pop2 o (λ a x r. goes (set_memory e (poke (mem_bytes m) e.memory a x)) r)
  does Line.atomic_load e o = pop1 o (λ a r. goes e (peek 8 e.memory a ∷ r))
  does Line.atomic_store e o = pop2 o (λ a x r. goes (set_memory e (poke 8 e.memory a x)) r)
  does Line.atomic_cas e o = pop3 o (λ a c x r. goes (set_memory e (swapped e.memory a c x)) (peek 8 e.memory a ∷ r))
  -- "`thread_get 0` is the stack pointer"
  does Line.thread_get e o = goes e (e.sp ∷ o)
  does Line.thread_set e o = pop1 o (λ x r. goes (set_sp e x) r)
  does Line.dup e o = pop1 o (λ x r. goes e (x ∷ x ∷ r))
  does Line.pop e o = pop1 o (λ x r. goes e r)
  -- "A call pops its arguments and any address called"
  does (Line.call x n) e o = pop_n n [] o (calls world (Target.function x) e)
  does (Line.call_fp n) e o = pop1 o (λ a r. pop_n n [] r (calls world (Target.address a) e))
  does (Line.syscall x) e o = system_call world (printed_name (name_at names x)) e o
  does Line.sys_memcmp e o = system_call world memcmp e o
  -- "`ret` pops the value and ends", "`panic` .. fails"
  does Line.ret e o = pop1 o (λ x r. ends x e)
  does Line.panic e o = fails

-- opens every definition of this file, for an example that computes
unfoldable pub open_line : Unit {0}
unfolding pop_n swapped branch jump replying system_call does
open_line = tt
