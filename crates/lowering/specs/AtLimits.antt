-- Limits of a translation at their value and one beyond, from raw entries, and what comes before or behind them: 255 arguments (15), 32 indices and 64 levels
-- (1, 7), 65,535 slots (8), the counter (1), the work slice (4), the line and text slices (20). The number is the refusal's, 0 for none.
use Rattle.std.specs.Prelude.{ℕ, zero, suc, ◌+◌, ◌^◌, ◌≡◌, refl, List, [], ◌∷◌, ◌++◌, map}
use Prim.Native.String.{String}
use Rattle.std.proofs.Math.Option.{some}
use Rattle.book.specs.Ast.{Ty, Value, Terminator, BasicBlock}
use Rattle.assembly.specs.Cases.{unlines, slice}
use Rattle.lowering.specs.Function.{gen_lines}
use Rattle.lowering.specs.Sheet.{Answer, answer_in, open_sheet}
use Rattle.lowering.specs.Slices.{bare_ctx, refusal_of}

abbrev Entries : Type 0
Entries = List (ℕ × ℕ)

unfoldable pub names : List String
names = "__uvm_a" ∷ "e" ∷ "f" ∷ "memcmp" ∷ "p" ∷ "q" ∷ "s" ∷ "u" ∷ []

-- void @f(ptr %p), one block e with these instructions, which returns; %s is {i8}, %q no struct, %u nothing
unfoldable pub entries_of : Entries → Entries
entries_of es = (3, 6) ∷ (16, 0) ∷ (11, 8) ∷ (0, 0) ∷ (5, 2) ∷ (10, 0) ∷ (6, 5) ∷ (12, 0) ∷ (0, 0) ∷ (7, 1) ∷ (es ++ (90, 0) ∷ (21, 0) ∷ (0, 0) ∷ (0, 0) ∷ [])

-- with slices of these lengths, at a counter
unfoldable pub within : (work lines bytes counter : ℕ) → Entries → Answer
within work lines bytes counter es = answer_in work lines bytes (slice (entries_of es) names) (unlines names) counter

unfoldable pub number_of : Answer → ℕ
number_of (Answer.text bytes next) = 0
number_of (Answer.refusal e) = e

unfoldable pub refusal : Entries → ℕ
refusal es = number_of (within 128 512 8192 0 es)

-- these entries so many times
unfoldable pub times : ℕ → Entries → Entries
times zero es = []
times (suc n) es = es ++ times n es

unfoldable pub open_here : Unit {0}
unfolding open_sheet names entries_of within number_of refusal times
open_here = tt

-- ---- 15: "call that is no syscall, bcmp or memcmp: over 255 arguments", before the first of them is looked at
unfoldable pub calls : (callee arg : ℕ × ℕ) → ℕ → ℕ
calls callee arg n = refusal ((76, 0) ∷ (10, 0) ∷ callee ∷ (times n ((11, 8) ∷ arg ∷ []) ++ (0, 0) ∷ []))

-- of @f, of %p, of a syscall, of memcmp; then with arguments that are unknown; then of null
pub arguments_hold :
    map (calls (31, 2) (32, 0)) (0 ∷ 255 ∷ 256 ∷ []) ++ map (calls (30, 4) (32, 0)) (255 ∷ 256 ∷ [])
    ++ map (calls (31, 0) (32, 0)) (255 ∷ 256 ∷ []) ++ map (calls (31, 3) (32, 0)) (255 ∷ 256 ∷ [])
    ++ map (calls (31, 2) (30, 7)) (255 ∷ 256 ∷ []) ++ map (calls (31, 0) (30, 7)) (256 ∷ []) ++ map (calls (31, 3) (30, 7)) (256 ∷ [])
    ++ map (calls (33, 0) (30, 7)) (255 ∷ 256 ∷ []) ++ map (calls (33, 0) (32, 0)) (255 ∷ [])
    ≡ 0 ∷ 0 ∷ 15 ∷ 0 ∷ 15 ∷ 0 ∷ 0 ∷ 0 ∷ 0 ∷ 10 ∷ 15 ∷ 10 ∷ 10 ∷ 10 ∷ 15 ∷ 15 ∷ []
unfolding open_here calls
arguments_hold = refl

-- ---- 1 and 14: 32 indices into arrays within arrays
unfoldable pub steps : (levels indices : ℕ) → ℕ
steps l n = refusal ((74, 6) ∷ (times l ((13, 1) ∷ []) ++ ((11, 8) ∷ (30, 4) ∷ (times n ((11, 8) ∷ (32, 0) ∷ []) ++ (0, 0) ∷ []))))

pub indices_hold : map (steps 40) (0 ∷ 1 ∷ 32 ∷ 33 ∷ []) ++ map (steps 31) (32 ∷ []) ++ map (steps 30) (31 ∷ 32 ∷ 33 ∷ []) ≡ 0 ∷ 0 ∷ 0 ∷ 1 ∷ 0 ∷ 0 ∷ 14 ∷ 1 ∷ []
unfolding open_here steps
indices_hold = refl

-- ---- 1, 6 and 7: levels of a type, and of a named struct in it, whose field stands two below it
unfoldable pub frozen : ℕ → Entries → ℕ
frozen n t = refusal ((77, 6) ∷ (times n ((13, 1) ∷ []) ++ (t ++ (32, 0) ∷ [])))

pub levels_hold :
    map (λ n. frozen n ((11, 8) ∷ [])) (63 ∷ 64 ∷ []) ++ map (λ n. frozen n ((15, 6) ∷ [])) (61 ∷ 62 ∷ 63 ∷ 64 ∷ [])
    ++ map (λ n. frozen n ((15, 5) ∷ [])) (63 ∷ 64 ∷ []) ++ map (λ n. frozen n ((19, 0) ∷ [])) (63 ∷ 64 ∷ [])
    ≡ 0 ∷ 1 ∷ 0 ∷ 7 ∷ 7 ∷ 1 ∷ 6 ∷ 1 ∷ 6 ∷ 1 ∷ []
unfolding open_here frozen
levels_hold = refl

-- ---- 8: before any block
unfoldable pub spoiled : BasicBlock
spoiled = record { label = 0; insts = []; term = Terminator.ret (some (record { ty = Ty.void; val = Value.int 0 })) }

unfoldable pub with_slots : ℕ → ℕ
with_slots n = refusal_of (gen_lines bare_ctx (record { name = 0; ret_ty = Ty.void; params = []; blocks = spoiled ∷ [] }) n 0)

pub slots_hold : map with_slots (0 ∷ 65535 ∷ 65536 ∷ []) ≡ 9 ∷ 9 ∷ 8 ∷ []
unfolding open_here bare_ctx refusal_of spoiled with_slots
slots_hold = refl

-- ---- 1: the counter; "the next one may be larger"
unfoldable pub next_of : Answer → ℕ
next_of (Answer.text bytes next) = next
next_of (Answer.refusal e) = e

unfoldable pub chosen : Entries
chosen = (70, 6) ∷ (32, 1) ∷ (11, 8) ∷ (32, 0) ∷ (32, 0) ∷ []

pub counters_hold : map (λ n. next_of (within 128 512 8192 n chosen)) (0 ∷ 7 ∷ (2 ^ 32) ∷ (2 ^ 32 + 1) ∷ []) ≡ 2 ∷ 9 ∷ (2 ^ 32 + 2) ∷ 1 ∷ []
unfolding open_here chosen next_of
counters_hold = refl

-- ---- 4 and 20, alone and with another fault: `%q = add i8 %p, ..` of 1, or of %u (10), has 12 lines of 105 bytes with those around it
unfoldable pub added : ℕ × ℕ → Entries
added v = (40, 6) ∷ (11, 8) ∷ (30, 4) ∷ v ∷ []

unfoldable pub lent_for : (ℕ × ℕ) → (work lines bytes counter : ℕ) → ℕ
lent_for v work lines bytes counter = number_of (within work lines bytes counter (added v))

-- sound: just enough, and one short of each; then with an operand that is unknown
pub rooms_hold :
    lent_for (32, 1) 128 12 105 0 ∷ lent_for (32, 1) 127 12 105 0 ∷ lent_for (32, 1) 128 11 105 0 ∷ lent_for (32, 1) 128 12 104 0 ∷ lent_for (32, 1) 127 11 105 0
    ∷ lent_for (32, 1) 127 11 105 (2 ^ 32 + 1)
    ∷ lent_for (30, 7) 128 12 105 0 ∷ lent_for (30, 7) 127 12 105 0 ∷ lent_for (30, 7) 128 0 0 0 ∷ lent_for (30, 7) 127 0 0 0 ∷ lent_for (30, 7) 128 12 105 (2 ^ 32 + 1)
    ∷ []
    ≡ 0 ∷ 4 ∷ 20 ∷ 20 ∷ 4 ∷ 1 ∷ 10 ∷ 4 ∷ 10 ∷ 4 ∷ 1 ∷ []
unfolding open_here added lent_for
rooms_hold = refl
