-- Binary operations, comparisons and `select` at every width from 1 to 64, by the rows of `machine`, `Rows`: what is undefined or poison stops, and what stands beside it goes on.
use Rattle.std.specs.Prelude.{ℕ, ◌+◌, ◌-◌, ◌^◌, ◌≡◌, refl, Bool, cond, List, [], ◌∷◌, map}
use Rattle.std.proofs.Math.Option.{Option, none, some}
use Rattle.book.specs.Ast.{Ty, Value, ICmpPred, InstKind}
use Rattle.book.specs.Result.{Result, ok}
use Rattle.machine.specs.Sweep.{OnAll, down_from, open_sweep}
use Rattle.machine.specs.Rows.{Row, always, from_two, from_three, least_greatest, greatest_least, equals, open_rows}
use Rattle.manual.specs.Stop.{Stop, stops}
use Rattle.manual.specs.State.{Cell, Env, nothing, with}
use Rattle.manual.specs.Cases.{predicates}
use Rattle.manual.specs.Open.{open_manual}
use Rattle.manual.specs.Alone.{gives, open_alone}

-- %0 and %1 of w bits
unfoldable pub operands : (w x y : ℕ) → Env
operands w x y = with 0 (Cell.one w x) (with 1 (Cell.one w y) nothing)

unfoldable pub computed : (w : ℕ) → Row → Result (Option Cell)
computed w r = gives (operands w r.x r.y) (InstKind.bin r.op (Ty.int w) (Value.local 0) (Value.local 1))

unfoldable pub cell : (w : ℕ) → Option ℕ → Result (Option Cell)
cell w none = stops Stop.undefined
cell w (some v) = ok (some (Cell.one w v))

unfoldable pub said : (w : ℕ) → Row → Result (Option Cell)
said w r = cell w r.says

open_this : Unit {0}
unfolding open_manual open_sweep open_rows open_alone operands computed cell said
open_this = tt

pub every_width : OnAll (down_from 64) (λ (w : ℕ). map (computed w) (always w (2 ^ (w - 1)) (2 ^ w))) (λ (w : ℕ). map (said w) (always w (2 ^ (w - 1)) (2 ^ w)))
unfolding open_this
every_width = refl

-- widths from 2 on, and from 3 on
pub from_two_lem :
    OnAll (map (λ (n : ℕ). n + 1) (down_from 63)) (λ (w : ℕ). map (computed w) (from_two (2 ^ (w - 1)) (2 ^ w) (2 ^ (w - 2)))) (λ (w : ℕ). map (said w) (from_two (2 ^ (w - 1)) (2 ^ w) (2 ^ (w - 2))))
unfolding open_this
from_two_lem = refl

pub from_three_lem :
    OnAll (map (λ (n : ℕ). n + 2) (down_from 62)) (λ (w : ℕ). map (computed w) (from_three (2 ^ (w - 1)) (2 ^ w) (2 ^ (w - 2)))) (λ (w : ℕ). map (said w) (from_three (2 ^ (w - 1)) (2 ^ w) (2 ^ (w - 2))))
unfolding open_this
from_three_lem = refl

-- ---- "'icmp' Instruction": every predicate at every width, and on pointers
unfoldable pub compared : Ty → (w x y : ℕ) → List (Result (Option Cell))
compared t w x y = map (λ (p : ICmpPred). gives (operands w x y) (InstKind.icmp p t (Value.local 0) (Value.local 1))) predicates

unfoldable pub bits : List Bool → List (Result (Option Cell))
bits bs = map (λ (b : Bool). ok (some (Cell.one 1 (cond b 1 0)))) bs

pub comparisons_hold :
    (OnAll (down_from 64) (λ (w : ℕ). compared (Ty.int w) w (2 ^ (w - 1)) (2 ^ (w - 1) - 1)) (λ (w : ℕ). bits least_greatest))
    × (OnAll (down_from 64) (λ (w : ℕ). compared (Ty.int w) w (2 ^ (w - 1) - 1) (2 ^ (w - 1))) (λ (w : ℕ). bits greatest_least))
    × (OnAll (down_from 64) (λ (w : ℕ). compared (Ty.int w) w (2 ^ (w - 1)) (2 ^ (w - 1))) (λ (w : ℕ). bits equals))
    × (compared Ty.ptr 64 (2 ^ 63) (2 ^ 63 - 1) ≡ bits least_greatest)
unfolding open_this compared bits
comparisons_hold = (refl, refl, refl, refl)

-- ---- "'select' Instruction": 1 takes the first, 0 the second; the other need not be set
unfoldable pub selected : (w : ℕ) → (c : ℕ) → (a b : ℕ) → Result (Option Cell)
selected w c a b = gives (with 0 (Cell.one w 1) (with 2 (Cell.one 1 c) nothing)) (InstKind.select (Value.local 2) (Ty.int w) (Value.local a) (Value.local b))

pub selects_hold :
    OnAll (down_from 64) (λ (w : ℕ). selected w 1 0 3 ∷ selected w 0 3 0 ∷ selected w 1 3 0 ∷ selected w 0 0 3 ∷ [])
    (λ (w : ℕ). ok (some (Cell.one w 1)) ∷ ok (some (Cell.one w 1)) ∷ stops Stop.unset ∷ stops Stop.unset ∷ [])
unfolding open_this selected
selects_hold = refl
