-- The machine's operations at 32 and 64 bits, as lines: "A zero divisor, an overflowing signed division or remainder, a shift by the width or more .. fails";
-- "u32 and i32 ones take low halves and leave results below 2^32".
use Rattle.std.specs.Prelude.{ℕ, ◌+◌, ◌-◌, ◌*◌, ◌^◌, ◌≡◌, refl, Bool, true, false, cond, List, [], ◌∷◌, map, ltb}
use Rattle.std.proofs.Math.Option.{Option, none, some}
use Rattle.assembly.specs.Line.{Line, Work, Narrow}
use Rattle.assembly.specs.Number.{preds, operations}
use Rattle.machine.specs.Open.{open_machine}
use Rattle.machine.specs.Sweep.{OnAll, pairs, open_sweep}
use Rattle.machine.specs.Alone.{alone, left, open_alone}
use Rattle.machine.specs.Rows.{Row, rows_at, least_greatest, greatest_least, equals, open_rows}

-- what a line leaves of two cells, a pushed before b; of one
unfoldable pub of_two : Line → (a b : ℕ) → Option (List ℕ)
unfolding alone left
of_two l a b = left (alone l (b ∷ a ∷ []))

unfoldable pub of_one : Line → ℕ → Option (List ℕ)
unfolding alone left
of_one l a = left (alone l (a ∷ []))

unfoldable pub one : Option ℕ → Option (List ℕ)
one none = none
one (some v) = some (v ∷ [])

-- ---- both widths
pub words_32 : OnAll (rows_at 32) (λ (r : Row). of_two (Line.bin r.op Work.w32) r.x r.y) (λ (r : Row). one r.says)
unfolding open_machine open_alone open_rows of_two one
words_32 = refl

pub words_64 : OnAll (rows_at 64) (λ (r : Row). of_two (Line.bin r.op Work.w64) r.x r.y) (λ (r : Row). one r.says)
unfolding open_machine open_alone open_rows of_two one
words_64 = refl

unfoldable pub tests : Work → (a b : ℕ) → List (Option (List ℕ))
tests w a b = map (λ p. of_two (Line.icmp p w) a b) preds

unfoldable pub flags : List Bool → List (Option (List ℕ))
flags bs = map (λ (b : Bool). some (cond b 1 0 ∷ [])) bs

pub tests_hold :
    (tests Work.w32 (2 ^ 31) (2 ^ 31 - 1) ≡ flags least_greatest) × (tests Work.w32 (2 ^ 31 - 1) (2 ^ 31) ≡ flags greatest_least) × (tests Work.w32 (2 ^ 31) (2 ^ 31) ≡ flags equals)
    × (tests Work.w64 (2 ^ 63) (2 ^ 63 - 1) ≡ flags least_greatest) × (tests Work.w64 (2 ^ 63 - 1) (2 ^ 63) ≡ flags greatest_least) × (tests Work.w64 (2 ^ 63) (2 ^ 63) ≡ flags equals)
unfolding open_machine open_alone open_rows of_two tests flags
tests_hold = (refl, refl, refl, refl, refl, refl)

-- ---- each of the 23 at 32 bits: what stands in the high halves does not count, and the result is below 2^32
unfoldable pub halves : List (ℕ × ℕ)
halves = (0, 1) ∷ (1, 0) ∷ (7, 3) ∷ (2 ^ 31, 2 ^ 32 - 1) ∷ (2 ^ 32 - 1, 2 ^ 31) ∷ (2 ^ 32 - 1, 31) ∷ (2 ^ 31, 32) ∷ (2 ^ 32 - 5, 2) ∷ []

pub low_halves :
    OnAll (pairs (operations Work.w32) halves)
    (λ (t : Line × (ℕ × ℕ)). of_two t.0 (t.1.0 + 5 * 2 ^ 32) (t.1.1 + (2 ^ 32 - 1) * 2 ^ 32))
    (λ (t : Line × (ℕ × ℕ)). of_two t.0 t.1.0 t.1.1)
unfolding open_machine open_alone open_sweep of_two halves
low_halves = refl

-- a failure leaves no result, so none that is too large
unfoldable pub under : ℕ → Option (List ℕ) → Bool
under m none = true
under m (some []) = false
under m (some (x ∷ xs)) = ltb x m

pub results_below :
    OnAll (pairs (operations Work.w32) halves) (λ (t : Line × (ℕ × ℕ)). under (2 ^ 32) (of_two t.0 (t.1.0 + 5 * 2 ^ 32) (t.1.1 + 2 ^ 63))) (λ (t : Line × (ℕ × ℕ)). true)
unfolding open_machine open_alone open_sweep of_two halves under
results_below = refl

-- ---- widths: of n bits, the most that is positive, the least that is negative, all bits, one bit more, all bits of a cell
unfoldable pub telling : (n : ℕ) → List ℕ
telling n = 0 ∷ (2 ^ (n - 1) - 1) ∷ 2 ^ (n - 1) ∷ (2 ^ n - 1) ∷ 2 ^ n ∷ (2 ^ 64 - 1) ∷ []

unfoldable pub cut : (n : ℕ) → List (Option (List ℕ))
unfolding one
cut n = map (λ (v : ℕ). one (some v)) (0 ∷ (2 ^ (n - 1) - 1) ∷ 2 ^ (n - 1) ∷ (2 ^ n - 1) ∷ 0 ∷ (2 ^ n - 1) ∷ [])

unfoldable pub signed_to : (n w : ℕ) → List (Option (List ℕ))
unfolding one
signed_to n w = map (λ (v : ℕ). one (some v)) (0 ∷ (2 ^ (n - 1) - 1) ∷ (2 ^ w - 2 ^ (n - 1)) ∷ (2 ^ w - 1) ∷ 0 ∷ (2 ^ w - 1) ∷ [])

pub widths_hold :
    (map (of_one (Line.trunc Narrow.n8)) (telling 8) ≡ cut 8) × (map (of_one (Line.trunc Narrow.n16)) (telling 16) ≡ cut 16) × (map (of_one (Line.trunc Narrow.n32)) (telling 32) ≡ cut 32)
    × (map (of_one (Line.sx8 Work.w32)) (telling 8) ≡ signed_to 8 32) × (map (of_one (Line.sx16 Work.w32)) (telling 16) ≡ signed_to 16 32)
    × (map (of_one (Line.sx8 Work.w64)) (telling 8) ≡ signed_to 8 64) × (map (of_one (Line.sx16 Work.w64)) (telling 16) ≡ signed_to 16 64) × (map (of_one Line.sx32) (telling 32) ≡ signed_to 32 64)
unfolding open_machine open_alone of_one telling cut signed_to
widths_hold = (refl, refl, refl, refl, refl, refl, refl, refl)
