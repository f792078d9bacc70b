-- The signed value of a number of w bits, and the number of w bits that stands for a signed value: two's complement.
use Rattle.std.specs.Prelude.{ℕ, suc, ◌-◌, ◌^◌, ◌%◌, ◌<◌, ◌≡◌, refl, Bool, true, false, cond, ltb, ℤ, pos, negsuc}
use Rattle.std.proofs.Common.{arith, pow_pos, ltb-true, ltb-false, lt-ltb}

-- by the width's power p and its half h: from half on a number stands for itself less p
unfoldable pub signed_at : (h p : ℕ) → ℕ → ℤ
signed_at h p x = cond (ltb x h) (pos x) (negsuc (p - suc x))

unfoldable pub unsigned_at : (p : ℕ) → ℤ → ℕ
unsigned_at p (pos n) = n % p
unsigned_at p (negsuc n) = p - suc (n % p)

abbrev pub signed : (w : ℕ) → ℕ → ℤ
signed w x = signed_at (2 ^ (w - 1)) (2 ^ w) x

abbrev pub unsigned : (w : ℕ) → ℤ → ℕ
unsigned w z = unsigned_at (2 ^ w) z

-- −2^(w − 1), and −1
abbrev pub least : (w : ℕ) → ℤ
least w = negsuc (2 ^ (w - 1) - 1)

abbrev pub minus_one : ℤ
minus_one = negsuc 0

unfoldable pub nonzero : ℤ → Bool
nonzero (pos n) = ltb 0 n
nonzero (negsuc n) = true

-- opens every definition of this file, for an example that computes
unfoldable pub open_signed : Unit {0}
unfolding signed_at unsigned_at nonzero
open_signed = tt

-- a signed value is 0 exactly where the number is
pub signed_nonzero : (w y : ℕ) → 0 < y → nonzero (signed w y) ≡ true
unfolding signed_at nonzero
signed_nonzero w y h = go (ltb y (2 ^ (w - 1)))
  where
    go : (b : Bool) → nonzero (cond b (pos y) (negsuc (2 ^ w - suc y))) ≡ true
    go true = lt-ltb 0 y h
    go false = refl

pub nonzero_signed : (w y : ℕ) → nonzero (signed w y) ≡ true → 0 < y
unfolding signed_at nonzero
nonzero_signed w y = go (ltb y (2 ^ (w - 1))) refl
  where
    go : (b : Bool) → ltb y (2 ^ (w - 1)) ≡ b → nonzero (cond b (pos y) (negsuc (2 ^ w - suc y))) ≡ true → 0 < y
    go true e h = ltb-true 0 y h
    go false e h = let k = ltb-false y (2 ^ (w - 1)) e in let p = pow_pos (w - 1) in omega arith
