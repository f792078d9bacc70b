-- A signed division overflows in one case: the least number by −1. In every other the quotient is a signed number of the width.
use Rattle.std.specs.Prelude.{ℕ, zero, suc, ◌+◌, ◌-◌, ◌/◌, ◌^◌, ◌<◌, ◌≤◌, ◌≡◌, refl, Bool, true, false, cond, ltb, ℤ, pos, negsuc, neg_ℤ}
use Rattle.std.proofs.Common.{ap, arith, div-le_self, div-one, pow_pos, ltb-true, ltb-false}
use Rattle.std.proofs.Math.Nat.{div-lt_self, two-pow-succ}
use Rattle.std.specs.Int.Signed.{quot_z, mag}
use Rattle.machine.specs.Signed.{signed_at, signed, least, minus_one}

half_le : (w : ℕ) → 2 ^ w ≤ 2 ^ (w - 1) + 2 ^ (w - 1)
half_le zero = omega arith
half_le (suc v) = let e : suc v - 1 ≡ v = omega arith in rw (e, two-pow-succ v) (omega arith)

signed_mag : (w x : ℕ) → mag (signed w x) < 2 ^ (w - 1)
unfolding signed_at
signed_mag w x = go (ltb x (2 ^ (w - 1))) refl
  where
    go : (b : Bool) → ltb x (2 ^ (w - 1)) ≡ b → mag (cond b (pos x) (negsuc (2 ^ w - suc x))) < 2 ^ (w - 1)
    go true e = ltb-true x (2 ^ (w - 1)) e
    go false e = let k = ltb-false x (2 ^ (w - 1)) e in let p = pow_pos (w - 1) in let l = half_le w in omega arith

mag_neg : (r h : ℕ) → r ≤ h → 0 < h → mag (neg_ℤ (pos r)) < h
mag_neg zero h l k = k
mag_neg (suc r) h l k = omega arith

module _ (h : ℕ) where
  quotient_fits : (a b : ℤ) → mag a < h → ¬ ((a ≡ negsuc (h - 1)) × (b ≡ negsuc 0)) → mag (quot_z a b) < h
  quotient_fits (pos n) (pos d) k o = let l = div-le_self n d in omega arith
  quotient_fits (pos n) (negsuc d) k o = let l = div-le_self n (suc d) in mag_neg (n / suc d) h (omega arith) (omega arith)
  quotient_fits (negsuc n) (pos d) k o = let l = div-le_self (suc n) d in mag_neg (suc n / d) h (omega arith) (omega arith)
  quotient_fits (negsuc n) (negsuc zero) k o = rw (div-one (suc n)) (other (λ e. o (ap negsuc e, refl)))
    where
      other : ¬ (n ≡ h - 1) → suc n < h
      other e = omega arith
  quotient_fits (negsuc n) (negsuc (suc d)) k o = let l : suc n / suc (suc d) < suc n = div-lt_self (omega arith) (omega arith) in omega arith

  fits_quotient : (a b : ℤ) → 0 < h → mag (quot_z a b) < h → ¬ ((a ≡ negsuc (h - 1)) × (b ≡ negsuc 0))
  fits_quotient a b p k (e, f) =
      let z : mag (quot_z (negsuc (h - 1)) (negsuc 0)) < h = rw (e, f) at k in
      let l : suc (h - 1) / 1 ≡ suc (h - 1) = div-one (suc (h - 1)) in
      absurd (omega arith)

-- the quotient is a signed number of w bits
pub no_overflow : (w a b : ℕ) → ¬ ((signed w a ≡ least w) × (signed w b ≡ minus_one)) → mag (quot_z (signed w a) (signed w b)) < 2 ^ (w - 1)
no_overflow w a b o = quotient_fits (2 ^ (w - 1)) (signed w a) (signed w b) (signed_mag w a) o

pub overflow_no : (w a b : ℕ) → mag (quot_z (signed w a) (signed w b)) < 2 ^ (w - 1) → ¬ ((signed w a ≡ least w) × (signed w b ≡ minus_one))
overflow_no w a b k = fits_quotient (2 ^ (w - 1)) (signed w a) (signed w b) (pow_pos (w - 1)) k
