-- Alignments, and rounding up to one. Assumes nothing.
use Rattle.std.specs.Prelude.{◌≡◌, ℕ, zero, suc, ◌+◌, ◌-◌, ◌*◌, ◌/◌, ◌%◌, ◌^◌, ◌<◌, ◌≤◌, max, Bool, true, false, ◌||◌, ◌==◌, refl}
use Rattle.std.proofs.Common.{ap, sym, ◌∙◌, ⊎_elim, add-zero, mul-one, mul-le-mul_right, div-one, div-lt_iff_lt-mul, le_antisymm, mod-lt, arith, pow_pos, pow_mono, eqb-true, eq-eqb}
use Rattle.std.proofs.Math.Bool.{or-true}
use Rattle.std.proofs.lemmas.Bool.{false≢true}
use Rattle.std.proofs.Math.Nat.{mul-mod_left, div-add-mod', max-eq_left, max-eq_right}
use Rattle.std.specs.Int.Count.{count_trailing_zeros}
use Rattle.numbers.specs.Tests.{or_cases, lt_or_le}
use Rattle.numbers.specs.Power.{trailing_power}
use Rattle.numbers.specs.Width.{int_bytes, width_ok, width_each}

-- off rounded up to a multiple of a; an align of 0 counts as 1
unfoldable pub align_up : ℕ → ℕ → ℕ
align_up off a = (off + (a - 1)) / max a 1 * max a 1

-- a is a power of two with an exponent below k
unfoldable pub power_below : ℕ → ℕ → Bool
power_below zero a = false
power_below (suc k) a = a == 2 ^ k || power_below k a

-- a is a power of two up to 4,096
unfoldable pub is_align : ℕ → Bool
is_align a = power_below 13 a

-- the trailing zeros of a as a word
abbrev pub exponent_of : ℕ → ℕ
exponent_of a = count_trailing_zeros 64 a

-- ---- rounding up

pub align_small : (off a : ℕ) → a ≤ 1 → align_up off a ≡ off
unfolding align_up
align_small off a h =
    let e : a - 1 ≡ 0 = omega arith in
    rw (max-eq_right h, e, add-zero off, div-one off) (mul-one off)

-- what rounding adds is less than a
module _ (off a : ℕ) where
  whole : align_up off a + (off + (a - 1)) % max a 1 ≡ off + (a - 1)
  unfolding align_up
  whole = div-add-mod' (off + (a - 1)) (max a 1)

  pub align_le : off ≤ align_up off a
  align_le = let p : 1 ≤ max a 1 = omega arith in omega (arith, whole, mod-lt (off + (a - 1)) p)

  pub align_most : align_up off a ≤ off + (a - 1)
  align_most = omega (arith, whole)

module _ (off a : ℕ) (h : 1 ≤ a) where
  pub align_step : align_up off a ≡ (off + (a - 1)) / a * a
  unfolding align_up
  align_step = rw (max-eq_left h)

  pub align_divides : align_up off a % a ≡ 0
  align_divides = rw align_step (mul-mod_left ((off + (a - 1)) / a) a)

  -- no smaller multiple is as large as off
  pub align_least : (q : ℕ) → off ≤ q * a → align_up off a ≤ q * a
  align_least q f =
      let g : off + (a - 1) < suc q * a = omega arith in
      let d : (off + (a - 1)) / a < suc q = (div-lt_iff_lt-mul h).1 g in
      rw align_step (mul-le-mul_right a (omega arith))

pub align_same : (off a : ℕ) → 1 ≤ a → off % a ≡ 0 → align_up off a ≡ off
align_same off a h e =
    let d : off / a * a ≡ off = let t = div-add-mod' off a in omega arith in
    le_antisymm (rw d at (align_least off a h (off / a) (omega arith))) (align_le off a)

pub align_twice : (off a : ℕ) → 1 ≤ a → align_up (align_up off a) a ≡ align_up off a
align_twice off a h = align_same (align_up off a) a h (align_divides off a h)

-- ---- the alignments that may be stated

power_found : (k a : ℕ) → power_below k a ≡ true → (i : ℕ) × (i < k) × (a ≡ 2 ^ i)
unfolding power_below
power_found zero a e = absurd (false≢true e)
power_found (suc k) a e =
    ⊎_elim (λ f. (k, omega arith, eqb-true a (2 ^ k) f))
    (λ f. let r = power_found k a f in (r.0, omega (arith, r.1), r.2))
    (or_cases (a == 2 ^ k) (power_below k a) e)

power_there : (k i : ℕ) → i < k → power_below k (2 ^ i) ≡ true
unfolding power_below
power_there zero i h = absurd (omega arith)
power_there (suc k) i h =
    ⊎_elim (λ g. rw (power_there k i g) (or-true (2 ^ i == 2 ^ k)))
    (λ g. let e : i ≡ k = omega arith in rw (eq-eqb (2 ^ i) (2 ^ k) (ap (λ (j : ℕ). 2 ^ j) e)))
    (lt_or_le i k)

-- such an align is a power of two with an exponent up to 12, and so is no other number
pub align_power : (a : ℕ) → is_align a ≡ true → (k : ℕ) × (k ≤ 12) × (a ≡ 2 ^ k)
unfolding is_align
align_power a e = let r = power_found 13 a e in (r.0, omega (arith, r.1), r.2)

pub power_align : (k : ℕ) → k ≤ 12 → is_align (2 ^ k) ≡ true
unfolding is_align
power_align k h = power_there 13 k (omega arith)

pub align_bounds : (a : ℕ) → is_align a ≡ true → (1 ≤ a) × (a ≤ 4096)
align_bounds a e = let r = align_power a e in omega (arith, r.2, pow_pos r.0, pow_mono r.1)

-- and its trailing zeros are that exponent
pub exponent_power : (k : ℕ) → k < 64 → exponent_of (2 ^ k) ≡ k
exponent_power k h = trailing_power k 64 h

pub align_exponent : (a : ℕ) → is_align a ≡ true → (exponent_of a ≤ 12) × (a ≡ 2 ^ exponent_of a)
align_exponent a e =
    let r = align_power a e in
    let same : exponent_of a ≡ r.0 = ap exponent_of r.2 ∙ exponent_power r.0 (omega (arith, r.1)) in
    (omega (arith, r.1), r.2 ∙ ap (λ (k : ℕ). 2 ^ k) (sym same))

-- ---- the sizes of integers

-- the bytes of a width that a book may have are an align
pub bytes_align : (w : ℕ) → width_ok w ≡ true → is_align (int_bytes w) ≡ true
unfolding is_align power_below
bytes_align = width_each (λ w. is_align (int_bytes w) ≡ true) refl refl refl refl refl
