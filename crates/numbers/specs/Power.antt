-- Powers of two, by the ones and the trailing zeros of a number. Assumes nothing.
use Rattle.std.specs.Prelude.{◌≡◌, ℕ, zero, suc, ◌*◌, ◌/◌, ◌%◌, ◌^◌, ◌<◌, refl}
use Rattle.std.proofs.Common.{ap, sym, ◌∙◌, ⊎_elim, add-zero, one-mul, pow-suc, arith, pow_pos, pow_mono}
use Rattle.std.proofs.Math.Arith.{bin_ind}
use Rattle.std.proofs.Math.Pow.{pow-lt}
use Rattle.std.specs.Int.Count.{ones, ones_step, count_trailing_zeros, under}
use Rattle.std.proofs.lemmas.Nat.{ones_cat}
use Rattle.numbers.specs.Tests.{lt_or_le}

-- a power of two has one digit that is set
pub ones_power : (k : ℕ) → ones (2 ^ k) ≡ 1
unfolding ones
ones_power k = sym (ap ones (add-zero (1 * 2 ^ k) ∙ one-mul (2 ^ k))) ∙ ones_cat k 1 0 (pow_pos k)

ones_none : (n : ℕ) → ones n ≡ 0 → n ≡ 0
ones_none =
    bin_ind (λ n. ones n ≡ 0 → n ≡ 0) (λ e. refl)
    (λ n ih e. let s = ones_step n in let q : n / 2 ≡ 0 = ih (omega arith) in omega arith)

-- and a number of k digits that has one is that power, with as many zeros below
pub power_ones : (k n : ℕ) → n < 2 ^ k → ones n ≡ 1 → n ≡ 2 ^ count_trailing_zeros k n
unfolding count_trailing_zeros ones
power_ones zero n h e = let z : n ≡ 0 = omega arith in absurd (let o : ◌≡◌ {A = ℕ} 0 1 = sym (ap ones z) ∙ e in omega arith)
power_ones (suc k) n h e = go (n % 2) refl (power_ones k (n / 2) (omega arith))
  where
    go : (r : ℕ) → n % 2 ≡ r → (ones (n / 2) ≡ 1 → n / 2 ≡ 2 ^ count_trailing_zeros k (n / 2)) → n ≡ 2 ^ under r (count_trailing_zeros k (n / 2))
    go zero d rest = let s = ones_step n in let q = rest (omega arith) in omega (arith, pow-suc 2 (count_trailing_zeros k (n / 2)))
    go (suc r) d rest = let s = ones_step n in let q = ones_none (n / 2) (omega arith) in omega arith

-- a power has one exponent
pub power_same : (i j : ℕ) → 2 ^ i ≡ 2 ^ j → i ≡ j
power_same i j e =
    ⊎_elim (λ h. absurd (omega (arith, pow-lt h))) (λ g. ⊎_elim (λ h. absurd (omega (arith, pow-lt h))) (λ h. omega arith) (lt_or_le j i)) (lt_or_le i j)

-- which is below k where the power has k digits
pub power_below_lem : (i k : ℕ) → 2 ^ i < 2 ^ k → i < k
power_below_lem i k h = ⊎_elim (λ g. g) (λ g. absurd (omega (arith, pow_mono g))) (lt_or_le i k)

pub trailing_power : (i k : ℕ) → i < k → count_trailing_zeros k (2 ^ i) ≡ i
trailing_power i k h = sym (power_same i (count_trailing_zeros k (2 ^ i)) (power_ones k (2 ^ i) (pow-lt h) (ones_power i)))
