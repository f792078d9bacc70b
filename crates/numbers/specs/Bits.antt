-- A map of bits in words of 64: a number's bit stands in the word that its quotient by 64 names. Assumes nothing.
use Rattle.std.specs.Prelude.{◌≡◌, ℕ, zero, suc, ◌+◌, ◌-◌, ◌*◌, ◌/◌, ◌%◌, ◌^◌, ◌<◌, ◌≤◌, Bool, true, false, ◌≢◌, ◌⊎◌, List, length, replicate, ◌==◌, bit_and, bit_or, slice_index, slice_index_or, slice_set, refl}
use Rattle.std.proofs.Common.{ap, sym, ◌∙◌, inl, inr, ⊎_elim, one-mul, pow-suc, arith, length-set, get_or-set_same, get_or-set_other, pow_pos, pow-add}
use Rattle.std.proofs.Math.Nat.{zero-div, div_self, div-eq_of_lt, mul-mod_left}
use Rattle.std.proofs.lemmas.List.{get_or-replicate, length-replicate}
use Rattle.std.proofs.Math.ListN.{get_or-eq_default}
use Rattle.std.proofs.Math.Seq.{set_out}
use Rattle.std.proofs.Math.Pow.{pow-lt, high_ones}
use Rattle.std.proofs.lemmas.Nat.{shl-shr, or_shr, or_mod, or_lt}
use Rattle.std.specs.Int.Bits.{or_add_and, or_zero_r}
use Rattle.std.proofs.lemmas.Nat.Bits.{and_high}
use Rattle.numbers.specs.Tests.{lt_or_le, eq_or_ne}

-- the digit of n at the place k, 0 or 1
unfoldable pub digit_at : ℕ → ℕ → ℕ
digit_at n k = n / 2 ^ k % 2

-- n with the digit at the place k set
unfoldable pub with_digit : ℕ → ℕ → ℕ
with_digit n k = n + (1 - digit_at n k) * 2 ^ k

-- whether the bit i of a map is set
unfoldable pub bit_at : List ℕ → ℕ → Bool
bit_at m i = digit_at (slice_index m (i / 64)) (i % 64) == 1

-- the map with the bit i set
unfoldable pub set_bit_at : List ℕ → ℕ → List ℕ
set_bit_at m i = slice_set m (i / 64) (with_digit (slice_index m (i / 64)) (i % 64))

-- ---- a digit of a number

digit_lt : (n k : ℕ) → digit_at n k < 2
unfolding digit_at
digit_lt n k = omega arith

-- to set a digit is a bitwise or with a power of two
pub with_or : (n k : ℕ) → bit_or n (2 ^ k) ≡ with_digit n k
unfolding with_digit digit_at
with_or n k =
    let one : 2 ^ (1 + k) - 2 ^ k ≡ 2 ^ k = high_ones 1 k ∙ one-mul (2 ^ k) in
    let both : bit_and n (2 ^ k) ≡ n / 2 ^ k % 2 * 2 ^ k = rw one at (and_high n 1 k) in
    go (n / 2 ^ k % 2) (omega arith) (or_add_and n (2 ^ k)) both
  where
    go : (d : ℕ) → d < 2 → bit_or n (2 ^ k) + bit_and n (2 ^ k) ≡ n + 2 ^ k → bit_and n (2 ^ k) ≡ d * 2 ^ k → bit_or n (2 ^ k) ≡ n + (1 - d) * 2 ^ k
    go zero h s e = omega arith
    go (suc zero) h s e = omega arith
    go (suc (suc d)) h s e = absurd (omega arith)

-- a power of two has its digit alone
power_low : (j d : ℕ) → digit_at (2 ^ (suc d + j)) j ≡ 0
unfolding digit_at
power_low j d = rw (pow-add 2 (suc d) j, shl-shr (2 ^ suc d) j, pow-suc 2 d) (mul-mod_left (2 ^ d) 2)

power_high : (j k : ℕ) → k < j → digit_at (2 ^ k) j ≡ 0
unfolding digit_at
power_high j k h = rw (div-eq_of_lt (pow-lt h))

power_digit : (j k : ℕ) → j ≢ k → digit_at (2 ^ k) j ≡ 0
power_digit j k ne =
    ⊎_elim (λ h. let e : k ≡ suc (k - suc j) + j = omega arith in rw e (power_low j (k - suc j)))
    (λ h. power_high j k (omega arith))
    (lt_or_le j k)

digit_or : (a b j : ℕ) → digit_at (bit_or a b) j ≡ bit_or (digit_at a j) (digit_at b j)
unfolding digit_at
digit_or a b j = ap (λ (x : ℕ). x % 2) (or_shr a b j) ∙ or_mod (a / 2 ^ j) (b / 2 ^ j) 1

or_one : (d : ℕ) → d < 2 → bit_or d 1 ≡ 1
or_one zero h = refl
or_one (suc zero) h = refl
or_one (suc (suc d)) h = absurd (omega arith)

pub with_same : (n k : ℕ) → digit_at (with_digit n k) k ≡ 1
unfolding digit_at
with_same n k = rw (← with_or n k) (digit_or n (2 ^ k) k ∙ rw (div_self (pow_pos k)) (or_one (digit_at n k) (digit_lt n k)))

pub with_other : (n j k : ℕ) → j ≢ k → digit_at (with_digit n k) j ≡ digit_at n j
with_other n j k ne = rw (← with_or n k) (digit_or n (2 ^ k) j ∙ rw (power_digit j k ne) (or_zero_r (digit_at n j)))

pub with_lt : (w n k : ℕ) → n < 2 ^ w → k < w → with_digit n k < 2 ^ w
with_lt w n k f h = rw (← with_or n k) (or_lt w n (2 ^ k) f (pow-lt h))

-- ---- a bit of a map

-- what holds of the value stored and of the old one holds after the store
set_either : (P : ℕ → Type 0) (l : List ℕ) (i k a : ℕ) → (k ≡ i → P a) → P (slice_index l k) → P (slice_index (slice_set l i a) k)
set_either P l i k a new old =
    ⊎_elim (λ (e : k ≡ i). ⊎_elim (λ h. rw (e, get_or-set_same l i a 0 h) (new e)) (λ h. rw (set_out l i a h) old) (lt_or_le i (length l)))
    (λ (ne : k ≢ i). rw (get_or-set_other l i k a 0 ne) old)
    (eq_or_ne k i)

pub length_set_bit : (m : List ℕ) (i : ℕ) → length (set_bit_at m i) ≡ length m
unfolding set_bit_at
length_set_bit m i = length-set m (i / 64) (with_digit (slice_index m (i / 64)) (i % 64))

pub bit_set_same : (m : List ℕ) (i : ℕ) → i / 64 < length m → bit_at (set_bit_at m i) i ≡ true
unfolding bit_at set_bit_at
bit_set_same m i h = rw (get_or-set_same m (i / 64) (with_digit (slice_index m (i / 64)) (i % 64)) 0 h, with_same (slice_index m (i / 64)) (i % 64))

pub bit_set_other : (m : List ℕ) (i j : ℕ) → j ≢ i → bit_at (set_bit_at m i) j ≡ bit_at m j
unfolding bit_at set_bit_at
bit_set_other m i j ne =
    let n = slice_index_or m (i / 64) 0 in
    set_either (λ x. (digit_at x (j % 64) == 1) ≡ (digit_at (slice_index m (j / 64)) (j % 64) == 1)) m (i / 64) (j / 64) (with_digit n (i % 64))
    (λ e. rw (with_other n (j % 64) (i % 64) (λ d. ne (omega arith)), e)) refl

-- the bits that are set afterwards are those that were, and i
pub bit_set_found : (m : List ℕ) (i j : ℕ) → bit_at (set_bit_at m i) j ≡ true → (j ≡ i) ⊎ (bit_at m j ≡ true)
bit_set_found m i j e = ⊎_elim inl (λ ne. inr (sym (bit_set_other m i j ne) ∙ e)) (eq_or_ne j i)

pub bit_set_keeps : (m : List ℕ) (i j : ℕ) → i / 64 < length m → bit_at m j ≡ true → bit_at (set_bit_at m i) j ≡ true
bit_set_keeps m i j h e = ⊎_elim (λ (s : j ≡ i). rw s (bit_set_same m i h)) (λ ne. bit_set_other m i j ne ∙ e) (eq_or_ne j i)

-- the words of the map stay words
pub set_bit_words : (m : List ℕ) (i : ℕ) → ((k : ℕ) → slice_index m k < 2 ^ 64) → (k : ℕ) → slice_index (set_bit_at m i) k < 2 ^ 64
unfolding set_bit_at
set_bit_words m i f k =
    let n = slice_index_or m (i / 64) 0 in
    set_either (λ x. x < 2 ^ 64) m (i / 64) k (with_digit n (i % 64)) (λ e. with_lt 64 n (i % 64) (f (i / 64)) (omega arith)) (f k)

zeros : (n k : ℕ) → slice_index_or {A = ℕ} (replicate n 0) k 0 ≡ 0
zeros n k =
    ⊎_elim (λ h. get_or-replicate n k 0 0 h) (λ h. get_or-eq_default (replicate n 0) 0 (rw (length-replicate {A = ℕ} n 0) h)) (lt_or_le k n)

-- a map of zeros has no bit set
pub bit_none : (n i : ℕ) → bit_at (replicate n 0) i ≡ false
unfolding bit_at digit_at
bit_none n i = rw (zeros n (i / 64), zero-div (2 ^ (i % 64)))

-- and past its end no map has
pub bit_past : (m : List ℕ) (i : ℕ) → length m ≤ i / 64 → bit_at m i ≡ false
unfolding bit_at digit_at
bit_past m i h = rw (get_or-eq_default m 0 h, zero-div (2 ^ (i % 64)))
