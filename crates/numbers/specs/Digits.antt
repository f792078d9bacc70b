-- A number's decimal digits, as bytes of text. Assumes nothing.
use Rattle.std.specs.Prelude.{◌≡◌, ℕ, zero, suc, ◌+◌, ◌-◌, ◌*◌, ◌/◌, ◌%◌, ◌^◌, ◌<◌, ◌≤◌, cond, List, [], ◌∷◌, ◌++◌, length, nat_lt, slice_index, slice_set, refl}
use Rattle.std.proofs.Common.{ap, sym, ◌∙◌, ⊎_elim, lt_of_lt_of_le, arith, lit≤, pow-suc, length-append, set-set, lt-ltb, le-ltb}
use Rattle.std.proofs.Math.ListN.{get_or-append}
use Rattle.std.proofs.lemmas.List.Edits.{sets}
use Rattle.std.proofs.Math.Seq.{get_or-append_seam}
use Rattle.numbers.specs.Tests.{lt_or_le}

-- the byte of a digit
abbrev pub digit : ℕ → List ℕ
digit d = (48 + d) ∷ []

-- a byte of text that is one
abbrev pub IsDigit : ℕ → Type 0
IsDigit b = (48 ≤ b) × (b ≤ 57)

-- the last f decimal digits of n, with no zero in front
unfoldable pub last_digits : ℕ → ℕ → List ℕ
last_digits zero n = []
last_digits (suc f) n = let more = last_digits f (n / 10) ++ digit (n % 10) in cond (nat_lt n 10) (digit n) more

-- all of them: n has no more than n + 1
unfoldable pub decimal : ℕ → List ℕ
decimal n = last_digits (suc n) n

-- the number that digits stand for, after those that stand for a
unfoldable pub value_from : ℕ → List ℕ → ℕ
value_from a [] = a
value_from a (b ∷ bs) = value_from (a * 10 + (b - 48)) bs

-- ---- the two rules

enough : (f g n : ℕ) → n < f → n < g → last_digits f n ≡ last_digits g n
unfolding last_digits
enough zero g n h k = absurd (omega arith)
enough (suc f) zero n h k = absurd (omega arith)
enough (suc f) (suc g) n h k =
    ⊎_elim (λ d. rw (lt-ltb n 10 d)) (λ d. rw (enough f g (n / 10) (omega arith) (omega arith))) (lt_or_le n 10)

-- a number below ten is its digit
pub decimal_small : (n : ℕ) → n < 10 → decimal n ≡ digit n
unfolding decimal last_digits
decimal_small n h = rw (lt-ltb n 10 h)

-- any other is that of its tenth, and its last digit
pub decimal_more : (n : ℕ) → 10 ≤ n → decimal n ≡ decimal (n / 10) ++ digit (n % 10)
unfolding decimal last_digits
decimal_more n h = rw (le-ltb n 10 h) (ap (λ (l : List ℕ). l ++ digit (n % 10)) (enough n (suc (n / 10)) (n / 10) (omega arith) (omega arith)))

-- so what holds by these two rules holds of every number
pub decimal_ind : (P : ℕ → Type 0) → ((n : ℕ) → n < 10 → P n) → ((n : ℕ) → 10 ≤ n → P (n / 10) → P n) → (n : ℕ) → P n
decimal_ind P small more n = go (suc n) n (omega arith)
  where
    go : (f n : ℕ) → n < f → P n
    go zero n h = absurd (omega arith)
    go (suc f) n h = ⊎_elim (small n) (λ d. more n d (go f (n / 10) (omega arith))) (lt_or_le n 10)

-- ---- how many

pub length_small : (n : ℕ) → n < 10 → length (decimal n) ≡ 1
length_small n h = rw (decimal_small n h)

pub length_more : (n : ℕ) → 10 ≤ n → length (decimal n) ≡ length (decimal (n / 10)) + 1
length_more n h = rw (decimal_more n h) (length-append (decimal (n / 10)) (digit (n % 10)))

pub length_pos : (n : ℕ) → 1 ≤ length (decimal n)
length_pos n = ⊎_elim (λ h. omega (arith, length_small n h)) (λ h. omega (arith, length_more n h)) (lt_or_le n 10)

pub length_le : (k n : ℕ) → n < 10 ^ suc k → length (decimal n) ≤ suc k
length_le zero n h = omega (arith, length_small n h)
length_le (suc k) n h =
    ⊎_elim (λ d. omega (arith, length_small n d)) (λ d. omega (arith, length_more n d, length_le k (n / 10) (omega arith))) (lt_or_le n 10)

ten_pos : (k : ℕ) → 1 ≤ 10 ^ k
ten_pos zero = omega arith
ten_pos (suc k) = omega (arith, pow-suc 10 k, ten_pos k)

pub length_ge : (k n : ℕ) → 10 ^ k ≤ n → suc k ≤ length (decimal n)
length_ge zero n h = omega (arith, length_pos n)
length_ge (suc k) n h =
    let t : 10 ≤ n = omega (arith, pow-suc 10 k, ten_pos k) in
    omega (arith, length_more n t, length_ge k (n / 10) (omega (arith, pow-suc 10 k)))

-- so as many as the powers of ten that n lies between say
pub length_between : (k n : ℕ) → 10 ^ k ≤ n → n < 10 * 10 ^ k → length (decimal n) ≡ suc k
length_between k n h g = omega (arith, length_ge k n h, length_le k n (omega (arith, pow-suc 10 k)))

-- of two, three and four digits
pub length_two : (n : ℕ) → 10 ≤ n → n < 100 → length (decimal n) ≡ 2
length_two n h k = omega (arith, length_more n h, length_small (n / 10) (omega arith))

pub length_three : (n : ℕ) → 100 ≤ n → n < 1000 → length (decimal n) ≡ 3
length_three n h k = omega (arith, length_more n (omega arith), length_two (n / 10) (omega arith) (omega arith))

pub length_four : (n : ℕ) → 1000 ≤ n → n < 10000 → length (decimal n) ≡ 4
length_four n h k = omega (arith, length_more n (omega arith), length_three (n / 10) (omega arith) (omega arith))

-- and four at once
pub length_more_four : (n : ℕ) → 10000 ≤ n → length (decimal n) ≡ length (decimal (n / 10000)) + 4
length_more_four n h =
    let a = length_more n (omega arith) in
    let b = length_more (n / 10) (omega arith) in
    let c = length_more (n / 10 / 10) (omega arith) in
    let d = length_more (n / 10 / 10 / 10) (omega arith) in
    let e : n / 10 / 10 / 10 / 10 ≡ n / 10000 = omega arith in
    rw (← e) (omega (arith, a, b, c, d))

-- a number of two digits
pub decimal_two : (n : ℕ) → 10 ≤ n → n < 100 → decimal n ≡ (48 + n / 10) ∷ (48 + n % 10) ∷ []
decimal_two n h k = rw (decimal_more n h, decimal_small (n / 10) (omega arith))

-- a number below 100: two digits are stored, the last one at a place of its own or over the first
module _ (n at k : ℕ) (t : List ℕ) where
  pub short_one : n < 10 → k ≡ 0 → (at + k + 1 ≡ at + length (decimal n)) × (slice_set (slice_set t at (48 + n / 10)) (at + k) (48 + n % 10) ≡ sets t at (decimal n))
  short_one h e =
      let here : at + k ≡ at = omega arith in
      let same : 48 + n % 10 ≡ 48 + n = omega arith in
      (omega (arith, length_small n h), rw (here, set-set t at (48 + n / 10) (48 + n % 10), same, decimal_small n h))

  pub short_two : 10 ≤ n → n < 100 → k ≡ 1 → (at + k + 1 ≡ at + length (decimal n)) × (slice_set (slice_set t at (48 + n / 10)) (at + k) (48 + n % 10) ≡ sets t at (decimal n))
  short_two h g e =
      let next : at + k ≡ suc at = omega arith in
      (omega (arith, length_two n h g), rw (next, decimal_two n h g))

-- a word has no more than 20 digits
pub length_word : (n : ℕ) → n < 2 ^ 64 → length (decimal n) ≤ 20
length_word n h = length_le 19 n (lt_of_lt_of_le h (lit≤ tt))

-- ---- which

-- a byte of a digit at the end of others is one of those, or its own
last_byte : (P : ℕ → Type 0) (l : List ℕ) (d i : ℕ) → (i < length l → P (slice_index l i)) → P (48 + d) → i < length (l ++ digit d) → P (slice_index (l ++ digit d) i)
last_byte P l d i front own h =
    ⊎_elim (λ g. rw (get_or-append l (digit d) 0 i g) (front g))
    (λ g. let e : i ≡ length l = omega (arith, length-append l (digit d)) in rw (e, get_or-append_seam l (48 + d) [] 0) own)
    (lt_or_le i (length l))

pub decimal_bytes : (n i : ℕ) → i < length (decimal n) → IsDigit (slice_index (decimal n) i)
decimal_bytes =
    decimal_ind (λ n. (i : ℕ) → i < length (decimal n) → IsDigit (slice_index (decimal n) i))
    (λ n h. rw (decimal_small n h) (λ i. last_byte IsDigit [] n i (λ g. absurd (omega arith)) (omega arith)))
    (λ n h ih. rw (decimal_more n h) (λ i. last_byte IsDigit (decimal (n / 10)) (n % 10) i (ih i) (omega arith)))

-- the first digit is no zero, but of 0 itself
pub decimal_first : (n : ℕ) → 1 ≤ n → 49 ≤ slice_index (decimal n) 0
decimal_first =
    decimal_ind (λ n. 1 ≤ n → 49 ≤ slice_index (decimal n) 0)
    (λ n h p. rw (decimal_small n h) (omega arith))
    (λ n h ih p. rw (decimal_more n h, get_or-append (decimal (n / 10)) (digit (n % 10)) 0 0 (length_pos (n / 10))) (ih (omega arith)))

value_last : (l : List ℕ) (a b : ℕ) → value_from a (l ++ b ∷ []) ≡ value_from a l * 10 + (b - 48)
unfolding value_from
value_last [] a b = refl
value_last (x ∷ l) a b = value_last l (a * 10 + (x - 48)) b

-- the digits stand for the number
pub decimal_value : (n : ℕ) → value_from 0 (decimal n) ≡ n
unfolding value_from
decimal_value =
    decimal_ind (λ n. value_from 0 (decimal n) ≡ n)
    (λ n h. rw (decimal_small n h) (omega arith))
    (λ n h ih. rw (decimal_more n h) (value_last (decimal (n / 10)) 0 (48 + n % 10) ∙ rw ih (omega arith)))

-- and no two numbers have the same
pub decimal_same : (a b : ℕ) → decimal a ≡ decimal b → a ≡ b
decimal_same a b e = sym (decimal_value a) ∙ ap (value_from 0) e ∙ decimal_value b
