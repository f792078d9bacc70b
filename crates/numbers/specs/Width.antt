-- Integers of w bits, kept in words of 64 bits. The laws hold at every width that they name. Assumes nothing.
use Rattle.std.specs.Prelude.{◌≡◌, ℕ, suc, ◌+◌, ◌-◌, ◌*◌, ◌/◌, ◌%◌, ◌^◌, ◌<◌, ◌≤◌, min, Bool, true, false, cond, ◌||◌, ◌⊎◌, ◌==◌, nat_lt, refl}
use Rattle.std.proofs.Common.{sym, ◌∙◌, inl, inr, ⊎_elim, add-zero, mod-lt, mod-eq_of_lt, lt_of_lt_of_le, arith, pow_pos, pow_mono, eqb-true, lt-ltb, le-ltb}
use Rattle.std.proofs.Math.Nat.{add-mul-mod_self_right, mod-one, mod-mod, min-eq_left, min-eq_right, min-le_right, two-pow-succ}
use Rattle.std.proofs.Math.Pow.{high_ones}
use Rattle.numbers.specs.Tests.{or_cases, lt_or_le}

-- the low w bits of v, and no more than 64
unfoldable pub mask_to_width : ℕ → ℕ → ℕ
mask_to_width v w = v % 2 ^ min w 64

-- a number of w bits read as two's complement, as a word of 64 bits: from half of 2 ^ w on it stands for itself less 2 ^ w
unfoldable pub signed_word : ℕ → ℕ → ℕ
signed_word w v = cond (nat_lt v (2 ^ (w - 1))) v (v + (2 ^ 64 - 2 ^ w))

-- the low w bits of v read so
unfoldable pub sign_extend : ℕ → ℕ → ℕ
sign_extend v w = signed_word (min w 64) (mask_to_width v w)

-- the bytes that hold w bits
abbrev pub int_bytes : ℕ → ℕ
int_bytes w = (w + 7) / 8

-- the widths that a book may have
unfoldable pub width_ok : ℕ → Bool
width_ok w = w == 1 || (w == 8 || (w == 16 || (w == 32 || w == 64)))

-- ---- the low bits

pub mask_low : (v w : ℕ) → w ≤ 64 → mask_to_width v w ≡ v % 2 ^ w
unfolding mask_to_width
mask_low v w h = rw (min-eq_left h)

pub mask_word : (v w : ℕ) → 64 ≤ w → v < 2 ^ 64 → mask_to_width v w ≡ v
unfolding mask_to_width
mask_word v w h f = rw (min-eq_right h) (mod-eq_of_lt f)

-- a value of w bits is left as it is
pub mask_same : (v w : ℕ) → w ≤ 64 → v < 2 ^ w → mask_to_width v w ≡ v
mask_same v w h f = mask_low v w h ∙ mod-eq_of_lt f

pub mask_twice : (v w : ℕ) → mask_to_width (mask_to_width v w) w ≡ mask_to_width v w
unfolding mask_to_width
mask_twice v w = mod-mod v (2 ^ min w 64)

pub mask_lt : (v w : ℕ) → mask_to_width v w < 2 ^ min w 64
unfolding mask_to_width
mask_lt v w = mod-lt v (pow_pos (min w 64))

pub mask_lt_word : (v w : ℕ) → mask_to_width v w < 2 ^ 64
mask_lt_word v w = lt_of_lt_of_le (mask_lt v w) (pow_mono (min-le_right w 64))

-- ---- the sign

-- below half a number stands for itself
pub sign_plus : (v w : ℕ) → w ≤ 64 → mask_to_width v w < 2 ^ (w - 1) → sign_extend v w ≡ mask_to_width v w
unfolding sign_extend signed_word
sign_plus v w h f = rw (min-eq_left h, lt-ltb (mask_to_width v w) (2 ^ (w - 1)) f)

-- and from half on for itself less 2 ^ w
pub sign_minus : (v w : ℕ) → w ≤ 64 → 2 ^ (w - 1) ≤ mask_to_width v w → sign_extend v w ≡ mask_to_width v w + (2 ^ 64 - 2 ^ w)
unfolding sign_extend signed_word
sign_minus v w h f = rw (min-eq_left h, le-ltb (mask_to_width v w) (2 ^ (w - 1)) f)

-- so what holds of both holds of the sign-extended word
sign_either : (P : ℕ → Type 0) (v w : ℕ) → w ≤ 64
    → (mask_to_width v w < 2 ^ (w - 1) → P (mask_to_width v w)) → (2 ^ (w - 1) ≤ mask_to_width v w → P (mask_to_width v w + (2 ^ 64 - 2 ^ w))) → P (sign_extend v w)
sign_either P v w h p q =
    ⊎_elim (λ f. rw (sign_plus v w h f) (p f)) (λ f. rw (sign_minus v w h f) (q f)) (lt_or_le (mask_to_width v w) (2 ^ (w - 1)))

either_way : (b : Bool) (v : ℕ) → cond b v (v + 0) ≡ v
either_way true v = refl
either_way false v = add-zero v

pub sign_word : (v w : ℕ) → 64 ≤ w → v < 2 ^ 64 → sign_extend v w ≡ v
unfolding sign_extend signed_word
sign_word v w h f = rw (min-eq_right h, mask_word v w h f) (either_way (nat_lt v (2 ^ 63)) v)

pub sign_none : (v : ℕ) → sign_extend v 0 ≡ 0
unfolding sign_extend signed_word mask_to_width
sign_none v = rw (mod-one v)

-- the low w bits of the word are those of v
pub sign_mask : (v w : ℕ) → w ≤ 64 → mask_to_width (sign_extend v w) w ≡ mask_to_width v w
sign_mask v w h =
    sign_either (λ x. mask_to_width x w ≡ mask_to_width v w) v w h (λ f. mask_twice v w)
    (λ f. mask_low (mask_to_width v w + (2 ^ 64 - 2 ^ w)) w h
    ∙ rw above (add-mul-mod_self_right (mask_to_width v w) (2 ^ (64 - w) - 1) (2 ^ w) ∙ sym (mask_low (mask_to_width v w) w h) ∙ mask_twice v w))
  where
    above : 2 ^ 64 - 2 ^ w ≡ (2 ^ (64 - w) - 1) * 2 ^ w
    above = let e : 64 - w + w ≡ 64 = omega arith in rw e at (high_ones (64 - w) w)

pub sign_lt : (v w : ℕ) → w ≤ 64 → sign_extend v w < 2 ^ 64
sign_lt v w h =
    sign_either (λ x. x < 2 ^ 64) v w h (λ f. mask_lt_word v w)
    (λ f. omega (arith, pow_mono h, rw (min-eq_left h) at (mask_lt v w)))

-- the word is below half of 2 ^ w, or no further than that below 2 ^ 64
pub sign_range : (v w : ℕ) → 1 ≤ w → w ≤ 64 → (sign_extend v w < 2 ^ (w - 1)) ⊎ (2 ^ 64 ≤ sign_extend v w + 2 ^ (w - 1))
sign_range v w g h =
    sign_either (λ x. (x < 2 ^ (w - 1)) ⊎ (2 ^ 64 ≤ x + 2 ^ (w - 1))) v w h inl
    (λ f. inr (omega (arith, pow_mono h, double)))
  where
    double : 2 ^ w ≡ 2 ^ (w - 1) + 2 ^ (w - 1)
    double = let e : suc (w - 1) ≡ w = omega arith in rw e at (two-pow-succ (w - 1))

-- ---- the widths

-- what holds at each width that a book may have holds at any of them
pub width_each : (P : ℕ → Type 0) → P 1 → P 8 → P 16 → P 32 → P 64 → (w : ℕ) → width_ok w ≡ true → P w
unfolding width_ok
width_each P p1 p8 p16 p32 p64 w e =
    else 1 p1 (else 8 p8 (else 16 p16 (else 32 p32 (λ h. rw (eqb-true w 64 h) p64)))) e
  where
    else : (n : ℕ) {t : Bool} → P n → (t ≡ true → P w) → (w == n || t) ≡ true → P w
    else n {t} p q h = ⊎_elim (λ f. rw (eqb-true w n f) p) q (or_cases (w == n) t h)

-- the widths one by one
abbrev pub IsWidth : ℕ → Type 0
IsWidth w = (w ≡ 1) ⊎ ((w ≡ 8) ⊎ ((w ≡ 16) ⊎ ((w ≡ 32) ⊎ (w ≡ 64))))

pub width_cases : (w : ℕ) → width_ok w ≡ true → IsWidth w
width_cases = width_each IsWidth (inl refl) (inr (inl refl)) (inr (inr (inl refl))) (inr (inr (inr (inl refl)))) (inr (inr (inr (inr refl))))

pub width_is : (w : ℕ) → IsWidth w → width_ok w ≡ true
unfolding width_ok
width_is w = ⊎_elim (λ e. rw e) (⊎_elim (λ e. rw e) (⊎_elim (λ e. rw e) (⊎_elim (λ e. rw e) (λ e. rw e))))

pub width_bounds : (w : ℕ) → width_ok w ≡ true → (1 ≤ w) × (w ≤ 64)
width_bounds = width_each (λ w. (1 ≤ w) × (w ≤ 64)) (omega arith) (omega arith) (omega arith) (omega arith) (omega arith)

pub bytes_bounds : (w : ℕ) → width_ok w ≡ true → (1 ≤ int_bytes w) × (int_bytes w ≤ 8)
bytes_bounds w e = omega (arith, width_bounds w e)
