-- Laws of signed and unsigned numbers of two widths.
use Rattle.std.specs.Prelude.{ℕ, suc, ◌+◌, ◌-◌, ◌*◌, ◌/◌, ◌^◌, ◌%◌, ◌<◌, ◌≤◌, ◌≡◌, refl, Bool, true, false, cond, ltb, ℤ, pos, negsuc}
use Rattle.std.proofs.Common.{ap, arith, mod-lt, mod-eq_of_lt, pow_pos, pow-add, pow_mono, ltb-true, ltb-false, lt-ltb, le-ltb}
use Rattle.std.proofs.Math.Nat.{two-pow-succ}
use Rattle.std.proofs.Math.Arith.{mod-mul, digits_mod}
use Rattle.std.specs.Int.Signed.{mag}
use Rattle.machine.specs.Signed.{signed_at, unsigned_at, signed, unsigned}

-- ---- by a power p and its half h
pub signed_unsigned : (h p : ℕ) (z : ℤ) → p ≡ h + h → mag z < h → signed_at h p (unsigned_at p z) ≡ z
unfolding signed_at unsigned_at
signed_unsigned h p (pos n) e l = rw (mod-eq_of_lt {n = n} {m = p} (omega arith), lt-ltb n h l) refl
signed_unsigned h p (negsuc n) e l =
    rw (mod-eq_of_lt {n = n} {m = p} (omega arith), le-ltb (p - suc n) h (omega arith)) (ap negsuc (omega arith))

pub mag_signed : (h p x : ℕ) → p ≡ h + h → x < p → mag (signed_at h p x) < h
unfolding signed_at
mag_signed h p x e l = go (ltb x h) refl
  where
    go : (t : Bool) → ltb x h ≡ t → mag (cond t (pos x) (negsuc (p - suc x))) < h
    go true y = ltb-true x h y
    go false y = let k = ltb-false x h y in omega arith

pub unsigned_lt : (p : ℕ) (z : ℤ) → 0 < p → unsigned_at p z < p
unfolding unsigned_at
unsigned_lt p (pos n) h = mod-lt n h
unsigned_lt p (negsuc n) h = omega arith

digits : (a j q r : ℕ) → a < j → r < q → j * q - suc (a * q + r) ≡ (j - suc a) * q + (q - suc r)
digits a j q r h k = let e : j ≡ suc a + (j - suc a) = omega arith in go (j - suc a) e
  where
    go : (d : ℕ) → j ≡ suc a + d → j * q - suc (a * q + r) ≡ (j - suc a) * q + (q - suc r)
    go d e = rw e (let z : suc a + d - suc a ≡ d = omega arith in rw z (omega arith))

pub unsigned_mod : (j q : ℕ) (z : ℤ) → 0 < j → 0 < q → unsigned_at (j * q) z % q ≡ unsigned_at q z
unfolding unsigned_at
unsigned_mod j q (pos n) hj hq = rw (mod-mul n hj hq) (digits_mod (n / q % j) (mod-lt n hq))
unsigned_mod j q (negsuc n) hj hq = rw (mod-mul n hj hq, digits (n / q % j) j q (n % q) (mod-lt (n / q) hj) (mod-lt n hq)) (digits_mod (j - suc (n / q % j)) (omega arith))

-- ---- by a width
pub half : (w : ℕ) → 1 ≤ w → 2 ^ w ≡ 2 ^ (w - 1) + 2 ^ (w - 1)
half w h = let e : suc (w - 1) ≡ w = omega arith in rw e at (two-pow-succ (w - 1))

-- the low w bits of a wider number are the number of w bits
pub unsigned_low : (j w : ℕ) (z : ℤ) → unsigned (j + w) z % 2 ^ w ≡ unsigned w z
unsigned_low j w z = rw (pow-add 2 j w) (unsigned_mod (2 ^ j) (2 ^ w) z (pow_pos j) (pow_pos w))

pub unsigned_fits : (w : ℕ) (z : ℤ) → unsigned w z < 2 ^ w
unsigned_fits w z = unsigned_lt (2 ^ w) z (pow_pos w)

-- a number of w bits, extended, keeps its signed value
pub extend_same : (j w x : ℕ) → 1 ≤ w → x < 2 ^ w → signed (j + w) (unsigned (j + w) (signed w x)) ≡ signed w x
extend_same j w x h l =
    let m : mag (signed w x) < 2 ^ (w - 1) = mag_signed (2 ^ (w - 1)) (2 ^ w) x (half w h) l in
    let n : 2 ^ (w - 1) ≤ 2 ^ (j + w - 1) = pow_mono (omega arith) in
    signed_unsigned (2 ^ (j + w - 1)) (2 ^ (j + w)) (signed w x) (half (j + w) (omega arith)) (omega arith)

-- and at its own width it is the number itself
pub same_width : (w x : ℕ) → 1 ≤ w → x < 2 ^ w → unsigned w (signed w x) ≡ x
unfolding signed_at unsigned_at
same_width w x h l = go (ltb x (2 ^ (w - 1))) refl
  where
    go : (t : Bool) → ltb x (2 ^ (w - 1)) ≡ t → unsigned_at (2 ^ w) (cond t (pos x) (negsuc (2 ^ w - suc x))) ≡ x
    go true y = mod-eq_of_lt l
    go false y = let k : (2 ^ w - suc x) % 2 ^ w ≡ 2 ^ w - suc x = mod-eq_of_lt (omega arith) in rw k (omega arith)
