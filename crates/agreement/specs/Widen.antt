-- An operation at a working width gives, cut to the width of its operands, what the manual says: one law for the 13 operations, one for the 10 predicates.
use Rattle.std.specs.Prelude.{ℕ, zero, suc, ◌+◌, ◌-◌, ◌*◌, ◌/◌, ◌^◌, ◌%◌, ◌<◌, ◌≤◌, ◌≡◌, refl, Bool, true, false, ltb, ℤ}
use Rattle.std.proofs.Common.{◌∙◌, arith, mod-lt, mod-eq_of_lt, div-le_self, pow_pos, pow-add, pow_mono, ltb-true, lt-ltb}
use Rattle.std.proofs.Math.Option.{some}
use Rattle.std.proofs.Math.Nat.{mod-le, add-mul-mod_self_right}
use Rattle.std.specs.Int.Signed.{quot_z, rem_z, shr_z, mag}
use Rattle.std.proofs.Math.Pow.{mod-mod-pow}
use Rattle.std.specs.Int.Bits.{bit_and, bit_or, bit_xor, and_lt}
use Rattle.std.proofs.lemmas.Nat.{or_lt, xor_lt}
use Rattle.book.specs.Ast.{BinOp, ICmpPred}
use Rattle.book.specs.Rule.{when}
use Rattle.machine.specs.Signed.{signed, unsigned, nonzero}
use Rattle.machine.specs.Values.{divides, word_op, word_test}
use Rattle.manual.specs.Values.{bin_value, icmp_value}
use Rattle.lowering.specs.Arith.{signed_left, signed_right, signed_pred}
use Rattle.agreement.specs.Holds.{Holds, H-ok, H-need}
use Rattle.agreement.specs.Lists.{some_same, none_some}
use Rattle.agreement.specs.Signed.{unsigned_low, unsigned_fits}

-- an operand at a wider width: as it is, or with its sign
abbrev pub Same : (sign : Bool) → (j w x x' : ℕ) → Type 0
Same true j w x x' = signed (j + w) x' ≡ signed w x
Same false j w x x' = x' ≡ x

-- what the machine gives at j + w bits, cut to w
abbrev pub Gives-low : BinOp → (j w x' y' : ℕ) → ℕ → Type 0
Gives-low o j w x' y' r = (r' : ℕ) × (word_op o (j + w) x' y' ≡ some r') × (r' % 2 ^ w ≡ r)

small : (w x : ℕ) → x < 2 ^ w → x % 2 ^ w ≡ x
small w x h = mod-eq_of_lt h

shift_in : (j w y : ℕ) → ltb y w ≡ true → ltb y (j + w) ≡ true
shift_in j w y t = lt-ltb y (j + w) (let h = ltb-true y w t in omega arith)

sub_wide : (j w x y : ℕ) → y < 2 ^ w → (x + (2 ^ (j + w) - y)) % 2 ^ w ≡ (x + 2 ^ w - y) % 2 ^ w
sub_wide j w x y h =
    let k : 1 ≤ 2 ^ j = pow_pos j in
    let e : x + (2 ^ (j + w) - y) ≡ (x + 2 ^ w - y) + (2 ^ j - 1) * 2 ^ w = rw (pow-add 2 j w) (go (2 ^ j) k) in
    rw e (add-mul-mod_self_right (x + 2 ^ w - y) (2 ^ j - 1) (2 ^ w))
  where
    go : (m : ℕ) → 1 ≤ m → x + (m * 2 ^ w - y) ≡ (x + 2 ^ w - y) + (m - 1) * 2 ^ w
    go zero k = absurd (omega arith)
    go (suc m) k = let e : suc m - 1 ≡ m = omega arith in rw e (omega arith)

divides_wide : (j w : ℕ) (b q : ℤ) → nonzero b ≡ true → ltb (mag q) (2 ^ (w - 1)) ≡ true → divides (j + w) b q ≡ true
unfolding divides
divides_wide j w b q n m =
    let k : 2 ^ (w - 1) ≤ 2 ^ (j + w - 1) = pow_mono (omega arith) in
    let i : ltb (mag q) (2 ^ (j + w - 1)) ≡ true = lt-ltb (mag q) (2 ^ (j + w - 1)) (let l = ltb-true (mag q) (2 ^ (w - 1)) m in omega arith) in
    rw (n, i) refl

pub widen : (o : BinOp) (j w x y x' y' : ℕ) → x < 2 ^ w → y < 2 ^ w → Same (signed_left o) j w x x' → Same (signed_right o) j w y y'
    → Holds (bin_value o w x y) (Gives-low o j w x' y')
unfolding bin_value word_op signed_left signed_right
widen BinOp.add j w x y x' y' hx hy ex ey = H-ok _ ((x + y) % 2 ^ (j + w), (rw (ex, ey) refl), mod-mod-pow (x + y) j w)
widen BinOp.sub j w x y x' y' hx hy ex ey = H-ok _ ((x + (2 ^ (j + w) - y)) % 2 ^ (j + w), (rw (ex, ey) refl), mod-mod-pow (x + (2 ^ (j + w) - y)) j w ∙ sub_wide j w x y hy)
widen BinOp.mul j w x y x' y' hx hy ex ey = H-ok _ (x * y % 2 ^ (j + w), (rw (ex, ey) refl), mod-mod-pow (x * y) j w)
widen BinOp.udiv j w x y x' y' hx hy ex ey = H-need (ltb 0 y) _ _ λ t. H-ok _ (x / y, (rw (ex, ey, t) refl), small w (x / y) (let k = div-le_self x y in omega arith))
widen BinOp.urem j w x y x' y' hx hy ex ey = H-need (ltb 0 y) _ _ λ t. H-ok _ (x % y, (rw (ex, ey, t) refl), small w (x % y) (let k = mod-le x y in omega arith))
widen BinOp.sdiv j w x y x' y' hx hy ex ey =
    let q : ℤ = quot_z (signed w x) (signed w y) in
    H-need (nonzero (signed w y)) _ _ λ n. H-need (ltb (mag q) (2 ^ (w - 1))) _ _ λ m.
    H-ok _ (unsigned (j + w) q, (rw (ex, ey, divides_wide j w (signed w y) q n m) refl), unsigned_low j w q)
widen BinOp.srem j w x y x' y' hx hy ex ey =
    let q : ℤ = quot_z (signed w x) (signed w y) in
    let r : ℤ = rem_z (signed w x) (signed w y) in
    H-need (nonzero (signed w y)) _ _ λ n. H-need (ltb (mag q) (2 ^ (w - 1))) _ _ λ m.
    H-ok _ (unsigned (j + w) r, (rw (ex, ey, divides_wide j w (signed w y) q n m) refl), unsigned_low j w r)
widen BinOp.and j w x y x' y' hx hy ex ey = H-ok _ (bit_and x y, (rw (ex, ey) refl), small w _ (and_lt w x y hx hy))
widen BinOp.or j w x y x' y' hx hy ex ey = H-ok _ (bit_or x y, (rw (ex, ey) refl), small w _ (or_lt w x y hx hy))
widen BinOp.xor j w x y x' y' hx hy ex ey = H-ok _ (bit_xor x y, (rw (ex, ey) refl), small w _ (xor_lt w x y hx hy))
widen BinOp.shl j w x y x' y' hx hy ex ey = H-need (ltb y w) _ _ λ t. H-ok _ (x * 2 ^ y % 2 ^ (j + w), (rw (ex, ey, shift_in j w y t) refl), mod-mod-pow (x * 2 ^ y) j w)
widen BinOp.lshr j w x y x' y' hx hy ex ey = H-need (ltb y w) _ _ λ t. H-ok _ (x / 2 ^ y, (rw (ex, ey, shift_in j w y t) refl), small w (x / 2 ^ y) (let k = div-le_self x (2 ^ y) in omega arith))
widen BinOp.ashr j w x y x' y' hx hy ex ey = H-need (ltb y w) _ _ λ t. H-ok _ (unsigned (j + w) (shr_z (signed w x) (2 ^ y)), (rw (ex, ey, shift_in j w y t) refl), unsigned_low j w (shr_z (signed w x) (2 ^ y)))

when_some : (b : Bool) (a : ℕ) {r k : ℕ} → a < k → when b a ≡ some r → r < k
when_some true a h e = rw (← some_same e) h
when_some false a h e = none_some _ e

-- a word's operation gives a word
pub word_lt : (o : BinOp) (w x y r : ℕ) → x < 2 ^ w → y < 2 ^ w → word_op o w x y ≡ some r → r < 2 ^ w
unfolding word_op
word_lt BinOp.add w x y r hx hy e = rw (← some_same e) (mod-lt (x + y) (pow_pos w))
word_lt BinOp.sub w x y r hx hy e = rw (← some_same e) (mod-lt (x + (2 ^ w - y)) (pow_pos w))
word_lt BinOp.mul w x y r hx hy e = rw (← some_same e) (mod-lt (x * y) (pow_pos w))
word_lt BinOp.udiv w x y r hx hy e = when_some (ltb 0 y) (x / y) (let k = div-le_self x y in omega arith) e
word_lt BinOp.urem w x y r hx hy e = when_some (ltb 0 y) (x % y) (let k = mod-le x y in omega arith) e
word_lt BinOp.sdiv w x y r hx hy e = when_some (divides w (signed w y) (quot_z (signed w x) (signed w y))) _ (unsigned_fits w (quot_z (signed w x) (signed w y))) e
word_lt BinOp.srem w x y r hx hy e = when_some (divides w (signed w y) (quot_z (signed w x) (signed w y))) _ (unsigned_fits w (rem_z (signed w x) (signed w y))) e
word_lt BinOp.and w x y r hx hy e = rw (← some_same e) (and_lt w x y hx hy)
word_lt BinOp.or w x y r hx hy e = rw (← some_same e) (or_lt w x y hx hy)
word_lt BinOp.xor w x y r hx hy e = rw (← some_same e) (xor_lt w x y hx hy)
word_lt BinOp.shl w x y r hx hy e = when_some (ltb y w) _ (mod-lt (x * 2 ^ y) (pow_pos w)) e
word_lt BinOp.lshr w x y r hx hy e = when_some (ltb y w) (x / 2 ^ y) (let k = div-le_self x (2 ^ y) in omega arith) e
word_lt BinOp.ashr w x y r hx hy e = when_some (ltb y w) _ (unsigned_fits w (shr_z (signed w x) (2 ^ y))) e

pub pred_widen : (p : ICmpPred) (j w x y x' y' : ℕ) → Same (signed_pred p) j w x x' → Same (signed_pred p) j w y y' → word_test p (j + w) x' y' ≡ icmp_value p w x y
unfolding word_test icmp_value signed_pred
pred_widen ICmpPred.eq j w x y x' y' ex ey = rw (ex, ey) refl
pred_widen ICmpPred.ne j w x y x' y' ex ey = rw (ex, ey) refl
pred_widen ICmpPred.ugt j w x y x' y' ex ey = rw (ex, ey) refl
pred_widen ICmpPred.uge j w x y x' y' ex ey = rw (ex, ey) refl
pred_widen ICmpPred.ult j w x y x' y' ex ey = rw (ex, ey) refl
pred_widen ICmpPred.ule j w x y x' y' ex ey = rw (ex, ey) refl
pred_widen ICmpPred.sgt j w x y x' y' ex ey = rw (ex, ey) refl
pred_widen ICmpPred.sge j w x y x' y' ex ey = rw (ex, ey) refl
pred_widen ICmpPred.slt j w x y x' y' ex ey = rw (ex, ey) refl
pred_widen ICmpPred.sle j w x y x' y' ex ey = rw (ex, ey) refl
