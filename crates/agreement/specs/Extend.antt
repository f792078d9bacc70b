-- `emit_trunc_to` leaves the low bits, `emit_sext` the extended value; an operand at its working width.
use Prim.Native.Nat.{ℕ, zero, suc, ◌+◌, ◌-◌, ◌%◌, ◌^◌, ◌<◌, ◌≤◌}
use Rattle.std.specs.Prelude.{◌≡◌, Bool, cond, ◌&&◌, ltb, leb}
use Rattle.std.proofs.Math.Path.{refl}
use Rattle.std.proofs.Common.{◌∙◌}
use Rattle.std.proofs.Math.Bool.{true, false}
use Rattle.std.proofs.lemmas.Bool.{false≢true}
use Rattle.std.proofs.Math.Option.{none, some}
use mathlib.Core.List.{List, [], ◌∷◌}
use native.Mathlib.Omega.{arith}
use Rattle.std.proofs.Math.Nat.{mod-eq_of_lt}
use Rattle.std.proofs.Math.Dec.{eqb}
use Rattle.std.proofs.Math.Pow.{pow_mono, mod-mod-pow}
use Rattle.std.specs.Int.Bits.{bit_and}
use Rattle.std.proofs.lemmas.Nat.{and_mask}
use borrow.Author.Tests.{ltb-false, eqb-true}
use Rattle.numbers.specs.Width.{width_ok, width_each, width_bounds}
use Rattle.book.specs.Ast.{BinOp}
use Rattle.book.specs.Rule.{pick}
use Rattle.assembly.specs.Line.{Line, Work}
use Rattle.machine.specs.Signed.{signed, unsigned, signed_at, unsigned_at}
use Rattle.machine.specs.Values.{word_op, extended}
use Rattle.machine.specs.State.{Frame}
use Rattle.machine.specs.Line.{goes, does, work_width, word}
use Rattle.lowering.specs.Gen.{when}
use Rattle.lowering.specs.Operand.{work_bits, work_of, trunc_lines, emit_trunc_to, ones, sext_bit, sx32_to, sx_line, sext_more, emit_sext}
use Rattle.agreement.specs.Gives.{Gives, G-lines, G-line, G-put, G-bind, G-when, G-choose, G-map, G-all}
use Rattle.agreement.specs.Setup.{Setup}
use Rattle.agreement.specs.Reach.{Runs, runs_nil, run_line, ◌⊳◌, doing}
use Rattle.agreement.specs.Lists.{some_same, none_some}
use Rattle.agreement.specs.Signed.{unsigned_low, unsigned_fits, extend_same}
use Rattle.agreement.specs.Widen.{Same}
use Rattle.agreement.specs.Operand.{ok_or_some}

-- ---- the working width
pub work_width_lem : (w : ℕ) → work_width (work_of w) ≡ work_bits w
unfolding work_of work_bits
work_width_lem w = go (leb w 32)
  where
    go : (t : Bool) → work_width (cond t Work.w32 Work.w64) ≡ cond t 32 64
    go true = refl
    go false = refl

pub work_above : (w : ℕ) → width_ok w ≡ true → (w ≤ work_bits w) × (work_bits w ≤ 64)
unfolding work_bits
work_above = width_each (λ w. (w ≤ work_bits w) × (work_bits w ≤ 64)) (omega arith) (omega arith) (omega arith) (omega arith) (omega arith)

work_ok : (w : ℕ) → width_ok (work_bits w) ≡ true
unfolding work_bits width_ok
work_ok w = go (leb w 32)
  where
    go : (t : Bool) → width_ok (cond t 32 64) ≡ true
    go true = refl
    go false = refl

-- a working width is its own
pub work_twice : (w : ℕ) → work_of (work_bits w) ≡ work_of w
unfolding work_bits work_of
work_twice w = go (leb w 32)
  where
    go : (t : Bool) → cond (leb (cond t 32 64) 32) Work.w32 Work.w64 ≡ cond t Work.w32 Work.w64
    go true = refl
    go false = refl

-- what the lines of a bit's extension compute
abbrev Bit : (to x : ℕ) → Type 0
Bit to x =
    (word_op BinOp.and (work_width (work_of to)) (word (work_of to) x) (word (work_of to) 1) ≡ some x)
    × (word_op BinOp.mul (work_width (work_of to)) (word (work_of to) x) (word (work_of to) (ones to)) ≡ some (unsigned to (signed 1 x)))

either_bit : (P : ℕ → Type 0) → P 0 → P 1 → (x : ℕ) → x < 2 → P x
either_bit P p q zero h = p
either_bit P p q (suc zero) h = q
either_bit P p q (suc (suc x)) h = absurd (omega arith)

bit_value : (to : ℕ) → width_ok to ≡ true → (x : ℕ) → x < 2 → Bit to x
unfolding word_op work_of ones signed_at unsigned_at
bit_value =
    width_each (λ to. (x : ℕ) → x < 2 → Bit to x) (either_bit (Bit 1) (refl, refl) (refl, refl)) (either_bit (Bit 8) (refl, refl) (refl, refl))
    (either_bit (Bit 16) (refl, refl) (refl, refl)) (either_bit (Bit 32) (refl, refl) (refl, refl)) (either_bit (Bit 64) (refl, refl) (refl, refl))

module _ (s : Setup) where
  -- ---- `emit_trunc_to`
  abbrev pub Leaves : (x y : ℕ) → List Line → Type 0
  Leaves x y L = (e : Frame) (o : List ℕ) → Runs s L e (x ∷ o) e (y ∷ o)

  bit_and_lem : (x : ℕ) → bit_and (x % 2 ^ 32) 1 ≡ x % 2 ^ 1
  bit_and_lem x = and_mask (x % 2 ^ 32) 1 ∙ mod-mod-pow x 31 1

  pub trunc_ok : (x w : ℕ) → width_ok w ≡ true → x < 2 ^ 64 → Leaves x (x % 2 ^ w) (trunc_lines w)
  unfolding trunc_lines does word_op
  trunc_ok x w h l = width_each (λ w. Leaves x (x % 2 ^ w) (trunc_lines w))
      (λ e o. ◌⊳◌ s refl (run_line s (rw (bit_and_lem x) refl)))
      (λ e o. run_line s refl)
      (λ e o. run_line s refl)
      (λ e o. run_line s refl)
      (λ e o. rw (mod-eq_of_lt {n = x} {m = 2 ^ 64} l) (runs_nil s))
      w h

  -- ---- `emit_sext`
  -- a bit becomes all zeros or all ones
  bit_ok : (x to : ℕ) → width_ok to ≡ true → x < 2 → Gives (sext_bit to) (Leaves x (unsigned to (signed 1 x)))
  unfolding sext_bit does
  bit_ok x to h l =
      let (a, m) = bit_value to h x l in
      G-put _ _ (G-put _ _ (G-put _ _ (G-line _ λ e o. ◌⊳◌ s refl (◌⊳◌ s {e₁ = e} {o₁ = x ∷ o} (rw a refl) (◌⊳◌ s refl (run_line s (rw m refl)))))))

  sx_does : (from : ℕ) (mid : Work) (l : Line) (x : ℕ) (e : Frame) (o : List ℕ) → sx_line from mid ≡ some l → doing s l e (x ∷ o) ≡ goes e (extended from (work_width mid) x ∷ o)
  unfolding sx_line sx32_to does
  sx_does from mid l x e o h = at8 (eqb from 8) refl h
    where
      at32 : (b : Bool) → eqb from 32 ≡ b → (m : Work) → pick b (sx32_to m) none ≡ some l → doing s l e (x ∷ o) ≡ goes e (extended from (work_width m) x ∷ o)
      at32 true b Work.w32 h = none_some l h
      at32 true b Work.w64 h = rw (← some_same h, eqb-true from 32 b) refl
      at32 false b m h = none_some l h

      at16 : (b : Bool) → eqb from 16 ≡ b → pick b (some (Line.sx16 mid)) (pick (eqb from 32) (sx32_to mid) none) ≡ some l → doing s l e (x ∷ o) ≡ goes e (extended from (work_width mid) x ∷ o)
      at16 true b h = rw (← some_same h, eqb-true from 16 b) refl
      at16 false b h = at32 (eqb from 32) refl mid h

      at8 : (b : Bool) → eqb from 8 ≡ b → pick b (some (Line.sx8 mid)) (pick (eqb from 16) (some (Line.sx16 mid)) (pick (eqb from 32) (sx32_to mid) none)) ≡ some l → doing s l e (x ∷ o) ≡ goes e (extended from (work_width mid) x ∷ o)
      at8 true b h = rw (← some_same h, eqb-true from 8 b) refl
      at8 false b h = at16 (eqb from 16) refl h

  more_ok : (x from to : ℕ) → width_ok to ≡ true → x < 2 ^ from → Gives (sext_more from to) (Leaves x (unsigned to (signed from x)))
  unfolding sext_more emit_trunc_to extended
  more_ok x from to h l = G-bind _ _ λ sx hs. G-put _ _ (
      let b = work_above to h in
      let j : work_bits to - to + to ≡ work_bits to = omega arith in
      let mid : ℕ = unsigned (work_bits to) (signed from x) in
      let first : (e : Frame) (o : List ℕ) → doing s sx e (x ∷ o) ≡ goes e (mid ∷ o) = λ e o. rw (sx_does from (work_of to) sx x e o (ok_or_some 13 _ sx hs), mod-eq_of_lt {n = x} {m = 2 ^ from} l, work_width_lem to) refl in
      let small : mid < 2 ^ 64 = (let u = unsigned_fits (work_bits to) (signed from x) in let k : 2 ^ work_bits to ≤ 2 ^ 64 = pow_mono b.1 in omega arith) in
      let low : mid % 2 ^ to ≡ unsigned to (signed from x) = rw j at (unsigned_low (work_bits to - to) to (signed from x)) in
      G-when (ltb to (work_bits to)) _
      (λ t. G-lines _ λ e o. ◌⊳◌ s (first e o) (rw low at (trunc_ok mid to h small e o)))
      (λ t e o. let k : work_bits to ≡ to = (let q = ltb-false to (work_bits to) t in omega arith) in ◌⊳◌ s (first e o) (rw k (runs_nil s))))

  pub sext_ok : (x from to : ℕ) → width_ok to ≡ true → x < 2 ^ from → Gives (emit_sext from to) (Leaves x (unsigned to (signed from x)))
  unfolding emit_sext
  sext_ok x from to h l = G-choose (eqb from 1) _ _
      (λ t. let e : from ≡ 1 = eqb-true from 1 t in rw e (bit_ok x to h (rw e at l)))
      (λ t. more_ok x from to h l)

  -- ---- an operand at the working width
  pub record Worked (sign : Bool) (w x : ℕ) (L : List Line) : Type 0 where
    pub cell : ℕ
    pub same : Same sign (work_bits w - w) w x (word (work_of w) cell)
    pub runs : Leaves x cell L

  -- as it is, where no sign is asked for or the width is a working width
  plain_ok : (sign : Bool) (w x : ℕ) → width_ok w ≡ true → x < 2 ^ w → (sign && ltb w (work_bits w)) ≡ false → Worked sign w x []
  plain_ok false w x h l t = record { cell = x; same = rw (work_width_lem w) (mod-eq_of_lt (let b = work_above w h in let k : 2 ^ w ≤ 2 ^ work_bits w = pow_mono b.0 in omega arith)); runs = λ e o. runs_nil s }
  plain_ok true w x h l t =
      let b = work_above w h in
      let k : work_bits w ≡ w = (let q = ltb-false w (work_bits w) t in omega arith) in
      let z : w - w + w ≡ w = omega arith in
      record { cell = x; same = rw (work_width_lem w, k, z, mod-eq_of_lt {n = x} {m = 2 ^ w} l) refl; runs = λ e o. runs_nil s }

  extended_ok : (sign : Bool) (w x : ℕ) (L : List Line) → width_ok w ≡ true → x < 2 ^ w → (sign && ltb w (work_bits w)) ≡ true → Leaves x (unsigned (work_bits w) (signed w x)) L → Worked sign w x L
  extended_ok false w x L h l t r = absurd (false≢true t)
  extended_ok true w x L h l t r =
      let b = work_above w h in
      let p = width_bounds w h in
      let j : work_bits w - w + w ≡ work_bits w = omega arith in
      record {
        cell = unsigned (work_bits w) (signed w x);
        same = rw (work_width_lem w, mod-eq_of_lt (unsigned_fits (work_bits w) (signed w x)), j) (rw j at (extend_same (work_bits w - w) w x p.0 l));
        runs = r;
      }

  pub worked_ok : (sign : Bool) (w : ℕ) → width_ok w ≡ true → Gives (when (sign && ltb w (work_bits w)) (emit_sext w (work_bits w))) (λ L. (x : ℕ) → x < 2 ^ w → Worked sign w x L)
  worked_ok sign w h = G-all λ x. G-all λ l. G-when (sign && ltb w (work_bits w)) _
      (λ t. G-map (sext_ok x w (work_bits w) (work_ok w) l) λ L r. extended_ok sign w x L h l t r)
      (λ t. plain_ok sign w x h l t)
