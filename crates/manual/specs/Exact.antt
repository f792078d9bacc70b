-- The source run goes on exactly where `Goes` and `Measured` say: each condition suffices, and each is met where the run has gone on.
use Rattle.std.specs.Prelude.{ℕ, ◌-◌, ◌%◌, ◌^◌, ◌<◌, ◌≤◌, ◌≡◌, ◌⊎◌, Bool, true, ◌||◌, eqb, ltb, leb}
use Rattle.std.proofs.Math.Path.{refl, subst}
use Rattle.std.proofs.Common.{inl, inr}
use Rattle.std.proofs.Math.Option.{some}
use Rattle.std.specs.Int.Signed.{quot_z, mag}
use borrow.Author.Tests.{ltb-true, leb-true, eqb-true, lt-ltb, le-leb, eq-eqb}
use Rattle.names.specs.Tests.{either, or_right}
use Rattle.book.specs.Ast.{Ty, Value, TypedVal, BinOp, ConvOp}
use Rattle.book.specs.Result.{Result, ok, bind, ok_or, err_no_ok, bind_ok, bind_step}
use Rattle.machine.specs.Overflow.{no_overflow, overflow_no}
use Rattle.machine.specs.Signed.{signed, nonzero, signed_nonzero, nonzero_signed}
use Rattle.manual.specs.Stop.{Stop, stop_number, need}
use Rattle.manual.specs.Values.{bin_value, constant, in_range, conv_widths}
use Rattle.manual.specs.State.{Cell, Given, Source}
use Rattle.manual.specs.Operand.{width_of, integer_width, scalar, value, typed}
use Rattle.manual.specs.Goes.{Scalar, Integer, InRange, Reads, Typed, Divides, Defined, Converts}
use Rattle.manual.specs.Going.{ok_same, Going, onward, need_ok, need_true, ok_or_ok, ok_or_some}

-- ---- types
pub scalar_width : {ty : Ty} {w : ℕ} → Scalar ty w → width_of ty ≡ ok w
unfolding width_of
scalar_width Scalar.int = refl
scalar_width Scalar.ptr = refl

pub width_scalar : (ty : Ty) (w : ℕ) → width_of ty ≡ ok w → Scalar ty w
unfolding width_of
width_scalar (Ty.int v) w e = rw (← ok_same e) Scalar.int
width_scalar Ty.ptr w e = rw (← ok_same e) Scalar.ptr
width_scalar Ty.void w e = err_no_ok _ w e
width_scalar (Ty.sizeless s) w e = err_no_ok _ w e
width_scalar (Ty.array p n t) w e = err_no_ok _ w e
width_scalar (Ty.named_struct x) w e = err_no_ok _ w e
width_scalar (Ty.struct p ts) w e = err_no_ok _ w e

pub integer_width_lem : {ty : Ty} {w : ℕ} → Integer ty w → integer_width ty ≡ ok w
unfolding integer_width
integer_width_lem Integer.int = refl

pub width_integer : (ty : Ty) (w : ℕ) → integer_width ty ≡ ok w → Integer ty w
unfolding integer_width
width_integer (Ty.int v) w e = rw (← ok_same e) Integer.int
width_integer Ty.ptr w e = err_no_ok _ w e
width_integer Ty.void w e = err_no_ok _ w e
width_integer (Ty.sizeless s) w e = err_no_ok _ w e
width_integer (Ty.array p n t) w e = err_no_ok _ w e
width_integer (Ty.named_struct x) w e = err_no_ok _ w e
width_integer (Ty.struct p ts) w e = err_no_ok _ w e

-- ---- ranges
-- below a, or from b on
pub outside : (v a b : ℕ) → (v < a) ⊎ (b ≤ v) → (ltb v a || leb b v) ≡ true
outside v a b (inl h) = rw (lt-ltb v a h) refl
outside v a b (inr h) = or_right (ltb v a) (leb b v) (le-leb b v h)

pub inside : (v a b : ℕ) → (ltb v a || leb b v) ≡ true → (v < a) ⊎ (b ≤ v)
inside v a b h = go (either (ltb v a) (leb b v) h)
  where
    go : (ltb v a ≡ true) ⊎ (leb b v ≡ true) → (v < a) ⊎ (b ≤ v)
    go (inl k) = inl (ltb-true v a k)
    go (inr k) = inr (leb-true b v k)

pub range_constant : (w v : ℕ) → InRange w v → constant w v ≡ ok (v % 2 ^ w)
unfolding constant in_range
range_constant w v h = bind_step _ _ (need_ok Stop.integer_range (outside v (2 ^ w) (2 ^ 64 - 2 ^ (w - 1)) h)) refl

pub constant_range : (w v n : ℕ) → constant w v ≡ ok n → InRange w v × (v % 2 ^ w ≡ n)
unfolding constant in_range
constant_range w v n e =
    let (u, h, k) = bind_ok (need (in_range w v) Stop.integer_range) _ n e in
    (inside v (2 ^ w) (2 ^ 64 - 2 ^ (w - 1)) (need_true _ _ u h), ok_same k)

-- ---- operands
module _ (g : Given) (σ : Source) where
  pub reads_value : {w : ℕ} {v : Value} {n : ℕ} → Reads g σ w v n → value g.world σ.env w v ≡ ok n
  unfolding value scalar
  reads_value (Reads.local {w = w} h) = bind_step _ _ (ok_or_ok _ h) (bind_step _ _ (need_ok Stop.other_width (eq-eqb w w refl)) refl)
  reads_value (Reads.int {w = w} {v = v} r) = range_constant w v r
  reads_value Reads.zero = refl
  reads_value Reads.global = bind_step _ _ (need_ok Stop.ill_formed refl) refl

  pub value_reads : (w : ℕ) (v : Value) (n : ℕ) → value g.world σ.env w v ≡ ok n → Reads g σ w v n
  unfolding value scalar
  value_reads w (Value.local x) n e =
      let (c, h, k) = bind_ok (ok_or (stop_number Stop.unset) (σ.env x)) _ n e in
      go c (ok_or_some _ (σ.env x) c h) k
    where
      go : (c : Cell) → σ.env x ≡ some c → scalar w c ≡ ok n → Reads g σ w (Value.local x) n
      go (Cell.one v m) h k =
          let (u, a, b) = bind_ok (need (eqb v w) Stop.other_width) _ n k in
          let i : v ≡ w = eqb-true v w (need_true _ _ u a) in
          let j : m ≡ n = ok_same b in
          let z : σ.env x ≡ some (Cell.one w n) = rw (← i, ← j) h in
          Reads.local z
      go (Cell.two v a b) h k = err_no_ok _ n k
  value_reads w (Value.int v) n e = let (r, h) = constant_range w v n e in subst (λ k. Reads g σ w (Value.int v) k) h (Reads.int r)
  value_reads w (Value.zero z) n e = subst (λ k. Reads g σ w (Value.zero z) k) (ok_same e) Reads.zero
  value_reads w (Value.global x) n e =
      let (u, a, b) = bind_ok (need (eqb w 64) Stop.ill_formed) _ n e in
      rw (eqb-true w 64 (need_true _ _ u a), ← ok_same b) Reads.global
  value_reads w Value.other n e = err_no_ok _ n e

  pub typed_value : {v : TypedVal} → Typed g σ v → Going (typed g.world σ.env v.ty v.val)
  unfolding typed
  typed_value (w, n, s, r) = (n, bind_step _ _ (scalar_width s) (reads_value r))

  pub value_typed : (v : TypedVal) (n : ℕ) → typed g.world σ.env v.ty v.val ≡ ok n → Typed g σ v
  unfolding typed
  value_typed v n e = let (w, a, b) = bind_ok (width_of v.ty) _ n e in (w, n, width_scalar v.ty w a, value_reads w v.val n b)

-- ---- operations
-- a test, then an answer
tested : {A : Type 0} {b : Bool} (s : Stop) (a : A) → b ≡ true → Going (bind (need b s) (λ _. ok a))
tested s a e = onward _ (need_ok s e) (a, refl)

pub untested : {A : Type 0} (b : Bool) (s : Stop) (f : Unit {0} → Result A) (a : A) → bind (need b s) f ≡ ok a → (b ≡ true) × (f tt ≡ ok a)
untested b s f a e = let (u, h, k) = bind_ok (need b s) f a e in (need_true b s u h, k)

divides_tests : (w x y : ℕ) → Divides w x y → (nonzero (signed w y) ≡ true) × (ltb (mag (quot_z (signed w x) (signed w y))) (2 ^ (w - 1)) ≡ true)
divides_tests w x y (h, k) = (signed_nonzero w y h, lt-ltb _ _ (no_overflow w x y k))

module _ (w x y : ℕ) where
  pub defined_value : (op : BinOp) → Defined op w x y → Going (bin_value op w x y)
  unfolding bin_value
  defined_value BinOp.add h = (_, refl)
  defined_value BinOp.sub h = (_, refl)
  defined_value BinOp.mul h = (_, refl)
  defined_value BinOp.udiv h = tested Stop.undefined _ (lt-ltb 0 y h)
  defined_value BinOp.urem h = tested Stop.undefined _ (lt-ltb 0 y h)
  defined_value BinOp.sdiv h = let (a, b) = divides_tests w x y h in onward _ (need_ok Stop.undefined a) (tested Stop.undefined _ b)
  defined_value BinOp.srem h = let (a, b) = divides_tests w x y h in onward _ (need_ok Stop.undefined a) (tested Stop.undefined _ b)
  defined_value BinOp.and h = (_, refl)
  defined_value BinOp.or h = (_, refl)
  defined_value BinOp.xor h = (_, refl)
  defined_value BinOp.shl h = tested Stop.undefined _ (lt-ltb y w h)
  defined_value BinOp.lshr h = tested Stop.undefined _ (lt-ltb y w h)
  defined_value BinOp.ashr h = tested Stop.undefined _ (lt-ltb y w h)

  divided : (n : ℕ) (r : Result ℕ) → bind (need (nonzero (signed w y)) Stop.undefined) (λ _. bind (need (ltb (mag (quot_z (signed w x) (signed w y))) (2 ^ (w - 1))) Stop.undefined) (λ _. r)) ≡ ok n → Divides w x y
  divided n r e =
      let (a, e₁) = untested _ _ _ n e in
      let (b, e₂) = untested (ltb (mag (quot_z (signed w x) (signed w y))) (2 ^ (w - 1))) Stop.undefined (λ _. r) n e₁ in
      (nonzero_signed w y a, overflow_no w x y (ltb-true _ _ b))

  pub value_defined : (op : BinOp) (n : ℕ) → bin_value op w x y ≡ ok n → Defined op w x y
  unfolding bin_value
  value_defined BinOp.add n e = tt
  value_defined BinOp.sub n e = tt
  value_defined BinOp.mul n e = tt
  value_defined BinOp.udiv n e = ltb-true 0 y (untested _ _ _ n e).0
  value_defined BinOp.urem n e = ltb-true 0 y (untested _ _ _ n e).0
  value_defined BinOp.sdiv n e = divided n _ e
  value_defined BinOp.srem n e = divided n _ e
  value_defined BinOp.and n e = tt
  value_defined BinOp.or n e = tt
  value_defined BinOp.xor n e = tt
  value_defined BinOp.shl n e = ltb-true y w (untested _ _ _ n e).0
  value_defined BinOp.lshr n e = ltb-true y w (untested _ _ _ n e).0
  value_defined BinOp.ashr n e = ltb-true y w (untested _ _ _ n e).0

module _ (fw tw : ℕ) where
  pub converts_widths : (op : ConvOp) → Converts op fw tw → conv_widths op fw tw ≡ true
  unfolding conv_widths
  converts_widths ConvOp.trunc h = lt-ltb tw fw h
  converts_widths ConvOp.zext h = lt-ltb fw tw h
  converts_widths ConvOp.sext h = lt-ltb fw tw h
  converts_widths ConvOp.ptr_to_int h = eq-eqb fw 64 h
  converts_widths ConvOp.int_to_ptr h = eq-eqb tw 64 h
  converts_widths ConvOp.bit_cast h = eq-eqb fw tw h

  pub widths_convert : (op : ConvOp) → conv_widths op fw tw ≡ true → Converts op fw tw
  unfolding conv_widths
  widths_convert ConvOp.trunc h = ltb-true tw fw h
  widths_convert ConvOp.zext h = ltb-true fw tw h
  widths_convert ConvOp.sext h = ltb-true fw tw h
  widths_convert ConvOp.ptr_to_int h = eqb-true fw 64 h
  widths_convert ConvOp.int_to_ptr h = eqb-true tw 64 h
  widths_convert ConvOp.bit_cast h = eqb-true fw tw h
