-- A getelementptr's offset is there exactly where its indices can be read, lead on and are measured.
use Prim.Native.Nat.{ℕ, ◌-◌, ◌^◌}
use Rattle.std.specs.Prelude.{◌≡◌}
use Rattle.std.proofs.Math.Path.{refl, ap, subst}
use Rattle.std.proofs.Common.{sym, ◌∙◌}
use Rattle.std.proofs.Math.Option.{none, some}
use mathlib.Core.List.{List, [], ◌∷◌}
use Rattle.book.specs.Ast.{Ty, Value, TypedVal, StructBody}
use Rattle.book.specs.Result.{Result, ok, bind, ok_or, err_no_ok, bind_ok, bind_step}
use Rattle.layout.specs.Layout.{resolve, size_of, field_offset}
use Rattle.layout.specs.Step.{const_int, field_at}
use Rattle.manual.specs.Stop.{Stop, stop_number}
use Rattle.manual.specs.Values.{in_signed_range}
use Rattle.manual.specs.State.{Given, Source}
use Rattle.manual.specs.Operand.{width_of, value}
use Rattle.manual.specs.Gep.{index_at, index, over_elements, over_fields, into, offset_in, offset}
use Rattle.manual.specs.Goes.{Index, Leads, Way, Indices}
use Rattle.manual.specs.Measured.{Sized, Offset, MeasuredStep, MeasuredWay, MeasuredIndices}
use Rattle.machine.specs.Cells.{none_some}
use Rattle.manual.specs.Going.{ok_same, Going, onward, need_ok, ok_or_ok, ok_or_some}
use Rattle.manual.specs.Exact.{scalar_width, width_scalar, outside, inside, untested, reads_value, value_reads}

-- an integer, where one is found
pub const_is : (v : Value) (k : ℕ) → const_int v ≡ some k → v ≡ Value.int k
unfolding const_int
const_is (Value.int c) k e = cc
const_is (Value.local x) k e = none_some k e
const_is (Value.global x) k e = none_some k e
const_is (Value.zero z) k e = none_some k e
const_is Value.other k e = none_some k e

int_same : (k j : ℕ) → Value.int k ≡ Value.int j → k ≡ j
int_same k j e = cc

module _ (g : Given) (σ : Source) where
  -- ---- an index
  abbrev At : Ty → Value → Result ℕ
  At ty v = bind (width_of ty) (λ w. index_at g.world g.structs σ.env w v (const_int v))

  index_at_lem : {ty : Ty} {v : Value} → Index g σ ty v → Going (At ty v)
  unfolding index_at const_int in_signed_range
  index_at_lem (Index.constant {w = w} {c = c} s r) = onward _ (scalar_width s) (onward _ (need_ok Stop.index_range (outside c (2 ^ (w - 1)) (2 ^ 64 - 2 ^ (w - 1)) r)) (c, refl))
  index_at_lem (Index.varying h s r) = onward _ (scalar_width s) (rw h (onward _ (reads_value g σ r) (_, refl)))

  varied : (ty : Ty) (v : Value) (n : ℕ) → const_int v ≡ none → At ty v ≡ ok n → Index g σ ty v
  unfolding index_at
  varied ty v n h e =
      let (w, a, k) = bind_ok (width_of ty) _ n (subst (λ c. bind (width_of ty) (λ w. index_at g.world g.structs σ.env w v c) ≡ ok n) h e) in
      let (x, b, c) = bind_ok (value g.world σ.env w v) _ n k in
      Index.varying h (width_scalar ty w a) (value_reads g σ w v x b)

  at_index : (ty : Ty) (v : Value) (n : ℕ) → At ty v ≡ ok n → Index g σ ty v
  unfolding index_at const_int in_signed_range
  at_index ty (Value.int c) n e =
      let (w, a, k) = bind_ok (width_of ty) _ n e in
      Index.constant (width_scalar ty w a) (inside c (2 ^ (w - 1)) (2 ^ 64 - 2 ^ (w - 1)) (untested _ _ _ n k).0)
  at_index ty (Value.local x) n e = varied ty (Value.local x) n refl e
  at_index ty (Value.global x) n e = varied ty (Value.global x) n refl e
  at_index ty (Value.zero z) n e = varied ty (Value.zero z) n refl e
  at_index ty Value.other n e = varied ty Value.other n refl e

  abbrev Steps : TypedVal → Type 0
  Steps i = Index g σ i.ty i.val

  steps_index : (i : TypedVal) → Steps i → Going (index g.world g.structs σ.env i)
  unfolding index
  steps_index i h = index_at_lem h

  index_steps : (i : TypedVal) (n : ℕ) → index g.world g.structs σ.env i ≡ ok n → Steps i
  unfolding index
  index_steps i n e = at_index i.ty i.val n e

  -- ---- a step
  elements_go : (ty : Ty) (i : TypedVal) → Sized g.structs ty → Steps i → Going (over_elements g.world g.structs σ.env ty i)
  unfolding over_elements
  elements_go ty i (n, h) s = onward _ h (onward _ (steps_index i s).1 (_, refl))

  gone_elements : (ty : Ty) (i : TypedVal) (n : ℕ) → over_elements g.world g.structs σ.env ty i ≡ ok n → Sized g.structs ty × Steps i
  unfolding over_elements
  gone_elements ty i n e =
      let (size, a, e₁) = bind_ok (size_of g.structs ty) _ n e in
      let (k, b, e₂) = bind_ok (index g.world g.structs σ.env i) _ n e₁ in
      ((size, a), index_steps i k b)

  fields_go : (body : StructBody) (i : TypedVal) (k : ℕ) (next : Ty) → i.val ≡ Value.int k → field_at body.fields k ≡ some next → Offset g.structs body i.val → Steps i
      → (off : ℕ) × (over_fields g.world g.structs σ.env body i ≡ ok (off, next))
  unfolding over_fields const_int
  fields_go body i k next e f m s =
      let (off, o) = m k e in
      let c : const_int i.val ≡ some k = rw e refl in
      (off, bind_step _ _ (steps_index i s).1 (bind_step _ _ (ok_or_ok _ c) (bind_step _ _ (ok_or_ok _ f) (bind_step _ _ o refl))))

  record Field (body : StructBody) (i : TypedVal) (next : Ty) : Type 0 where
    steps : Steps i
    place : ℕ
    constant : i.val ≡ Value.int place
    leads : field_at body.fields place ≡ some next
    measured : Offset g.structs body i.val

  gone_fields : (body : StructBody) (i : TypedVal) (p : ℕ × Ty) → over_fields g.world g.structs σ.env body i ≡ ok p → Field body i p.1
  unfolding over_fields
  gone_fields body i p e =
      let (n, a, e₁) = bind_ok (index g.world g.structs σ.env i) _ p e in
      let (k, b, e₂) = bind_ok (ok_or (stop_number Stop.ill_formed) (const_int i.val)) _ p e₁ in
      let (next, c, e₃) = bind_ok (ok_or (stop_number Stop.ill_formed) (field_at body.fields k)) _ p e₂ in
      let (off, d, e₄) = bind_ok (field_offset g.structs body k) _ p e₃ in
      let v : i.val ≡ Value.int k = const_is i.val k (ok_or_some _ (const_int i.val) k b) in
      record {
        steps = index_steps i n a;
        place = k;
        constant = v;
        leads = ok_or_some _ _ next c ∙ ap (λ (q : ℕ × Ty). some q.1) (ok_same e₄);
        measured = λ j h. (off, subst (λ z. field_offset g.structs body z ≡ ok off) (int_same k j (sym v ∙ h)) d);
      }

  -- one index into a type
  abbrev Into : Ty → TypedVal → Result (ℕ × Ty)
  Into ty i = into g.world g.structs σ.env ty i

  into_go : (ty : Ty) (i : TypedVal) (next : Ty) → Leads g.structs ty i.val next → MeasuredStep g.structs ty i.val → Steps i → (off : ℕ) × (Into ty i ≡ ok (off, next))
  unfolding into
  into_go ty i next l = go refl l
    where
      go : {t : Ty} {v : Value} {n : Ty} → i.val ≡ v → Leads g.structs t v n → MeasuredStep g.structs t i.val → Steps i → (off : ℕ) × (Into t i ≡ ok (off, n))
      go e (Leads.element {elem = elem}) m s = let (off, h) = elements_go elem i m s in (off, bind_step _ _ h refl)
      go e (Leads.field {p = p} {ts = ts} {k = k} {next = n} f) m s = fields_go (record { packed = p; fields = ts }) i k n e f m s
      go e (Leads.named {body = body} {k = k} {next = n} r f) (body', r', m) s =
          let (off, h) = fields_go body i k n e f (subst (λ b. Offset g.structs b i.val) (ok_same (sym r' ∙ r)) m) s in
          (off, bind_step _ _ r h)

  record Stepped (ty : Ty) (i : TypedVal) (next : Ty) : Type 0 where
    steps : Steps i
    leads : Leads g.structs ty i.val next
    measured : MeasuredStep g.structs ty i.val

  gone_into : (ty : Ty) (i : TypedVal) (p : ℕ × Ty) → Into ty i ≡ ok p → Stepped ty i p.1
  unfolding into
  gone_into (Ty.struct q ts) i p e =
      let f = gone_fields (record { packed = q; fields = ts }) i p e in
      record { steps = f.steps; leads = rw f.constant (Leads.field f.leads); measured = f.measured }
  gone_into (Ty.named_struct x) i p e =
      let (body, r, e₁) = bind_ok (resolve g.structs x) _ p e in
      let f = gone_fields body i p e₁ in
      record { steps = f.steps; leads = rw f.constant (Leads.named r f.leads); measured = (body, r, f.measured) }
  gone_into (Ty.array q n elem) i p e =
      let (off, h, e₁) = bind_ok (over_elements g.world g.structs σ.env elem i) _ p e in
      let (m, s) = gone_elements elem i off h in
      record { steps = s; leads = subst (λ t. Leads g.structs (Ty.array q n elem) i.val t) (ap (λ (z : ℕ × Ty). z.1) (ok_same e₁)) Leads.element; measured = m }
  gone_into Ty.void i p e = err_no_ok _ p e
  gone_into Ty.ptr i p e = err_no_ok _ p e
  gone_into (Ty.int w) i p e = err_no_ok _ p e
  gone_into (Ty.sizeless s) i p e = err_no_ok _ p e

  pub into_leads : (ty : Ty) (i : TypedVal) (p : ℕ × Ty) → Into ty i ≡ ok p → Leads g.structs ty i.val p.1
  into_leads ty i p e = (gone_into ty i p e).leads

  -- ---- all of them
  way_go : (ty : Ty) (is : List TypedVal) → MeasuredWay g.structs ty is → Way g σ ty is → Going (offset_in g.world g.structs σ.env ty is)
  unfolding offset_in
  way_go ty [] m Way.end = (0, refl)
  way_go ty (i ∷ is) (m, n) (Way.step {next = next} s l w) =
      let (off, h) = into_go ty i next l m s in
      onward _ h (onward _ (way_go next is (n next l) w).1 (_, refl))

  gone_way : (ty : Ty) (is : List TypedVal) (n : ℕ) → offset_in g.world g.structs σ.env ty is ≡ ok n → MeasuredWay g.structs ty is × Way g σ ty is
  unfolding offset_in
  gone_way ty [] n e = (tt, Way.end)
  gone_way ty (i ∷ is) n e =
      let (p, h, e₁) = bind_ok (Into ty i) _ n e in
      let (r, k, e₂) = bind_ok (offset_in g.world g.structs σ.env p.1 is) _ n e₁ in
      let t = gone_into ty i p h in
      let (m, w) = gone_way p.1 is r k in
      ((t.measured, λ next l. same next l t.steps t.measured p h m), Way.step t.steps t.leads w)
    where
      -- an index leads to one type
      same : (next : Ty) → Leads g.structs ty i.val next → Steps i → MeasuredStep g.structs ty i.val → (p : ℕ × Ty) → Into ty i ≡ ok p
          → MeasuredWay g.structs p.1 is → MeasuredWay g.structs next is
      same next l s m p h w =
          let (off, k) = into_go ty i next l m s in
          let z : p ≡ (off, next) = ok_same (sym h ∙ k) in
          subst (λ t. MeasuredWay g.structs t is) (ap (λ (q : ℕ × Ty). q.1) z) w

  pub indices_go : (ty : Ty) (is : List TypedVal) → MeasuredIndices g.structs ty is → Indices g σ ty is → Going (offset g.world g.structs σ.env ty is)
  unfolding offset
  indices_go ty [] m Indices.nil = (0, refl)
  indices_go ty (i ∷ is) (m, n) (Indices.first s w) = onward _ (elements_go ty i m s).1 (onward _ (way_go ty is n w).1 (_, refl))

  pub gone_indices : (ty : Ty) (is : List TypedVal) (n : ℕ) → offset g.world g.structs σ.env ty is ≡ ok n → MeasuredIndices g.structs ty is × Indices g σ ty is
  unfolding offset
  gone_indices ty [] n e = (tt, Indices.nil)
  gone_indices ty (i ∷ is) n e =
      let (off, h, e₁) = bind_ok (over_elements g.world g.structs σ.env ty i) _ n e in
      let (r, k, e₂) = bind_ok (offset_in g.world g.structs σ.env ty is) _ n e₁ in
      let (m, s) = gone_elements ty i off h in
      let (m', w) = gone_way ty is r k in
      ((m, m'), Indices.first s w)
