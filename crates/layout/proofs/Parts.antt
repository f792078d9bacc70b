-- Laws: a part of a measured type is measured; a field with its size stays within its struct.
use Prim.Native.Nat.{ℕ, zero, suc, ◌+◌, ◌*◌, ◌≤◌, max}
use Rattle.std.specs.Prelude.{◌≡◌, Bool, List}
use Rattle.std.proofs.Math.Path.{refl, subst}
use Rattle.std.proofs.Common.{◌∙◌}
use Rattle.std.proofs.Math.Bool.{true, false}
use Rattle.std.proofs.Math.Option.{none, some}
use native.Mathlib.Omega.{arith}
use Rattle.numbers.specs.Align.{align_le}
use Rattle.book.specs.Ast.{Ty, Tys, StructBody, StructType}
use Rattle.book.specs.Result.{Result, ok, bind, bind_ok, bind_step}
use Rattle.layout.specs.Layout.{limit, placed, size_from, struct_size, align_in, offset_from, as_type, resolve, align_at, size_at, align_of, size_of, field_offset}
use Rattle.layout.specs.Step.{field_at}
use Rattle.layout.proofs.Multiple.{limit_ok}
use Rattle.layout.proofs.Allowance.{size_from_within, align_one_more, size_one_more}

pub record Answers (r : Result ℕ) : Type 0 where
  pub answer : ℕ
  pub says : r ≡ ok answer

-- a field of a struct of s bytes: its offset, from `off` on, and its size
pub record Inside (offset size : Result ℕ) (off s : ℕ) : Type 0 where
  pub at : ℕ
  pub bytes : ℕ
  pub placed_at : offset ≡ ok at
  pub measured : size ≡ ok bytes
  pub from : off ≤ at
  pub fits : at + bytes ≤ s

no_field : {X : Type 0} (t : Ty) → none ≡ some t → X
no_field t h = absurd (let z : ◌≡◌ {A = ℕ} 0 1 = cc in omega arith)

placed_le : (p : Bool) (off a : ℕ) → off ≤ placed p off a
unfolding placed
placed_le true off a = omega arith
placed_le false off a = align_le off a

module _ (al sz : Ty → Result ℕ) where
  -- a struct ends no earlier than what came before
  size_from_le : (p : Bool) (ts : Tys) (off m : ℕ) {s : ℕ} → size_from al sz p ts off m ≡ ok s → off ≤ s
  unfolding size_from
  size_from_le p Tys.nil off m h = rw (limit_ok h) at (placed_le p off m)
  size_from_le p (Tys.cons t ts) off m {s} h =
      let x = bind_ok (al t) (λ b. bind (sz t) (λ z. size_from al sz p ts (placed p off b + z) (max m b))) s h in
      let y = bind_ok (sz t) (λ z. size_from al sz p ts (placed p off x.0 + z) (max m x.0)) s x.2 in
      let below = placed_le p off x.0 in
      let rest = size_from_le p ts (placed p off x.0 + y.0) (max m x.0) y.2 in
      omega arith

  -- a field's alignment and size are measured
  pub field_aligned : (p : Bool) (ts : Tys) (i off m : ℕ) {s : ℕ} (t : Ty) → size_from al sz p ts off m ≡ ok s → field_at ts i ≡ some t → Answers (al t)
  unfolding size_from field_at
  field_aligned p Tys.nil i off m t h f = no_field t f
  field_aligned p (Tys.cons u ts) zero off m {s} t h f =
      let e : u ≡ t = cc in
      let x = bind_ok (al u) (λ b. bind (sz u) (λ z. size_from al sz p ts (placed p off b + z) (max m b))) s h in
      record { answer = x.0; says = subst (λ (v : Ty). al v ≡ ok x.0) e x.1 }
  field_aligned p (Tys.cons u ts) (suc i) off m {s} t h f =
      let x = bind_ok (al u) (λ b. bind (sz u) (λ z. size_from al sz p ts (placed p off b + z) (max m b))) s h in
      let y = bind_ok (sz u) (λ z. size_from al sz p ts (placed p off x.0 + z) (max m x.0)) s x.2 in
      field_aligned p ts i (placed p off x.0 + y.0) (max m x.0) t y.2 f

  align_in_lem : (p : Bool) (t : Ty) (a off : ℕ) → al t ≡ ok a → (r : ℕ → Result ℕ) → bind (align_in al sz p t) (λ b. r (placed p off b)) ≡ r (placed p off a)
  unfolding align_in placed bind
  align_in_lem true t a off h r = refl
  align_in_lem false t a off h r = rw h

  pub field_inside : (p : Bool) (ts : Tys) (i off m : ℕ) {s : ℕ} (t : Ty) → size_from al sz p ts off m ≡ ok s → field_at ts i ≡ some t
      → Inside (offset_from al sz p ts i off) (sz t) off s
  unfolding size_from offset_from field_at
  field_inside p Tys.nil i off m t h f = no_field t f
  field_inside p (Tys.cons u ts) zero off m {s} t h f =
      let e : u ≡ t = cc in
      let x = bind_ok (al u) (λ b. bind (sz u) (λ z. size_from al sz p ts (placed p off b + z) (max m b))) s h in
      let y = bind_ok (sz u) (λ z. size_from al sz p ts (placed p off x.0 + z) (max m x.0)) s x.2 in
      record {
        at = placed p off x.0;
        bytes = y.0;
        placed_at = align_in_lem p u x.0 off x.1 ok;
        measured = subst (λ (v : Ty). sz v ≡ ok y.0) e y.1;
        from = placed_le p off x.0;
        fits = size_from_le p ts (placed p off x.0 + y.0) (max m x.0) y.2;
      }
  field_inside p (Tys.cons u ts) (suc i) off m {s} t h f =
      let x = bind_ok (al u) (λ b. bind (sz u) (λ z. size_from al sz p ts (placed p off b + z) (max m b))) s h in
      let y = bind_ok (sz u) (λ z. size_from al sz p ts (placed p off x.0 + z) (max m x.0)) s x.2 in
      let below = placed_le p off x.0 in
      let r = field_inside p ts i (placed p off x.0 + y.0) (max m x.0) t y.2 f in
      record {
        at = r.at;
        bytes = r.bytes;
        placed_at = align_in_lem p u x.0 off x.1 (λ (o : ℕ). bind (sz u) (λ z. offset_from al sz p ts i (o + z))) ∙ bind_step (sz u) (λ z. offset_from al sz p ts i (placed p off x.0 + z)) y.1 r.placed_at;
        measured = r.measured;
        from = omega (arith, r.from);
        fits = r.fits;
      }

module _ (structs : List StructType) where
  array_at : (k : ℕ) (p : Bool) (n : ℕ) (t : Ty) {s : ℕ} → size_at structs (suc k) (Ty.array p n t) ≡ ok s → (e : ℕ) × (size_at structs (suc k) t ≡ ok e) × (n * e ≡ s)
  unfolding size_at
  array_at k p n t {s} h =
      let b = bind_ok (size_at structs k t) (λ e. limit (n * e)) s h in
      (b.0, size_one_more structs k t b.0 b.1, limit_ok b.2)

  named_at : (k : ℕ) (x : ℕ) {s : ℕ} → size_at structs (suc k) (Ty.named_struct x) ≡ ok s → (b : StructBody) × (resolve structs x ≡ ok b) × (size_at structs (suc k) (as_type b) ≡ ok s)
  unfolding size_at
  named_at k x {s} h =
      let b = bind_ok (resolve structs x) (λ b. size_at structs k (as_type b)) s h in
      (b.0, b.1, size_one_more structs k (as_type b.0) s b.2)

  fields_at : (k : ℕ) (body : StructBody) {s : ℕ} → size_at structs (suc k) (as_type body) ≡ ok s
      → size_from (align_at structs (suc k)) (size_at structs (suc k)) body.packed body.fields 0 1 ≡ ok s
  unfolding size_at struct_size
  fields_at k body {s} h = size_from_within (align_one_more structs k) (size_one_more structs k) body.packed body.fields 0 1 s h

  -- the element of a measured array is measured, and as often in it as it has elements
  pub array_part : (p : Bool) (n : ℕ) (t : Ty) {s : ℕ} → size_of structs (Ty.array p n t) ≡ ok s → (e : ℕ) × (size_of structs t ≡ ok e) × (n * e ≡ s)
  unfolding size_of
  array_part p n t h = array_at 63 p n t h

  -- a measured named struct has a measured body of its size
  pub named_part : (x : ℕ) {s : ℕ} → size_of structs (Ty.named_struct x) ≡ ok s → (b : StructBody) × (resolve structs x ≡ ok b) × (size_of structs (as_type b) ≡ ok s)
  unfolding size_of
  named_part x h = named_at 63 x h

  -- the fields of a measured struct are measured
  fields_measured : (body : StructBody) {s : ℕ} → size_of structs (as_type body) ≡ ok s → size_from (align_of structs) (size_of structs) body.packed body.fields 0 1 ≡ ok s
  unfolding size_of align_of
  fields_measured body h = fields_at 63 body h

  -- a field of a measured struct has an alignment
  pub field_align : (body : StructBody) (i : ℕ) {s : ℕ} (t : Ty) → size_of structs (as_type body) ≡ ok s → field_at body.fields i ≡ some t → Answers (align_of structs t)
  field_align body i t h f = field_aligned (align_of structs) (size_of structs) body.packed body.fields i 0 1 t (fields_measured body h) f

  -- a field of a measured struct has an offset and a size, and lies within it
  pub field_part : (body : StructBody) (i : ℕ) {s : ℕ} (t : Ty) → size_of structs (as_type body) ≡ ok s → field_at body.fields i ≡ some t
      → Inside (field_offset structs body i) (size_of structs t) 0 s
  unfolding field_offset
  field_part body i t h f = field_inside (align_of structs) (size_of structs) body.packed body.fields i 0 1 t (fields_measured body h) f
