-- Law: a measurement refuses with 6 or 7, a field's offset and a step with 14 too; so no refusal is 0.
use Prim.Native.Nat.{ℕ, zero, suc, ◌+◌, ◌*◌, ◌<◌, ◌^◌, max}
use Rattle.std.specs.Prelude.{◌≡◌, Bool, List, leb}
use Rattle.std.proofs.Math.Bool.{true, false}
use Rattle.std.proofs.Math.Option.{Option, none, some}
use Rattle.std.proofs.Common.{arith}
use Rattle.numbers.specs.Width.{int_bytes, width_ok}
use Rattle.book.specs.Ast.{Ty, Tys, Value, StructBody, StructType}
use Rattle.book.specs.Rule.{find}
use Rattle.book.specs.Result.{Result, ok, err, bind, ok_or, given}
use Rattle.layout.specs.Layout.{limit, int_size, placed, max_align, struct_align, size_from, struct_size, align_in, offset_from, body_of, as_type, resolve, align_at, size_at, align_of, size_of, field_offset}
use Rattle.layout.specs.Step.{const_int, field_at, struct_step, gep_step}

pub data LayoutRefusal : ℕ → Type 0 where
  six : LayoutRefusal 6
  seven : LayoutRefusal 7
  fourteen : LayoutRefusal 14

pub refusal_positive : {e : ℕ} → LayoutRefusal e → 0 < e
refusal_positive six = omega arith
refusal_positive seven = omega arith
refusal_positive fourteen = omega arith

-- where this refuses, it is with one of them
abbrev pub Refusing : {A : Type 0} → Result A → Type 0
Refusing (ok a) = Unit {0}
Refusing (err e) = LayoutRefusal e

pub refusing_err : {A : Type 0} (r : Result A) {e : ℕ} → Refusing r → r ≡ err e → LayoutRefusal e
refusing_err r p h = rw h at p

-- ---- chains and tests
module _ {A B : Type 0} where
  bind_refusing : (r : Result A) (f : A → Result B) → Refusing r → ((a : A) → Refusing (f a)) → Refusing (bind r f)
  unfolding bind
  bind_refusing (ok a) f p q = q a
  bind_refusing (err e) f p q = p

module _ {A : Type 0} {e : ℕ} (p : LayoutRefusal e) where
  given_refusing : (b : Bool) (a : A) → Refusing (given b e a)
  unfolding given
  given_refusing true a = tt
  given_refusing false a = p

  option_refusing : (o : Option A) → Refusing (ok_or e o)
  unfolding ok_or
  option_refusing none = p
  option_refusing (some a) = tt

limit_refusing : (n : ℕ) → Refusing (limit n)
unfolding limit
limit_refusing n = given_refusing seven (leb n (2 ^ 24)) n

int_refusing : (w : ℕ) → Refusing (int_size w)
unfolding int_size
int_refusing w = given_refusing six (width_ok w) (int_bytes w)

body_refusing : (o : Option StructType) → Refusing (body_of o)
unfolding body_of
body_refusing none = six
body_refusing (some s) = option_refusing six s.body

-- ---- a struct's fields
module _ (al : Ty → Result ℕ) (aligns : (t : Ty) → Refusing (al t)) where
  max_align_refusing : (ts : Tys) (a : ℕ) → Refusing (max_align al ts a)
  unfolding max_align
  max_align_refusing Tys.nil a = tt
  max_align_refusing (Tys.cons t ts) a = bind_refusing (al t) _ (aligns t) (λ b. max_align_refusing ts (max a b))

  struct_align_refusing : (p : Bool) (ts : Tys) → Refusing (struct_align al (record { packed = p; fields = ts }))
  unfolding struct_align
  struct_align_refusing true ts = tt
  struct_align_refusing false ts = max_align_refusing ts 1

module _ (al sz : Ty → Result ℕ) (aligns : (t : Ty) → Refusing (al t)) (sizes : (t : Ty) → Refusing (sz t)) where
  size_from_refusing : (p : Bool) (ts : Tys) (off m : ℕ) → Refusing (size_from al sz p ts off m)
  unfolding size_from
  size_from_refusing p Tys.nil off m = limit_refusing (placed p off m)
  size_from_refusing p (Tys.cons t ts) off m =
      bind_refusing (al t) _ (aligns t) (λ a. bind_refusing (sz t) _ (sizes t) (λ s. size_from_refusing p ts (placed p off a + s) (max m a)))

  align_in_refusing : (p : Bool) (t : Ty) → Refusing (align_in al sz p t)
  unfolding align_in
  align_in_refusing true t = tt
  align_in_refusing false t = aligns t

  offset_from_refusing : (p : Bool) (ts : Tys) (idx off : ℕ) → Refusing (offset_from al sz p ts idx off)
  unfolding offset_from
  offset_from_refusing p Tys.nil idx off = fourteen
  offset_from_refusing p (Tys.cons t ts) zero off = bind_refusing (align_in al sz p t) _ (align_in_refusing p t) (λ a. tt)
  offset_from_refusing p (Tys.cons t ts) (suc idx) off =
      bind_refusing (align_in al sz p t) _ (align_in_refusing p t) (λ a. bind_refusing (sz t) _ (sizes t) (λ s. offset_from_refusing p ts idx (placed p off a + s)))

module _ (structs : List StructType) where
  resolve_refusing : (x : ℕ) → Refusing (resolve structs x)
  unfolding resolve
  resolve_refusing x = body_refusing (find (λ (s : StructType). s.name) x structs)

  -- ---- a type, with any allowance
  pub align_refusing : (k : ℕ) (t : Ty) → Refusing (align_at structs k t)
  unfolding align_at
  align_refusing zero t = seven
  align_refusing (suc k) Ty.void = tt
  align_refusing (suc k) Ty.ptr = tt
  align_refusing (suc k) (Ty.sizeless s) = six
  align_refusing (suc k) (Ty.int w) = int_refusing w
  align_refusing (suc k) (Ty.array p n t) = align_refusing k t
  align_refusing (suc k) (Ty.named_struct x) = bind_refusing (resolve structs x) _ (resolve_refusing x) (λ b. align_refusing k (as_type b))
  align_refusing (suc k) (Ty.struct p ts) = struct_align_refusing (align_at structs k) (align_refusing k) p ts

  pub size_refusing : (k : ℕ) (t : Ty) → Refusing (size_at structs k t)
  unfolding size_at struct_size
  size_refusing zero t = seven
  size_refusing (suc k) Ty.void = tt
  size_refusing (suc k) Ty.ptr = tt
  size_refusing (suc k) (Ty.sizeless s) = six
  size_refusing (suc k) (Ty.int w) = int_refusing w
  size_refusing (suc k) (Ty.array p n t) = bind_refusing (size_at structs k t) _ (size_refusing k t) (λ s. limit_refusing (n * s))
  size_refusing (suc k) (Ty.named_struct x) = bind_refusing (resolve structs x) _ (resolve_refusing x) (λ b. size_refusing k (as_type b))
  size_refusing (suc k) (Ty.struct p ts) = size_from_refusing (align_at structs k) (size_at structs k) (align_refusing k) (size_refusing k) p ts 0 1

  pub align_of_refusing : (t : Ty) → Refusing (align_of structs t)
  unfolding align_of
  align_of_refusing t = align_refusing 64 t

  pub size_of_refusing : (t : Ty) → Refusing (size_of structs t)
  unfolding size_of
  size_of_refusing t = size_refusing 64 t

  -- ---- a field's offset, and a step
  pub field_offset_refusing : (body : StructBody) (idx : ℕ) → Refusing (field_offset structs body idx)
  unfolding field_offset
  field_offset_refusing body idx = offset_from_refusing (align_of structs) (size_of structs) align_of_refusing size_of_refusing body.packed body.fields idx 0

  struct_step_refusing : (body : StructBody) (idx : Value) → Refusing (struct_step structs body idx)
  unfolding struct_step
  struct_step_refusing body idx =
      bind_refusing (ok_or 14 (const_int idx)) _ (option_refusing fourteen (const_int idx)) (λ field.
      bind_refusing (ok_or 14 (field_at body.fields field)) _ (option_refusing fourteen (field_at body.fields field)) (λ next.
      bind_refusing (field_offset structs body field) _ (field_offset_refusing body field) (λ off. tt)))

  pub gep_step_refusing : (t : Ty) (idx : Value) → Refusing (gep_step structs t idx)
  unfolding gep_step
  gep_step_refusing (Ty.struct p ts) idx = struct_step_refusing (record { packed = p; fields = ts }) idx
  gep_step_refusing (Ty.named_struct x) idx = bind_refusing (resolve structs x) _ (resolve_refusing x) (λ body. struct_step_refusing body idx)
  gep_step_refusing (Ty.array p n elem) idx = bind_refusing (size_of structs elem) _ (size_of_refusing elem) (λ size. tt)
  gep_step_refusing Ty.void idx = fourteen
  gep_step_refusing Ty.ptr idx = fourteen
  gep_step_refusing (Ty.int w) idx = fourteen
  gep_step_refusing (Ty.sizeless s) idx = fourteen
