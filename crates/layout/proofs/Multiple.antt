-- Law: a size is a multiple of the alignment.
use Prim.Native.Nat.{ℕ, zero, suc, ◌+◌, ◌-◌, ◌*◌, ◌/◌, ◌^◌, max}
use Rattle.std.specs.Prelude.{◌≡◌, Bool, List, leb}
use Rattle.std.proofs.Math.Path.{sym}
use Rattle.std.proofs.Common.{ap, ◌∙◌, mul_assoc, mul-one, one-mul}
use Rattle.std.proofs.Math.Bool.{true, false}
use native.Mathlib.Omega.{arith}
use Rattle.numbers.specs.Align.{align_up, align_step}
use Rattle.book.specs.Ast.{Ty, Tys, StructType}
use Rattle.book.specs.Result.{Result, ok, bind, err_no_ok, bind_ok, given_ok}
use Rattle.layout.specs.Layout.{limit, placed, max_align, struct_align, size_from, struct_size, as_type, resolve, align_at, size_at, align_of, size_of}
use Rattle.layout.specs.Natural.{Natural, one, Naturals, natural_pos, max_natural, align_natural}

pub record Multiple (s a : ℕ) : Type 0 where
  pub times : ℕ
  pub same : s ≡ times * a

pub limit_ok : {n s : ℕ} → limit n ≡ ok s → n ≡ s
unfolding limit
limit_ok {n} {s} h = (given_ok (leb n (2 ^ 24)) 7 n s h).1

self : (a : ℕ) → Multiple a a
self a = record { times = 1; same = sym (one-mul a) }

times_multiple : (n : ℕ) {s a : ℕ} → Multiple s a → Multiple (n * s) a
times_multiple n {s} {a} m = record { times = n * m.times; same = ap (λ (x : ℕ). n * x) m.same ∙ sym (mul_assoc n m.times a) }

-- what is rounded up is a multiple
up_multiple : {a : ℕ} (off : ℕ) → Natural a → Multiple (align_up off a) a
up_multiple {a} off n = record { times = (off + (a - 1)) / a; same = align_step off a (natural_pos n) }

module _ {al : Ty → Result ℕ} (sz : Ty → Result ℕ) (part : Naturals al) where
  size_from_multiple : (ts : Tys) (off : ℕ) {m s a : ℕ} → Natural m → size_from al sz false ts off m ≡ ok s → max_align al ts m ≡ ok a → Multiple s a
  unfolding size_from max_align placed
  size_from_multiple Tys.nil off {m} {s} {a} n h g =
      let e : align_up off m ≡ s = limit_ok h in
      let d : m ≡ a = cc in
      rw (← e, ← d) (up_multiple off n)
  size_from_multiple (Tys.cons t ts) off {m} {s} {a} n h g =
      let x = bind_ok (al t) (λ b. bind (sz t) (λ z. size_from al sz false ts (align_up off b + z) (max m b))) s h in
      let y = bind_ok (sz t) (λ z. size_from al sz false ts (align_up off x.0 + z) (max m x.0)) s x.2 in
      let w = bind_ok (al t) (λ b. max_align al ts (max m b)) a g in
      let q : w.0 ≡ x.0 = cc (x.1, w.1) in
      size_from_multiple ts _ (max_natural n (part t x.0 x.1)) y.2 (rw q at w.2)

  pub struct_multiple : (p : Bool) (ts : Tys) {s a : ℕ} → struct_size al sz (record { packed = p; fields = ts }) ≡ ok s
      → struct_align al (record { packed = p; fields = ts }) ≡ ok a → Multiple s a
  unfolding struct_size struct_align
  struct_multiple true ts {s} {a} h g = let e : 1 ≡ a = cc in rw (← e) (record { times = s; same = sym (mul-one s) })
  struct_multiple false ts h g = size_from_multiple ts 0 one h g

module _ (structs : List StructType) where
  pub size_multiple : (k : ℕ) (t : Ty) {s a : ℕ} → size_at structs k t ≡ ok s → align_at structs k t ≡ ok a → Multiple s a
  unfolding size_at align_at
  size_multiple zero t {s} {a} h g = err_no_ok 7 s h
  size_multiple (suc k) Ty.void {s} {a} h g = let e : 0 ≡ s = cc in rw (← e) (record { times = 0; same = omega arith })
  size_multiple (suc k) Ty.ptr {s} {a} h g = let e : s ≡ a = cc in rw e (self a)
  size_multiple (suc k) (Ty.sizeless z) {s} {a} h g = err_no_ok 6 s h
  size_multiple (suc k) (Ty.int w) {s} {a} h g = let e : s ≡ a = cc in rw e (self a)
  size_multiple (suc k) (Ty.array p n t) {s} {a} h g =
      let b = bind_ok (size_at structs k t) (λ e. limit (n * e)) s h in
      rw (limit_ok b.2) at (times_multiple n (size_multiple k t b.1 g))
  size_multiple (suc k) (Ty.named_struct x) {s} {a} h g =
      let b = bind_ok (resolve structs x) (λ b. size_at structs k (as_type b)) s h in
      let c = bind_ok (resolve structs x) (λ b. align_at structs k (as_type b)) a g in
      let q : c.0 ≡ b.0 = cc (b.1, c.1) in
      size_multiple k (as_type b.0) b.2 (rw q at c.2)
  size_multiple (suc k) (Ty.struct p ts) h g = struct_multiple (size_at structs k) (align_natural structs k) p ts h g

  -- a size is a multiple of the alignment
  pub size_of_multiple : (t : Ty) {s a : ℕ} → size_of structs t ≡ ok s → align_of structs t ≡ ok a → Multiple s a
  unfolding size_of align_of
  size_of_multiple t h g = size_multiple 64 t h g
