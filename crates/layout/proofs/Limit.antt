-- Laws: a size is at most 2^24; what has a size has an alignment.
use Prim.Native.Nat.{ℕ, zero, suc, ◌+◌, ◌*◌, ◌^◌, ◌≤◌, max}
use Rattle.std.specs.Prelude.{◌≡◌, Bool, List, leb}
use Rattle.std.proofs.Math.Path.{refl}
use Rattle.std.proofs.Math.Bool.{true, false}
use native.Mathlib.Omega.{arith}
use Rattle.std.proofs.Common.{leb-true}
use Rattle.book.specs.Ast.{Ty, Tys, StructType}
use Rattle.book.specs.Result.{Result, ok, bind, err_no_ok, bind_ok, bind_step, given_ok}
use Rattle.layout.specs.Layout.{limit, placed, max_align, struct_align, size_from, struct_size, as_type, resolve, align_at, size_at, align_of, size_of}
use Rattle.layout.specs.Natural.{Natural, one, two, four, eight, int_natural}
use Rattle.layout.proofs.Parts.{Answers}

limit_le : (n : ℕ) {s : ℕ} → limit n ≡ ok s → s ≤ 2 ^ 24
unfolding limit
limit_le n {s} h =
    let g = given_ok (leb n (2 ^ 24)) 7 n s h in
    let l = leb-true n (2 ^ 24) g.0 in
    let e = g.1 in
    omega arith

natural_le : {a : ℕ} → Natural a → a ≤ 8
natural_le one = omega arith
natural_le two = omega arith
natural_le four = omega arith
natural_le eight = omega arith

small : {n s : ℕ} → n ≤ 8 → ok n ≡ ok s → s ≤ 2 ^ 24
small {n} {s} l h = let e : n ≡ s = cc in omega arith

module _ (al sz : Ty → Result ℕ) where
  size_from_limit : (p : Bool) (ts : Tys) (off m : ℕ) {s : ℕ} → size_from al sz p ts off m ≡ ok s → s ≤ 2 ^ 24
  unfolding size_from
  size_from_limit p Tys.nil off m h = limit_le (placed p off m) h
  size_from_limit p (Tys.cons t ts) off m {s} h =
      let x = bind_ok (al t) (λ b. bind (sz t) (λ z. size_from al sz p ts (placed p off b + z) (max m b))) s h in
      let y = bind_ok (sz t) (λ z. size_from al sz p ts (placed p off x.0 + z) (max m x.0)) s x.2 in
      size_from_limit p ts (placed p off x.0 + y.0) (max m x.0) y.2

  -- the fields of a struct that has a size have a largest alignment
  max_align_answers : (p : Bool) (ts : Tys) (off m n : ℕ) {s : ℕ} → size_from al sz p ts off m ≡ ok s → Answers (max_align al ts n)
  unfolding size_from max_align
  max_align_answers p Tys.nil off m n h = record { answer = n; says = refl }
  max_align_answers p (Tys.cons t ts) off m n {s} h =
      let x = bind_ok (al t) (λ b. bind (sz t) (λ z. size_from al sz p ts (placed p off b + z) (max m b))) s h in
      let y = bind_ok (sz t) (λ z. size_from al sz p ts (placed p off x.0 + z) (max m x.0)) s x.2 in
      let r = max_align_answers p ts (placed p off x.0 + y.0) (max m x.0) (max n x.0) y.2 in
      record { answer = r.answer; says = bind_step (al t) (λ b. max_align al ts (max n b)) x.1 r.says }

  struct_align_answers : (p : Bool) (ts : Tys) {s : ℕ} → size_from al sz p ts 0 1 ≡ ok s → Answers (struct_align al (record { packed = p; fields = ts }))
  unfolding struct_align
  struct_align_answers true ts h = record { answer = 1; says = refl }
  struct_align_answers false ts h = max_align_answers false ts 0 1 1 h

module _ (structs : List StructType) where
  size_limit : (k : ℕ) (t : Ty) (s : ℕ) → size_at structs k t ≡ ok s → s ≤ 2 ^ 24
  unfolding size_at struct_size
  size_limit zero t s h = err_no_ok 7 s h
  size_limit (suc k) Ty.void s h = small (omega arith) h
  size_limit (suc k) Ty.ptr s h = small (omega arith) h
  size_limit (suc k) (Ty.sizeless z) s h = err_no_ok 6 s h
  size_limit (suc k) (Ty.int w) s h = let l = natural_le (int_natural w h) in omega arith
  size_limit (suc k) (Ty.array p n t) s h =
      let b = bind_ok (size_at structs k t) (λ e. limit (n * e)) s h in
      limit_le (n * b.0) b.2
  size_limit (suc k) (Ty.named_struct x) s h =
      let b = bind_ok (resolve structs x) (λ b. size_at structs k (as_type b)) s h in
      size_limit k (as_type b.0) s b.2
  size_limit (suc k) (Ty.struct p ts) s h = size_from_limit (align_at structs k) (size_at structs k) p ts 0 1 h

  size_aligned : (k : ℕ) (t : Ty) (s : ℕ) → size_at structs k t ≡ ok s → Answers (align_at structs k t)
  unfolding size_at align_at struct_size
  size_aligned zero t s h = err_no_ok 7 s h
  size_aligned (suc k) Ty.void s h = record { answer = 1; says = refl }
  size_aligned (suc k) Ty.ptr s h = record { answer = 8; says = refl }
  size_aligned (suc k) (Ty.sizeless z) s h = err_no_ok 6 s h
  size_aligned (suc k) (Ty.int w) s h = record { answer = s; says = h }
  size_aligned (suc k) (Ty.array p n t) s h =
      let b = bind_ok (size_at structs k t) (λ e. limit (n * e)) s h in
      size_aligned k t b.0 b.1
  size_aligned (suc k) (Ty.named_struct x) s h =
      let b = bind_ok (resolve structs x) (λ b. size_at structs k (as_type b)) s h in
      let r = size_aligned k (as_type b.0) s b.2 in
      record { answer = r.answer; says = bind_step (resolve structs x) (λ b. align_at structs k (as_type b)) b.1 r.says }
  size_aligned (suc k) (Ty.struct p ts) s h = struct_align_answers (align_at structs k) (size_at structs k) p ts h

  -- a size is at most 2^24
  pub size_of_limit : (t : Ty) (s : ℕ) → size_of structs t ≡ ok s → s ≤ 2 ^ 24
  unfolding size_of
  size_of_limit = size_limit 64

  -- what has a size has an alignment
  pub size_of_aligned : (t : Ty) (s : ℕ) → size_of structs t ≡ ok s → Answers (align_of structs t)
  unfolding size_of align_of
  size_of_aligned = size_aligned 64
