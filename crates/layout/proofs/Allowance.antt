-- Law: a success does not depend on a larger allowance.
use Prim.Native.Nat.{ℕ, zero, suc, ◌+◌, ◌*◌, max}
use Rattle.std.specs.Prelude.{◌≡◌, Bool, List}
use Rattle.std.proofs.Math.Bool.{true, false}
use Rattle.std.proofs.Common.{arith}
use Rattle.book.specs.Ast.{Ty, Tys, StructType}
use Rattle.book.specs.Result.{Result, ok, bind, err_no_ok, bind_ok}
use Rattle.layout.specs.Layout.{limit, placed, max_align, struct_align, size_from, struct_size, as_type, resolve, align_at, size_at}

-- what f answers, g answers too
abbrev pub Within : (f g : Ty → Result ℕ) → Type 0
Within f g = (t : Ty) (n : ℕ) → f t ≡ ok n → g t ≡ ok n

module _ {al al' : Ty → Result ℕ} (a⊑ : Within al al') where
  max_align_within : (ts : Tys) (m a : ℕ) → max_align al ts m ≡ ok a → max_align al' ts m ≡ ok a
  unfolding max_align bind
  max_align_within Tys.nil m a h = h
  max_align_within (Tys.cons t ts) m a h =
      let x = bind_ok (al t) (λ b. max_align al ts (max m b)) a h in
      rw (a⊑ t x.0 x.1) (max_align_within ts (max m x.0) a x.2)

  pub struct_align_within : (p : Bool) (ts : Tys) (a : ℕ) → struct_align al (record { packed = p; fields = ts }) ≡ ok a → struct_align al' (record { packed = p; fields = ts }) ≡ ok a
  unfolding struct_align
  struct_align_within true ts a h = h
  struct_align_within false ts a h = max_align_within ts 1 a h

module _ {al al' sz sz' : Ty → Result ℕ} (a⊑ : Within al al') (s⊑ : Within sz sz') where
  pub size_from_within : (p : Bool) (ts : Tys) (off m s : ℕ) → size_from al sz p ts off m ≡ ok s → size_from al' sz' p ts off m ≡ ok s
  unfolding size_from bind
  size_from_within p Tys.nil off m s h = h
  size_from_within p (Tys.cons t ts) off m s h =
      let x = bind_ok (al t) (λ b. bind (sz t) (λ z. size_from al sz p ts (placed p off b + z) (max m b))) s h in
      let y = bind_ok (sz t) (λ z. size_from al sz p ts (placed p off x.0 + z) (max m x.0)) s x.2 in
      rw (a⊑ t x.0 x.1, s⊑ t y.0 y.1) (size_from_within p ts (placed p off x.0 + y.0) (max m x.0) s y.2)

module _ (structs : List StructType) where
  pub align_one_more : (k : ℕ) → Within (align_at structs k) (align_at structs (suc k))
  unfolding align_at bind
  align_one_more zero t a h = err_no_ok 7 a h
  align_one_more (suc k) Ty.void a h = h
  align_one_more (suc k) Ty.ptr a h = h
  align_one_more (suc k) (Ty.sizeless s) a h = h
  align_one_more (suc k) (Ty.int w) a h = h
  align_one_more (suc k) (Ty.array p n t) a h = align_one_more k t a h
  align_one_more (suc k) (Ty.named_struct x) a h =
      let b = bind_ok (resolve structs x) (λ b. align_at structs k (as_type b)) a h in
      rw b.1 (align_one_more k (as_type b.0) a b.2)
  align_one_more (suc k) (Ty.struct p ts) a h = struct_align_within (align_one_more k) p ts a h

  pub size_one_more : (k : ℕ) → Within (size_at structs k) (size_at structs (suc k))
  unfolding size_at struct_size bind
  size_one_more zero t a h = err_no_ok 7 a h
  size_one_more (suc k) Ty.void a h = h
  size_one_more (suc k) Ty.ptr a h = h
  size_one_more (suc k) (Ty.sizeless s) a h = h
  size_one_more (suc k) (Ty.int w) a h = h
  size_one_more (suc k) (Ty.array p n t) a h =
      let b = bind_ok (size_at structs k t) (λ e. limit (n * e)) a h in
      rw (size_one_more k t b.0 b.1) b.2
  size_one_more (suc k) (Ty.named_struct x) a h =
      let b = bind_ok (resolve structs x) (λ b. size_at structs k (as_type b)) a h in
      rw b.1 (size_one_more k (as_type b.0) a b.2)
  size_one_more (suc k) (Ty.struct p ts) a h = size_from_within (align_one_more k) (size_one_more k) p ts 0 1 a h

  -- d levels more
  pub align_more : (d k : ℕ) → Within (align_at structs k) (align_at structs (d + k))
  align_more zero k t a h = let e : 0 + k ≡ k = omega arith in rw e h
  align_more (suc d) k t a h = let e : suc d + k ≡ suc (d + k) = omega arith in rw e (align_one_more (d + k) t a (align_more d k t a h))

  pub size_more : (d k : ℕ) → Within (size_at structs k) (size_at structs (d + k))
  size_more zero k t a h = let e : 0 + k ≡ k = omega arith in rw e h
  size_more (suc d) k t a h = let e : suc d + k ≡ suc (d + k) = omega arith in rw e (size_one_more (d + k) t a (size_more d k t a h))
