-- Law: an alignment is 1, 2, 4 or 8.
use Prim.Native.Nat.{ℕ, zero, suc, ◌≤◌, max}
use Rattle.std.specs.Prelude.{◌≡◌, refl, Bool, List, leb}
use Rattle.std.proofs.Math.Bool.{true, false}
use Rattle.std.proofs.Common.{arith, leb-true, leb-false}
use Rattle.numbers.specs.Width.{int_bytes, width_ok, width_each}
use Rattle.book.specs.Ast.{Ty, Tys, StructType}
use Rattle.book.specs.Result.{Result, ok, err_no_ok, bind_ok, given_ok}
use Rattle.layout.specs.Layout.{int_size, max_align, struct_align, as_type, resolve, align_at, align_of}

pub data Natural : ℕ → Type 0 where
  one : Natural 1
  two : Natural 2
  four : Natural 4
  eight : Natural 8

pub natural_pos : {a : ℕ} → Natural a → 1 ≤ a
natural_pos one = omega arith
natural_pos two = omega arith
natural_pos four = omega arith
natural_pos eight = omega arith

width_natural : (w : ℕ) → width_ok w ≡ true → Natural (int_bytes w)
width_natural = width_each (λ (w : ℕ). Natural (int_bytes w)) one one two four eight

pub int_natural : (w : ℕ) {a : ℕ} → int_size w ≡ ok a → Natural a
unfolding int_size
int_natural w {a} h = let g = given_ok (width_ok w) 6 (int_bytes w) a h in rw g.1 at (width_natural w g.0)

pub max_natural : {a b : ℕ} → Natural a → Natural b → Natural (max a b)
max_natural {a} {b} m n = go (leb a b) refl
  where
    go : (t : Bool) → leb a b ≡ t → Natural (max a b)
    go true e = let l = leb-true a b e in let q : max a b ≡ b = omega arith in rw q n
    go false e = let l = leb-false a b e in let q : max a b ≡ a = omega arith in rw q m

-- every alignment that f answers is 1, 2, 4 or 8
abbrev pub Naturals : (f : Ty → Result ℕ) → Type 0
Naturals f = (t : Ty) (a : ℕ) → f t ≡ ok a → Natural a

module _ {al : Ty → Result ℕ} (part : Naturals al) where
  pub max_align_natural : (ts : Tys) {m a : ℕ} → Natural m → max_align al ts m ≡ ok a → Natural a
  unfolding max_align
  max_align_natural Tys.nil {m} {a} n h = let e : m ≡ a = cc in rw e at n
  max_align_natural (Tys.cons t ts) {m} {a} n h =
      let b = bind_ok (al t) (λ b. max_align al ts (max m b)) a h in
      max_align_natural ts (max_natural n (part t b.0 b.1)) b.2

  pub struct_align_natural : (p : Bool) (ts : Tys) {a : ℕ} → struct_align al (record { packed = p; fields = ts }) ≡ ok a → Natural a
  unfolding struct_align
  struct_align_natural true ts {a} h = let e : 1 ≡ a = cc in rw e at one
  struct_align_natural false ts h = max_align_natural ts one h

module _ (structs : List StructType) where
  pub align_natural : (k : ℕ) → Naturals (align_at structs k)
  unfolding align_at
  align_natural zero t a h = err_no_ok 7 a h
  align_natural (suc k) Ty.void a h = let e : 1 ≡ a = cc in rw e at one
  align_natural (suc k) Ty.ptr a h = let e : 8 ≡ a = cc in rw e at eight
  align_natural (suc k) (Ty.sizeless s) a h = err_no_ok 6 a h
  align_natural (suc k) (Ty.int w) a h = int_natural w h
  align_natural (suc k) (Ty.array p n t) a h = align_natural k t a h
  align_natural (suc k) (Ty.named_struct x) a h =
      let b = bind_ok (resolve structs x) (λ b. align_at structs k (as_type b)) a h in
      align_natural k (as_type b.0) a b.2
  align_natural (suc k) (Ty.struct p ts) a h = struct_align_natural (align_natural k) p ts h

  -- alignments are 1, 2, 4 or 8
  pub align_of_natural : Naturals (align_of structs)
  unfolding align_of
  align_of_natural = align_natural 64
