-- Laws that the helpers' proofs cite.
use Rattle.std.specs.Prelude.{ℕ, ◌≤◌, ◌≡◌, Bool, true, false, List}
use Rattle.std.proofs.Math.Path.{refl, ap}
use Rattle.std.proofs.Common.{◌∙◌, arith}
use Rattle.book.specs.Entry.{Entry}
use Rattle.book.specs.Read.{Read, got, bad}
use Rattle.book.specs.Result.{Result}
use Rattle.book.specs.Decode.{type_to}
use Rattle.book_types.specs.Length.{len_of}
use Rattle.std.specs.Prelude.{Option, unwrap_or}
use Rattle.layout.specs.Layout.{placed}
use Rattle.numbers.specs.Align.{align_up}
use Rattle.std.specs.Prelude.{Ok, Err}
use Rattle.book.specs.declared.refusal.Refusal.{Refusal}
use Rattle.layout_memo.specs.Measured.{Measured, bytes_of, Gives, Measures}
use Rattle.layout_memo.specs.Front.{ty_len, count_of}
use Rattle.layout_memo.specs.Work.{sizes, aligns, size_small, align_small}
use Rattle.layout_memo.specs.Arms.{SmallBytes}
use Rattle.book.specs.Ast.{Ty, StructType}

module _ (r : Measured) {n h : ℕ} (e : r ≡ bytes_of n h) where
  pub gives_at : (f : ℕ → Result ℕ) (level : ℕ) → Measures f level r → Gives f level n h
  gives_at f level m = rw e at m

pub refused_at : (r : Measured) {x : Refusal} (f : ℕ → Result ℕ) (level : ℕ) → r ≡ Err x → Measures f level r → Measures f level (Err x)
refused_at r f level e m = rw e at m

-- ---- the length of a type
module _ (m : ℕ) (es : List Entry) where
  pub skip_is : (r : Option ℕ) → r ≡ len_of (type_to m 64 es) → unwrap_or r 0 ≡ ty_len m es
  unfolding ty_len
  skip_is r e = ap (λ o. unwrap_or o 0) e ∙ go (type_to m 64 es)
    where
      go : {A : Type 0} (x : Read A) → unwrap_or (len_of x) 0 ≡ count_of x
      go (got a n) = refl
      go bad = refl

-- ---- what is measured within 64 levels is small
pub size_bytes : (structs : List StructType) (t : Ty) (level : ℕ) (r : Measured) → level ≤ 64 → Measures (sizes structs t) level r → SmallBytes r
size_bytes structs t level (Ok b) l m = size_small structs t (omega (arith, m.within)) m.known
size_bytes structs t level (Err e) l m = tt

pub align_bytes : (structs : List StructType) (t : Ty) (level : ℕ) (r : Measured) → level ≤ 64 → Measures (aligns structs t) level r → SmallBytes r
align_bytes structs t level (Ok b) l m = let s = align_small structs t (omega (arith, m.within)) m.known in let q : b.bytes ≤ 8 = s.1 in omega arith
align_bytes structs t level (Err e) l m = tt

-- ---- places
pub placed_packed : (packed : Bool) (off a : ℕ) → packed ≡ true → off ≡ placed packed off a
unfolding placed
placed_packed packed off a e = rw e refl

pub placed_free : (packed : Bool) (off a r : ℕ) → packed ≡ false → r ≡ align_up off a → r ≡ placed packed off a
unfolding placed
placed_free packed off a r e q = rw e q
