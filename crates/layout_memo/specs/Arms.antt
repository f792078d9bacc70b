-- The arms of measuring a type: from the answers for its parts to its own.
use Rattle.std.specs.Prelude.{ℕ, ◌+◌, ◌-◌, ◌*◌, ◌/◌, ◌≤◌, ◌^◌, ◌≡◌, Bool, true, false, List, leb, drop}
use Rattle.std.proofs.Math.Path.{refl}
use Rattle.std.proofs.Common.{arith}
use Rattle.numbers.specs.Width.{width_ok, int_bytes}
use Rattle.book.specs.Entry.{Entry}
use Rattle.book.specs.Ast.{Ty, Tys, Sizeless, StructType}
use Rattle.book.specs.Result.{Result, err, bind, given}
use Rattle.layout.specs.Layout.{limit, int_size, struct_align, struct_size, align_at, size_at}
use Rattle.std.specs.Prelude.{Ok, Err}
use Rattle.book.specs.declared.refusal.Refusal.TheVariants as refusal
use Rattle.layout_memo.specs.Measured.{Measured, bytes_of, Gives, Measures, one_more, leaf_known, leaf_refused, measures_up}
use Rattle.layout_memo.specs.Front.{ty_of}
use Rattle.layout_memo.specs.Work.{BodyAt, Placed, sizes, aligns, pick_measured}

-- as many as so often the bytes, at most 2^24
abbrev pub times_of : ℕ → Measured → Measured
times_of n (Ok m) = pick_measured (leb (n * m.bytes) 16777216) (bytes_of (n * m.bytes) m.levels) (Err refusal.TooLarge)
times_of n (Err e) = Err e

-- bytes up to 2^24
abbrev pub SmallBytes : Measured → Type 0
SmallBytes (Ok m) = m.bytes ≤ 16777216
SmallBytes (Err e) = Unit {0}

pub times_measures : (f : ℕ → Result ℕ) (n level : ℕ) (r : Measured) → Measures f level r → Measures (λ k. bind (f k) (λ s. limit (n * s))) level (times_of n r)
unfolding bind limit given
times_measures f n level (Err e) m = rw m refl
times_measures f n level (Ok a) m = go (leb (n * a.bytes) (2 ^ 24)) refl
  where
    go : (b : Bool) → leb (n * a.bytes) (2 ^ 24) ≡ b → Measures (λ k. bind (f k) (λ s. limit (n * s))) level (pick_measured b (bytes_of (n * a.bytes) a.levels) (Err refusal.TooLarge))
    go true e = record { known = record { low = λ k l. rw (m.known.low k l) refl; high = λ k l. rw (m.known.high k l, e) refl }; within = m.within }
    go false e = rw (m.known.high level m.within, e) refl

module _ (structs : List StructType) where
  -- the measures of a struct's fields, by the allowance
  abbrev pub field_sizes : Bool → Tys → ℕ → Result ℕ
  field_sizes p ts k = struct_size (align_at structs k) (size_at structs k) (record { packed = p; fields = ts })

  abbrev pub field_aligns : Bool → Tys → ℕ → Result ℕ
  field_aligns p ts k = struct_align (align_at structs k) (record { packed = p; fields = ts })

module _ (structs : List StructType) (t : Ty) (level : ℕ) where
  pub size_zero : level ≡ 0 → sizes structs t level ≡ err 7
  unfolding size_at
  size_zero z = rw z refl

  pub align_zero : level ≡ 0 → aligns structs t level ≡ err 7
  unfolding align_at
  align_zero z = rw z refl

  module _ (z : level ≡ 0 → ⊥) where
    pub size_void : t ≡ Ty.void → Gives (sizes structs t) level 0 1
    unfolding size_at
    size_void e = rw e (leaf_known (sizes structs Ty.void) 0 refl (λ k. refl) level z)

    pub align_void : t ≡ Ty.void → Gives (aligns structs t) level 1 1
    unfolding align_at
    align_void e = rw e (leaf_known (aligns structs Ty.void) 1 refl (λ k. refl) level z)

    pub size_ptr : t ≡ Ty.ptr → Gives (sizes structs t) level 8 1
    unfolding size_at
    size_ptr e = rw e (leaf_known (sizes structs Ty.ptr) 8 refl (λ k. refl) level z)

    pub align_ptr : t ≡ Ty.ptr → Gives (aligns structs t) level 8 1
    unfolding align_at
    align_ptr e = rw e (leaf_known (aligns structs Ty.ptr) 8 refl (λ k. refl) level z)

    pub size_int : (w : ℕ) → (t ≡ Ty.int w) × (width_ok w ≡ true) → Gives (sizes structs t) level ((w + 7) / 8) 1
    unfolding size_at int_size given
    size_int w e = rw e.0 (leaf_known (sizes structs (Ty.int w)) (int_bytes w) refl (λ k. rw e.1 refl) level z)

    pub align_int : (w : ℕ) → (t ≡ Ty.int w) × (width_ok w ≡ true) → Gives (aligns structs t) level ((w + 7) / 8) 1
    unfolding align_at int_size given
    align_int w e = rw e.0 (leaf_known (aligns structs (Ty.int w)) (int_bytes w) refl (λ k. rw e.1 refl) level z)

    pub size_sizeless : (s : Sizeless) × (t ≡ Ty.sizeless s) → sizes structs t level ≡ err 6
    unfolding size_at
    size_sizeless e = rw e.1 (leaf_refused (sizes structs (Ty.sizeless e.0)) 6 level (λ k. refl) z)

    pub align_sizeless : (s : Sizeless) × (t ≡ Ty.sizeless s) → aligns structs t level ≡ err 6
    unfolding align_at
    align_sizeless e = rw e.1 (leaf_refused (aligns structs (Ty.sizeless e.0)) 6 level (λ k. refl) z)

    pub size_array : (p : Bool) (n : ℕ) (u : Ty) → t ≡ Ty.array p n u → (r q s : Measured) → Measures (sizes structs u) (level - 1) r → q ≡ times_of n r → s ≡ one_more q → Measures (sizes structs t) level s
    unfolding size_at
    size_array p n u e r q s m eq es =
        rw (e, es, eq) (measures_up (sizes structs (Ty.array p n u)) (λ k. bind (sizes structs u k) (λ s. limit (n * s))) refl (λ k. refl) level z (times_of n r) (times_measures (sizes structs u) n (level - 1) r m))

    pub align_array : (p : Bool) (n : ℕ) (u : Ty) → t ≡ Ty.array p n u → (r s : Measured) → Measures (aligns structs u) (level - 1) r → s ≡ one_more r → Measures (aligns structs t) level s
    unfolding align_at
    align_array p n u e r s m es = rw (e, es) (measures_up (aligns structs (Ty.array p n u)) (aligns structs u) refl (λ k. refl) level z r m)

    pub size_struct : (p : Bool) (ts : Tys) → t ≡ Ty.struct p ts → (r s : Measured) → Measures (field_sizes structs p ts) (level - 1) r → s ≡ one_more r → Measures (sizes structs t) level s
    unfolding size_at
    size_struct p ts e r s m es = rw (e, es) (measures_up (sizes structs (Ty.struct p ts)) (field_sizes structs p ts) refl (λ k. refl) level z r m)

    pub align_struct : (p : Bool) (ts : Tys) → t ≡ Ty.struct p ts → (r s : Measured) → Measures (field_aligns structs p ts) (level - 1) r → s ≡ one_more r → Measures (aligns structs t) level s
    unfolding align_at
    align_struct p ts e r s m es = rw (e, es) (measures_up (aligns structs (Ty.struct p ts)) (field_aligns structs p ts) refl (λ k. refl) level z r m)

-- ---- a named struct
module _ (structs : List StructType) (m x level : ℕ) (bs : List Entry) (z : 1 ≤ level) where
  some_level : level ≡ 0 → ⊥
  some_level e = omega arith

  pub size_absent : (w : ℕ) → Placed structs m bs x w → w ≡ 0 → sizes structs (Ty.named_struct x) level ≡ err 6
  unfolding size_at bind
  size_absent w p e = leaf_refused (sizes structs (Ty.named_struct x)) 6 level (λ k. rw (p.absent e) refl) some_level

  pub align_absent : (w : ℕ) → Placed structs m bs x w → w ≡ 0 → aligns structs (Ty.named_struct x) level ≡ err 6
  unfolding align_at bind
  align_absent w p e = leaf_refused (aligns structs (Ty.named_struct x)) 6 level (λ k. rw (p.absent e) refl) some_level

  module _ (p : ℕ) (b : BodyAt structs m bs x p) (r s : Measured) (es : s ≡ one_more r) where
    pub size_body : Measures (sizes structs (ty_of m (drop p bs))) (level - 1) r → Measures (sizes structs (Ty.named_struct x)) level s
    unfolding size_at bind
    size_body g = rw es (measures_up (sizes structs (Ty.named_struct x)) (sizes structs (ty_of m (drop p bs))) refl (λ k. rw (b.resolved, b.same) refl) level some_level r g)

    pub align_body : Measures (aligns structs (ty_of m (drop p bs))) (level - 1) r → Measures (aligns structs (Ty.named_struct x)) level s
    unfolding align_at bind
    align_body g = rw es (measures_up (aligns structs (Ty.named_struct x)) (aligns structs (ty_of m (drop p bs))) refl (λ k. rw (b.resolved, b.same) refl) level some_level r g)
