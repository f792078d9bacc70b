-- The loop over a struct's fields that finds the largest alignment.
use Rattle.std.specs.Prelude.{ℕ, ◌+◌, max, ◌≡◌, List, get_or, drop}
use Rattle.std.proofs.Math.Path.{refl}
use Rattle.std.proofs.Math.Bool.{true, false}
use Rattle.book.specs.Entry.{entries}
use Rattle.book.specs.Ast.{StructType}
use Rattle.book.specs.Result.{Result, err, bind}
use Rattle.layout.specs.Layout.{max_align, struct_align, align_at}
use Rattle.layout_memo.specs.Measured.{Gives, Progress, progress_start, progress_bind, progress_refused, progress_bytes}
use Rattle.layout_memo.specs.Fields.{AtFields, at_start_lem, at_nil, at_next, at_cons}
use Rattle.layout_memo.specs.Front.{StartsFields, ty_of, tys_of, ty_len}
use Rattle.layout_memo.specs.Work.{aligns}
use Rattle.layout_memo.specs.Arms.{field_aligns}

-- ---- alignment
module _ (structs : List StructType) (m : ℕ) (ks ws : List ℕ) (level : ℕ) where
  abbrev aligns_from : ℕ → ℕ → ℕ → Result ℕ
  aligns_from a al k = max_align (align_at structs k) (tys_of m (drop a (entries ks ws))) al

  pub record AlignLoop (a al h : ℕ) : Type 0 where
    pub place : AtFields m ks ws a
    pub goes : Progress (field_aligns structs false (tys_of m (entries ks ws))) (aligns_from a al) h level

  pub align_start : StartsFields m (entries ks ws) → AlignLoop 0 1 0
  unfolding struct_align
  align_start s = record { place = at_start_lem m ks ws s; goes = progress_start (field_aligns structs false (tys_of m (entries ks ws))) level }

  module _ {a al h : ℕ} (l : AlignLoop a al h) where
    pub align_done : get_or ks a 0 ≡ 0 → Gives (field_aligns structs false (tys_of m (entries ks ws))) level al h
    unfolding max_align
    align_done z = progress_bytes l.goes (λ k. rw (at_nil l.place z) refl)

    module _ (z : get_or ks a 0 ≡ 0 → ⊥) where
      align_field : (k : ℕ) → aligns_from a al k ≡ bind (aligns structs (ty_of m (drop a (entries ks ws))) k) (λ b. aligns_from (a + ty_len m (drop a (entries ks ws))) (max al b) k)
      unfolding max_align
      align_field k = rw (at_cons l.place z) refl

      pub align_refused : {e : ℕ} → aligns structs (ty_of m (drop a (entries ks ws))) level ≡ err e → field_aligns structs false (tys_of m (entries ks ws)) level ≡ err e
      align_refused r = progress_refused l.goes (aligns structs (ty_of m (drop a (entries ks ws)))) (λ b. aligns_from (a + ty_len m (drop a (entries ks ws))) (max al b)) align_field r

      pub align_next : {b hb : ℕ} → Gives (aligns structs (ty_of m (drop a (entries ks ws)))) level b hb → AlignLoop (a + ty_len m (drop a (entries ks ws))) (max al b) (max h hb)
      align_next r =
          record {
            place = at_next l.place z;
            goes = progress_bind l.goes (aligns structs (ty_of m (drop a (entries ks ws)))) (λ b. aligns_from (a + ty_len m (drop a (entries ks ws))) (max al b)) align_field r;
          }

  pub packed_align : Gives (field_aligns structs true (tys_of m (entries ks ws))) level 1 0
  unfolding struct_align
  packed_align = progress_bytes (progress_start (field_aligns structs true (tys_of m (entries ks ws))) level) (λ k. refl)
