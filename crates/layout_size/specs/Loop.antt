-- The loop over a struct's fields that adds their sizes.
use Rattle.std.specs.Prelude.{ℕ, ◌+◌, ◌*◌, ◌≤◌, max, ◌≡◌, Bool, List, get_or, drop}
use Rattle.std.proofs.Math.Path.{refl}
use Rattle.std.proofs.Math.Bool.{true, false}
use native.Mathlib.Omega.{arith}
use Rattle.std.proofs.Math.Dec.{leb}
use Rattle.book.specs.Entry.{entries}
use Rattle.book.specs.Ast.{Ty, StructType}
use Rattle.book.specs.Result.{Result, err, bind, given}
use Rattle.layout.specs.Layout.{limit, placed, size_from, struct_size, align_at, size_at}
use Rattle.layout_memo.specs.Measured.{bytes_of, Gives, Measures, Progress, progress_start, progress_bind, progress_refused, progress_bytes, progress_err}
use Rattle.layout_memo.specs.Fields.{AtFields, at_start_lem, at_nil, at_field, at_next, at_cons}
use Rattle.layout_size.specs.Sums.{SmallSum, SmallField, added, closed, placed_most}
use Rattle.layout_memo.specs.Front.{StartsFields, ty_of, tys_of, ty_len}
use Rattle.layout_memo.specs.Work.{sizes, aligns, align_small, size_small, pick_measured}
use Rattle.layout_memo.specs.Arms.{field_sizes}
use Rattle.std.specs.Prelude.{Err}
use Rattle.book.specs.declared.refusal.Refusal.TheVariants as refusal
use Rattle.layout_size.specs.declared.Sum.{Sum}

-- ---- size
module _ (structs : List StructType) (m : ℕ) (ks ws : List ℕ) (packed : Bool) (level : ℕ) (levels : level ≤ 64) where
  abbrev sizes_from : ℕ → (off al : ℕ) → ℕ → Result ℕ
  sizes_from a off al k = size_from (align_at structs k) (size_at structs k) packed (tys_of m (drop a (entries ks ws))) off al

  pub record SizeLoop (a : ℕ) (sum : Sum) : Type 0 where
    pub place : AtFields m ks ws a
    pub goes : Progress (field_sizes structs packed (tys_of m (entries ks ws))) (sizes_from a sum.offset sum.align) sum.levels level
    pub offset : sum.offset ≤ a * 33554432
    pub align : sum.align ≤ 8

  pub size_start : StartsFields m (entries ks ws) → SizeLoop 0 (record { offset = 0; align = 1; levels = 0 })
  unfolding struct_size
  size_start s = record { place = at_start_lem m ks ws s; goes = progress_start (field_sizes structs packed (tys_of m (entries ks ws))) level; offset = omega arith; align = omega arith }

  module _ {a : ℕ} {sum : Sum} (l : SizeLoop a sum) where
    pub small_sum : SmallSum sum.offset sum.align
    small_sum = (omega (arith, l.offset, l.place.there, l.place.few), l.align)

    pub size_done : get_or ks a 0 ≡ 0 → Measures (field_sizes structs packed (tys_of m (entries ks ws))) level (closed sum packed)
    unfolding size_from limit given
    size_done z = go (leb (placed packed sum.offset sum.align) 16777216) refl
      where
        go : (b : Bool) → leb (placed packed sum.offset sum.align) 16777216 ≡ b
            → Measures (field_sizes structs packed (tys_of m (entries ks ws))) level (pick_measured b (bytes_of (placed packed sum.offset sum.align) sum.levels) (Err refusal.TooLarge))
        go true e = progress_bytes l.goes (λ k. rw (at_nil l.place z, e) refl)
        go false e = progress_err l.goes (λ k. rw (at_nil l.place z, e) refl)

    module _ (z : get_or ks a 0 ≡ 0 → ⊥) where
      abbrev field : Ty
      field = ty_of m (drop a (entries ks ws))

      abbrev next : ℕ
      next = a + ty_len m (drop a (entries ks ws))

      abbrev behind_align : ℕ → ℕ → Result ℕ
      behind_align b k = bind (sizes structs field k) (λ s. sizes_from next (placed packed sum.offset b + s) (max sum.align b) k)

      size_field : (k : ℕ) → sizes_from a sum.offset sum.align k ≡ bind (aligns structs field k) (λ b. behind_align b k)
      unfolding size_from
      size_field k = rw (at_cons l.place z) refl

      pub size_align_refused : {e : ℕ} → aligns structs field level ≡ err e → field_sizes structs packed (tys_of m (entries ks ws)) level ≡ err e
      size_align_refused r = progress_refused l.goes (aligns structs field) behind_align size_field r

      module _ {b hb : ℕ} (g : Gives (aligns structs field) level b hb) where
        pub field_align : b ≤ 8
        field_align = (align_small structs field (omega (arith, g.within)) g.known).1

        size_aligned : Progress (field_sizes structs packed (tys_of m (entries ks ws))) (behind_align b) (max sum.levels hb) level
        size_aligned = progress_bind l.goes (aligns structs field) behind_align size_field g

        pub size_refused : {e : ℕ} → sizes structs field level ≡ err e → field_sizes structs packed (tys_of m (entries ks ws)) level ≡ err e
        size_refused r = progress_refused size_aligned (sizes structs field) (λ s. sizes_from next (placed packed sum.offset b + s) (max sum.align b)) (λ k. refl) r

        module _ {s hs : ℕ} (h : Gives (sizes structs field) level s hs) where
          field_size : s ≤ 16777216
          field_size = size_small structs field (omega (arith, h.within)) h.known

          pub small_field : SmallField sum.offset b s
          small_field = (small_sum.0, (field_align, field_size))

          pub size_next : SizeLoop next (added sum packed b hb s hs)
          size_next =
              let n : 1 ≤ ty_len m (drop a (entries ks ws)) = (at_field l.place z).there in
              let p = placed_most packed sum.offset b field_align in
              let fs = field_size in
              let fa = field_align in
              record {
                place = at_next l.place z;
                goes = progress_bind size_aligned (sizes structs field) (λ s. sizes_from next (placed packed sum.offset b + s) (max sum.align b)) (λ k. refl) h;
                offset = omega (arith, l.offset);
                align = omega (arith, l.align);
              }
