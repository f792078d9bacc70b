-- A place among the fields of a struct, over the lent slices.
use Rattle.std.specs.Prelude.{ℕ, ◌+◌, ◌≤◌, ◌≡◌, List, length, get_or, drop}
use Rattle.std.proofs.Common.{sym, ap, ◌∙◌, subst, arith}
use Rattle.book.specs.Entry.{entries}
use Rattle.book_types.specs.Laws.{entries_part, within_kinds, within_words}
use Rattle.layout_memo.specs.Front.{Starts, ty_len}
use Rattle.layout_memo.specs.Calls.{lent}
use Rattle.layout_memo.specs.Fields.{AtFields, at_field, at_next}

-- ---- a place among the fields
module _ (m : ℕ) (ks ws : List ℕ) (a : ℕ) (f : AtFields m ks ws a) where
  pub place_kinds : a + 1 ≤ length ks
  place_kinds = within_kinds (a + 1) ks ws (omega (arith, f.there))

  pub place_words : a + 1 ≤ length ws
  place_words = within_words (a + 1) ks ws (omega (arith, f.there))

  pub place_few : a + 1 ≤ 1048576
  place_few = omega (arith, f.there, f.few)

  pub place_starts : (get_or ks a 0 ≡ 0 → ⊥) → Starts m (lent ks ws a)
  place_starts z = subst (Starts m) (sym (entries_part a ks ws)) (at_field f z).field

  module _ (z : get_or ks a 0 ≡ 0 → ⊥) (n : ℕ) (e : n ≡ ty_len m (lent ks ws a)) where
    pub skipped : n ≡ ty_len m (drop a (entries ks ws))
    skipped = e ∙ ap (ty_len m) (entries_part a ks ws)

    pub place_next : a + n + 1 ≤ length ks
    place_next = within_kinds (a + n + 1) ks ws (omega (arith, (at_next f z).there, skipped))

    pub next_few : a + n + 1 ≤ 1048576
    next_few = omega (arith, (at_next f z).there, f.few, skipped)

    pub place_moves : 1 ≤ n
    place_moves = omega (arith, (at_field f z).there, skipped)
