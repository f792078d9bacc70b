-- Items of two entries, told by both; and the words that values may have, by their kinds.
use Rattle.std.specs.Prelude.{ℕ, ◌≤◌, ◌<◌, refl, Bool, true, false, ◌&&◌, ◌||◌, List, length, get_or, drop, eqb, leb, ltb}
use Rattle.std.proofs.Math.Path.{◌≡◌, sym}
use Rattle.std.proofs.Common.{ap, ◌∙◌, add-zero, arith, ne_eqb, leb-true, leb-false, length-drop, get_or-drop}
use Rattle.book.specs.Entry.{Entry, entries}
use Rattle.book.specs.Rule.{find}
use Rattle.book.specs.Kinds.{val_tag, val_tags, val_kind}
use Rattle.book.specs.Read.{Reader, both}
use Rattle.book.specs.Decode.{type, item}
use Rattle.book.specs.Forbidden.{other_item}
use Rattle.names.specs.Tests as tests
use Rattle.book_types.specs.Found.{found, found_of, pair_test, never}
use Rattle.book_types.specs.Laws.{entries_drop, front_of_lem}
use Rattle.book_types.specs.Leaf.{leaf_ok, leaf_one, leaf_not_other}
use Rattle.book_types.specs.Passes.{plain_found, plainly, found_got}
use Rattle.book_types.specs.Tables.{find_below, find_above, in_range_lem}
use Rattle.std.specs.Prelude.{Some}
use Rattle.book_values.specs.Items.{value_group_of, value_ok, atom_ok, atom_front, atom_reader, atom_test, item_of}
use Rattle.book_values.specs.ItemLaws.{atom_front_lem, typed_pair, index_pair, incoming_pair, case_pair, param_pair}
use Rattle.book_values.specs.declared.Atom.{Atom}
use Rattle.book_values.specs.declared.Atom.TheVariants as atom
use Rattle.book_values.specs.declared.Item.{Item}
use Rattle.book_values.specs.declared.Item.TheVariants.{«Type», Value, Block, Index, Align, Typed, GepIndex, Incoming, Case, Param}

-- ---- values
abbrev fits_low : ℕ → ℕ → ℕ → Type 0
fits_low m w k = (leb 30 k && ltb w m) ≡ value_ok m w (value_group_of (val_tag k))

pub value_low : (m k w : ℕ) → k < 32 → fits_low m w k
unfolding val_tag find val_tags
value_low m k w h = go (leb 30 k) refl
  where
    go : (t : Bool) → leb 30 k ≡ t → (t && ltb w m) ≡ value_ok m w (value_group_of (val_tag k))
    go true e = in_range_lem (λ k. ltb w m ≡ value_ok m w (value_group_of (val_tag k))) 30 2 (refl, (refl, tt)) k (leb-true 30 k e) h
    go false e = sym (ap (λ t. value_ok m w (value_group_of t)) (find_above val_kind k 29 val_tags refl (omega (arith, leb-false 30 k e))))

pub value_high : (m k w : ℕ) → 32 ≤ k → (eqb k 32 || (leb k 37 && eqb w 0)) ≡ value_ok m w (value_group_of (val_tag k))
unfolding val_tag find val_tags
value_high m k w h = go (leb k 37) refl
  where
    go : (t : Bool) → leb k 37 ≡ t → (eqb k 32 || (t && eqb w 0)) ≡ value_ok m w (value_group_of (val_tag k))
    go true e =
        in_range_lem (λ k. (eqb k 32 || eqb w 0) ≡ value_ok m w (value_group_of (val_tag k))) 32 6 (refl, (refl, (refl, (refl, (refl, (refl, tt)))))) k h
        (omega (arith, leb-true k 37 e))
    go false e =
        let l : 38 ≤ k = omega (arith, leb-false k 37 e) in
        rw (ne_eqb k 32 (λ z. omega arith)) (sym (ap (λ t. value_ok m w (value_group_of t)) (find_below val_kind k 38 val_tags refl l)))

-- ---- items
abbrev pub two_ok : ℕ → ℕ → ℕ → ℕ → ℕ → Item → Bool
two_ok m k w l v «Type» = false
two_ok m k w l v Value = false
two_ok m k w l v Block = false
two_ok m k w l v Index = false
two_ok m k w l v Align = false
two_ok m k w l v Typed = leaf_ok m k w && atom_ok m l v atom.Value
two_ok m k w l v GepIndex = leaf_ok m k w && atom_ok m l v atom.GepValue
two_ok m k w l v Incoming = atom_ok m k w atom.Value && atom_ok m l v atom.Block
two_ok m k w l v Case = atom_ok m k w atom.Case && atom_ok m l v atom.Block
two_ok m k w l v Param = atom_ok m k w atom.Param && leaf_ok m l v

-- two parts of one entry each
both_ones : {A B : Type 0} (ta : A → Bool) (tb : B → Bool) (p : Reader A) (q : Reader B) (es : List Entry) (x y : Bool)
    → found_of ta (p es) ≡ Some (found 1 x) → found_of tb (q (drop 1 es)) ≡ Some (found 1 y) → found_of (pair_test ta tb) (both p q es) ≡ Some (found 2 (x || y))
unfolding both
both_ones ta tb p q es x y hp hq =
    let g = found_got ta (p es) (found 1 x) hp in
    let h = found_got tb (q (drop 1 es)) (found 1 y) hq in
    rw (g.1.0, h.1.0, g.1.1, h.1.1)

module _ (m : ℕ) (ks ws : List ℕ) (i : ℕ) (p : i < length ks) (q : i < length ws) where
  abbrev kind_at : ℕ
  kind_at = get_or ks i 0

  abbrev word_at : ℕ
  word_at = get_or ws i 0

  kind_at_lem : get_or (drop i ks) 0 0 ≡ kind_at
  kind_at_lem = get_or-drop i ks 0 0 ∙ ap (λ j. get_or ks j 0) (add-zero i)

  word_at_lem : get_or (drop i ws) 0 0 ≡ word_at
  word_at_lem = get_or-drop i ws 0 0 ∙ ap (λ j. get_or ws j 0) (add-zero i)

  -- the entry at a place is an atom
  atom_at : (a : Atom) → atom_ok m kind_at word_at a ≡ true → found_of (atom_test a) (atom_reader m a (drop i (entries ks ws))) ≡ Some (found 1 (eqb kind_at 37))
  atom_at a h =
      ap (λ es. found_of (atom_test a) (atom_reader m a es)) (sym (entries_drop i ks ws)) ∙ atom_front_lem m a (entries (drop i ks) (drop i ws))
      ∙ ap (atom_front m a) (sym (front_of_lem (drop i ks) (drop i ws) (λ z. omega (arith, length-drop i ks)) (λ z. omega (arith, length-drop i ws))))
      ∙ rw (kind_at_lem, word_at_lem, h)

  -- the entry at a place is a type
  type_at : leaf_ok m kind_at word_at ≡ true → found_of never (type m (drop i (entries ks ws))) ≡ Some (found 1 (eqb kind_at 37))
  type_at h =
      ap (λ es. found_of never (type m es)) (sym (entries_drop i ks ws)) ∙ sym (plain_found (type m (entries (drop i ks) (drop i ws))))
      ∙ ap plainly (sym (leaf_one m 64 (drop i ks) (drop i ws) (λ z. omega arith) (λ z. omega (arith, length-drop i ks)) (λ z. omega (arith, length-drop i ws)) (rw (kind_at_lem, word_at_lem) h)))
      ∙ ap (λ b. Some (found 1 b)) (sym (leaf_not_other m kind_at word_at h))

module _ (m : ℕ) (ks ws : List ℕ) (p : 1 < length ks) (q : 1 < length ws) where
  abbrev here : List Entry
  here = entries ks ws

  pub two_found : (i : Item) → two_ok m (get_or ks 0 0) (get_or ws 0 0) (get_or ks 1 0) (get_or ws 1 0) i ≡ true
      → Some (found 2 (eqb (get_or ks 0 0) 37 || eqb (get_or ks 1 0) 37)) ≡ found_of (other_item (item_of i)) (item m (item_of i) here)
  unfolding item
  two_found «Type» h = absurd (let z : ◌≡◌ {A = ℕ} 0 1 = cc in omega arith)
  two_found Value h = absurd (let z : ◌≡◌ {A = ℕ} 0 1 = cc in omega arith)
  two_found Block h = absurd (let z : ◌≡◌ {A = ℕ} 0 1 = cc in omega arith)
  two_found Index h = absurd (let z : ◌≡◌ {A = ℕ} 0 1 = cc in omega arith)
  two_found Align h = absurd (let z : ◌≡◌ {A = ℕ} 0 1 = cc in omega arith)
  two_found Typed h =
      let b = tests.both _ _ h in
      sym (both_ones _ _ _ _ here _ _ (type_at m ks ws 0 (omega arith) (omega arith) b.0) (atom_at m ks ws 1 p q atom.Value b.1)) ∙ typed_pair m here
  two_found GepIndex h =
      let b = tests.both _ _ h in
      sym (both_ones _ _ _ _ here _ _ (type_at m ks ws 0 (omega arith) (omega arith) b.0) (atom_at m ks ws 1 p q atom.GepValue b.1)) ∙ index_pair m here
  two_found Incoming h =
      let b = tests.both _ _ h in
      sym (both_ones _ _ _ _ here _ _ (atom_at m ks ws 0 (omega arith) (omega arith) atom.Value b.0) (atom_at m ks ws 1 p q atom.Block b.1)) ∙ incoming_pair m here
  two_found Case h =
      let b = tests.both _ _ h in
      sym (both_ones _ _ _ _ here _ _ (atom_at m ks ws 0 (omega arith) (omega arith) atom.Case b.0) (atom_at m ks ws 1 p q atom.Block b.1)) ∙ case_pair m here
  two_found Param h =
      let b = tests.both _ _ h in
      sym (both_ones _ _ _ _ here _ _ (atom_at m ks ws 0 (omega arith) (omega arith) atom.Param b.0) (type_at m ks ws 1 p q b.1)) ∙ param_pair m here
