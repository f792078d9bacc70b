-- Whether an entry is a type by itself.
use Rattle.std.specs.Prelude.{ℕ, ◌<◌, ◌≡◌, refl, Bool, true, false, ◌&&◌, ◌||◌, List, length, get_or, eqb, leb, ltb}
use Rattle.std.proofs.Common.{ap, sym, ◌∙◌, arith, ne_eqb, eqb-true, ltb-true, ltb-false}
use Rattle.std.proofs.Math.Bool.{and-false}
use Rattle.std.proofs.lemmas.Bool.{lt-leb}
use Rattle.numbers.specs.Width.{width_ok}
use Rattle.book.specs.Entry.{entries}
use Rattle.book.specs.Rule.{find}
use Rattle.book.specs.Kinds.{ty_tag, ty_tags, ty_kind}
use Rattle.book.specs.Decode.{type_to}
use Rattle.std.specs.Bool.{then_some}
use Rattle.std.specs.Prelude.{Option, Some, None}
use Rattle.book_types.specs.Groups.{type_group_of, group_head}
use Rattle.book_types.specs.Length.{len_of}
use Rattle.book_types.specs.Laws.{front_of_lem}
use Rattle.book_types.specs.Tables.{find_below, in_range_lem}
use Rattle.book_types.specs.TypeLaws.{type_arm}
use Rattle.book_types.specs.declared.types.TypeHead.{TypeHead}
use Rattle.book_types.specs.declared.types.TypeHead.TheVariants as head

abbrev pub is_leaf : Option TypeHead → Bool
is_leaf (Some head.Leaf) = true
is_leaf (Some head.Array) = false
is_leaf (Some head.Struct) = false
is_leaf None = false

abbrev pub leaf_ok : ℕ → ℕ → ℕ → Bool
leaf_ok m k w = is_leaf (group_head m w (type_group_of (ty_tag k)))

leaf_if_lem : (b : Bool) → b ≡ is_leaf (then_some b head.Leaf)
leaf_if_lem true = refl
leaf_if_lem false = refl

struct_if_lem : (b : Bool) → false ≡ is_leaf (then_some b head.Struct)
struct_if_lem true = refl
struct_if_lem false = refl

-- a type whose word is 0
abbrev zero_kind : ℕ → Bool
zero_kind k = (eqb k 10 || eqb k 12) || (leb 18 k && leb k 20)

abbrev Other : ℕ → ℕ → ℕ → Type 0
Other m w k = (k ≡ 11 → ⊥) → (k ≡ 15 → ⊥) → (zero_kind k && eqb w 0) ≡ leaf_ok m k w

-- no kind above the table is a type's
none_above : (m k w : ℕ) → 20 < k → leaf_ok m k w ≡ false
unfolding ty_tag ty_tags
none_above m k w h = ap (λ t. is_leaf (group_head m w (type_group_of t))) (find_below ty_kind k 21 ty_tags refl (omega arith))

pub leaf_other : (m k w : ℕ) → Other m w k
unfolding ty_tag find ty_tags
leaf_other m k w = go (ltb k 21) refl
  where
    go : (t : Bool) → ltb k 21 ≡ t → Other m w k
    go true e =
        in_range_lem (Other m w) 0 21 (
          λ p q. refl,
          (
            λ p q. refl,
            (
              λ p q. refl,
              (
                λ p q. refl,
                (
                  λ p q. refl,
                  (
                    λ p q. refl,
                    (
                      λ p q. refl,
                      (
                        λ p q. refl,
                        (
                          λ p q. refl,
                          (
                            λ p q. refl,
                            (
                              λ p q. leaf_if_lem (eqb w 0),
                              (
                                λ p q. absurd (p refl),
                                (
                                  λ p q. leaf_if_lem (eqb w 0),
                                  (
                                    λ p q. refl,
                                    (
                                      λ p q. refl,
                                      (
                                        λ p q. absurd (q refl),
                                        (λ p q. struct_if_lem (eqb w 0), (λ p q. struct_if_lem (eqb w 0), (λ p q. leaf_if_lem (eqb w 0), (λ p q. leaf_if_lem (eqb w 0), (λ p q. leaf_if_lem (eqb w 0), tt))))),
                                      ),
                                    ),
                                  ),
                                ),
                              ),
                            ),
                          ),
                        ),
                      ),
                    ),
                  ),
                ),
              ),
            ),
          ),
        )
        k (omega arith) (omega (arith, ltb-true k 21 e))
    go false e = λ p q.
        let h : 20 < k = omega (arith, ltb-false k 21 e) in
        rw (ne_eqb k 10 (λ z. omega arith), ne_eqb k 12 (λ z. omega arith), lt-leb k 20 h, and-false (leb 18 k)) (sym (none_above m k w h))

pub leaf_int : (m k w : ℕ) → k ≡ 11 → width_ok w ≡ leaf_ok m k w
unfolding ty_tag find ty_tags
leaf_int m k w e = leaf_if_lem (width_ok w) ∙ ap (λ j. leaf_ok m j w) (sym e)

pub leaf_named : (m k w : ℕ) → k ≡ 15 → ltb w m ≡ leaf_ok m k w
unfolding ty_tag find ty_tags
leaf_named m k w e = leaf_if_lem (ltb w m) ∙ ap (λ j. leaf_ok m j w) (sym e)

-- no value is one
pub leaf_not_other : (m k w : ℕ) → leaf_ok m k w ≡ true → eqb k 37 ≡ false
leaf_not_other m k w h = go (eqb k 37) refl
  where
    go : (b : Bool) → eqb k 37 ≡ b → b ≡ false
    go true e = sym h ∙ none_above m k w (omega (arith, eqb-true k 37 e))
    go false e = refl

-- the type at the front is then one entry
pub leaf_one : (m l : ℕ) (ks ws : List ℕ) → (l ≡ 0 → ⊥) → (length ks ≡ 0 → ⊥) → (length ws ≡ 0 → ⊥) → leaf_ok m (get_or ks 0 0) (get_or ws 0 0) ≡ true
    → Some 1 ≡ len_of (type_to m l (entries ks ws))
leaf_one m l ks ws d p q h = sym (type_arm m l ks ws _ _ (front_of_lem ks ws p q) d (Some head.Leaf) (go _ h))
  where
    go : (t : Option TypeHead) → is_leaf t ≡ true → Some head.Leaf ≡ t
    go (Some head.Leaf) e = refl
    go (Some head.Array) e = absurd (let z : ◌≡◌ {A = ℕ} 0 1 = cc in omega arith)
    go (Some head.Struct) e = absurd (let z : ◌≡◌ {A = ℕ} 0 1 = cc in omega arith)
    go None e = absurd (let z : ◌≡◌ {A = ℕ} 0 1 = cc in omega arith)
