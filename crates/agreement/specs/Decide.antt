-- Tests for naming conditions, and that they suffice.
use Prim.Native.Nat.{ℕ, zero, suc}
use Rattle.std.specs.Prelude.{◌≡◌, Bool, true, false, not, ◌&&◌, ◌||◌, eqb, drop}
use Rattle.std.proofs.Math.Path.{refl, ap}
use Rattle.std.proofs.Common.{sym, ◌∙◌, eq-eqb}
use Rattle.std.proofs.Math.Bool.{or-true}
use Rattle.std.proofs.lemmas.Bool.{false≢true, not-true}
use Rattle.std.proofs.Math.Option.{Option, none, some}
use mathlib.Core.List.{List, [], ◌∷◌}
use Rattle.names.specs.Tests.{both}
use Rattle.book.specs.Decode.{member, distinct}
use Rattle.machine.specs.Labels.{Placed, prints, label_of}
use Rattle.machine.specs.State.{cell_at}
use Rattle.agreement.specs.Lists.{none_some, some_same}
use Rattle.agreement.specs.Labels.{distinct_nil, distinct_cons}
use Rattle.agreement.specs.Unique.{some_prints}
use Rattle.agreement.specs.Naming.{Distinct, LabelsOnce}

-- ---- names
member_at : (x : ℕ) (l : List ℕ) (i : ℕ) → cell_at l i ≡ some x → member x l ≡ true
unfolding member cell_at
member_at x [] i h = none_some x h
member_at x (y ∷ l) zero h = rw (eq-eqb x y (sym (some_same h))) refl
member_at x (y ∷ l) (suc i) h = rw (member_at x l i h) (or-true (eqb x y))

pub distinct_ok : (l : List ℕ) → distinct l ≡ true → Distinct l
unfolding distinct
distinct_ok [] h = distinct_nil
distinct_ok (x ∷ l) h =
    let (a, b) = both (not (member x l)) (distinct l) h in
    distinct_cons x l (distinct_ok l b) (λ s. false≢true (sym (not-true (member x l) a) ∙ member_at x l s.place s.stands))

-- ---- labels
module _ (names : List (List ℕ)) where
  unfoldable pub has_label : List ℕ → List Placed → Bool
  has_label t [] = false
  has_label t (l ∷ ls) = prints t (label_of names l) || has_label t ls

  unfoldable pub new_label : Option (List ℕ) → List Placed → Bool
  new_label none ls = true
  new_label (some t) ls = not (has_label t ls)

  -- no label line has its like further on
  unfoldable pub labels_once : List Placed → Bool
  labels_once [] = true
  labels_once (l ∷ ls) = new_label (label_of names l) ls && labels_once ls

  starts : List Placed → Option Placed
  starts [] = none
  starts (l ∷ ls) = some l

  no_line : {X : Type 0} (p : ℕ) (l : Placed) (j : List Placed) → drop p [] ≡ l ∷ j → X
  unfolding starts
  no_line zero l j e = none_some l (ap starts e)
  no_line (suc p) l j e = none_some l (ap starts e)

  has_at : (t : List ℕ) (ls : List Placed) (q : ℕ) (k : Placed) (i : List Placed) → drop q ls ≡ k ∷ i → label_of names k ≡ some t → has_label t ls ≡ true
  unfolding has_label
  has_at t [] q k i e h = no_line q k i e
  has_at t (l ∷ ls) zero k i e h =
      let z : l ≡ k = cc in
      rw (some_prints names t (label_of names l) (rw z h)) refl
  has_at t (l ∷ ls) (suc q) k i e h = rw (has_at t ls q k i e h) (or-true (prints t (label_of names l)))

  new_head : {X : Type 0} (t : List ℕ) (l : Placed) (ls : List Placed) (q : ℕ) (k : Placed) (i : List Placed) → new_label (label_of names l) ls ≡ true → label_of names l ≡ some t → drop q ls ≡ k ∷ i
      → label_of names k ≡ some t → X
  unfolding new_label
  new_head t l ls q k i n a e h = absurd (false≢true (sym (not-true (has_label t ls) (rw a at n)) ∙ has_at t ls q k i e h))

  pub labels_ok : (ls : List Placed) → labels_once ls ≡ true → LabelsOnce names ls
  unfolding labels_once LabelsOnce
  labels_ok [] c p q l k j i t a b x y = no_line p l j a
  labels_ok (m ∷ ls) c zero zero l k j i t a b x y = refl
  labels_ok (m ∷ ls) c zero (suc q) l k j i t a b x y =
      let z : m ≡ l = cc in
      new_head t m ls q k i (both (new_label (label_of names m) ls) (labels_once ls) c).0 (rw z x) b y
  labels_ok (m ∷ ls) c (suc p) zero l k j i t a b x y =
      let z : m ≡ k = cc in
      new_head t m ls p l j (both (new_label (label_of names m) ls) (labels_once ls) c).0 (rw z y) a x
  labels_ok (m ∷ ls) c (suc p) (suc q) l k j i t a b x y =
      ap suc (labels_ok ls (both (new_label (label_of names m) ls) (labels_once ls) c).1 p q l k j i t a b x y)
