-- Positions in lists.
use Prim.Native.Nat.{ℕ, zero, suc, ◌+◌, ◌<◌, ◌≤◌}
use Rattle.std.specs.Prelude.{◌≡◌, ◌⊎◌, length, drop, set}
use Rattle.std.proofs.Math.Path.{refl, ap, subst}
use Rattle.std.proofs.Common.{inl, inr, ⊎_elim, arith}
use Rattle.std.proofs.Math.Option.{Option, none, some}
use mathlib.Core.List.{List, [], ◌∷◌, ◌++◌, map}
use Rattle.std.proofs.Math.Nat.{zero-add, suc-add}
use Rattle.book.specs.Limits.{Each}
use Rattle.machine.specs.State.{cell_at}
pub use Rattle.machine.specs.Cells.{none_some, some_same, cell_lt}

head : {A : Type 0} → List A → Option A
head [] = none
head (x ∷ l) = some x

-- of each of a list
pub drop_map : {A B : Type 0} (f : A → B) (l : List A) (p : ℕ) {x : A} {k : List A} → drop p l ≡ x ∷ k → drop p (map f l) ≡ f x ∷ map f k
unfolding head
drop_map f [] zero {x} e = none_some x (ap head e)
drop_map f [] (suc p) {x} e = none_some x (ap head e)
drop_map f (y ∷ l) zero e = ap (map f) e
drop_map f (y ∷ l) (suc p) e = drop_map f l p e

module _ {A : Type 0} where
  pub drop_tail : (p : ℕ) (l : List A) {x : A} {k : List A} → drop p l ≡ x ∷ k → drop (suc p) l ≡ k
  drop_tail zero [] e = cc
  drop_tail zero (y ∷ ys) e = cc
  drop_tail (suc p) [] e = cc
  drop_tail (suc p) (y ∷ ys) e = drop_tail p ys e

  -- a later part of what stands at a position stands at a position, no earlier
  pub drop_past : (l : List A) (a : List A) (p : ℕ) {b : List A} → drop p l ≡ a ++ b → (q : ℕ) × (drop q l ≡ b) × (p ≤ q)
  drop_past l [] p e = (p, e, omega arith)
  drop_past l (x ∷ a) p e = let (q, h, k) = drop_past l a (suc p) (drop_tail p l e) in (q, h, omega arith)

  pub drop_part : (l : List A) (a : List A) (p : ℕ) {b : List A} → drop p l ≡ a ++ b → (q : ℕ) × (drop q l ≡ b)
  drop_part l a p e = let (q, h, k) = drop_past l a p e in (q, h)

  -- in front of more, and behind others
  pub drop_left : (a b : List A) (p : ℕ) {x : A} {k : List A} → drop p a ≡ x ∷ k → drop p (a ++ b) ≡ x ∷ (k ++ b)
  unfolding head
  drop_left [] b zero {x} e = none_some x (ap head e)
  drop_left [] b (suc p) {x} e = none_some x (ap head e)
  drop_left (y ∷ a) b zero e = ap (λ l. l ++ b) e
  drop_left (y ∷ a) b (suc p) e = drop_left a b p e

  pub drop_right : (a b : List A) (p : ℕ) → drop (length a + p) (a ++ b) ≡ drop p b
  drop_right [] b p = rw zero-add refl
  drop_right (y ∷ a) b p = rw suc-add (drop_right a b p)

  -- what stands in two lists stands in one of them
  pub drop_parts : (a b : List A) (p : ℕ) {x : A} {k : List A} → drop p (a ++ b) ≡ x ∷ k → ((j : List A) × (drop p a ≡ x ∷ j)) ⊎ ((q : ℕ) × (p ≡ length a + q) × (drop q b ≡ x ∷ k))
  drop_parts [] b p e = inr (p, omega arith, e)
  drop_parts (y ∷ a) b zero {x} e = let z : y ≡ x = cc in inl (a, ap {B = List A} (λ w. w ∷ a) z)
  drop_parts (y ∷ a) b (suc p) e = ⊎_elim inl (λ (q, i, h). inr (q, omega (arith, i), h)) (drop_parts a b p e)

  -- what holds of each of a list holds of what stands in it
  pub drop_each : (P : A → Type 0) (l : List A) (p : ℕ) {x : A} {k : List A} → Each P l → drop p l ≡ x ∷ k → P x
  unfolding head
  drop_each P [] zero {x} h e = none_some x (ap head e)
  drop_each P [] (suc p) {x} h e = none_some x (ap head e)
  drop_each P (y ∷ l) zero {x} h e = let z : y ≡ x = cc in subst P z h.0
  drop_each P (y ∷ l) (suc p) h e = drop_each P l p h.1 e

  pub cell_set_same : (l : List A) (i : ℕ) (v : A) → i < length l → cell_at (set l i v) i ≡ some v
  unfolding cell_at
  cell_set_same [] i v h = absurd (omega arith)
  cell_set_same (y ∷ ys) zero v h = refl
  cell_set_same (y ∷ ys) (suc i) v h = cell_set_same ys i v (omega arith)

  pub cell_set_other : (l : List A) (i j : ℕ) (v : A) → ¬ (j ≡ i) → cell_at (set l i v) j ≡ cell_at l j
  unfolding cell_at
  cell_set_other [] i j v h = refl
  cell_set_other (y ∷ ys) zero zero v h = absurd (h refl)
  cell_set_other (y ∷ ys) zero (suc j) v h = refl
  cell_set_other (y ∷ ys) (suc i) zero v h = refl
  cell_set_other (y ∷ ys) (suc i) (suc j) v h = cell_set_other ys i j v (λ e. h (ap suc e))

  pub cell_left : (a b : List A) (i : ℕ) (x : A) → cell_at a i ≡ some x → cell_at (a ++ b) i ≡ some x
  unfolding cell_at
  cell_left [] b i x h = none_some x h
  cell_left (y ∷ a) b zero x h = h
  cell_left (y ∷ a) b (suc i) x h = cell_left a b i x h

  pub cell_right : (a b : List A) (i : ℕ) {r : Option A} → cell_at b i ≡ r → cell_at (a ++ b) (length a + i) ≡ r
  unfolding cell_at
  cell_right [] b i h = rw zero-add h
  cell_right (y ∷ a) b i h = rw suc-add (cell_right a b i h)

pub data In {A : Type 0} : A → List A → Type 0 where
  here : {a : A} {l : List A} → In a (a ∷ l)
  there : {a b : A} {l : List A} → In a l → In a (b ∷ l)

pub in_left : {A : Type 0} {a : A} {l : List A} (m : List A) → In a l → In a (l ++ m)
in_left m here = here
in_left m (there h) = there (in_left m h)

pub in_right : {A : Type 0} {a : A} (l : List A) {m : List A} → In a m → In a (l ++ m)
in_right [] h = h
in_right (x ∷ l) h = there (in_right l h)
