-- What stands at a position of a list.
use Prim.Native.Nat.{ℕ, zero, suc, ◌<◌}
use Rattle.std.specs.Prelude.{◌≡◌, refl, length, drop}
use Rattle.std.proofs.Math.Path.{ap}
use Rattle.std.proofs.Math.Option.{Option, none, some}
use mathlib.Core.List.{List, [], ◌∷◌}
use native.Mathlib.Omega.{arith}
use Rattle.machine.specs.State.{cell_at}

pub none_some : {A X : Type 0} (a : A) → none ≡ some a → X
none_some a h = absurd (let z : ◌≡◌ {A = ℕ} 0 1 = cc in omega arith)

pub some_same : {A : Type 0} {a b : A} → some a ≡ some b → a ≡ b
some_same e = cc

module _ {A : Type 0} where
  pub cell_some : (l : List A) (i : ℕ) → i < length l → (x : A) × (cell_at l i ≡ some x)
  unfolding cell_at
  cell_some [] i h = absurd (omega arith)
  cell_some (x ∷ l) zero h = (x, refl)
  cell_some (x ∷ l) (suc i) h = cell_some l i (omega arith)

  pub cell_lt : (l : List A) (i : ℕ) (x : A) → cell_at l i ≡ some x → i < length l
  unfolding cell_at
  cell_lt [] i x e = none_some x e
  cell_lt (y ∷ l) zero x e = omega arith
  cell_lt (y ∷ l) (suc i) x e = let h = cell_lt l i x e in omega arith

  pub drop_cell : (l : List A) (i : ℕ) (x : A) → cell_at l i ≡ some x → (r : List A) × (drop i l ≡ x ∷ r)
  unfolding cell_at
  drop_cell [] i x e = none_some x e
  drop_cell (y ∷ l) zero x e = (l, ap (λ z. z ∷ l) (some_same e))
  drop_cell (y ∷ l) (suc i) x e = drop_cell l i x e

  first : List A → Option A
  first [] = none
  first (x ∷ l) = some x

  pub cell_drop : (l : List A) (i : ℕ) (x : A) (r : List A) → drop i l ≡ x ∷ r → cell_at l i ≡ some x
  unfolding cell_at first
  cell_drop [] zero x r e = none_some x (ap first e)
  cell_drop [] (suc i) x r e = none_some x (ap first e)
  cell_drop (y ∷ l) zero x r e = cc
  cell_drop (y ∷ l) (suc i) x r e = cell_drop l i x r e
