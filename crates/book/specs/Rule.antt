-- A rule gives a value or none.
use Rattle.std.specs.Prelude.{ℕ, Bool, true, false, List, [], ◌∷◌, eqb}
use Rattle.std.proofs.Math.Option.{Option, none, some}

module _ {A : Type 0} where
  abbrev pub when : Bool → A → Option A
  when true a = some a
  when false a = none

  abbrev pub pick : Bool → Option A → Option A → Option A
  pick true a b = a
  pick false a b = b

  -- the first of the list with this number
  unfoldable pub find : (A → ℕ) → ℕ → List A → Option A
  find number k [] = none
  find number k (a ∷ as') = pick (eqb (number a) k) (some a) (find number k as')

-- "An unmentioned word is 0"
abbrev pub unmentioned : ℕ → Option (Unit {0})
unmentioned w = when (eqb w 0) tt
