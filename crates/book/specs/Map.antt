-- Maps by name, as codegen.rs keeps them: a list of entries, the latest first, so that "later duplicates win".
use Rattle.std.specs.Prelude.{ℕ, List, [], ◌∷◌, eqb}
use Rattle.std.proofs.Math.Option.{Option, none, some}
use Rattle.book.specs.Rule.{pick}

abbrev pub Map : Type 0 → Type 0
Map A = List (ℕ × A)

unfoldable pub lookup : {A : Type 0} → ℕ → Map A → Option A
lookup x [] = none
lookup x (p ∷ ps) = let rest = lookup x ps in pick (eqb x p.0) (some p.1) rest

unfoldable pub insert : {A : Type 0} → Option ℕ → A → Map A → Map A
insert none a m = m
insert (some x) a m = (x, a) ∷ m

-- opens every definition of this file, for an example that computes
unfoldable pub open_map : Unit {0}
unfolding lookup insert
open_map = tt
