-- What tables over whole ranges are made of. A table says: on each input of a list the definition gives what a rule says that is written from document 01 alone.
use Rattle.std.specs.Prelude.{ℕ, zero, suc, ◌*◌, ◌+◌, ◌≡◌, List, [], ◌∷◌, ◌++◌, map}

abbrev pub OnAll : {A B : Type 0} → List A → (definition rule : A → B) → Type 0
OnAll xs f g = map f xs ≡ map g xs

-- n, .., 1; and 1, .., n
unfoldable pub down_from : ℕ → List ℕ
down_from zero = []
down_from (suc n) = suc n ∷ down_from n

unfoldable pub up_to : ℕ → List ℕ
up_to zero = []
up_to (suc n) = up_to n ++ (suc n ∷ [])

module _ {A B : Type 0} where
  -- every pair of two lists
  unfoldable pub pairs : List A → List B → List (A × B)
  pairs [] bs = []
  pairs (a ∷ as') bs = map (λ (b : B). (a, b)) bs ++ pairs as' bs

  -- for each of a list a list, one after the other
  unfoldable pub each : (A → List B) → List A → List B
  each f [] = []
  each f (a ∷ as') = f a ++ each f as'

-- the number whose bytes these are, the lowest first
unfoldable pub little : List ℕ → ℕ
little [] = 0
little (b ∷ bs) = b + 256 * little bs

-- opens every definition of this file, for a table that computes
unfoldable pub open_sweep : Unit {0}
unfolding down_from up_to pairs each little
open_sweep = tt
