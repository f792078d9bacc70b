-- Comparing two names, after document 02, card 4: "it should go by u64 words while eight bytes of both remain. Comparing two also returns its
-- steps, one a word or byte pair, up to the first that differs".
use Rattle.std.specs.Prelude.{ℕ, zero, suc, ◌/◌, min, Bool, true, false, cond, List, [], ◌∷◌, eqb, length, take, drop}
use Rattle.names.specs.Text.{same}
use Rattle.names.specs.Name.{before}

-- where the first of two stands
pub data Order : Type 0 where
  less equal greater : Order

-- from whether the first comes before the second, and whether the second comes before the first
unfoldable pub order_by : Bool → Bool → Order
order_by true after = less
order_by false true = greater
order_by false false = equal

-- the order of two names: that in which names ascend
unfoldable pub order : List ℕ → List ℕ → Order
order a b = order_by (before a b) (before b a)

-- "one a .. byte pair, up to the first that differs"
unfoldable pub byte_steps : List ℕ → List ℕ → ℕ
byte_steps [] b = 0
byte_steps (x ∷ a) [] = 0
byte_steps (x ∷ a) (y ∷ b) = suc (cond (eqb x y) (byte_steps a b) 0)

-- "one a word", so many of them, "up to the first that differs", and then the byte pairs
unfoldable pub word_steps : ℕ → List ℕ → List ℕ → ℕ
word_steps zero a b = byte_steps a b
word_steps (suc w) a b = suc (cond (same (take 8 a) (take 8 b)) (word_steps w (drop 8 a) (drop 8 b)) 0)

-- the bytes of the shorter name
abbrev pub shorter : List ℕ → List ℕ → ℕ
shorter a b = min (length a) (length b)

-- "by u64 words while eight bytes of both remain"
unfoldable pub steps : List ℕ → List ℕ → ℕ
steps a b = word_steps (shorter a b / 8) a b

-- opens every definition of this file, for an example that computes
unfoldable pub open_compare : Unit {0}
unfolding order_by order byte_steps word_steps steps
open_compare = tt
