-- A scan from a place of the bytes up to the first that stops it, and the part that it passes.
use Prim.Native.Nat.{ℕ, suc, ◌+◌, ◌-◌, ◌<◌, ◌≤◌}
use mathlib.Core.Path.{◌≡◌, refl, sym, ap, ◌∙◌}
use mathlib.Core.Bool.{Bool, true, false}
use mathlib.Core.List.{List, [], ◌∷◌, ◌++◌}
use native.Mathlib.Numerals.{add-one}
use native.Mathlib.Nat.{add_assoc}
use native.Mathlib.Omega.{arith}
use lib.ListN.{length, get_or, take, drop, length-drop, drop_of_length-le}
use lib.Seq.{drop-cons, split_at, get_or-drop, drop-drop, take_all}
use Rattle.names.specs.Name.{up_to, until}

-- the bytes from a place that lies in them
pub from_place : (xs : List ℕ) (i : ℕ) → i < length xs → drop i xs ≡ get_or xs i 0 ∷ drop (i + 1) xs
from_place xs i l = rw add-one (drop-cons xs i 0 l)

module _ (stops : ℕ → Bool) where
  pub until_part : (bs : List ℕ) → take (length (until stops bs)) bs ≡ until stops bs
  unfolding until up_to
  until_part [] = refl
  until_part (b ∷ bs) = step (stops b) (until_part bs)
    where
      step : (t : Bool) → take (length (until stops bs)) bs ≡ until stops bs
          → take (length (up_to t b (until stops bs))) (b ∷ bs) ≡ up_to t b (until stops bs)
      step true ih = refl
      step false ih = ap (λ r. b ∷ r) ih

  -- the byte behind what is passed stops the scan
  pub until_next : (bs : List ℕ) → length (until stops bs) < length bs → stops (get_or bs (length (until stops bs)) 0) ≡ true
  unfolding until up_to
  until_next [] l = absurd (omega arith)
  until_next (b ∷ bs) l = step (stops b) refl (until_next bs) l
    where
      step : (t : Bool) → stops b ≡ t → (length (until stops bs) < length bs → stops (get_or bs (length (until stops bs)) 0) ≡ true)
          → length (up_to t b (until stops bs)) < suc (length bs) → stops (get_or (b ∷ bs) (length (up_to t b (until stops bs))) 0) ≡ true
      step true e ih k = e
      step false e ih k = ih (omega arith)

  module _ (xs : List ℕ) (i : ℕ) where
    pub until_past : length xs ≤ i → until stops (drop i xs) ≡ []
    unfolding until
    until_past h = rw (drop_of_length-le xs h)

    pub until_stop : i < length xs → stops (get_or xs i 0) ≡ true → until stops (drop i xs) ≡ []
    unfolding until up_to
    until_stop l h = rw (from_place xs i l, h)

    pub until_pass : i < length xs → stops (get_or xs i 0) ≡ false → until stops (drop i xs) ≡ get_or xs i 0 ∷ until stops (drop (i + 1) xs)
    unfolding until up_to
    until_pass l h = rw (from_place xs i l, h)

  -- where a scan from i ends
  abbrev pub reach : List ℕ → ℕ → ℕ
  reach xs i = i + length (until stops (drop i xs))

  module _ (xs : List ℕ) (i : ℕ) where
    pub reach_past : length xs ≤ i → reach xs i ≡ i
    reach_past h = omega (arith, ap length (until_past xs i h))

    pub reach_stop : i < length xs → stops (get_or xs i 0) ≡ true → reach xs i ≡ i
    reach_stop l h = omega (arith, ap length (until_stop xs i l h))

    pub reach_pass : i < length xs → stops (get_or xs i 0) ≡ false → reach xs i ≡ reach xs (i + 1)
    reach_pass l h = omega (arith, ap length (until_pass xs i l h))

    -- what a scan passes, as a part of the bytes
    pub passed : take (reach xs i - i) (drop i xs) ≡ until stops (drop i xs)
    passed = ap (λ k. take k (drop i xs)) drawn ∙ until_part (drop i xs)
      where
        drawn : reach xs i - i ≡ length (until stops (drop i xs))
        drawn = omega arith

    pub reach_next : reach xs i < length xs → stops (get_or xs (reach xs i) 0) ≡ true
    reach_next l = rw get_or-drop at (until_next (drop i xs) (omega (arith, length-drop i xs)))

    -- the bytes from i are what is passed, the byte that stops, and the rest
    pub reach_split : reach xs i < length xs → drop i xs ≡ until stops (drop i xs) ++ (get_or xs (reach xs i) 0 ∷ drop (reach xs i + 1) xs)
    reach_split l =
        rw (add_assoc, add-one) (rw (until_part, get_or-drop, drop-drop) at (split_at (drop i xs) (length (until stops (drop i xs))) 0 (omega (arith, length-drop i xs))))

    -- the bytes from i are what is passed, where nothing stops
    pub reach_all : length xs ≤ reach xs i → drop i xs ≡ until stops (drop i xs)
    reach_all h = sym (take_all (length (until stops (drop i xs))) (drop i xs) (omega (arith, length-drop i xs))) ∙ until_part (drop i xs)
