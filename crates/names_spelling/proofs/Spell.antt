-- The questions about a spelling, at a place of the bytes.
use Prim.Native.Nat.{ℕ, ◌+◌, ◌<◌, ◌≤◌}
use mathlib.Core.Path.{◌≡◌, refl, sym}
use mathlib.Core.Bool.{true, false}
use mathlib.Core.List.{List, [], ◌∷◌}
use borrow.Author.Tests.{eq-eqb, ne_eqb}
use lib.ListN.{length, get_or, drop, drop_of_length-le}
use Rattle.names.specs.Text.{starts}
use Rattle.names.specs.Name.{is_end, line, name_from}
use Rattle.names_spelling.proofs.Scan.{from_place, until_past, until_stop, until_pass}

-- the name from the place j on
module _ (names : List ℕ) (j : ℕ) where
  pub name_past : length names ≤ j → name_from names j ≡ []
  unfolding name_from line
  name_past = until_past is_end names j

  pub name_ended : j < length names → get_or names j 0 ≡ 10 → name_from names j ≡ []
  unfolding name_from line is_end
  name_ended l e = until_stop is_end names j l (eq-eqb _ 10 e)

  pub name_more : j < length names → (get_or names j 0 ≡ 10 → ⊥) → name_from names j ≡ get_or names j 0 ∷ name_from names (j + 1)
  unfolding name_from line is_end
  name_more l d = until_pass is_end names j l (ne_eqb _ 10 d)

-- whether a text starts with what is left of another from the place i on
module _ (text : List ℕ) (i : ℕ) where
  pub starts_over : (s : List ℕ) → length text ≤ i → starts (drop i text) s ≡ true
  unfolding starts
  starts_over s h = rw (drop_of_length-le text h)

  module _ (l : i < length text) where
    pub starts_none : (s : List ℕ) → s ≡ [] → starts (drop i text) s ≡ false
    unfolding starts
    starts_none s e = rw (from_place text i l, e)

    pub starts_more : (s r : List ℕ) (b : ℕ) → s ≡ b ∷ r → b ≡ get_or text i 0 → starts (drop i text) s ≡ starts (drop (i + 1) text) r
    unfolding starts
    starts_more s r b e q = rw (from_place text i l, e, q, eq-eqb (get_or text i 0) (get_or text i 0) refl)

    pub starts_differ : (s r : List ℕ) (b : ℕ) → s ≡ b ∷ r → (b ≡ get_or text i 0 → ⊥) → starts (drop i text) s ≡ false
    unfolding starts
    starts_differ s r b e d = rw (from_place text i l, e, ne_eqb (get_or text i 0) b (λ q. d (sym q)))
