-- Laws on tables: a kind below or above all numbers of a table is not in it; what holds of each number of a range holds of a number in it.
use Rattle.std.specs.Prelude.{ℕ, zero, suc, ◌+◌, ◌≤◌, ◌<◌, Bool, ◌&&◌, eqb}
use Rattle.std.proofs.Math.Path.{◌≡◌, refl}
use Rattle.std.proofs.Common.{subst, arith}
use Rattle.std.proofs.Math.Bool.{true, false}
use Rattle.std.proofs.Math.Option.{none, some}
use mathlib.Core.List.{List, [], ◌∷◌}
use borrow.Author.Tests.{eqb-true, eqb-false, ltb-true, ne_eqb}
use Rattle.std.proofs.Math.Dec.{ltb}
use Rattle.book.specs.Rule.{pick, find}

module _ {A : Type 0} (number : A → ℕ) where
  abbrev pub all_below : ℕ → List A → Bool
  all_below b [] = true
  all_below b (a ∷ as') = ltb (number a) b && all_below b as'

  abbrev pub all_above : ℕ → List A → Bool
  all_above b [] = true
  all_above b (a ∷ as') = ltb b (number a) && all_above b as'

  module _ (k : ℕ) where
    pub find_below : (b : ℕ) (as' : List A) → all_below b as' ≡ true → b ≤ k → find number k as' ≡ none
    unfolding find
    find_below b [] t h = refl
    find_below b (a ∷ as') t h = go (ltb (number a) b) refl t (find_below b as')
      where
        go : (x : Bool) → ltb (number a) b ≡ x → x && all_below b as' ≡ true → (all_below b as' ≡ true → b ≤ k → find number k as' ≡ none)
            → pick (eqb (number a) k) (some a) (find number k as') ≡ none
        go true e u ih = rw (ne_eqb (number a) k (λ z. omega (arith, ltb-true (number a) b e)), ih u h)
        go false e u ih = absurd (let z : ◌≡◌ {A = ℕ} 0 1 = cc in omega arith)

    pub find_above : (b : ℕ) (as' : List A) → all_above b as' ≡ true → k ≤ b → find number k as' ≡ none
    unfolding find
    find_above b [] t h = refl
    find_above b (a ∷ as') t h = go (ltb b (number a)) refl t (find_above b as')
      where
        go : (x : Bool) → ltb b (number a) ≡ x → x && all_above b as' ≡ true → (all_above b as' ≡ true → k ≤ b → find number k as' ≡ none)
            → pick (eqb (number a) k) (some a) (find number k as') ≡ none
        go true e u ih = rw (ne_eqb (number a) k (λ z. omega (arith, ltb-true b (number a) e)), ih u h)
        go false e u ih = absurd (let z : ◌≡◌ {A = ℕ} 0 1 = cc in omega arith)

-- of n numbers from lo on
abbrev pub From : (ℕ → Type 0) → ℕ → ℕ → Type 0
From P lo zero = Unit {0}
From P lo (suc n) = P lo × From P (suc lo) n

pub in_range_lem : (P : ℕ → Type 0) (lo n : ℕ) → From P lo n → (k : ℕ) → lo ≤ k → k < lo + n → P k
in_range_lem P lo zero f k p q = absurd (omega arith)
in_range_lem P lo (suc n) f k p q = go (eqb lo k) refl (λ d. in_range_lem P (suc lo) n f.1 k (omega (arith, d)) (omega arith))
  where
    go : (b : Bool) → eqb lo k ≡ b → ((lo ≡ k → ⊥) → P k) → P k
    go true e ih = subst P (eqb-true lo k e) f.0
    go false e ih = ih (eqb-false lo k e)
