-- What the questions about a spelling mean.
use Rattle.std.specs.Prelude.{ℕ, ◌≤◌, ◌≡◌, refl, ◌↔◌, true, List, [], ◌∷◌, ◌++◌, eqb, leb}
use Rattle.std.proofs.Common.{sym, ap, ◌∙◌, ⊎_elim, eqb-true, eq-eqb, leb-true}
use Rattle.std.proofs.lemmas.Bool.{false≢true}
use Rattle.names.specs.Text.{within, same, starts, contains}
use Rattle.names.specs.Tests.{both, either, or_right}

pub in_within : (low high b : ℕ) → within low high b ≡ true → (low ≤ b) × (b ≤ high)
unfolding within
in_within low high b h = let h' = both (leb low b) (leb b high) h in (leb-true low b h'.0, leb-true b high h'.1)

same_sound : (a b : List ℕ) → same a b ≡ true → a ≡ b
unfolding same
same_sound [] [] h = refl
same_sound [] (y ∷ b) h = absurd (false≢true h)
same_sound (x ∷ a) [] h = absurd (false≢true h)
same_sound (x ∷ a) (y ∷ b) h =
    let h' = both (eqb x y) (same a b) h in
    rw (eqb-true x y h'.0, same_sound a b h'.1)

same_itself : (a : List ℕ) → same a a ≡ true
unfolding same
same_itself [] = refl
same_itself (x ∷ a) = rw (eq-eqb x x refl) (same_itself a)

pub same_iff : (a b : List ℕ) → (same a b ≡ true) ↔ (a ≡ b)
same_iff a b = (same_sound a b, λ e. rw e (same_itself b))

starts_sound : (p s : List ℕ) → starts p s ≡ true → (r : List ℕ) × (s ≡ p ++ r)
unfolding starts
starts_sound [] s h = (s, refl)
starts_sound (x ∷ p) [] h = absurd (false≢true h)
starts_sound (x ∷ p) (y ∷ s) h =
    let h' = both (eqb x y) (starts p s) h in
    let w = starts_sound p s h'.1 in
    (w.0, ap (λ b. b ∷ s) (sym (eqb-true x y h'.0)) ∙ ap (λ t. x ∷ t) w.1)

starts_itself : (p r : List ℕ) → starts p (p ++ r) ≡ true
unfolding starts
starts_itself [] r = refl
starts_itself (x ∷ p) r = rw (eq-eqb x x refl) (starts_itself p r)

pub starts_iff : (p s : List ℕ) → (starts p s ≡ true) ↔ ((r : List ℕ) × (s ≡ p ++ r))
starts_iff p s = (starts_sound p s, λ w. rw w.1 (starts_itself p w.0))

-- what a text starts with, it contains
pub contains_here : (p s : List ℕ) → starts p s ≡ true → contains p s ≡ true
unfolding contains
contains_here p [] h = h
contains_here p (y ∷ s) h = rw h

contains_sound : (p s : List ℕ) → contains p s ≡ true → (a r : List ℕ) × (s ≡ a ++ (p ++ r))
unfolding contains
contains_sound p [] h = let w = starts_sound p [] h in ([], w.0, w.1)
contains_sound p (y ∷ s) h =
    ⊎_elim (λ k. let w = starts_sound p (y ∷ s) k in ([], w.0, w.1)) (λ k. let w = contains_sound p s k in (y ∷ w.0, w.1, ap (λ t. y ∷ t) w.2))
    (either (starts p (y ∷ s)) (contains p s) h)

contains_inside : (p a r : List ℕ) → contains p (a ++ (p ++ r)) ≡ true
unfolding contains
contains_inside p [] r = contains_here p (p ++ r) (starts_itself p r)
contains_inside p (y ∷ a) r = or_right (starts p (y ∷ (a ++ (p ++ r)))) _ (contains_inside p a r)

pub contains_iff : (p s : List ℕ) → (contains p s ≡ true) ↔ ((a r : List ℕ) × (s ≡ a ++ (p ++ r)))
contains_iff p s = (contains_sound p s, λ w. rw w.2 (contains_inside p w.0 w.1))
