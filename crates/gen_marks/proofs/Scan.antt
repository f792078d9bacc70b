-- A name looked through for `.with.overflow.`, and its class by its spelling.
use Prim.Native.Nat.{ℕ, suc, ◌+◌, ◌-◌, ◌<◌, ◌≤◌}
use mathlib.Core.Path.{◌≡◌, refl, sym, ap, ◌∙◌}
use mathlib.Core.Bool.{Bool, true, false, ◌||◌, or-false, false≢true}
use mathlib.Core.List.{List, [], ◌∷◌, ◌++◌}
use native.Mathlib.Omega.{arith}
use borrow.Author.Tests.{eqb-true, eqb-false, eq-eqb, ne_eqb}
use lib.Dec.{eqb, eqb-suc-suc}
use lib.ListN.{length, get_or, length-append}
use Rattle.names.specs.Text.{bytes, same, starts, contains}
use Rattle.names.specs.Name.{name_from}
use Rattle.names.specs.Spelling.{is_bcmp, is_memcmp, has_overflow}
use Rattle.names.specs.Tests.{both, is_false}
use Rattle.names.specs.Texts.{contains_here, contains_iff}
use Rattle.names_spelling.proofs.Spell.{name_ended, name_more}
use Rattle.gen_marks.specs.Spelling.{Ended}

-- a name does not start with a text that has another first byte
pub starts_other : (bs : List ℕ) (i x : ℕ) (p : List ℕ) → i < length bs → (get_or bs i 0 ≡ x → ⊥) → starts (x ∷ p) (name_from bs i) ≡ false
unfolding starts
starts_other bs i x p l n = go (eqb (get_or bs i 0) 10) refl
  where
    go : (b : Bool) → eqb (get_or bs i 0) 10 ≡ b → starts (x ∷ p) (name_from bs i) ≡ false
    go true e = rw (name_ended bs i l (eqb-true _ 10 e))
    go false e = rw (name_more bs i l (eqb-false _ 10 e), ne_eqb x (get_or bs i 0) (λ z. n (sym z)))

-- what is contained is not longer
contains_long : (p s : List ℕ) → contains p s ≡ true → length p ≤ length s
contains_long p s h =
    let w = (contains_iff p s).0 h in
    omega (arith, ap length w.2, length-append w.0 (p ++ w.1), length-append p w.1)

-- what does not start a text is contained in the rest or not at all
contains_later : (p s r : List ℕ) (b : ℕ) → s ≡ b ∷ r → starts p s ≡ false → contains p s ≡ contains p r
unfolding contains
contains_later p s r b e h = rw e (rw (rw e at h))

-- at the place i of the name that goes from `at` to `end`, in front of which the text does not start
pub record Looking (bs : List ℕ) (at end i : ℕ) : Type 0 where
  pub left : Ended bs i end
  pub found : has_overflow (name_from bs at) ≡ has_overflow (name_from bs i)

pub look_start : {bs : List ℕ} {at end : ℕ} → Ended bs at end → Looking bs at end at
look_start e = record { left = e; found = refl }

module _ {bs : List ℕ} {at end i : ℕ} (s : Looking bs at end i) where
  pub look_here : starts (bytes ".with.overflow.") (name_from bs i) ≡ true → true ≡ has_overflow (name_from bs at)
  unfolding has_overflow
  look_here h = sym (s.found ∙ contains_here (bytes ".with.overflow.") (name_from bs i) h)

  -- too few bytes are left
  pub look_end : end ≤ i + 14 → false ≡ has_overflow (name_from bs at)
  unfolding has_overflow bytes
  look_end l =
      sym (s.found ∙ is_false _ (λ h. omega (arith, contains_long (bytes ".with.overflow.") (name_from bs i) h, s.left.ends)))

  module _ (l : i + 14 < end) where
    more : name_from bs i ≡ get_or bs i 0 ∷ name_from bs (i + 1)
    more = name_more bs i (omega (arith, s.left.inside)) (λ z. omega (arith, s.left.ends, ap length (name_ended bs i (omega (arith, s.left.inside)) z)))

    pub look_later : starts (bytes ".with.overflow.") (name_from bs i) ≡ false → Looking bs at end (i + 1)
    unfolding has_overflow
    look_later h =
        record {
          left = record { ends = omega (arith, s.left.ends, ap length more); inside = s.left.inside };
          found = s.found ∙ contains_later (bytes ".with.overflow.") (name_from bs i) (name_from bs (i + 1)) (get_or bs i 0) more h;
        }

    pub look_other : (get_or bs i 0 ≡ 46 → ⊥) → Looking bs at end (i + 1)
    unfolding bytes
    look_other n = look_later (starts_other bs i 46 _ (omega (arith, s.left.inside)) n)

-- ---- the class
-- a text that starts with another is the same if it is as long
same_long : (p s : List ℕ) → starts p s ≡ true → same s p ≡ eqb (length s) (length p)
unfolding same starts
same_long [] [] h = refl
same_long [] (y ∷ s) h = sym (ne_eqb (suc (length s)) 0 (λ e. omega arith))
same_long (x ∷ p) [] h = absurd (false≢true h)
same_long (x ∷ p) (y ∷ s) h =
    let h' = both (eqb x y) (starts p s) h in
    rw (eq-eqb y x (sym (eqb-true x y h'.0)), eqb-suc-suc (length s) (length p)) (same_long p s h'.1)

same_starts : (p s : List ℕ) → same s p ≡ true → starts p s ≡ true
unfolding same starts
same_starts [] s h = refl
same_starts (x ∷ p) [] h = h
same_starts (x ∷ p) (y ∷ s) h =
    let h' = both (eqb y x) (same s p) h in
    rw (eq-eqb x y (sym (eqb-true y x h'.0))) (same_starts p s h'.1)

-- the same of a text that goes from `at` to `end`
same_part : (p s : List ℕ) (at end : ℕ) → end ≡ at + length s → starts p s ≡ true → same s p ≡ eqb (end - at) (length p)
same_part p s at end e h = same_long p s h ∙ ap (λ k. eqb k (length p)) drawn
  where
    drawn : length s ≡ end - at
    drawn = omega arith

same_not : (p s : List ℕ) → starts p s ≡ false → same s p ≡ false
same_not p s h = is_false (same s p) (λ e. false≢true (sym h ∙ same_starts p s e))

-- the name s goes from `at` to `end`: only a text as long may be the same
module _ (s : List ℕ) (at end : ℕ) (e : end ≡ at + length s) where
  module _ (p : List ℕ) where
    same_as : end - at ≡ length p → same s p ≡ starts p s
    same_as l = go (starts p s) refl
      where
        go : (b : Bool) → starts p s ≡ b → same s p ≡ b
        go true h = same_part p s at end e h ∙ eq-eqb (end - at) (length p) l
        go false h = same_not p s h

    same_apart : (end - at ≡ length p → ⊥) → same s p ≡ false
    same_apart n = go (starts p s) refl
      where
        go : (b : Bool) → starts p s ≡ b → same s p ≡ false
        go true h = same_part p s at end e h ∙ ne_eqb (end - at) (length p) n
        go false h = same_not p s h

  pub memcmp_four : end - at ≡ 4 → starts (bytes "bcmp") s ≡ (is_bcmp s || is_memcmp s)
  unfolding is_bcmp is_memcmp bytes
  memcmp_four l = sym (rw (same_as (bytes "bcmp") l, same_apart (bytes "memcmp") (λ z. omega arith)) (or-false _))

  pub memcmp_six : end - at ≡ 6 → starts (bytes "memcmp") s ≡ (is_bcmp s || is_memcmp s)
  unfolding is_bcmp is_memcmp bytes
  memcmp_six l = sym (rw (same_apart (bytes "bcmp") (λ z. omega arith), same_as (bytes "memcmp") l))

  pub memcmp_other : (end - at ≡ 4 → ⊥) → (end - at ≡ 6 → ⊥) → false ≡ (is_bcmp s || is_memcmp s)
  unfolding is_bcmp is_memcmp bytes
  memcmp_other n4 n6 = sym (rw (same_apart (bytes "bcmp") n4, same_apart (bytes "memcmp") n6))
