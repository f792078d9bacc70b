-- Laws on parts one after the other and on lists of items, with what a test says of them.
use Prim.Native.Nat.{ℕ, zero, suc, ◌+◌, ◌-◌, ◌≤◌}
use Rattle.std.specs.Prelude.{◌≡◌, Bool, ◌||◌, length, drop, eqb}
use Rattle.std.proofs.Math.Path.{refl, ap}
use Rattle.std.proofs.Common.{sym, ◌∙◌, sub-one, add_assoc, zero-add, arith, length-drop, drop-drop, ne_eqb}
use Rattle.std.specs.Bool.{then_some}
use Rattle.std.proofs.Math.Bool.{true, false, or-false}
use Rattle.std.specs.Prelude.{Option, Some, None}
use mathlib.Core.List.{List, [], ◌∷◌}
use Rattle.book.specs.Entry.{Entry, entries}
use Rattle.book.specs.Rule.{when}
use Rattle.book.specs.Read.{Read, got, bad, Reader, and_then, taking, one, stops, mapped, both, until, word, is_closing, closing, list_of, many}
use Rattle.book.specs.Agree.{Agrees}
use Rattle.book.specs.Forbidden.{any}
use Rattle.book_types.specs.Length.{len_of, front_of}
use Rattle.book_types.specs.Laws.{entries_part, within_kinds, within_words, lent_from, len_fits, lent_fits}
use Rattle.book_types.specs.TypeLaws.{many_len}
use Rattle.book_types.specs.Found.{found, plain, found_of, joined, followed_by, all_test, pair_test, never}
use Rattle.book_types.specs.declared.Found.{Found}

or_assoc : (a b c : Bool) → (a || (b || c)) ≡ ((a || b) || c)
or_assoc true b c = refl
or_assoc false b c = refl

-- ---- answers
pub joined_joined : (a b : ℕ) (p q : Bool) (f : Option Found) → joined a p (joined b q f) ≡ joined (a + b) (p || q) f
joined_joined a b p q (Some f) = rw (or_assoc p q f.barred, add_assoc a b f.entries)
joined_joined a b p q None = refl

pub joined_none : (f : Option Found) → joined 0 false f ≡ f
joined_none (Some f) = rw (zero-add f.entries)
joined_none None = refl

-- an answer without its test
abbrev pub size_of : Option Found → Option ℕ
size_of (Some f) = Some f.entries
size_of None = None

-- an answer in which nothing is forbidden
abbrev pub plainly : Option ℕ → Option Found
plainly (Some n) = Some (plain n)
plainly None = None

pub size_of_lem : {A : Type 0} (t : A → Bool) (r : Read A) → size_of (found_of t r) ≡ len_of r
size_of_lem t (got a n) = refl
size_of_lem t bad = refl

module _ {A : Type 0} (t : A → Bool) {p : Reader A} {w : A → List Entry} {K : A → Type 0} (s : Agrees p w K) where
  pub found_fits : (es : List Entry) (f : Found) → found_of t (p es) ≡ Some f → f.entries ≤ length es
  found_fits es f e = len_fits s es f.entries (sym (size_of_lem t (p es)) ∙ ap size_of e)

  pub found_lent : (ks ws : List ℕ) (a : ℕ) (f : Found) → a ≤ length (entries ks ws) → Some f ≡ found_of t (p (lent_from ks ws a)) → a + f.entries ≤ length (entries ks ws)
  found_lent ks ws a f h e = lent_fits s ks ws a f.entries h (ap size_of e ∙ size_of_lem t (p (lent_from ks ws a)))

-- a length in which nothing is forbidden
pub plain_found : {A : Type 0} (r : Read A) → plainly (len_of r) ≡ found_of never r
plain_found (got a n) = refl
plain_found bad = refl

pub plain_is : {A : Type 0} (r : Read A) (l : Option ℕ) → l ≡ len_of r → plainly l ≡ found_of never r
plain_is r l e = ap plainly e ∙ plain_found r

-- the same test gives the same answer
pub found_ext : {A : Type 0} (t u : A → Bool) → ((a : A) → t a ≡ u a) → (r : Read A) → found_of t r ≡ found_of u r
found_ext t u e (got a n) = ap (λ b. Some (found n b)) (e a)
found_ext t u e bad = refl

-- from an answer to what was read
module _ {A : Type 0} (t : A → Bool) where
  pub found_got : (r : Read A) (f : Found) → found_of t r ≡ Some f → (a : A) × ((r ≡ got a f.entries) × (t a ≡ f.barred))
  found_got (got a k) f e =
      let same : found k (t a) ≡ f = cc in
      (a, (ap (λ x. got a x.entries) same, ap (λ x. x.barred) same))
  found_got bad f e = absurd (let z : ◌≡◌ {A = ℕ} 0 1 = cc in omega arith)

  pub found_bad : (r : Read A) → found_of t r ≡ None → r ≡ bad
  found_bad (got a k) e = absurd (let z : ◌≡◌ {A = ℕ} 0 1 = cc in omega arith)
  found_bad bad e = refl

-- what a test says of what a rule makes of it
pub mapped_found : {A B : Type 0} (t : B → Bool) (f : A → B) (p : Reader A) (es : List Entry) → found_of t (mapped f p es) ≡ found_of (λ a. t (f a)) (p es)
unfolding mapped
mapped_found {A} {B} t f p es = go (p es)
  where
    go : (r : Read A) → found_of t (and_then r (λ a n. got (f a) n)) ≡ found_of (λ a. t (f a)) r
    go (got a n) = refl
    go bad = refl

-- ---- one part after the other
pub followed_joined : (n : ℕ) (b : Bool) (f : Option Found) (k : List Entry → Option Found) (es : List Entry) → followed_by (joined n b f) k es ≡ joined n b (followed_by f k (drop n es))
followed_joined n b (Some f) k es = rw (drop-drop f.entries n es) (sym (joined_joined n f.entries b f.barred (k (drop (n + f.entries) es))))
followed_joined n b None k es = refl

pub followed_twice : (f : Option Found) (g k : List Entry → Option Found) (es : List Entry) → followed_by (followed_by f g es) k es ≡ followed_by f (λ xs. followed_by (g xs) k xs) es
followed_twice (Some f) g k es = followed_joined f.entries f.barred (g (drop f.entries es)) k es
followed_twice None g k es = refl

pub both_found : {A B : Type 0} (p : Reader A) (q : Reader B) (ta : A → Bool) (tb : B → Bool) (es : List Entry)
    → found_of (pair_test ta tb) (both p q es) ≡ followed_by (found_of ta (p es)) (λ xs. found_of tb (q xs)) es
unfolding both
both_found {A} {B} p q ta tb es = go (p es)
  where
    second : (a : A) (n : ℕ) (r : Read B) → found_of (pair_test ta tb) (and_then {A = B} {B = A × B} r (λ b m. got (a, b) (n + m))) ≡ joined n (ta a) (found_of tb r)
    second a n (got b m) = refl
    second a n bad = refl

    go : (r : Read A) → found_of (pair_test ta tb) (and_then r (λ a n. and_then {A = B} {B = A × B} (q (drop n es)) (λ b m. got (a, b) (n + m)))) ≡ followed_by (found_of ta r) (λ xs. found_of tb (q xs)) es
    go (got a n) = second a n (q (drop n es))
    go bad = refl

-- what an answer counts is there
abbrev pub Within : List Entry → Option Found → Type 0
Within es r = (f : Found) → r ≡ Some f → f.entries ≤ length es

pub within : {A : Type 0} (t : A → Bool) {p : Reader A} {w : A → List Entry} {K : A → Type 0} → Agrees p w K → (es : List Entry) (r : Option Found) → r ≡ found_of t (p es) → Within es r
within t s es r e f h = found_fits t s es f (sym e ∙ h)

-- the first part, as found at the front, and the second, as found in the entries behind it
module _ {A B : Type 0} (p : Reader A) (q : Reader B) (ta : A → Bool) (tb : B → Bool) (ks ws : List ℕ) where
  pub first_none : None ≡ found_of ta (p (entries ks ws)) → None ≡ found_of (pair_test ta tb) (both p q (entries ks ws))
  first_none h = sym (both_found p q ta tb (entries ks ws) ∙ ap (λ f. followed_by f (λ es. found_of tb (q es)) (entries ks ws)) (sym h))

  module _ (f : Found) (h : Some f ≡ found_of ta (p (entries ks ws))) where
    pub then_is : (r : Option Found) → r ≡ found_of tb (q (lent_from ks ws f.entries)) → joined f.entries f.barred r ≡ found_of (pair_test ta tb) (both p q (entries ks ws))
    then_is r e =
        ap (joined f.entries f.barred) (e ∙ ap (λ es. found_of tb (q es)) (entries_part f.entries ks ws))
        ∙ sym (both_found p q ta tb (entries ks ws) ∙ ap (λ f. followed_by f (λ es. found_of tb (q es)) (entries ks ws)) (sym h))

-- ---- items and an end
module _ {A B : Type 0} (ta : A → Bool) (tb : B → Bool) (stop : ℕ → Bool) (item : Reader A) (end : Reader B) where
  abbrev all : ℕ → List Entry → Option Found
  all n es = found_of (all_test ta tb) (until stop item end n es)

  shifted : (a : A) (k : ℕ) (r : Read (List A × B)) → found_of (all_test ta tb) (and_then r (λ y m. got (a ∷ y.0, y.1) (k + m))) ≡ joined k (ta a) (found_of (all_test ta tb) r)
  unfolding any
  shifted a k (got y m) = ap (λ b. Some (found (k + m) b)) (sym (or_assoc (ta a) (any ta y.0) (tb y.1)))
  shifted a k bad = refl

  -- a list by the entry in front: an end, or an item and then the others
  pub until_end : (n : ℕ) (es : List Entry) → stops stop es ≡ true → all n es ≡ found_of tb (end es)
  unfolding until mapped any
  until_end zero es t = rw t (last (end es))
    where
      last : (r : Read B) → found_of {A = List A × B} (all_test ta tb) (and_then r (λ b m. got ([], b) m)) ≡ found_of tb r
      last (got b m) = refl
      last bad = refl
  until_end (suc n) es t = rw t (last (end es))
    where
      last : (r : Read B) → found_of {A = List A × B} (all_test ta tb) (and_then r (λ b m. got ([], b) m)) ≡ found_of tb r
      last (got b m) = refl
      last bad = refl

  pub until_item : (n : ℕ) (es : List Entry) → stops stop es ≡ false → all (suc n) es ≡ followed_by (found_of ta (item es)) (all n) es
  unfolding until
  until_item n es t = rw t (go (item es))
    where
      go : (q : Read A) → found_of {A = List A × B} (all_test ta tb) (and_then q (λ a k. and_then (until stop item end n (drop k es)) (λ y m. got (a ∷ y.0, y.1) (k + m)))) ≡ followed_by (found_of ta q) (all n) es
      go (got a k) = shifted a k (until stop item end n (drop k es))
      go bad = refl

  pub until_full : (es : List Entry) → stops stop es ≡ false → all 0 es ≡ None
  unfolding until
  until_full es t = rw t

  -- ---- a loop over a list, on slices: at the place a, with so many items left and o found so far
  module _ (n : ℕ) (ks ws : List ℕ) where
    abbrev rest : ℕ → ℕ → Bool → Option Found
    rest left a o = joined a o (all left (drop a (entries ks ws)))

    pub record Loop (a left : ℕ) (o : Bool) : Type 0 where
      pub kinds : a ≤ length ks
      pub words : a ≤ length ws
      pub there : a ≤ length (entries ks ws)
      pub goes : all n (entries ks ws) ≡ rest left a o

    loop : (a left : ℕ) (o : Bool) → a ≤ length (entries ks ws) → all n (entries ks ws) ≡ rest left a o → Loop a left o
    loop a left o f e = record { kinds = within_kinds a ks ws f; words = within_words a ks ws f; there = f; goes = e }

    pub loop_start : (left : ℕ) → left ≡ n → Loop 0 left false
    loop_start left e = loop 0 left false (omega arith) (rw e (sym (joined_none _)))

    module _ (a left : ℕ) (o : Bool) (l : Loop a left o) where
      -- the loop goes on behind an item
      pub loop_next : {w : A → List Entry} {K : A → Type 0} → Agrees item w K → stops stop (drop a (entries ks ws)) ≡ false
          → (f : Found) → Some f ≡ found_of ta (item (lent_from ks ws a)) → (left ≡ 0 → ⊥) → Loop (a + f.entries) (left - 1) (o || f.barred)
      loop_next p t f h z =
          let here : found_of ta (item (drop a (entries ks ws))) ≡ Some f = ap (λ es. found_of ta (item es)) (sym (entries_part a ks ws)) ∙ sym h in
          let fits : f.entries ≤ length (drop a (entries ks ws)) = found_fits ta p (drop a (entries ks ws)) f here in
          loop (a + f.entries) (left - 1) (o || f.barred) (omega (arith, l.there, length-drop a (entries ks ws))) (l.goes ∙ go left z here)
        where
          go : (left : ℕ) → (left ≡ 0 → ⊥) → found_of ta (item (drop a (entries ks ws))) ≡ Some f → rest left a o ≡ rest (left - 1) (a + f.entries) (o || f.barred)
          go zero z here = absurd (z refl)
          go (suc left) z here =
              ap (joined a o) (until_item left (drop a (entries ks ws)) t ∙ ap (λ r. followed_by r (all left) (drop a (entries ks ws))) here)
              ∙ rw (sub-one (suc left), drop-drop f.entries a (entries ks ws)) (joined_joined a f.entries o f.barred (all left (drop (a + f.entries) (entries ks ws))))

      -- it finds nothing where an item is none, or where none may stand any more
      pub loop_none : stops stop (drop a (entries ks ws)) ≡ false → None ≡ found_of ta (item (lent_from ks ws a)) → None ≡ all n (entries ks ws)
      loop_none t h = sym (l.goes ∙ go left)
        where
          here : found_of ta (item (drop a (entries ks ws))) ≡ None
          here = ap (λ es. found_of ta (item es)) (sym (entries_part a ks ws)) ∙ sym h

          go : (left : ℕ) → rest left a o ≡ None
          go zero = ap (joined a o) (until_full (drop a (entries ks ws)) t)
          go (suc left) = ap (joined a o) (until_item left (drop a (entries ks ws)) t ∙ ap (λ r. followed_by r (all left) (drop a (entries ks ws))) here)

      pub loop_full : stops stop (drop a (entries ks ws)) ≡ false → left ≡ 0 → None ≡ all n (entries ks ws)
      loop_full t z = sym (l.goes ∙ ap (λ i. rest i a o) z ∙ ap (joined a o) (until_full (drop a (entries ks ws)) t))

      -- and what the end is where that stands
      pub loop_end : stops stop (drop a (entries ks ws)) ≡ true → joined a o (found_of tb (end (drop a (entries ks ws)))) ≡ all n (entries ks ws)
      loop_end t = sym (l.goes ∙ ap (joined a o) (until_end left (drop a (entries ks ws)) t))

-- ---- lists that close with kind 0
module _ {A : Type 0} (ta : A → Bool) (item : Reader A) where
  -- the length of a list is that of the items and the closing entry
  pub list_found : (n : ℕ) (es : List Entry) → found_of (any ta) (list_of n item es) ≡ found_of (all_test ta never) (until is_closing item closing n es)
  unfolding list_of mapped
  list_found n es = go (until is_closing item closing n es)
    where
      go : (r : Read (List A × Unit {0})) → found_of (any ta) (and_then r (λ a n. got a.0 n)) ≡ found_of (all_test ta never) r
      go (got a n) = ap (λ b. Some (found n b)) (sym (or-false (any ta a.0)))
      go bad = refl

  pub many_found : (es : List Entry) → found_of (any ta) (many item es) ≡ found_of (all_test ta never) (until is_closing item closing (length es) es)
  unfolding many
  many_found es = list_found (length es) es

  -- a list bounded by the entries that there are
  pub listed : (es : List Entry) (n : ℕ) (r : Option Found) → r ≡ found_of (any ta) (list_of n item es) → n ≡ length es → r ≡ found_of (any ta) (many item es)
  unfolding many
  listed es n r e h = e ∙ ap (λ k. found_of (any ta) (list_of k item es)) h

  module _ (n : ℕ) (ks ws : List ℕ) where
    -- a list and its loop, at the entry in front of what is left
    abbrev pub Listing : ℕ → ℕ → Bool → Type 0
    Listing a left o = Loop ta never is_closing item closing n ks ws a left o

    abbrev pub whole : Option Found
    whole = found_of (all_test ta never) (until is_closing item closing n (entries ks ws))

    pub list_start : (left : ℕ) → left ≡ n → Listing 0 left false
    list_start left e = loop_start ta never is_closing item closing n ks ws left e

    module _ (a left : ℕ) (o : Bool) (l : Listing a left o) where
      pub list_none : None ≡ front_of (lent_from ks ws a) → None ≡ whole
      unfolding front_of stops closing word one
      list_none h = go (drop a (entries ks ws)) (h ∙ ap front_of (entries_part a ks ws)) (loop_end ta never is_closing item closing n ks ws a left o l)
        where
          go : (es : List Entry) → None ≡ front_of es → (stops is_closing es ≡ true → joined a o (found_of never (closing es)) ≡ whole) → None ≡ whole
          go [] e g = g refl
          go (x ∷ es) e g = absurd (let z : ◌≡◌ {A = ℕ} 0 1 = cc in omega arith)

      module _ (k w : ℕ) (h : Some (k, w) ≡ front_of (lent_from ks ws a)) where
        front_here : Some (k, w) ≡ front_of (drop a (entries ks ws))
        front_here = h ∙ ap front_of (entries_part a ks ws)

        pub list_end : k ≡ 0 → then_some (eqb w 0) (found (a + 1) o) ≡ whole
        unfolding front_of stops closing word one
        list_end z = go (drop a (entries ks ws)) front_here (loop_end ta never is_closing item closing n ks ws a left o l)
          where
            last : (b : Bool) → then_some b (found (a + 1) o) ≡ joined a o (found_of {A = Unit {0}} never (taking 1 (when b tt)))
            last true = ap (λ b. Some (found (a + 1) b)) (sym (or-false o))
            last false = refl

            go : (es : List Entry) → Some (k, w) ≡ front_of es → (stops is_closing es ≡ true → joined a o (found_of never (closing es)) ≡ whole) → then_some (eqb w 0) (found (a + 1) o) ≡ whole
            go [] e g = absurd (let z : ◌≡◌ {A = ℕ} 0 1 = cc in omega arith)
            go (x ∷ es) e g =
                let same : ◌≡◌ {A = ℕ × ℕ} (k, w) (x.kind, x.word) = cc in
                let kind : x.kind ≡ 0 = sym (ap (λ p. p.0) same) ∙ z in
                ap (λ j. then_some (eqb j 0) (found (a + 1) o)) (ap (λ p. p.1) same) ∙ last (eqb x.word 0) ∙ (rw (ap (λ j. eqb j 0) kind) at (g (ap (λ j. eqb j 0) kind)))

        module _ (d : k ≡ 0 → ⊥) where
          goes_on : stops is_closing (drop a (entries ks ws)) ≡ false
          unfolding front_of stops
          goes_on = go (drop a (entries ks ws)) front_here
            where
              go : (es : List Entry) → Some (k, w) ≡ front_of es → stops is_closing es ≡ false
              go [] e = absurd (let z : ◌≡◌ {A = ℕ} 0 1 = cc in omega arith)
              go (x ∷ es) e =
                  let same : ◌≡◌ {A = ℕ × ℕ} (k, w) (x.kind, x.word) = cc in
                  ne_eqb x.kind 0 (λ z. d (ap (λ p. p.0) same ∙ z))

          pub list_full : left ≡ 0 → None ≡ whole
          list_full z = loop_full ta never is_closing item closing n ks ws a left o l goes_on z

          pub list_bad : None ≡ found_of ta (item (lent_from ks ws a)) → None ≡ whole
          list_bad e = loop_none ta never is_closing item closing n ks ws a left o l goes_on e

          pub list_next : {w : A → List Entry} {K : A → Type 0} → Agrees item w K → (f : Found) → Some f ≡ found_of ta (item (lent_from ks ws a)) → (left ≡ 0 → ⊥) → Listing (a + f.entries) (left - 1) (o || f.barred)
          list_next p f e z = loop_next ta never is_closing item closing n ks ws a left o l p goes_on f e z

-- ---- a list in which nothing can be forbidden, as types are
pub size_then : (b : Bool) (f : Found) → then_some b f.entries ≡ size_of (then_some b f)
size_then true f = refl
size_then false f = refl

module _ {A : Type 0} (item : Reader A) (ks ws : List ℕ) where
  pub sized : (f : Option Found) → f ≡ whole never item (length (entries ks ws)) ks ws → size_of f ≡ len_of (many item (entries ks ws))
  sized f e =
      ap size_of e ∙ size_of_lem (all_test never never) (until is_closing item closing (length (entries ks ws)) (entries ks ws))
      ∙ sym (many_len item (entries ks ws))
