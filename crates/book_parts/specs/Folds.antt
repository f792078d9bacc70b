-- Laws on items that each change a state or are refused, and on the loops over functions, named structs and marks.
use Prim.Native.Nat.{ℕ, zero, suc, ◌+◌, ◌-◌, ◌≤◌}
use Rattle.std.specs.Prelude.{◌≡◌, Bool, true, List, [], ◌∷◌, ◌++◌, length, get_or, drop}
use Rattle.std.proofs.Math.Path.{refl}
use Rattle.std.proofs.Common.{ap, sym, ◌∙◌, sub-one, arith, length-append, length-drop, drop-drop}
use Rattle.std.proofs.Math.Bool.{false}
use Rattle.std.proofs.Math.Option.{Option, none, some}
use Rattle.book.specs.Entry.{Entry, entry, entries}
use Rattle.book.specs.Read.{Read, got, bad, Reader, and_then, stops, mapped, until}
use Rattle.book.specs.Agree.{Begins, Agrees}
use Rattle.book_types.specs.Laws.{entry_at, entries_part, within_kinds, within_words, lent_from}
use Rattle.book_types.specs.Found.{found_of, joined}
use Rattle.book_types.specs.Passes.{joined_joined, joined_none, found_got, found_bad}
use Rattle.book_types.specs.declared.Found.{Found}
use Rattle.std.specs.Prelude as code
use Rattle.std.specs.Prelude.{Some, None}
use Rattle.book_parts.specs.Reading.{goes, answered, folded, end_found, all_found}

module _ {S A B : Type 0} (taken : S → A → Option S) (ended : S → B → Option Bool) (stop : ℕ → Bool) (item : Reader A) (end : Reader B) where
  abbrev all : S → ℕ → List Entry → code.Option Found
  all s n es = all_found taken ended s (until stop item end n es)

  -- the end
  pub all_end : (s : S) (n : ℕ) (es : List Entry) → stops stop es ≡ true → all s n es ≡ end_found ended s (end es)
  unfolding until mapped folded
  all_end s n es t = by n
    where
      go : (r : Read B) → all_found taken ended s (and_then r (λ b m. got ([], b) m)) ≡ end_found ended s r
      go (got b m) = refl
      go bad = refl

      by : (n : ℕ) → all s n es ≡ end_found ended s (end es)
      by zero = rw t (go (end es))
      by (suc n) = rw t (go (end es))

  -- an item
  module _ (s : S) (n : ℕ) (es : List Entry) (t : stops stop es ≡ false) where
    pub all_bad : item es ≡ bad → all s n es ≡ None
    unfolding until
    all_bad e = go n
      where
        go : (n : ℕ) → all s n es ≡ None
        go zero = rw t
        go (suc n) = rw (t, e)

    pub all_full : n ≡ 0 → all s n es ≡ None
    unfolding until
    all_full z = rw (z, t)

    module _ (a : A) (k : ℕ) (e : item es ≡ got a k) where
      pub all_refused : taken s a ≡ none → all s n es ≡ None
      unfolding until folded
      all_refused r = go n
        where
          later : (q : Read (List A × B)) → all_found taken ended s (and_then q (λ y m. got (a ∷ y.0, y.1) (k + m))) ≡ None
          later (got y m) = rw r
          later bad = refl

          go : (n : ℕ) → all s n es ≡ None
          go zero = rw t
          go (suc n) = rw (t, e) (later (until stop item end n (drop k es)))

      pub all_taken : (u : S) → taken s a ≡ some u → (n ≡ 0 → ⊥) → all s n es ≡ joined k false (all u (n - 1) (drop k es))
      unfolding until folded
      all_taken u r z = go n z
        where
          later : (q : Read (List A × B)) → all_found taken ended s (and_then q (λ y m. got (a ∷ y.0, y.1) (k + m))) ≡ joined k false (all_found taken ended u q)
          later (got y m) = rw r (shift (goes (folded taken u y.0) (λ t. ended t y.1)))
            where
              shift : (o : Option Bool) → answered (k + m) o ≡ joined k false (answered m o)
              shift none = refl
              shift (some f) = refl
          later bad = refl

          go : (n : ℕ) → (n ≡ 0 → ⊥) → all s n es ≡ joined k false (all u (n - 1) (drop k es))
          go zero z = absurd (z refl)
          go (suc n) z = rw (sub-one (suc n), t, e) (later (until stop item end n (drop k es)))

  -- ---- a loop, on slices: at the place a, with so many items left and the state s
  module _ (s₀ : S) (n : ℕ) (ks ws : List ℕ) where
    pub record Fold (a left : ℕ) (s : S) : Type 0 where
      pub kinds : a ≤ length ks
      pub words : a ≤ length ws
      pub there : a ≤ length (entries ks ws)
      pub whole : all s₀ n (entries ks ws) ≡ joined a false (all s left (drop a (entries ks ws)))

    fold : (a left : ℕ) (s : S) → a ≤ length (entries ks ws) → all s₀ n (entries ks ws) ≡ joined a false (all s left (drop a (entries ks ws))) → Fold a left s
    fold a left s f e = record { kinds = within_kinds a ks ws f; words = within_words a ks ws f; there = f; whole = e }

    pub fold_start : (left : ℕ) → left ≡ n → Fold 0 left s₀
    fold_start left e = fold 0 left s₀ (omega arith) (rw e (sym (joined_none _)))

    module _ (a left : ℕ) (s : S) (l : Fold a left s) where
      pub fold_end : stops stop (drop a (entries ks ws)) ≡ true → (r x : code.Option Found) → r ≡ end_found ended s (end (drop a (entries ks ws))) → x ≡ joined a false r → x ≡ all s₀ n (entries ks ws)
      fold_end t r x er ex = ex ∙ ap (joined a false) (er ∙ sym (all_end s left (drop a (entries ks ws)) t)) ∙ sym l.whole

      module _ (t : stops stop (drop a (entries ks ws)) ≡ false) where
        pub fold_bad : item (drop a (entries ks ws)) ≡ bad → None ≡ all s₀ n (entries ks ws)
        fold_bad e = sym (l.whole ∙ ap (joined a false) (all_bad s left (drop a (entries ks ws)) t e))

        pub fold_full : left ≡ 0 → None ≡ all s₀ n (entries ks ws)
        fold_full z = sym (l.whole ∙ ap (joined a false) (all_full s left (drop a (entries ks ws)) t z))

        module _ (x : A) (k : ℕ) (e : item (drop a (entries ks ws)) ≡ got x k) where
          pub fold_refused : taken s x ≡ none → None ≡ all s₀ n (entries ks ws)
          fold_refused r = sym (l.whole ∙ ap (joined a false) (all_refused s left (drop a (entries ks ws)) t x k e r))

          pub fold_next : (u : S) → taken s x ≡ some u → (left ≡ 0 → ⊥) → a + k ≤ length (entries ks ws) → Fold (a + k) (left - 1) u
          fold_next u r z f =
              fold (a + k) (left - 1) u f
              (l.whole ∙ ap (joined a false) (all_taken s left (drop a (entries ks ws)) t x k e u r z) ∙ joined_joined a k false false (all u (left - 1) (drop k (drop a (entries ks ws)))) ∙ ap (λ q. joined (a + k) false (all u (left - 1) q)) (drop-drop k a (entries ks ws)))

-- ---- items that begin with their name
abbrev pub NameFirst : List Entry → ℕ → Type 0
NameFirst es x = (k : ℕ) × ((rest : List Entry) × (es ≡ entry k x ∷ rest))

-- an item of k entries at the place a: its name is the word in front
pub record ItemAt {A : Type 0} (item : Reader A) (test : A → Bool) (name_of : A → ℕ) (ks ws : List ℕ) (a k : ℕ) (b : Bool) : Type 0 where
  pub value : A
  pub read : item (drop a (entries ks ws)) ≡ got value k
  pub tested : test value ≡ b
  pub name : name_of value ≡ get_or ws a 0
  pub long : 1 ≤ k
  pub there : a + k ≤ length (entries ks ws)

front_word : (xs ys : List Entry) {x y : Entry} → x ∷ xs ≡ y ∷ ys → x.word ≡ y.word
front_word xs ys {x} {y} q = let z : x ≡ y = cc in ap (λ e. e.word) z

-- from what the code found there
module _ {A : Type 0} {item : Reader A} {write : A → List Entry} {Keeps : A → Type 0} (agrees : Agrees item write Keeps) (test : A → Bool) (name_of : A → ℕ)
    (first : (x : A) → NameFirst (write x) (name_of x)) (ks ws : List ℕ) (a : ℕ) (in_book : a ≤ length (entries ks ws)) (f : code.Option Found) (ef : f ≡ found_of test (item (lent_from ks ws a))) where
  abbrev rest : List Entry
  rest = drop a (entries ks ws)

  at_rest : f ≡ found_of test (item rest)
  at_rest = rw (entries_part a ks ws) at ef

  pub item_none : f ≡ None → item rest ≡ bad
  item_none h = found_bad test (item rest) (sym at_rest ∙ h)

  pub item_at : (g : Found) → f ≡ Some g → ItemAt item test name_of ks ws a g.entries g.barred
  item_at g h =
      let r = found_got test (item rest) g (sym at_rest ∙ h) in
      let x = r.0 in
      let s : Begins write Keeps rest x g.entries = agrees.sound rest x g.entries r.1.0 in
      let q = (first x).1.1 in
      let long : 1 ≤ g.entries = omega (arith, s.size, ap length q) in
      let there : a + g.entries ≤ length (entries ks ws) = omega (arith, s.size, ap length s.here, length-append (write x) (drop g.entries rest), length-drop a (entries ks ws)) in
      let name = front_word _ _ (sym (entry_at ks ws a (omega arith)) ∙ s.here ∙ ap (λ es. es ++ drop g.entries rest) q) in
      record { value = x; read = r.1.0; tested = r.1.1; name = sym name; long = long; there = there }
