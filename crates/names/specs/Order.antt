-- The order of names is strict, so that ascending names are distinct; and names that start alike stand together.
use Rattle.std.specs.Prelude.{ℕ, zero, suc, ◌<◌, ◌≤◌, ◌≡◌, refl, ◌⊎◌, true, false, ◌&&◌, List, [], ◌∷◌, eqb, ltb, length, take, drop}
use Rattle.std.proofs.Common.{sym, ◌∙◌, inl, inr, ⊎_elim, true≢false, arith, eq-or-lt_of_le, ltb-true, ltb-false, lt-ltb, le-ltb, eqb-true, eq-eqb}
use Rattle.std.proofs.lemmas.Bool.{false≢true}
use Rattle.names.specs.Text.{starts}
use Rattle.names.specs.Name.{before, ascending_from, ascending, name_at}
use Rattle.names.specs.Tests.{both, either, or_right, is_false, decide}

pub irreflexive : (s : List ℕ) → before s s ≡ false
unfolding before
irreflexive [] = refl
irreflexive (x ∷ xs) = simp (le-ltb x x (omega arith), eq-eqb x x refl, irreflexive xs)

-- why one text comes before another that has a first byte: by the first byte, or by what follows equal ones
abbrev Reason : ℕ → ℕ → List ℕ → List ℕ → Type 0
Reason x y xs ys = (x < y) ⊎ ((x ≡ y) × (before xs ys ≡ true))

reason : (x y : ℕ) (xs ys : List ℕ) → before (x ∷ xs) (y ∷ ys) ≡ true → Reason x y xs ys
unfolding before
reason x y xs ys h =
    ⊎_elim (λ l. inl (ltb-true x y l)) (λ e. let e' = both (eqb x y) (before xs ys) e in inr (eqb-true x y e'.0, e'.1))
    (either (ltb x y) (eqb x y && before xs ys) h)

by_reason : (x y : ℕ) (xs ys : List ℕ) → Reason x y xs ys → before (x ∷ xs) (y ∷ ys) ≡ true
unfolding before
by_reason x y xs ys =
    ⊎_elim (λ l. rw (lt-ltb x y l)) (λ e. or_right (ltb x y) _ (rw (eq-eqb x y e.0) e.1))

reason_trans : (x y z : ℕ) (xs ys zs : List ℕ) → (before xs ys ≡ true → before ys zs ≡ true → before xs zs ≡ true)
    → Reason x y xs ys → Reason y z ys zs → Reason x z xs zs
reason_trans x y z xs ys zs ih =
    ⊎_elim
    (λ l. ⊎_elim (λ m. inl (omega arith)) (λ e. let q = e.0 in inl (omega arith)))
    (λ d. let p = d.0 in ⊎_elim (λ m. inl (omega arith)) (λ e. inr (p ∙ e.0, ih d.1 e.1)))

pub transitive : (a b c : List ℕ) → before a b ≡ true → before b c ≡ true → before a c ≡ true
unfolding before
transitive a b [] h k = absurd (false≢true k)
transitive a [] (z ∷ zs) h k = absurd (false≢true h)
transitive [] (y ∷ ys) (z ∷ zs) h k = refl
transitive (x ∷ xs) (y ∷ ys) (z ∷ zs) h k =
    by_reason x z xs zs (reason_trans x y z xs ys zs (transitive xs ys zs) (reason x y xs ys h) (reason y z ys zs k))

-- a strict order between numbers, one way or the other, or none
pub compared : (i j : ℕ) → (i < j) ⊎ ((i ≡ j) ⊎ (j < i))
compared i j =
    ⊎_elim (λ e. inl (ltb-true i j e)) (λ e. inr (⊎_elim (λ d. inr (ltb-true j i d)) (λ d. inl (omega (arith, ltb-false i j e, ltb-false j i d))) (decide (ltb j i))))
    (decide (ltb i j))

-- of two different texts one comes before the other
pub total : (a b : List ℕ) → before a b ≡ false → before b a ≡ false → a ≡ b
unfolding before
total [] [] h k = refl
total [] (y ∷ ys) h k = absurd (true≢false h)
total (x ∷ xs) [] h k = absurd (true≢false k)
total (x ∷ xs) (y ∷ ys) h k = by_first (total xs ys) (compared x y)
  where
    not_so : (u v : ℕ) (us vs : List ℕ) → before (u ∷ us) (v ∷ vs) ≡ false → Reason u v us vs → ⊥
    not_so u v us vs e r = true≢false (sym (by_reason u v us vs r) ∙ e)

    by_first : (before xs ys ≡ false → before ys xs ≡ false → xs ≡ ys) → (x < y) ⊎ ((x ≡ y) ⊎ (y < x)) → x ∷ xs ≡ y ∷ ys
    by_first ih =
        ⊎_elim (λ l. absurd (not_so x y xs ys h (inl l)))
        (⊎_elim
        (λ e. rw (e, ih (is_false (before xs ys) (λ r. not_so x y xs ys h (inr (e, r)))) (is_false (before ys xs) (λ r. not_so y x ys xs k (inr (sym e, r))))))
        (λ l. absurd (not_so y x ys xs k (inl l))))

-- behind k bytes that are the same the rest decides
pub before_behind : (k : ℕ) (a b : List ℕ) → k ≤ length a → k ≤ length b → take k a ≡ take k b → before a b ≡ before (drop k a) (drop k b)
unfolding before
before_behind zero a b la lb e = refl
before_behind (suc k) [] b la lb e = absurd (omega arith)
before_behind (suc k) (x ∷ xs) [] la lb e = absurd (omega arith)
before_behind (suc k) (x ∷ xs) (y ∷ ys) la lb e =
    let f : x ≡ y = cc in
    let t : take k xs ≡ take k ys = cc in
    rw (f, le-ltb y y (omega arith), eq-eqb y y refl) (before_behind k xs ys (omega arith) (omega arith) t)

-- a text between two that start with p starts with p
pub between : (p a b c : List ℕ) → starts p a ≡ true → starts p c ≡ true → before a b ≡ true → before b c ≡ true → starts p b ≡ true
unfolding before starts
between [] a b c s t h k = refl
between (w ∷ p) [] b c s t h k = absurd (false≢true s)
between (w ∷ p) (x ∷ xs) [] c s t h k = absurd (false≢true h)
between (w ∷ p) (x ∷ xs) (y ∷ ys) [] s t h k = absurd (false≢true t)
between (w ∷ p) (x ∷ xs) (y ∷ ys) (z ∷ zs) s t h k =
    let s' = both (eqb w x) (starts p xs) s in
    let t' = both (eqb w z) (starts p zs) t in
    let wx = eqb-true w x s'.0 in
    let wz = eqb-true w z t'.0 in
    same_front (between p xs ys zs s'.1 t'.1) wx wz (reason x y xs ys h) (reason y z ys zs k)
  where
    same_front : (before xs ys ≡ true → before ys zs ≡ true → starts p ys ≡ true) → w ≡ x → w ≡ z
        → Reason x y xs ys → Reason y z ys zs → (eqb w y && starts p ys) ≡ true
    same_front ih wx wz =
        ⊎_elim
        (λ l. ⊎_elim (λ m. absurd (omega arith)) (λ e. let q = e.0 in absurd (omega arith)))
        (λ d. let q = d.0 in ⊎_elim (λ m. absurd (omega arith)) (λ e. rw (eq-eqb w y (wx ∙ q)) (ih d.1 e.1)))

-- each name of an ascending list comes after what they ascend from
after_last : (last : List ℕ) (ns : List (List ℕ)) → ascending_from last ns ≡ true → (i : ℕ) → i < length ns → before last (name_at ns i) ≡ true
unfolding ascending_from name_at
after_last last [] h i l = absurd (omega arith)
after_last last (n ∷ ns) h zero l = (both (before last n) (ascending_from n ns) h).0
after_last last (n ∷ ns) h (suc i) l =
    let h' = both (before last n) (ascending_from n ns) h in
    transitive last n (name_at ns i) h'.0 (after_last n ns h'.1 i (omega arith))

pub ascending_rest : (n : List ℕ) (ns : List (List ℕ)) → ascending (n ∷ ns) ≡ true → ascending ns ≡ true
unfolding ascending ascending_from
ascending_rest n [] h = refl
ascending_rest n (m ∷ ns) h = (both (before n m) (ascending_from m ns) h).1

-- a smaller number is an earlier name
pub earlier : (ns : List (List ℕ)) → ascending ns ≡ true → (i j : ℕ) → i < j → j < length ns → before (name_at ns i) (name_at ns j) ≡ true
unfolding ascending name_at
earlier [] h i j l k = absurd (omega arith)
earlier (n ∷ ns) h i zero l k = absurd (omega arith)
earlier (n ∷ ns) h zero (suc j) l k = after_last n ns h j (omega arith)
earlier (n ∷ ns) h (suc i) (suc j) l k = earlier ns (ascending_rest n ns h) i j (omega arith) (omega arith)

-- names are distinct
pub distinct : (ns : List (List ℕ)) → ascending ns ≡ true → (i j : ℕ) → i < length ns → j < length ns → name_at ns i ≡ name_at ns j → i ≡ j
distinct ns h i j l k e =
    ⊎_elim (λ d. absurd (clash i j d k e)) (⊎_elim (λ d. d) (λ d. absurd (clash j i d l (sym e)))) (compared i j)
  where
    clash : (m n : ℕ) → m < n → n < length ns → name_at ns m ≡ name_at ns n → ⊥
    clash m n d b q =
        false≢true (sym (irreflexive (name_at ns n)) ∙ (rw q at (earlier ns h m n d b)))

-- the names that start with p stand together
pub together : (p : List ℕ) (ns : List (List ℕ)) → ascending ns ≡ true → (i j k : ℕ) → i ≤ j → j ≤ k → k < length ns
    → starts p (name_at ns i) ≡ true → starts p (name_at ns k) ≡ true → starts p (name_at ns j) ≡ true
together p ns h i j k l m b s t = inner (eq-or-lt_of_le l) (eq-or-lt_of_le m)
  where
    inner : (i ≡ j) ⊎ (i < j) → (j ≡ k) ⊎ (j < k) → starts p (name_at ns j) ≡ true
    inner =
        ⊎_elim (λ e. λ _. rw e at s)
        (λ d. ⊎_elim (λ e. rw (← e) at t) (λ d'. between p _ (name_at ns j) _ s t (earlier ns h i j d (omega arith)) (earlier ns h j k d' b)))
