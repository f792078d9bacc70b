-- A reader and a writer agree: what is read is what was written, within the limits, and every such writing is read. One law for each
-- way to put readers together.
use Prim.Native.Nat.{ℕ, zero, suc, ◌+◌, ◌≤◌}
use Rattle.std.proofs.Math.Path.{◌≡◌, refl, ap, sym}
use Rattle.std.proofs.Common.{◌∙◌, subst₂, eqb-true, eq-eqb, drop-drop}
use Rattle.std.specs.Prelude.{Bool, drop}
use Rattle.std.proofs.Math.Bool.{true, false}
use Rattle.std.proofs.Math.Option.{Option, none, some}
use mathlib.Core.List.{List, [], ◌∷◌, ◌++◌, append_assoc}
use native.Mathlib.Omega.{arith}
use Rattle.std.proofs.Math.ListN.{length, length-append}
use Rattle.std.proofs.Math.Seq.{drop-append_seam}
use Rattle.std.proofs.Math.Dec.{eqb}
use Rattle.book.specs.Entry.{Entry, entry}
use Rattle.book.specs.Rule.{when, pick}
use Rattle.book.specs.Read.{Read, got, bad, Reader, and_then, taking, choose, one, filtered, optional, stops, mapped, both, until, word}
use Rattle.book.specs.Encode.{ending, or_absent}
use Rattle.book.specs.Limits.{Each, Maybe}

module _ {A : Type 0} (write : A → List Entry) (Keeps : A → Type 0) where
  -- the entries begin with what is written for a, n entries
  pub record Begins (es : List Entry) (a : A) (n : ℕ) : Type 0 where
    pub here : es ≡ write a ++ drop n es
    pub size : n ≡ length (write a)
    pub keeps : Keeps a

  abbrev pub Sound : Reader A → Type 0
  Sound p = (es : List Entry) (a : A) (n : ℕ) → p es ≡ got a n → Begins es a n

  abbrev pub Complete : Reader A → Type 0
  Complete p = (a : A) (rest : List Entry) → Keeps a → p (write a ++ rest) ≡ got a (length (write a))

  -- whether the first entry of what is written stops a list
  abbrev pub Heads : (ℕ → Bool) → Bool → Type 0
  Heads stop b = (a : A) (rest : List Entry) → Keeps a → stops stop (write a ++ rest) ≡ b

module _ {A : Type 0} where
  pub record Agrees (p : Reader A) (write : A → List Entry) (Keeps : A → Type 0) : Type 0 where
    pub sound : Sound write Keeps p
    pub complete : Complete write Keeps p

  pub no_got : {B : Type 0} (a : A) (n : ℕ) → bad ≡ got a n → B
  no_got a n e = absurd (let z : ◌≡◌ {A = ℕ} 0 1 = cc in omega arith)

  pub no_some : {B : Type 0} (a : A) → none ≡ some a → B
  no_some a e = absurd (let z : ◌≡◌ {A = ℕ} 0 1 = cc in omega arith)

  -- from an equation of results to the claim at the result in hand
  pub moved : (write : A → List Entry) (Keeps : A → Type 0) (es : List Entry) (a b : A) (n k : ℕ) → got a n ≡ got b k → Begins write Keeps es a n → Begins write Keeps es b k
  moved write Keeps es a b n k e = subst₂ (Begins write Keeps es) (cc) (cc)

  pub when_some : (t : Bool) (a b : A) → when t a ≡ some b → (t ≡ true) × (a ≡ b)
  when_some true a b e = (refl, cc)
  when_some false a b e = no_some b e

-- ---- one entry
module _ {A : Type 0} (rule : Entry → Option A) (write : A → Entry) (Keeps : A → Type 0) where
  pub agrees_one : ((e : Entry) (a : A) → rule e ≡ some a → (e ≡ write a) × Keeps a) → ((a : A) → Keeps a → rule (write a) ≡ some a)
      → Agrees (one rule) (λ a. write a ∷ []) Keeps
  unfolding one
  agrees_one s c = record { sound = sound; complete = λ a rest k. rw (c a k) }
    where
      found : (e : Entry) (es : List Entry) (a : A) (n : ℕ) (r : Option A) → rule e ≡ r → taking 1 r ≡ got a n → Begins (λ a. write a ∷ []) Keeps (e ∷ es) a n
      found e es a n none er h = no_got a n h
      found e es a n (some b) er h =
          let q : (e ≡ write b) × Keeps b = s e b er in
          moved (λ a. write a ∷ []) Keeps (e ∷ es) b a 1 n h (record { here = ap (λ x. x ∷ es) q.0; size = refl; keeps = q.1 })

      sound : Sound (λ a. write a ∷ []) Keeps (one rule)
      sound [] a n h = no_got a n h
      sound (e ∷ es) a n h = found e es a n (rule e) refl h

pub entry_is : (e : Entry) (k w : ℕ) → e.kind ≡ k → e.word ≡ w → e ≡ entry k w
entry_is e k w p q = λ i. record { kind = p i; word = q i }

module _ {A : Type 0} (k : ℕ) (rule : ℕ → Option A) (write : A → ℕ) (Keeps : A → Type 0) where
  pub agrees_word : ((w : ℕ) (a : A) → rule w ≡ some a → (w ≡ write a) × Keeps a) → ((a : A) → Keeps a → rule (write a) ≡ some a)
      → Agrees (word k rule) (λ a. entry k (write a) ∷ []) Keeps
  unfolding word
  agrees_word s c = agrees_one _ (λ a. entry k (write a)) Keeps (λ e a h. kinded e a (eqb e.kind k) refl h) (λ a h. rw (eq-eqb k k refl, c a h))
    where
      kinded : (e : Entry) (a : A) (b : Bool) → eqb e.kind k ≡ b → pick b (rule e.word) none ≡ some a → (e ≡ entry k (write a)) × Keeps a
      kinded e a true eb h =
          let q : (e.word ≡ write a) × Keeps a = s e.word a h in
          (entry_is e k (write a) (eqb-true _ _ eb) q.0, q.1)
      kinded e a false eb h = no_some a h

-- ---- one after the other
glue : (xs ys es : List Entry) (n m : ℕ) → es ≡ xs ++ drop n es → drop n es ≡ ys ++ drop m (drop n es) → es ≡ xs ++ ys ++ drop (n + m) es
glue xs ys es n m p q = p ∙ ap (λ r. xs ++ r) (q ∙ ap (λ r. ys ++ r) (drop-drop m n es)) ∙ sym (append_assoc xs ys (drop (n + m) es))

module _ {A B : Type 0} (p : Reader A) (q : Reader B) (w : A → List Entry) (v : B → List Entry) (K : A → Type 0) (L : B → Type 0) where
  abbrev write_both : A × B → List Entry
  write_both x = w x.0 ++ v x.1

  abbrev KeepsBoth : A × B → Type 0
  KeepsBoth x = K x.0 × L x.1

  pub agrees_both : Agrees p w K → Agrees q v L → Agrees (both p q) write_both KeepsBoth
  unfolding both
  agrees_both f g = record { sound = λ es x n h. first es x n (p es) refl h; complete = complete }
    where
      second : (es : List Entry) (a : A) (k : ℕ) → Begins w K es a k → (x : A × B) (n : ℕ) (r : Read B) → q (drop k es) ≡ r
          → and_then r (λ b m. got (a, b) (k + m)) ≡ got x n → Begins write_both KeepsBoth es x n
      second es a k s x n (got b m) er h =
          let t : Begins v L (drop k es) b m = g.sound (drop k es) b m er in
          moved write_both KeepsBoth es (a, b) x (k + m) n h (record {
            here = glue (w a) (v b) es k m s.here t.here;
            size = ap (λ j. j + m) s.size ∙ ap (λ j. length (w a) + j) t.size ∙ sym (length-append (w a) (v b));
            keeps = (s.keeps, t.keeps);
          })
      second es a k s x n bad er h = no_got x n h

      first : (es : List Entry) (x : A × B) (n : ℕ) (r : Read A) → p es ≡ r
          → and_then r (λ a k. and_then (q (drop k es)) (λ b m. got (a, b) (k + m))) ≡ got x n → Begins write_both KeepsBoth es x n
      first es x n (got a k) er h = second es a k (f.sound es a k er) x n (q (drop k es)) refl h
      first es x n bad er h = no_got x n h

      complete : Complete write_both KeepsBoth (both p q)
      complete x rest k =
          rw (append_assoc (w x.0) (v x.1) rest, f.complete x.0 (v x.1 ++ rest) k.0, drop-append_seam (w x.0) (v x.1 ++ rest), g.complete x.1 rest k.1, length-append (w x.0) (v x.1))

-- ---- another value for the same entries
module _ {A B : Type 0} (f : A → B) (g : B → A) (p : Reader A) (w : A → List Entry) (K : A → Type 0) where
  pub agrees_mapped : ((a : A) → g (f a) ≡ a) → ((b : B) → f (g b) ≡ b) → Agrees p w K → Agrees (mapped f p) (λ b. w (g b)) (λ b. K (g b))
  unfolding mapped
  agrees_mapped gf fg s = record { sound = λ es b n h. sound es b n (p es) refl h; complete = λ b rest k. rw (s.complete (g b) rest k, fg b) }
    where
      sound : (es : List Entry) (b : B) (n : ℕ) (r : Read A) → p es ≡ r → and_then r (λ a k. got (f a) k) ≡ got b n → Begins (λ b. w (g b)) (λ b. K (g b)) es b n
      sound es b n (got a k) er h =
          let t : Begins w K es a k = s.sound es a k er in
          moved (λ b. w (g b)) (λ b. K (g b)) es (f a) b k n h (record {
            here = rw (gf a) t.here;
            size = rw (gf a) t.size;
            keeps = rw (gf a) t.keeps;
          })
      sound es b n bad er h = no_got b n h

-- ---- only values that pass a test
module _ {A : Type 0} (test : A → Bool) (p : Reader A) (w : A → List Entry) (K : A → Type 0) where
  abbrev KeepsTest : A → Type 0
  KeepsTest a = K a × (test a ≡ true)

  pub agrees_filtered : Agrees p w K → Agrees (filtered test p) w KeepsTest
  unfolding filtered
  agrees_filtered s = record { sound = λ es a n h. sound es a n (p es) refl h; complete = λ a rest k. rw (s.complete a rest k.0, k.1) }
    where
      passed : (es : List Entry) (a b : A) (n k : ℕ) → Begins w K es a k → (t : Bool) → test a ≡ t → taking k (when t a) ≡ got b n → Begins w KeepsTest es b n
      passed es a b n k s true et h = moved w KeepsTest es a b k n h (record { here = s.here; size = s.size; keeps = (s.keeps, et) })
      passed es a b n k s false et h = no_got b n h

      sound : (es : List Entry) (b : A) (n : ℕ) (r : Read A) → p es ≡ r → and_then r (λ a k. taking k (when (test a) a)) ≡ got b n → Begins w KeepsTest es b n
      sound es b n (got a k) er h = passed es a b n k (s.sound es a k er) (test a) refl h
      sound es b n bad er h = no_got b n h

-- ---- a value or 21
abbrev pub is_absent : ℕ → Bool
is_absent k = eqb k 21

module _ {A : Type 0} (p : Reader A) (w : A → List Entry) (K : A → Type 0) where
  pub agrees_optional : Heads w K is_absent false → Agrees p w K → Agrees (optional p) (or_absent w) (Maybe K)
  unfolding optional stops
  agrees_optional heads s = record { sound = sound; complete = complete }
    where
      absent : (e : Entry) (es : List Entry) (b : Option A) (n : ℕ) (z : Bool) → e.kind ≡ 21 → eqb e.word 0 ≡ z → taking 1 (when z none) ≡ got b n → Begins (or_absent w) (Maybe K) (e ∷ es) b n
      absent e es b n true ek ez h =
          moved (or_absent w) (Maybe K) (e ∷ es) none b 1 n h (record { here = ap (λ x. x ∷ es) (entry_is e 21 0 ek (eqb-true _ _ ez)); size = refl; keeps = tt })
      absent e es b n false ek ez h = no_got b n h

      there : (e : Entry) (es : List Entry) (b : Option A) (n : ℕ) (r : Read A) → p (e ∷ es) ≡ r → and_then r (λ a k. got (some a) k) ≡ got b n → Begins (or_absent w) (Maybe K) (e ∷ es) b n
      there e es b n (got a k) er h =
          let t : Begins w K (e ∷ es) a k = s.sound (e ∷ es) a k er in
          moved (or_absent w) (Maybe K) (e ∷ es) (some a) b k n h (record { here = t.here; size = t.size; keeps = t.keeps })
      there e es b n bad er h = no_got b n h

      either : (e : Entry) (es : List Entry) (b : Option A) (n : ℕ) (z : Bool) → eqb e.kind 21 ≡ z
          → choose z (taking 1 (when (eqb e.word 0) none)) (and_then (p (e ∷ es)) (λ a k. got (some a) k)) ≡ got b n → Begins (or_absent w) (Maybe K) (e ∷ es) b n
      either e es b n true ez h = absent e es b n (eqb e.word 0) (eqb-true _ _ ez) refl h
      either e es b n false ez h = there e es b n (p (e ∷ es)) refl h

      sound : Sound (or_absent w) (Maybe K) (optional p)
      sound [] b n h = no_got b n h
      sound (e ∷ es) b n h = either e es b n (eqb e.kind 21) refl h

      present : (es : List Entry) (a : A) (n : ℕ) → stops is_absent es ≡ false → p es ≡ got a n → optional p es ≡ got (some a) n
      present [] a n hs h = absurd (let z : ◌≡◌ {A = ℕ} 0 1 = cc in omega arith)
      present (e ∷ es) a n hs h = rw (hs, h)

      complete : Complete (or_absent w) (Maybe K) (optional p)
      complete none rest k = refl
      complete (some a) rest k = present (w a ++ rest) a (length (w a)) (heads a rest k) (s.complete a rest k)

-- ---- items and an end
module _ {A B : Type 0} (stop : ℕ → Bool) (item : Reader A) (end : Reader B) (w : A → List Entry) (v : B → List Entry) (K : A → Type 0) (L : B → Type 0) where
  abbrev pub write_all : List A × B → List Entry
  write_all x = ending w (v x.1) x.0

  abbrev pub KeepsAll : List A × B → Type 0
  KeepsAll x = Each K x.0 × L x.1

  -- of so many items at most
  abbrev pub KeepsTo : ℕ → List A × B → Type 0
  KeepsTo n x = (length x.0 ≤ n) × KeepsAll x

  module _ (s : Agrees item w K) (t : Agrees end v L) where
    ended : (n : ℕ) (es : List Entry) (x : List A × B) (k : ℕ) (r : Read B) → end es ≡ r → and_then r (λ b m. got ([], b) m) ≡ got x k → Begins write_all (KeepsTo n) es x k
    unfolding ending
    ended n es x k (got b m) er h =
        let u : Begins v L es b m = t.sound es b m er in
        moved write_all (KeepsTo n) es ([], b) x m k h (record { here = u.here; size = u.size; keeps = (omega arith, (tt, u.keeps)) })
    ended n es x k bad er h = no_got x k h

    more : (n : ℕ) (es : List Entry) (a : A) (j : ℕ) → Begins w K es a j → (x : List A × B) (k : ℕ) (r : Read (List A × B))
        → ((y : List A × B) (m : ℕ) → r ≡ got y m → Begins write_all (KeepsTo n) (drop j es) y m)
        → and_then r (λ y m. got (a ∷ y.0, y.1) (j + m)) ≡ got x k → Begins write_all (KeepsTo (suc n)) es x k
    unfolding ending
    more n es a j s x k (got y m) ih h =
        let u : Begins write_all (KeepsTo n) (drop j es) y m = ih y m refl in
        moved write_all (KeepsTo (suc n)) es (a ∷ y.0, y.1) x (j + m) k h (record {
          here = glue (w a) (write_all y) es j m s.here u.here;
          size = ap (λ i. i + m) s.size ∙ ap (λ i. length (w a) + i) u.size ∙ sym (length-append (w a) (write_all y));
          keeps = (omega (arith, u.keeps.0), ((s.keeps, u.keeps.1.0), u.keeps.1.1));
        })
    more n es a j s x k bad ih h = no_got x k h

    next : (n : ℕ) → Sound write_all (KeepsTo n) (until stop item end n) → (es : List Entry) (x : List A × B) (k : ℕ) (r : Read A) → item es ≡ r
        → and_then r (λ a j. and_then (until stop item end n (drop j es)) (λ y m. got (a ∷ y.0, y.1) (j + m))) ≡ got x k → Begins write_all (KeepsTo (suc n)) es x k
    next n ih es x k (got a j) er h =
        more n es a j (s.sound es a j er) x k (until stop item end n (drop j es)) (λ y m e. ih (drop j es) y m e) h
    next n ih es x k bad er h = no_got x k h

    until_sound : (n : ℕ) → Sound write_all (KeepsTo n) (until stop item end n)
    unfolding until mapped
    until_sound zero es x k h = either (stops stop es) h
      where
        either : (z : Bool) → choose z (and_then (end es) (λ b m. got ([], b) m)) bad ≡ got x k → Begins write_all (KeepsTo 0) es x k
        either true g = ended 0 es x k (end es) refl g
        either false g = no_got x k g
    until_sound (suc n) es x k h = either (until_sound n) (stops stop es) h
      where
        either : Sound write_all (KeepsTo n) (until stop item end n) → (z : Bool)
            → choose z (and_then (end es) (λ b m. got ([], b) m)) (and_then (item es) (λ a j. and_then (until stop item end n (drop j es)) (λ y m. got (a ∷ y.0, y.1) (j + m)))) ≡ got x k
            → Begins write_all (KeepsTo (suc n)) es x k
        either ih true g = ended (suc n) es x k (end es) refl g
        either ih false g = next n ih es x k (item es) refl g

    until_complete : Heads w K stop false → Heads v L stop true → (n : ℕ) (as' : List A) (b : B) (rest : List Entry) → length as' ≤ n → Each K as' → L b
        → until stop item end n (ending w (v b) as' ++ rest) ≡ got (as', b) (length (ending w (v b) as'))
    unfolding until mapped ending
    until_complete hi he zero [] b rest f k l = rw (he b rest l, t.complete b rest l)
    until_complete hi he zero (a ∷ as') b rest f k l = absurd (omega arith)
    until_complete hi he (suc n) [] b rest f k l = rw (he b rest l, t.complete b rest l)
    until_complete hi he (suc n) (a ∷ as') b rest f k l =
        let r : List Entry = ending w (v b) as' ++ rest in
        rw (
          append_assoc (w a) (ending w (v b) as') rest,
          hi a r k.0,
          s.complete a r k.0,
          drop-append_seam (w a) r,
          until_complete hi he n as' b rest (omega arith) k.1 l,
          length-append (w a) (ending w (v b) as'),
        )

    pub agrees_until : Heads w K stop false → Heads v L stop true → (n : ℕ) → Agrees (until stop item end n) write_all (KeepsTo n)
    agrees_until hi he n = record { sound = until_sound n; complete = λ x rest k. until_complete hi he n x.0 x.1 rest k.0 k.1.0 k.1.1 }

    -- an item takes an entry, so there are no more items than entries
    count_le : Heads w K stop false → (as' : List A) (b : B) → Each K as' → length as' ≤ length (ending w (v b) as')
    unfolding ending stops
    count_le hi [] b k = omega arith
    count_le hi (a ∷ as') b k = omega (arith, length-append (w a) (ending w (v b) as'), taken (w a) (hi a [] k.0), count_le hi as' b k.1)
      where
        taken : (es : List Entry) → stops stop (es ++ []) ≡ false → 1 ≤ length es
        taken [] h = absurd (let z : ◌≡◌ {A = ℕ} 0 1 = cc in omega arith)
        taken (e ∷ es) h = omega arith

    -- bounded by the entries that there are
    pub agrees_all : Heads w K stop false → Heads v L stop true → Agrees (λ es. until stop item end (length es) es) write_all KeepsAll
    agrees_all hi he = record { sound = λ es x k h. forget es x k (until_sound (length es) es x k h); complete = λ x rest k. until_complete hi he _ x.0 x.1 rest (fits x rest k) k.0 k.1 }
      where
        forget : (es : List Entry) (x : List A × B) (k : ℕ) → Begins write_all (KeepsTo (length es)) es x k → Begins write_all KeepsAll es x k
        forget es x k u = record { here = u.here; size = u.size; keeps = u.keeps.1 }

        fits : (x : List A × B) (rest : List Entry) → KeepsAll x → length x.0 ≤ length (write_all x ++ rest)
        fits x rest k = omega (arith, length-append (write_all x) rest, count_le hi x.0 x.1 k.0)
