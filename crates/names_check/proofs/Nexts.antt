-- The starts behind the names that were passed.
use Prim.Native.Nat.{ℕ, ◌+◌, ◌*◌, ◌<◌, ◌≤◌}
use mathlib.Core.Path.{◌≡◌, refl, sym, ap, ◌∙◌}
use mathlib.Core.Bool.{Bool, true, false, cond}
use mathlib.Core.List.{List, [], ◌∷◌}
use native.Mathlib.Omega.{arith}
use native.Mathlib.Numerals.{add-one}
use native.Mathlib.Nat.{add-zero, mul-zero, zero-add, mul-suc, eq_of_mul-eq-mul_left}
use borrow.Author.Tests.{eqb-true, eqb-false, ltb-true, ltb-false}
use lib.Dec.{eqb, ltb}
use lib.ListN.{length, get_or, drop, set, length-set, length-drop}
use lib.Seq.{drop-drop, get_or-drop, get_or-set_same, get_or-set_other, set_out}
use Rattle.names.specs.Name.{lines, name_at, start_of}
use Rattle.names.specs.Places.{start_next}
use Rattle.names_check.specs.Nexts.{Noted, place_behind}

module _ (step first : ℕ) where
  noted_none : (bs nexts : List ℕ) → Noted step first bs 0 nexts nexts
  noted_none bs nexts = record { words = λ x l. absurd (omega arith); same = λ i n. refl; long = refl }

  -- no word is that of two names
  apart : 0 < step → (x y : ℕ) → (x ≡ y → ⊥) → step * x + first ≡ step * y + first → ⊥
  apart some x y n e = n (eq_of_mul-eq-mul_left step some x y (omega (arith, e)))

  noted_next : 0 < step → (bs : List ℕ) (m start : ℕ) (nexts₀ nexts : List ℕ) → start ≡ start_of (lines bs) (m + 1) → Noted step first bs m nexts₀ nexts
      → Noted step first bs (m + 1) nexts₀ (set nexts (step * m + first) start)
  noted_next some bs m start nexts₀ nexts e k =
      record {
        words = λ x l r. word x l r (eqb x m) refl;
        same = λ i n. get_or-set_other nexts (step * m + first) i start 0 (n m (omega arith)) ∙ k.same i (λ x l. n x (omega arith));
        long = length-set nexts (step * m + first) start ∙ k.long;
      }
    where
      word : (x : ℕ) → x < m + 1 → step * x + first < length nexts₀ → (b : Bool) → eqb x m ≡ b
          → get_or (set nexts (step * m + first) start) (step * x + first) 0 ≡ start_of (lines bs) (x + 1)
      word x l r true f =
          let q = eqb-true x m f in
          let r' : step * m + first < length nexts₀ = rw q at r in
          let s : step * m + first < length nexts = omega (arith, k.long) in
          rw q (get_or-set_same nexts (step * m + first) start 0 s ∙ e)
      word x l r false f =
          let n = eqb-false x m f in
          get_or-set_other nexts (step * m + first) (step * x + first) start 0 (apart some x m n) ∙ k.words x (omega (arith, n)) r

  -- the place at which the next start is noted: that of the name numbered `seen` among so many words, or any behind them
  pub record Placed (size seen place : ℕ) : Type 0 where
    pub inside : place < size → place ≡ step * seen + first
    pub behind : size ≤ place → size ≤ step * seen + first

  placed_start : (size : ℕ) → Placed size 0 first
  placed_start size = let z : step * 0 + first ≡ first = rw (mul-zero, zero-add) in record { inside = λ _. sym z; behind = λ l. omega (arith, z) }

  placed_next : {size seen place : ℕ} → Placed size seen place → Placed size (seen + 1) (place_behind size step place)
  placed_next {size} {seen} {place} p = go (ltb place size) refl
    where
      on : step * (seen + 1) ≡ step * seen + step
      on = ap (λ (i : ℕ). step * i) (add-one seen) ∙ mul-suc step seen

      go : (b : Bool) → ltb place size ≡ b → Placed size (seen + 1) (cond b (place + step) place)
      go true e = let q = p.inside (ltb-true place size e) in record { inside = λ _. omega (arith, q, on); behind = λ l. omega (arith, q, on, l) }
      go false e = let q = ltb-false place size e in record { inside = λ l. absurd (omega arith); behind = λ l. omega (arith, p.behind q, on) }

  -- what is stored there is stored for that name
  placed_set : (nexts : List ℕ) {seen place : ℕ} → Placed (length nexts) seen place → (v : ℕ) → set nexts place v ≡ set nexts (step * seen + first) v
  placed_set nexts {seen} {place} p v = go (ltb place (length nexts)) refl
    where
      go : (b : Bool) → ltb place (length nexts) ≡ b → set nexts place v ≡ set nexts (step * seen + first) v
      go true e = ap (λ (i : ℕ). set nexts i v) (p.inside (ltb-true place (length nexts) e))
      go false e = let q = ltb-false place (length nexts) e in set_out nexts place v q ∙ sym (set_out nexts (step * seen + first) v (p.behind q))

  -- behind the first `seen` names, where the next begins at `at`
  pub record Noting (bs nexts₀ nexts : List ℕ) (seen at place : ℕ) : Type 0 where
    pub rest : drop seen (lines bs) ≡ lines (drop at bs)
    pub start : start_of (lines bs) seen ≡ at
    pub placed : Placed (length nexts₀) seen place
    pub noted : Noted step first bs seen nexts₀ nexts

  pub noting_start : (bs nexts : List ℕ) → Noting bs nexts nexts 0 0 first
  unfolding start_of
  noting_start bs nexts = record { rest = refl; start = refl; placed = placed_start (length nexts); noted = noted_none bs nexts }

  module _ (some : 0 < step) {bs nexts₀ nexts : List ℕ} {seen at place : ℕ} (k : Noting bs nexts₀ nexts seen at place) {n : List ℕ} {end : ℕ}
      (here : lines (drop at bs) ≡ n ∷ lines (drop (end + 1) bs)) (e : end ≡ at + length n) where
    there : seen < length (lines bs)
    there = omega (arith, ap length (k.rest ∙ here), length-drop seen (lines bs))

    named : name_at (lines bs) seen ≡ n
    unfolding name_at
    named = ap (λ (i : ℕ). get_or (lines bs) i []) (sym (add-zero seen)) ∙ sym (get_or-drop seen (lines bs) 0 []) ∙ ap (λ (ns : List (List ℕ)). get_or ns 0 []) (k.rest ∙ here)

    next_is : start_of (lines bs) (seen + 1) ≡ end + 1
    next_is = ap (start_of (lines bs)) (add-one seen) ∙ start_next (lines bs) seen there ∙ omega (arith, k.start, ap length named)

    pub noting_next : Noting bs nexts₀ (set nexts place (end + 1)) (seen + 1) (end + 1) (place_behind (length nexts) step place)
    noting_next =
        let p : Placed (length nexts) seen place = rw k.noted.long k.placed in
        record {
          rest = sym (drop-drop 1 seen (lines bs)) ∙ ap (drop 1) (k.rest ∙ here);
          start = next_is;
          placed = rw k.noted.long (placed_next k.placed);
          noted = rw (placed_set nexts p (end + 1)) (noted_next some bs seen (end + 1) nexts₀ nexts (sym next_is) k.noted);
        }
