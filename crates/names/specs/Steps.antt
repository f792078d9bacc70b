-- What a comparison of two names says, and how many steps it takes.
use Rattle.std.specs.Prelude.{ℕ, zero, suc, ◌+◌, ◌-◌, ◌*◌, ◌/◌, ◌%◌, ◌<◌, ◌≤◌, min, ◌≡◌, refl, ◌↔◌, Bool, true, false, cond, ◌&&◌, List, [], ◌∷◌, eqb, ltb, length, take, drop}
use Rattle.std.proofs.Common.{sym, ap, ◌∙◌, arith, ltb-true, ltb-false, lt-ltb, le-ltb, length-drop}
use Rattle.std.proofs.lemmas.Bool.{false≢true}
use Rattle.names.specs.Text.{same}
use Rattle.names.specs.Name.{before}
use Rattle.names.specs.Tests.{is_false}
use Rattle.names.specs.Order.{irreflexive, transitive, total}
use Rattle.names.specs.Compare.{Order, order_by, order, byte_steps, word_steps, shorter, steps}

-- ---- the order

not_both : (a b : List ℕ) → before a b ≡ true → before b a ≡ false
not_both a b h = is_false (before b a) (λ k. false≢true (sym (irreflexive a) ∙ transitive a b a h k))

-- what an order says of the two tests that it is made of
abbrev Says : Order → Bool → Bool → Type 0
Says Order.less p q = p ≡ true
Says Order.equal p q = (p ≡ false) × (q ≡ false)
Says Order.greater p q = q ≡ true

says : (p q : Bool) → Says (order_by p q) p q
unfolding order_by
says true q = refl
says false true = refl
says false false = (refl, refl)

told : (a b : List ℕ) (o : Order) → order a b ≡ o → Says o (before a b) (before b a)
unfolding order
told a b o e = rw e at (says (before a b) (before b a))

pub order_less : (a b : List ℕ) → (order a b ≡ Order.less) ↔ (before a b ≡ true)
unfolding order order_by
order_less a b = (told a b Order.less, λ h. rw h)

pub order_greater : (a b : List ℕ) → (order a b ≡ Order.greater) ↔ (before b a ≡ true)
unfolding order order_by
order_greater a b = (told a b Order.greater, λ h. rw (h, not_both b a h))

pub order_equal : (a b : List ℕ) → (order a b ≡ Order.equal) ↔ (a ≡ b)
unfolding order order_by
order_equal a b = (λ e. let n = told a b Order.equal e in total a b n.0 n.1, λ e. rw (e, irreflexive b))

-- ---- the steps

-- how many byte pairs are equal in front of the first that differs, or of the shorter name's end
unfoldable pub alike : List ℕ → List ℕ → ℕ
alike [] b = 0
alike (x ∷ a) [] = 0
alike (x ∷ a) (y ∷ b) = cond (eqb x y) (suc (alike a b)) 0

-- of w words and r byte pairs behind them: those up to and with the one that has byte c, or all where c lies behind them
unfoldable pub steps_to : ℕ → ℕ → ℕ → ℕ
steps_to w r c = cond (ltb c (8 * w)) (c / 8 + 1) (w + min r (c - 8 * w + 1))

-- byte pairs alone: those up to and with the first that differs
pub byte_steps_lem : (a b : List ℕ) → byte_steps a b ≡ min (shorter a b) (alike a b + 1)
unfolding byte_steps alike
byte_steps_lem [] b = omega arith
byte_steps_lem (x ∷ a) [] = omega arith
byte_steps_lem (x ∷ a) (y ∷ b) = step (eqb x y) (byte_steps_lem a b)
  where
    step : (t : Bool) → byte_steps a b ≡ min (shorter a b) (alike a b + 1)
        → suc (cond t (byte_steps a b) 0) ≡ min (min (suc (length a)) (suc (length b))) (cond t (suc (alike a b)) 0 + 1)
    step true ih = omega (arith, ih)
    step false ih = omega arith

-- n bytes are alike: the first k and the rest, or fewer than k
abbrev Split : Bool → ℕ → ℕ → ℕ → Type 0
Split true k n rest = n ≡ k + rest
Split false k n rest = n < k

-- by whether the first k bytes of both are the same
alike_split : (k : ℕ) (a b : List ℕ) → k ≤ length a → k ≤ length b → Split (same (take k a) (take k b)) k (alike a b) (alike (drop k a) (drop k b))
unfolding same alike
alike_split zero a b la lb = omega arith
alike_split (suc k) [] b la lb = absurd (omega arith)
alike_split (suc k) (x ∷ a) [] la lb = absurd (omega arith)
alike_split (suc k) (x ∷ a) (y ∷ b) la lb = step (eqb x y) (same (take k a) (take k b)) (alike_split k a b (omega arith) (omega arith))
  where
    step : (t u : Bool) → Split u k (alike a b) (alike (drop k a) (drop k b)) → Split (t && u) (suc k) (cond t (suc (alike a b)) 0) (alike (drop k a) (drop k b))
    step true true h = omega (arith, h)
    step true false h = omega (arith, h)
    step false u h = omega arith

word_steps_lem : (w r : ℕ) (a b : List ℕ) → shorter a b ≡ 8 * w + r → word_steps w a b ≡ steps_to w r (alike a b)
unfolding word_steps steps_to
word_steps_lem zero r a b e = rw (le-ltb (alike a b) 0 (omega arith)) (omega (arith, byte_steps_lem a b))
word_steps_lem (suc w) r a b e = step (same (take 8 a) (take 8 b)) (alike_split 8 a b (omega arith) (omega arith)) (word_steps_lem w r (drop 8 a) (drop 8 b) left)
  where
    left : shorter (drop 8 a) (drop 8 b) ≡ 8 * w + r
    left = omega (arith, length-drop 8 a, length-drop 8 b)

    on : (c d : ℕ) → c ≡ 8 + d → suc (steps_to w r d) ≡ steps_to (suc w) r c
    on c d q = go (ltb d (8 * w)) refl
      where
        go : (t : Bool) → ltb d (8 * w) ≡ t → suc (cond t (d / 8 + 1) (w + min r (d - 8 * w + 1))) ≡ steps_to (suc w) r c
        go true f = rw (lt-ltb c (8 * suc w) (omega (arith, ltb-true d (8 * w) f))) (omega arith)
        go false f = rw (le-ltb c (8 * suc w) (omega (arith, ltb-false d (8 * w) f))) (omega arith)

    step : (t : Bool) → Split t 8 (alike a b) (alike (drop 8 a) (drop 8 b)) → word_steps w (drop 8 a) (drop 8 b) ≡ steps_to w r (alike (drop 8 a) (drop 8 b))
        → suc (cond t (word_steps w (drop 8 a) (drop 8 b)) 0) ≡ steps_to (suc w) r (alike a b)
    step true h ih = ap suc ih ∙ on (alike a b) (alike (drop 8 a) (drop 8 b)) h
    step false h ih = rw (lt-ltb (alike a b) (8 * suc w) (omega (arith, h))) (omega (arith, h))

-- exactly as many as there are words and byte pairs up to and with the first that differs
pub steps_exact : (a b : List ℕ) → steps a b ≡ steps_to (shorter a b / 8) (shorter a b % 8) (alike a b)
unfolding steps
steps_exact a b = word_steps_lem (shorter a b / 8) (shorter a b % 8) a b (omega arith)

steps_to_most : (w r c : ℕ) → r ≤ 7 → steps_to w r c ≤ w + 7
unfolding steps_to
steps_to_most w r c l = most (ltb c (8 * w)) refl
  where
    most : (t : Bool) → ltb c (8 * w) ≡ t → cond t (c / 8 + 1) (w + min r (c - 8 * w + 1)) ≤ w + 7
    most true e = omega (arith, ltb-true c (8 * w) e)
    most false e = omega arith

-- "at most n/8 + 7 for a shorter name of n bytes"
pub steps_most : (a b : List ℕ) → steps a b ≤ shorter a b / 8 + 7
steps_most a b = rw steps_exact (steps_to_most (shorter a b / 8) (shorter a b % 8) (alike a b) (omega arith))
