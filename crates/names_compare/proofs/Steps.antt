-- The comparison from the place i of both names on: what a step says of it.
use Prim.Native.Nat.{ℕ, suc, ◌+◌, ◌-◌, ◌/◌, ◌<◌, ◌≤◌, min}
use mathlib.Core.Path.{◌≡◌, refl, sym, ap, ap₂, ◌∙◌}
use mathlib.Core.Bool.{false}
use mathlib.Core.List.{List, [], ◌∷◌}
use native.Mathlib.Numerals.{add-one}
use native.Mathlib.Nat.{zero-add, sub-zero}
use native.Mathlib.Omega.{arith}
use borrow.Author.Tests.{eq-eqb, ne_eqb, le-ltb, lt-ltb}
use lib.Dec.{ltb}
use lib.ListN.{length, get_or, take, drop, length-drop}
use lib.Seq.{drop-cons, drop-drop, get_or-drop}
use Rattle.names.specs.Text.{same}
use Rattle.names.specs.Name.{before}
use Rattle.names.specs.Tests.{is_false}
use Rattle.names.specs.Texts.{same_iff}
use Rattle.names.specs.Order.{before_behind}
use Rattle.names.specs.Steps.{byte_steps_lem}
use Rattle.names.specs.Compare.{Order, order_by, order, byte_steps, word_steps, shorter, steps}
use Rattle.names_words.specs.Word.{word, Octets, word_take, word_order, word_same}

-- an order and a number of steps that are those of the comparison from i on, behind `done` steps, with `rest` to come
pub record Going (a b : List ℕ) (o : Order) (s i done rest : ℕ) : Type 0 where
  pub ordered : o ≡ order (drop i a) (drop i b)
  pub counted : s ≡ done + rest

-- what is known where nothing is left to be compared
pub record Told (o : Order) (s : ℕ) (o' : Order) (done : ℕ) : Type 0 where
  pub ordered : o ≡ o'
  pub counted : s ≡ done

module _ {a b : List ℕ} {o : Order} {s i done rest : ℕ} (g : Going a b o s i done rest) where
  -- k bytes at i that are the same
  going_on : (k rest' : ℕ) → k ≤ length (drop i a) → k ≤ length (drop i b) → take k (drop i a) ≡ take k (drop i b) → rest ≡ suc rest'
      → Going a b o s (i + k) (done + 1) rest'
  unfolding order
  going_on k rest' la lb e r =
      record { ordered = g.ordered ∙ ap₂ order_by (on a b la lb e) (on b a lb la (sym e)); counted = omega (arith, g.counted) }
    where
      on : (c d : List ℕ) → k ≤ length (drop i c) → k ≤ length (drop i d) → take k (drop i c) ≡ take k (drop i d)
          → before (drop i c) (drop i d) ≡ before (drop (i + k) c) (drop (i + k) d)
      on c d lc ld q = before_behind k (drop i c) (drop i d) lc ld q ∙ ap₂ before (drop-drop k i c) (drop-drop k i d)

  -- k bytes at i, as the words x and y that differ
  told_differ : (k : ℕ) → Octets a → Octets b → (x y : ℕ) → x ≡ word k (drop i a) → y ≡ word k (drop i b) → (x ≡ y → ⊥) → rest ≡ 1
      → Told o s (order_by (ltb x y) (ltb y x)) (done + 1)
  unfolding order
  told_differ k oa ob x y ex ey d r =
      record {
        ordered = g.ordered ∙ ap₂ order_by (differ a b oa ob x y ex ey d) (differ b a ob oa y x ey ex (λ e. d (sym e)));
        counted = omega (arith, g.counted);
      }
    where
      differ : (c d : List ℕ) → Octets c → Octets d → (x y : ℕ) → x ≡ word k (drop i c) → y ≡ word k (drop i d) → (x ≡ y → ⊥)
          → before (drop i c) (drop i d) ≡ ltb x y
      differ c d oc od x y ex ey n =
          rw (ex, ey) (word_order k (drop i c) (drop i d) (λ j. rw get_or-drop (oc (i + j))) (λ j. rw get_or-drop (od (i + j))) (λ e. n (ex ∙ e ∙ sym ey)))

-- ---- byte by byte

-- the byte at i as a word of one byte
byte_word : (c : List ℕ) (i : ℕ) → i < length c → get_or c i 0 ≡ word 1 (drop i c)
unfolding word
byte_word c i l = rw (drop-cons c i 0 l) (omega arith)

byte_taken : (c : List ℕ) (i : ℕ) → i < length c → take 1 (drop i c) ≡ get_or c i 0 ∷ []
byte_taken c i l = rw (drop-cons c i 0 l)

-- what is left of two names, of m and n bytes, behind the shorter one's
before_ends : (c d : List ℕ) (i m n : ℕ) → i ≡ min m n → length c ≡ m - i → length d ≡ n - i → before c d ≡ ltb m n
unfolding before
before_ends c [] i m n q lc ld = sym (le-ltb m n (omega arith))
before_ends [] (y ∷ d) i m n q lc ld = sym (lt-ltb m n (omega arith))
before_ends (x ∷ c) (y ∷ d) i m n q lc ld = absurd (omega arith)

-- from i on all is left to byte pairs
abbrev pub Bytes : List ℕ → List ℕ → Order → ℕ → ℕ → ℕ → Type 0
Bytes a b o s i done = Going a b o s i done (byte_steps (drop i a) (drop i b))

module _ {a b : List ℕ} {o : Order} {s i done : ℕ} (g : Bytes a b o s i done) where
  module _ (la : i < length a) (lb : i < length b) where
    pub bytes_on : get_or a i 0 ≡ get_or b i 0 → Bytes a b o s (i + 1) (done + 1)
    unfolding byte_steps
    bytes_on e =
        going_on g 1 (byte_steps (drop (i + 1) a) (drop (i + 1) b)) (omega (arith, length-drop i a)) (omega (arith, length-drop i b))
        (byte_taken a i la ∙ rw e (sym (byte_taken b i lb)))
        (rw (drop-cons a i 0 la, drop-cons b i 0 lb, eq-eqb _ _ e, add-one))

    pub bytes_differ : Octets a → Octets b → (get_or a i 0 ≡ get_or b i 0 → ⊥) → Told o s (order_by (ltb (get_or a i 0) (get_or b i 0)) (ltb (get_or b i 0) (get_or a i 0))) (done + 1)
    unfolding byte_steps
    bytes_differ oa ob d =
        told_differ g 1 oa ob (get_or a i 0) (get_or b i 0) (byte_word a i la) (byte_word b i lb) d (rw (drop-cons a i 0 la, drop-cons b i 0 lb, ne_eqb _ _ d))

  -- behind the last byte of the shorter name
  pub bytes_over : i ≡ min (length a) (length b) → Told o s (order_by (ltb (length a) (length b)) (ltb (length b) (length a))) done
  unfolding order
  bytes_over e =
      record { ordered = g.ordered ∙ ap₂ order_by (over a b e) (over b a (omega arith)); counted = omega (arith, g.counted, byte_steps_lem (drop i a) (drop i b), left) }
    where
      left : min (length (drop i a)) (length (drop i b)) ≡ 0
      left = omega (arith, length-drop i a, length-drop i b)

      over : (c d : List ℕ) → i ≡ min (length c) (length d) → before (drop i c) (drop i d) ≡ ltb (length c) (length d)
      over c d q = before_ends (drop i c) (drop i d) i (length c) (length d) q (length-drop i c) (length-drop i d)

-- ---- word by word

-- from i on there are words, while eight bytes remain of the n that both have
abbrev pub Words : List ℕ → List ℕ → Order → ℕ → ℕ → ℕ → ℕ → Type 0
Words a b o s n i done = Going a b o s i done (word_steps ((n - i) / 8) (drop i a) (drop i b))

pub words_start : (a b : List ℕ) → Words a b (order a b) (steps a b) (shorter a b) 0 0
unfolding steps
words_start a b = record { ordered = refl; counted = rw (zero-add, sub-zero) }

-- eight bytes of both at i, as two words
pub record Read (a b : List ℕ) (n i x y : ℕ) : Type 0 where
  pub shortest : n ≡ min (length a) (length b)
  pub room : 8 ≤ n - i
  pub octets_a : Octets a
  pub octets_b : Octets b
  pub first : x ≡ word 8 (drop i a)
  pub second : y ≡ word 8 (drop i b)

module _ {a b : List ℕ} {o : Order} {s : ℕ} (n : ℕ) {i done : ℕ} (g : Words a b o s n i done) where
  pub words_over : n - i < 8 → Bytes a b o s i done
  unfolding word_steps
  words_over l = let z : (n - i) / 8 ≡ 0 = omega arith in record { ordered = g.ordered; counted = rw z at g.counted }

  module _ {x y : ℕ} (r : Read a b n i x y) where
    more : (n - i) / 8 ≡ suc ((n - (i + 8)) / 8)
    more = omega (arith, r.room)

    long : (c : List ℕ) → n ≤ length c → 8 ≤ length (drop i c)
    long c k = omega (arith, r.room, length-drop i c)

    pub words_on : x ≡ y → Words a b o s n (i + 8) (done + 1)
    unfolding word_steps
    words_on e =
        going_on g 8 (word_steps ((n - (i + 8)) / 8) (drop (i + 8) a) (drop (i + 8) b)) la lb taken
        (rw (more, (same_iff (take 8 (drop i a)) (take 8 (drop i b))).1 taken, drop-drop 8 i a, drop-drop 8 i b))
      where
        la : 8 ≤ length (drop i a)
        la = long a (omega (arith, r.shortest))

        lb : 8 ≤ length (drop i b)
        lb = long b (omega (arith, r.shortest))

        taken : take 8 (drop i a) ≡ take 8 (drop i b)
        taken =
            word_same 8 (drop i a) (drop i b) (λ j. rw get_or-drop (r.octets_a (i + j))) (λ j. rw get_or-drop (r.octets_b (i + j))) la lb
            (sym r.first ∙ e ∙ r.second)

    pub words_differ : (x ≡ y → ⊥) → Told o s (order_by (ltb x y) (ltb y x)) (done + 1)
    unfolding word_steps
    words_differ d = told_differ g 8 r.octets_a r.octets_b x y r.first r.second d (rw (more, other))
      where
        same_words : take 8 (drop i a) ≡ take 8 (drop i b) → x ≡ y
        same_words e = r.first ∙ sym (word_take 8 (drop i a)) ∙ ap (word 8) e ∙ word_take 8 (drop i b) ∙ sym r.second

        other : same (take 8 (drop i a)) (take 8 (drop i b)) ≡ false
        other = is_false _ (λ h. d (same_words ((same_iff (take 8 (drop i a)) (take 8 (drop i b))).0 h)))
