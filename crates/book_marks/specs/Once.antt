-- Numbers that occur once, found by a map of bits.
use Rattle.std.specs.Prelude.{ℕ, ◌/◌, ◌<◌, ◌≡◌, refl, Bool, true, false, ◌&&◌, ◌||◌, not, List, [], ◌∷◌, length, replicate, eqb, ltb}
use Rattle.std.proofs.Common.{ap, sym, ◌∙◌, eqb-true, lt-ltb}
use Rattle.std.proofs.Math.Bool.{and-true}
use Rattle.std.proofs.lemmas.Bool.{eqb-false}
use Rattle.std.proofs.lemmas.List.{length-replicate}
use Rattle.numbers.specs.Bits.{bit_at, set_bit_at, length_set_bit, bit_set_same, bit_set_other, bit_none}
use Rattle.book.specs.Decode.{member, distinct}

-- whether a number has a bit in the map that is not set yet
abbrev pub is_new : List ℕ → ℕ → Bool
is_new m x = ltb (x / 64) (length m) && not (bit_at m x)

abbrev pub set_if : Bool → List ℕ → ℕ → List ℕ
set_if true m x = set_bit_at m x
set_if false m x = m

-- each number is new where it stands, its bit then set
unfoldable pub all_new : List ℕ → List ℕ → Bool
all_new m [] = true
all_new m (x ∷ xs) = is_new m x && all_new (set_bit_at m x) xs

-- ---- in a map large enough that is the same as no number occurring twice, nor being marked before
abbrev pub AllBelow : ℕ → List ℕ → Type 0
AllBelow n [] = Unit {0}
AllBelow n (x ∷ xs) = (x / 64 < n) × AllBelow n xs

apart : List ℕ → List ℕ → Bool
apart m [] = true
apart m (x ∷ xs) = not (bit_at m x) && apart m xs

-- the bits that are set afterwards are those that were, and x
pub bit_set : (m : List ℕ) (x y : ℕ) → x / 64 < length m → bit_at (set_bit_at m x) y ≡ (eqb x y || bit_at m y)
bit_set m x y h = go (eqb x y) refl
  where
    go : (b : Bool) → eqb x y ≡ b → bit_at (set_bit_at m x) y ≡ (b || bit_at m y)
    go true e = ap (bit_at (set_bit_at m x)) (sym (eqb-true x y e)) ∙ bit_set_same m x h
    go false e = bit_set_other m x y (λ z. eqb-false x y e (sym z))

-- sums of tests
swap : (a b c d : Bool) → (a && (b && (c && d))) ≡ ((c && b) && (a && d))
swap true true true d = refl
swap true true false d = refl
swap true false true d = refl
swap true false false d = refl
swap false true true d = refl
swap false true false d = refl
swap false false true d = refl
swap false false false d = refl

apart_set : (m : List ℕ) (x : ℕ) → x / 64 < length m → (xs : List ℕ) → apart (set_bit_at m x) xs ≡ (not (member x xs) && apart m xs)
unfolding apart member
apart_set m x h [] = refl
apart_set m x h (y ∷ ys) = rw (bit_set m x y h, apart_set m x h ys) (go (eqb x y) (bit_at m y) (member x ys) (apart m ys))
  where
    go : (a b c d : Bool) → (not (a || b) && (not c && d)) ≡ (not (a || c) && (not b && d))
    go true b c d = refl
    go false true true d = refl
    go false true false d = refl
    go false false true d = refl
    go false false false d = refl

all_new_lem : (m : List ℕ) (xs : List ℕ) → AllBelow (length m) xs → all_new m xs ≡ (distinct xs && apart m xs)
unfolding all_new distinct apart
all_new_lem m [] h = refl
all_new_lem m (x ∷ xs) h =
    let ih : all_new (set_bit_at m x) xs ≡ (distinct xs && apart (set_bit_at m x) xs) = all_new_lem (set_bit_at m x) xs (rw (length_set_bit m x) h.1) in
    rw (lt-ltb (x / 64) (length m) h.0, ih, apart_set m x h.0 xs) (swap (not (bit_at m x)) (distinct xs) (not (member x xs)) (apart m xs))

apart_none : (n : ℕ) (xs : List ℕ) → apart (replicate n 0) xs ≡ true
unfolding apart
apart_none n [] = refl
apart_none n (x ∷ xs) = rw (bit_none n x, apart_none n xs)

-- from an empty map
pub new_distinct : (n : ℕ) (xs : List ℕ) → AllBelow n xs → all_new (replicate n 0) xs ≡ distinct xs
new_distinct n xs h = all_new_lem (replicate n 0) xs (rw (length-replicate {A = ℕ} n 0) h) ∙ rw (apart_none n xs) (and-true (distinct xs))
