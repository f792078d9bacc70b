-- The character at a place of the bytes, by its first byte and by the ranges of the others.
use Prim.Native.Nat.{ℕ, zero, suc, ◌+◌, ◌-◌, ◌<◌, ◌≤◌}
use mathlib.Core.Path.{◌≡◌, refl, ap, ◌∙◌}
use mathlib.Core.Bool.{true, false, ◌&&◌, ◌||◌, cond, and-false}
use mathlib.Core.List.{List, [], ◌∷◌}
use native.Mathlib.Nat.{add_assoc}
use native.Mathlib.Numerals.{add-one}
use native.Mathlib.Omega.{arith}
use borrow.Author.Tests.{lt-ltb, le-ltb}
use lib.Dec.{ltb}
use lib.ListN.{length, get_or, drop, replicate, length-drop, length-replicate, drop_of_length-le}
use Rattle.names.specs.Utf8.{Range, to, tail, has, is_tail, fills, char_length}
use Rattle.names.specs.Lead.{tails, lowest, highest, ranges}
use Rattle.names.proofs.Lead.{lead_behind, lead_begins}
use Rattle.names_spelling.proofs.Scan.{from_place}

ranges_long : (n : ℕ) (r : Range) → length (ranges n r) ≡ n
ranges_long zero r = refl
ranges_long (suc n) r = ap suc (length-replicate n tail)

-- bytes that are too few fill no ranges
fills_short : (rs : List Range) (bs : List ℕ) → length bs < length rs → fills rs bs ≡ false
unfolding fills
fills_short [] bs l = absurd (omega arith)
fills_short (r ∷ rs) [] l = refl
fills_short (r ∷ rs) (b ∷ bs) l = rw (fills_short rs bs (omega arith)) (and-false (has r b))

-- the first range, and the tails
fills_second : (n : ℕ) → 0 < n → (q : Range) (text : List ℕ) (at : ℕ) → at + 1 < length text
    → fills (ranges n q) (drop (at + 1) text) ≡ (has q (get_or text (at + 1) 0) && fills (replicate (n + 1 - 2) tail) (drop (at + 2) text))
unfolding fills
fills_second zero p q text at r = absurd (omega arith)
fills_second (suc m) p q text at r = rw (from_place text (at + 1) r, less, add_assoc at 1 1)
  where
    less : suc m + 1 - 2 ≡ m
    less = omega arith

pub char_none : (text : List ℕ) (at : ℕ) → length text ≤ at → char_length (drop at text) ≡ 0
unfolding char_length
char_none text at l = rw (drop_of_length-le text l)

-- a first byte, with n others behind it
module _ (text : List ℕ) (at : ℕ) where
  abbrev first : ℕ
  first = get_or text at 0

  abbrev pub second : Range
  second = to (lowest first) (highest first)

  -- from the i-th on they are tails: whether those that are left lie in their ranges
  pub record Filling (n i : ℕ) : Type 0 where
    pub low : 2 ≤ i
    pub high : i ≤ n + 1
    pub rest : fills (ranges n second) (drop (at + 1) text) ≡ fills (replicate (n + 1 - i) tail) (drop (at + i) text)

  module _ (l : at < length text) (o : first < 256) where
    module _ (n : ℕ) (e : n ≡ tails first) where
      char_length_lem : char_length (drop at text) ≡ cond ((ltb first 128 || ltb 0 n) && fills (ranges n second) (drop (at + 1) text)) (suc n) 0
      unfolding char_length
      char_length_lem = rw (from_place text at l, lead_begins first o, lead_behind first o, ranges_long, e)

      module _ (h : 128 ≤ first) where
        unfilled : fills (ranges n second) (drop (at + 1) text) ≡ false → char_length (drop at text) ≡ 0
        unfilled f = char_length_lem ∙ ap (λ t. cond ((ltb first 128 || ltb 0 n) && t) (suc n) 0) f ∙ ap (λ t. cond t (suc n) 0) (and-false (ltb first 128 || ltb 0 n))

        pub char_unled : n ≡ 0 → char_length (drop at text) ≡ 0
        char_unled z = char_length_lem ∙ rw (z, le-ltb first 128 h)

        pub char_cut : length text - at ≤ n → char_length (drop at text) ≡ 0
        char_cut m = unfilled (fills_short (ranges n second) (drop (at + 1) text) (omega (arith, ranges_long n second, length-drop (at + 1) text)))

        -- the second byte decides where it does not lie in its range, and else the tails
        pub char_second : 0 < n → at + 1 < length text → has second (get_or text (at + 1) 0) ≡ false → char_length (drop at text) ≡ 0
        char_second p r f = unfilled (fills_second n p second text at r ∙ ap (λ t. t && fills (replicate (n + 1 - 2) tail) (drop (at + 2) text)) f)

        pub filling_start : 0 < n → at + 1 < length text → has second (get_or text (at + 1) 0) ≡ true → Filling n 2
        filling_start p r f =
            record {
              low = omega arith;
              high = omega arith;
              rest = fills_second n p second text at r ∙ ap (λ t. t && fills (replicate (n + 1 - 2) tail) (drop (at + 2) text)) f;
            }

        -- so does each tail
        module _ (i : ℕ) (f : Filling n i) where
          filling_tail : i ≤ n → at + i < length text
              → fills (ranges n second) (drop (at + 1) text) ≡ (is_tail (get_or text (at + i) 0) && fills (replicate (n + 1 - (i + 1)) tail) (drop (at + (i + 1)) text))
          unfolding fills is_tail
          filling_tail m r = f.rest ∙ rw (more, from_place text (at + i) r, add_assoc at i 1)
            where
              more : n + 1 - i ≡ suc (n + 1 - (i + 1))
              more = omega arith

          pub char_tail : i ≤ n → at + i < length text → is_tail (get_or text (at + i) 0) ≡ false → char_length (drop at text) ≡ 0
          char_tail m r g = unfilled (filling_tail m r ∙ ap (λ t. t && fills (replicate (n + 1 - (i + 1)) tail) (drop (at + (i + 1)) text)) g)

          pub filling_next : i ≤ n → at + i < length text → is_tail (get_or text (at + i) 0) ≡ true → Filling n (i + 1)
          filling_next m r g =
              record {
                low = omega (arith, f.low);
                high = omega arith;
                rest = filling_tail m r ∙ ap (λ t. t && fills (replicate (n + 1 - (i + 1)) tail) (drop (at + (i + 1)) text)) g;
              }

          pub char_filled : n < i → char_length (drop at text) ≡ n + 1
          unfolding fills
          char_filled m =
              let over : n + 1 - i ≡ 0 = omega arith in
              let full : fills (ranges n second) (drop (at + 1) text) ≡ true = f.rest ∙ rw over refl in
              char_length_lem ∙ rw (full, le-ltb first 128 h, lt-ltb 0 n (omega (arith, f.low, f.high)), add-one)

    pub char_ascii : first < 128 → char_length (drop at text) ≡ 1
    unfolding fills
    char_ascii h = char_length_lem (tails first) refl ∙ rw (lt-ltb first 128 h, lt-ltb first 194 (omega arith))
