-- A range of numbers in a map of bits.
use Rattle.std.specs.Prelude.{ℕ, zero, suc, ◌+◌, ◌-◌, ◌*◌, ◌/◌, ◌≤◌, ◌<◌, ◌≡◌, refl, Bool, true, false, ◌&&◌, ◌||◌, List, length, eqb, leb, ltb}
use Rattle.std.proofs.Common.{◌∙◌, add-one, arith, lt-ltb, ltb-true, le-leb, leb-true, eqb-true}
use Rattle.std.proofs.Math.Bool.{or-true}
use Rattle.std.proofs.lemmas.Bool.{eqb-false}
use Rattle.std.proofs.Math.Seq.{set_out}
use Rattle.numbers.specs.Bits.{bit_at, set_bit_at, length_set_bit}
use Rattle.names.specs.Tests.{both, is_false, agree}
use Rattle.book_marks.specs.Once.{bit_set}

-- the map with the bits of the n numbers from x on set
unfoldable pub set_run : List ℕ → ℕ → ℕ → List ℕ
set_run m x zero = m
set_run m x (suc n) = set_run (set_bit_at m x) (suc x) n

-- the map with the bits of the numbers from `from` up to and without `to` set
abbrev pub marked_range : List ℕ → ℕ → ℕ → List ℕ
marked_range m from to = set_run m from (to - from)

length_run : (n : ℕ) (m : List ℕ) (x : ℕ) → length (set_run m x n) ≡ length m
unfolding set_run
length_run zero m x = refl
length_run (suc n) m x = length_run n (set_bit_at m x) (suc x) ∙ length_set_bit m x

pub length_range : (m : List ℕ) (from to : ℕ) → length (marked_range m from to) ≡ length m
length_range m from to = length_run (to - from) m from

-- no number lies in an empty range
none_between : (x to y : ℕ) → to ≤ x → (leb x y && ltb y to) ≡ false
none_between x to y h = is_false _ (λ t. let b = both (leb x y) (ltb y to) t in omega (arith, leb-true x y b.0, ltb-true y to b.1))

-- a number from x on that is not x lies above it
above : (x y : ℕ) → (x ≡ y → ⊥) → leb (suc x) y ≡ leb x y
above x y ne =
    agree (leb (suc x) y) (leb x y) (λ l. le-leb x y (omega (arith, leb-true (suc x) y l)))
    (λ l. le-leb (suc x) y (omega (arith, leb-true x y l)))

bit_run : (n : ℕ) (m : List ℕ) (x to : ℕ) → to - x ≡ n → to ≤ 64 * length m → (y : ℕ)
    → bit_at (set_run m x n) y ≡ ((leb x y && ltb y to) || bit_at m y)
unfolding set_run
bit_run zero m x to d h y = rw (none_between x to y (omega arith))
bit_run (suc n) m x to d h y =
    bit_run n (set_bit_at m x) (suc x) to (omega arith) (omega (arith, length_set_bit m x)) y
    ∙ rw (bit_set m x y (omega arith)) (go (eqb x y) refl)
  where
    go : (t : Bool) → eqb x y ≡ t → ((leb (suc x) y && ltb y to) || (t || bit_at m y)) ≡ ((leb x y && ltb y to) || bit_at m y)
    go true e =
        let q = eqb-true x y e in
        rw (le-leb x y (omega arith), lt-ltb y to (omega arith)) (or-true (leb (suc x) y && true))
    go false e = rw (above x y (eqb-false x y e))

-- the bits that are set afterwards are those that were, and those of the range, which the map has
pub bit_range : (m : List ℕ) (from to : ℕ) → to ≤ 64 * length m → (x : ℕ)
    → bit_at (marked_range m from to) x ≡ ((leb from x && ltb x to) || bit_at m x)
bit_range m from to h x = bit_run (to - from) m from to refl h x

-- ---- bit by bit
pub set_past : (m : List ℕ) (x : ℕ) → length m ≤ x / 64 → set_bit_at m x ≡ m
unfolding set_bit_at
set_past m x h = set_out m (x / 64) _ h

run_past : (n : ℕ) (m : List ℕ) (x : ℕ) → length m ≤ x / 64 → set_run m x n ≡ m
unfolding set_run
run_past zero m x h = refl
run_past (suc n) m x h = rw (set_past m x h) (run_past n m (suc x) (omega arith))

-- the numbers of the range from x on, where none is left, where the map has no bit for x, and where it has
pub range_none : (m : List ℕ) (x to : ℕ) → to ≤ x → marked_range m x to ≡ m
unfolding set_run
range_none m x to h = let e : to - x ≡ 0 = omega arith in rw e

pub range_past : (m : List ℕ) (x to : ℕ) → length m ≤ x / 64 → marked_range m x to ≡ m
range_past m x to h = run_past (to - x) m x h

pub range_next : (m : List ℕ) (x to : ℕ) → x < to → marked_range m x to ≡ marked_range (set_bit_at m x) (x + 1) to
unfolding set_run
range_next m x to h = let e : to - x ≡ suc (to - (x + 1)) = omega arith in rw (e, add-one x)
