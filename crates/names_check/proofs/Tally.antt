-- The scan for the names that start with a prefix: it seeks the first of them, then counts, and may go on behind them.
use Prim.Native.Nat.{ℕ, ◌+◌, ◌<◌, ◌≤◌}
use mathlib.Core.Path.{◌≡◌, refl, sym}
use mathlib.Core.Bool.{true, false}
use mathlib.Core.List.{List, [], ◌∷◌}
use native.Mathlib.Omega.{arith}
use lib.ListN.{length, drop, drop_of_length-le}
use Rattle.names.specs.Text.{starts}
use Rattle.names.specs.Name.{lines}
use Rattle.names.specs.Prefix.{first_with, run_with, past_with, PrefixRange}

pub lines_past : (names : List ℕ) (at : ℕ) → length names ≤ at → lines (drop at names) ≡ []
unfolding lines
lines_past names at h = rw (drop_of_length-le names h)

-- what the two numbers say of all lines, with `rest` still to come
pub data Tally (p : List ℕ) (all : List (List ℕ)) (from to : ℕ) (rest : List (List ℕ)) : Type 0 where
  seeking : from ≡ to → first_with p all ≡ from + first_with p rest → past_with p all ≡ from + past_with p rest → Tally p all from to rest
  counting : from < to → first_with p all ≡ from → past_with p all ≡ to + run_with p rest → Tally p all from to rest

module _ (p : List ℕ) (all : List (List ℕ)) where
  tally_start : Tally p all 0 0 all
  tally_start = seeking refl (omega arith) (omega arith)

  tally_end : (from to : ℕ) (rest : List (List ℕ)) → rest ≡ [] → Tally p all from to rest → PrefixRange p all from to
  unfolding first_with run_with past_with
  tally_end from to rest q (seeking e f g) = record { first = omega (arith, rw q at f); past = omega (arith, rw q at g) }
  tally_end from to rest q (counting l f g) = record { first = sym f; past = omega (arith, rw q at g) }

  module _ (from to : ℕ) (rest ns : List (List ℕ)) (n : List ℕ) (split : rest ≡ n ∷ ns) where
    tally_hit : starts p n ≡ true → Tally p all from to rest → Tally p all from (to + 1) ns
    unfolding first_with run_with past_with
    tally_hit h (seeking e f g) = counting (omega arith) (omega (arith, rw (split, h) at f)) (omega (arith, rw (split, h) at g))
    tally_hit h (counting l f g) = counting (omega arith) f (omega (arith, rw (split, h) at g))

    tally_skip : starts p n ≡ false → from ≡ to → Tally p all from to rest → Tally p all (from + 1) (to + 1) ns
    unfolding first_with past_with
    tally_skip h d (seeking e f g) = seeking (omega arith) (omega (arith, rw (split, h) at f)) (omega (arith, rw (split, h) at g))
    tally_skip h d (counting l f g) = absurd (omega arith)

    tally_stop : starts p n ≡ false → (from ≡ to → ⊥) → Tally p all from to rest → PrefixRange p all from to
    unfolding run_with
    tally_stop h d (seeking e f g) = absurd (d e)
    tally_stop h d (counting l f g) = record { first = sym f; past = omega (arith, rw (split, h) at g) }

-- the same for a scan that goes on behind the range, with the number of the lines that were passed
pub data Passed (p : List ℕ) (all : List (List ℕ)) (seen from to : ℕ) (rest : List (List ℕ)) : Type 0 where
  inside : to ≡ seen → Tally p all from to rest → Passed p all seen from to rest
  behind : to < seen → PrefixRange p all from to → Passed p all seen from to rest

module _ (p : List ℕ) (all : List (List ℕ)) where
  pub passed_start : Passed p all 0 0 0 all
  passed_start = inside refl (tally_start p all)

  pub passed_end : (seen from to : ℕ) (rest : List (List ℕ)) → rest ≡ [] → Passed p all seen from to rest → PrefixRange p all from to
  passed_end seen from to rest q (inside e t) = tally_end p all from to rest q t
  passed_end seen from to rest q (behind l r) = r

  module _ (seen from to : ℕ) (rest ns : List (List ℕ)) (n : List ℕ) (split : rest ≡ n ∷ ns) where
    pub passed_hit : to ≡ seen → starts p n ≡ true → Passed p all seen from to rest → Passed p all (seen + 1) from (to + 1) ns
    passed_hit o h (inside e t) = inside (omega arith) (tally_hit p all from to rest ns n split h t)
    passed_hit o h (behind l r) = absurd (omega arith)

    pub passed_skip : to ≡ seen → starts p n ≡ false → from ≡ to → Passed p all seen from to rest → Passed p all (seen + 1) (from + 1) (to + 1) ns
    passed_skip o h d (inside e t) = inside (omega arith) (tally_skip p all from to rest ns n split h d t)
    passed_skip o h d (behind l r) = absurd (omega arith)

    pub passed_stop : to ≡ seen → starts p n ≡ false → (from ≡ to → ⊥) → Passed p all seen from to rest → Passed p all (seen + 1) from to ns
    passed_stop o h d (inside e t) = behind (omega arith) (tally_stop p all from to rest ns n split h d t)
    passed_stop o h d (behind l r) = behind (omega arith) r

    pub passed_behind : (to ≡ seen → ⊥) → Passed p all seen from to rest → Passed p all (seen + 1) from to ns
    passed_behind o (inside e t) = absurd (o e)
    passed_behind o (behind l r) = behind (omega arith) r
