-- For every byte the table of UTF-8 says what specs/Lead does in comparisons of that byte.
use Rattle.std.specs.Prelude.{ℕ, ◌<◌, ◌≡◌, refl, Bool, true, false, ◌&&◌, not, cond, List, [], ◌∷◌, eqb}
use Rattle.std.proofs.Common.{sym, ap₂, eqb-true}
use Rattle.std.proofs.lemmas.Bool.{false≢true}
use Rattle.names.specs.Text.{within}
use Rattle.names.specs.Utf8.{Range, to, tail, table, has, opens, others, begins, behind}
use Rattle.names.specs.Tests.{both, every_below, below_each}
use Rattle.names.specs.Lead.{tails, lowest, highest, ranges, leads}

-- ---- it is what the table has, for every byte

same_ranges : List Range → List Range → Bool
same_ranges [] [] = true
same_ranges [] (s ∷ ss) = false
same_ranges (r ∷ rs) [] = false
same_ranges (r ∷ rs) (s ∷ ss) = eqb r.low s.low && (eqb r.high s.high && same_ranges rs ss)

same_ranges_lem : (rs ss : List Range) → same_ranges rs ss ≡ true → rs ≡ ss
unfolding same_ranges to
same_ranges_lem [] [] h = refl
same_ranges_lem [] (s ∷ ss) h = absurd (false≢true h)
same_ranges_lem (r ∷ rs) [] h = absurd (false≢true h)
same_ranges_lem (r ∷ rs) (s ∷ ss) h =
    let l = both (eqb r.low s.low) (eqb r.high s.high && same_ranges rs ss) h in
    let m = both (eqb r.high s.high) (same_ranges rs ss) l.1 in
    ap₂ (λ x xs. x ∷ xs) (ap₂ to (eqb-true r.low s.low l.0) (eqb-true r.high s.high m.0)) (same_ranges_lem rs ss m.1)

behind_right : ℕ → Bool
behind_right b = same_ranges (behind table b) (ranges (tails b) (to (lowest b) (highest b)))

all_behind : every_below behind_right 256 ≡ true
unfolding every_below behind_right same_ranges behind table to tail opens others has within
all_behind = refl

pub lead_behind : (b : ℕ) → b < 256 → behind table b ≡ ranges (tails b) (to (lowest b) (highest b))
unfolding behind_right
lead_behind b h = same_ranges_lem (behind table b) _ (below_each behind_right 256 all_behind b h)

begins_right : ℕ → Bool
begins_right b = cond (begins table b) (leads b) (not (leads b))

all_begins : every_below begins_right 256 ≡ true
unfolding every_below begins_right begins table to tail opens has within
all_begins = refl

alike : (s t : Bool) → cond s t (not t) ≡ true → s ≡ t
alike true t h = sym h
alike false true h = h
alike false false h = refl

pub lead_begins : (b : ℕ) → b < 256 → begins table b ≡ leads b
unfolding begins_right
lead_begins b h = alike (begins table b) (leads b) (below_each begins_right 256 all_begins b h)
