-- `read_names` meets its contract: what is left of the check behind the names that were passed decides, the two numbers tally these, and
-- where the next ones start is noted.
use Prim.Native.Nat.{◌-◌, ◌≤◌}
use mathlib.Core.Path.{◌≡◌}
use lib.ListN.{length, drop}
use Rattle.names.specs.Name.{accepted, lines}
use Rattle.names_check.proofs.Check.{going}
use Rattle.names_check.specs.Found.{part, Kept}
use Rattle.names_check.proofs.Tally.{Passed}
use Rattle.names_check.proofs.Nexts.{Noting}
use Rattle.names_check.proofs.read_names.Given as goal

abbrev pub invariant-loop-at : goal.invariant-loop-at
invariant-loop-at l =
    Kept l.names l.last l.last_end l.key l.at × (l.seen ≤ l.at) × (l.at ≤ length l.names)
    × (accepted l.names l.count ≡ going (part l.names l.last l.last_end) (drop l.at l.names) l.seen l.count)
    × Passed l.prefix (lines l.names) l.seen l.from l.to (lines (drop l.at l.names))
    × Noting l.step l.first l.names l.initial.nexts l.nexts l.seen l.at l.place

abbrev pub decreases-loop-at : goal.decreases-loop-at
decreases-loop-at l = length l.names - l.at
