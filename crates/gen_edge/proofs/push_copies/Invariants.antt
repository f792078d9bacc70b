-- `gen_edge::push_copies` meets its contract. The outer loop has the phis passed, what was noted of them and their values pushed; the inner one has the
-- pairs passed and the first of them for the predecessor.
use Rattle.std.proofs.Common.{◌+◌, ◌-◌, ◌≤◌, List, length, drop}
use Rattle.book.specs.Entry.{entries}
use Rattle.lowering.specs.Context.{FnCtx}
use Rattle.gen_values.specs.Maps.{Locals}
use Rattle.gen_edge.specs.Phis.{Phi, Leading}
use Rattle.gen_edge.specs.Walks.{Walk, PairWalk}
use Rattle.gen_edge.proofs.push_copies.Given as goal

abbrev pub invariant-loop-pair : goal.invariant-loop-pair
invariant-loop-pair l =
    (l.at + 2 ≤ l.pair) × ((ps : List Phi) → Leading l.names ps (drop l.at (entries l.kinds l.words)) → PairWalk l.pred l.names l.kinds l.words l.at ps l.pair l.found)

abbrev pub decreases-loop-pair : goal.decreases-loop-pair
decreases-loop-pair l = length l.kinds - l.pair

abbrev pub invariant-phis : goal.invariant-phis
invariant-phis l =
    (l.phis ≤ l.at)
    × ((c : FnCtx) (ps : List Phi) → Locals c l.names l.work → Leading l.names ps (entries l.kinds l.words)
    → Walk c l.pred l.names l.kinds l.words l.work ps l.at l.phis l.initial.noted l.noted l.reached l.initial.lines l.initial.operands l.lines l.operands)

abbrev pub decreases-phis : goal.decreases-phis
decreases-phis l = length l.kinds - l.at
