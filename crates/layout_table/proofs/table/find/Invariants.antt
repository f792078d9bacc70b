-- `layout_table::table::find` meets its contract.
use Prim.Native.Nat.{◌≤◌}
use Rattle.layout_table.proofs.table.find.Given as goal

abbrev pub invariant-loop-before : goal.invariant-loop-before
invariant-loop-before l = l.before ≤ l.index

abbrev pub decreases-loop-before : goal.decreases-loop-before
decreases-loop-before l = l.before
