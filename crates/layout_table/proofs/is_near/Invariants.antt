-- `layout_table::is_near` stays within the slice.
use Prim.Native.Nat.{◌≤◌}
use lib.ListN.{length}
use Rattle.layout_table.proofs.is_near.Given as goal

abbrev pub invariant-loop-at : goal.invariant-loop-at
invariant-loop-at l = (l.at-end ≤ length l.kinds) × (l.lists ≤ l.at)
