-- `layout_memo::ends::type_end` meets its contract.
use Prim.Native.Nat.{◌-◌}
use lib.ListN.{length}
use Rattle.book.specs.Entry.{entries}
use Rattle.layout_memo.specs.Front.{Starts}
use Rattle.layout_memo.specs.Ends as laws
use Rattle.layout_memo.proofs.ends.type_end.Given as goal

abbrev pub invariant-loop-at : goal.invariant-loop-at
invariant-loop-at l = (s : Starts l.names (entries l.kinds l.words)) × laws.Fronted l.names l.kinds l.words s l.at

abbrev pub decreases-loop-at : goal.decreases-loop-at
decreases-loop-at l = length l.kinds - l.at

abbrev pub invariant-loop-lists : goal.invariant-loop-lists
invariant-loop-lists l =
    (s : Starts l.names (entries l.kinds l.words)) × laws.Opened l.names l.kinds l.words s l.at l.lists

abbrev pub decreases-loop-lists : goal.decreases-loop-lists
decreases-loop-lists l = length l.kinds - l.at
