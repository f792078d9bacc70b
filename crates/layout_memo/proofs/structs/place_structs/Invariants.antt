-- `layout_memo::structs::place_structs` meets its contract.
use Prim.Native.Nat.{◌-◌}
use lib.ListN.{length}
use Rattle.book.specs.Entry.{entries}
use Rattle.layout_memo.specs.Structs as laws
use Rattle.layout_memo.proofs.structs.place_structs.Given as goal

abbrev pub invariant-loop-at : goal.invariant-loop-at
invariant-loop-at l = laws.Placing l.names (entries l.kinds l.words) l.work l.at × laws.BodiesKept l.names l.initial.work l.work

abbrev pub decreases-loop-at : goal.decreases-loop-at
decreases-loop-at l = length l.kinds - l.at
