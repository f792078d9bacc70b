-- `layout_memo::structs::first_struct` meets its contract.
use Prim.Native.Nat.{◌-◌}
use lib.ListN.{length}
use Rattle.book.specs.Entry.{entries}
use Rattle.layout_memo.specs.Structs as laws
use Rattle.layout_memo.proofs.structs.first_struct.Given as goal

abbrev pub invariant-loop-at : goal.invariant-loop-at
invariant-loop-at l = laws.MarksAt l.names (entries l.kinds l.words) l.at

abbrev pub decreases-loop-at : goal.decreases-loop-at
decreases-loop-at l = length l.kinds - l.at
