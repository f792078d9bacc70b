-- `gen_block::gen_insts` meets its contract: what was walked is done, and the others stand at the place.
use Prim.Native.Nat.{◌-◌}
use lib.ListN.{length}
use Rattle.gen_block.specs.Body.{InstsWalk}
use Rattle.gen_block.proofs.gen_insts.Given as goal

abbrev pub invariant-loop-i : goal.invariant-loop-i
invariant-loop-i l =
    InstsWalk l.names l.kinds l.words l.book_kinds l.book_words l.base l.initial.work l.initial.lines l.initial.operands l.initial.reached l.work l.lines l.operands l.i l.reached

abbrev pub decreases-loop-i : goal.decreases-loop-i
decreases-loop-i l =
    length l.kinds - l.i
