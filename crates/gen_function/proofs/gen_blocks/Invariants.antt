-- `gen_function::gen_blocks` meets its contract: what was walked is done, and the others stand at the place.
use Prim.Native.Nat.{◌-◌}
use Rattle.gen_function.specs.Blocks.{BlocksWalk}
use Rattle.gen_function.proofs.gen_blocks.Given as goal

abbrev pub invariant-loop-at : goal.invariant-loop-at
invariant-loop-at l =
    BlocksWalk l.names l.book_kinds l.book_words l.from l.last l.base l.initial.work l.initial.lines l.initial.operands l.initial.reached l.work l.lines l.operands l.at l.reached

abbrev pub decreases-loop-at : goal.decreases-loop-at
decreases-loop-at l =
    l.last - l.at
