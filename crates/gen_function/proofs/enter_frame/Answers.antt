-- `gen_function::enter_frame` meets its contract.
use Rattle.gen_function.specs.Function.{frame_entered, no_frame_lem}
use Rattle.gen_function.proofs.enter_frame.Goals as goal

pub returns-then-head : goal.returns-then-head
returns-then-head c =
    λ k f. frame_entered k f c.if-head.true (c.prologue.ensures k f.slots f.size)

pub returns-else-head : goal.returns-else-head
returns-else-head c = λ k f. no_frame_lem k f c.args.s c.args.lines.now c.args.operands.now c.if-head.false
