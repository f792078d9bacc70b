use Rattle.print_pen.specs.Pen.{copy_step_lem, copy_end}
use Rattle.print_pen.proofs.copy.Goals as goal

pub loop-i-preserved : goal.loop-i-preserved
loop-i-preserved c = copy_step_lem c.loop-i.invariant c.loop-i-test.true

pub returns : goal.returns
returns c = copy_end c.loop-i.invariant c.loop-i-test.false
