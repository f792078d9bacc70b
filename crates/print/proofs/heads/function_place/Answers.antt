use Rattle.print.specs.Heads.{seeking_start, seeking_found, seeking_next, seeking_end}
use Rattle.print.proofs.heads.function_place.Goals as goal

pub loop-i-init : goal.loop-i-init
loop-i-init c = seeking_start _

pub returns-then-kind-eq-FUNCTION : goal.returns-then-kind-eq-FUNCTION
returns-then-kind-eq-FUNCTION c = seeking_found c.loop-i.invariant c.loop-i-test.true c.if-kind-eq-FUNCTION.true

pub loop-i-preserved : goal.loop-i-preserved
loop-i-preserved c = seeking_next c.loop-i.invariant c.loop-i-test.true c.if-kind-eq-FUNCTION.false

pub returns : goal.returns
returns c = seeking_end c.loop-i.invariant c.loop-i-test.false
