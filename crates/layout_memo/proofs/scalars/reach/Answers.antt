-- `layout_memo::scalars::reach` meets its contract by the test on the level.
use Rattle.layout_memo.specs.Scalars.{reach_zero, reach_all}
use Rattle.layout_memo.proofs.scalars.reach.Goals as goal

pub returns-then-level-eq0 : goal.returns-then-level-eq0
returns-then-level-eq0 c = reach_zero _ _ c.if-level-eq0.true

pub returns-else-level-eq0 : goal.returns-else-level-eq0
returns-else-level-eq0 c = reach_all _ _ c.if-level-eq0.false
