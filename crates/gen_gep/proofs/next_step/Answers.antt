-- `gen_gep::next_step` meets its contract.
use Rattle.gen_gep.specs.Walks.{first_outcome, later_outcome}
use Rattle.gen_gep.proofs.next_step.Goals as goal

pub returns-then-first : goal.returns-then-first
returns-then-first c =
    first_outcome _ _ _ c.if-first.true c.array_step.ensures

pub returns : goal.returns
returns c =
    later_outcome _ _ _ c.if-first.false c.gep_step.ensures
