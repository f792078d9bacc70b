-- `gen_values::need` meets its contract.
use mathlib.Core.Path.{◌∙◌}
use Rattle.gen_values.proofs.need.Goals as goal

pub returns-else-test : goal.returns-else-test
returns-else-test c = c.refuse.ensures ∙ rw c.if-test.false
