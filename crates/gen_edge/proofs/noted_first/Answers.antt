-- `gen_edge::noted_first` meets its contract.
use Rattle.std.proofs.Common.{ne_eqb}
use Rattle.gen_edge.proofs.noted_first.Goals as goal

pub returns-then-noted-ne0 : goal.returns-then-noted-ne0
returns-then-noted-ne0 c = rw (ne_eqb _ 0 c.if-noted-ne0.true)

pub returns-else-noted-ne0 : goal.returns-else-noted-ne0
returns-else-noted-ne0 c = rw c.if-noted-ne0.false
