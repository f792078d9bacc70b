-- `gen_lines::refuse_number` meets its contract.
use Rattle.std.proofs.Common.{ne_eqb}
use Rattle.gen_lines.proofs.refuse_number.Goals as goal

pub returns-then-s-ne0 : goal.returns-then-s-ne0
returns-then-s-ne0 c = rw (ne_eqb _ 0 c.if-s-ne0.true)

pub returns-else-s-ne0 : goal.returns-else-s-ne0
returns-else-s-ne0 c = rw c.if-s-ne0.false
