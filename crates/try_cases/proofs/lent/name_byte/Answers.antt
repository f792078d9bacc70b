-- `name_byte` by its test.
use Rattle.std.proofs.Common.{eq-eqb, ne_eqb}
use Rattle.try_cases.specs.Lent.{name_byte}
use Rattle.try_cases.proofs.lent.name_byte.Goals as goal

pub returns-then-b-eq124 : goal.returns-then-b-eq124
unfolding name_byte
returns-then-b-eq124 c = rw (eq-eqb _ 124 c.if-b-eq124.true)

pub returns-else-b-eq124 : goal.returns-else-b-eq124
unfolding name_byte
returns-else-b-eq124 c = rw (ne_eqb _ 124 c.if-b-eq124.false)
