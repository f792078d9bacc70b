-- `gen_marks::defined` meets its contract.
use borrow.Author.Tests.{eq-eqb, ne_eqb}
use Rattle.gen_marks.specs.Mark.{defined_mark}
use Rattle.gen_marks.proofs.defined.Goals as goal

pub returns-then-word-eq-CALL_NONE : goal.returns-then-word-eq-CALL_NONE
unfolding defined_mark
returns-then-word-eq-CALL_NONE c =
    rw (eq-eqb _ 0 c.if-word-eq-CALL_NONE.true)

pub returns-else-word-eq-CALL_NONE : goal.returns-else-word-eq-CALL_NONE
unfolding defined_mark
returns-else-word-eq-CALL_NONE c =
    rw (ne_eqb _ 0 c.if-word-eq-CALL_NONE.false)
