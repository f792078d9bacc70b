-- `gen_marks::with_overflow` meets its contract.
use native.Mathlib.Omega.{arith}
use Rattle.gen_marks.specs.Mark.{with_overflow}
use Rattle.gen_marks.proofs.with_overflow.Goals as goal

pub returns-then-overflow : goal.returns-then-overflow
unfolding with_overflow
returns-then-overflow c =
    rw c.if-overflow.true

pub returns-else-overflow : goal.returns-else-overflow
unfolding with_overflow
returns-else-overflow c =
    rw c.if-overflow.false (omega arith)
