-- `gen_function::total_slots` meets its contract.
use Rattle.gen_function.specs.Function.{slots_of}
use native.Mathlib.Omega.{arith}
use Rattle.gen_function.proofs.total_slots.Goals as goal

pub returns-then-head : goal.returns-then-head
unfolding slots_of
returns-then-head c = rw c.if-head.true

pub returns-else-head : goal.returns-else-head
unfolding slots_of
returns-else-head c = rw c.if-head.false (omega arith)
