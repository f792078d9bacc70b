-- `gen_function::push_slots` meets its contract.
use native.Mathlib.Omega.{arith}
use Rattle.gen_function.specs.Function.{some_slots, no_slots_lem}
use Rattle.gen_function.proofs.push_slots.Goals as goal

pub returns-then-total-gt0 : goal.returns-then-total-gt0
returns-then-total-gt0 c = some_slots c.if-total-gt0.true (omega arith) c.put.ensures

pub returns-else-total-gt0 : goal.returns-else-total-gt0
returns-else-total-gt0 c = no_slots_lem c.args.s c.args.lines.now c.args.operands.now c.if-total-gt0.false
