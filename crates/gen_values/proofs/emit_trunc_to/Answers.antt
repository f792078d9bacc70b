-- `gen_values::emit_trunc_to` meets its contract.
use Rattle.gen_values.specs.Widths as laws
use Rattle.gen_values.proofs.emit_trunc_to.Goals as goal

pub returns-in-1 : goal.returns-in-1
returns-in-1 c =
    rw c.in-1.is (laws.trunc_1 c.put-one.ensures c.put.ensures)

pub returns-in-8 : goal.returns-in-8
returns-in-8 c =
    rw c.in-8.is (laws.trunc_8 c.put-in-8.ensures)

pub returns-in-16 : goal.returns-in-16
returns-in-16 c =
    rw c.in-16.is (laws.trunc_16 c.put-in-16.ensures)

pub returns-in-32 : goal.returns-in-32
returns-in-32 c =
    rw c.in-32.is (laws.trunc_32 c.put-in-32.ensures)

pub returns-in_default : goal.returns-in_default
returns-in_default c =
    laws.trunc_none c.args.width c.args.s c.args.lines.now c.args.operands.now
    c.in_default.in_default-own.rest.0.0.0.1 c.in_default.in_default-own.rest.0.0.1 c.in_default.in_default-own.rest.0.1 c.in_default.in_default-own.rest.1
