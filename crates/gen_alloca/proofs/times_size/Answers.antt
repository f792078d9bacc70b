-- `gen_alloca::times_size` meets its contract.
use Rattle.gen_alloca.specs.Alloca as laws
use Rattle.gen_alloca.proofs.times_size.Goals as goal

pub returns-then-size-eq1 : goal.returns-then-size-eq1
returns-then-size-eq1 c =
    laws.times_none c.args.size c.args.s c.args.lines.now c.args.operands.now c.if-size-eq1.true

pub returns : goal.returns
returns c =
    laws.times_puts c.args.size c.if-size-eq1.false c.push_int-each.ensures c.put.ensures
