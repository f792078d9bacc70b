-- `gen_alloca::plus_offset` meets its contract.
use Rattle.gen_alloca.specs.Alloca as laws
use Rattle.gen_alloca.proofs.plus_offset.Goals as goal

pub returns-then-offset-eq0 : goal.returns-then-offset-eq0
returns-then-offset-eq0 c =
    laws.no_offset c.args.offset c.args.s c.args.lines.now c.args.operands.now c.if-offset-eq0.true

pub returns : goal.returns
returns c =
    laws.offset_puts c.args.offset c.if-offset-eq0.false c.push_int-pushed.ensures c.put.ensures
