-- `gen_gep::add_sum` meets its contract.
use Rattle.gen_gep.specs.Lines.{no_sum, one_sum}
use Rattle.gen_gep.proofs.add_sum.Goals as goal

pub returns-then-sum-eq0 : goal.returns-then-sum-eq0
returns-then-sum-eq0 c =
    no_sum c.args.sum c.args.s c.args.lines.now c.args.operands.now c.if-sum-eq0.true

pub returns : goal.returns
returns c =
    one_sum c.args.sum c.if-sum-eq0.false c.push_int-pushed.ensures c.put.ensures
