-- `gen_alloca::raised` meets its contract.
use native.Mathlib.Omega.{arith}
use mathlib.Core.Path.{◌∙◌}
use Rattle.gen_alloca.specs.Alloca as laws
use Rattle.gen_alloca.proofs.raised.Goals as goal

pub overflow_sub-align-3 : goal.overflow_sub-align-3
overflow_sub-align-3 c =
    omega (arith, c.ranges.align)

pub shape_of-lines : goal.shape_of-lines
shape_of-lines c =
    c.put.auto.lines ∙ c.put-start.auto.lines ∙ c.push_int-mask.auto.lines
    ∙ c.put-sum.auto.lines ∙ c.push_int-below.auto.lines ∙ c.put-top.auto.lines

pub shape_of-operands : goal.shape_of-operands
shape_of-operands c =
    c.put.auto.operands ∙ c.put-start.auto.operands ∙ c.push_int-mask.auto.operands
    ∙ c.put-sum.auto.operands ∙ c.push_int-below.auto.operands ∙ c.put-top.auto.operands

pub returns : goal.returns
returns c = λ g t ks os p.
    laws.raise_puts c.args.align g (omega (arith, c.requires)) c.put-top.ensures c.push_int-below.ensures c.put-sum.ensures
    c.push_int-mask.ensures c.put-start.ensures c.put.ensures p
