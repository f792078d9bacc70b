-- `gen_function::prologue` meets its contract.
use mathlib.Core.Path.{◌∙◌}
use native.Mathlib.Omega.{arith}
use Rattle.gen_function.specs.Function.{prologue_lines}
use Rattle.gen_function.proofs.prologue.Goals as goal

pub shape_of-lines : goal.shape_of-lines
shape_of-lines c =
    c.put.auto.lines ∙ c.put-end.auto.lines ∙ c.put-bytes.auto.lines
    ∙ c.put-kept.auto.lines ∙ c.put-twice.auto.lines ∙ c.put-top.auto.lines

pub shape_of-operands : goal.shape_of-operands
shape_of-operands c =
    c.put.auto.operands ∙ c.put-end.auto.operands ∙ c.put-bytes.auto.operands
    ∙ c.put-kept.auto.operands ∙ c.put-twice.auto.operands ∙ c.put-top.auto.operands

pub returns : goal.returns
returns c =
    λ k e i. prologue_lines k e i (omega (arith, c.well_formed)) (omega (arith, c.well_formed)) c.put-top.ensures c.put-twice.ensures c.put-kept.ensures
    c.put-bytes.ensures c.put-end.ensures c.put.ensures
