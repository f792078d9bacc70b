-- `gen_values::bin_line` meets its contract.
use Rattle.std.proofs.Common.{arith, ap, ◌∙◌}
use Rattle.assembly.specs.Number.{operation, bin_number}
use Rattle.lowering.specs.Operand.{work_of}
use Rattle.gen_values.proofs.bin_line.Goals as goal

pub returns : goal.returns
unfolding bin_number
returns c = c.operation.ensures ∙ ap (λ n. operation n (work_of c.args.width)) (omega arith)
