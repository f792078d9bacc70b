-- `gen_values::icmp_line` meets its contract.
use Rattle.std.proofs.Common.{arith, ap, ◌∙◌}
use Rattle.assembly.specs.Number.{operation, icmp_number}
use Rattle.lowering.specs.Operand.{work_of}
use Rattle.gen_values.proofs.icmp_line.Goals as goal

pub returns : goal.returns
unfolding icmp_number
returns c = c.operation.ensures ∙ ap (λ n. operation n (work_of c.args.width)) (omega arith)
