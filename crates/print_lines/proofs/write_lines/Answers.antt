use Rattle.std.proofs.Common.{◌≤◌, min, length, arith}
use Rattle.print_lines.specs.All.{written_done}
use Rattle.print_lines.proofs.write_lines.Goals as goal

pub returns : goal.returns
returns c =
    let over : min (length c.args.line_kinds.now) (length c.args.operands.now) ≤ c.loop-i.i = omega arith in
    written_done c.loop-i.invariant over
