use Rattle.std.proofs.Common.{◌<◌, ◌≤◌, min, length, arith}
use Rattle.print_lines.specs.Weigh.{weighing_done, weighing_next, weighing_refused}
use Rattle.print_lines.proofs.weigh.weigh_lines.Goals as goal

pub returns-in-Err : goal.returns-in-Err
returns-in-Err c =
    let here : c.loop-i.i < length c.args.line_kinds.now = omega arith in
    let there : c.loop-i.i < length c.args.operands.now = omega arith in
    weighing_refused c.loop-i.invariant here there c.weigh_line.ensures _ _ c.in-Err.is c.weigh_rest.ensures

pub loop-i-preserved : goal.loop-i-preserved
loop-i-preserved c =
    let here : c.loop-i.i < length c.args.line_kinds.now = omega arith in
    let there : c.loop-i.i < length c.args.operands.now = omega arith in
    weighing_next c.loop-i.invariant here there c.weigh_line.ensures _ c.in-Ok.is

pub returns : goal.returns
returns c =
    let over : min (length c.args.line_kinds.now) (length c.args.operands.now) ≤ c.loop-i.i = omega arith in
    weighing_done c.loop-i.invariant over
