-- `write_line` meets its contract by its test.
use Rattle.print_pen.specs.Write.{wrote_same}
use Rattle.print_lines.specs.Lines.{plain_printed, plain_fits}
use Rattle.print_lines.specs.All.{pen_placed}
use Rattle.print_lines.proofs.write_line.Goals as goal

pub write_plain-requires-clause-x_bound : goal.write_plain-requires-clause-x_bound
write_plain-requires-clause-x_bound c =
    plain_fits _ _ _ _ _ _ _ _ c.requires.x_bound c.if-kind-ge-PUSH_0N.true

pub returns-then-kind-ge-PUSH_0N : goal.returns-then-kind-ge-PUSH_0N
returns-then-kind-ge-PUSH_0N c =
    wrote_same (plain_printed _ _ _ _ _ _ c.if-kind-ge-PUSH_0N.true) c.write_plain.ensures

pub returns : goal.returns
returns c = pen_placed _ _ c.put_line.ensures c.requires.x_bound c.requires.end_in_bounds c.in-Writing.is
