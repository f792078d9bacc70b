-- `put_line` meets its contract by its test.
use Prim.Native.Nat.{◌<◌}
use native.Mathlib.Omega.{arith}
use borrow.Author.Tests.{lt-leb, eq-eqb, ne_eqb}
use Rattle.print_pen.specs.Pen.{put_same}
use Rattle.print_lines.specs.Lines.{printed}
use Rattle.print_lines.proofs.put_line.Goals as goal

pub returns-then-kind-eq-COMMENT : goal.returns-then-kind-eq-COMMENT
unfolding printed
returns-then-kind-eq-COMMENT c =
    let low : c.args.kind < 21 = omega (arith, c.requires.kind_bound) in
    put_same (rw (lt-leb 21 _ low, eq-eqb _ 0 c.if-kind-eq-COMMENT.true)) c.put_comment.ensures

pub returns : goal.returns
unfolding printed
returns c =
    let low : c.args.kind < 21 = omega (arith, c.requires.kind_bound) in
    put_same (rw (lt-leb 21 _ low, ne_eqb _ 0 c.if-kind-eq-COMMENT.false)) c.put_parts.ensures
