use mathlib.Core.Path.{sym, ◌∙◌}
use native.Mathlib.Omega.{arith}
use Rattle.print.specs.Segments.{staying_start, staying_next, staying_done, staying_end}
use Rattle.print.proofs.segments.segment_end.Goals as goal

pub loop-i-init : goal.loop-i-init
loop-i-init c = staying_start _ _ _ _ c.requires.start_in_bounds

pub returns-then-not-same_segment : goal.returns-then-not-same_segment
returns-then-not-same_segment c =
    let test = c.loop-i-test.true in
    staying_done c.loop-i.invariant test (omega (arith, test, c.requires.line_kinds_len)) (sym c.same_segment.ensures ∙ c.if-not-same_segment.true)

pub loop-i-preserved : goal.loop-i-preserved
loop-i-preserved c =
    let test = c.loop-i-test.true in
    staying_next c.loop-i.invariant test (omega (arith, test, c.requires.line_kinds_len)) (sym c.same_segment.ensures ∙ c.if-not-same_segment.false)

pub returns : goal.returns
returns c = staying_end c.loop-i.invariant c.loop-i-test.false
