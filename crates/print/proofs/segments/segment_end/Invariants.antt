-- `segment_end` meets its contract: the lines from the start up to here stay in the segment.
use Rattle.print.specs.Segments.{Staying}
use Rattle.print.proofs.segments.segment_end.Given as goal

abbrev pub invariant-loop-i : goal.invariant-loop-i
invariant-loop-i l = Staying l.own l.line_kinds l.operands l.start l.i
