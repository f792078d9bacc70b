-- `write_segments` meets its contract: the segments written so far and those left are all lines. The measure is the number of lines left.
use Prim.Native.Nat.{◌-◌}
use lib.ListN.{length}
use Rattle.print.specs.Heads.{is_fn}
use Rattle.print.specs.Segments.{Writing}
use Rattle.print.specs.Passes.{one_of}
use Rattle.print.proofs.segments.write_segments.Given as goal

abbrev pub invariant-loop-i : goal.invariant-loop-i
invariant-loop-i l =
    Writing (is_fn l.count l.kinds l.words) l.count l.from l.to (one_of l.names l.count l.kinds l.words) l.first l.line_kinds l.operands l.initial.text l.end l.own l.i l.text l.at

abbrev pub decreases-loop-i : goal.decreases-loop-i
decreases-loop-i l = length l.line_kinds - l.i
