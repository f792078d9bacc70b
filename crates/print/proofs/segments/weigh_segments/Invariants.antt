-- `weigh_segments` meets its contract: the segments weighed so far and those left are all lines. The measure is the number of lines left.
use Prim.Native.Nat.{◌-◌}
use lib.ListN.{length}
use Rattle.print.specs.Heads.{is_fn}
use Rattle.print.specs.Segments.{Weighing}
use Rattle.print.specs.Passes.{one_of}
use Rattle.print.proofs.segments.weigh_segments.Given as goal

abbrev pub invariant-loop-i : goal.invariant-loop-i
invariant-loop-i l =
    Weighing (is_fn l.count l.kinds l.words) l.count l.from l.to (one_of l.names l.count l.kinds l.words) l.first l.line_kinds l.operands l.initial.text l.own l.i l.text l.n l.short

abbrev pub decreases-loop-i : goal.decreases-loop-i
decreases-loop-i l = length l.line_kinds - l.i
