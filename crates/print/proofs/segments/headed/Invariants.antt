-- `headed` meets its contract: no comment line and no line of a block stands before.
use Rattle.print.specs.Segments.{Ahead}
use Rattle.print.proofs.segments.headed.Given as goal

abbrev pub invariant-loop-kind : goal.invariant-loop-kind
invariant-loop-kind l = Ahead l.line_kinds l.kind-index
