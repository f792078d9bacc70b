-- `note_eighths` meets its contract: the pass stands at the start of each name in turn. The measure is what is left of the bytes.
use Prim.Native.Nat.{◌-◌}
use lib.ListN.{length}
use Rattle.print_types.specs.Starts.{Noting}
use Rattle.print_types.proofs.starts.note_eighths.Given as goal

abbrev pub invariant-loop-at : goal.invariant-loop-at
invariant-loop-at l = Noting l.names (length l.initial.starts) l.starts l.at l.i

abbrev pub decreases-loop-at : goal.decreases-loop-at
decreases-loop-at l = length l.names - l.at
