-- `chars_end` meets its contract: each character is passed, and the first that may not stand in a name is not.
use Prim.Native.Nat.{◌-◌}
use lib.ListN.{length}
use Rattle.names_check.specs.Found.{Through}
use Rattle.names_check.proofs.chars_end.Given as goal

abbrev pub invariant-loop-i : goal.invariant-loop-i
invariant-loop-i l = Through l.names l.at l.i

abbrev pub decreases-loop-i : goal.decreases-loop-i
decreases-loop-i l = length l.names - l.i
