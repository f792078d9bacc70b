-- `front_end` meets its contract: words of ASCII characters are passed, and behind them the characters one by one.
use Prim.Native.Nat.{◌-◌}
use lib.ListN.{length}
use Rattle.names_check.specs.Found.{Through}
use Rattle.names_check.proofs.front_end.Given as goal

abbrev pub invariant-loop-i : goal.invariant-loop-i
invariant-loop-i l = Through l.names l.at l.i

abbrev pub decreases-loop-i : goal.decreases-loop-i
decreases-loop-i l = length l.names - l.i
