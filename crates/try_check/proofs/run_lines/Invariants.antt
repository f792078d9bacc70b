-- What is left of the input falls.
use Rattle.std.proofs.Common.{length, ◌-◌}
use Rattle.try_check.proofs.run_lines.Given as goal

abbrev pub decreases-loop-at : goal.decreases-loop-at
decreases-loop-at g l = length l.text - l.at
