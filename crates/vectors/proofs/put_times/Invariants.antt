-- The row keeps its length.
use Rattle.std.proofs.Common.{◌≡◌, length}
use Rattle.vectors.proofs.put_times.Given as goal

abbrev pub invariant-loop-i : goal.invariant-loop-i
invariant-loop-i l = length l.row ≡ length l.initial.row
