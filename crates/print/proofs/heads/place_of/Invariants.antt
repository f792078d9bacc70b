-- `place_of` meets its contract: no function of the name stands before the entry that is come to.
use Prim.Native.Nat.{◌≤◌}
use Rattle.print.specs.Heads.{head_of}
use Rattle.print.proofs.heads.place_of.Given as goal

abbrev pub invariant-loop-i : goal.invariant-loop-i
invariant-loop-i l = l.i ≤ head_of l.x l.kinds l.words
