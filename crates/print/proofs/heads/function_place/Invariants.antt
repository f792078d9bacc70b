-- `function_place` meets its contract: none of the entries passed has kind 5.
use Rattle.print.specs.Heads.{Seeking}
use Rattle.print.proofs.heads.function_place.Given as goal

abbrev pub invariant-loop-i : goal.invariant-loop-i
invariant-loop-i l = Seeking l.kinds l.i
