-- `copy` meets its contract: what is left to be stored gives the text that is asked for.
use Rattle.print_pen.specs.Pen.{Copied}
use Rattle.print_pen.proofs.copy.Given as goal

abbrev pub invariant-loop-i : goal.invariant-loop-i
invariant-loop-i l = Copied l.src l.initial.text l.at l.text l.i
