-- `copy_clean` meets its contract: what is left to be stored gives the text that is asked for.
use Rattle.print_pen.specs.Pen.{Cleaned}
use Rattle.print_pen.proofs.copy_clean.Given as goal

abbrev pub invariant-loop-b : goal.invariant-loop-b
invariant-loop-b l = Cleaned l.src l.initial.text l.at l.text l.b-index l.to
