-- `gen_marks::overflows` meets its contract: the text can start only where a dot stands and 15 bytes are left.
use Rattle.gen_marks.proofs.Scan.{Looking}
use Rattle.gen_marks.proofs.overflows.Given as goal

abbrev pub invariant-loop-i : goal.invariant-loop-i
invariant-loop-i l = Looking l.names l.at l.end l.i
