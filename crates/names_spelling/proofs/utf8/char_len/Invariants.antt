-- `char_len` meets its contract: the first byte tells how many others there are, and each of them lies in its range.
use Rattle.names_spelling.proofs.Chars.{Filling}
use Rattle.names_spelling.proofs.utf8.char_len.Given as goal

abbrev pub invariant-loop-i : goal.invariant-loop-i
invariant-loop-i l = Filling l.text l.at l.n l.i
