-- What is read so far, with the digits from there on, makes the number.
use Rattle.try_cases.proofs.Reading.{Reached}
use Rattle.try_cases.proofs.text.read_number.Given as goal

abbrev pub invariant-loop-i : goal.invariant-loop-i
invariant-loop-i l = Reached l.text l.value l.i
