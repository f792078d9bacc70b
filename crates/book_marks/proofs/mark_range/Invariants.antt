-- `mark_range` meets its contract: at each number, what is left of the range decides.
use mathlib.Core.Path.{◌≡◌}
use lib.ListN.{length}
use Rattle.book_marks.specs.Range.{marked_range}
use Rattle.book_marks.proofs.mark_range.Given as goal

abbrev pub invariant-loop-x : goal.invariant-loop-x
invariant-loop-x l = (length l.map ≡ length l.initial.map) × (marked_range l.initial.map l.from l.to ≡ marked_range l.map l.x l.to)
