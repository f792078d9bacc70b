-- `gen_marks::define_marks` meets its contract: an entry of kind 1 or 5 defines the next name that is left.
use Rattle.book.specs.Entry.{entries}
use Rattle.gen_marks.specs.Defined as laws
use Rattle.gen_marks.proofs.define_marks.Given as goal

abbrev pub invariant-loop-at : goal.invariant-loop-at
invariant-loop-at l = laws.Marking l.count (entries l.kinds l.words) l.initial.work l.work l.at
