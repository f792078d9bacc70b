-- `gen_clear::clear_function` meets its contract: what is left to clear is covered by the entries that are left.
use lib.ListN.{length}
use Rattle.book.specs.Entry.{entries}
use Rattle.gen_clear.specs.Clear as laws
use Rattle.gen_clear.proofs.clear_function.Given as goal

abbrev pub invariant-loop-at : goal.invariant-loop-at
invariant-loop-at l = laws.Clearing l.names (entries l.kinds l.words) l.initial.work l.work l.at (length (entries l.kinds l.words))
