-- `try_layout::measure_all` meets its contract: the work words stay ready.
use Rattle.std.proofs.Common.{◌≡◌, ◌-◌, length}
use Rattle.book.specs.Entry.{entries}
use Rattle.layout_memo.specs.Work.{Ready}
use Rattle.try_layout.proofs.measure_all.Given as goal

abbrev pub invariant-loop-at : goal.invariant-loop-at
invariant-loop-at g l = Ready l.names (entries l.kinds l.words) l.work × (length l.work ≡ length l.initial.work)

abbrev pub decreases-loop-at : goal.decreases-loop-at
decreases-loop-at g l = length l.kinds - l.at
