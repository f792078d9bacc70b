-- `gen_frame::frame_pass` meets its contract. The invariant: the instructions that are left stand among the entries from `at` on, and the words hold what was passed.
use Rattle.book.specs.Entry.{entries}
use Rattle.gen_frame.specs.Pass as laws
use Rattle.gen_frame.proofs.frame_pass.Given as goal

abbrev pub invariant-loop-at : goal.invariant-loop-at
invariant-loop-at l = laws.Going l.names (entries l.kinds l.words) (entries l.book_kinds l.book_words) l.initial.work l.work l.at l.f
