-- `align_of`, `named_align` and `struct_align` meet their contracts: each arm is a law of specs/Calls, the loop one of specs/LoopCalls. What falls is three times the allowance, and less where a named struct is looked up.
use Prim.Native.Nat.{◌+◌, ◌-◌, ◌*◌}
use lib.ListN.{length}
use Rattle.book.specs.Entry.{entries}
use Rattle.layout_align.specs.Loop.{AlignLoop}
use Rattle.layout_memo.specs.Work.{structs_in, After}
use Rattle.layout_align.proofs.+align_of_named_align_struct_align.Given as goal

abbrev pub decreases-align_of : goal.decreases-align_of
decreases-align_of l = 3 * l.level + 1

abbrev pub decreases-named_align : goal.decreases-named_align
decreases-named_align l = 3 * l.level

abbrev pub decreases-struct_align : goal.decreases-struct_align
decreases-struct_align l = 3 * l.level + 2

abbrev pub invariant-struct_align-loop-at : goal.invariant-struct_align-loop-at
invariant-struct_align-loop-at l =
    AlignLoop (structs_in l.names (entries l.book_kinds l.book_words)) l.names l.kinds l.words l.level l.at l.align l.levels × After l.names (entries l.book_kinds l.book_words) l.initial.work l.work

abbrev pub decreases-struct_align-loop-at : goal.decreases-struct_align-loop-at
decreases-struct_align-loop-at l = length l.kinds - l.at
