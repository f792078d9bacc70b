-- `size_of`, `named_size` and `struct_size` meet their contracts: each arm is a law of specs/Calls, the loop one of specs/LoopCalls. What falls is three times the allowance, and less where a named struct is looked up.
use Rattle.layout_size.specs.LoopCalls.{SizeInv}
use Prim.Native.Nat.{◌+◌, ◌-◌, ◌*◌, ◌≤◌}
use lib.ListN.{length}
use Rattle.book.specs.Entry.{entries}
use Rattle.layout_size.proofs.+named_size_size_of_struct_size.Given as goal

abbrev pub decreases-named_size : goal.decreases-named_size
decreases-named_size l = 3 * l.level

abbrev pub decreases-size_of : goal.decreases-size_of
decreases-size_of l = 3 * l.level + 1

abbrev pub decreases-struct_size : goal.decreases-struct_size
decreases-struct_size l = 3 * l.level + 2

abbrev pub invariant-struct_size-loop-at : goal.invariant-struct_size-loop-at
invariant-struct_size-loop-at l =
    (lv : l.level ≤ 64) × SizeInv l.names l.kinds l.words (entries l.book_kinds l.book_words) l.initial.work l.level l.packed lv l.work l.at l.sum

abbrev pub decreases-struct_size-loop-at : goal.decreases-struct_size-loop-at
decreases-struct_size-loop-at l = length l.kinds - l.at
