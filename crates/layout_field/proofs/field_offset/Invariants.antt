-- `layout_field::field_offset` meets its contract.
use Prim.Native.Nat.{◌-◌}
use lib.ListN.{length}
use Rattle.book.specs.Entry.{entries}
use Rattle.layout_field.specs.Offsets as laws
use Rattle.layout_field.proofs.field_offset.Given as goal

abbrev pub invariant-loop-at : goal.invariant-loop-at
invariant-loop-at l =
    laws.OffsetLoop l.names l.kinds l.words (entries l.book_kinds l.book_words) l.initial.work l.packed l.index l.offset l.work l.at l.taken l.left

abbrev pub decreases-loop-at : goal.decreases-loop-at
decreases-loop-at l = length l.kinds - l.at
