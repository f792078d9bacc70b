-- `book_parts::marks_len` meets its contract: a mark is passed where its name is new, and the structs follow the last.
use Prim.Native.Nat.{◌-◌}
use mathlib.Core.Path.{◌≡◌}
use lib.ListN.{length}
use lib.Dec.{leb}
use Rattle.book.specs.Entry.{entries}
use Rattle.book.specs.Decode.{mark, structs_and_functions}
use Rattle.book_parts.specs.Reading.{marked_by, structs_ended}
use Rattle.book_parts.specs.Folds.{Fold}
use Rattle.book_parts.proofs.marks_len.Given as goal

abbrev pub invariant-loop-at : goal.invariant-loop-at
invariant-loop-at l =
    Fold marked_by (structs_ended l.initial.named l.initial.defined) (leb 3) (mark l.names) (structs_and_functions l.names) (l.initial.marked, l.initial.barred) (length (entries l.kinds l.words)) l.kinds l.words l.at
    (length (entries l.kinds l.words) - l.at) (l.marked, l.barred) × (length l.marked ≡ length l.initial.marked) × (length l.barred ≡ length l.initial.barred) × (l.named ≡ l.initial.named) × (l.defined ≡ l.initial.defined)
