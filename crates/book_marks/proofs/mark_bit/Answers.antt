-- `mark_bit` meets its contract: past its end a map has no bit to set.
use mathlib.Core.Path.{sym}
use Rattle.book_marks.specs.Range.{set_past}
use Rattle.book_marks.proofs.mark_bit.Goals as goal

pub returns-else-x-map : goal.returns-else-x-map
returns-else-x-map c = sym (set_past _ _ c.if-x-map.false)
