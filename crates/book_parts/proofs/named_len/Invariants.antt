-- `book_parts::named_len` meets its contract: a struct whose name is new is passed, and the functions follow the last.
use mathlib.Core.Path.{◌≡◌}
use lib.ListN.{length}
use Rattle.book_parts.specs.Parts as parts
use Rattle.book_parts.proofs.named_len.Given as goal

abbrev pub invariant-loop-at : goal.invariant-loop-at
invariant-loop-at l =
    parts.NamedFold l.barred l.initial.defined l.initial.named l.names l.kinds l.words l.at l.left l.named × (length l.named ≡ length l.initial.named) × (l.defined ≡ l.initial.defined)

abbrev pub decreases-loop-at : goal.decreases-loop-at
decreases-loop-at l = l.left
