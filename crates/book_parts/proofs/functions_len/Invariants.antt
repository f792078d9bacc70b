-- `book_parts::functions_len` meets its contract: a function whose name is new is passed, and the entry of kind 0 behind one of them ends the loop.
use mathlib.Core.Path.{◌≡◌}
use lib.ListN.{length}
use Rattle.book_parts.specs.Parts as parts
use Rattle.book_parts.proofs.functions_len.Given as goal

abbrev pub invariant-loop-at : goal.invariant-loop-at
invariant-loop-at l =
    parts.FunctionsFold l.barred l.initial.defined l.names l.kinds l.words l.at l.left l.defined l.seen × (length l.defined ≡ length l.initial.defined)

abbrev pub decreases-loop-at : goal.decreases-loop-at
decreases-loop-at l = l.left
