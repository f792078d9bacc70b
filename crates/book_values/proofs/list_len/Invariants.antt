-- `book_values::list_len` meets its contract: what is left of the list tells at each entry what the whole is from there.
use Rattle.book.specs.Decode.{item as itemReader}
use Rattle.book.specs.Forbidden.{other_item}
use Rattle.book_types.specs.Passes.{Listing}
use Rattle.book_values.specs.Items.{item_of}
use Rattle.book_values.proofs.list_len.Given as goal

abbrev pub invariant-loop-kind : goal.invariant-loop-kind
invariant-loop-kind l = Listing (other_item (item_of l.item)) (itemReader l.names (item_of l.item)) l.most l.kinds l.words l.at l.left l.seen

abbrev pub decreases-loop-kind : goal.decreases-loop-kind
decreases-loop-kind l = l.left
