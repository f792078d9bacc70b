-- `book_types::types::type_len`, `type_deep` and `types_len` meet their contracts. The level falls from a type to what it holds.
use Prim.Native.Nat.{◌+◌, ◌*◌}
use mathlib.Core.Bool.{false}
use lib.ListN.{length}
use Rattle.book.specs.Entry.{entries}
use Rattle.book.specs.Decode.{type_to}
use Rattle.book_types.specs.Found.{never}
use Rattle.book_types.specs.Passes.{Listing}
use Rattle.book_types.proofs.types.+type_deep_type_len_types_len.Given as goal

abbrev pub decreases-type_deep : goal.decreases-type_deep
decreases-type_deep l = 3 * l.level

abbrev pub decreases-type_len : goal.decreases-type_len
decreases-type_len l = 3 * l.level + 1

abbrev pub decreases-types_len : goal.decreases-types_len
decreases-types_len l = 3 * l.level + 2

abbrev pub invariant-types_len-loop-kind : goal.invariant-types_len-loop-kind
invariant-types_len-loop-kind l = Listing never (type_to l.names l.level) (length (entries l.kinds l.words)) l.kinds l.words l.at l.left false

abbrev pub decreases-types_len-loop-kind : goal.decreases-types_len-loop-kind
decreases-types_len-loop-kind l = l.left
