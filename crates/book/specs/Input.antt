-- "The book": what the lent slices are, for the translator and the printer alike. Where one is none, that is refusal 1 for the book, 2 for the names.
use Rattle.std.specs.Prelude.{ℕ, ◌*◌, Bool, ◌&&◌, List, [], ◌∷◌, length, take, drop, eqb, leb}
use Rattle.std.proofs.Math.Option.{Option, none, some}
use Rattle.book.specs.Ast.{Book}
use Rattle.book.specs.Entry.{entries}
use Rattle.book.specs.Rule.{pick}
use Rattle.book.specs.Decode.{decode}
use Rattle.names.specs.Name.{names_of, counts}

-- a book with the number of names that it asks for
pub record Counted : Type 0 where
  pub count : ℕ
  pub book : Book

unfoldable pub counted : ℕ → Option Book → Option Counted
counted m none = none
counted m (some b) = some (record { count = m; book = b })

-- "entry count N (at most 1,048,576), name count (at most 131,072)"
abbrev pub entries_fit : ℕ → Bool
entries_fit n = leb n 1048576

abbrev pub names_fit : ℕ → Bool
names_fit m = leb m 131072

-- "entry count N (at most 1,048,576), name count (at most 131,072), N kinds, N words, nothing after"
unfoldable pub book_in : List ℕ → Option Counted
book_in [] = none
book_in (n ∷ []) = none
book_in (n ∷ m ∷ es) =
    pick (entries_fit n && (names_fit m && eqb (length es) (2 * n)))
    (counted m (decode m (entries (take n es) (drop n es))))
    none

-- the names, as many as the book says
unfoldable pub names_in : ℕ → List ℕ → Option (List (List ℕ))
names_in m bs = pick (counts m (names_of bs)) (names_of bs) none

-- opens every definition of this file, for an example that computes
unfoldable pub open_input : Unit {0}
unfolding counted book_in names_in
open_input = tt
