-- The entries of this program are a book.
use Rattle.std.specs.Prelude.{◌≤◌, ◌^◌, ◌≡◌, refl, true, length}
use Rattle.std.proofs.Common.{arith}
use Rattle.numbers.specs.Open.{open_numbers}
use Rattle.book.specs.Open.{open_book}
use Rattle.book.specs.Entry.{entries}
use Rattle.book.specs.Decode.{decode}
use Rattle.book_types.specs.Laws.{length_entries}
use Rattle.layout_memo.specs.Structs.{IsBook}
use Rattle.try_layout.specs.Book.{kinds, words}
use Rattle.try_layout.specs.Laws.{found, is_book_lem}

decodes : found (decode 72 (entries kinds words)) ≡ true
unfolding open_book open_numbers kinds words
decodes = refl

few : length (entries kinds words) ≤ 2 ^ 20
unfolding kinds
few = let a = length_entries kinds words in let b : length kinds ≡ 944 = refl in omega arith

pub this_book : IsBook 72 (entries kinds words)
this_book = is_book_lem 72 (entries kinds words) decodes few
