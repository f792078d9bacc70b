-- An input that is whole is a book and its names; any other is a 1.
use native.Mathlib.Omega.{arith}
use Rattle.lines.proofs.Showing.{longer_shown, cut_shown, book_shown}
use Rattle.lines.proofs.show_input.Goals as goal

pub returns-then-bytes-gt65536 : goal.returns-then-bytes-gt65536
returns-then-bytes-gt65536 c = longer_shown _ _ _ _ _ _ (omega arith) c.put_refusal.ensures

pub returns-then-bytes-lt16 : goal.returns-then-bytes-lt16
returns-then-bytes-lt16 c = cut_shown _ _ _ _ _ _ (omega arith) (omega arith) c.put_refusal-then-bytes-lt16.ensures

pub returns-then-bytes-entries : goal.returns-then-bytes-entries
returns-then-bytes-entries c = cut_shown _ _ _ _ _ _ (omega arith) (omega arith) c.put_refusal-then-bytes-entries.ensures

pub returns : goal.returns
returns c =
    book_shown _ _ _ _ _ _ _ c.requires.in_bounds_2 _ _ (omega (arith, c.read_word-entries.ensures)) (omega arith) (omega (arith, c.read_word-entries.ensures))
    c.read_words.ensures c.show_book.ensures
