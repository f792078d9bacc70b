-- `book_check::read_book` meets its contract: the counts and the length are the slice's, and the entries a book's.
use mathlib.Core.Path.{◌∙◌, ap}
use native.Mathlib.Omega.{arith}
use lib.ListN.{get_or}
use Rattle.book.specs.Decode.{decode}
use Rattle.book_check.specs.Whole.{reading_of, barred_range}
use Rattle.book_check.specs.Whole as whole
use Rattle.book_check.proofs.read_book.Goals as goal

pub returns-then-book-lt2 : goal.returns-then-book-lt2
returns-then-book-lt2 c =
    let a = c.args in
    whole.slice_short (barred_range a.from a.to) a.book.now c.if-book-lt2.true

pub returns-then-n-gt-MOST_ENTRIES : goal.returns-then-n-gt-MOST_ENTRIES
returns-then-n-gt-MOST_ENTRIES c =
    let a = c.args in
    whole.slice_entries (barred_range a.from a.to) a.book.now c.if-book-lt2.false c.if-n-gt-MOST_ENTRIES.true

pub returns-then-names-gt-MOST_NAMES : goal.returns-then-names-gt-MOST_NAMES
returns-then-names-gt-MOST_NAMES c =
    let a = c.args in
    whole.slice_names (barred_range a.from a.to) a.book.now c.if-book-lt2.false c.if-n-gt-MOST_ENTRIES.false c.if-names-gt-MOST_NAMES.true

pub returns-then-book-words : goal.returns-then-book-words
returns-then-book-words c =
    let a = c.args in
    whole.slice_long (barred_range a.from a.to) a.book.now c.if-book-lt2.false c.if-n-gt-MOST_ENTRIES.false c.if-names-gt-MOST_NAMES.false
    (λ e. c.if-book-words.true (omega arith))

pub returns : goal.returns
returns c =
    let a = c.args in
    whole.slice_ok (barred_range a.from a.to) a.book.now c.if-book-lt2.false c.if-n-gt-MOST_ENTRIES.false c.if-names-gt-MOST_NAMES.false
    (omega (arith, c.if-book-words.false)) _
    (c.read_entries.ensures ∙ ap (λ es. reading_of (barred_range a.from a.to) (decode (get_or a.book.now 1 0) es))
    (whole.slice_parts (barred_range a.from a.to) a.book.now c.if-book-lt2.false c.if-n-gt-MOST_ENTRIES.false c.if-names-gt-MOST_NAMES.false
    (omega (arith, c.if-book-words.false))))
