-- `book_check::check_book` meets its contract: there is a book exactly where one is read.
use mathlib.Core.Path.{◌∙◌, ap}
use Rattle.std.specs.Prelude.{is_some}
use Rattle.book.specs.Input.{book_in}
use Rattle.book_check.specs.Whole as whole
use Rattle.book_check.proofs.check_book.Goals as goal

pub returns : goal.returns
returns c =
    c.is_some.ensures ∙ ap is_some c.read_book.ensures ∙ whole.book_there (whole.barred_range 0 0) (book_in c.args.book.now)
