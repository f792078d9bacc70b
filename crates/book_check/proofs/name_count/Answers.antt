-- `book_check::name_count` meets its contract: past the end of a slice there is 0.
use Rattle.book_check.specs.Verdict as verdict
use Rattle.book_check.proofs.name_count.Goals as goal

pub returns-then-book-lt2 : goal.returns-then-book-lt2
returns-then-book-lt2 c = verdict.no_count c.args.book.now c.if-book-lt2.true
