-- `print::print` meets its contract: what is no book is refused with 1, and a book is printed.
use Rattle.print.specs.Reply.{prints_both}
use Rattle.print.specs.Any.{is_booked, no_book}
use Rattle.print.proofs.print.Goals as goal

pub returns-then-not-check_book : goal.returns-then-not-check_book
returns-then-not-check_book c =
    let a = c.args in
    let p = prints_both _ _ _ _ _ (no_book _ _ c.check_book.ensures a.names.now a.line_kinds.now a.operands.now a.text.now c.if-not-check_book.true) in
    record { print_answer = p.0; numbered = p.1 }

pub print_booked-requires : goal.print_booked-requires
print_booked-requires c = is_booked _ _ c.check_book.ensures c.if-not-check_book.false

pub returns : goal.returns
returns c =
    let p = prints_both _ _ _ _ _ c.print_booked.ensures in
    record { print_answer = p.0; numbered = p.1 }
