-- `book_values::listed_len` meets its contract: two entries that are the item are told as such.
use mathlib.Core.Path.{◌∙◌, sym}
use Rattle.book_values.specs.Pairs.{two_found}
use Rattle.book_values.proofs.listed_len.Goals as goal

pub returns-then-two_entries : goal.returns-then-two_entries
returns-then-two_entries c =
    let a = c.args in
    two_found a.names a.kinds.now a.words.now c.if-kinds-gt1.true c.if-words-gt1.true a.item
    (sym c.two_entries.ensures ∙ c.if-two_entries.true)
