-- `book_parts::ranged_len` meets its contract: the names of the range are marked first.
use mathlib.Core.Path.{◌∙◌, ap}
use Rattle.book.specs.Entry.{entries}
use Rattle.book.specs.Decode.{parts}
use Rattle.book_parts.specs.Reading.{marks_found}
use Rattle.book_parts.proofs.ranged_len.Goals as goal

pub returns : goal.returns
returns c =
    let a = c.args in
    c.marks_len.ensures
    ∙ ap (λ b. marks_found a.named.now a.defined.now a.marked.now b (parts a.names (entries a.kinds.now a.words.now))) c.mark_range.ensures
