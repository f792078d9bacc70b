use mathlib.Core.Path.{◌∙◌}
use native.Mathlib.Omega.{arith}
use Rattle.book.specs.Entry.{entries}
use Rattle.book_parts.specs.Maps.{parts_few}
use Rattle.book_parts.proofs.+maps_len.Goals as goal

pub returns : goal.returns
returns t c =
    let a = c.args in
    c.sized_len-2.ensures ∙ parts_few a.names (omega arith) (entries a.kinds.now a.words.now) a.from a.to (omega arith)
