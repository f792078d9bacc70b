-- `book_check::read_entries` meets its contract: the parts take all entries.
use mathlib.Core.Path.{refl, ◌∙◌, ap}
use lib.Dec.{eqb}
use Rattle.std.specs.Bool.{then_some}
use Rattle.std.specs.Prelude.{Some, None}
use Rattle.book.specs.Entry.{entries}
use Rattle.book_check.specs.Whole.{barred_range}
use Rattle.book_check.specs.Whole as whole
use Rattle.book_check.proofs.read_entries.Goals as goal

pub returns-in_err-found : goal.returns-in_err-found
returns-in_err-found c =
    let a = c.args in
    c.from_residual.ensures ∙ whole.reading_bad a.names c.requires (barred_range a.from a.to) (whole.range_size a.from a.to)
    (entries a.kinds.now a.words.now) None c.in_err-found.ensures refl

pub returns : goal.returns
returns c =
    let a = c.args in
    c.then_some.ensures ∙ ap (λ n. then_some (eqb c.in_ok-found.found.entries n) c.in_ok-found.found.barred) c.shorter.ensures
    ∙ whole.reading_whole a.names c.requires (barred_range a.from a.to) (whole.range_size a.from a.to)
    (entries a.kinds.now a.words.now) (Some c.in_ok-found.found) c.in_ok-found.ensures c.in_ok-found.found refl
