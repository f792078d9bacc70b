-- `book_values::atom_len` meets its contract: the entry in front decides.
use mathlib.Core.Path.{◌∙◌, sym, ap}
use lib.Dec.{eqb}
use Rattle.std.specs.Bool.{then_some}
use Rattle.book_types.specs.Found.{found}
use Rattle.book_values.specs.Items.{atom_front}
use Rattle.book_values.specs.ItemLaws as items
use Rattle.book_values.proofs.atom_len.Goals as goal

pub returns-in_err-kind : goal.returns-in_err-kind
returns-in_err-kind c =
    let a = c.args in
    c.from_residual.ensures ∙ ap (atom_front a.names a.atom) c.in_err-kind.ensures ∙ sym (items.atom_front_lem a.names a.atom _)

pub returns : goal.returns
returns c =
    let a = c.args in
    c.then_some.ensures ∙ ap (λ b. then_some b (found 1 (eqb c.in_ok-kind.kind 37))) c.atom_ok.ensures
    ∙ ap (atom_front a.names a.atom) c.in_ok-kind.ensures ∙ sym (items.atom_front_lem a.names a.atom _)
