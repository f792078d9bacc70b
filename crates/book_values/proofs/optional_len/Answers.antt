-- `book_values::optional_len` meets its contract: kind 21 is none, and else an item is read.
use mathlib.Core.Path.{◌∙◌, ap}
use lib.Dec.{eqb}
use Rattle.std.specs.Bool.{then_some}
use Rattle.book.specs.Decode.{item}
use Rattle.book.specs.Forbidden.{other_item}
use Rattle.book_values.specs.Items.{item_of}
use Rattle.book_values.specs.ItemLaws as items
use Rattle.book_values.proofs.optional_len.Goals as goal

pub returns-in_err-kind : goal.returns-in_err-kind
returns-in_err-kind c =
    let a = c.args in
    c.from_residual.ensures ∙ items.absent_none (other_item (item_of a.item)) (item a.names (item_of a.item)) _ c.in_err-kind.ensures

pub returns-then-kind-eq-ABSENT : goal.returns-then-kind-eq-ABSENT
returns-then-kind-eq-ABSENT c =
    let a = c.args in
    c.then_some.ensures ∙ ap (then_some (eqb c.in_ok-kind.word 0)) c.plain.ensures
    ∙ items.absent_is (other_item (item_of a.item)) (item a.names (item_of a.item)) _ _ _ c.in_ok-kind.ensures c.if-kind-eq-ABSENT.true

pub returns : goal.returns
returns c =
    let a = c.args in
    c.item_len.ensures
    ∙ items.absent_not (other_item (item_of a.item)) (item a.names (item_of a.item)) _ _ _ c.in_ok-kind.ensures c.if-kind-eq-ABSENT.false
