-- `book_values::item_len` meets its contract: each arm reads what its item is.
use mathlib.Core.Path.{◌∙◌, sym, ap}
use Rattle.std.specs.Prelude.{Some, None}
use Rattle.book.specs.Entry.{entries}
use Rattle.book.specs.Decode.{type, item}
use Rattle.book.specs.Forbidden.{other_item}
use Rattle.book_types.specs.Found.{found_of}
use Rattle.book_values.specs.Items.{item_of}
use Rattle.book_types.specs.Passes as passes
use Rattle.book_values.specs.ItemLaws as items
use Rattle.book_values.proofs.item_len.Goals as goal

pub returns-in_err-type_len-in-Type : goal.returns-in_err-type_len-in-Type
unfolding item
returns-in_err-type_len-in-Type c =
    let a = c.args in
    c.from_residual.ensures ∙ passes.plain_is (type a.names (entries a.kinds.now a.words.now)) None c.in_err-type_len-in-Type.ensures ∙ ap
    (λ i. found_of (other_item (item_of i)) (item a.names (item_of i) (entries a.kinds.now a.words.now)))
    (sym c.in-Type.is)

pub returns-in_ok-type_len-in-Type : goal.returns-in_ok-type_len-in-Type
unfolding item
returns-in_ok-type_len-in-Type c =
    let a = c.args in
    ap Some c.plain.ensures ∙ passes.plain_is (type a.names (entries a.kinds.now a.words.now)) (Some c.in_ok-type_len-in-Type.field-0) c.in_ok-type_len-in-Type.ensures ∙ ap
    (λ i. found_of (other_item (item_of i)) (item a.names (item_of i) (entries a.kinds.now a.words.now)))
    (sym c.in-Type.is)

pub returns-in-Value : goal.returns-in-Value
unfolding item
returns-in-Value c =
    let a = c.args in
    c.atom_len.ensures ∙ ap
    (λ i. found_of (other_item (item_of i)) (item a.names (item_of i) (entries a.kinds.now a.words.now)))
    (sym c.in-Value.is)

pub returns-in-Block : goal.returns-in-Block
unfolding item
returns-in-Block c =
    let a = c.args in
    c.atom_len-in-Block.ensures ∙ ap
    (λ i. found_of (other_item (item_of i)) (item a.names (item_of i) (entries a.kinds.now a.words.now)))
    (sym c.in-Block.is)

pub returns-in-Index : goal.returns-in-Index
unfolding item
returns-in-Index c =
    let a = c.args in
    c.atom_len-in-Index.ensures ∙ ap
    (λ i. found_of (other_item (item_of i)) (item a.names (item_of i) (entries a.kinds.now a.words.now)))
    (sym c.in-Index.is)

pub returns-in-Align : goal.returns-in-Align
unfolding item
returns-in-Align c =
    let a = c.args in
    c.atom_len-in-Align.ensures ∙ ap
    (λ i. found_of (other_item (item_of i)) (item a.names (item_of i) (entries a.kinds.now a.words.now)))
    (sym c.in-Align.is)

pub returns-in-Typed : goal.returns-in-Typed
unfolding item
returns-in-Typed c =
    let a = c.args in
    c.typed_len.ensures ∙ items.typed_pair a.names (entries a.kinds.now a.words.now) ∙ ap
    (λ i. found_of (other_item (item_of i)) (item a.names (item_of i) (entries a.kinds.now a.words.now)))
    (sym c.in-Typed.is)

pub returns-in-GepIndex : goal.returns-in-GepIndex
unfolding item
returns-in-GepIndex c =
    let a = c.args in
    c.typed_len-in-GepIndex.ensures ∙ items.index_pair a.names (entries a.kinds.now a.words.now) ∙ ap
    (λ i. found_of (other_item (item_of i)) (item a.names (item_of i) (entries a.kinds.now a.words.now)))
    (sym c.in-GepIndex.is)

pub returns-in-Incoming : goal.returns-in-Incoming
unfolding item
returns-in-Incoming c =
    let a = c.args in
    c.pair_len.ensures ∙ items.incoming_pair a.names (entries a.kinds.now a.words.now) ∙ ap
    (λ i. found_of (other_item (item_of i)) (item a.names (item_of i) (entries a.kinds.now a.words.now)))
    (sym c.in-Incoming.is)

pub returns-in-Case : goal.returns-in-Case
unfolding item
returns-in-Case c =
    let a = c.args in
    c.pair_len-in-Case.ensures ∙ items.case_pair a.names (entries a.kinds.now a.words.now) ∙ ap
    (λ i. found_of (other_item (item_of i)) (item a.names (item_of i) (entries a.kinds.now a.words.now)))
    (sym c.in-Case.is)

pub returns-in-Param : goal.returns-in-Param
unfolding item
returns-in-Param c =
    let a = c.args in
    c.param_len.ensures ∙ items.param_pair a.names (entries a.kinds.now a.words.now) ∙ ap
    (λ i. found_of (other_item (item_of i)) (item a.names (item_of i) (entries a.kinds.now a.words.now)))
    (sym c.in-Param.is)
