-- `book_insts::field_len` meets its contract: each arm reads what its field is.
use mathlib.Core.Path.{◌∙◌, sym, ap}
use Rattle.std.specs.Prelude.{Some, None}
use Rattle.book.specs.Entry.{entries}
use Rattle.book.specs.Fields.{Item}
use Rattle.book.specs.Decode.{type, item, field}
use Rattle.book.specs.Forbidden.{other_item, other_field}
use Rattle.book_types.specs.Found.{found_of}
use Rattle.book_types.specs.Passes as passes
use Rattle.book_insts.specs.Insts.{field_by}
use Rattle.book_insts.proofs.field_len.Goals as goal

pub returns-in-Value : goal.returns-in-Value
unfolding field item
returns-in-Value c =
    let a = c.args in
    c.atom_len.ensures ∙ ap
    (λ d. found_of (other_field (field_by d)) (field a.names (field_by d) (entries a.kinds.now a.words.now)))
    (sym c.in-Value.is)

pub returns-in-Block : goal.returns-in-Block
unfolding field
returns-in-Block c =
    let a = c.args in
    c.item_len.ensures ∙ ap (λ d. found_of (other_field (field_by d)) (field a.names (field_by d) (entries a.kinds.now a.words.now))) (sym c.in-Block.is)

pub returns-in-Index : goal.returns-in-Index
unfolding field
returns-in-Index c =
    let a = c.args in
    c.item_len-in-Index.ensures ∙ ap (λ d. found_of (other_field (field_by d)) (field a.names (field_by d) (entries a.kinds.now a.words.now))) (sym c.in-Index.is)

pub returns-in-Align : goal.returns-in-Align
unfolding field
returns-in-Align c =
    let a = c.args in
    c.optional_len.ensures ∙ ap (λ d. found_of (other_field (field_by d)) (field a.names (field_by d) (entries a.kinds.now a.words.now))) (sym c.in-Align.is)

pub returns-in-SomeTyped : goal.returns-in-SomeTyped
unfolding field
returns-in-SomeTyped c =
    let a = c.args in
    c.optional_len-in-SomeTyped.ensures ∙ ap (λ d. found_of (other_field (field_by d)) (field a.names (field_by d) (entries a.kinds.now a.words.now))) (sym c.in-SomeTyped.is)

pub returns-in-SomeValue : goal.returns-in-SomeValue
unfolding field
returns-in-SomeValue c =
    let a = c.args in
    c.optional_len-in-SomeValue.ensures ∙ ap (λ d. found_of (other_field (field_by d)) (field a.names (field_by d) (entries a.kinds.now a.words.now))) (sym c.in-SomeValue.is)

pub returns-in-SomeBlock : goal.returns-in-SomeBlock
unfolding field
returns-in-SomeBlock c =
    let a = c.args in
    c.optional_len-in-SomeBlock.ensures ∙ ap (λ d. found_of (other_field (field_by d)) (field a.names (field_by d) (entries a.kinds.now a.words.now))) (sym c.in-SomeBlock.is)

pub returns-in-GepIndices : goal.returns-in-GepIndices
unfolding field
returns-in-GepIndices c =
    let a = c.args in
    c.list_len.ensures ∙ ap (λ d. found_of (other_field (field_by d)) (field a.names (field_by d) (entries a.kinds.now a.words.now))) (sym c.in-GepIndices.is)

pub returns-in-Incoming : goal.returns-in-Incoming
unfolding field
returns-in-Incoming c =
    let a = c.args in
    passes.listed (other_item Item.incoming) (item a.names Item.incoming) (entries a.kinds.now a.words.now) _ _ c.list_len-in-Incoming.ensures
    c.shorter.ensures ∙ ap
    (λ d. found_of (other_field (field_by d)) (field a.names (field_by d) (entries a.kinds.now a.words.now)))
    (sym c.in-Incoming.is)

pub returns-in-Arguments : goal.returns-in-Arguments
unfolding field
returns-in-Arguments c =
    let a = c.args in
    passes.listed (other_item Item.typed) (item a.names Item.typed) (entries a.kinds.now a.words.now) _ _ c.list_len-in-Arguments.ensures
    c.shorter-in-Arguments.ensures ∙ ap
    (λ d. found_of (other_field (field_by d)) (field a.names (field_by d) (entries a.kinds.now a.words.now)))
    (sym c.in-Arguments.is)

pub returns-in-Cases : goal.returns-in-Cases
unfolding field
returns-in-Cases c =
    let a = c.args in
    passes.listed (other_item Item.case) (item a.names Item.case) (entries a.kinds.now a.words.now) _ _ c.list_len-in-Cases.ensures
    c.shorter-in-Cases.ensures ∙ ap
    (λ d. found_of (other_field (field_by d)) (field a.names (field_by d) (entries a.kinds.now a.words.now)))
    (sym c.in-Cases.is)

pub returns-in_err-type_len-in-Type : goal.returns-in_err-type_len-in-Type
unfolding field item
returns-in_err-type_len-in-Type c =
    let a = c.args in
    c.from_residual.ensures ∙ passes.plain_is (type a.names (entries a.kinds.now a.words.now)) None c.in_err-type_len-in-Type.ensures ∙ ap
    (λ d. found_of (other_field (field_by d)) (field a.names (field_by d) (entries a.kinds.now a.words.now)))
    (sym c.in-Type.is)

pub returns-in_ok-type_len-in-Type : goal.returns-in_ok-type_len-in-Type
unfolding field item
returns-in_ok-type_len-in-Type c =
    let a = c.args in
    ap Some c.plain.ensures ∙ passes.plain_is (type a.names (entries a.kinds.now a.words.now)) (Some c.in_ok-type_len-in-Type.field-0) c.in_ok-type_len-in-Type.ensures ∙ ap
    (λ d. found_of (other_field (field_by d)) (field a.names (field_by d) (entries a.kinds.now a.words.now)))
    (sym c.in-Type.is)
