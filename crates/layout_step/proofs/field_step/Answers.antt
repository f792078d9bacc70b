-- `layout_step::field_step` meets its contract.
use Rattle.layout_memo.specs.FieldCalls as fields
use Rattle.layout_step.specs.Steps as laws
use Rattle.std.proofs.lemmas.Result.{err_from_is_err_and}
use borrow.Author.Rules.{rules}
use Rattle.layout_step.proofs.field_step.Goals as goal

pub bounds-book_kinds-at : goal.bounds-book_kinds-at
bounds-book_kinds-at c =
    let h = fields.place_kinds _ _ _ _ (laws.behind_place _ _ _ _ _ _ c.requires) in
    search rules

pub returns-then-book_kinds-at-eq-END : goal.returns-then-book_kinds-at-eq-END
returns-then-book_kinds-at-eq-END c =
    laws.first_none _ _ _ _ _ _ c.requires c.args.packed c.if-book_kinds-at-eq-END.true

pub start_at-requires : goal.start_at-requires
start_at-requires c =
    laws.first_ask _ _ _ _ _ _ c.requires c.args.packed c.if-book_kinds-at-eq-END.false

pub returns-in_err-start : goal.returns-in_err-start
returns-in_err-start c =
    let p = err_from_is_err_and c.from_residual.result c.from_residual.ensures.1 in
    rw (p.1, p.2)
    (laws.first_refused _ _ _ _ _ _ c.requires c.args.packed c.if-book_kinds-at-eq-END.false _ c.start_at.ensures _ c.in_err-start.was)

pub returns : goal.returns
returns c =
    laws.first_const _ _ _ _ _ _ c.requires c.args.packed c.if-book_kinds-at-eq-END.false _ c.start_at.ensures _ c.in_ok-start.was
