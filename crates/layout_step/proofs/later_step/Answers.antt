-- `layout_step::later_step` meets its contract.
use Rattle.layout_memo.specs.FieldCalls as fields
use Rattle.layout_step.specs.Steps as laws
use Rattle.std.proofs.lemmas.Result.{err_from_is_err_and}
use borrow.Author.Rules.{rules}
use Rattle.layout_step.proofs.later_step.Goals as goal

pub slice_bounds-ks-count : goal.slice_bounds-ks-count
slice_bounds-ks-count c =
    let h = fields.place_kinds _ _ _ _ (laws.behind_place _ _ _ _ _ _ c.requires) in
    search rules

pub slice_bounds-ks-start : goal.slice_bounds-ks-start
slice_bounds-ks-start c =
    let h = fields.place_kinds _ _ _ _ (laws.behind_place _ _ _ _ _ _ c.requires) in
    search rules

pub slice_bounds-ws-count : goal.slice_bounds-ws-count
slice_bounds-ws-count c =
    let h = fields.place_words _ _ _ _ (laws.behind_place _ _ _ _ _ _ c.requires) in
    search rules

pub slice_bounds-ws-start : goal.slice_bounds-ws-start
slice_bounds-ws-start c =
    let h = fields.place_words _ _ _ _ (laws.behind_place _ _ _ _ _ _ c.requires) in
    search rules

pub field_at-requires : goal.field_at-requires
field_at-requires c =
    laws.behind_front_lem _ _ _ _ _ _ c.requires

pub returns-in_default : goal.returns-in_default
returns-in_default c =
    laws.later_none _ _ _ _ _ _ c.requires c.args.packed _ _ c.field_at.ensures c.in_default.is

pub field_offset-requires : goal.field_offset-requires
field_offset-requires c =
    laws.behind_ask _ _ _ _ _ _ c.requires

pub overflow_add-result : goal.overflow_add-result
overflow_add-result c =
    let h = laws.later_fits _ _ _ _ _ _ c.requires c.args.packed _ _ c.field_at.ensures _ c.in-Some.is in
    search rules

pub returns-in_err-start : goal.returns-in_err-start
returns-in_err-start c =
    let p = err_from_is_err_and c.from_residual.result c.from_residual.ensures.1 in
    rw (p.1, p.2)
    (laws.later_refused _ _ _ _ _ _ c.requires c.args.packed _ _ c.field_at.ensures _ c.in-Some.is _ c.field_offset.ensures _ c.in_err-start.was)

pub returns : goal.returns
returns c =
    laws.later_const _ _ _ _ _ _ c.requires c.args.packed _ _ c.field_at.ensures _ c.in-Some.is _ c.field_offset.ensures _ c.in_ok-start.was
