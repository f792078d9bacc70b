-- `layout_table::starts::start_at` meets its contract.
use Rattle.layout_table.specs.Starts as laws
use Rattle.layout_field.specs.Offsets.{start_packed}
use Rattle.std.proofs.lemmas.Result.{err_from_is_err_and}
use borrow.Author.Rules.{rules}
use Rattle.layout_table.proofs.starts.start_at.Goals as goal

pub returns-then-packed : goal.returns-then-packed
returns-then-packed c = start_packed _ _ _ _ _ _ c.requires c.if-packed.true

pub offset_bounds-book_kinds-place : goal.offset_bounds-book_kinds-place
offset_bounds-book_kinds-place c =
    let h = laws.type_kinds _ _ (laws.type_ask _ _ c.args.place c.requires) in
    search rules

pub slice_bounds-ks-count : goal.slice_bounds-ks-count
slice_bounds-ks-count c =
    let h = laws.type_kinds _ _ (laws.type_ask _ _ c.args.place c.requires) in
    search rules

pub slice_bounds-ks-start : goal.slice_bounds-ks-start
slice_bounds-ks-start c =
    let h = laws.type_kinds _ _ (laws.type_ask _ _ c.args.place c.requires) in
    search rules

pub offset_bounds-book_words-place : goal.offset_bounds-book_words-place
offset_bounds-book_words-place c =
    let h = laws.type_words _ _ (laws.type_ask _ _ c.args.place c.requires) in
    search rules

pub slice_bounds-ws-count : goal.slice_bounds-ws-count
slice_bounds-ws-count c =
    let h = laws.type_words _ _ (laws.type_ask _ _ c.args.place c.requires) in
    search rules

pub slice_bounds-ws-start : goal.slice_bounds-ws-start
slice_bounds-ws-start c =
    let h = laws.type_words _ _ (laws.type_ask _ _ c.args.place c.requires) in
    search rules

pub field_start-requires : goal.field_start-requires
field_start-requires c =
    laws.start_ask _ _ c.args.place c.requires

pub returns-then-not-may_be_long : goal.returns-then-not-may_be_long
returns-then-not-may_be_long c =
    laws.start_part _ _ _ _ _ _ _ c.requires c.field_start.ensures

pub placed-requires : goal.placed-requires
placed-requires c =
    laws.noted_small _ _ _ _ _ _ _ c.requires c.if-packed.false _ c.in-Some.ensures

pub returns-in-Some : goal.returns-in-Some
returns-in-Some c =
    laws.start_noted _ _ _ _ _ _ _ c.requires c.if-packed.false _ c.in-Some.ensures _ c.placed.ensures

pub align_of-requires : goal.align_of-requires
align_of-requires c =
    (laws.start_ask _ _ c.args.place c.requires).ask

pub note_long-requires : goal.note_long-requires
note_long-requires c =
    laws.measured_note _ _ _ _ _ _ _ c.requires c.if-packed.false _ c.align_of.ensures _ _ c.in_ok-align.was

pub placed-requires-2 : goal.placed-requires-2
placed-requires-2 c =
    laws.measured_small _ _ _ _ _ _ _ c.requires c.if-packed.false _ c.align_of.ensures _ _ c.in_ok-align.was

pub returns-in_err-align : goal.returns-in_err-align
returns-in_err-align c =
    let p = err_from_is_err_and c.from_residual.result c.from_residual.ensures.1 in
    rw (p.1, p.2)
    (laws.measured_refused _ _ _ _ _ _ _ c.requires c.if-packed.false _ c.align_of.ensures _ c.in_err-align.was)

pub returns : goal.returns
returns c =
    laws.measured_start _ _ _ _ _ _ _ c.requires c.if-packed.false _ c.align_of.ensures _ _ c.in_ok-align.was c.note_long.ensures _ c.placed-2.ensures
