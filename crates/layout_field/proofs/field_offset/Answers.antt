use borrow.Author.Rules.{rules}
use native.Mathlib.Omega.{arith}
use Rattle.std.proofs.lemmas.Result.{err_from_is_err_and}
use Rattle.book.specs.Entry.{entries}
use Rattle.layout_memo.specs.FieldCalls as fields
use Rattle.layout_field.specs.Offsets as laws
use Rattle.layout_field.proofs.field_offset.Goals as goal

pub loop-at-init : goal.loop-at-init
loop-at-init c =
    laws.offset_start c.args.names c.args.kinds.now c.args.words.now
    (entries c.args.book_kinds.now c.args.book_words.now) c.args.work.now c.args.packed c.args.index c.args.offset
    c.requires

pub bounds-kinds-at : goal.bounds-kinds-at
bounds-kinds-at c =
    let h = fields.place_kinds c.args.names c.args.kinds.now c.args.words.now _ c.loop-at.invariant.place in
    search rules

pub offset_bounds-kinds-at-in-loop-at : goal.offset_bounds-kinds-at-in-loop-at
offset_bounds-kinds-at-in-loop-at c =
    omega (arith, fields.place_few c.args.names c.args.kinds.now c.args.words.now _ c.loop-at.invariant.place)

pub slice_bounds-ks-count : goal.slice_bounds-ks-count
slice_bounds-ks-count c =
    let h = fields.place_kinds c.args.names c.args.kinds.now c.args.words.now _ c.loop-at.invariant.place in
    search rules

pub slice_bounds-ks-start : goal.slice_bounds-ks-start
slice_bounds-ks-start c =
    let h = fields.place_kinds c.args.names c.args.kinds.now c.args.words.now _ c.loop-at.invariant.place in
    search rules

pub offset_bounds-words-at : goal.offset_bounds-words-at
offset_bounds-words-at c =
    omega (arith, fields.place_few c.args.names c.args.kinds.now c.args.words.now _ c.loop-at.invariant.place)

pub slice_bounds-ws-count : goal.slice_bounds-ws-count
slice_bounds-ws-count c =
    let h = fields.place_words c.args.names c.args.kinds.now c.args.words.now _ c.loop-at.invariant.place in
    search rules

pub slice_bounds-ws-start : goal.slice_bounds-ws-start
slice_bounds-ws-start c =
    let h = fields.place_words c.args.names c.args.kinds.now c.args.words.now _ c.loop-at.invariant.place in
    search rules

pub field_start-requires : goal.field_start-requires
field_start-requires c =
    laws.offset_ask c.args.names c.args.kinds.now c.args.words.now
    (entries c.args.book_kinds.now c.args.book_words.now) c.args.work.now c.args.packed c.args.index c.args.offset
    c.loop-at.invariant c.loop-at-test.true

pub returns-in_err-start : goal.returns-in_err-start
returns-in_err-start c =
    let p = err_from_is_err_and c.from_residual.result c.from_residual.ensures.1 in
    rw (p.1, p.2)
    (laws.offset_refused c.args.names c.args.kinds.now c.args.words.now
    (entries c.args.book_kinds.now c.args.book_words.now) c.args.work.now c.args.packed c.args.index c.args.offset
    c.loop-at.invariant c.loop-at-test.true c.field_start.ensures _ c.in_err-start.was)

pub returns-then-left-eq0 : goal.returns-then-left-eq0
returns-then-left-eq0 c =
    laws.offset_here c.args.names c.args.kinds.now c.args.words.now
    (entries c.args.book_kinds.now c.args.book_words.now) c.args.work.now c.args.packed c.args.index c.args.offset
    c.loop-at.invariant c.loop-at-test.true c.field_start.ensures _ c.in_ok-start.was c.if-left-eq0.true

pub size_of-requires : goal.size_of-requires
size_of-requires c =
    laws.size_ask c.args.names c.args.kinds.now c.args.words.now
    (entries c.args.book_kinds.now c.args.book_words.now) c.args.work.now c.args.packed c.args.index c.args.offset
    c.loop-at.invariant c.loop-at-test.true c.field_start.ensures _ c.in_ok-start.was

pub returns-in_err-size : goal.returns-in_err-size
returns-in_err-size c =
    let p = err_from_is_err_and c.from_residual-in_err-size.result c.from_residual-in_err-size.ensures.1 in
    rw (p.1, p.2)
    (laws.offset_size_refused c.args.names c.args.kinds.now c.args.words.now
    (entries c.args.book_kinds.now c.args.book_words.now) c.args.work.now c.args.packed c.args.index c.args.offset
    c.loop-at.invariant c.loop-at-test.true c.field_start.ensures _ c.in_ok-start.was c.if-left-eq0.false
    c.size_of.ensures _ c.in_err-size.was)

pub overflow_add-taken : goal.overflow_add-taken
overflow_add-taken c =
    omega (
      arith,
      laws.offset_fits c.args.names c.args.kinds.now c.args.words.now
          (entries c.args.book_kinds.now c.args.book_words.now) c.args.work.now c.args.packed
          c.args.index c.args.offset c.loop-at.invariant c.loop-at-test.true c.field_start.ensures _ c.in_ok-start.was
          c.if-left-eq0.false c.size_of.ensures _ _ c.in_ok-size.was,
    )

pub type_end-requires : goal.type_end-requires
type_end-requires c =
    fields.place_starts c.args.names c.args.kinds.now c.args.words.now _ c.loop-at.invariant.place c.loop-at-test.true

pub overflow_add-behind : goal.overflow_add-behind
overflow_add-behind c =
    omega (
      arith,
      fields.next_few c.args.names c.args.kinds.now c.args.words.now _ c.loop-at.invariant.place
          c.loop-at-test.true _ c.type_end.ensures,
    )

pub overflow_sub-left : goal.overflow_sub-left
overflow_sub-left c = let z = c.if-left-eq0.false in search rules

pub pass_scalars-run-requires : goal.pass_scalars-run-requires
pass_scalars-run-requires c =
    let next = laws.offset_next c.args.names c.args.kinds.now c.args.words.now
    (entries c.args.book_kinds.now c.args.book_words.now) c.args.work.now c.args.packed c.args.index c.args.offset
    c.loop-at.invariant c.loop-at-test.true c.field_start.ensures _ c.in_ok-start.was c.if-left-eq0.false
    c.size_of.ensures _ _ c.in_ok-size.was _ c.type_end.ensures in
    laws.offset_from_lem c.args.names c.args.kinds.now c.args.words.now
    (entries c.args.book_kinds.now c.args.book_words.now) c.args.work.now c.args.packed c.args.index c.args.offset
    next _ c.fields_left-next.ensures

pub loop-at-smaller : goal.loop-at-smaller
loop-at-smaller c =
    let h = fields.place_kinds c.args.names c.args.kinds.now c.args.words.now _ c.loop-at.invariant.place in
    let g = fields.place_moves c.args.names c.args.kinds.now c.args.words.now _ c.loop-at.invariant.place
    c.loop-at-test.true _ c.type_end.ensures in
    omega (arith, laws.left_on _ _ c.fields_left-next.ensures c.pass_scalars-run.ensures)

pub loop-at-preserved : goal.loop-at-preserved
loop-at-preserved c =
    let next = laws.offset_next c.args.names c.args.kinds.now c.args.words.now
    (entries c.args.book_kinds.now c.args.book_words.now) c.args.work.now c.args.packed c.args.index c.args.offset
    c.loop-at.invariant c.loop-at-test.true c.field_start.ensures _ c.in_ok-start.was c.if-left-eq0.false
    c.size_of.ensures _ _ c.in_ok-size.was _ c.type_end.ensures in
    laws.offset_again c.args.names c.args.kinds.now c.args.words.now
    (entries c.args.book_kinds.now c.args.book_words.now) c.args.work.now c.args.packed c.args.index c.args.offset
    next _ c.fields_left-next.ensures _ c.pass_scalars-run.ensures

pub returns : goal.returns
returns c =
    laws.offset_none c.args.names c.args.kinds.now c.args.words.now
    (entries c.args.book_kinds.now c.args.book_words.now) c.args.work.now c.args.packed c.args.index c.args.offset
    c.loop-at.invariant c.loop-at-test.false
