use borrow.Author.Rules.{rules}
use native.Mathlib.Omega.{arith}
use Rattle.layout_memo.specs.FieldCalls as fields
use Rattle.layout_field.specs.Offsets as laws
use Rattle.layout_field.proofs.field_at.Goals as goal

pub loop-at-init : goal.loop-at-init
loop-at-init c = laws.find_start c.args.names c.args.kinds.now c.args.words.now c.args.index c.requires

pub bounds-kinds-at : goal.bounds-kinds-at
bounds-kinds-at c =
    let h = fields.place_kinds c.args.names c.args.kinds.now c.args.words.now _ c.loop-at.invariant.place in
    search rules

pub returns-then-left-eq0 : goal.returns-then-left-eq0
returns-then-left-eq0 c =
    laws.find_here c.args.names c.args.kinds.now c.args.words.now c.args.index c.loop-at.invariant
    c.loop-at-test.true c.if-left-eq0.true

pub slice_bounds-type_end-count : goal.slice_bounds-type_end-count
slice_bounds-type_end-count c =
    let h = fields.place_kinds c.args.names c.args.kinds.now c.args.words.now _ c.loop-at.invariant.place in
    search rules

pub slice_bounds-type_end-start : goal.slice_bounds-type_end-start
slice_bounds-type_end-start c =
    let h = fields.place_kinds c.args.names c.args.kinds.now c.args.words.now _ c.loop-at.invariant.place in
    search rules

pub slice_bounds-type_end-count-in-loop-at : goal.slice_bounds-type_end-count-in-loop-at
slice_bounds-type_end-count-in-loop-at c =
    let h = fields.place_words c.args.names c.args.kinds.now c.args.words.now _ c.loop-at.invariant.place in
    search rules

pub slice_bounds-type_end-start-in-loop-at : goal.slice_bounds-type_end-start-in-loop-at
slice_bounds-type_end-start-in-loop-at c =
    let h = fields.place_words c.args.names c.args.kinds.now c.args.words.now _ c.loop-at.invariant.place in
    search rules

pub type_end-requires : goal.type_end-requires
type_end-requires c =
    fields.place_starts c.args.names c.args.kinds.now c.args.words.now _ c.loop-at.invariant.place c.loop-at-test.true

pub overflow_add-behind : goal.overflow_add-behind
overflow_add-behind c =
    omega (
      arith,
      fields.next_few c.args.names c.args.kinds.now c.args.words.now _ c.loop-at.invariant.place
          c.loop-at-test.true _ c.type_end.ensures,
    )

pub pass_scalars-run-requires : goal.pass_scalars-run-requires
pass_scalars-run-requires c =
    let next = laws.find_next c.args.names c.args.kinds.now c.args.words.now c.args.index c.loop-at.invariant
    c.loop-at-test.true c.if-left-eq0.false _ c.type_end.ensures in
    laws.find_from c.args.names c.args.kinds.now c.args.words.now c.args.index next _ c.fields_left-next.ensures

pub loop-at-smaller : goal.loop-at-smaller
loop-at-smaller c =
    let h = fields.place_kinds c.args.names c.args.kinds.now c.args.words.now _ c.loop-at.invariant.place in
    let g = fields.place_moves c.args.names c.args.kinds.now c.args.words.now _ c.loop-at.invariant.place
    c.loop-at-test.true _ c.type_end.ensures in
    omega (arith, laws.left_on _ _ c.fields_left-next.ensures c.pass_scalars-run.ensures)

pub loop-at-preserved : goal.loop-at-preserved
loop-at-preserved c =
    let next = laws.find_next c.args.names c.args.kinds.now c.args.words.now c.args.index c.loop-at.invariant
    c.loop-at-test.true c.if-left-eq0.false _ c.type_end.ensures in
    laws.find_again c.args.names c.args.kinds.now c.args.words.now c.args.index next _ c.fields_left-next.ensures _
    c.pass_scalars-run.ensures

pub returns : goal.returns
returns c =
    laws.find_none c.args.names c.args.kinds.now c.args.words.now c.args.index c.loop-at.invariant
    c.loop-at-test.false
