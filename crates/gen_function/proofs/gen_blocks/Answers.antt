use native.Mathlib.Omega.{arith}
use Rattle.gen_function.specs.Blocks.{in_words, walk_start, walk_block, walk_end, walk_more, walk_refused, walk_done}
use Rattle.gen_function.proofs.gen_blocks.Goals as goal

pub next_block-at-requires : goal.next_block-at-requires
next_block-at-requires c = (c.requires.order, c.requires.in_kinds)

pub loop-at-init : goal.loop-at-init
loop-at-init c =
    walk_start c.args.names c.args.book_kinds.now c.args.book_words.now c.args.from c.args.last c.args.base
    c.args.work.now c.args.lines.now c.args.operands.now c.args.s c.next_block-at.ensures

pub shape_of-work-then-reached-ne0 : goal.shape_of-work-then-reached-ne0
shape_of-work-then-reached-ne0 c = c.loop-at.invariant.long_work

pub shape_of-lines-then-reached-ne0 : goal.shape_of-lines-then-reached-ne0
shape_of-lines-then-reached-ne0 c = c.loop-at.invariant.long_lines

pub shape_of-operands-then-reached-ne0 : goal.shape_of-operands-then-reached-ne0
shape_of-operands-then-reached-ne0 c = c.loop-at.invariant.long_operands

pub returns-then-reached-ne0 : goal.returns-then-reached-ne0
returns-then-reached-ne0 c =
    walk_refused c.args.book_kinds.now c.args.book_words.now c.loop-at.invariant c.if-reached-ne0.true

pub offset_bounds-book_kinds-at : goal.offset_bounds-book_kinds-at
offset_bounds-book_kinds-at c =
    omega (arith, c.loop-at-test.true, c.requires.in_kinds, c.well_formed)

pub slice_bounds-gen_block-count : goal.slice_bounds-gen_block-count
slice_bounds-gen_block-count c =
    omega (arith, c.loop-at-test.true, c.requires.in_kinds)

pub slice_bounds-gen_block-start : goal.slice_bounds-gen_block-start
slice_bounds-gen_block-start c =
    omega (arith, c.loop-at-test.true, c.requires.in_kinds)

pub offset_bounds-book_words-at : goal.offset_bounds-book_words-at
offset_bounds-book_words-at c =
    omega (arith, c.loop-at-test.true, in_words c.args.book_kinds.now c.args.book_words.now c.requires, c.well_formed)

pub slice_bounds-gen_block-count-in-loop-at : goal.slice_bounds-gen_block-count-in-loop-at
slice_bounds-gen_block-count-in-loop-at c =
    omega (arith, c.loop-at-test.true, in_words c.args.book_kinds.now c.args.book_words.now c.requires)

pub slice_bounds-gen_block-start-in-loop-at : goal.slice_bounds-gen_block-start-in-loop-at
slice_bounds-gen_block-start-in-loop-at c =
    omega (arith, c.loop-at-test.true, in_words c.args.book_kinds.now c.args.book_words.now c.requires)

pub gen_block-block-requires : goal.gen_block-block-requires
gen_block-block-requires c =
    walk_block c.args.book_kinds.now c.args.book_words.now c.loop-at.invariant c.requires c.loop-at-test.true

pub overflow_add-end : goal.overflow_add-end
overflow_add-end c =
    let there = walk_end c.args.book_kinds.now c.args.book_words.now c.loop-at.invariant c.loop-at-test.true c.gen_block-block.ensures c.requires in
    omega (arith, there, c.requires.in_kinds, c.well_formed)

pub overflow_add-end-in-loop-at : goal.overflow_add-end-in-loop-at
overflow_add-end-in-loop-at c =
    let there = walk_end c.args.book_kinds.now c.args.book_words.now c.loop-at.invariant c.loop-at-test.true c.gen_block-block.ensures c.requires in
    omega (arith, there, c.requires.in_kinds, c.well_formed)

pub next_block-at-requires-in-loop-at : goal.next_block-at-requires-in-loop-at
next_block-at-requires-in-loop-at c =
    let there = walk_end c.args.book_kinds.now c.args.book_words.now c.loop-at.invariant c.loop-at-test.true c.gen_block-block.ensures c.requires in
    (omega (arith, there), c.requires.in_kinds)

pub loop-at-smaller : goal.loop-at-smaller
loop-at-smaller c =
    omega (arith, c.next_block-at-in-loop-at.ensures.from, c.loop-at-test.true)

pub loop-at-preserved : goal.loop-at-preserved
loop-at-preserved c =
    let kept = c.gen_block-block.auto in
    walk_more c.args.book_kinds.now c.args.book_words.now c.loop-at.invariant c.loop-at-test.true c.gen_block-block.ensures
    kept.work kept.lines kept.operands c.next_block-at-in-loop-at.ensures

pub shape_of-work : goal.shape_of-work
shape_of-work c = c.loop-at.invariant.long_work

pub shape_of-lines : goal.shape_of-lines
shape_of-lines c = c.loop-at.invariant.long_lines

pub shape_of-operands : goal.shape_of-operands
shape_of-operands c = c.loop-at.invariant.long_operands

pub returns : goal.returns
returns c =
    walk_done c.args.book_kinds.now c.args.book_words.now c.loop-at.invariant c.loop-at-test.false
