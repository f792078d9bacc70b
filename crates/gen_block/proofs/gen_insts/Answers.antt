use native.Mathlib.Omega.{arith}
use Rattle.gen_block.specs.Body.{walk_start, walk_in, walk_inst, walk_more, walk_done}
use Rattle.gen_block.proofs.gen_insts.Goals as goal

pub loop-i-init : goal.loop-i-init
loop-i-init c =
    walk_start c.args.names c.args.kinds.now c.args.words.now c.args.book_kinds.now c.args.book_words.now
    c.args.base c.args.work.now c.args.lines.now c.args.operands.now c.args.s

pub offset_bounds-kinds-i : goal.offset_bounds-kinds-i
offset_bounds-kinds-i c =
    omega (arith, (walk_in c.args.kinds.now c.args.words.now c.args.book_kinds.now c.args.book_words.now c.loop-i.invariant c.requires).0, c.well_formed)

pub bounds-kinds-i : goal.bounds-kinds-i
bounds-kinds-i c =
    (walk_in c.args.kinds.now c.args.words.now c.args.book_kinds.now c.args.book_words.now c.loop-i.invariant c.requires).0

pub offset_bounds-kinds-i-in-loop-i : goal.offset_bounds-kinds-i-in-loop-i
offset_bounds-kinds-i-in-loop-i c =
    omega (arith, (walk_in c.args.kinds.now c.args.words.now c.args.book_kinds.now c.args.book_words.now c.loop-i.invariant c.requires).0, c.well_formed)

pub slice_bounds-gen_unless_refused-count : goal.slice_bounds-gen_unless_refused-count
slice_bounds-gen_unless_refused-count c =
    omega (arith, (walk_in c.args.kinds.now c.args.words.now c.args.book_kinds.now c.args.book_words.now c.loop-i.invariant c.requires).0)

pub slice_bounds-gen_unless_refused-start : goal.slice_bounds-gen_unless_refused-start
slice_bounds-gen_unless_refused-start c =
    omega (arith, (walk_in c.args.kinds.now c.args.words.now c.args.book_kinds.now c.args.book_words.now c.loop-i.invariant c.requires).0)

pub offset_bounds-words-i : goal.offset_bounds-words-i
offset_bounds-words-i c =
    omega (arith, (walk_in c.args.kinds.now c.args.words.now c.args.book_kinds.now c.args.book_words.now c.loop-i.invariant c.requires).1, c.well_formed)

pub slice_bounds-gen_unless_refused-count-in-loop-i : goal.slice_bounds-gen_unless_refused-count-in-loop-i
slice_bounds-gen_unless_refused-count-in-loop-i c =
    omega (arith, (walk_in c.args.kinds.now c.args.words.now c.args.book_kinds.now c.args.book_words.now c.loop-i.invariant c.requires).1)

pub slice_bounds-gen_unless_refused-start-in-loop-i : goal.slice_bounds-gen_unless_refused-start-in-loop-i
slice_bounds-gen_unless_refused-start-in-loop-i c =
    omega (arith, (walk_in c.args.kinds.now c.args.words.now c.args.book_kinds.now c.args.book_words.now c.loop-i.invariant c.requires).1)

pub overflow_add-at : goal.overflow_add-at
overflow_add-at c =
    omega (arith, (walk_in c.args.kinds.now c.args.words.now c.args.book_kinds.now c.args.book_words.now c.loop-i.invariant c.requires).2, c.well_formed)

pub gen_unless_refused-reached-requires : goal.gen_unless_refused-reached-requires
gen_unless_refused-reached-requires c =
    walk_inst c.args.kinds.now c.args.words.now c.args.book_kinds.now c.args.book_words.now c.loop-i.invariant c.requires c.loop-i-test.true

pub overflow_add-i : goal.overflow_add-i
overflow_add-i c =
    omega (arith, (walk_in c.args.kinds.now c.args.words.now c.args.book_kinds.now c.args.book_words.now c.loop-i.invariant c.requires).0, c.well_formed)

pub next_inst-i-requires : goal.next_inst-i-requires
next_inst-i-requires c =
    omega (arith, (walk_in c.args.kinds.now c.args.words.now c.args.book_kinds.now c.args.book_words.now c.loop-i.invariant c.requires).0)

pub loop-i-smaller : goal.loop-i-smaller
loop-i-smaller c =
    omega (arith, (walk_in c.args.kinds.now c.args.words.now c.args.book_kinds.now c.args.book_words.now c.loop-i.invariant c.requires).0, c.next_inst-i.ensures.from)

pub loop-i-preserved : goal.loop-i-preserved
loop-i-preserved c =
    let kept = c.gen_unless_refused-reached.auto in
    walk_more c.args.kinds.now c.args.words.now c.args.book_kinds.now c.args.book_words.now c.loop-i.invariant c.loop-i-test.true
    kept.work kept.lines kept.operands c.gen_unless_refused-reached.ensures c.next_inst-i.ensures

pub shape_of-work : goal.shape_of-work
shape_of-work c = c.loop-i.invariant.long_work

pub shape_of-lines : goal.shape_of-lines
shape_of-lines c = c.loop-i.invariant.long_lines

pub shape_of-operands : goal.shape_of-operands
shape_of-operands c = c.loop-i.invariant.long_operands

pub returns : goal.returns
returns c =
    walk_done c.args.kinds.now c.args.words.now c.args.book_kinds.now c.args.book_words.now c.loop-i.invariant c.loop-i-test.false
