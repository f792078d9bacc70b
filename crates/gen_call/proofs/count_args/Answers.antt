use Rattle.std.proofs.Common.{arith}
use Rattle.gen_call.specs.Args as laws
use Rattle.gen_call.proofs.count_args.Goals as goal

pub loop-at-init : goal.loop-at-init
loop-at-init c =
    laws.count_start c.args.kinds.now c.args.words.now

pub offset_bounds-kinds-at : goal.offset_bounds-kinds-at
offset_bounds-kinds-at c =
    let ks = c.args.kinds.now in
    let ws = c.args.words.now in
    let at = c.loop-at.at in
    let left = laws.count_left ks ws at c.loop-at.args c.loop-at.invariant c.requires in
    omega (arith, laws.lent_in ks ws at left, c.well_formed)

pub bounds-kinds-at : goal.bounds-kinds-at
bounds-kinds-at c =
    let ks = c.args.kinds.now in
    let ws = c.args.words.now in
    let at = c.loop-at.at in
    let left = laws.count_left ks ws at c.loop-at.args c.loop-at.invariant c.requires in
    laws.lent_in ks ws at left

pub offset_bounds-kinds-at-in-loop-at : goal.offset_bounds-kinds-at-in-loop-at
offset_bounds-kinds-at-in-loop-at c =
    let ks = c.args.kinds.now in
    let ws = c.args.words.now in
    let at = c.loop-at.at in
    let left = laws.count_left ks ws at c.loop-at.args c.loop-at.invariant c.requires in
    let front = laws.lent_front ks ws at left c.loop-at-test.true in
    omega (arith, front.in_kinds, front.in_words, front.fits, c.well_formed)

pub slice_bounds-skip-count : goal.slice_bounds-skip-count
slice_bounds-skip-count c =
    let ks = c.args.kinds.now in
    let ws = c.args.words.now in
    let at = c.loop-at.at in
    let left = laws.count_left ks ws at c.loop-at.args c.loop-at.invariant c.requires in
    let front = laws.lent_front ks ws at left c.loop-at-test.true in
    omega (arith, front.in_kinds, front.in_words, front.fits, c.well_formed)

pub slice_bounds-skip-start : goal.slice_bounds-skip-start
slice_bounds-skip-start c =
    let ks = c.args.kinds.now in
    let ws = c.args.words.now in
    let at = c.loop-at.at in
    let left = laws.count_left ks ws at c.loop-at.args c.loop-at.invariant c.requires in
    let front = laws.lent_front ks ws at left c.loop-at-test.true in
    omega (arith, front.in_kinds, front.in_words, front.fits, c.well_formed)

pub slice_bounds-skip-end : goal.slice_bounds-skip-end
slice_bounds-skip-end c =
    let ks = c.args.kinds.now in
    let ws = c.args.words.now in
    let at = c.loop-at.at in
    let left = laws.count_left ks ws at c.loop-at.args c.loop-at.invariant c.requires in
    let front = laws.lent_front ks ws at left c.loop-at-test.true in
    omega (arith, front.in_kinds, front.in_words, front.fits, c.well_formed)

pub offset_bounds-words-at : goal.offset_bounds-words-at
offset_bounds-words-at c =
    let ks = c.args.kinds.now in
    let ws = c.args.words.now in
    let at = c.loop-at.at in
    let left = laws.count_left ks ws at c.loop-at.args c.loop-at.invariant c.requires in
    let front = laws.lent_front ks ws at left c.loop-at-test.true in
    omega (arith, front.in_kinds, front.in_words, front.fits, c.well_formed)

pub slice_bounds-skip-count-in-loop-at : goal.slice_bounds-skip-count-in-loop-at
slice_bounds-skip-count-in-loop-at c =
    let ks = c.args.kinds.now in
    let ws = c.args.words.now in
    let at = c.loop-at.at in
    let left = laws.count_left ks ws at c.loop-at.args c.loop-at.invariant c.requires in
    let front = laws.lent_front ks ws at left c.loop-at-test.true in
    omega (arith, front.in_kinds, front.in_words, front.fits, c.well_formed)

pub slice_bounds-skip-start-in-loop-at : goal.slice_bounds-skip-start-in-loop-at
slice_bounds-skip-start-in-loop-at c =
    let ks = c.args.kinds.now in
    let ws = c.args.words.now in
    let at = c.loop-at.at in
    let left = laws.count_left ks ws at c.loop-at.args c.loop-at.invariant c.requires in
    let front = laws.lent_front ks ws at left c.loop-at-test.true in
    omega (arith, front.in_kinds, front.in_words, front.fits, c.well_formed)

pub slice_bounds-skip-end-in-loop-at : goal.slice_bounds-skip-end-in-loop-at
slice_bounds-skip-end-in-loop-at c =
    let ks = c.args.kinds.now in
    let ws = c.args.words.now in
    let at = c.loop-at.at in
    let left = laws.count_left ks ws at c.loop-at.args c.loop-at.invariant c.requires in
    let front = laws.lent_front ks ws at left c.loop-at-test.true in
    omega (arith, front.in_kinds, front.in_words, front.fits, c.well_formed)

pub overflow_add-at : goal.overflow_add-at
overflow_add-at c =
    let ks = c.args.kinds.now in
    let ws = c.args.words.now in
    let m = c.args.names in
    let at = c.loop-at.at in
    let left = laws.count_left ks ws at c.loop-at.args c.loop-at.invariant c.requires in
    let front = laws.lent_front ks ws at left c.loop-at-test.true in
    let long = laws.part_len m ks ws at c.skip.ensures in
    omega (arith, front.fits, long, c.well_formed)

pub overflow_add-at-in-loop-at : goal.overflow_add-at-in-loop-at
overflow_add-at-in-loop-at c =
    let ks = c.args.kinds.now in
    let ws = c.args.words.now in
    let m = c.args.names in
    let at = c.loop-at.at in
    let left = laws.count_left ks ws at c.loop-at.args c.loop-at.invariant c.requires in
    let front = laws.lent_front ks ws at left c.loop-at-test.true in
    let long = laws.part_len m ks ws at c.skip.ensures in
    omega (arith, front.fits, long, c.well_formed)

pub overflow_add-args : goal.overflow_add-args
overflow_add-args c =
    let ks = c.args.kinds.now in
    let ws = c.args.words.now in
    let at = c.loop-at.at in
    let left = laws.count_left ks ws at c.loop-at.args c.loop-at.invariant c.requires in
    let front = laws.lent_front ks ws at left c.loop-at-test.true in
    omega (arith, laws.count_few ks ws at c.loop-at.args c.loop-at.invariant c.requires, front.in_kinds, c.well_formed)

pub loop-at-smaller : goal.loop-at-smaller
loop-at-smaller c =
    let ks = c.args.kinds.now in
    let ws = c.args.words.now in
    let m = c.args.names in
    let at = c.loop-at.at in
    let left = laws.count_left ks ws at c.loop-at.args c.loop-at.invariant c.requires in
    let front = laws.lent_front ks ws at left c.loop-at-test.true in
    let long = laws.part_len m ks ws at c.skip.ensures in
    omega (arith, front.fits, long)

pub loop-at-preserved : goal.loop-at-preserved
loop-at-preserved c =
    let ks = c.args.kinds.now in
    let ws = c.args.words.now in
    let m = c.args.names in
    let at = c.loop-at.at in
    let long = laws.part_len m ks ws at c.skip.ensures in
    laws.count_next ks ws at c.loop-at.args c.loop-at.invariant c.loop-at-test.true long

pub returns : goal.returns
returns c = λ args f.
    let ks = c.args.kinds.now in
    let ws = c.args.words.now in
    let at = c.loop-at.at in
    let left = laws.count_left ks ws at c.loop-at.args c.loop-at.invariant c.requires in
    laws.count_done ks ws at c.loop-at.args c.loop-at.invariant c.loop-at-test.false args f
