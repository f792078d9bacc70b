use Rattle.std.proofs.Common.{arith}
use Rattle.gen_values.specs.Fields.{part_from, fields_part}
use Rattle.gen_fields.specs.Places.{from_front, typed_at}
use Rattle.gen_call.specs.Args as laws
use Rattle.gen_call.proofs.push_args.Goals as goal

pub loop-at-init : goal.loop-at-init
loop-at-init c =
    let ks = c.args.kinds.now in
    let ws = c.args.words.now in
    let work = c.args.work.now in
    laws.push_start ks ws work c.args.s c.args.lines.now c.args.operands.now

pub offset_bounds-kinds-at : goal.offset_bounds-kinds-at
offset_bounds-kinds-at c =
    let ks = c.args.kinds.now in
    let ws = c.args.words.now in
    let work = c.args.work.now in
    let at = c.loop-at.at in
    let left = laws.push_left ks ws work at c.loop-at.invariant c.requires.0 in
    omega (arith, laws.lent_in ks ws at left, c.well_formed)

pub bounds-kinds-at : goal.bounds-kinds-at
bounds-kinds-at c =
    let ks = c.args.kinds.now in
    let ws = c.args.words.now in
    let work = c.args.work.now in
    let at = c.loop-at.at in
    let left = laws.push_left ks ws work at c.loop-at.invariant c.requires.0 in
    laws.lent_in ks ws at left

pub offset_bounds-kinds-at-in-loop-at : goal.offset_bounds-kinds-at-in-loop-at
offset_bounds-kinds-at-in-loop-at c =
    let ks = c.args.kinds.now in
    let ws = c.args.words.now in
    let work = c.args.work.now in
    let at = c.loop-at.at in
    let left = laws.push_left ks ws work at c.loop-at.invariant c.requires.0 in
    let front = laws.lent_front ks ws at left c.loop-at-test.true in
    omega (arith, front.in_kinds, front.in_words, front.fits, c.well_formed)

pub slice_bounds-type_kinds-count : goal.slice_bounds-type_kinds-count
slice_bounds-type_kinds-count c =
    let ks = c.args.kinds.now in
    let ws = c.args.words.now in
    let work = c.args.work.now in
    let at = c.loop-at.at in
    let left = laws.push_left ks ws work at c.loop-at.invariant c.requires.0 in
    let front = laws.lent_front ks ws at left c.loop-at-test.true in
    omega (arith, front.in_kinds, front.in_words, front.fits, c.well_formed)

pub slice_bounds-type_kinds-start : goal.slice_bounds-type_kinds-start
slice_bounds-type_kinds-start c =
    let ks = c.args.kinds.now in
    let ws = c.args.words.now in
    let work = c.args.work.now in
    let at = c.loop-at.at in
    let left = laws.push_left ks ws work at c.loop-at.invariant c.requires.0 in
    let front = laws.lent_front ks ws at left c.loop-at-test.true in
    omega (arith, front.in_kinds, front.in_words, front.fits, c.well_formed)

pub slice_bounds-type_kinds-end : goal.slice_bounds-type_kinds-end
slice_bounds-type_kinds-end c =
    let ks = c.args.kinds.now in
    let ws = c.args.words.now in
    let work = c.args.work.now in
    let at = c.loop-at.at in
    let left = laws.push_left ks ws work at c.loop-at.invariant c.requires.0 in
    let front = laws.lent_front ks ws at left c.loop-at-test.true in
    omega (arith, front.in_kinds, front.in_words, front.fits, c.well_formed)

pub offset_bounds-words-at : goal.offset_bounds-words-at
offset_bounds-words-at c =
    let ks = c.args.kinds.now in
    let ws = c.args.words.now in
    let work = c.args.work.now in
    let at = c.loop-at.at in
    let left = laws.push_left ks ws work at c.loop-at.invariant c.requires.0 in
    let front = laws.lent_front ks ws at left c.loop-at-test.true in
    omega (arith, front.in_kinds, front.in_words, front.fits, c.well_formed)

pub slice_bounds-type_words-count : goal.slice_bounds-type_words-count
slice_bounds-type_words-count c =
    let ks = c.args.kinds.now in
    let ws = c.args.words.now in
    let work = c.args.work.now in
    let at = c.loop-at.at in
    let left = laws.push_left ks ws work at c.loop-at.invariant c.requires.0 in
    let front = laws.lent_front ks ws at left c.loop-at-test.true in
    omega (arith, front.in_kinds, front.in_words, front.fits, c.well_formed)

pub slice_bounds-type_words-start : goal.slice_bounds-type_words-start
slice_bounds-type_words-start c =
    let ks = c.args.kinds.now in
    let ws = c.args.words.now in
    let work = c.args.work.now in
    let at = c.loop-at.at in
    let left = laws.push_left ks ws work at c.loop-at.invariant c.requires.0 in
    let front = laws.lent_front ks ws at left c.loop-at-test.true in
    omega (arith, front.in_kinds, front.in_words, front.fits, c.well_formed)

pub slice_bounds-type_words-end : goal.slice_bounds-type_words-end
slice_bounds-type_words-end c =
    let ks = c.args.kinds.now in
    let ws = c.args.words.now in
    let work = c.args.work.now in
    let at = c.loop-at.at in
    let left = laws.push_left ks ws work at c.loop-at.invariant c.requires.0 in
    let front = laws.lent_front ks ws at left c.loop-at-test.true in
    omega (arith, front.in_kinds, front.in_words, front.fits, c.well_formed)

pub push_typed-reached-requires : goal.push_typed-reached-requires
push_typed-reached-requires c =
    let ks = c.args.kinds.now in
    let ws = c.args.words.now in
    let work = c.args.work.now in
    let at = c.loop-at.at in
    let left = laws.push_left ks ws work at c.loop-at.invariant c.requires.0 in
    let one = laws.lent_one ks ws at left c.loop-at-test.true in
    typed_at (part_from ks at) (part_from ws at) 0 (fields_part ks ws at one.fields) (from_front c.skip-value.ensures) c.requires.1

pub overflow_add-at : goal.overflow_add-at
overflow_add-at c =
    let ks = c.args.kinds.now in
    let ws = c.args.words.now in
    let m = c.args.names in
    let work = c.args.work.now in
    let at = c.loop-at.at in
    let left = laws.push_left ks ws work at c.loop-at.invariant c.requires.0 in
    let front = laws.lent_front ks ws at left c.loop-at-test.true in
    let long = laws.part_len m ks ws at c.skip-value.ensures in
    omega (arith, front.fits, long, c.well_formed)

pub overflow_add-at-in-loop-at : goal.overflow_add-at-in-loop-at
overflow_add-at-in-loop-at c =
    let ks = c.args.kinds.now in
    let ws = c.args.words.now in
    let m = c.args.names in
    let work = c.args.work.now in
    let at = c.loop-at.at in
    let left = laws.push_left ks ws work at c.loop-at.invariant c.requires.0 in
    let front = laws.lent_front ks ws at left c.loop-at-test.true in
    let long = laws.part_len m ks ws at c.skip-value.ensures in
    omega (arith, front.fits, long, c.well_formed)

pub loop-at-smaller : goal.loop-at-smaller
loop-at-smaller c =
    let ks = c.args.kinds.now in
    let ws = c.args.words.now in
    let m = c.args.names in
    let work = c.args.work.now in
    let at = c.loop-at.at in
    let left = laws.push_left ks ws work at c.loop-at.invariant c.requires.0 in
    let front = laws.lent_front ks ws at left c.loop-at-test.true in
    let long = laws.part_len m ks ws at c.skip-value.ensures in
    omega (arith, front.fits, long)

pub loop-at-preserved : goal.loop-at-preserved
loop-at-preserved c =
    let ks = c.args.kinds.now in
    let ws = c.args.words.now in
    let m = c.args.names in
    let work = c.args.work.now in
    let at = c.loop-at.at in
    let long = laws.part_len m ks ws at c.skip-value.ensures in
    laws.push_next ks ws work at c.loop-at.invariant c.loop-at-test.true long c.push_typed-reached.auto.lines c.push_typed-reached.auto.operands
    (λ k x xs f maps. c.push_typed-reached.ensures m k _ _ (fields_part ks ws at f) c.skip-value.ensures maps)

pub returns : goal.returns
returns c = λ args k f maps.
    let ks = c.args.kinds.now in
    let ws = c.args.words.now in
    let work = c.args.work.now in
    let at = c.loop-at.at in
    let left = laws.push_left ks ws work at c.loop-at.invariant c.requires.0 in
    laws.push_done ks ws work at c.loop-at.invariant k maps c.loop-at-test.false args f
