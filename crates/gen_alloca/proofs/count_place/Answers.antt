-- `gen_alloca::count_place` meets its contract.
use native.Mathlib.Omega.{arith}
use Rattle.gen_alloca.specs.Alloca as laws
use Rattle.gen_alloca.proofs.count_place.Goals as goal

pub offset_bounds-kinds-at : goal.offset_bounds-kinds-at
offset_bounds-kinds-at c =
    omega (arith, c.requires.in_kinds, c.well_formed)

pub bounds-kinds-at : goal.bounds-kinds-at
bounds-kinds-at c =
    c.requires.in_kinds

pub returns-then-kinds-at-eq-ABSENT : goal.returns-then-kinds-at-eq-ABSENT
returns-then-kinds-at-eq-ABSENT c = λ fs p f.
    let ks = c.args.kinds.now in
    let ws = c.args.words.now in
    laws.count_absent c.args.names fs ks ws c.args.at c.if-kinds-at-eq-ABSENT.true p f

pub offset_bounds-kinds-at-2 : goal.offset_bounds-kinds-at-2
offset_bounds-kinds-at-2 c =
    omega (arith, c.requires.in_kinds, c.well_formed)

pub slice_bounds-skip-count : goal.slice_bounds-skip-count
slice_bounds-skip-count c =
    omega (arith, c.requires.in_kinds)

pub slice_bounds-skip-start : goal.slice_bounds-skip-start
slice_bounds-skip-start c =
    omega (arith, c.requires.in_kinds)

pub offset_bounds-words-at : goal.offset_bounds-words-at
offset_bounds-words-at c =
    omega (arith, c.requires.in_words, c.well_formed)

pub slice_bounds-skip-count-2 : goal.slice_bounds-skip-count-2
slice_bounds-skip-count-2 c =
    omega (arith, c.requires.in_words)

pub slice_bounds-skip-start-2 : goal.slice_bounds-skip-start-2
slice_bounds-skip-start-2 c =
    omega (arith, c.requires.in_words)

pub overflow_add-result : goal.overflow_add-result
overflow_add-result c =
    let ks = c.args.kinds.now in
    let ws = c.args.words.now in
    let count = laws.count_present c.args.names c.requires.fs ks ws c.args.at c.if-kinds-at-eq-ABSENT.false c.skip.ensures c.requires.holds c.requires.fields in
    omega (arith, count.at.in_kinds, c.well_formed)

pub returns : goal.returns
returns c = λ fs p f.
    let ks = c.args.kinds.now in
    let ws = c.args.words.now in
    laws.count_present c.args.names fs ks ws c.args.at c.if-kinds-at-eq-ABSENT.false c.skip.ensures p f
