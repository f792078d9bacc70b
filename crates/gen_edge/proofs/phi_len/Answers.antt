use Rattle.std.proofs.Common.{arith}
use Rattle.gen_edge.specs.Edges.{front_phi, left_start, left_in, left_next, left_end}
use Rattle.gen_edge.proofs.phi_len.Goals as goal

pub slice_bounds-skip-count : goal.slice_bounds-skip-count
slice_bounds-skip-count c =
    let ks = c.args.kinds.now in
    let ws = c.args.words.now in
    let lent = c.requires in
    let phi = front_phi ks ws lent.phi lent.more lent.front in
    omega (arith, phi.in_kinds, phi.in_words, c.well_formed)

pub slice_bounds-skip-start : goal.slice_bounds-skip-start
slice_bounds-skip-start c =
    let ks = c.args.kinds.now in
    let ws = c.args.words.now in
    let lent = c.requires in
    let phi = front_phi ks ws lent.phi lent.more lent.front in
    omega (arith, phi.in_kinds, phi.in_words, c.well_formed)

pub slice_bounds-skip-end : goal.slice_bounds-skip-end
slice_bounds-skip-end c =
    let ks = c.args.kinds.now in
    let ws = c.args.words.now in
    let lent = c.requires in
    let phi = front_phi ks ws lent.phi lent.more lent.front in
    omega (arith, phi.in_kinds, phi.in_words, c.well_formed)

pub slice_bounds-skip-count-2 : goal.slice_bounds-skip-count-2
slice_bounds-skip-count-2 c =
    let ks = c.args.kinds.now in
    let ws = c.args.words.now in
    let lent = c.requires in
    let phi = front_phi ks ws lent.phi lent.more lent.front in
    omega (arith, phi.in_kinds, phi.in_words, c.well_formed)

pub slice_bounds-skip-start-2 : goal.slice_bounds-skip-start-2
slice_bounds-skip-start-2 c =
    let ks = c.args.kinds.now in
    let ws = c.args.words.now in
    let lent = c.requires in
    let phi = front_phi ks ws lent.phi lent.more lent.front in
    omega (arith, phi.in_kinds, phi.in_words, c.well_formed)

pub slice_bounds-skip-end-2 : goal.slice_bounds-skip-end-2
slice_bounds-skip-end-2 c =
    let ks = c.args.kinds.now in
    let ws = c.args.words.now in
    let lent = c.requires in
    let phi = front_phi ks ws lent.phi lent.more lent.front in
    omega (arith, phi.in_kinds, phi.in_words, c.well_formed)

pub overflow_add-pair : goal.overflow_add-pair
overflow_add-pair c =
    let ks = c.args.kinds.now in
    let ws = c.args.words.now in
    let m = c.args.names in
    let lent = c.requires in
    let first = left_start ks ws lent.phi lent.more lent.front c.skip-pair.ensures in
    omega (arith, (left_in m ks ws lent.more first).0, c.well_formed)

pub loop-pair-init : goal.loop-pair-init
loop-pair-init c = λ p ps f.
    let ks = c.args.kinds.now in
    let ws = c.args.words.now in
    left_start ks ws p ps f c.skip-pair.ensures

pub offset_bounds-kinds-pair : goal.offset_bounds-kinds-pair
offset_bounds-kinds-pair c =
    let ks = c.args.kinds.now in
    let ws = c.args.words.now in
    let m = c.args.names in
    let lent = c.requires in
    let left = c.loop-pair.invariant lent.phi lent.more lent.front in
    let inside = left_in m ks ws lent.more left in
    omega (arith, inside.0, c.well_formed)

pub bounds-kinds-pair : goal.bounds-kinds-pair
bounds-kinds-pair c =
    let ks = c.args.kinds.now in
    let ws = c.args.words.now in
    let m = c.args.names in
    let lent = c.requires in
    let left = c.loop-pair.invariant lent.phi lent.more lent.front in
    let inside = left_in m ks ws lent.more left in
    inside.0

pub overflow_add-pair-in-loop-pair : goal.overflow_add-pair-in-loop-pair
overflow_add-pair-in-loop-pair c =
    let ks = c.args.kinds.now in
    let ws = c.args.words.now in
    let m = c.args.names in
    let lent = c.requires in
    let left = c.loop-pair.invariant lent.phi lent.more lent.front in
    omega (arith, (left_next m ks ws lent.more left c.loop-pair-test.true).0, c.well_formed)

pub loop-pair-smaller : goal.loop-pair-smaller
loop-pair-smaller c =
    let ks = c.args.kinds.now in
    let ws = c.args.words.now in
    let m = c.args.names in
    let lent = c.requires in
    let left = c.loop-pair.invariant lent.phi lent.more lent.front in
    let inside = left_in m ks ws lent.more left in
    omega (arith, inside.0)

pub loop-pair-preserved : goal.loop-pair-preserved
loop-pair-preserved c = λ p ps f.
    let ks = c.args.kinds.now in
    let ws = c.args.words.now in
    let m = c.args.names in
    (left_next m ks ws ps (c.loop-pair.invariant p ps f) c.loop-pair-test.true).1

pub overflow_add-result : goal.overflow_add-result
overflow_add-result c =
    let ks = c.args.kinds.now in
    let ws = c.args.words.now in
    let m = c.args.names in
    let lent = c.requires in
    let left = c.loop-pair.invariant lent.phi lent.more lent.front in
    let inside = left_in m ks ws lent.more left in
    omega (arith, inside.0, c.well_formed)

pub returns : goal.returns
returns c = λ p ps f.
    let ks = c.args.kinds.now in
    let ws = c.args.words.now in
    let m = c.args.names in
    left_end m ks ws ps (c.loop-pair.invariant p ps f) c.loop-pair-test.false
