use Rattle.std.proofs.Common.{arith}
use Rattle.gen_edge.specs.Copies.{found_hit, found_miss}
use Rattle.gen_edge.specs.Walks.{pairs_start, pair_in, pair_label, pair_more, pair_asks, pair_found, pair_long, phi_reaches, walk_start, walk_in, walk_more, walk_end}
use Rattle.gen_edge.proofs.push_copies.Goals as goal
use Rattle.gen_edge.proofs.push_copies.Goals.{then-found-words, else-found-words}

pub phis-init : goal.phis-init
phis-init c =
    let a = c.args in
    let ks = a.kinds.now in
    let ws = a.words.now in
    let m = a.names in
    let work = a.work.now in
    (omega arith, λ k ps maps front. walk_start k a.pred m ks ws work ps front a.s a.lines.now a.operands.now)

pub offset_bounds-kinds-at : goal.offset_bounds-kinds-at
offset_bounds-kinds-at c =
    let a = c.args in
    let ks = a.kinds.now in
    let ws = a.words.now in
    let m = a.names in
    let work = a.work.now in
    let walk = c.phis.invariant.1 c.requires.ctx c.requires.phis c.requires.locals c.requires.front in
    let inside = walk_in c.requires.ctx a.pred m ks ws work c.requires.phis walk in
    omega (arith, inside.0, c.well_formed)

pub bounds-kinds-at : goal.bounds-kinds-at
bounds-kinds-at c =
    let a = c.args in
    let ks = a.kinds.now in
    let ws = a.words.now in
    let m = a.names in
    let work = a.work.now in
    let walk = c.phis.invariant.1 c.requires.ctx c.requires.phis c.requires.locals c.requires.front in
    let inside = walk_in c.requires.ctx a.pred m ks ws work c.requires.phis walk in
    inside.0

pub overflow_add-ty : goal.overflow_add-ty
overflow_add-ty c =
    let a = c.args in
    let ks = a.kinds.now in
    let ws = a.words.now in
    let m = a.names in
    let work = a.work.now in
    let walk = c.phis.invariant.1 c.requires.ctx c.requires.phis c.requires.locals c.requires.front in
    let inside = walk_in c.requires.ctx a.pred m ks ws work c.requires.phis walk in
    omega (arith, inside.0, c.well_formed)

pub offset_bounds-kinds-ty : goal.offset_bounds-kinds-ty
offset_bounds-kinds-ty c =
    let a = c.args in
    let ks = a.kinds.now in
    let ws = a.words.now in
    let m = a.names in
    let work = a.work.now in
    let walk = c.phis.invariant.1 c.requires.ctx c.requires.phis c.requires.locals c.requires.front in
    let inside = walk_in c.requires.ctx a.pred m ks ws work c.requires.phis walk in
    omega (arith, inside.0, inside.1, c.well_formed)

pub slice_bounds-type_kinds-count : goal.slice_bounds-type_kinds-count
slice_bounds-type_kinds-count c =
    let a = c.args in
    let ks = a.kinds.now in
    let ws = a.words.now in
    let m = a.names in
    let work = a.work.now in
    let walk = c.phis.invariant.1 c.requires.ctx c.requires.phis c.requires.locals c.requires.front in
    let inside = walk_in c.requires.ctx a.pred m ks ws work c.requires.phis walk in
    omega (arith, inside.0, inside.1, c.well_formed)

pub slice_bounds-type_kinds-start : goal.slice_bounds-type_kinds-start
slice_bounds-type_kinds-start c =
    let a = c.args in
    let ks = a.kinds.now in
    let ws = a.words.now in
    let m = a.names in
    let work = a.work.now in
    let walk = c.phis.invariant.1 c.requires.ctx c.requires.phis c.requires.locals c.requires.front in
    let inside = walk_in c.requires.ctx a.pred m ks ws work c.requires.phis walk in
    omega (arith, inside.0, inside.1, c.well_formed)

pub slice_bounds-type_kinds-end : goal.slice_bounds-type_kinds-end
slice_bounds-type_kinds-end c =
    let a = c.args in
    let ks = a.kinds.now in
    let ws = a.words.now in
    let m = a.names in
    let work = a.work.now in
    let walk = c.phis.invariant.1 c.requires.ctx c.requires.phis c.requires.locals c.requires.front in
    let inside = walk_in c.requires.ctx a.pred m ks ws work c.requires.phis walk in
    omega (arith, inside.0, inside.1, c.well_formed)

pub offset_bounds-words-ty : goal.offset_bounds-words-ty
offset_bounds-words-ty c =
    let a = c.args in
    let ks = a.kinds.now in
    let ws = a.words.now in
    let m = a.names in
    let work = a.work.now in
    let walk = c.phis.invariant.1 c.requires.ctx c.requires.phis c.requires.locals c.requires.front in
    let inside = walk_in c.requires.ctx a.pred m ks ws work c.requires.phis walk in
    omega (arith, inside.0, inside.1, c.well_formed)

pub slice_bounds-type_words-count : goal.slice_bounds-type_words-count
slice_bounds-type_words-count c =
    let a = c.args in
    let ks = a.kinds.now in
    let ws = a.words.now in
    let m = a.names in
    let work = a.work.now in
    let walk = c.phis.invariant.1 c.requires.ctx c.requires.phis c.requires.locals c.requires.front in
    let inside = walk_in c.requires.ctx a.pred m ks ws work c.requires.phis walk in
    omega (arith, inside.0, inside.1, c.well_formed)

pub slice_bounds-type_words-start : goal.slice_bounds-type_words-start
slice_bounds-type_words-start c =
    let a = c.args in
    let ks = a.kinds.now in
    let ws = a.words.now in
    let m = a.names in
    let work = a.work.now in
    let walk = c.phis.invariant.1 c.requires.ctx c.requires.phis c.requires.locals c.requires.front in
    let inside = walk_in c.requires.ctx a.pred m ks ws work c.requires.phis walk in
    omega (arith, inside.0, inside.1, c.well_formed)

pub slice_bounds-type_words-end : goal.slice_bounds-type_words-end
slice_bounds-type_words-end c =
    let a = c.args in
    let ks = a.kinds.now in
    let ws = a.words.now in
    let m = a.names in
    let work = a.work.now in
    let walk = c.phis.invariant.1 c.requires.ctx c.requires.phis c.requires.locals c.requires.front in
    let inside = walk_in c.requires.ctx a.pred m ks ws work c.requires.phis walk in
    omega (arith, inside.0, inside.1, c.well_formed)

pub overflow_add-pair : goal.overflow_add-pair
overflow_add-pair c =
    let a = c.args in
    let ks = a.kinds.now in
    let ws = a.words.now in
    let m = a.names in
    let at = c.phis.at in
    let walk = c.phis.invariant.1 c.requires.ctx c.requires.phis c.requires.locals c.requires.front in
    let first = pairs_start a.pred m ks ws at walk.todo walk.front c.if-kinds-at-ne-PHI.false c.skip.ensures in
    omega (arith, (pair_in a.pred m ks ws at walk.todo first).0, c.well_formed)

pub loop-pair-init : goal.loop-pair-init
loop-pair-init c =
    let a = c.args in
    let ks = a.kinds.now in
    let ws = a.words.now in
    let m = a.names in
    let at = c.phis.at in
    let walk = c.phis.invariant.1 c.requires.ctx c.requires.phis c.requires.locals c.requires.front in
    let first = pairs_start a.pred m ks ws at walk.todo walk.front c.if-kinds-at-ne-PHI.false c.skip.ensures in
    (omega (arith, pair_long a.pred m ks ws at walk.todo first c.skip.ensures), λ ps front. pairs_start a.pred m ks ws at ps front c.if-kinds-at-ne-PHI.false c.skip.ensures)

pub offset_bounds-kinds-pair : goal.offset_bounds-kinds-pair
offset_bounds-kinds-pair c =
    let a = c.args in
    let ks = a.kinds.now in
    let ws = a.words.now in
    let m = a.names in
    let at = c.phis.at in
    let walk = c.phis.invariant.1 c.requires.ctx c.requires.phis c.requires.locals c.requires.front in
    let pairs = c.loop-pair.invariant.1 walk.todo walk.front in
    let in_pairs = pair_in a.pred m ks ws at walk.todo pairs in
    omega (arith, in_pairs.0, c.well_formed)

pub bounds-kinds-pair : goal.bounds-kinds-pair
bounds-kinds-pair c =
    let a = c.args in
    let ks = a.kinds.now in
    let ws = a.words.now in
    let m = a.names in
    let at = c.phis.at in
    let walk = c.phis.invariant.1 c.requires.ctx c.requires.phis c.requires.locals c.requires.front in
    let pairs = c.loop-pair.invariant.1 walk.todo walk.front in
    let in_pairs = pair_in a.pred m ks ws at walk.todo pairs in
    in_pairs.0

pub overflow_add-pair-in-loop-pair : goal.overflow_add-pair-in-loop-pair
overflow_add-pair-in-loop-pair c =
    let a = c.args in
    let ks = a.kinds.now in
    let ws = a.words.now in
    let m = a.names in
    let at = c.phis.at in
    let walk = c.phis.invariant.1 c.requires.ctx c.requires.phis c.requires.locals c.requires.front in
    let pairs = c.loop-pair.invariant.1 walk.todo walk.front in
    let label = pair_label a.pred m ks ws at walk.todo pairs c.loop-pair-test.true in
    omega (arith, label, c.well_formed)

pub offset_bounds-words-pair : goal.offset_bounds-words-pair
offset_bounds-words-pair c =
    let a = c.args in
    let ks = a.kinds.now in
    let ws = a.words.now in
    let m = a.names in
    let at = c.phis.at in
    let walk = c.phis.invariant.1 c.requires.ctx c.requires.phis c.requires.locals c.requires.front in
    let pairs = c.loop-pair.invariant.1 walk.todo walk.front in
    let label = pair_label a.pred m ks ws at walk.todo pairs c.loop-pair-test.true in
    omega (arith, label, c.well_formed)

pub bounds-words-pair : goal.bounds-words-pair
bounds-words-pair c =
    let a = c.args in
    let ks = a.kinds.now in
    let ws = a.words.now in
    let m = a.names in
    let at = c.phis.at in
    let walk = c.phis.invariant.1 c.requires.ctx c.requires.phis c.requires.locals c.requires.front in
    let pairs = c.loop-pair.invariant.1 walk.todo walk.front in
    let label = pair_label a.pred m ks ws at walk.todo pairs c.loop-pair-test.true in
    label

pub overflow_add-pair-in-loop-pair-2 : goal.overflow_add-pair-in-loop-pair-2
overflow_add-pair-in-loop-pair-2 c =
    let a = c.args in
    let ks = a.kinds.now in
    let ws = a.words.now in
    let m = a.names in
    let at = c.phis.at in
    let walk = c.phis.invariant.1 c.requires.ctx c.requires.phis c.requires.locals c.requires.front in
    let pairs = c.loop-pair.invariant.1 walk.todo walk.front in
    let label = pair_label a.pred m ks ws at walk.todo pairs c.loop-pair-test.true in
    omega (arith, label, c.well_formed)

pub loop-pair-smaller : goal.loop-pair-smaller
loop-pair-smaller c =
    let a = c.args in
    let ks = a.kinds.now in
    let ws = a.words.now in
    let m = a.names in
    let at = c.phis.at in
    let walk = c.phis.invariant.1 c.requires.ctx c.requires.phis c.requires.locals c.requires.front in
    let pairs = c.loop-pair.invariant.1 walk.todo walk.front in
    let in_pairs = pair_in a.pred m ks ws at walk.todo pairs in
    omega (arith, in_pairs.0)

pub loop-pair-preserved : goal.loop-pair-preserved
loop-pair-preserved c =
    let a = c.args in
    let ks = a.kinds.now in
    let ws = a.words.now in
    let m = a.names in
    let at = c.phis.at in
    let walk = c.phis.invariant.1 c.requires.ctx c.requires.phis c.requires.locals c.requires.front in
    let pairs = c.loop-pair.invariant.1 walk.todo walk.front in
    let label = pair_label a.pred m ks ws at walk.todo pairs c.loop-pair-test.true in (
      omega (arith, c.loop-pair.invariant.0),
      λ ps front.
          pair_more a.pred m ks ws at ps (c.loop-pair.invariant.1 ps front) c.loop-pair-test.true
          (λ is i f label value. elim c.if-found-words.branch [
            | then-found-words w ↦ found_hit m a.pred ks ws is i f label w.if-found-words.true (λ z. omega (arith, c.loop-pair.invariant.0)) w.found-is value
            | else-found-words w ↦ found_miss m a.pred ks ws is i f label w.if-found-words.false w.found-is
          ]),
    )

pub offset_bounds-words-at : goal.offset_bounds-words-at
offset_bounds-words-at c =
    let a = c.args in
    let ks = a.kinds.now in
    let ws = a.words.now in
    let m = a.names in
    let work = a.work.now in
    let walk = c.phis.invariant.1 c.requires.ctx c.requires.phis c.requires.locals c.requires.front in
    let inside = walk_in c.requires.ctx a.pred m ks ws work c.requires.phis walk in
    omega (arith, inside.1, c.well_formed)

pub bounds-words-at : goal.bounds-words-at
bounds-words-at c =
    let a = c.args in
    let ks = a.kinds.now in
    let ws = a.words.now in
    let m = a.names in
    let work = a.work.now in
    let walk = c.phis.invariant.1 c.requires.ctx c.requires.phis c.requires.locals c.requires.front in
    let inside = walk_in c.requires.ctx a.pred m ks ws work c.requires.phis walk in
    inside.1

pub note-noted-requires : goal.note-noted-requires
note-noted-requires c =
    let a = c.args in
    let ks = a.kinds.now in
    let ws = a.words.now in
    let m = a.names in
    let at = c.phis.at in
    let walk = c.phis.invariant.1 c.requires.ctx c.requires.phis c.requires.locals c.requires.front in
    let pairs = c.loop-pair.invariant.1 walk.todo walk.front in
    phi_reaches a.pred m ks ws at walk.todo pairs c.requires.room

pub offset_bounds-kinds-found : goal.offset_bounds-kinds-found
offset_bounds-kinds-found c =
    let a = c.args in
    let ks = a.kinds.now in
    let ws = a.words.now in
    let m = a.names in
    let at = c.phis.at in
    let walk = c.phis.invariant.1 c.requires.ctx c.requires.phis c.requires.locals c.requires.front in
    let pairs = c.loop-pair.invariant.1 walk.todo walk.front in
    let found = pair_found a.pred m ks ws at walk.todo pairs in
    omega (arith, found.0, found.1, c.well_formed)

pub slice_bounds-push_found-count : goal.slice_bounds-push_found-count
slice_bounds-push_found-count c =
    let a = c.args in
    let ks = a.kinds.now in
    let ws = a.words.now in
    let m = a.names in
    let at = c.phis.at in
    let walk = c.phis.invariant.1 c.requires.ctx c.requires.phis c.requires.locals c.requires.front in
    let pairs = c.loop-pair.invariant.1 walk.todo walk.front in
    let found = pair_found a.pred m ks ws at walk.todo pairs in
    omega (arith, found.0, found.1, c.well_formed)

pub slice_bounds-push_found-start : goal.slice_bounds-push_found-start
slice_bounds-push_found-start c =
    let a = c.args in
    let ks = a.kinds.now in
    let ws = a.words.now in
    let m = a.names in
    let at = c.phis.at in
    let walk = c.phis.invariant.1 c.requires.ctx c.requires.phis c.requires.locals c.requires.front in
    let pairs = c.loop-pair.invariant.1 walk.todo walk.front in
    let found = pair_found a.pred m ks ws at walk.todo pairs in
    omega (arith, found.0, found.1, c.well_formed)

pub slice_bounds-push_found-end : goal.slice_bounds-push_found-end
slice_bounds-push_found-end c =
    let a = c.args in
    let ks = a.kinds.now in
    let ws = a.words.now in
    let m = a.names in
    let at = c.phis.at in
    let walk = c.phis.invariant.1 c.requires.ctx c.requires.phis c.requires.locals c.requires.front in
    let pairs = c.loop-pair.invariant.1 walk.todo walk.front in
    let found = pair_found a.pred m ks ws at walk.todo pairs in
    omega (arith, found.0, found.1, c.well_formed)

pub offset_bounds-words-found : goal.offset_bounds-words-found
offset_bounds-words-found c =
    let a = c.args in
    let ks = a.kinds.now in
    let ws = a.words.now in
    let m = a.names in
    let at = c.phis.at in
    let walk = c.phis.invariant.1 c.requires.ctx c.requires.phis c.requires.locals c.requires.front in
    let pairs = c.loop-pair.invariant.1 walk.todo walk.front in
    let found = pair_found a.pred m ks ws at walk.todo pairs in
    omega (arith, found.0, found.1, c.well_formed)

pub slice_bounds-push_found-count-in-phis : goal.slice_bounds-push_found-count-in-phis
slice_bounds-push_found-count-in-phis c =
    let a = c.args in
    let ks = a.kinds.now in
    let ws = a.words.now in
    let m = a.names in
    let at = c.phis.at in
    let walk = c.phis.invariant.1 c.requires.ctx c.requires.phis c.requires.locals c.requires.front in
    let pairs = c.loop-pair.invariant.1 walk.todo walk.front in
    let found = pair_found a.pred m ks ws at walk.todo pairs in
    omega (arith, found.0, found.1, c.well_formed)

pub slice_bounds-push_found-start-in-phis : goal.slice_bounds-push_found-start-in-phis
slice_bounds-push_found-start-in-phis c =
    let a = c.args in
    let ks = a.kinds.now in
    let ws = a.words.now in
    let m = a.names in
    let at = c.phis.at in
    let walk = c.phis.invariant.1 c.requires.ctx c.requires.phis c.requires.locals c.requires.front in
    let pairs = c.loop-pair.invariant.1 walk.todo walk.front in
    let found = pair_found a.pred m ks ws at walk.todo pairs in
    omega (arith, found.0, found.1, c.well_formed)

pub slice_bounds-push_found-end-in-phis : goal.slice_bounds-push_found-end-in-phis
slice_bounds-push_found-end-in-phis c =
    let a = c.args in
    let ks = a.kinds.now in
    let ws = a.words.now in
    let m = a.names in
    let at = c.phis.at in
    let walk = c.phis.invariant.1 c.requires.ctx c.requires.phis c.requires.locals c.requires.front in
    let pairs = c.loop-pair.invariant.1 walk.todo walk.front in
    let found = pair_found a.pred m ks ws at walk.todo pairs in
    omega (arith, found.0, found.1, c.well_formed)

pub push_found-reached-requires : goal.push_found-reached-requires
push_found-reached-requires c =
    let a = c.args in
    let ks = a.kinds.now in
    let ws = a.words.now in
    let m = a.names in
    let at = c.phis.at in
    let walk = c.phis.invariant.1 c.requires.ctx c.requires.phis c.requires.locals c.requires.front in
    let pairs = c.loop-pair.invariant.1 walk.todo walk.front in
    λ t. pair_asks a.pred m ks ws at walk.todo pairs c.requires.room t

pub overflow_add-phis : goal.overflow_add-phis
overflow_add-phis c =
    let a = c.args in
    let ks = a.kinds.now in
    let ws = a.words.now in
    let m = a.names in
    let at = c.phis.at in
    let walk = c.phis.invariant.1 c.requires.ctx c.requires.phis c.requires.locals c.requires.front in
    let pairs = c.loop-pair.invariant.1 walk.todo walk.front in
    let in_pairs = pair_in a.pred m ks ws at walk.todo pairs in
    omega (arith, c.phis.invariant.0, c.loop-pair.invariant.0, in_pairs.0, c.well_formed)

pub overflow_add-at : goal.overflow_add-at
overflow_add-at c =
    let a = c.args in
    let ks = a.kinds.now in
    let ws = a.words.now in
    let m = a.names in
    let at = c.phis.at in
    let walk = c.phis.invariant.1 c.requires.ctx c.requires.phis c.requires.locals c.requires.front in
    let pairs = c.loop-pair.invariant.1 walk.todo walk.front in
    let in_pairs = pair_in a.pred m ks ws at walk.todo pairs in
    omega (arith, in_pairs.0, c.well_formed)

pub phis-smaller : goal.phis-smaller
phis-smaller c =
    let a = c.args in
    let ks = a.kinds.now in
    let ws = a.words.now in
    let m = a.names in
    let at = c.phis.at in
    let walk = c.phis.invariant.1 c.requires.ctx c.requires.phis c.requires.locals c.requires.front in
    let pairs = c.loop-pair.invariant.1 walk.todo walk.front in
    let in_pairs = pair_in a.pred m ks ws at walk.todo pairs in
    omega (arith, in_pairs.0, c.loop-pair.invariant.0)

pub phis-preserved : goal.phis-preserved
phis-preserved c =
    let a = c.args in
    let ks = a.kinds.now in
    let ws = a.words.now in
    let m = a.names in
    let work = a.work.now in
    let walk = c.phis.invariant.1 c.requires.ctx c.requires.phis c.requires.locals c.requires.front in (
      omega (arith, c.phis.invariant.0, c.loop-pair.invariant.0),
      λ k ps maps front.
          let walk = c.phis.invariant.1 k ps maps front in
          walk_more k a.pred m ks ws work ps walk maps (c.loop-pair.invariant.1 walk.todo walk.front) c.loop-pair-test.false
          c.note-noted.ensures c.push_found-reached.ensures c.push_found-reached.auto.lines c.push_found-reached.auto.operands,
    )

pub shape_of-lines : goal.shape_of-lines
shape_of-lines c =
    let walk = c.phis.invariant.1 c.requires.ctx c.requires.phis c.requires.locals c.requires.front in
    walk.pushed.long_kinds

pub shape_of-operands : goal.shape_of-operands
shape_of-operands c =
    let walk = c.phis.invariant.1 c.requires.ctx c.requires.phis c.requires.locals c.requires.front in
    walk.pushed.long_operands

pub returns : goal.returns
returns c = λ k ps maps front.
    let a = c.args in
    let ks = a.kinds.now in
    let ws = a.words.now in
    let m = a.names in
    let work = a.work.now in
    walk_end k a.pred m ks ws work ps (c.phis.invariant.1 k ps maps front) c.if-kinds-at-ne-PHI.true c.noted_first.ensures
