use mathlib.Core.Path.{refl}
use native.Mathlib.Omega.{arith}
use Rattle.gen_gep.specs.Loop.{loop_start, loop_in, loop_there, loop_value, loop_take, loop_more, loop_done}
use Rattle.gen_gep.proofs.walk.Goals as goal

pub loop-index-init : goal.loop-index-init
loop-index-init c =
    let a = c.args in
    λ p f list. loop_start a.names a.book_kinds.now a.book_words.now a.work.now p a.at a.indices f list c.requires.lent.ready a.s

pub offset_bounds-book_kinds-index : goal.offset_bounds-book_kinds-index
offset_bounds-book_kinds-index c =
    let l = c.loop-index.invariant c.requires.lent.holds c.requires.lent.fields c.requires.list in
    omega (arith, loop_in l, c.well_formed)

pub bounds-book_kinds-index : goal.bounds-book_kinds-index
bounds-book_kinds-index c =
    let l = c.loop-index.invariant c.requires.lent.holds c.requires.lent.fields c.requires.list in
    loop_in l

pub skip_at-requires : goal.skip_at-requires
skip_at-requires c =
    let l = c.loop-index.invariant c.requires.lent.holds c.requires.lent.fields c.requires.list in
    loop_there l c.loop-index-test.true

pub overflow_add-value : goal.overflow_add-value
overflow_add-value c =
    let l = c.loop-index.invariant c.requires.lent.holds c.requires.lent.fields c.requires.list in
    omega (arith, loop_value l c.loop-index-test.true refl c.skip_at.ensures, c.well_formed)

pub walk_index-w-requires : goal.walk_index-w-requires
walk_index-w-requires c =
    let l = c.loop-index.invariant c.requires.lent.holds c.requires.lent.fields c.requires.list in
    loop_take l c.loop-index-test.true c.requires.lent.room refl c.skip_at.ensures

pub overflow_add-index : goal.overflow_add-index
overflow_add-index c =
    let l = c.loop-index.invariant c.requires.lent.holds c.requires.lent.fields c.requires.list in
    omega (arith, loop_value l c.loop-index-test.true refl c.skip_at.ensures, c.well_formed)

pub loop-index-smaller : goal.loop-index-smaller
loop-index-smaller c =
    let l = c.loop-index.invariant c.requires.lent.holds c.requires.lent.fields c.requires.list in
    omega (arith, loop_in l)

pub loop-index-preserved : goal.loop-index-preserved
loop-index-preserved c =
    λ p f list. loop_more (c.loop-index.invariant p f list) c.loop-index-test.true refl c.skip_at.ensures c.walk_index-w.ensures

pub shape_of-work : goal.shape_of-work
shape_of-work c =
    let l = c.loop-index.invariant c.requires.lent.holds c.requires.lent.fields c.requires.list in
    l.stays.long

pub returns : goal.returns
returns c =
    λ p f list. loop_done (c.loop-index.invariant p f list) c.loop-index-test.false
