use borrow.Author.Rules.{rules}
use native.Mathlib.Omega.{arith}
use Rattle.gen_marks.specs.Mark.{spelled_small}
use Rattle.gen_marks.specs.Spelling as laws
use Rattle.gen_marks.proofs.spell_marks.Goals as goal

pub loop-at-init : goal.loop-at-init
loop-at-init c =
    laws.spell_start _ _ _ c.requires

pub overflow_mul-place : goal.overflow_mul-place
overflow_mul-place c =
    let q = laws.spell_more c.loop-at.invariant c.loop-at-test.true in
    let r = c.loop-at.invariant.room in
    search rules

pub overflow_add-place : goal.overflow_add-place
overflow_add-place c =
    let q = laws.spell_more c.loop-at.invariant c.loop-at-test.true in
    let r = c.loop-at.invariant.room in
    search rules

pub offset_bounds-work-place : goal.offset_bounds-work-place
offset_bounds-work-place c =
    let q = laws.spell_more c.loop-at.invariant c.loop-at-test.true in
    let r = c.loop-at.invariant.room in
    search rules

pub bounds-work-place : goal.bounds-work-place
bounds-work-place c =
    let q = laws.spell_more c.loop-at.invariant c.loop-at-test.true in
    let r = c.loop-at.invariant.room in
    search rules

pub overflow_sub-end : goal.overflow_sub-end
overflow_sub-end c =
    laws.more_than_none c.loop-at.invariant c.loop-at-test.true

pub spelled-requires : goal.spelled-requires
spelled-requires c =
    laws.ended_here c.loop-at.invariant c.loop-at-test.true

pub overflows-requires : goal.overflows-requires
overflows-requires c =
    laws.ended_here c.loop-at.invariant c.loop-at-test.true

pub with_overflow-requires : goal.with_overflow-requires
with_overflow-requires c =
    rw c.spelled.ensures (spelled_small _)

pub offset_bounds-work-place-in-loop-at : goal.offset_bounds-work-place-in-loop-at
offset_bounds-work-place-in-loop-at c =
    let q = laws.spell_more c.loop-at.invariant c.loop-at-test.true in
    let r = c.loop-at.invariant.room in
    search rules

pub bounds-work-place-in-loop-at : goal.bounds-work-place-in-loop-at
bounds-work-place-in-loop-at c =
    let q = laws.spell_more c.loop-at.invariant c.loop-at-test.true in
    let r = c.loop-at.invariant.room in
    search rules

pub overflow_add-x : goal.overflow_add-x
overflow_add-x c =
    let q = laws.spell_more c.loop-at.invariant c.loop-at-test.true in
    let r = c.loop-at.invariant.room in
    search rules

pub overflow_add-at : goal.overflow_add-at
overflow_add-at c =
    let e = laws.ended_here c.loop-at.invariant c.loop-at-test.true in
    let i = e.inside in
    search rules

pub loop-at-smaller : goal.loop-at-smaller
loop-at-smaller c =
    let e = laws.ended_here c.loop-at.invariant c.loop-at-test.true in
    omega (arith, e.ends, e.inside)

pub loop-at-preserved : goal.loop-at-preserved
loop-at-preserved c =
    let more = c.loop-at-test.true in
    laws.spell_next c.loop-at.invariant more (laws.ended_here c.loop-at.invariant more) _
    (laws.word_is _ _ _ _ _ c.spelled.ensures c.overflows.ensures c.with_overflow.ensures)

pub returns : goal.returns
returns c =
    laws.spell_done c.loop-at.invariant c.loop-at-test.false
