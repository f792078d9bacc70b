-- `gen_frame::slots::call_slots` meets its contract: word 5 of a global says whether its name contains `.with.overflow.`
use native.Mathlib.Omega.{arith}
use Rattle.gen_frame.specs.Taken as laws
use Rattle.gen_frame.proofs.slots.call_slots.Goals as goal

pub offset_bounds-kinds-at : goal.offset_bounds-kinds-at
offset_bounds-kinds-at c =
    let at = laws.callee_at c.args.kinds.now c.args.words.now c.args.work.now c.requires.args c.requires.fields c.skip-at.ensures in
    omega (arith, at.in_kinds)

pub bounds-kinds-at : goal.bounds-kinds-at
bounds-kinds-at c =
    let at = laws.callee_at c.args.kinds.now c.args.words.now c.args.work.now c.requires.args c.requires.fields c.skip-at.ensures in
    omega (arith, at.in_kinds)

pub returns-then-kinds-at-ne-GLOBAL : goal.returns-then-kinds-at-ne-GLOBAL
returns-then-kinds-at-ne-GLOBAL c =
    laws.call_other c.args.kinds.now c.args.words.now c.args.work.now c.skip-at.ensures c.if-kinds-at-ne-GLOBAL.true

pub offset_bounds-words-at : goal.offset_bounds-words-at
offset_bounds-words-at c =
    let at = laws.callee_at c.args.kinds.now c.args.words.now c.args.work.now c.requires.args c.requires.fields c.skip-at.ensures in
    omega (arith, at.in_words)

pub bounds-words-at : goal.bounds-words-at
bounds-words-at c =
    let at = laws.callee_at c.args.kinds.now c.args.words.now c.args.work.now c.requires.args c.requires.fields c.skip-at.ensures in
    omega (arith, at.in_words)

pub overflow_mul-words : goal.overflow_mul-words
overflow_mul-words c =
    let at = laws.callee_at c.args.kinds.now c.args.words.now c.args.work.now c.requires.args c.requires.fields c.skip-at.ensures in
    omega (arith, at.below c.if-kinds-at-ne-GLOBAL.false, c.requires.room)

pub overflow_add-words : goal.overflow_add-words
overflow_add-words c =
    let at = laws.callee_at c.args.kinds.now c.args.words.now c.args.work.now c.requires.args c.requires.fields c.skip-at.ensures in
    omega (arith, at.below c.if-kinds-at-ne-GLOBAL.false, c.requires.room)

pub offset_bounds-work-words : goal.offset_bounds-work-words
offset_bounds-work-words c =
    let at = laws.callee_at c.args.kinds.now c.args.words.now c.args.work.now c.requires.args c.requires.fields c.skip-at.ensures in
    omega (arith, at.below c.if-kinds-at-ne-GLOBAL.false, c.requires.room)

pub bounds-work-words : goal.bounds-work-words
bounds-work-words c =
    let at = laws.callee_at c.args.kinds.now c.args.words.now c.args.work.now c.requires.args c.requires.fields c.skip-at.ensures in
    omega (arith, at.below c.if-kinds-at-ne-GLOBAL.false, c.requires.room)

pub returns-then-work-words-lt4 : goal.returns-then-work-words-lt4
returns-then-work-words-lt4 c =
    laws.call_plain c.args.kinds.now c.args.words.now c.args.work.now c.skip-at.ensures c.if-kinds-at-ne-GLOBAL.false c.if-work-words-lt4.true

pub returns : goal.returns
returns c =
    laws.call_doubled c.args.kinds.now c.args.words.now c.args.work.now c.skip-at.ensures c.if-kinds-at-ne-GLOBAL.false c.if-work-words-lt4.false
