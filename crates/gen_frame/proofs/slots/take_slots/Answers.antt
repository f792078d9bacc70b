-- `gen_frame::slots::take_slots` meets its contract: the name's word 1 is set, whatever stood there.
use native.Mathlib.Omega.{arith}
use Rattle.gen_frame.specs.Taken as laws
use borrow.Author.Rules.{rules}
use Rattle.gen_frame.proofs.slots.take_slots.Goals as goal

pub bounds-words-0 : goal.bounds-words-0
bounds-words-0 c =
    let h = (laws.inst_front c.args.kinds.now c.args.words.now c.requires.at).in_words in
    search rules

pub returns-then-dest-eq0 : goal.returns-then-dest-eq0
returns-then-dest-eq0 c =
    laws.take_none c.args.kinds.now c.args.words.now c.args.work.now c.args.f c.if-dest-eq0.true

pub overflow_mul-work : goal.overflow_mul-work
overflow_mul-work c =
    let h = laws.take_below c.args.kinds.now c.args.words.now c.args.work.now c.args.f c.requires c.if-dest-eq0.false in
    omega (arith, h, c.requires.room)

pub overflow_add-work-2 : goal.overflow_add-work-2
overflow_add-work-2 c =
    let h = laws.take_below c.args.kinds.now c.args.words.now c.args.work.now c.args.f c.requires c.if-dest-eq0.false in
    omega (arith, h, c.requires.room)

pub offset_bounds-work-dest : goal.offset_bounds-work-dest
offset_bounds-work-dest c =
    let h = laws.take_below c.args.kinds.now c.args.words.now c.args.work.now c.args.f c.requires c.if-dest-eq0.false in
    omega (arith, h, c.requires.room)

pub bounds-work-dest : goal.bounds-work-dest
bounds-work-dest c =
    let h = laws.take_below c.args.kinds.now c.args.words.now c.args.work.now c.args.f c.requires c.if-dest-eq0.false in
    omega (arith, h, c.requires.room)

pub returns : goal.returns
returns c =
    laws.take_some c.args.kinds.now c.args.words.now c.args.work.now c.args.f c.requires c.if-dest-eq0.false c.slots_for-n.ensures
