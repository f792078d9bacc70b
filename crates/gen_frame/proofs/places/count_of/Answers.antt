-- `gen_frame::places::count_of` meets its contract: kind 21 is no type's, and a constant stands behind its type.
use native.Mathlib.Omega.{arith}
use Rattle.gen_frame.specs.Allocas as laws
use borrow.Author.Rules.{rules}
use Rattle.gen_frame.proofs.places.count_of.Goals as goal

pub bounds-kinds-0 : goal.bounds-kinds-0
bounds-kinds-0 c =
    let h = laws.count_there c.args.kinds.now c.args.words.now c.requires.0 c.requires.1 in
    search rules

pub returns-then-kinds-eq-ABSENT : goal.returns-then-kinds-eq-ABSENT
returns-then-kinds-eq-ABSENT c =
    λ o k. laws.count_absent c.args.kinds.now c.args.words.now o k c.if-kinds-eq-ABSENT.true

pub offset_bounds-kinds-at : goal.offset_bounds-kinds-at
offset_bounds-kinds-at c =
    let ask = c.requires in
    let v = laws.count_value c.args.kinds.now c.args.words.now ask.0 ask.1 c.if-kinds-eq-ABSENT.false c.skip-at.ensures in
    omega (arith, v.in_kinds)

pub bounds-kinds-at : goal.bounds-kinds-at
bounds-kinds-at c =
    let ask = c.requires in
    let v = laws.count_value c.args.kinds.now c.args.words.now ask.0 ask.1 c.if-kinds-eq-ABSENT.false c.skip-at.ensures in
    omega (arith, v.in_kinds)

pub offset_bounds-words-at : goal.offset_bounds-words-at
offset_bounds-words-at c =
    let ask = c.requires in
    let v = laws.count_value c.args.kinds.now c.args.words.now ask.0 ask.1 c.if-kinds-eq-ABSENT.false c.skip-at.ensures in
    omega (arith, v.in_words)

pub bounds-words-at : goal.bounds-words-at
bounds-words-at c =
    let ask = c.requires in
    let v = laws.count_value c.args.kinds.now c.args.words.now ask.0 ask.1 c.if-kinds-eq-ABSENT.false c.skip-at.ensures in
    omega (arith, v.in_words)

pub returns-then-kinds-at-eq-INTEGER : goal.returns-then-kinds-at-eq-INTEGER
returns-then-kinds-at-eq-INTEGER c =
    λ o k. (laws.count_value c.args.kinds.now c.args.words.now o k c.if-kinds-eq-ABSENT.false c.skip-at.ensures).constant c.if-kinds-at-eq-INTEGER.true

pub returns : goal.returns
returns c =
    λ o k. (laws.count_value c.args.kinds.now c.args.words.now o k c.if-kinds-eq-ABSENT.false c.skip-at.ensures).varies c.if-kinds-at-eq-INTEGER.false
