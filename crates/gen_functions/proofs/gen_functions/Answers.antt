use mathlib.Core.Path.{ap, ◌∙◌}
use mathlib.Core.Bool.{not}
use borrow.Author.Tests.{eq-eqb, ne_eqb}
use native.Mathlib.Omega.{arith}
use Rattle.gen_functions.specs.Walk as laws
use Rattle.gen_functions.proofs.gen_functions.Goals as goal

pub loop-at-init : goal.loop-at-init
loop-at-init c = laws.walk_start _ _ _ _ _ _ _ _ _

pub gen_turn-turn-requires : goal.gen_turn-turn-requires
gen_turn-turn-requires c =
    laws.turn_ask c.args.book_kinds.now c.args.book_words.now c.loop-at.invariant c.requires c.loop-at-test.true

pub shape_of-work-then-turn-ne0 : goal.shape_of-work-then-turn-ne0
shape_of-work-then-turn-ne0 c =
    c.gen_turn-turn.auto.work ∙ c.loop-at.invariant.long_work

pub shape_of-lines-then-turn-ne0 : goal.shape_of-lines-then-turn-ne0
shape_of-lines-then-turn-ne0 c =
    c.gen_turn-turn.auto.lines ∙ c.loop-at.invariant.long_lines

pub shape_of-operands-then-turn-ne0 : goal.shape_of-operands-then-turn-ne0
shape_of-operands-then-turn-ne0 c =
    c.gen_turn-turn.auto.operands ∙ c.loop-at.invariant.long_operands

pub returns-then-turn-ne0 : goal.returns-then-turn-ne0
returns-then-turn-ne0 c =
    let stopped = ap not (ne_eqb _ 0 c.if-turn-ne0.true) in
    laws.walk_refused c.args.book_kinds.now c.args.book_words.now c.loop-at.invariant c.loop-at-test.true
    (λ g f fs h s a. (c.gen_turn-turn.ensures g f fs h s a).puts) stopped

pub loop-at-smaller : goal.loop-at-smaller
loop-at-smaller c =
    let further = laws.turn_further c.args.book_kinds.now c.args.book_words.now c.loop-at.invariant c.loop-at-test.true c.gen_turn-turn.ensures c.requires in
    omega (arith, further, c.loop-at-test.true)

pub loop-at-preserved : goal.loop-at-preserved
loop-at-preserved c =
    let going = ap not (eq-eqb _ 0 c.if-turn-ne0.false) in
    let kept = c.gen_turn-turn.auto in
    laws.walk_more c.args.book_kinds.now c.args.book_words.now c.loop-at.invariant c.loop-at-test.true c.gen_turn-turn.ensures going
    kept.work kept.lines kept.operands

pub shape_of-work : goal.shape_of-work
shape_of-work c = c.loop-at.invariant.long_work

pub shape_of-lines : goal.shape_of-lines
shape_of-lines c = c.loop-at.invariant.long_lines

pub shape_of-operands : goal.shape_of-operands
shape_of-operands c = c.loop-at.invariant.long_operands

pub returns : goal.returns
returns c =
    laws.walk_done c.args.book_kinds.now c.args.book_words.now c.loop-at.invariant c.loop-at-test.false
