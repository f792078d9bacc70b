use mathlib.Core.Path.{sym, ap, ◌∙◌}
use native.Mathlib.Omega.{arith}
use Rattle.names_compare.specs.Ordering.{ordering, number_order}
use Rattle.names_compare.proofs.Steps.{Read, words_start, words_over, words_on, words_differ}
use Rattle.names_compare.proofs.compare.Goals as goal

pub loop-i-init : goal.loop-i-init
loop-i-init c = (omega arith, omega arith, rw c.min-n.ensures (words_start _ _))

pub word_at-x-requires : goal.word_at-x-requires
word_at-x-requires c = omega (arith, c.loop-i-test.true, c.min-n.ensures)

pub word_at-y-requires : goal.word_at-y-requires
word_at-y-requires c = omega (arith, c.loop-i-test.true, c.min-n.ensures)

pub returns-then-x-y : goal.returns-then-x-y
returns-then-x-y c =
    let read : Read c.args.a.now c.args.b.now c.min-n.result c.loop-i.i c.word_at-x.result c.word_at-y.result = record {
      shortest = c.min-n.ensures;
      room = omega (arith, c.loop-i-test.true);
      octets_a = λ i. (c.type_inv.a i).fits;
      octets_b = λ i. (c.type_inv.b i).fits;
      first = c.word_at-x.ensures;
      second = c.word_at-y.ensures;
    } in
    let told = words_differ _ c.loop-i.invariant.2 read c.if-x-y.true in
    record { order_value = c.cmp.ensures ∙ number_order _ _ ∙ ap ordering (sym told.ordered); steps_value = sym told.counted }

pub loop-i-preserved : goal.loop-i-preserved
loop-i-preserved c =
    let going = c.loop-i.invariant in
    let read : Read c.args.a.now c.args.b.now c.min-n.result c.loop-i.i c.word_at-x.result c.word_at-y.result = record {
      shortest = c.min-n.ensures;
      room = omega (arith, c.loop-i-test.true);
      octets_a = λ i. (c.type_inv.a i).fits;
      octets_b = λ i. (c.type_inv.b i).fits;
      first = c.word_at-x.ensures;
      second = c.word_at-y.ensures;
    } in
    (omega (arith, c.loop-i-test.true), omega (arith, going.1), words_on _ going.2 read c.if-x-y.false)

pub compare_bytes-requires : goal.compare_bytes-requires
compare_bytes-requires c =
    let n = c.min-n.ensures in
    record { at_in_bounds = omega (arith, c.loop-i.invariant, n); at_in_bounds_2 = omega (arith, c.loop-i.invariant, n); words_le_at = omega (arith, c.loop-i.invariant) }

pub returns : goal.returns
returns c =
    let left = words_over _ c.loop-i.invariant.2 (omega (arith, c.loop-i-test.false)) in
    record { order_value = c.compare_bytes.ensures.order_value ∙ ap ordering (sym left.ordered); steps_value = c.compare_bytes.ensures.steps_value ∙ sym left.counted }
