use native.Mathlib.Omega.{arith}
use Rattle.names_check.specs.Found.{Through}
use Rattle.names_check.proofs.Through.{through_none, through_then}
use Rattle.names_check.proofs.Words.{word_read, room, word_through, word_whole, word_stuck}
use Rattle.names_check.proofs.front_end.Goals.{else-loop-i-test, then-loop-i-test+then-n-lt8+else-names-i-lt128}
use Rattle.names_check.proofs.front_end.Goals as goal

pub loop-i-init : goal.loop-i-init
loop-i-init c = through_none _ _ c.requires

pub overflow_sub-names : goal.overflow_sub-names
overflow_sub-names c = c.loop-i.invariant.ends

pub overflow_add-i : goal.overflow_add-i
overflow_add-i c = omega (arith, (word_through (word_read _ _ _ _ (λ i. (c.type_inv.names i).fits) c.loop-i-test.true c.word_at-w.ensures c.word_front-n.ensures)).ends)

pub bounds-names-i : goal.bounds-names-i
bounds-names-i c = omega (arith, room (word_read _ _ _ _ (λ i. (c.type_inv.names i).fits) c.loop-i-test.true c.word_at-w.ensures c.word_front-n.ensures), c.if-n-lt8.true)

pub returns-then-names-i-lt128 : goal.returns-then-names-i-lt128
returns-then-names-i-lt128 c =
    let rest = word_stuck (word_read _ _ _ _ (λ i. (c.type_inv.names i).fits) c.loop-i-test.true c.word_at-w.ensures c.word_front-n.ensures) c.if-n-lt8.true c.if-names-i-lt128.true in
    record { through = through_then c.loop-i.invariant rest.through; stuck = rest.stuck }

pub loop-i-preserved : goal.loop-i-preserved
loop-i-preserved c =
    through_then c.loop-i.invariant (word_whole (word_read _ _ _ _ (λ i. (c.type_inv.names i).fits) c.loop-i-test.true c.word_at-w.ensures c.word_front-n.ensures) c.if-n-lt8.false)

pub chars_end-requires : goal.chars_end-requires
chars_end-requires c =
    let reached : Through c.args.names.now c.args.at c.loop-i-test.i = elim c.loop-i-test.branch [
      | else-loop-i-test w ↦ rw w.i-is c.loop-i.invariant
      | then-loop-i-test+then-n-lt8+else-names-i-lt128 w ↦
          rw w.i-is (through_then c.loop-i.invariant (word_through (word_read _ _ _ _ (λ i. (c.type_inv.names i).fits) w.loop-i-test.true w.word_at-w.ensures w.word_front-n.ensures)))
    ] in
    reached.ends

pub returns : goal.returns
returns c =
    let reached : Through c.args.names.now c.args.at c.loop-i-test.i = elim c.loop-i-test.branch [
      | else-loop-i-test w ↦ rw w.i-is c.loop-i.invariant
      | then-loop-i-test+then-n-lt8+else-names-i-lt128 w ↦
          rw w.i-is (through_then c.loop-i.invariant (word_through (word_read _ _ _ _ (λ i. (c.type_inv.names i).fits) w.loop-i-test.true w.word_at-w.ensures w.word_front-n.ensures)))
    ] in
    let rest = c.chars_end.ensures in
    record { through = through_then reached rest.through; stuck = rest.stuck }
