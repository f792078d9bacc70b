use Rattle.std.proofs.Common.{◌≡◌, ◌≤◌, ◌<◌, get_or, refl, arith}
use Rattle.print.specs.Segments.{ahead_comment, ahead_block, ahead_next, ahead_end}
use Rattle.print.proofs.segments.headed.Goals as goal

pub loop-kind-init : goal.loop-kind-init
loop-kind-init c = record { same = refl }

pub returns-in-0 : goal.returns-in-0
returns-in-0 c = ahead_comment c.loop-kind.invariant c.loop-kind-test.true c.in-0.is

pub returns-in-2 : goal.returns-in-2
returns-in-2 c =
    let k = get_or c.args.line_kinds.now c.loop-kind.kind-index 0 in
    let low : 2 ≤ k = omega arith in
    let high : k < 4 = omega arith in
    ahead_block c.loop-kind.invariant c.loop-kind-test.true low high

pub loop-kind-preserved : goal.loop-kind-preserved
loop-kind-preserved c =
    let k = get_or c.args.line_kinds.now c.loop-kind.kind-index 0 in
    let comment : k ≡ 0 → ⊥ = λ e. omega arith in
    let label : k ≡ 2 → ⊥ = λ e. omega arith in
    let jump : k ≡ 3 → ⊥ = λ e. omega arith in
    ahead_next c.loop-kind.invariant c.loop-kind-test.true comment label jump

pub returns : goal.returns
returns c = ahead_end c.loop-kind.invariant c.loop-kind-test.false
