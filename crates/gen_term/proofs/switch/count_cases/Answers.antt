use Rattle.std.proofs.Common.{arith}
use Rattle.gen_term.specs.Switches.{count_in_lem, count_next, count_end}
use Rattle.gen_term.proofs.switch.count_cases.Goals as goal

-- src/switch.rt:40:5
pub loop-at-init : goal.loop-at-init
loop-at-init c = (omega arith, λ m cs front. record { todo = cs; front = front; all = omega arith })

-- src/switch.rt:40:11
pub offset_bounds-kinds-at : goal.offset_bounds-kinds-at
offset_bounds-kinds-at c =
    let a = c.args in
    let lent = c.requires in
    let walk = c.loop-at.invariant.1 lent.names lent.cases lent.front in
    let inside = count_in_lem lent.names a.kinds.now a.words.now lent.cases walk in
    omega (arith, inside.0, c.well_formed)

-- src/switch.rt:40:11
pub bounds-kinds-at : goal.bounds-kinds-at
bounds-kinds-at c =
    let a = c.args in
    let lent = c.requires in
    let walk = c.loop-at.invariant.1 lent.names lent.cases lent.front in
    let inside = count_in_lem lent.names a.kinds.now a.words.now lent.cases walk in
    inside.0

-- src/switch.rt:41:9
pub overflow_add-at : goal.overflow_add-at
overflow_add-at c =
    let a = c.args in
    let lent = c.requires in
    let walk = c.loop-at.invariant.1 lent.names lent.cases lent.front in
    let inside = count_in_lem lent.names a.kinds.now a.words.now lent.cases walk in
    let next = count_next lent.names a.kinds.now a.words.now lent.cases walk c.loop-at-test.true in
    omega (arith, next.0, c.well_formed)

-- src/switch.rt:42:9
pub overflow_add-cases : goal.overflow_add-cases
overflow_add-cases c =
    let a = c.args in
    let lent = c.requires in
    let walk = c.loop-at.invariant.1 lent.names lent.cases lent.front in
    let inside = count_in_lem lent.names a.kinds.now a.words.now lent.cases walk in
    let next = count_next lent.names a.kinds.now a.words.now lent.cases walk c.loop-at-test.true in
    omega (arith, next.0, c.loop-at.invariant.0, c.well_formed)

-- src/switch.rt:40:5
pub loop-at-smaller : goal.loop-at-smaller
loop-at-smaller c =
    let a = c.args in
    let lent = c.requires in
    let walk = c.loop-at.invariant.1 lent.names lent.cases lent.front in
    let inside = count_in_lem lent.names a.kinds.now a.words.now lent.cases walk in
    omega (arith, inside.0)

-- src/switch.rt:40:5
pub loop-at-preserved : goal.loop-at-preserved
loop-at-preserved c =
    let a = c.args in
    (omega (arith, c.loop-at.invariant.0), λ m cs front. (count_next m a.kinds.now a.words.now cs (c.loop-at.invariant.1 m cs front) c.loop-at-test.true).1)

-- src/switch.rt:34:1
pub returns : goal.returns
returns c = λ m cs front.
    let a = c.args in
    count_end m a.kinds.now a.words.now cs (c.loop-at.invariant.1 m cs front) c.loop-at-test.false
