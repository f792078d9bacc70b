use Rattle.std.proofs.Common.{arith, eq-eqb, ne_eqb}
use Rattle.try_cases.proofs.Reading.{up_past, up_stop, up_pass}
use Rattle.try_cases.proofs.text.before.Goals as goal

pub returns-then-b-wanted : goal.returns-then-b-wanted
returns-then-b-wanted c =
    let l = c.loop-i in
    let a = c.args in
    omega (arith, l.invariant.1, up_stop a.wanted a.text.now l.i c.loop-i-test.true (eq-eqb _ _ c.if-b-wanted.true))

pub loop-i-preserved : goal.loop-i-preserved
loop-i-preserved c =
    let l = c.loop-i in
    let a = c.args in
    omega (arith, l.invariant.1, up_pass a.wanted a.text.now l.i c.loop-i-test.true (ne_eqb _ _ c.if-b-wanted.false))

pub returns : goal.returns
returns c =
    let l = c.loop-i in
    let a = c.args in
    omega (arith, l.invariant.1, up_past a.wanted a.text.now l.i c.loop-i-test.false)
