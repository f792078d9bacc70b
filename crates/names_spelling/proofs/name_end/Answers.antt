use mathlib.Core.Path.{◌≡◌, sym, ◌∙◌}
use native.Mathlib.Omega.{arith}
use borrow.Author.Tests.{eq-eqb, ne_eqb}
use Rattle.names.specs.Name.{is_end, line, name_from}
use Rattle.names_spelling.proofs.Scan.{reach_past, reach_stop, reach_pass}
use Rattle.names_spelling.proofs.name_end.Goals as goal

pub returns-then-names-i-eq-END : goal.returns-then-names-i-eq-END
unfolding name_from line is_end
returns-then-names-i-eq-END c =
    let l = c.loop-i in
    sym (l.invariant.1 ∙ reach_stop is_end _ l.i c.loop-i-test.true (eq-eqb _ 10 c.if-names-i-eq-END.true))

pub loop-i-preserved : goal.loop-i-preserved
unfolding name_from line is_end
loop-i-preserved c =
    let l = c.loop-i in
    (omega arith, l.invariant.1 ∙ reach_pass is_end _ l.i c.loop-i-test.true (ne_eqb _ 10 c.if-names-i-eq-END.false))

pub returns : goal.returns
unfolding name_from line is_end
returns c =
    let l = c.loop-i in
    let here : c.max.result ≡ l.i = omega (arith, c.max.ensures, l.invariant.0) in
    here ∙ sym (l.invariant.1 ∙ reach_past is_end _ l.i c.loop-i-test.false)
