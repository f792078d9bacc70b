use mathlib.Core.Path.{sym, ◌∙◌}
use Rattle.names_spelling.proofs.Spell.{name_past, name_ended, name_more, starts_over, starts_none, starts_more, starts_differ}
use Rattle.names_spelling.proofs.name_starts.Goals.{then-names-i-via-then-names-i, then-names-i-via-else-names-i+then-names-i-eq-END, then-names-i-via-else-names-i+else-names-i-eq-END+then-names-i-2}
use Rattle.names_spelling.proofs.name_starts.Goals as goal

pub returns-then-names-i : goal.returns-then-names-i
returns-then-names-i c =
    let i = c.loop-b.invariant in
    elim c.then-names-i.branch [
      | then-names-i-via-then-names-i w ↦ sym (i ∙ starts_none _ _ c.loop-b-test.true _ (name_past _ _ w.if-names-i.true))
      | then-names-i-via-else-names-i+then-names-i-eq-END w ↦ sym (i ∙ starts_none _ _ c.loop-b-test.true _ (name_ended _ _ w.if-names-i.false w.if-names-i-eq-END.true))
      | then-names-i-via-else-names-i+else-names-i-eq-END+then-names-i-2 w ↦
          sym (i ∙ starts_differ _ _ c.loop-b-test.true _ _ _ (name_more _ _ w.if-names-i.false w.if-names-i-eq-END.false) w.if-names-i-2.true)
    ]

pub loop-b-preserved : goal.loop-b-preserved
loop-b-preserved c =
    c.loop-b.invariant ∙ starts_more _ _ c.loop-b-test.true _ _ _ (name_more _ _ c.if-names-i.false c.if-names-i-eq-END.false) c.if-names-i-2.false

pub returns : goal.returns
returns c = sym (c.loop-b.invariant ∙ starts_over _ _ _ c.loop-b-test.false)
