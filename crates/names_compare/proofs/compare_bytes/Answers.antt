use mathlib.Core.Path.{refl, sym, ap, ◌∙◌}
use native.Mathlib.Omega.{arith}
use Rattle.names_compare.specs.Ordering.{ordering, number_order}
use Rattle.names_compare.proofs.Steps.{bytes_on, bytes_differ, bytes_over}
use Rattle.names_compare.proofs.compare_bytes.Goals as goal

pub loop-i-init : goal.loop-i-init
loop-i-init c = (omega (arith, c.requires.words_le_at), record { ordered = refl; counted = refl })

pub returns-then-a-i : goal.returns-then-a-i
returns-then-a-i c =
    let told = bytes_differ c.loop-i.invariant.1 (omega (arith, c.min-n.ensures)) (omega (arith, c.min-n.ensures))
    (λ i. (c.type_inv.a i).fits) (λ i. (c.type_inv.b i).fits) c.if-a-i.true in
    record { order_value = c.cmp.ensures ∙ number_order _ _ ∙ ap ordering (sym told.ordered); steps_value = sym told.counted }

pub loop-i-preserved : goal.loop-i-preserved
loop-i-preserved c =
    (omega arith, bytes_on c.loop-i.invariant.1 (omega (arith, c.min-n.ensures)) (omega (arith, c.min-n.ensures)) c.if-a-i.false)

pub returns : goal.returns
returns c =
    let told = bytes_over c.loop-i.invariant.1 (omega (arith, c.loop-i.auto, c.min-n.ensures)) in
    record { order_value = c.cmp-2.ensures ∙ number_order _ _ ∙ ap ordering (sym told.ordered); steps_value = sym told.counted }
