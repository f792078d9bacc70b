use mathlib.Core.Path.{sym, ap, ◌∙◌}
use native.Mathlib.Omega.{arith}
use lib.ListN.{length}
use Rattle.names.specs.Labels.{sanitize_length}
use Rattle.names.specs.Labels.{clean_over, clean_tail, clean_more}
use Rattle.names_spelling.proofs.clean_len.Goals.{then-not-is_tail, else-not-is_tail}
use Rattle.names_spelling.proofs.clean_len.Goals as goal

pub overflow_add-n : goal.overflow_add-n
overflow_add-n c =
    let name = c.args.name.now in
    let first = sym c.is_tail.ensures ∙ c.if-not-is_tail.true in
    let more = clean_more name c.loop-b.b-index c.loop-b-test.true first in
    omega (arith, c.loop-b.invariant, ap length more, sanitize_length name)

pub loop-b-preserved : goal.loop-b-preserved
loop-b-preserved c =
    let name = c.args.name.now in
    let is = sym c.is_tail.ensures in
    let more = clean_more name c.loop-b.b-index c.loop-b-test.true in
    let tail = clean_tail name c.loop-b.b-index c.loop-b-test.true in
    elim c.if-not-is_tail.branch [
      | then-not-is_tail w ↦ omega (arith, c.loop-b.invariant, ap length (more (is ∙ w.if-not-is_tail.true)), w.n-is)
      | else-not-is_tail w ↦ omega (arith, c.loop-b.invariant, ap length (tail (is ∙ w.if-not-is_tail.false)), w.n-is)
    ]

pub returns : goal.returns
returns c =
    omega (arith, c.loop-b.invariant, ap length (clean_over c.args.name.now c.loop-b.b-index c.loop-b-test.false))
