use Rattle.std.proofs.Common.{◌<◌, ◌≤◌, min, length, sym, ◌∙◌, arith}
use Rattle.print_forms.specs.All.{checked_end, checked_false, checked_true}
use Rattle.print_forms.proofs.check_lines.Goals as goal

pub returns-then-not-allowed : goal.returns-then-not-allowed
returns-then-not-allowed c =
    let here : c.loop-i.i < length c.args.line_kinds.now = omega arith in
    let there : c.loop-i.i < length c.args.operands.now = omega arith in
    sym (c.loop-i.invariant ∙ checked_false _ _ _ _ _ _ _ here there (rw (sym c.form_of.ensures) (sym c.allowed.ensures ∙ c.if-not-allowed.true)))

pub loop-i-preserved : goal.loop-i-preserved
loop-i-preserved c =
    let here : c.loop-i.i < length c.args.line_kinds.now = omega arith in
    let there : c.loop-i.i < length c.args.operands.now = omega arith in
    c.loop-i.invariant ∙ checked_true _ _ _ _ _ _ _ here there (rw (sym c.form_of.ensures) (sym c.allowed.ensures ∙ c.if-not-allowed.false))

pub returns : goal.returns
returns c =
    let over : min (length c.args.line_kinds.now) (length c.args.operands.now) ≤ c.loop-i.i = omega arith in
    sym (c.loop-i.invariant ∙ checked_end _ _ _ _ _ _ _ over)
