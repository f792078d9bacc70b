-- `gen_values::trunc_below` meets its contract.
use Rattle.gen_values.specs.Widths as laws
use Rattle.gen_values.proofs.trunc_below.Goals as goal

pub returns-then-width-eq32 : goal.returns-then-width-eq32
returns-then-width-eq32 c =
    laws.whole_32_puts c.args.width _ c.args.s c.args.lines.now c.args.operands.now c.if-width-eq32.true

pub returns-then-width-lt64 : goal.returns-then-width-lt64
returns-then-width-lt64 c =
    laws.below_puts c.args.width c.if-width-eq32.false c.if-width-lt64.true c.emit_trunc_to.ensures

pub returns : goal.returns
returns c =
    laws.whole_64_puts c.args.width _ c.args.s c.args.lines.now c.args.operands.now c.if-width-lt64.false
