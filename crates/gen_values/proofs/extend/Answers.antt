-- `gen_values::extend` meets its contract.
use native.Mathlib.Omega.{arith}
use Rattle.gen_values.specs.Widths as laws
use Rattle.gen_values.proofs.extend.Goals as goal

pub returns-then-not-signed : goal.returns-then-not-signed
returns-then-not-signed c =
    laws.unsigned_kept c.args.signed c.args.width c.args.s c.args.lines.now c.args.operands.now c.if-not-signed.true

pub returns-then-width-lt32 : goal.returns-then-width-lt32
returns-then-width-lt32 c =
    laws.narrow_extended c.args.signed c.args.width c.if-not-signed.false c.if-width-lt32.true c.emit_sext.ensures

pub returns-then-width-eq32 : goal.returns-then-width-eq32
returns-then-width-eq32 c =
    laws.kept_32 c.args.signed c.args.width c.args.s c.args.lines.now c.args.operands.now c.if-not-signed.false c.if-width-eq32.true

pub returns-then-width-lt64 : goal.returns-then-width-lt64
returns-then-width-lt64 c =
    laws.wide_extended c.args.signed c.args.width c.if-not-signed.false (omega arith) c.if-width-lt64.true c.emit_sext-then-width-lt64.ensures

pub returns : goal.returns
returns c =
    laws.kept_64 c.args.signed c.args.width c.args.s c.args.lines.now c.args.operands.now c.if-not-signed.false c.if-width-lt64.false
