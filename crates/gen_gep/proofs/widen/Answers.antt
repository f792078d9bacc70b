-- `gen_gep::widen` meets its contract.
use native.Mathlib.Omega.{arith}
use Rattle.gen_gep.specs.Lines.{widened, wide_enough}
use Rattle.gen_gep.proofs.widen.Goals as goal

pub returns-then-width-lt64 : goal.returns-then-width-lt64
returns-then-width-lt64 c =
    widened c.args.width (omega (arith, c.if-width-lt64.true)) c.emit_sext.ensures

pub returns : goal.returns
returns c =
    wide_enough c.args.width c.args.s c.args.lines.now c.args.operands.now (omega (arith, c.if-width-lt64.false))
