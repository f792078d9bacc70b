-- `gen_term::emit_frame_leave` meets its contract.
use Rattle.std.proofs.Common.{arith, refl}
use Rattle.gen_term.specs.Returns as laws
use Rattle.gen_term.proofs.emit_frame_leave.Goals as goal

-- src/lib.rt:50:9
pub returns-then-base : goal.returns-then-base
returns-then-base c = λ k based.
    laws.leave_puts k based.0 based.1 c.if-base.true refl (omega (arith, c.well_formed)) c.put-got.ensures c.put.ensures

-- src/lib.rt:43:1
pub returns : goal.returns
returns c = λ k based.
    laws.stay_puts k based.1 c.if-base.false c.args.s c.args.lines.now c.args.operands.now
