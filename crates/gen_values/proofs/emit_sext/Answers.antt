-- `gen_values::emit_sext` meets its contract.
use mathlib.Core.Path.{refl}
use Rattle.gen_values.specs.Widths as laws
use Rattle.gen_values.proofs.emit_sext.Goals as goal

pub returns-then-from-eq1 : goal.returns-then-from-eq1
returns-then-from-eq1 c =
    laws.sext_bit_lem c.args.from c.args.to c.if-from-eq1.true c.sext_bit.ensures

pub returns-in-Some : goal.returns-in-Some
returns-in-Some c =
    laws.sext_puts c.args.from c.args.to c.if-from-eq1.false c.in-Some.ensures.0 c.in-Some.ensures.1
    c.put-extended.ensures c.trunc_below.ensures

pub returns-in-None : goal.returns-in-None
returns-in-None c =
    laws.sext_none c.args.from c.args.to c.if-from-eq1.false refl c.args.lines.now c.args.operands.now
    c.in-None.ensures c.refuse.ensures
