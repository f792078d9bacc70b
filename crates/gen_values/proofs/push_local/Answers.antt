-- `gen_values::push_local` meets its contract: the words tell the line.
use Prim.Native.Nat.{◌+◌}
use mathlib.Core.Path.{refl}
use native.Mathlib.Omega.{arith}
use Rattle.gen_values.specs.Push as laws
use Rattle.book.specs.Work.{param_at}
use Rattle.gen_values.proofs.push_local.Goals as goal

pub returns-then-param-ne0 : goal.returns-then-param-ne0
returns-then-param-ne0 c = λ m k below maps.
    let at = param_at c.args.name in
    laws.param_puts k m c.args.name 0 c.args.work.now below maps refl c.if-param-ne0.true
    (omega (arith, c.shared_slice_known-2-1.given at)) c.put.ensures

pub returns-then-slot-ne0 : goal.returns-then-slot-ne0
returns-then-slot-ne0 c = λ m k below maps.
    let at = param_at c.args.name in
    laws.slot_puts k m c.args.name 0 c.args.work.now below maps refl c.if-param-ne0.false refl c.if-slot-ne0.true
    (omega (arith, c.shared_slice_known-3-1.given (at + 1))) c.put-then-slot-ne0.ensures

pub returns : goal.returns
returns c = λ m k below maps.
    laws.unknown_puts k m c.args.name 0 c.args.work.now below maps c.args.lines.now c.args.operands.now
    refl c.if-param-ne0.false refl c.if-slot-ne0.false c.refuse.ensures
