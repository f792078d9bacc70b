-- `gen_atomic::slot_of` meets its contract.
use Rattle.std.proofs.Common.{arith}
use Rattle.gen_atomic.specs.Atomic as laws
use Rattle.gen_atomic.proofs.slot_of.Goals as goal

pub returns-then-dest-eq0 : goal.returns-then-dest-eq0
returns-then-dest-eq0 c = λ m k below maps.
    laws.nameless k c.args.dest c.args.s c.if-dest-eq0.true c.refuse.ensures

pub name_slot-requires : goal.name_slot-requires
name_slot-requires c =
    c.requires.there c.if-dest-eq0.false

pub returns : goal.returns
returns c = λ m k below maps.
    let z = c.if-dest-eq0.false in
    laws.result_slot k c.args.dest c.args.s z (c.name_slot.ensures m k (omega arith) maps)
