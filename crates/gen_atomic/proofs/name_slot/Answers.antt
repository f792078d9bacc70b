-- `gen_atomic::name_slot` meets its contract.
use Rattle.std.proofs.Common.{refl}
use Rattle.book.specs.Refusal.{number_of, number_positive}
use Rattle.gen_atomic.specs.Atomic as laws
use Rattle.gen_atomic.proofs.name_slot.Goals as goal

pub returns-then-word-eq0 : goal.returns-then-word-eq0
returns-then-word-eq0 c = λ m k below maps.
    laws.slot_missing k m c.args.name (number_of c.args.why) c.args.work.now below maps c.args.s refl (number_positive c.args.why) c.if-word-eq0.true c.refuse.ensures

pub returns : goal.returns
returns c = λ m k below maps.
    laws.slot_found k m c.args.name (number_of c.args.why) c.args.work.now below maps c.args.s refl c.if-word-eq0.false
