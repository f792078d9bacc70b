-- `gen_values::store_dest` meets its contract.
use Prim.Native.Nat.{◌-◌}
use mathlib.Core.Path.{refl}
use native.Mathlib.Omega.{arith}
use Rattle.gen_values.specs.Widths as laws
use Rattle.book.specs.Work.{slot_at}
use Rattle.gen_values.proofs.store_dest.Goals as goal

pub returns-then-dest-eq0 : goal.returns-then-dest-eq0
returns-then-dest-eq0 c = λ m k below maps.
    laws.nameless_puts k m c.args.dest c.args.work.now below maps c.args.lines.now c.args.operands.now c.if-dest-eq0.true c.refuse.ensures

pub overflow_mul-slot : goal.overflow_mul-slot
overflow_mul-slot c =
    omega (arith, c.requires.there c.if-dest-eq0.false, c.well_formed)

pub overflow_add-slot : goal.overflow_add-slot
overflow_add-slot c =
    omega (arith, c.requires.there c.if-dest-eq0.false, c.well_formed)

pub offset_bounds-work-dest : goal.offset_bounds-work-dest
offset_bounds-work-dest c =
    omega (arith, c.requires.there c.if-dest-eq0.false, c.well_formed)

pub bounds-work-dest : goal.bounds-work-dest
bounds-work-dest c =
    c.requires.there c.if-dest-eq0.false

pub returns-then-slot-eq0 : goal.returns-then-slot-eq0
returns-then-slot-eq0 c = λ m k below maps.
    laws.slotless_puts k m c.args.dest c.args.work.now below maps c.args.lines.now c.args.operands.now c.if-dest-eq0.false refl
    c.if-slot-eq0.true c.refuse-then-slot-eq0.ensures

pub returns : goal.returns
returns c = λ m k below maps.
    laws.stored_puts k m c.args.dest c.args.work.now below maps c.if-dest-eq0.false refl c.if-slot-eq0.false
    (omega (arith, c.shared_slice_known-2-1.given (slot_at (c.args.dest - 1)))) c.put.ensures
