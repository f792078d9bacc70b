use native.Mathlib.Omega.{arith}
use Rattle.layout_table.specs.Table as laws
use Rattle.layout_table.proofs.table.find.Goals as goal

pub returns-then-facts-lt-LEAST_FACTS : goal.returns-then-facts-lt-LEAST_FACTS
returns-then-facts-lt-LEAST_FACTS c =
    laws.best_none c.requires.ask c.args.packed _ _ c.no_fields.ensures

pub key_of-requires : goal.key_of-requires
key_of-requires c =
    (laws.find_place c.requires c.args.packed, omega (arith, c.requires.few, c.loop-before.invariant))

pub probe-requires : goal.probe-requires
probe-requires c = laws.room_few _ _ _ c.room_for-facts.ensures (omega arith)

pub returns-in-Some : goal.returns-in-Some
returns-in-Some c =
    laws.find_here c.requires c.args.packed _ _ _ c.key_of.ensures c.in-Some.ensures c.loop-before.invariant

pub loop-before-smaller : goal.loop-before-smaller
loop-before-smaller c =
    laws.bit_less _ c.loop-before-test.true

pub loop-before-preserved : goal.loop-before-preserved
loop-before-preserved c =
    omega (arith, laws.bit_less c.loop-before.before c.loop-before-test.true, c.loop-before.invariant)

pub returns : goal.returns
returns c =
    laws.best_none c.requires.ask c.args.packed _ _ c.no_fields-2.ensures
