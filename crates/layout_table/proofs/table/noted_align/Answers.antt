-- `layout_table::table::noted_align` meets its contract.
use Rattle.std.proofs.lemmas.Option.{IfSome_then}
use native.Mathlib.Omega.{arith}
use Rattle.layout_table.specs.Table as laws
use Rattle.layout_table.proofs.table.noted_align.Goals as goal

pub align_key-requires : goal.align_key-requires
align_key-requires c = laws.type_place c.requires

pub probe-requires : goal.probe-requires
probe-requires c = laws.room_few _ _ _ c.room_for-facts.ensures (omega arith)

pub returns : goal.returns
returns c =
    IfSome_then _ c.probe.ensures (λ r f. laws.align_probed c.requires _ r c.align_key.ensures f)
