-- `gen_atomic::gen_extractvalue` meets its contract.
use mathlib.Core.Path.{refl}
use Rattle.std.proofs.Common.{sym}
use Rattle.gen_values.specs.Fields.{operand_at, value_at, behind_value}
use Rattle.gen_fields.specs.Places as places
use Rattle.gen_fields.specs.Given as given
use Rattle.gen_atomic.specs.Atomic as laws
use Rattle.gen_atomic.proofs.gen_extractvalue.Goals as goal

pub agg_slot-first-requires : goal.agg_slot-first-requires
agg_slot-first-requires c =
    operand_at (value_at c.args.kinds.now c.args.words.now 0 c.requires.fields) c.requires.room

pub bounds-words-1 : goal.bounds-words-1
bounds-words-1 c =
    let ks = c.args.kinds.now in
    let ws = c.args.words.now in
    places.index_in_lem ks ws 1 (behind_value ks ws 0 c.requires.fields)

pub store_dest-requires : goal.store_dest-requires
store_dest-requires c =
    given.dest_reaches c.requires

pub returns : goal.returns
returns c = λ p k fields maps.
    let ks = c.args.kinds.now in
    let ws = c.args.words.now in
    let m = c.args.names in
    let index = places.index_is ks ws 1 (behind_value ks ws 0 fields) in
    rw (sym index)
    (laws.extract_puts k p.0 _ _ (c.agg_slot-first.ensures m k p.0 (value_at ks ws 0 fields) maps)
    c.need-known.ensures refl c.put-got.ensures
    (c.store_dest.ensures m k c.requires.result maps))
