-- `gen_fields::push_typed` meets its contract.
use Rattle.gen_values.specs.Fields.{width_is, value_part, operand_part}
use Rattle.gen_fields.specs.Places as laws
use Rattle.gen_fields.proofs.push_typed.Goals as goal

pub push_value-requires : goal.push_value-requires
push_value-requires c =
    operand_part c.requires.value

pub returns : goal.returns
returns c = λ m k fs p fields behind maps.
    let ks = c.args.kinds.now in
    let ws = c.args.words.now in
    let value = laws.from_front behind in
    laws.typed_puts ks ws 0 fields value k (c.need_width-wide.ensures p.0 (width_is ks ws 0 fields))
    (c.push_value.ensures m k p.1.0 (value_part (laws.typed_value ks ws 0 fields value)) maps)
