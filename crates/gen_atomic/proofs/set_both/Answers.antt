-- `gen_atomic::set_both` meets its contract.
use mathlib.Core.Path.{refl}
use Rattle.std.proofs.Common.{◌∙◌, rules}
use Rattle.gen_atomic.specs.Atomic as laws
use Rattle.gen_atomic.proofs.set_both.Goals as goal

pub shape_of-lines : goal.shape_of-lines
shape_of-lines c =
    c.put.auto.lines ∙ c.put-equal.auto.lines ∙ c.push_value-compared.auto.lines ∙ c.put-found.auto.lines ∙ c.put-twice.auto.lines

pub shape_of-operands : goal.shape_of-operands
shape_of-operands c =
    c.put.auto.operands ∙ c.put-equal.auto.operands ∙ c.push_value-compared.auto.operands ∙ c.put-found.auto.operands ∙ c.put-twice.auto.operands

pub returns : goal.returns
returns c = λ m k v at maps.
    laws.both_puts k v c.args.slot (search rules) c.put-twice.ensures c.put-found.ensures
    (c.push_value-compared.ensures m k v at maps) c.put-equal.ensures refl c.put.ensures
