-- `gen_edge::put_at` meets its contract.
use Rattle.std.proofs.Common.{set, ap, ◌∙◌, rules}
use Rattle.gen_values.specs.Push.{word_same}
use Rattle.gen_edge.proofs.put_at.Goals as goal

-- src/lib.rt:187:1
pub returns : goal.returns
returns c =
    let lined = c.put.ensures in
    (lined.kinds, lined.operands ∙ ap (set c.args.operands.now c.args.place) (word_same (search rules)))
