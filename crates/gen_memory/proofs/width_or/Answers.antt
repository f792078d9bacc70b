-- `gen_memory::width_or` meets its contract.
use Rattle.std.proofs.Common.{get_or, ◌∙◌}
use Rattle.gen_values.specs.Values.{width_by}
use Rattle.gen_memory.specs.Freeze as laws
use Rattle.gen_memory.proofs.width_or.Goals as goal

pub returns : goal.returns
returns c = λ t says.
    c.unwrap_or.ensures ∙ laws.width_from t c.args.bytes (width_by (get_or c.args.kinds.now 0 0) (get_or c.args.words.now 0 0)) _ c.width_of.ensures says
