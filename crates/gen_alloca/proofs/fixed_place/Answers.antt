-- `gen_alloca::fixed_place` meets its contract.
use Rattle.gen_alloca.specs.Alloca as laws
use borrow.Author.Rules.{rules}
use Rattle.gen_alloca.proofs.fixed_place.Goals as goal

pub returns : goal.returns
returns c = λ k base.
    laws.fixed_puts c.args.offset k base (search rules) c.put-frame.ensures c.plus_offset.ensures
