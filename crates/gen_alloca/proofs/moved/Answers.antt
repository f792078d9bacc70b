-- `gen_alloca::moved` meets its contract.
use Rattle.gen_alloca.specs.Alloca as laws
use Rattle.gen_alloca.proofs.moved.Goals as goal

pub returns : goal.returns
returns c =
    laws.move_puts c.args.size c.times_size-bytes.ensures c.put-end.ensures c.put.ensures
