-- `gen_size::measured_size` meets its contract.
use Rattle.gen_size.specs.Sizes as laws
use Rattle.gen_size.proofs.measured_size.Goals as goal

pub size_of-requires : goal.size_of-requires
size_of-requires c =
    laws.ask c.requires

pub returns : goal.returns
returns c = laws.size_noted c.args.s _ c.size_of.ensures _ c.noted.ensures
