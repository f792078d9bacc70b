-- `gen_size::measured_align` meets its contract.
use Rattle.gen_size.specs.Sizes as laws
use Rattle.gen_size.proofs.measured_align.Goals as goal

pub align_of-requires : goal.align_of-requires
align_of-requires c =
    laws.ask c.requires

pub returns : goal.returns
returns c = laws.align_noted c.args.s _ c.align_of.ensures _ c.noted.ensures
