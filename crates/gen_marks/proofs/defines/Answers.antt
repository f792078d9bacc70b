-- `gen_marks::defines` meets its contract.
use mathlib.Core.Path.{refl}
use Rattle.gen_marks.specs.Defined.{defines}
use Rattle.gen_marks.proofs.defines.Goals as goal

pub returns : goal.returns
unfolding defines
returns c = refl
