-- `gen_arith::signed_right` meets its contract.
use Rattle.std.proofs.Common.{⊎_elim}
use Rattle.lowering.specs.Arith.{signed_right}
use Rattle.gen_arith.specs.Arith.{unsigned_right}
use Rattle.gen_arith.proofs.signed_right.Goals as goal

pub returns-in-SDiv : goal.returns-in-SDiv
unfolding signed_right
returns-in-SDiv c = ⊎_elim (λ e. rw e) (λ e. rw e) c.in-SDiv.is

pub returns-in_default : goal.returns-in_default
returns-in_default c = unsigned_right _ c.in_default.not-SDiv c.in_default.not-SRem
