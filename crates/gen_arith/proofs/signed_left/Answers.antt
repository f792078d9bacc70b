-- `gen_arith::signed_left` meets its contract.
use Rattle.std.proofs.Common.{⊎_elim}
use Rattle.lowering.specs.Arith.{signed_left}
use Rattle.gen_arith.specs.Arith.{unsigned_left}
use Rattle.gen_arith.proofs.signed_left.Goals as goal

pub returns-in-SDiv : goal.returns-in-SDiv
unfolding signed_left
returns-in-SDiv c = ⊎_elim (λ e. rw e) (⊎_elim (λ e. rw e) (λ e. rw e)) c.in-SDiv.is

pub returns-in_default : goal.returns-in_default
returns-in_default c = unsigned_left _ c.in_default.not-SDiv c.in_default.not-SRem c.in_default.not-AShr
