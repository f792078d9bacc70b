-- `gen_arith::signed_pred` meets its contract.
use Rattle.std.proofs.Common.{⊎_elim}
use Rattle.lowering.specs.Arith.{signed_pred}
use Rattle.gen_arith.specs.Arith.{unsigned_pred}
use Rattle.gen_arith.proofs.signed_pred.Goals as goal

pub returns-in-Sgt : goal.returns-in-Sgt
unfolding signed_pred
returns-in-Sgt c = ⊎_elim (λ e. rw e) (⊎_elim (λ e. rw e) (⊎_elim (λ e. rw e) (λ e. rw e))) c.in-Sgt.is

pub returns-in_default : goal.returns-in_default
returns-in_default c = unsigned_pred _ c.in_default.not-Sgt c.in_default.not-Sge c.in_default.not-Slt c.in_default.not-Sle
