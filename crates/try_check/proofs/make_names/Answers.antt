use native.Mathlib.Omega.{arith}
use lib.ListN.{length-set}
use Rattle.try_check.proofs.make_names.Goals as goal

pub bounds-names-put-in-loop-i : goal.bounds-names-put-in-loop-i
bounds-names-put-in-loop-i c = simp length-set (omega arith)

pub bounds-names-put-in-loop-i-2 : goal.bounds-names-put-in-loop-i-2
bounds-names-put-in-loop-i-2 c = simp length-set (omega arith)

pub bounds-names-put-in-loop-i-3 : goal.bounds-names-put-in-loop-i-3
bounds-names-put-in-loop-i-3 c = simp length-set (omega arith)

pub loop-i-preserved : goal.loop-i-preserved
loop-i-preserved c = simp length-set (omega arith)
