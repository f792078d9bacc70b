-- `layout_memo::scalars::pass_scalars` meets its contract.
use Prim.Native.Nat.{◌-◌}
use Rattle.layout_memo.specs.Scalars.{Passes, RunFrom}
use Rattle.layout_memo.proofs.scalars.pass_scalars.Given as goal

abbrev pub invariant-loop-run : goal.invariant-loop-run
invariant-loop-run l = Passes l.kinds l.words l.packed l.stop l.initial.run l.run × RunFrom l.names l.kinds l.words l.run

abbrev pub decreases-loop-run : goal.decreases-loop-run
decreases-loop-run l = l.stop - l.run.at
