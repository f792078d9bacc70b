-- `gen_slices::copy` meets its contract.
use Rattle.gen_slices.specs.Copies.{Copying}
use Rattle.gen_slices.proofs.copy.Given as goal

abbrev pub invariant-loop-i : goal.invariant-loop-i
invariant-loop-i g l = Copying l.many l.from l.initial.to l.to l.i
