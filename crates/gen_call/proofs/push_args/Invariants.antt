-- `gen_call::push_args` meets its contract: the arguments in front of the place are pushed, and the rest is left.
use Rattle.std.proofs.Common.{◌-◌, length}
use Rattle.gen_call.specs.Args as laws
use Rattle.gen_call.proofs.push_args.Given as goal

abbrev pub invariant-loop-at : goal.invariant-loop-at
invariant-loop-at l = laws.Pushing l.names l.kinds l.words l.work l.at l.initial.reached l.reached l.initial.lines l.initial.operands l.lines l.operands

abbrev pub decreases-loop-at : goal.decreases-loop-at
decreases-loop-at l = length l.kinds - l.at
