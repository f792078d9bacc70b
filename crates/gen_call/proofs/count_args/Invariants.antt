-- `gen_call::count_args` meets its contract: so many arguments lie behind the place, and the rest is left.
use Rattle.std.proofs.Common.{◌-◌, length}
use Rattle.gen_call.specs.Args as laws
use Rattle.gen_call.proofs.count_args.Given as goal

abbrev pub invariant-loop-at : goal.invariant-loop-at
invariant-loop-at l = laws.Counting l.names l.kinds l.words l.at l.args

abbrev pub decreases-loop-at : goal.decreases-loop-at
decreases-loop-at l = length l.kinds - l.at
