-- `name_start` meets its contract: each step goes on to the next name.
use Rattle.std.proofs.Common.{◌-◌, ◌%◌}
use Rattle.print_types.specs.Starts.{Stepping}
use Rattle.print_types.proofs.starts.name_start.Given as goal

abbrev pub invariant-loop : goal.invariant-loop
invariant-loop l = Stepping l.names l.x l.at (l.x % 8 - l.counter)
