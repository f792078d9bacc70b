-- opens every definition that a run of the machine is computed by: an example says `unfolding openMachine`
use Rattle.assembly.specs.Open.{open_assembly}
use Rattle.machine.specs.Signed.{open_signed}
use Rattle.machine.specs.Memory.{open_memory}
use Rattle.machine.specs.State.{open_state}
use Rattle.machine.specs.Values.{open_values}
use Rattle.machine.specs.Labels.{open_labels}
use Rattle.machine.specs.Line.{open_line}
use Rattle.machine.specs.Run.{open_run}

unfoldable pub open_machine : Unit {0}
unfolding open_assembly open_signed open_memory open_state open_values open_labels open_line open_run
open_machine = tt
