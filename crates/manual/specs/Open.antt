-- opens every definition that a source run is computed by: an example says `unfolding openManual`
use Rattle.book.specs.Map.{open_map}
use Rattle.layout.specs.Layout.{open_layout}
use Rattle.layout.specs.Step.{open_step}
use Rattle.layout.specs.Frame.{open_frame}
use Rattle.machine.specs.Open.{open_machine}
use Rattle.manual.specs.Stop.{open_stop}
use Rattle.manual.specs.Values.{open_values}
use Rattle.manual.specs.State.{open_state}
use Rattle.manual.specs.Operand.{open_operand}
use Rattle.manual.specs.Gep.{open_gep}
use Rattle.manual.specs.Call.{open_call}
use Rattle.manual.specs.Inst.{open_inst}
use Rattle.manual.specs.Term.{open_term}
use Rattle.manual.specs.Run.{open_run}

unfoldable pub open_manual : Unit {0}
unfolding open_map open_layout open_step open_frame open_machine open_stop open_values open_state open_operand open_gep open_call open_inst open_term open_run
open_manual = tt
