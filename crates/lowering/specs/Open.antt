-- opens every definition that a translation is computed by: an example says `unfolding openLowering`
use Rattle.layout.specs.Layout.{open_layout}
use Rattle.layout.specs.Step.{open_step}
use Rattle.assembly.specs.Open.{open_assembly}
use Rattle.lowering.specs.Gen.{open_gen}
use Rattle.lowering.specs.Context.{open_context}
use Rattle.lowering.specs.Operand.{open_operand}
use Rattle.lowering.specs.Arith.{open_arith}
use Rattle.lowering.specs.Memory.{open_memory}
use Rattle.lowering.specs.Gep.{open_gep}
use Rattle.lowering.specs.Call.{open_call}
use Rattle.lowering.specs.Inst.{open_inst}
use Rattle.lowering.specs.Edge.{open_edge}
use Rattle.lowering.specs.Term.{open_term}
use Rattle.layout.specs.Frame.{open_frame}
use Rattle.lowering.specs.Function.{open_function}
use Rattle.lowering.specs.Translate.{open_translate}

unfoldable pub open_lowering : Unit {0}
unfolding open_layout open_step open_assembly open_gen open_context open_operand open_arith open_memory open_gep open_call open_inst open_edge open_term open_frame open_function open_translate
open_lowering = tt
