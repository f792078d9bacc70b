-- `gen_term::gen_ret` meets its contract.
use Rattle.gen_term.specs.Returns as laws
use Rattle.gen_term.proofs.gen_ret.Goals as goal

-- src/lib.rt:73:1
pub returns : goal.returns
returns c = λ k val fields maps based.
    laws.ret_puts k val (c.ret_value-pushed.ensures k val fields maps) (c.emit_frame_leave-left.ensures k based) c.put.ensures
