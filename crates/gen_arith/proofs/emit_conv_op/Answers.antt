-- `gen_arith::emit_conv_op` meets its contract.
use Rattle.std.proofs.Common.{⊎_elim}
use Rattle.lowering.specs.Arith.{emit_conv_op}
use Rattle.gen_lines.specs.Puts.{skip_puts}
use Rattle.gen_arith.proofs.emit_conv_op.Goals as goal

pub returns-in-Trunc : goal.returns-in-Trunc
unfolding emit_conv_op
returns-in-Trunc c = rw c.in-Trunc.is c.emit_trunc_to.ensures

pub returns-in-SExt : goal.returns-in-SExt
unfolding emit_conv_op
returns-in-SExt c = rw c.in-SExt.is c.emit_sext.ensures

pub returns-in-PtrToInt : goal.returns-in-PtrToInt
unfolding emit_conv_op
returns-in-PtrToInt c = rw c.in-PtrToInt.is c.cut.ensures

pub returns-in-ZExt : goal.returns-in-ZExt
unfolding emit_conv_op
returns-in-ZExt c =
    let nothing = skip_puts c.args.s c.args.lines.now c.args.operands.now in
    ⊎_elim (λ e. rw e nothing) (⊎_elim (λ e. rw e nothing) (λ e. rw e nothing)) c.in-ZExt.is
