-- codegen.rs: `gen_bin`, `gen_icmp`, `gen_conv`, `gen_select`, and `freeze`.
use Rattle.std.specs.Prelude.{ℕ, ◌*◌, Bool, true, false, ◌&&◌, ltb}
use Rattle.book.specs.Ast.{Ty, Value, BinOp, ConvOp, ICmpPred}
use Rattle.book.specs.Result.{Result, ok, err}
use Rattle.layout.specs.Layout.{size_of}
use Rattle.assembly.specs.Line.{Line, Hint}
use Rattle.lowering.specs.Gen.{Gen, line, skip, ◌>>=◌, ◌>>◌, when, fresh}
use Rattle.lowering.specs.Context.{FnCtx}
use Rattle.lowering.specs.Operand.{int_width, work_bits, work_of, emit_trunc_to, emit_sext, push_value, push_typed}

-- "sdiv, srem and signed icmp extend both sides, ashr the left only"
unfoldable pub signed_left : BinOp → Bool
signed_left BinOp.sdiv = true
signed_left BinOp.srem = true
signed_left BinOp.ashr = true
signed_left BinOp.add = false
signed_left BinOp.sub = false
signed_left BinOp.mul = false
signed_left BinOp.udiv = false
signed_left BinOp.urem = false
signed_left BinOp.and = false
signed_left BinOp.or = false
signed_left BinOp.xor = false
signed_left BinOp.shl = false
signed_left BinOp.lshr = false

unfoldable pub signed_right : BinOp → Bool
signed_right BinOp.sdiv = true
signed_right BinOp.srem = true
signed_right BinOp.ashr = false
signed_right BinOp.add = false
signed_right BinOp.sub = false
signed_right BinOp.mul = false
signed_right BinOp.udiv = false
signed_right BinOp.urem = false
signed_right BinOp.and = false
signed_right BinOp.or = false
signed_right BinOp.xor = false
signed_right BinOp.shl = false
signed_right BinOp.lshr = false

unfoldable pub signed_pred : ICmpPred → Bool
signed_pred ICmpPred.eq = false
signed_pred ICmpPred.ne = false
signed_pred ICmpPred.ugt = false
signed_pred ICmpPred.uge = false
signed_pred ICmpPred.ult = false
signed_pred ICmpPred.ule = false
signed_pred ICmpPred.sgt = true
signed_pred ICmpPred.sge = true
signed_pred ICmpPred.slt = true
signed_pred ICmpPred.sle = true

-- `emit_conv_op`
unfoldable pub emit_conv_op : ConvOp → (fw tw : ℕ) → Gen
emit_conv_op ConvOp.trunc fw tw = emit_trunc_to tw
emit_conv_op ConvOp.zext fw tw = skip
emit_conv_op ConvOp.sext fw tw = emit_sext fw tw
emit_conv_op ConvOp.ptr_to_int fw tw = when (ltb tw 64) (emit_trunc_to tw)
emit_conv_op ConvOp.int_to_ptr fw tw = skip
emit_conv_op ConvOp.bit_cast fw tw = skip

-- the width of a type that has one, else 8 bits for each byte
unfoldable pub width_or : Result ℕ → (size : ℕ) → ℕ
width_or (ok w) size = w
width_or (err e) size = size * 8

module _ (c : FnCtx) where
  -- `gen_bin`: "Bin and icmp work at 32 or 64", "Bin results under 32 are truncated"
  unfoldable pub gen_bin : BinOp → Ty → (lhs rhs : Value) → Gen
  gen_bin op ty lhs rhs = do
    w ← int_width ty
    push_value c lhs w
    when (signed_left op && ltb w (work_bits w)) (emit_sext w (work_bits w))
    push_value c rhs w
    when (signed_right op && ltb w (work_bits w)) (emit_sext w (work_bits w))
    line (Line.bin op (work_of w))
    when (ltb w 32) (emit_trunc_to w)

  -- `gen_icmp`
  unfoldable pub gen_icmp : ICmpPred → Ty → (lhs rhs : Value) → Gen
  gen_icmp pred ty lhs rhs = do
    w ← int_width ty
    push_value c lhs w
    when (signed_pred pred && ltb w (work_bits w)) (emit_sext w (work_bits w))
    push_value c rhs w
    when (signed_pred pred && ltb w (work_bits w)) (emit_sext w (work_bits w))
    line (Line.icmp pred (work_of w))

  -- `gen_conv`: a bitcast asks for no target width
  unfoldable pub gen_widths : ConvOp → Ty → Value → Ty → Gen
  gen_widths op fromTy val toTy = do
    fw ← int_width fromTy
    tw ← int_width toTy
    push_value c val fw
    emit_conv_op op fw tw

  unfoldable pub gen_conv : ConvOp → Ty → Value → Ty → Gen
  gen_conv ConvOp.bit_cast fromTy val toTy = push_typed c fromTy val
  gen_conv ConvOp.trunc fromTy val toTy = gen_widths ConvOp.trunc fromTy val toTy
  gen_conv ConvOp.zext fromTy val toTy = gen_widths ConvOp.zext fromTy val toTy
  gen_conv ConvOp.sext fromTy val toTy = gen_widths ConvOp.sext fromTy val toTy
  gen_conv ConvOp.ptr_to_int fromTy val toTy = gen_widths ConvOp.ptr_to_int fromTy val toTy
  gen_conv ConvOp.int_to_ptr fromTy val toTy = gen_widths ConvOp.int_to_ptr fromTy val toTy

  -- `gen_select`
  unfoldable pub gen_select : Value → Ty → (tval fval : Value) → Gen
  gen_select cond ty tval fval = do
    w ← int_width ty
    fresh λ lFalse. fresh λ lDone. do
      push_value c cond 1
      line (Line.jump Hint.sel_false lFalse)
      push_value c tval w
      line (Line.jump Hint.sel_done lDone)
      line (Line.label Hint.sel_false lFalse)
      push_value c fval w
      line (Line.label Hint.sel_done lDone)

  -- `freeze` measures its type first, whatever it is
  unfoldable pub gen_freeze : Ty → Value → Gen
  gen_freeze ty val = do
    size ← size_of c.codegen.structs ty
    push_value c val (width_or (int_width ty) size)

-- opens every definition of this file, for an example that computes
unfoldable pub open_arith : Unit {0}
unfolding signed_left signed_right signed_pred emit_conv_op width_or gen_bin gen_icmp gen_widths gen_conv gen_select gen_freeze
open_arith = tt
