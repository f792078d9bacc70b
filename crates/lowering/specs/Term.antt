-- codegen.rs: `gen_term` and `emit_frame_leave`.
use Rattle.std.specs.Prelude.{ℕ, suc, List, [], ◌∷◌, length}
use Rattle.std.proofs.Math.Option.{Option, none, some}
use Rattle.book.specs.Ast.{Ty, Value, TypedVal, ICmpPred, Case, Terminator}
use Rattle.book.specs.Result.{ok_or}
use Rattle.assembly.specs.Line.{Line, Hint}
use Rattle.lowering.specs.Gen.{Gen, line, skip, ◌>>=◌, ◌>>◌, when, fresh, reserve}
use Rattle.lowering.specs.Context.{FnCtx}
use Rattle.lowering.specs.Operand.{int_width, work_of, push_int, push_value, push_typed}
use Rattle.lowering.specs.Edge.{edge}

module _ (c : FnCtx) where
  unfoldable pub emit_frame_leave : Gen
  emit_frame_leave = when c.has_frame (do
    line (Line.get_local c.bp_slot)
    line Line.thread_set)

  -- `ret`: a value, 0 for void
  unfoldable pub ret_value : Option TypedVal → Gen
  ret_value none = line (Line.push 0)
  ret_value (some tv) = push_typed c tv.ty tv.val

  unfoldable pub gen_ret : Option TypedVal → Gen
  gen_ret val = do
    ret_value val
    emit_frame_leave
    line Line.ret

  unfoldable pub gen_cond_br : (pred : ℕ) → Value → (if_true : ℕ) → Option ℕ → Gen
  gen_cond_br pred cond if_true if_false = do
    false ← ok_or 19 if_false
    push_value c cond 1
    fresh λ lFalse. do
      line (Line.jump Hint.br_false lFalse)
      edge c pred if_true
      line (Line.label Hint.br_false lFalse)
      edge c pred false

  unfoldable pub gen_br : (pred : ℕ) → Option Value → (if_true : ℕ) → Option ℕ → Gen
  gen_br pred none if_true if_false = edge c pred if_true
  gen_br pred (some cond) if_true if_false = gen_cond_br pred cond if_true if_false

  -- ---- `switch`: the tests of the cases, whose labels count up from l; then their edges
  unfoldable pub case_tests : (w : ℕ) → Value → (l : ℕ) → List Case → Gen
  case_tests w val l [] = skip
  case_tests w val l (k ∷ ks) = do
    push_value c val w
    push_int k.value w
    line (Line.icmp ICmpPred.eq (work_of w))
    line (Line.jump Hint.sw_case l)
    case_tests w val (suc l) ks

  unfoldable pub case_edges : (pred l : ℕ) → List Case → Gen
  case_edges pred l [] = skip
  case_edges pred l (k ∷ ks) = do
    line (Line.label Hint.sw_case l)
    edge c pred k.label
    case_edges pred (suc l) ks

  unfoldable pub gen_switch : (pred : ℕ) → Ty → Value → (default : ℕ) → List Case → Gen
  gen_switch pred ty val default cases = do
    w ← int_width ty
    reserve (length cases) λ l. do
      case_tests w val l cases
      edge c pred default
      case_edges pred l cases

  unfoldable pub gen_term : (pred : ℕ) → Terminator → Gen
  gen_term pred (Terminator.ret val) = gen_ret val
  gen_term pred (Terminator.br cond if_true if_false) = gen_br pred cond if_true if_false
  gen_term pred (Terminator.switch ty val default cases) = gen_switch pred ty val default cases
  gen_term pred Terminator.unreachable = line Line.panic

-- opens every definition of this file, for an example that computes
unfoldable pub open_term : Unit {0}
unfolding emit_frame_leave ret_value gen_ret gen_cond_br gen_br case_tests case_edges gen_switch gen_term
open_term = tt
