-- codegen.rs: `emit_edge_copies`, and the jump behind it. "An edge pushes every incoming value, then sets slots backwards; the scan of leading phis ends at
-- the first instruction that is none. The first matching predecessor counts."
use Rattle.std.specs.Prelude.{ℕ, List, [], ◌∷◌, reverse, eqb}
use Rattle.std.proofs.Math.Option.{Option, none, some}
use Rattle.book.specs.Ast.{Ty, Value, Incoming, Inst}
use Rattle.book.specs.Rule.{pick}
use Rattle.book.specs.Result.{Result, ok, bind, ok_or}
use Rattle.assembly.specs.Line.{Line}
use Rattle.lowering.specs.Gen.{Gen, line, ◌>>=◌, ◌>>◌, each}
use Rattle.book.specs.Shape.{Shape, shape}
use Rattle.lowering.specs.Context.{FnCtx, slot_of}
use Rattle.lowering.specs.Operand.{push_typed}
use Rattle.book.specs.Map.{lookup}

pub record Copy : Type 0 where
  pub slot : ℕ
  pub val : Value
  pub ty : Ty

-- the first value for this predecessor
unfoldable pub incoming_from : (pred : ℕ) → List Incoming → Option Value
incoming_from pred [] = none
incoming_from pred (i ∷ is) = let rest = incoming_from pred is in pick (eqb i.label pred) (some i.val) rest

module _ (c : FnCtx) where
  unfoldable pub copy_of : (pred : ℕ) → Option ℕ → Ty → List Incoming → Result Copy
  copy_of pred dest ty incoming = bind (slot_of c dest) (λ slot. bind (ok_or 18 (incoming_from pred incoming)) (λ val. ok (record { slot = slot; val = val; ty = ty })))

  -- `rest`: the copies of the instructions behind, asked for only behind a phi
  unfoldable pub copy_step : (pred : ℕ) → Option ℕ → Shape → (rest : Result (List Copy)) → Result (List Copy)
  copy_step pred dest (Shape.phi ty incoming) rest = bind (copy_of pred dest ty incoming) (λ cp. bind rest (λ cps. ok (cp ∷ cps)))
  copy_step pred dest (Shape.alloca ty count) rest = ok []
  copy_step pred dest (Shape.call callee) rest = ok []
  copy_step pred dest Shape.cmpxchg rest = ok []
  copy_step pred dest Shape.plain rest = ok []

  unfoldable pub copies : (pred : ℕ) → List Inst → Result (List Copy)
  copies pred [] = ok []
  copies pred (i ∷ is) = let rest = copies pred is in copy_step pred i.dest (shape i.kind) rest

  unfoldable pub push_copy : Copy → Gen
  push_copy cp = push_typed c cp.ty cp.val

  unfoldable pub set_copy : Copy → Gen
  set_copy cp = line (Line.set_local cp.slot)

  unfoldable pub emit_edge_copies : (pred succ : ℕ) → Gen
  emit_edge_copies pred succ = do
    bb ← ok_or 17 (lookup succ c.blocks)
    cps ← copies pred bb.insts
    each push_copy cps
    each set_copy (reverse cps)

  -- the copies, and the jump to the block
  unfoldable pub edge : (pred succ : ℕ) → Gen
  edge pred succ = do
    emit_edge_copies pred succ
    line (Line.jmp_block succ)

-- opens every definition of this file, for an example that computes
unfoldable pub open_edge : Unit {0}
unfolding incoming_from copy_of copy_step copies push_copy set_copy emit_edge_copies edge
open_edge = tt
