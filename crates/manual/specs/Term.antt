-- Terminators, and the edge that one takes: "leading phis are taken on the edge, which passes the block".
use Rattle.std.specs.Prelude.{ℕ, Bool, true, false, cond, List, [], ◌∷◌, eqb}
use Rattle.std.proofs.Math.Option.{Option, none, some}
use Rattle.book.specs.Ast.{Ty, Value, TypedVal, Incoming, Case, Inst, Terminator, BasicBlock}
use Rattle.book.specs.Rule.{find}
use Rattle.book.specs.Result.{Result, ok, bind as ◌>>=◌, ok_or}
use Rattle.book.specs.Shape.{Shape, shape}
use Rattle.machine.specs.State.{World}
use Rattle.manual.specs.Stop.{Stop, stops, stop_number, need}
use Rattle.manual.specs.Values.{constant}
use Rattle.manual.specs.State.{Cell, Env, Given, Source, set_env, assign}
use Rattle.manual.specs.Operand.{width_of, integer_width, value}
use Rattle.manual.specs.Call.{result_width}

-- where the run stands: at a block, or returned
pub data Stand : Type 0 where
  at : (block : ℕ) → Source → Stand
  gave : (value : ℕ) → Source → Stand

-- ---- phis
pub record Phi : Type 0 where
  pub dest : Option ℕ
  pub ty : Ty
  pub incoming : List Incoming

unfoldable pub lead_step : Option ℕ → Shape → List Phi → List Phi
lead_step dest (Shape.phi ty incoming) rest = record { dest = dest; ty = ty; incoming = incoming } ∷ rest
lead_step dest (Shape.alloca ty count) rest = []
lead_step dest (Shape.call callee) rest = []
lead_step dest Shape.cmpxchg rest = []
lead_step dest Shape.plain rest = []

-- the phis that a block begins with
unfoldable pub leading : List Inst → List Phi
leading [] = []
leading (i ∷ is) = let rest = leading is in lead_step i.dest (shape i.kind) rest

-- the instructions behind them
unfoldable pub body_step : Shape → (whole behind : List Inst) → List Inst
body_step (Shape.phi ty incoming) is rest = rest
body_step (Shape.alloca ty count) is rest = is
body_step (Shape.call callee) is rest = is
body_step Shape.cmpxchg is rest = is
body_step Shape.plain is rest = is

unfoldable pub body : List Inst → List Inst
body [] = []
body (i ∷ is) = let rest = body is in body_step (shape i.kind) (i ∷ is) rest

-- the value for the predecessor that the run comes from: "'phi' Instruction", "with one pair for each predecessor basic block"; without one it is ill-formed
unfoldable pub incoming_for : (pred : ℕ) → List Incoming → Result Value
incoming_for p [] = stops Stop.ill_formed
incoming_for p (i ∷ is) = cond (eqb i.label p) (ok i.val) (incoming_for p is)

-- every incoming value is read before any is set
unfoldable pub take_phis : World → (pred : ℕ) → List Phi → Env → Result Env
take_phis world p [] ρ = ok ρ
take_phis world p (q ∷ qs) ρ = do
  v ← incoming_for p q.incoming
  w ← width_of q.ty
  x ← value world ρ w v
  τ ← take_phis world p qs ρ
  ok (assign q.dest (Cell.one w x) τ)

-- ---- "'switch' Instruction": the first case that is the value
unfoldable pub case_for : (w x : ℕ) → (default : ℕ) → List Case → Result ℕ
case_for w x d [] = ok d
case_for w x d (k ∷ ks) = do
  y ← constant w k.value
  cond (eqb x y) (ok k.label) (case_for w x d ks)

-- ---- the function's result
unfoldable pub same_width : (w : ℕ) → Option ℕ → Bool
same_width w none = false
same_width w (some v) = eqb w v

unfoldable pub is_none : Option ℕ → Bool
is_none none = true
is_none (some w) = false

module _ (g : Given) where
  abbrev pub block_named : ℕ → Result BasicBlock
  block_named x = ok_or (stop_number Stop.no_block) (find (λ (b : BasicBlock). b.label) x g.function.blocks)

  unfoldable pub edge : (pred succ : ℕ) → Source → Result Stand
  edge p b σ = do
    bb ← block_named b
    ρ ← take_phis g.world p (leading bb.insts) σ.env
    ok (Stand.at b (set_env σ ρ))

  -- "void returns 0"; a value must have the width of the function's result
  unfoldable pub returns : (result : Option ℕ) → Option TypedVal → Source → Result ℕ
  returns r none σ = do
    _ ← need (is_none r) Stop.ill_formed
    ok 0
  returns r (some v) σ = do
    w ← width_of v.ty
    _ ← need (same_width w r) Stop.ill_formed
    value g.world σ.env w v.val

  unfoldable pub run_br : (pred : ℕ) → Option Value → (if_true : ℕ) → Option ℕ → Source → Result Stand
  run_br p none t f σ = edge p t σ
  run_br p (some v) t f σ = do
    d ← ok_or (stop_number Stop.ill_formed) f
    x ← value g.world σ.env 1 v
    cond (eqb x 0) (edge p d σ) (edge p t σ)

  unfoldable pub run_term : (pred : ℕ) → Terminator → Source → Result Stand
  run_term p (Terminator.ret v) σ = do
    r ← result_width g.function.ret_ty
    x ← returns r v σ
    ok (Stand.gave x σ)
  run_term p (Terminator.br v t f) σ = run_br p v t f σ
  run_term p (Terminator.switch ty v d ks) σ = do
    w ← integer_width ty
    x ← value g.world σ.env w v
    b ← case_for w x d ks
    edge p b σ
  run_term p Terminator.unreachable σ = stops Stop.unreachable

-- opens every definition of this file, for an example that computes
unfoldable pub open_term : Unit {0}
unfolding lead_step leading body_step body incoming_for take_phis case_for edge same_width is_none returns run_br run_term
open_term = tt
