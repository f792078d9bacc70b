-- Where the source run goes on, continued: edges, terminators, blocks, and the whole run.
use Rattle.std.specs.Prelude.{ℕ, ◌%◌, ◌^◌, ◌<◌, ◌≡◌, List, [], ◌∷◌}
use Rattle.std.proofs.Math.Option.{Option, none, some}
use Rattle.book.specs.Ast.{Ty, Value, TypedVal, Incoming, Case, Inst, Terminator, BasicBlock, StructType, Function}
use Rattle.book.specs.Limits.{Each}
use Rattle.book.specs.Result.{Result, ok}
use Rattle.book.specs.Rule.{find}
use Rattle.book.specs.Shape.{Shape, shape, all_insts}
use Rattle.layout.specs.Frame.{Places, frame_pass, no_frame}
use Rattle.machine.specs.Memory.{Memory}
use Rattle.machine.specs.State.{World}
use Rattle.manual.specs.State.{Given, Source}
use Rattle.manual.specs.Inst.{run_inst}
use Rattle.manual.specs.Term.{Stand}
use Rattle.manual.specs.Run.{run, source_run}
use Rattle.manual.specs.Goes.{Scalar, Integer, Answers, InRange, Reads, Goes}
use Rattle.manual.specs.Measured.{Measured}

-- ---- edges
-- "The first matching predecessor counts"; a phi without one is ill-formed
pub data From (pred : ℕ) : List Incoming → Value → Type 0 where
  here : {i : Incoming} {is : List Incoming} → i.label ≡ pred → From pred (i ∷ is) i.val
  later : {i : Incoming} {is : List Incoming} {v : Value} → ¬ (i.label ≡ pred) → From pred is v → From pred (i ∷ is) v

-- an instruction that is no phi
pub data Other : Shape → Type 0 where
  alloca : {ty : Ty} {count : Option TypedVal} → Other (Shape.alloca ty count)
  call : {callee : Value} → Other (Shape.call callee)
  cmpxchg : Other Shape.cmpxchg
  plain : Other Shape.plain

-- "leading phis are taken on the edge": "the scan .. ends at the first instruction that is none". Every value that comes in is read before the edge sets any
pub data Enters (g : Given) (σ : Source) (pred : ℕ) : List Inst → Type 0 where
  end : Enters g σ pred []
  other : {i : Inst} {is : List Inst} → Other (shape i.kind) → Enters g σ pred (i ∷ is)
  phi : {i : Inst} {is : List Inst} {ty : Ty} {incoming : List Incoming} {v : Value} {w n : ℕ} → shape i.kind ≡ Shape.phi ty incoming → From pred incoming v → Scalar ty w → Reads g σ w v n
      → Enters g σ pred is → Enters g σ pred (i ∷ is)

-- "no block" stops
abbrev pub Named : Given → (block : ℕ) → BasicBlock → Type 0
Named g b bb = find (λ (k : BasicBlock). k.label) b g.function.blocks ≡ some bb

abbrev pub Edge : Given → Source → (pred succ : ℕ) → Type 0
Edge g σ p b = (bb : BasicBlock) × Named g b bb × Enters g σ p bb.insts

-- ---- terminators
-- "an integer outside both the signed and the unsigned range of its width (a switch case: of its condition's)" stops: of the cases that are compared, up to the first
-- that is the value
pub data Chooses (w x d : ℕ) : List Case → (label : ℕ) → Type 0 where
  default : Chooses w x d [] d
  this : {k : Case} {ks : List Case} → InRange w k.value → x ≡ k.value % 2 ^ w → Chooses w x d (k ∷ ks) k.label
  later : {k : Case} {ks : List Case} {b : ℕ} → InRange w k.value → ¬ (x ≡ k.value % 2 ^ w) → Chooses w x d ks b → Chooses w x d (k ∷ ks) b

-- "unreachable" stops: there is no way for it
pub data GoesTerm (g : Given) (σ : Source) (pred : ℕ) : Terminator → Type 0 where
  -- "void returns 0"; a value has the width of the function's result
  ret_void : Answers g.function.ret_ty none → GoesTerm g σ pred (Terminator.ret none)
  ret : {v : TypedVal} {w n : ℕ} → Answers g.function.ret_ty (some w) → Scalar v.ty w → Reads g σ w v.val n → GoesTerm g σ pred (Terminator.ret (some v))
  jump : {t : ℕ} {f : Option ℕ} → Edge g σ pred t → GoesTerm g σ pred (Terminator.br none t f)
  -- a condition has two targets
  br_true : {c : Value} {t f n : ℕ} → Reads g σ 1 c n → 0 < n → Edge g σ pred t → GoesTerm g σ pred (Terminator.br (some c) t (some f))
  br_false : {c : Value} {t f : ℕ} → Reads g σ 1 c 0 → Edge g σ pred f → GoesTerm g σ pred (Terminator.br (some c) t (some f))
  switch : {ty : Ty} {c : Value} {d : ℕ} {ks : List Case} {w n b : ℕ} → Integer ty w → Reads g σ w c n → Chooses w n d ks b → Edge g σ pred b → GoesTerm g σ pred (Terminator.switch ty c d ks)

-- ---- a block
-- its instructions one after the other, each in the state that the one before leaves, then its terminator
pub data GoesInsts (g : Given) (pred : ℕ) (t : Terminator) : List Inst → Source → Type 0 where
  end : {σ : Source} → GoesTerm g σ pred t → GoesInsts g pred t [] σ
  step : {i : Inst} {is : List Inst} {σ : Source} → Goes g σ i.dest i.kind → ((τ : Source) → run_inst g i σ ≡ ok τ → GoesInsts g pred t is τ) → GoesInsts g pred t (i ∷ is) σ

-- the leading phis, which the edge has taken, are passed over
pub data GoesBody (g : Given) (pred : ℕ) (t : Terminator) : List Inst → Source → Type 0 where
  end : {σ : Source} → GoesTerm g σ pred t → GoesBody g pred t [] σ
  phi : {i : Inst} {is : List Inst} {σ : Source} {ty : Ty} {incoming : List Incoming} → shape i.kind ≡ Shape.phi ty incoming → GoesBody g pred t is σ → GoesBody g pred t (i ∷ is) σ
  other : {i : Inst} {is : List Inst} {σ : Source} → Other (shape i.kind) → GoesInsts g pred t (i ∷ is) σ → GoesBody g pred t (i ∷ is) σ

abbrev pub GoesBlock : Given → (block : ℕ) → Source → Type 0
GoesBlock g b σ = (bb : BasicBlock) × Named g b bb × GoesBody g bb.label bb.term bb.insts σ

-- ---- the run
-- at every block that the run comes to from s with fewer than n passed, in the state that it has there
abbrev pub GoesOn : Given → Stand → (n : ℕ) → Type 0
GoesOn g s n = (k b : ℕ) (σ : Source) → k < n → run g k s ≡ ok (Stand.at b σ) → GoesBlock g b σ

-- every instruction of the function can be measured
abbrev pub AllMeasured : Given → Type 0
AllMeasured g = Each (λ (b : BasicBlock). Each (λ (i : Inst). Measured g i.dest i.kind) b.insts) g.function.blocks

-- ---- the run of a function
-- "no block" stops
pub data HasBlock : List BasicBlock → Type 0 where
  has : {b : BasicBlock} {bs : List BasicBlock} → HasBlock (b ∷ bs)

-- the frame by the Rust's formula
abbrev pub places_of : List StructType → Function → Result Places
places_of structs f = frame_pass structs (all_insts f.blocks) no_frame

abbrev pub given_of : (names : List (List ℕ)) → List StructType → Function → World → (sp : ℕ) → Places → Given
given_of names structs f world sp fr = record { names = names; structs = structs; function = f; frame = fr; world = world; base = sp }

abbrev pub SourceGoes : (names : List (List ℕ)) → List StructType → Function → World → (args : List ℕ) → Memory → (sp n : ℕ) → Type 0
SourceGoes names structs f world args m sp n = HasBlock f.blocks
    × ((fr : Places) → places_of structs f ≡ ok fr → (k c : ℕ) (σ : Source) → k < n → source_run names structs f world args m sp k ≡ ok (Stand.at c σ) → GoesBlock (given_of names structs f world sp fr) c σ)
