-- Demand 3 written out: where a function's lines stand, and what the two runs have in common when the source has passed n blocks. With `Naming`, `Where` and the
-- definitions of the two runs this is all that a reader of the theorem has to believe.
use Rattle.std.specs.Prelude.{ℕ, suc, ◌^◌, ◌<◌, ◌≤◌, ◌≡◌, true, List, [], ◌∷◌, ◌++◌, length, drop}
use Rattle.std.proofs.Math.Option.{some}
use Rattle.book.specs.Ast.{StructType, Function}
use Rattle.book.specs.Result.{ok}
use Rattle.assembly.specs.Line.{Line}
use Rattle.machine.specs.Memory.{Memory}
use Rattle.machine.specs.State.{World, Frame, cell_at}
use Rattle.machine.specs.Labels.{Placed, placed}
use Rattle.machine.specs.Run.{Outcome, state, running, returned, steps, start}
use Rattle.lowering.specs.Gen.{Out}
use Rattle.lowering.specs.Context.{Codegen}
use Rattle.lowering.specs.Function.{gen_function}
use Rattle.manual.specs.State.{Cell, Source}
use Rattle.manual.specs.Term.{Stand}
use Rattle.manual.specs.Run.{args_fit, source_run}
use Rattle.agreement.specs.Where.{read_at, arg_cell, first_slot}
use Rattle.agreement.specs.Naming.{Naming}

-- from a position on stand the lines that the translator makes of a function, at some counter: in a piece between other functions' lines, or by themselves
pub record LinesAt (g : Codegen) (f : Function) (lines : List Line) (from : ℕ) : Type 0 where
  pub counter : ℕ
  pub own : Out
  pub made : gen_function g f counter ≡ ok own
  pub before : List Line
  pub after : List Line
  pub parts : lines ≡ before ++ (own.lines ++ after)
  pub position : from ≡ length before

-- "Each named value, unsigned, is compared with its argument cell or slot, a cmpxchg's two with both."
abbrev pub SameValue : (names : List (List ℕ)) → Function → Frame → (name : ℕ) → Cell → Type 0
SameValue names f e x (Cell.one w v) = (read_at (arg_cell f x) (first_slot names f x) e.args e.slots ≡ some v) × (v < 2 ^ w)
SameValue names f e x (Cell.two w v t) = (i : ℕ) × (first_slot names f x ≡ some i) × (cell_at e.slots i ≡ some v) × (cell_at e.slots (suc i) ≡ some t) × (v < 2 ^ w) × (t < 2)

-- a function, lines and the position of its first one, and what they are given
module _ (names : List (List ℕ)) (f : Function) (lines : List Line) (from : ℕ) (world : World) (args : List ℕ) (memory : Memory) (sp : ℕ) where
  -- the machine after k steps
  abbrev pub after : (k : ℕ) → Outcome
  after k = steps names world (placed lines) k (running (start from args memory sp))

  -- "With n blocks passed the lines stand where they come to a block label after n others."
  pub record AtLabel (n block : ℕ) (σ : Source) : Type 0 where
    pub number : ℕ
    pub position : ℕ
    pub rest : List Placed
    pub frame : Frame
    -- at the label line of the function's block, with n block labels passed before it and no operand
    pub stands : after number ≡ running (state position frame [] n)
    pub label : drop position (placed lines) ≡ record { function = some f.name; line = Line.block_label block } ∷ rest
    pub same_args : frame.args ≡ args
    pub same_values : (x : ℕ) (c : Cell) → σ.env x ≡ some c → SameValue names f frame x c
    pub same_memory : frame.memory ≡ σ.memory
    pub same_stack : frame.sp ≡ σ.sp
    pub same_calls : frame.calls ≡ σ.calls

  pub record Returned (n value : ℕ) (σ : Source) : Type 0 where
    pub number : ℕ
    pub frame : Frame
    -- with no more block labels passed than blocks
    pub labels : ℕ
    pub within : labels ≤ n
    pub returns : after number ≡ returned value frame labels
    pub same_memory : frame.memory ≡ σ.memory
    pub same_calls : frame.calls ≡ σ.calls
    -- the stack pointer is the one found at entry
    pub stack_restored : frame.sp ≡ sp

  abbrev pub Agrees : (n : ℕ) → Stand → Type 0
  Agrees n (Stand.at block σ) = AtLabel n block σ
  Agrees n (Stand.gave value σ) = Returned n value σ

-- Under the naming conditions, for all arguments that fit their widths, every memory, stack pointer, global addresses, syscall shapes and replies, and for every n:
-- where the source run of the function comes with n blocks, the lines come with the same values. (A reply that does not fit its call's width breaks document 01's
-- premise; the source run then comes nowhere.)
abbrev pub RunsAs : (names : List (List ℕ)) → List StructType → Function → (lines : List Line) → (from : ℕ) → Type 0
RunsAs names structs f lines from =
    Naming names f lines → (world : World) (args : List ℕ) (memory : Memory) (sp : ℕ) → args_fit f.params args ≡ true → sp < 2 ^ 64
    → (n : ℕ) (t : Stand) → source_run names structs f world args memory sp n ≡ ok t → Agrees names f lines from world args memory sp n t

-- its comment line stands at a position
abbrev pub BeginsAt : Function → (lines : List Line) → (from : ℕ) → Type 0
BeginsAt f lines from = (rest : List Line) × (drop from lines ≡ Line.comment f.name ∷ rest)

-- The function's comment line is among the lines, and wherever it stands, the function runs from there.
abbrev pub RunsIn : (names : List (List ℕ)) → List StructType → Function → (lines : List Line) → Type 0
RunsIn names structs f lines = ((from : ℕ) × BeginsAt f lines from) × ((from : ℕ) → BeginsAt f lines from → RunsAs names structs f lines from)
