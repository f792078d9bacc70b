-- Demand 3 in the words of document 01, "The two runs": two corollaries of `two_runs`, each part with its sentence.
use Prim.Native.Nat.{ℕ, zero, suc, ◌^◌, ◌<◌, ◌≤◌}
use Rattle.std.specs.Prelude.{◌≡◌, true, drop}
use Rattle.std.proofs.Math.Path.{refl, ap}
use Rattle.std.proofs.Math.Option.{Option, none, some}
use mathlib.Core.List.{List, [], ◌∷◌}
use Rattle.std.proofs.Common.{arith}
use Rattle.book.specs.Ast.{Function}
use Rattle.book.specs.Result.{Result, ok}
use Rattle.book.specs.Check.{Sound, checked}
use Rattle.assembly.specs.Line.{Line}
use Rattle.machine.specs.Memory.{Memory}
use Rattle.machine.specs.State.{World, Frame, cell_at}
use Rattle.machine.specs.Labels.{Placed, placed, block_in, find}
use Rattle.machine.specs.Line.{Effect, does}
use Rattle.machine.specs.Run.{State, state, Outcome, running, returned, failed, found, follow, step_at, step, steps}
use Rattle.manual.specs.State.{Cell, Source}
use Rattle.manual.specs.Term.{Stand}
use Rattle.manual.specs.Run.{args_fit, source_run}
use Rattle.agreement.specs.Statement.{LinesAt, after, AtLabel, Returned}
use Rattle.agreement.proofs.TwoRuns.{codegen, two_runs}
use Rattle.agreement.specs.Where.{read_at, arg_cell, first_slot}
use Rattle.agreement.specs.Naming.{Naming}
use Rattle.agreement.specs.Lists.{In}

-- ---- the machine comes to a block label with n passed at most once
pub same_state : {x y : State} → running x ≡ running y → x ≡ y
same_state h = cc

pub not_returned : {X : Type 0} {v : ℕ} {e : Frame} {n : ℕ} {x : State} → returned v e n ≡ running x → X
not_returned h = absurd (let z : ◌≡◌ {A = ℕ} 0 1 = cc in omega arith)

pub not_failed : {X : Type 0} {x : State} → failed ≡ running x → X
not_failed h = absurd (let z : ◌≡◌ {A = ℕ} 0 1 = cc in omega arith)

module _ (names : List (List ℕ)) (world : World) (lines : List Placed) where
  abbrev next : State → Outcome
  next x = step names world lines x

  abbrev run : ℕ → Outcome → Outcome
  run k x = steps names world lines k x

  -- labels passed stay passed
  follow_keeps : (p n : ℕ) (a : Effect) (y : State) → follow names world lines p n a ≡ running y → n ≤ y.passed
  unfolding follow found
  follow_keeps p n (Effect.goes e o) y h = rw (← same_state h) (omega arith)
  follow_keeps p n (Effect.passes e o) y h = rw (← same_state h) (omega arith)
  follow_keeps p n (Effect.jumps t e o) y h = go (find names t lines) h
    where
      go : (q : Option ℕ) → found names world lines q e o n ≡ running y → n ≤ y.passed
      go none h = not_failed h
      go (some q) h = rw (← same_state h) (omega arith)
  follow_keeps p n (Effect.ends v e) y h = not_returned h
  follow_keeps p n Effect.fails y h = not_failed h

  step_keeps : (x y : State) → next x ≡ running y → x.passed ≤ y.passed
  unfolding step step_at
  step_keeps x y h = go (drop x.pos lines) h
    where
      go : (ls : List Placed) → step_at names world lines ls x ≡ running y → x.passed ≤ y.passed
      go [] h = not_failed h
      go (l ∷ ls) h = follow_keeps x.pos x.passed _ y h

  steps_keep : (k n : ℕ) (x : Outcome) (y : State) → ((z : State) → x ≡ running z → n ≤ z.passed) → run k x ≡ running y → n ≤ y.passed
  unfolding steps
  steps_keep zero n x y a h = a y h
  steps_keep (suc k) n (running z) y a h = steps_keep k n (next z) y (λ t e. let i = a z refl in let j = step_keeps z t e in omega arith) h
  steps_keep (suc k) n (returned v e i) y a h = not_returned h
  steps_keep (suc k) n failed y a h = not_failed h

  -- the machine stands at a block's label line, n block labels passed
  pub record Stands (x : Outcome) (n : ℕ) : Type 0 where
    pub at : State
    pub function : Option ℕ
    pub block : ℕ
    pub rest : List Placed
    pub here : x ≡ running at
    pub label : drop at.pos lines ≡ record { function = function; line = Line.block_label block } ∷ rest
    pub passed : at.passed ≡ n

  -- with the next step, if it does not fail, it has passed one more
  passes_label : (x : State) (f : Option ℕ) (b : ℕ) (rest : List Placed) → drop x.pos lines ≡ record { function = f; line = Line.block_label b } ∷ rest
      → (y : State) → next x ≡ running y → y.passed ≡ suc x.passed
  unfolding step step_at follow does block_in
  passes_label x none b rest h y e = not_failed (rw h at e)
  passes_label x (some f) b rest h y e = let q : state (suc x.pos) x.frame x.operands (suc x.passed) ≡ y = same_state (rw h at e) in rw (← q) refl

  -- for good
  no_more : {X : Type 0} (k n : ℕ) (x : Outcome) → Stands x n → Stands (run (suc k) x) n → X
  unfolding steps
  no_more k n x a c =
      let z : State = a.at in
      let h : run k (next z) ≡ running c.at = rw a.here at c.here in
      let i = steps_keep k (suc n) (next z) c.at (λ t e. let q = passes_label z a.function a.block a.rest a.label t e in let m : z.passed ≡ n = a.passed in omega arith) h in
      let j : c.at.passed ≡ n = c.passed in
      absurd (omega arith)

  -- so "where they come to a block label after n others" is one moment of the run
  pub stands_once : (k k' n : ℕ) (x : Outcome) → Stands (run k x) n → Stands (run k' x) n → k ≡ k'
  unfolding steps
  stands_once zero zero n x a c = refl
  stands_once zero (suc k') n x a c = no_more k' n x a c
  stands_once (suc k) zero n x a c = no_more k n x c a
  stands_once (suc k) (suc k') n (running z) a c = ap suc (stands_once k k' n (next z) a c)
  stands_once (suc k) (suc k') n (returned v e i) a c = not_returned a.here
  stands_once (suc k) (suc k') n failed a c = not_failed a.here

-- ---- the corollaries
-- a function that the translator accepts, on its lines wherever they stand, under the naming conditions; "arguments fit their widths", and the stack pointer is a word
module _ (book names : List ℕ) (counter workLen : ℕ) (b : Sound) (sound : checked book names counter workLen ≡ ok b) (f : Function) (of : In f b.book.functions)
    (lines : List Line) (from : ℕ) (at : LinesAt (codegen b) f lines from) (naming : Naming b.names f lines)
    (world : World) (args : List ℕ) (memory : Memory) (sp : ℕ) (fits : args_fit f.params args ≡ true) (word : sp < 2 ^ 64) where
  -- the source run with n blocks passed, and the machine after k steps
  abbrev pub source : (n : ℕ) → Result Stand
  source n = source_run b.names b.book.structs f world args memory sp n

  abbrev pub machine : (k : ℕ) → Outcome
  machine k = after b.names f lines from world args memory sp k

  -- where the source run stands at a block with n passed, so does the machine
  pub stands_at_block : (n block : ℕ) (σ : Source) → source n ≡ ok (Stand.at block σ)
      → (k : ℕ) × (p : ℕ) × (e : Frame) × (rest : List Placed)
      -- "With n blocks passed the lines stand where they come to a block label after n others": that block's, and no operand is left
      × (machine k ≡ running (state p e [] n)) × (drop p (placed lines) ≡ record { function = some f.name; line = Line.block_label block } ∷ rest)
      -- this is one moment of the run
      × ((k' : ℕ) → Stands b.names world (placed lines) (machine k') n → k' ≡ k)
      -- "Each named value, unsigned, is compared with its argument cell or slot"
      × ((x w v : ℕ) → σ.env x ≡ some (Cell.one w v) → (read_at (arg_cell f x) (first_slot b.names f x) e.args e.slots ≡ some v) × (v < 2 ^ w))
      -- "a cmpxchg's two with both"
      × ((x w found success : ℕ) → σ.env x ≡ some (Cell.two w found success) → (i : ℕ) × (first_slot b.names f x ≡ some i) × (cell_at e.slots i ≡ some found) × (cell_at e.slots (suc i) ≡ some success) × (found < 2 ^ w) × (success < 2))
      -- the cells of the arguments stay, and memory, stack pointer and listed calls are the same
      × (e.args ≡ args) × (e.memory ≡ σ.memory) × (e.sp ≡ σ.sp) × (e.calls ≡ σ.calls)
  stands_at_block n block σ h =
      let a : AtLabel b.names f lines from world args memory sp n block σ = two_runs book names counter workLen b sound f of lines from at naming world args memory sp fits word n _ h in
      let here : Stands b.names world (placed lines) (machine a.number) n =
      record { at = state a.position a.frame [] n; function = some f.name; block = block; rest = a.rest; here = a.stands; label = a.label; passed = refl } in (
        a.number,
        a.position,
        a.frame,
        a.rest,
        a.stands,
        a.label,
        (λ k' c. stands_once b.names world (placed lines) k' a.number n _ c here),
        (λ x w v i. a.same_values x (Cell.one w v) i),
        (λ x w v t i. a.same_values x (Cell.two w v t) i),
        a.same_args,
        a.same_memory,
        a.same_stack,
        a.same_calls,
      )

  -- where it has returned, so has the machine: the same value ("void returns 0"), memory and calls, the stack pointer found at entry, and no more block labels passed
  -- than the source has passed blocks
  pub returns : (n value : ℕ) (σ : Source) → source n ≡ ok (Stand.gave value σ)
      → (k : ℕ) × (e : Frame) × (labels : ℕ) × (machine k ≡ returned value e labels) × (labels ≤ n) × (e.memory ≡ σ.memory) × (e.calls ≡ σ.calls) × (e.sp ≡ sp)
  returns n value σ h =
      let r : Returned b.names f lines from world args memory sp n value σ = two_runs book names counter workLen b sound f of lines from at naming world args memory sp fits word n _ h in
      (r.number, r.frame, r.labels, r.returns, r.within, r.same_memory, r.same_calls, r.stack_restored)
