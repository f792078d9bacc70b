-- Steps of the machine, and the block labels that it has passed.
use Rattle.std.specs.Prelude.{ℕ, zero, suc, List, [], ◌∷◌, drop}
use Rattle.std.proofs.Math.Option.{Option, none, some}
use Rattle.machine.specs.Memory.{Memory}
use Rattle.machine.specs.State.{World, Frame}
use Rattle.machine.specs.Labels.{Placed, find}
use Rattle.machine.specs.Line.{Effect, does}

-- where the machine stands: a line's position, and how many block labels it has passed
pub record State : Type 0 where
  pub pos : ℕ
  pub frame : Frame
  pub operands : List ℕ
  pub passed : ℕ

abbrev pub state : ℕ → Frame → List ℕ → ℕ → State
state p e o n = record { pos = p; frame = e; operands = o; passed = n }

pub data Outcome : Type 0 where
  running : State → Outcome
  returned : (value : ℕ) → Frame → (passed : ℕ) → Outcome
  failed : Outcome

-- the lines, each with its function (`placed`)
module _ (names : List (List ℕ)) (world : World) (lines : List Placed) where
  unfoldable pub found : Option ℕ → Frame → List ℕ → (passed : ℕ) → Outcome
  found none e o n = failed
  found (some p) e o n = running (state p e o n)

  -- from the line at p on
  unfoldable pub follow : (p passed : ℕ) → Effect → Outcome
  follow p n (Effect.goes e o) = running (state (suc p) e o n)
  follow p n (Effect.passes e o) = running (state (suc p) e o (suc n))
  follow p n (Effect.jumps t e o) = found (find names t lines) e o n
  follow p n (Effect.ends v e) = returned v e n
  follow p n Effect.fails = failed

  -- the lines from the position on are the ones given
  unfoldable pub step_at : List Placed → State → Outcome
  step_at [] s = failed
  step_at (l ∷ ls) s = follow s.pos s.passed (does names l.function world l.line s.frame s.operands)

  unfoldable pub step : State → Outcome
  step s = step_at (drop s.pos lines) s

  unfoldable pub steps : ℕ → Outcome → Outcome
  steps zero x = x
  steps (suc k) (running s) = steps k (step s)
  steps (suc k) (returned v e n) = returned v e n
  steps (suc k) failed = failed

-- "it begins at the function's first line without slots, operands or listed calls": its comment line, at p
unfoldable pub start : (p : ℕ) → (args : List ℕ) → Memory → (sp : ℕ) → State
start p args m sp = state p (record { args = args; slots = []; memory = m; calls = []; sp = sp }) [] 0

-- opens every definition of this file, for an example that computes
unfoldable pub open_run : Unit {0}
unfolding found follow step_at step steps start
open_run = tt
