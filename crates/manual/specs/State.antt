-- What the source run is given, and where it stands.
use Rattle.std.specs.Prelude.{ℕ, Bool, true, false, cond, List, eqb}
use Rattle.std.proofs.Math.Option.{Option, none, some}
use Rattle.book.specs.Ast.{Function, StructType}
use Rattle.machine.specs.Memory.{Memory}
use Rattle.machine.specs.State.{Call, World}
use Rattle.layout.specs.Frame.{Places}

-- a value of a width; or a cmpxchg's two, the value found with its width and whether it was the one compared with
pub data Cell : Type 0 where
  one : (width value : ℕ) → Cell
  two : (width found success : ℕ) → Cell

-- the value of each local that is set
abbrev pub Env : Type 0
Env = (name : ℕ) → Option Cell

-- the function, with its frame by the Rust's formula, and the stack pointer found at entry
pub record Given : Type 0 where
  pub names : List (List ℕ)
  pub structs : List StructType
  pub function : Function
  pub frame : Places
  pub world : World
  pub base : ℕ

pub record Source : Type 0 where
  pub env : Env
  pub memory : Memory
  pub calls : List Call
  pub sp : ℕ

abbrev pub set_env : Source → Env → Source
set_env σ ρ = record { env = ρ; memory = σ.memory; calls = σ.calls; sp = σ.sp }

abbrev pub set_world : Source → Memory → List Call → Source
set_world σ m k = record { env = σ.env; memory = m; calls = k; sp = σ.sp }

abbrev pub set_stack : Source → ℕ → Source
set_stack σ n = record { env = σ.env; memory = σ.memory; calls = σ.calls; sp = n }

unfoldable pub nothing : Env
nothing x = none

unfoldable pub with : ℕ → Cell → Env → Env
with x c ρ y = cond (eqb y x) (some c) (ρ y)

-- a name without a value
unfoldable pub without : ℕ → Env → Env
without x ρ y = cond (eqb y x) none (ρ y)

-- the result of an instruction, where it has a name
unfoldable pub assign : Option ℕ → Cell → Env → Env
assign none c ρ = ρ
assign (some x) c ρ = with x c ρ

unfoldable pub unassign : Option ℕ → Env → Env
unassign none ρ = ρ
unassign (some x) ρ = without x ρ

abbrev pub put : Option ℕ → (width value : ℕ) → Source → Source
put dest w v σ = set_env σ (assign dest (Cell.one w v) σ.env)

unfoldable pub is_set : Option Cell → Bool
is_set (some c) = true
is_set none = false

-- opens every definition of this file, for an example that computes
unfoldable pub open_state : Unit {0}
unfolding nothing with without assign unassign is_set
open_state = tt
