-- What the machine is given, and where it stands: "given are lines, a 64-bit cell for each parameter, global addresses, syscall shapes, memory .., stack
-- pointer and replies; it begins at the function's first line without slots, operands or listed calls".
use Rattle.std.specs.Prelude.{ℕ, zero, suc, ◌%◌, ◌^◌, Bool, true, cond, List, [], ◌∷◌, length, drop}
use Rattle.std.proofs.Math.Option.{Option, none, some}
use Rattle.names.specs.Text.{bytes, same}
use Rattle.machine.specs.Memory.{Memory}

-- what is called: a function of the book by its name, a syscall by its printed name, or an address
pub data Target : Type 0 where
  function : (name : ℕ) → Target
  syscall : (printed : List ℕ) → Target
  address : ℕ → Target

-- a listed call; the latest comes first
pub record Call : Type 0 where
  pub target : Target
  pub args : List ℕ

-- "The reply to the call at each position is a cell and the memory after it"
pub record Reply : Type 0 where
  pub cell : ℕ
  pub memory : Memory

-- "Syscall names have a fixed argument count and a reply or none"
pub record Shape : Type 0 where
  pub args : ℕ
  pub replies : Bool

-- what both runs are given beside their code, their arguments, memory and stack pointer
pub record World : Type 0 where
  pub globals : (name : ℕ) → ℕ
  pub shapes : (printed : List ℕ) → Option Shape
  pub replies : (position : ℕ) → Reply

pub record Frame : Type 0 where
  pub args : List ℕ
  pub slots : List ℕ
  pub memory : Memory
  pub calls : List Call
  pub sp : ℕ

abbrev pub set_slots : Frame → List ℕ → Frame
set_slots e s = record { args = e.args; slots = s; memory = e.memory; calls = e.calls; sp = e.sp }

abbrev pub set_memory : Frame → Memory → Frame
set_memory e m = record { args = e.args; slots = e.slots; memory = m; calls = e.calls; sp = e.sp }

abbrev pub set_sp : Frame → ℕ → Frame
set_sp e n = record { args = e.args; slots = e.slots; memory = e.memory; calls = e.calls; sp = n }

-- a call listed, with the memory after it
abbrev pub called : Frame → Call → Memory → Frame
called e c m = record { args = e.args; slots = e.slots; memory = m; calls = c ∷ e.calls; sp = e.sp }

-- the address of a global, a number of 64 bits
unfoldable pub global_at : World → (name : ℕ) → ℕ
global_at world x = world.globals x % 2 ^ 64

unfoldable pub memcmp : List ℕ
memcmp = bytes "memcmp"

-- "memcmp has 3 and a reply"
unfoldable pub shape_of : World → (printed : List ℕ) → Option Shape
shape_of world t = cond (same t memcmp) (some (record { args = 3; replies = true })) (world.shapes t)

-- the printed name of a syscall: "`__uvm_` names without the prefix"
unfoldable pub printed_name : List ℕ → List ℕ
printed_name n = drop (length (bytes "__uvm_")) n

-- the cell at a place, where there is one
unfoldable pub cell_at : {A : Type 0} → List A → ℕ → Option A
cell_at [] i = none
cell_at (x ∷ xs) zero = some x
cell_at (x ∷ xs) (suc i) = cell_at xs i

-- opens every definition of this file, for an example that computes
unfoldable pub open_state : Unit {0}
unfolding global_at memcmp shape_of printed_name cell_at
open_state = tt
