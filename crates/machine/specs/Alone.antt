-- One line run by itself, and what it leaves: for the tables over whole ranges.
use Rattle.std.specs.Prelude.{ℕ, List, [], ◌∷◌, map}
use Rattle.std.proofs.Math.Option.{Option, none, some}
use Rattle.names.specs.Text.{bytes}
use Rattle.assembly.specs.Line.{Line}
use Rattle.machine.specs.Memory.{Memory}
use Rattle.machine.specs.State.{Frame}
use Rattle.machine.specs.Line.{Effect, does}
use Rattle.machine.specs.Cases.{holding, world}

-- name 0 is the function, 1 a block of it, 2 a function, 3 and 4 syscalls: of two arguments with a reply, of one without; 5 is one without a shape
unfoldable pub names : List (List ℕ)
names = map bytes ("f" ∷ "b" ∷ "g" ∷ "__uvm_ask" ∷ "__uvm_put" ∷ "__uvm_gone" ∷ [])

-- two arguments, three slots, the stack pointer 1000
unfoldable pub frame : Memory → Frame
frame m = record { args = 11 ∷ 12 ∷ []; slots = 21 ∷ 22 ∷ 23 ∷ []; memory = m; calls = []; sp = 1000 }

-- on operands, the top first
unfoldable pub on_memory : Memory → Line → List ℕ → Effect
unfolding names world frame
on_memory m l o = does names (some 0) world l (frame m) o

unfoldable pub alone : Line → List ℕ → Effect
unfolding on_memory holding
alone l o = on_memory (holding 4096 7) l o

-- the operands that are left, and none where the line fails or ends
unfoldable pub left : Effect → Option (List ℕ)
left (Effect.goes e o) = some o
left (Effect.passes e o) = some o
left (Effect.jumps t e o) = some o
left (Effect.ends v e) = none
left Effect.fails = none

-- the frame after it, and one without anything where there is none
unfoldable pub frame_after : Effect → Frame
unfolding frame
frame_after (Effect.goes e o) = e
frame_after (Effect.passes e o) = e
frame_after (Effect.jumps t e o) = e
frame_after (Effect.ends v e) = e
frame_after Effect.fails = record { args = []; slots = []; memory = λ a. 0; calls = []; sp = 0 }

-- opens every definition of this file, for a table that computes
unfoldable pub open_alone : Unit {0}
unfolding names frame on_memory alone left frame_after holding world
open_alone = tt
