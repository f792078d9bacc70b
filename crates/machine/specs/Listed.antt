-- Calls, slots, arguments and jumps by rule: "A call pops its arguments and any address called, is listed, takes its reply's memory and pushes its cell"; "`push_0n`
-- adds slots of 0, a get pushes, a set pops"; "a jump goes to its label, by a popped cell if conditional".
use Rattle.std.specs.Prelude.{ℕ, ◌+◌, ◌-◌, ◌^◌, ◌≡◌, refl, List, [], ◌∷◌, ◌++◌, map, replicate}
use Rattle.std.proofs.Math.Option.{Option, none, some}
use Rattle.names.specs.Text.{bytes}
use Rattle.assembly.specs.Line.{Line, Hint}
use Rattle.assembly.specs.Text.{hinted}
use Rattle.machine.specs.State.{Target, Call, World, Frame}
use Rattle.machine.specs.Labels.{Placed, placed, find}
use Rattle.machine.specs.Line.{Effect, does}
use Rattle.machine.specs.Run.{Outcome, running, returned, failed, steps, start}
use Rattle.machine.specs.Open.{open_machine}
use Rattle.machine.specs.Sweep.{OnAll, down_from, up_to, open_sweep}
use Rattle.machine.specs.Alone.{names, frame, alone, left, frame_after, open_alone}
use Rattle.machine.specs.Cases.{holding, world}

-- ---- calls: what is left, what is listed, and the byte at address 4096
pub record After : Type 0 where
  pub operands : Option (List ℕ)
  pub calls : List Call
  pub byte : ℕ
  pub sp : ℕ

unfoldable pub after : Line → List ℕ → After
after l o = record { operands = left (alone l o); calls = (frame_after (alone l o)).calls; byte = (frame_after (alone l o)).memory 4096; sp = (frame_after (alone l o)).sp }

-- the first call's reply is the cell 40, and 50 at address 4096
unfoldable pub listed : Target → (args rest : List ℕ) → After
listed t xs rest = record { operands = some rest; calls = record { target = t; args = xs } ∷ []; byte = 50; sp = 1000 }

-- 1 to n are pushed above 71; an address called is pushed last
pub calls_listed : OnAll (0 ∷ down_from 9)
    (λ (n : ℕ). after (Line.call 2 n) (down_from n ++ 71 ∷ []) ∷ after (Line.call_fp n) (600 ∷ down_from n ++ 71 ∷ []) ∷ [])
    (λ (n : ℕ). listed (Target.function 2) (up_to n) (40 ∷ 71 ∷ []) ∷ listed (Target.address 600) (up_to n) (40 ∷ 71 ∷ []) ∷ [])
unfolding open_machine open_alone open_sweep after listed
calls_listed = refl

-- "Syscall names have a fixed argument count and a reply or none": of the three cells pushed each takes its count; a name without a shape is missing
pub syscalls_listed : map (λ (l : Line). after l (down_from 3)) (Line.syscall 3 ∷ Line.syscall 4 ∷ Line.sys_memcmp ∷ [])
    ≡ listed (Target.syscall (bytes "ask")) (2 ∷ 3 ∷ []) (40 ∷ 1 ∷ []) ∷
    listed (Target.syscall (bytes "put")) (3 ∷ []) (2 ∷ 1 ∷ []) ∷ listed (Target.syscall (bytes "memcmp")) (1 ∷ 2 ∷ 3 ∷ []) (40 ∷ []) ∷ []
unfolding open_machine open_alone open_sweep after listed
syscalls_listed = refl

pub shapeless_fails : alone (Line.syscall 5) (down_from 3) ≡ Effect.fails
unfolding open_machine open_alone open_sweep
shapeless_fails = refl

-- ---- slots and arguments: the three slots hold 21, 22, 23, the two arguments 11 and 12; `push_0n` adds behind what is there
unfoldable pub slots_after : Line → List ℕ → List ℕ
slots_after l o = (frame_after (alone l o)).slots

pub slots_hold :
    (map (λ (i : ℕ). left (alone (Line.get_local i) [])) (0 ∷ up_to 4) ≡ some (21 ∷ []) ∷ some (22 ∷ []) ∷ some (23 ∷ []) ∷ none ∷ none ∷ [])
    × (map (λ (i : ℕ). left (alone (Line.get_arg i) [])) (0 ∷ up_to 3) ≡ some (11 ∷ []) ∷ some (12 ∷ []) ∷ none ∷ none ∷ [])
    × (map (λ (i : ℕ). slots_after (Line.set_local i) (9 ∷ [])) (0 ∷ up_to 3) ≡ (9 ∷ 22 ∷ 23 ∷ []) ∷ (21 ∷ 9 ∷ 23 ∷ []) ∷ (21 ∷ 22 ∷ 9 ∷ []) ∷ [] ∷ [])
    × (OnAll (0 ∷ up_to 5) (λ (n : ℕ). slots_after (Line.push0n n) []) (λ (n : ℕ). 21 ∷ 22 ∷ 23 ∷ replicate n 0))
unfolding open_machine open_alone open_sweep slots_after
slots_hold = (refl, refl, refl, refl)

-- ---- whole cells: an argument, a slot, what is pushed, the stack pointer; a global's address counts modulo 2^64
unfoldable pub cells : List ℕ
cells = 0 ∷ 255 ∷ 2 ^ 32 ∷ 2 ^ 63 ∷ (2 ^ 64 - 1) ∷ []

unfoldable pub far : World
far = record { globals = λ x. 2 ^ 64 - 2 + x; shapes = λ t. none; replies = λ n. record { cell = 2 ^ 64 - 1; memory = λ a. 0 } }

unfoldable pub holding_cell : (x : ℕ) → Frame
holding_cell x = record { args = x ∷ []; slots = x ∷ []; memory = λ a. 0; calls = []; sp = x }

pub cells_whole :
    (OnAll cells (λ (x : ℕ). map (λ (l : Line). left (does names (some 0) far l (holding_cell x) [])) (Line.push x ∷ Line.get_arg 0 ∷ Line.get_local 0 ∷ Line.thread_get ∷ []))
    (λ (x : ℕ). replicate 4 (some (x ∷ []))))
    × (OnAll cells (λ (x : ℕ). (frame_after (alone Line.thread_set (x ∷ []))).sp) (λ (x : ℕ). x))
    × (OnAll cells (λ (x : ℕ). slots_after (Line.set_local 1) (x ∷ [])) (λ (x : ℕ). 21 ∷ x ∷ 23 ∷ []))
    × (map (λ (x : ℕ). left (does names (some 0) far (Line.push_name x) (holding_cell 0) [])) (0 ∷ 1 ∷ 2 ∷ 3 ∷ []) ≡ some ((2 ^ 64 - 2) ∷ []) ∷ some ((2 ^ 64 - 1) ∷ []) ∷ some (0 ∷ []) ∷ some (1 ∷ []) ∷ [])
unfolding open_machine open_alone slots_after cells far holding_cell
cells_whole = (refl, refl, refl, refl)

-- a call's arguments and address, and the reply's cell, 2^64 - 1
unfoldable pub called_far : Line → List ℕ → After
called_far l o = let f = does names (some 0) far l (holding_cell 0) o in record { operands = left f; calls = (frame_after f).calls; byte = 0; sp = 0 }

unfoldable pub listed_far : Target → List ℕ → After
listed_far t xs = record { operands = some ((2 ^ 64 - 1) ∷ []); calls = record { target = t; args = xs } ∷ []; byte = 0; sp = 0 }

pub calls_whole : OnAll cells
    (λ (x : ℕ). called_far (Line.call 2 2) (x ∷ x ∷ []) ∷ called_far (Line.call_fp 1) (x ∷ x ∷ []) ∷ called_far Line.sys_memcmp (x ∷ x ∷ x ∷ []) ∷ [])
    (λ (x : ℕ). listed_far (Target.function 2) (x ∷ x ∷ []) ∷ listed_far (Target.address x) (x ∷ []) ∷ listed_far (Target.syscall (bytes "memcmp")) (x ∷ x ∷ x ∷ []) ∷ [])
unfolding open_machine open_alone cells far holding_cell called_far listed_far
calls_whole = refl

-- ---- jumps: the three conditional ones, with a cell above 71
unfoldable pub conditional : ℕ → List Effect
conditional x = map (λ (h : Hint). alone (Line.jump h 7) (x ∷ 71 ∷ [])) (Hint.sel_false ∷ Hint.br_false ∷ Hint.sw_case ∷ [])

unfoldable pub taken : Hint → Effect
taken h = Effect.jumps (hinted h 7) (frame (holding 4096 7)) (71 ∷ [])

unfoldable pub passed_by : Effect
passed_by = Effect.goes (frame (holding 4096 7)) (71 ∷ [])

-- any cell but 0, also one whose low byte or low half is 0
unfoldable pub others : List ℕ
others = 1 ∷ 2 ∷ 256 ∷ 2 ^ 32 ∷ 2 ^ 63 ∷ (2 ^ 64 - 1) ∷ []

pub jumps_hold :
    (conditional 0 ≡ taken Hint.sel_false ∷ taken Hint.br_false ∷ passed_by ∷ []) × (OnAll others conditional (λ (x : ℕ). passed_by ∷ passed_by ∷ taken Hint.sw_case ∷ []))
    × (alone (Line.jump Hint.sel_done 7) (71 ∷ []) ≡ taken Hint.sel_done)
unfolding open_machine open_alone conditional taken passed_by others
jumps_hold = (refl, refl, refl)

-- ---- a run: block labels are counted as they are passed, and no other line is; a label that is not there fails; of two equal labels the first counts
pub data Came : Type 0 where
  ends : (value passed : ℕ) → Came
  going : (pos passed : ℕ) → Came
  fails : Came

came : Outcome → Came
came (running s) = Came.going s.pos s.passed
came (returned v e n) = Came.ends v n
came failed = Came.fails

-- n steps from the line at p on
unfoldable pub runs_from : (p n : ℕ) → List Line → Came
unfolding names world holding came
runs_from p n ls = came (steps names world (placed ls) n (running (start p (11 ∷ []) (holding 4096 7) 1000)))

unfoldable pub runs : (n : ℕ) → List Line → Came
unfolding runs_from
runs n ls = runs_from 0 n ls

unfoldable pub passing : List Line
passing =
    Line.comment 0 ∷ Line.fn_label 0 ∷ Line.block_label 1 ∷ Line.label Hint.sel_done 1 ∷ Line.block_label 2
    ∷ Line.jump Hint.sel_done 3 ∷ Line.panic ∷ Line.label Hint.sel_done 3 ∷ Line.get_arg 0 ∷ Line.ret ∷ []

pub steps_hold : map (λ (n : ℕ). runs n passing) (0 ∷ up_to 10)
    ≡ Came.going 0 0 ∷ Came.going 1 0 ∷ Came.going 2 0 ∷ Came.going 3 1 ∷ Came.going 4 1 ∷ Came.going 5 2 ∷ Came.going 7 2 ∷ Came.going 8 2 ∷ Came.going 9 2 ∷ Came.ends 11 2 ∷ Came.ends 11 2 ∷ []
unfolding open_machine open_sweep runs passing
steps_hold = refl

pub ends_hold :
    map (runs 9) (
    (Line.comment 0 ∷ Line.jmp_block 2 ∷ Line.block_label 1 ∷ []) ∷ (Line.jump Hint.sel_done 3 ∷ Line.label Hint.sel_done 4 ∷ Line.label Hint.br_false 3 ∷ []) ∷ [] ∷ (Line.push 1 ∷ []) ∷
    (Line.comment 0 ∷ Line.jmp_block 1 ∷ Line.block_label 1 ∷ Line.push 1 ∷ Line.ret ∷ Line.block_label 1 ∷ Line.push 2 ∷ Line.ret ∷ []) ∷ [])
    ≡ Came.fails ∷ Came.fails ∷ Came.fails ∷ Came.fails ∷ Came.ends 1 1 ∷ []
unfolding open_machine open_sweep runs
ends_hold = refl

-- ---- "A block label or jump takes the function of the last comment line before it": two functions, 0 and 2, each with a block 1
unfoldable pub piece : List Line
piece =
    Line.comment 0 ∷ Line.jmp_block 1 ∷ Line.panic ∷ Line.block_label 1 ∷ Line.push 5 ∷ Line.ret ∷
    Line.comment 2 ∷ Line.jmp_block 1 ∷ Line.panic ∷ Line.block_label 1 ∷ Line.push 6 ∷ Line.ret ∷ []

-- each line's function, and the two blocks' labels
pub functions_hold :
    (map (λ (l : Placed). l.function) (placed (Line.push 1 ∷ piece)) ≡ none ∷ replicate 6 (some 0) ++ replicate 6 (some 2))
    × (find names (bytes "f__b") (placed piece) ≡ some 3) × (find names (bytes "g__b") (placed piece) ≡ some 9)
unfolding open_machine open_alone piece
functions_hold = (refl, refl, refl)

-- the lines behind a function's label, of whatever name, and behind a blank line are still those of the comment line before
unfoldable pub behind : List Line
behind = Line.comment 0 ∷ Line.fn_label 2 ∷ Line.jmp_block 1 ∷ Line.blank ∷ Line.block_label 1 ∷ Line.push 5 ∷ Line.ret ∷ []

pub behind_hold :
    (map (λ (l : Placed). l.function) (placed behind) ≡ replicate 7 (some 0))
    × (map (λ (l : Placed). l.function) (placed (Line.fn_label 2 ∷ Line.push 1 ∷ Line.blank ∷ Line.push 1 ∷ [])) ≡ replicate 4 none)
    × (find names (bytes "f__b") (placed behind) ≡ some 4) × (runs 9 behind ≡ Came.ends 5 1)
unfolding open_machine open_alone runs behind
behind_hold = (refl, refl, refl, refl)

-- begun at its comment line each comes to its own block, whichever stands first
pub own_block : (map (λ (p : ℕ). runs_from p 2 piece) (0 ∷ 6 ∷ []) ≡ Came.going 3 0 ∷ Came.going 9 0 ∷ []) × (map (λ (p : ℕ). runs_from p 9 piece) (0 ∷ 6 ∷ []) ≡ Came.ends 5 1 ∷ Came.ends 6 1 ∷ [])
unfolding open_machine runs_from piece
own_block = (refl, refl)

-- before any comment line a block's label and a jump to one fail, and such a label is none to go to
pub no_function :
    (map (runs 9) ((Line.block_label 1 ∷ Line.push 1 ∷ Line.ret ∷ []) ∷ (Line.jmp_block 1 ∷ Line.comment 0 ∷ Line.block_label 1 ∷ Line.push 1 ∷ Line.ret ∷ []) ∷ []) ≡ Came.fails ∷ Came.fails ∷ [])
    × (runs_from 1 9 (Line.block_label 1 ∷ Line.comment 0 ∷ Line.jmp_block 1 ∷ []) ≡ Came.fails)
unfolding open_machine runs
no_function = (refl, refl)
