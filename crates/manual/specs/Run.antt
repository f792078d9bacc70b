-- The source run: one block at a time.
use Rattle.std.specs.Prelude.{ℕ, zero, suc, ◌+◌, ◌%◌, ◌^◌, Bool, true, false, cond, ◌&&◌, List, [], ◌∷◌, ltb}
use Rattle.std.proofs.Math.Option.{Option}
use Rattle.numbers.specs.Align.{align_up}
use Rattle.book.specs.Ast.{BasicBlock, Param, StructType, Function}
use Rattle.book.specs.Result.{Result, ok, err, bind as ◌>>=◌}
use Rattle.book.specs.Shape.{all_insts}
use Rattle.machine.specs.Memory.{Memory}
use Rattle.machine.specs.State.{World}
use Rattle.manual.specs.Stop.{Stop, stops}
use Rattle.manual.specs.State.{Cell, Env, Given, Source, nothing, assign, unassign}
use Rattle.manual.specs.Operand.{width_of}
use Rattle.manual.specs.Inst.{run_insts}
use Rattle.manual.specs.Term.{Stand, body, block_named, run_term}
use Rattle.layout.specs.Frame.{Places, frame_pass, no_frame, framed}

module _ (g : Given) where
  -- a block, from its label to the next block's or the return
  unfoldable pub run_block : (block : ℕ) → Source → Result Stand
  run_block b σ = do
    bb ← block_named g b
    τ ← run_insts g (body bb.insts) σ
    run_term g bb.label bb.term τ

  unfoldable pub go : Stand → Result Stand
  go (Stand.at b σ) = run_block b σ
  go (Stand.gave v σ) = ok (Stand.gave v σ)

  -- n blocks
  unfoldable pub run : ℕ → Stand → Result Stand
  run zero s = ok s
  run (suc n) s = do
    t ← go s
    run n t

-- ---- the parameters
-- a parameter whose type is no integer or pointer has a cell and no readable value
unfoldable pub valued : Result ℕ → (name : Option ℕ) → ℕ → Env → Env
valued (ok w) x v ρ = assign x (Cell.one w v) ρ
valued (err e) x v ρ = unassign x ρ

unfoldable pub param_env : List Param → (args : List ℕ) → Env → Env
param_env [] vs ρ = ρ
param_env (p ∷ ps) [] ρ = ρ
param_env (p ∷ ps) (v ∷ vs) ρ = param_env ps vs (valued (width_of p.ty) p.name v ρ)

-- "arguments fit their widths": a cell of 64 bits for each parameter, of the width of its type where that has one
unfoldable pub fits_in : Result ℕ → ℕ → Bool
fits_in (ok w) v = ltb v (2 ^ w)
fits_in (err e) v = ltb v (2 ^ 64)

unfoldable pub args_fit : List Param → (args : List ℕ) → Bool
args_fit [] [] = true
args_fit [] (v ∷ vs) = false
args_fit (p ∷ ps) [] = false
args_fit (p ∷ ps) (v ∷ vs) = fits_in (width_of p.ty) v && args_fit ps vs

-- ---- the beginning
-- "the stack pointer moved at entry .. as the Rust moves it"
unfoldable pub entered : Places → (sp : ℕ) → ℕ
entered fr sp = cond (framed fr) ((sp + align_up fr.off 8) % 2 ^ 64) sp

unfoldable pub first_block : List BasicBlock → Result ℕ
first_block [] = stops Stop.no_block
first_block (b ∷ bs) = ok b.label

unfoldable pub begin : Given → (args : List ℕ) → Memory → Result Stand
begin g args m = do
  b ← first_block g.function.blocks
  ok (Stand.at b (record { env = param_env g.function.params args nothing; memory = m; calls = []; sp = entered g.frame g.base }))

-- a function, of a book with these names and named structs, after n blocks
unfoldable pub source_run : (names : List (List ℕ)) → List StructType → Function → World → (args : List ℕ) → Memory → (sp n : ℕ) → Result Stand
source_run names structs f world args m sp n = do
  fr ← frame_pass structs (all_insts f.blocks) no_frame
  let g : Given = record { names = names; structs = structs; function = f; frame = fr; world = world; base = sp } in do
    s ← begin g args m
    run g n s

-- opens every definition of this file, for an example that computes
unfoldable pub open_run : Unit {0}
unfolding run_block go run valued param_env fits_in args_fit entered first_block begin source_run
open_run = tt
