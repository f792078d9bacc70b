-- The small functions of `manual`, run by the machine on their lines, by themselves and in a piece: to the same result.
use Rattle.std.specs.Prelude.{ℕ, ◌≡◌, refl, List, [], ◌∷◌, map, length}
use Rattle.std.proofs.Math.Option.{Option, none, some}
use Rattle.book.specs.Ast.{Function, Mark}
use Rattle.machine.specs.Memory.{peek}
use Rattle.machine.specs.Labels.{placed}
use Rattle.machine.specs.Run.{Outcome, running, returned, failed, steps, start}
use Rattle.lowering.specs.Context.{Codegen, codegen_of}
use Rattle.lowering.specs.Function.{gen_function, gen_functions}
use Rattle.manual.specs.Open.{open_manual}
use Rattle.lowering.specs.Open.{open_lowering}
use Rattle.machine.specs.Cases.{Summary, holding, world}
use Rattle.manual.specs.Functions.{Try, names, or_none, by_source, expected, tries, functions_run}

summary : Outcome → Option Summary
summary (running x) = none
summary (returned v e n) = some (record { value = v; calls = e.calls; bytes = peek 8 e.memory 4096 })
summary failed = none

-- a book of these functions in which name 1 is defined
generators : List Function → Codegen
unfolding names
generators fs = codegen_of names (record { marks = Mark.defined 1 ∷ []; structs = []; functions = fs })

-- 120 steps on its own lines
unfoldable pub by_machine : Try → Option Summary
unfolding names world holding summary or_none generators
by_machine t = or_none (gen_function (generators (t.function ∷ [])) t.function 0) λ out.
    summary (steps names world (placed out.lines) 120 (running (start 0 t.args (holding 4096 7) 65536)))

-- 120 steps of a piece, from the second of two functions on: the first has name 6, and blocks of the same names
named : ℕ → Function → Function
named x f = record { name = x; ret_ty = f.ret_ty; params = f.params; blocks = f.blocks }

unfoldable pub in_piece : Try → Option Summary
unfolding names world holding summary or_none generators named
in_piece t =
    let first = named 6 t.function in
    let fs = first ∷ t.function ∷ [] in
    or_none (gen_function (generators fs) first 0) λ before. or_none (gen_functions (generators fs) fs 0) λ out.
    summary (steps names world (placed out.lines) 120 (running (start (length before.lines) t.args (holding 4096 7) 65536)))

pub cases_hold : (map by_source tries ≡ map expected tries) × (map by_machine tries ≡ map expected tries) × (map in_piece tries ≡ map expected tries)
unfolding open_manual open_lowering by_machine in_piece tries
cases_hold = (functions_run, refl, refl)
