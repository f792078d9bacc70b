-- The beginning of a run: arguments and parameters, by every type; the first block.
use Rattle.std.specs.Prelude.{ℕ, ◌-◌, ◌^◌, ◌≡◌, refl, Bool, true, false, List, [], ◌∷◌, ◌++◌, map}
use Rattle.std.proofs.Math.Option.{Option, none, some}
use Rattle.book.specs.Ast.{Ty, Param, Function}
use Rattle.book.specs.Result.{Result, ok, bind}
use Rattle.machine.specs.Sweep.{OnAll, down_from, open_sweep}
use Rattle.machine.specs.Cases.{holding, world}
use Rattle.manual.specs.Stop.{Stop, stops}
use Rattle.manual.specs.State.{Cell, nothing}
use Rattle.manual.specs.Run.{args_fit, param_env, source_run}
use Rattle.manual.specs.Term.{Stand}
use Rattle.manual.specs.Open.{open_manual}
use Rattle.manual.specs.Alone.{names, aggregates, valueless, empty, open_alone}

unfoldable pub param : Option ℕ → Ty → Param
param x t = record { ty = t; name = x }

-- ---- "arguments fit their widths": up to the last number of the width and no further, at every width; a cell of 64 bits for every other type
unfoldable pub fits : Ty → (cells : List ℕ) → List Bool
unfolding param
fits t vs = map (λ (v : ℕ). args_fit (param (some 200) t ∷ []) (v ∷ [])) vs

pub arguments_fit :
    (OnAll (down_from 64) (λ (w : ℕ). fits (Ty.int w) (0 ∷ (2 ^ w - 1) ∷ 2 ^ w ∷ [])) (λ (w : ℕ). true ∷ true ∷ false ∷ []))
    × (OnAll (Ty.ptr ∷ aggregates ++ valueless) (λ (t : Ty). fits t (0 ∷ (2 ^ 64 - 1) ∷ 2 ^ 64 ∷ [])) (λ (t : Ty). true ∷ true ∷ false ∷ []))
unfolding open_manual open_sweep open_alone fits
arguments_fit = (refl, refl)

-- as many as there are parameters
unfoldable pub three : List Param
unfolding param
three = param (some 200) (Ty.int 8) ∷ param none (Ty.int 1) ∷ param (some 201) Ty.ptr ∷ []

pub as_many : map (args_fit three) ([] ∷ (1 ∷ 1 ∷ []) ∷ (1 ∷ 1 ∷ 1 ∷ []) ∷ (1 ∷ 1 ∷ 1 ∷ 1 ∷ []) ∷ (256 ∷ 1 ∷ 1 ∷ []) ∷ (255 ∷ 2 ∷ 1 ∷ []) ∷ (255 ∷ 1 ∷ 2 ^ 64 ∷ []) ∷ [])
    ≡ false ∷ false ∷ true ∷ false ∷ false ∷ false ∷ false ∷ []
unfolding open_manual three
as_many = refl

-- ---- what a parameter's name is: its cell at the width of its type; unreadable where that has none
unfoldable pub value_of : Ty → Option Cell
unfolding param
value_of t = param_env (param (some 200) t ∷ []) (1 ∷ []) nothing 200

pub parameters_hold :
    (OnAll (down_from 64) (λ (w : ℕ). value_of (Ty.int w)) (λ (w : ℕ). some (Cell.one w 1))) × (value_of Ty.ptr ≡ some (Cell.one 64 1))
    × (OnAll (aggregates ++ valueless) value_of (λ (t : Ty). none))
unfolding open_manual open_sweep open_alone value_of
parameters_hold = (refl, refl, refl)

-- in order, one without a name left out; nothing else is set
pub order_holds : map (param_env three (7 ∷ 1 ∷ 9 ∷ []) nothing) (199 ∷ 200 ∷ 201 ∷ 202 ∷ []) ≡ none ∷ some (Cell.one 8 7) ∷ some (Cell.one 64 9) ∷ none ∷ []
unfolding open_manual three
order_holds = refl

-- one that cannot be read leaves the others as they are
pub beside_hold :
    OnAll (aggregates ++ valueless) (λ (t : Ty). map (param_env (param (some 200) (Ty.int 8) ∷ param (some 201) t ∷ param (some 202) Ty.ptr ∷ []) (1 ∷ 2 ∷ 3 ∷ []) nothing) (200 ∷ 201 ∷ 202 ∷ []))
    (λ (t : Ty). some (Cell.one 8 1) ∷ none ∷ some (Cell.one 64 3) ∷ [])
unfolding open_manual open_alone param
beside_hold = refl

-- a later parameter of the same name wins, whether it can be read or not
unfoldable pub twice : (first second : Ty) → Option Cell
unfolding param
twice t u = param_env (param (some 200) t ∷ param (some 200) u ∷ []) (1 ∷ 2 ∷ []) nothing 200

pub later_wins :
    (OnAll (aggregates ++ valueless) (λ (t : Ty). twice (Ty.int 8) t ∷ twice t (Ty.int 8) ∷ []) (λ (t : Ty). none ∷ some (Cell.one 8 2) ∷ []))
    × (twice (Ty.int 8) Ty.ptr ≡ some (Cell.one 64 2))
unfolding open_manual open_alone twice
later_wins = (refl, refl)

-- ---- it begins at the first block, without calls, the stack pointer where it was; without a block it stops
unfoldable pub begun : Function → Result (ℕ × ℕ)
unfolding names world
begun f = bind (source_run names [] f world (7 ∷ 1 ∷ 9 ∷ []) (holding 4096 7) 65536 0) λ s. ok (standing s)
  where
    standing : Stand → ℕ × ℕ
    standing (Stand.at b σ) = (b, σ.sp)
    standing (Stand.gave v σ) = (0, σ.sp)

pub beginnings_hold :
    (begun (record { name = 0; ret_ty = Ty.void; params = three; blocks = empty 9 ∷ empty 8 ∷ [] }) ≡ ok (9, 65536))
    × (begun (record { name = 0; ret_ty = Ty.void; params = three; blocks = [] }) ≡ stops Stop.no_block)
unfolding open_manual open_alone three begun
beginnings_hold = (refl, refl)
