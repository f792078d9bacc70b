-- Operands and ranges at every width from 1 to 64, at both ends and one beyond: "reading an unset local or one at another width"; "an integer outside both the
-- signed and the unsigned range of its width (a switch case: of its condition's)"; "a constant GEP index outside its type's signed range"; "an i1 load of a byte above 1".
use Rattle.std.specs.Prelude.{ℕ, ◌-◌, ◌*◌, ◌^◌, ◌≡◌, refl, false, List, [], ◌∷◌, map, replicate}
use Rattle.std.proofs.Math.Option.{Option, none, some}
use Rattle.book.specs.Ast.{Ty, Tys, Value, Zero, InstKind, Terminator}
use Rattle.book.specs.Result.{Result, ok, bind}
use Rattle.layout.specs.Frame.{no_frame}
use Rattle.machine.specs.State.{Call}
use Rattle.machine.specs.Sweep.{OnAll, down_from, little, open_sweep}
use Rattle.manual.specs.Stop.{Stop, stops}
use Rattle.manual.specs.State.{Cell, nothing, with}
use Rattle.manual.specs.Inst.{run_inst}
use Rattle.manual.specs.Term.{Stand, edge}
use Rattle.manual.specs.Open.{open_manual}
use Rattle.manual.specs.Alone.{Went, standing, given, gives, ends, phi_of, typed, zeros, open_alone}
use Rattle.manual.specs.Conversions.{widths, wider}

-- ---- a local at every pair of widths: read at its own alone. The four zeros at every width; a global at 64 alone
unfoldable pub read : (width at : ℕ) → Result (Option Cell)
read v w = gives (with 0 (Cell.one v 1) nothing) (InstKind.freeze (Ty.int w) (Value.local 0))

unfoldable pub read_at : (w : ℕ) → Value → Result (Option Cell)
read_at w v = gives nothing (InstKind.freeze (Ty.int w) v)

pub locals_hold :
    (OnAll widths (λ (w : ℕ). read w w) (λ (w : ℕ). ok (some (Cell.one w 1))))
    × (OnAll wider (λ (p : ℕ × ℕ). read p.0 p.1 ∷ read p.1 p.0 ∷ []) (λ (p : ℕ × ℕ). replicate 2 (stops Stop.other_width)))
unfolding open_manual open_sweep open_alone widths wider read
locals_hold = (refl, refl)

pub zeros_hold : OnAll widths (λ (w : ℕ). map (read_at w) zeros) (λ (w : ℕ). replicate 4 (ok (some (Cell.one w 0))))
unfolding open_manual open_sweep open_alone widths read_at
zeros_hold = refl

pub globals_hold : (OnAll (down_from 63) (λ (w : ℕ). read_at w (Value.global 1)) (λ (w : ℕ). stops Stop.ill_formed)) × (read_at 64 (Value.global 1) ≡ ok (some (Cell.one 64 8193)))
unfolding open_manual open_sweep open_alone read_at
globals_hold = (refl, refl)

-- ---- integers as operands: 0, the greatest unsigned, the least signed, -1; beyond the one, beyond the other
unfoldable pub constants : (w : ℕ) → List ℕ → List (Result (Option Cell))
constants w vs = map (λ (v : ℕ). gives nothing (InstKind.freeze (Ty.int w) (Value.int v))) vs

unfoldable pub cells : (w : ℕ) → List ℕ → List (Result (Option Cell))
cells w vs = map (λ (v : ℕ). ok (some (Cell.one w v))) vs

pub constants_hold :
    (OnAll (down_from 64) (λ (w : ℕ). constants w (0 ∷ (2 ^ w - 1) ∷ (2 ^ 64 - 2 ^ (w - 1)) ∷ (2 ^ 64 - 1) ∷ [])) (λ (w : ℕ). cells w (0 ∷ (2 ^ w - 1) ∷ 2 ^ (w - 1) ∷ (2 ^ w - 1) ∷ [])))
    × (OnAll (down_from 63) (λ (w : ℕ). constants w (2 ^ w ∷ (2 ^ 64 - 2 ^ (w - 1) - 1) ∷ [])) (λ (w : ℕ). replicate 2 (stops Stop.integer_range)))
unfolding open_manual open_sweep open_alone constants cells
constants_hold = (refl, refl)

-- -1 at every width is all its bits, whichever way it goes: taken by a select, over an edge, returned, given to a call
unfoldable pub over_edge : Ty → Value → Result (Option Cell)
over_edge t v = bind (edge (given Ty.void no_frame (phi_of t v ∷ [])) 7 10 (standing nothing)) λ s. ok (value_in s)
  where
    value_in : Stand → Option Cell
    value_in (Stand.at b σ) = σ.env 200
    value_in (Stand.gave v σ) = none

unfoldable pub handed_over : Ty → Value → Result (List (List ℕ))
handed_over t v =
    bind (run_inst (given Ty.void no_frame []) (record { dest = none; kind = InstKind.call Ty.void (Value.global 1) (typed t v ∷ typed t v ∷ []) }) (standing nothing)) λ σ.
    ok (map (λ (c : Call). c.args) σ.calls)

unfoldable pub minus_one : Value
minus_one = Value.int (2 ^ 64 - 1)

pub ones_pass :
    (OnAll widths (λ (w : ℕ). gives nothing (InstKind.select (Value.int 1) (Ty.int w) minus_one (Value.int 0))) (λ (w : ℕ). ok (some (Cell.one w (2 ^ w - 1)))))
    × (OnAll widths (λ (w : ℕ). over_edge (Ty.int w) minus_one) (λ (w : ℕ). ok (some (Cell.one w (2 ^ w - 1)))))
    × (OnAll widths (λ (w : ℕ). ends (Ty.int w) nothing (Terminator.ret (some (typed (Ty.int w) minus_one)))) (λ (w : ℕ). ok (Went.back (2 ^ w - 1))))
    × (OnAll widths (λ (w : ℕ). handed_over (Ty.int w) minus_one) (λ (w : ℕ). ok (((2 ^ w - 1) ∷ (2 ^ w - 1) ∷ []) ∷ [])))
unfolding open_manual open_sweep open_alone widths over_edge handed_over minus_one
ones_pass = (refl, refl, refl, refl)

-- ---- a constant index over bytes, from null: 0, the greatest signed, the least, -1; beyond the one, beyond the other
unfoldable pub indices : (w : ℕ) → List ℕ → List (Result (Option Cell))
indices w vs = map (λ (v : ℕ). gives nothing (InstKind.get_element_ptr (Ty.int 8) (Value.zero Zero.null) (typed (Ty.int w) (Value.int v) ∷ []))) vs

unfoldable pub inside : (w : ℕ) → List ℕ
inside w = 0 ∷ (2 ^ (w - 1) - 1) ∷ (2 ^ 64 - 2 ^ (w - 1)) ∷ (2 ^ 64 - 1) ∷ []

pub indices_hold :
    (OnAll (down_from 64) (λ (w : ℕ). indices w (inside w)) (λ (w : ℕ). cells 64 (inside w)))
    × (OnAll (down_from 63) (λ (w : ℕ). indices w (2 ^ (w - 1) ∷ (2 ^ 64 - 2 ^ (w - 1) - 1) ∷ [])) (λ (w : ℕ). replicate 2 (stops Stop.index_range)))
unfolding open_manual open_sweep open_alone indices inside cells
indices_hold = (refl, refl)

-- the same further in, over an array's elements; a field's index is held to the range of its type too: at i1, 1 is none of {i8, i8}'s fields
unfoldable pub second : Ty → (w v : ℕ) → Result (Option Cell)
second t w v = gives nothing (InstKind.get_element_ptr t (Value.zero Zero.null) (typed (Ty.int 64) (Value.int 0) ∷ typed (Ty.int w) (Value.int v) ∷ []))

unfoldable pub fields : Ty
fields = Ty.struct false (Tys.cons (Ty.int 8) (Tys.cons (Ty.int 8) Tys.nil))

pub inner_hold :
    (OnAll (down_from 64) (λ (w : ℕ). map (second (Ty.array false 0 (Ty.int 8)) w) (inside w)) (λ (w : ℕ). cells 64 (inside w)))
    × (OnAll (down_from 63) (λ (w : ℕ). second (Ty.array false 0 (Ty.int 8)) w (2 ^ (w - 1))) (λ (w : ℕ). stops Stop.index_range))
    × (map (λ (v : ℕ). second fields 32 v) (0 ∷ 1 ∷ 2 ∷ (2 ^ 64 - 1) ∷ []) ≡ ok (some (Cell.one 64 0)) ∷ ok (some (Cell.one 64 1)) ∷ stops Stop.ill_formed ∷ stops Stop.ill_formed ∷ [])
    × (map (λ (w : ℕ). second fields w 1) (1 ∷ 2 ∷ 64 ∷ []) ≡ stops Stop.index_range ∷ ok (some (Cell.one 64 1)) ∷ ok (some (Cell.one 64 1)) ∷ [])
unfolding open_manual open_sweep open_alone second fields inside cells
inner_hold = (refl, refl, refl, refl)

-- "Varying indices are signed": the top bit alone is the least number, and all the others the greatest
unfoldable pub varied : (w x : ℕ) → Result (Option Cell)
varied w x = gives (with 0 (Cell.one w x) nothing) (InstKind.get_element_ptr (Ty.int 8) (Value.zero Zero.null) (typed (Ty.int w) (Value.local 0) ∷ []))

pub varying_hold : OnAll (down_from 64) (λ (w : ℕ). map (varied w) (2 ^ (w - 1) ∷ (2 ^ (w - 1) - 1) ∷ [])) (λ (w : ℕ). cells 64 ((2 ^ 64 - 2 ^ (w - 1)) ∷ (2 ^ (w - 1) - 1) ∷ []))
unfolding open_manual open_sweep open_alone varied cells
varying_hold = refl

-- ---- a switch on x of w bits, with one case: to 8 where it is x, else to 9
unfoldable pub switched : (w : ℕ) → (x v : ℕ) → Result Went
switched w x v = ends Ty.void (with 0 (Cell.one w x) nothing) (Terminator.switch (Ty.int w) (Value.local 0) 9 (record { value = v; label = 8 } ∷ []))

pub switches_hold :
    (OnAll (down_from 64) (λ (w : ℕ). switched w 0 0 ∷ switched w (2 ^ w - 1) (2 ^ w - 1) ∷ switched w (2 ^ w - 1) (2 ^ 64 - 1) ∷ switched w (2 ^ (w - 1)) (2 ^ 64 - 2 ^ (w - 1)) ∷ [])
    (λ (w : ℕ). replicate 4 (ok (Went.to 8))))
    × (OnAll (down_from 64) (λ (w : ℕ). switched w 0 (2 ^ w - 1) ∷ switched w (2 ^ (w - 1)) 0 ∷ switched w 0 (2 ^ 64 - 2 ^ (w - 1)) ∷ []) (λ (w : ℕ). replicate 3 (ok (Went.to 9))))
    × (OnAll (down_from 63) (λ (w : ℕ). switched w 0 (2 ^ w) ∷ switched w 0 (2 ^ 64 - 2 ^ (w - 1) - 1) ∷ []) (λ (w : ℕ). replicate 2 (stops Stop.integer_range)))
unfolding open_manual open_sweep open_alone switched
switches_hold = (refl, refl, refl)

-- a case behind the one that is taken is not looked at, whatever it is
unfoldable pub switched_first : (w : ℕ) → Result Went
switched_first w =
    ends Ty.void (with 0 (Cell.one w 1) nothing) (Terminator.switch (Ty.int w) (Value.local 0) 9 (record { value = 1; label = 8 } ∷ record { value = 2 ^ w; label = 9 } ∷ record { value = 1; label = 7 } ∷ []))

pub first_taken : OnAll (down_from 63) switched_first (λ (w : ℕ). ok (Went.to 8))
unfolding open_manual open_sweep open_alone switched_first
first_taken = refl

-- ---- loads where every byte is b, for each of the 256: an i1 of 0 and 1 alone; every other type takes them all
unfoldable pub loaded : Ty → (b : ℕ) → Result (Option Cell)
loaded t b =
    bind (run_inst (given Ty.void no_frame []) (record { dest = some 200; kind = InstKind.load t (Value.int 4096) none })
    (record { env = nothing; memory = λ a. b; calls = []; sp = 0 })) λ σ. ok (σ.env 200)

pub loads_hold :
    (map (loaded (Ty.int 1)) (0 ∷ 1 ∷ []) ≡ cells 1 (0 ∷ 1 ∷ [])) × (OnAll (map (λ (n : ℕ). 256 - n) (down_from 254)) (loaded (Ty.int 1)) (λ (b : ℕ). stops Stop.load_range))
    × (OnAll (0 ∷ down_from 255) (λ (b : ℕ). map (λ (t : Ty). loaded t b) (Ty.int 8 ∷ Ty.int 16 ∷ Ty.int 32 ∷ Ty.int 64 ∷ Ty.ptr ∷ []))
    (λ (b : ℕ). map (λ (n : ℕ). ok (some (Cell.one (8 * n) (little (replicate n b))))) (1 ∷ 2 ∷ 4 ∷ 8 ∷ 8 ∷ [])))
unfolding open_manual open_sweep open_alone loaded cells
loads_hold = (refl, refl, refl)
