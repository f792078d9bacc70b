-- Places on the stack: "a fixed alloca run twice, or in the size-0 case above"; varying places "by the Rust's formula", which may run as often as one likes.
use Rattle.std.specs.Prelude.{ℕ, ◌+◌, ◌-◌, ◌*◌, ◌/◌, ◌^◌, max, ◌≡◌, refl, true, false, List, [], ◌∷◌, ◌++◌, map}
use Rattle.std.proofs.Math.Option.{Option, none, some}
use Rattle.book.specs.Ast.{Ty, Tys, Value, Zero, TypedVal, InstKind, Inst, Terminator, Function}
use Rattle.book.specs.Result.{Result, ok, bind}
use Rattle.machine.specs.Sweep.{OnAll, down_from, up_to, pairs, open_sweep}
use Rattle.machine.specs.Cases.{holding, world}
use Rattle.manual.specs.Stop.{Stop, stops}
use Rattle.manual.specs.State.{Cell, Source, nothing, with}
use Rattle.manual.specs.Inst.{run_inst}
use Rattle.manual.specs.Term.{Stand}
use Rattle.manual.specs.Run.{source_run}
use Rattle.manual.specs.Open.{open_manual}
use Rattle.manual.specs.Alone.{names, furnished, given, number, typed, open_alone, standing as state}

-- ---- a function of one block, 7, that goes back to itself; the state after n times
unfoldable pub alloca : (name : ℕ) → Ty → Option TypedVal → Option ℕ → Inst
alloca x t c a = record { dest = some x; kind = InstKind.alloca t c a }

again : List Inst → Function
again is = record { name = 0; ret_ty = Ty.void; params = []; blocks = record { label = 7; insts = is; term = Terminator.br none 7 none } ∷ [] }

-- the values of %200 and %201, and the stack pointer
pub record Standing : Type 0 where
  pub first : Option Cell
  pub second : Option Cell
  pub sp : ℕ

summary : Source → Standing
summary σ = record { first = σ.env 200; second = σ.env 201; sp = σ.sp }

standing : Stand → Standing
unfolding summary
standing (Stand.at b σ) = summary σ
standing (Stand.gave v σ) = summary σ

-- from a stack pointer on; and from 65536 on
unfoldable pub times_from : (sp n : ℕ) → List Inst → Result Standing
unfolding names world again standing
times_from sp n is = bind (source_run names [] (again is) world [] (holding 4096 7) sp n) λ s. ok (standing s)

unfoldable pub times : (n : ℕ) → List Inst → Result Standing
unfolding times_from
times n is = times_from 65536 n is

unfoldable pub places : Option Cell → Option Cell → ℕ → Result Standing
places a b n = ok (record { first = a; second = b; sp = n })

unfoldable pub at : ℕ → Option Cell
at a = some (Cell.one 64 a)

-- ---- fixed: an i8 and three i32, from 65536 on; a stated align does not count. The stack pointer is moved at entry, over both; once they have run, the second time stops
unfoldable pub fixed : List Inst
unfolding alloca
fixed = alloca 200 (Ty.int 8) none none ∷ alloca 201 (Ty.int 32) (some (typed (Ty.int 8) (Value.int 3))) (some 64) ∷ []

pub fixed_holds : map (λ (n : ℕ). times n fixed) (0 ∷ 1 ∷ 2 ∷ []) ≡ places none none 65552 ∷ places (at 65536) (at 65540) 65552 ∷ stops Stop.place_twice ∷ []
unfolding open_manual open_alone times fixed places at
fixed_holds = refl

-- addresses and the stack pointer count modulo 2^64
pub fixed_wraps : map (λ (n : ℕ). times_from (2 ^ 64 - 4) n fixed) (0 ∷ 1 ∷ []) ≡ places none none 12 ∷ places (at (2 ^ 64 - 4)) (at 0) 12 ∷ []
unfolding open_manual open_alone times_from fixed places at
fixed_wraps = refl

-- ---- "a function whose fixed places have size 0 and no varying one": no type and no count that makes 0 bytes has a place; one byte, or a varying place, is enough
unfoldable pub zero_sized : List Inst
unfolding alloca
zero_sized =
    alloca 200 (Ty.array false 0 (Ty.int 64)) none none ∷ alloca 200 (Ty.struct false Tys.nil) none none ∷ alloca 200 (Ty.int 64) (some (typed (Ty.int 8) (Value.int 0))) none
    ∷ alloca 200 (Ty.array true 5 (Ty.struct true Tys.nil)) (some (typed (Ty.int 8) (Value.int 7))) none ∷ []

pub empty_stops : OnAll zero_sized (λ (i : Inst). times 1 (i ∷ [])) (λ (i : Inst). stops Stop.place_empty)
unfolding open_manual open_alone times zero_sized
empty_stops = refl

pub byte_goes : OnAll zero_sized (λ (i : Inst). times 1 (i ∷ alloca 201 (Ty.int 8) none none ∷ [])) (λ (i : Inst). places (at 65536) (at 65536) 65544)
unfolding open_manual open_alone times zero_sized alloca places at
byte_goes = refl

pub varying_goes : OnAll zero_sized (λ (i : Inst). times 1 (i ∷ alloca 201 (Ty.int 8) (some (typed (Ty.int 8) (Value.zero Zero.undef))) none ∷ [])) (λ (i : Inst). places (at 65536) (at 65536) 65536)
unfolding open_manual open_alone times zero_sized alloca places at
varying_goes = refl

-- the stack pointer at entry: rounded up to 8 over n bytes
pub entry_moves : OnAll (up_to 40) (λ (n : ℕ). times 0 (alloca 200 (Ty.array false n (Ty.int 8)) none none ∷ [])) (λ (n : ℕ). places none none (65536 + (n + 7) / 8 * 8))
unfolding open_manual open_sweep open_alone times alloca places
entry_moves = refl

-- ---- varying: from the stack pointer, rounded up to the alignment, 8 at least; as often as it is run, and with any count
unfoldable pub varied : (sp : ℕ) → Ty → (count : ℕ) → (align : Option ℕ) → Result (Option Cell × ℕ)
unfolding alloca
varied sp t n a =
    bind (run_inst (given Ty.void (record { offsets = []; off = 0; dynamic = true }) []) (alloca 200 t (some (typed (Ty.int 64) (Value.local 0))) a)
    (record { env = with 0 (Cell.one 64 n) nothing; memory = holding 4096 7; calls = []; sp = sp })) λ σ. ok (σ.env 200, σ.sp)

-- every stated align, 1 to 4096, at every stack pointer about a multiple of it
unfoldable pub powers : List ℕ
powers = map (λ (k : ℕ). 2 ^ (k - 1)) (down_from 13)

unfoldable pub above : (sp align : ℕ) → ℕ
above sp a = (sp + max a 8 - 1) / max a 8 * max a 8

pub varying_hold : OnAll (pairs powers (map (λ (k : ℕ). 40960 + k) (0 ∷ up_to 17) ++ (8191 ∷ 8192 ∷ 8193 ∷ [])))
    (λ (p : ℕ × ℕ). varied p.1 (Ty.int 32) 5 (some p.0))
    (λ (p : ℕ × ℕ). ok (at (above p.1 p.0), above p.1 p.0 + 20))
unfolding open_manual open_sweep open_alone varied powers above at
varying_hold = refl

-- without one by the type's own; the sum wraps at 2^64; a count of 0 takes nothing, and none is too large
pub counts_hold :
    (map (λ (n : ℕ). varied 1001 (Ty.int 16) n none) (0 ∷ 1 ∷ 2 ^ 63 ∷ []) ≡ ok (at 1008, 1008) ∷ ok (at 1008, 1010) ∷ ok (at 1008, 1008) ∷ [])
    × (varied (2 ^ 64 - 1) (Ty.int 8) 3 none ≡ ok (at 0, 3))
unfolding open_manual open_alone varied at
counts_hold = (refl, refl)

-- run again: further on
unfoldable pub varying : List Inst
varying = alloca 200 (Ty.int 8) (some (typed (Ty.int 8) (Value.zero Zero.zero_init))) none ∷ alloca 201 Ty.ptr (some (typed Ty.ptr (Value.global 1))) none ∷ []

pub again_goes : map (λ (n : ℕ). times n varying) (1 ∷ 2 ∷ 3 ∷ [])
    ≡ map (λ (k : ℕ). places (at (65536 + k * 65544)) (at (65536 + k * 65544)) (65536 + (k + 1) * 65544)) (0 ∷ 1 ∷ 2 ∷ [])
unfolding open_manual open_alone times alloca varying places at
again_goes = refl

-- without a name there is nothing to place
unfoldable pub nameless : Inst
nameless = record { dest = none; kind = InstKind.alloca (Ty.int 8) none none }

pub nameless_stops : number (run_inst (given Ty.void (record { offsets = []; off = 8; dynamic = true }) []) nameless (state furnished)) ≡ 103
unfolding open_manual open_alone nameless
nameless_stops = refl
