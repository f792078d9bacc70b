-- Every form of call by result type, number of arguments, and with or without a name: which go on, with what is listed and received, and which stop. Where
-- several reasons hold, any of them may be the one told.
use Rattle.std.specs.Prelude.{ℕ, ◌+◌, ◌-◌, ◌^◌, ◌≡◌, refl, Bool, true, false, List, [], ◌∷◌, ◌++◌, map, eqb, replicate}
use Rattle.std.proofs.Math.Option.{Option, none, some}
use Rattle.names.specs.Text.{bytes}
use Rattle.book.specs.Ast.{Ty, Sizeless, Value, TypedVal, InstKind}
use Rattle.book.specs.Result.{Result, ok, err, bind}
use Rattle.layout.specs.Frame.{no_frame}
use Rattle.machine.specs.Sweep.{OnAll, down_from, up_to, pairs, open_sweep}
use Rattle.machine.specs.State.{Target, Call}
use Rattle.manual.specs.State.{Cell, Source, Given, nothing, with}
use Rattle.manual.specs.Call.{run_call}
use Rattle.manual.specs.Inst.{run_inst}
use Rattle.manual.specs.Open.{open_manual}
use Rattle.manual.specs.Alone.{names, aggregates, furnished, standing, given, typed, zeros, number, for_one_of, open_alone}

-- ---- the forms: what is called, how it is listed, and how many arguments it takes, where that is fixed, with a reply or without
pub data Takes : Type 0 where
  any : Takes
  fixed : (args : ℕ) → (reply : Bool) → Takes
  unknown : Takes

pub record Form : Type 0 where
  pub callee : Value
  pub target : Target
  pub takes : Takes

form : Value → Target → Takes → Form
form v t k = record { callee = v; target = t; takes = k }

-- "bcmp and memcmp are listed as syscall memcmp, `__uvm_` names without the prefix"; a name that is spelled otherwise is a function's; local 64 is 1
unfoldable pub forms : List Form
unfolding form
forms =
    form (Value.global 0) (Target.function 0) any ∷ form (Value.global 1) (Target.function 1) any ∷ form (Value.local 64) (Target.address 1) any ∷
    form (Value.global 2) (Target.syscall (bytes "put")) (fixed 1 false) ∷ form (Value.global 3) (Target.syscall (bytes "ask")) (fixed 2 true) ∷
    form (Value.global 4) (Target.syscall (bytes "gone")) unknown ∷ form (Value.global 5) (Target.syscall (bytes "memcmp")) (fixed 3 true) ∷
    form (Value.global 6) (Target.syscall (bytes "memcmp")) (fixed 3 true) ∷ form (Value.global 7) (Target.syscall (bytes "memcmp")) (fixed 3 true) ∷
    map (λ (x : ℕ). form (Value.global x) (Target.function x) any) (8 ∷ 9 ∷ 10 ∷ 11 ∷ 12 ∷ [])

-- ---- the result: none for void, else its width; the reply's cell is 40
pub record Made : Type 0 where
  pub ty : Ty
  pub width : Option ℕ
  pub fits : Bool

made : Ty → Option ℕ → Bool → Made
made t w b = record { ty = t; width = w; fits = b }

unfoldable pub results : List Made
unfolding made
results =
    made Ty.void none true ∷ made (Ty.int 1) (some 1) false ∷ made (Ty.int 8) (some 8) true ∷ made (Ty.int 16) (some 16) true ∷
    made (Ty.int 32) (some 32) true ∷ made (Ty.int 64) (some 64) true ∷ made Ty.ptr (some 64) true ∷ []

-- ---- a call: its form, its result, so many arguments, and whether it has a name
abbrev pub Case : Type 0
Case = Form × (Made × (ℕ × Bool))

unfoldable pub cases : List Case
cases = pairs forms (pairs results (pairs (0 ∷ up_to 4) (true ∷ false ∷ [])))

named : Bool → Option ℕ
named true = some 200
named false = none

-- arguments 1, .., n, an i32 each
arguments : ℕ → List TypedVal
arguments n = map (λ (v : ℕ). typed (Ty.int 32) (Value.int v)) (up_to n)

-- what there is after it: the calls, what the name got, the byte at address 4096 and the stack pointer
pub record After : Type 0 where
  pub calls : List Call
  pub value : Option Cell
  pub byte : ℕ
  pub sp : ℕ

after : Source → After
after σ = record { calls = σ.calls; value = σ.env 200; byte = σ.memory 4096; sp = σ.sp }

unfoldable pub called : (name : Bool) → Ty → Value → List TypedVal → Result After
unfolding named after
called b t f xs = bind (run_inst (given Ty.void no_frame []) (record { dest = named b; kind = InstKind.call t f xs }) (standing furnished)) λ σ. ok (after σ)

unfoldable pub runs : Case → Result After
unfolding arguments
runs c = called c.1.1.1 c.1.0.ty c.0.callee (arguments c.1.1.0)

-- ---- the rule: the reasons to stop
has_reply : Option ℕ → Bool
has_reply none = false
has_reply (some w) = true

same_bool : Bool → Bool → Bool
same_bool true b = b
same_bool false true = false
same_bool false false = true

unless : Bool → ℕ → List ℕ
unless true n = []
unless false n = n ∷ []

-- "a syscall against its fixed shape"
against : Takes → (args : ℕ) → Option ℕ → List ℕ
unfolding has_reply same_bool unless
against any n w = []
against (fixed k r) n w = unless (eqb n k) 112 ++ unless (same_bool r (has_reply w)) 112
against unknown n w = 112 ∷ []

-- a void call with a name is ill-formed
void_named : Option ℕ → Bool → List ℕ
void_named none true = 103 ∷ []
void_named none false = []
void_named (some w) b = []

-- and 200 for a reply that is too large
unfoldable pub reasons : Case → List ℕ
unfolding against void_named unless
reasons c = against c.0.takes c.1.1.0 c.1.0.width ++ (void_named c.1.0.width c.1.1.1 ++ unless c.1.0.fits 200)

received : Option ℕ → Bool → Option Cell
received none b = none
received (some w) true = some (Cell.one w 40)
received (some w) false = none

-- the call is listed with its arguments in order, and the reply's memory has 50 at address 4096
listed : Case → After
unfolding received
listed c = record { calls = record { target = c.0.target; args = up_to c.1.1.0 } ∷ []; value = received c.1.0.width c.1.1.1; byte = 50; sp = 65536 }

or_else : List ℕ → After → Result After
or_else [] a = ok a
or_else (n ∷ ns) a = err 0

unfoldable pub expected : Case → Result After
unfolding or_else listed
expected c = or_else (reasons c) (listed c)

pub calls_hold : OnAll cases (λ (c : Case). for_one_of (reasons c) (runs c)) expected
unfolding open_manual open_sweep open_alone forms results cases called runs reasons expected
calls_hold = refl

-- "a function's or call's result type not integer, pointer or void", whatever is called; of a syscall the shape may be told instead
unfoldable pub unmade : List Ty
unmade = aggregates ++ (Ty.sizeless Sizeless.func ∷ Ty.sizeless Sizeless.label ∷ Ty.sizeless Sizeless.metadata ∷ [])

or_shape : Takes → List ℕ
or_shape any = 109 ∷ []
or_shape (fixed k r) = 109 ∷ 112 ∷ []
or_shape unknown = 109 ∷ 112 ∷ []

unfoldable pub unmade_runs : Form × (Ty × (ℕ × Bool)) → Result After
unfolding arguments or_shape
unmade_runs c = for_one_of (or_shape c.0.takes) (called c.1.1.1 c.1.0 c.0.callee (arguments c.1.1.0))

pub results_hold : OnAll (pairs forms (pairs unmade (pairs (0 ∷ up_to 3) (true ∷ false ∷ [])))) unmade_runs (λ (c : Form × (Ty × (ℕ × Bool))). err 0)
unfolding open_manual open_sweep open_alone forms called unmade unmade_runs
results_hold = refl

-- no number of arguments is too many
pub many_go : number (called true (Ty.int 64) (Value.global 1) (replicate 300 (typed (Ty.int 8) (Value.int 255)))) ≡ 0
unfolding open_manual open_alone called
many_go = refl

-- "the callee": a constant that is no global is ill-formed
pub callees_hold : OnAll (Value.int 4096 ∷ Value.other ∷ zeros) (λ (v : Value). number (called true (Ty.int 64) v [])) (λ (v : Value). 103)
unfolding open_manual open_alone called
callees_hold = refl

-- ---- "replies .. fit their widths": up to the last number of the width and no further, at every width; a void call's cell is read by nobody
unfoldable pub replied : Ty → (name : Option ℕ) → (cell : ℕ) → Result (Option Cell)
replied t x c = bind (run_call (answering c) x t (Value.global 1) [] (standing furnished)) λ σ. ok (σ.env 200)
  where
    -- every reply is this cell
    answering : ℕ → Given
    answering c = record {
      names = names;
      structs = [];
      function = (given t no_frame []).function;
      frame = no_frame;
      base = 0;
      world = record { globals = λ x. 0; shapes = λ s. none; replies = λ n. record { cell = c; memory = λ a. 0 } };
    }

unfoldable pub ends_of : (w : ℕ) → List ℕ
ends_of w = 0 ∷ (2 ^ w - 1) ∷ 2 ^ w ∷ []

unfoldable pub fitting : (w : ℕ) → List (Result (Option Cell))
fitting w = ok (some (Cell.one w 0)) ∷ ok (some (Cell.one w (2 ^ w - 1))) ∷ err 200 ∷ []

pub replies_fit :
    (OnAll (down_from 64) (λ (w : ℕ). map (replied (Ty.int w) (some 200)) (ends_of w)) fitting) × (map (replied Ty.ptr (some 200)) (ends_of 64) ≡ fitting 64)
    × (map (replied Ty.void none) (ends_of 64) ≡ replicate 3 (ok none))
unfolding open_manual open_sweep open_alone replied ends_of fitting
replies_fit = (refl, refl, refl)

-- ---- an address called may be any; a call at every position takes the reply of that position, 40 more as a cell, 50 more as the byte at address 4096
unfoldable pub addressed : ℕ → Result (List Call)
addressed a =
    bind (run_call (given Ty.void no_frame []) none Ty.void (Value.local 0) [] (standing (with 0 (Cell.one 64 a) nothing))) λ σ. ok σ.calls

unfoldable pub positioned : ℕ → Result (Option Cell × ℕ)
positioned n =
    bind (run_call (given Ty.void no_frame []) (some 200) (Ty.int 64) (Value.global 1) []
    (record { env = furnished; memory = λ a. 0; calls = replicate n (record { target = Target.function 1; args = [] }); sp = 0 })) λ σ. ok (σ.env 200, σ.memory 4096)

pub addresses_hold : OnAll (0 ∷ 1 ∷ 4096 ∷ 2 ^ 63 ∷ (2 ^ 64 - 1) ∷ []) addressed (λ (a : ℕ). ok (record { target = Target.address a; args = [] } ∷ []))
unfolding open_manual open_alone addressed
addresses_hold = refl

pub positions_hold : OnAll (0 ∷ up_to 40) positioned (λ (n : ℕ). ok (some (Cell.one 64 (n + 40)), n + 50))
unfolding open_manual open_sweep open_alone positioned
positions_hold = refl
