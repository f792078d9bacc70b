-- "'ret' Instruction": every type that may be returned against every type of a function.
use Rattle.std.specs.Prelude.{ℕ, refl, cond, List, [], ◌∷◌, ◌++◌, map, eqb}
use Rattle.std.proofs.Math.Option.{Option, none, some}
use Rattle.book.specs.Ast.{Ty, Sizeless, Value, Terminator}
use Rattle.book.specs.Result.{Result, ok, err}
use Rattle.machine.specs.Sweep.{OnAll, pairs, open_sweep}
use Rattle.manual.specs.State.{nothing}
use Rattle.manual.specs.Open.{open_manual}
use Rattle.manual.specs.Alone.{Went, aggregates, ends, for_one_of, typed, open_alone}

pub data Sort : Type 0 where
  void : Sort
  integer : (width : ℕ) → Sort
  pointer : Sort
  aggregate : Ty → Sort
  valueless : Sizeless → Sort

type_of : Sort → Ty
type_of void = Ty.void
type_of (integer w) = Ty.int w
type_of pointer = Ty.ptr
type_of (aggregate t) = t
type_of (valueless s) = Ty.sizeless s

unfoldable pub sorts : List Sort
sorts =
    void ∷ integer 1 ∷ integer 8 ∷ integer 16 ∷ integer 32 ∷ integer 64 ∷ pointer ∷ valueless Sizeless.func ∷ valueless Sizeless.label ∷ valueless Sizeless.metadata ∷
    map aggregate aggregates

-- the reasons to stop: "a function's .. result type not integer, pointer or void"; "a value of struct .. type"
of_function : Sort → List ℕ
of_function void = []
of_function (integer w) = []
of_function pointer = []
of_function (aggregate t) = 109 ∷ []
of_function (valueless s) = 109 ∷ []

of_value : Sort → List ℕ
of_value void = 103 ∷ []
of_value (integer w) = []
of_value pointer = []
of_value (aggregate t) = 108 ∷ []
of_value (valueless s) = 103 ∷ []

-- the width of what can be returned
bits_of : Sort → Option ℕ
bits_of void = none
bits_of (integer w) = some w
bits_of pointer = some 64
bits_of (aggregate t) = none
bits_of (valueless s) = none

-- "the type of the value must match the function's". An i64 for a pointer goes on, and a pointer for an i64: the widths are the same, and no stop is needed there
matches : Option ℕ → Option ℕ → List ℕ
matches none v = 103 ∷ []
matches (some w) none = 103 ∷ []
matches (some w) (some v) = cond (eqb w v) [] (103 ∷ [])

unfoldable pub reasons : Sort × Sort → List ℕ
unfolding of_function of_value bits_of matches
reasons p = of_function p.0 ++ (of_value p.1 ++ matches (bits_of p.0) (bits_of p.1))

answer : List ℕ → Went → Result Went
answer [] a = ok a
answer (n ∷ ns) a = err 0

unfoldable pub returned : Sort × Sort → Result Went
unfolding type_of
returned p = for_one_of (reasons p) (ends (type_of p.0) nothing (Terminator.ret (some (typed (type_of p.1) (Value.int 1)))))

unfoldable pub expected : Sort × Sort → Result Went
unfolding answer
expected p = answer (reasons p) (Went.back 1)

pub returns_hold : OnAll (pairs sorts sorts) returned expected
unfolding open_manual open_sweep open_alone sorts reasons returned expected
returns_hold = refl

-- "void returns 0"; a value is due from any other
nothing_due : Sort → List ℕ
nothing_due void = []
nothing_due (integer w) = 103 ∷ []
nothing_due pointer = 103 ∷ []
nothing_due (aggregate t) = 109 ∷ 103 ∷ []
nothing_due (valueless s) = 109 ∷ 103 ∷ []

unfoldable pub returned_none : Sort → Result Went
unfolding nothing_due type_of
returned_none f = for_one_of (nothing_due f) (ends (type_of f) nothing (Terminator.ret none))

unfoldable pub expected_none : Sort → Result Went
unfolding nothing_due answer
expected_none f = answer (nothing_due f) (Went.back 0)

pub void_returns : OnAll sorts returned_none expected_none
unfolding open_manual open_alone sorts returned_none expected_none
void_returns = refl
