-- Types as widths, and operands.
use Rattle.std.specs.Prelude.{ℕ, List, [], ◌∷◌, eqb}
use Rattle.book.specs.Ast.{Ty, Value, TypedVal}
use Rattle.book.specs.Result.{Result, ok, bind as ◌>>=◌, ok_or}
use Rattle.machine.specs.State.{World, global_at}
use Rattle.manual.specs.Stop.{Stop, stops, stop_number, need}
use Rattle.manual.specs.Values.{constant}
use Rattle.manual.specs.State.{Cell, Env}

-- the width of a value of this type; a pointer's is 64
unfoldable pub width_of : Ty → Result ℕ
width_of (Ty.int w) = ok w
width_of Ty.ptr = ok 64
width_of Ty.void = stops Stop.ill_formed
width_of (Ty.sizeless s) = stops Stop.ill_formed
width_of (Ty.array p n t) = stops Stop.aggregate
width_of (Ty.named_struct x) = stops Stop.aggregate
width_of (Ty.struct p ts) = stops Stop.aggregate

-- "The two arguments .. must be integer .. values"
unfoldable pub integer_width : Ty → Result ℕ
integer_width (Ty.int w) = ok w
integer_width Ty.ptr = stops Stop.ill_formed
integer_width Ty.void = stops Stop.ill_formed
integer_width (Ty.sizeless s) = stops Stop.ill_formed
integer_width (Ty.array p n t) = stops Stop.aggregate
integer_width (Ty.named_struct x) = stops Stop.aggregate
integer_width (Ty.struct p ts) = stops Stop.aggregate

-- what is read at a width
unfoldable pub scalar : (w : ℕ) → Cell → Result ℕ
scalar w (Cell.one v n) = do
  _ ← need (eqb v w) Stop.other_width
  ok n
scalar w (Cell.two v a b) = stops Stop.aggregate

module _ (world : World) (ρ : Env) where
  -- "undef, poison and zeroinitializer as operands are 0"; a global is its address, a pointer
  unfoldable pub value : (w : ℕ) → Value → Result ℕ
  value w (Value.local x) = do
    c ← ok_or (stop_number Stop.unset) (ρ x)
    scalar w c
  value w (Value.int v) = constant w v
  value w (Value.zero z) = ok 0
  value w (Value.global x) = do
    _ ← need (eqb w 64) Stop.ill_formed
    ok (global_at world x)
  value w Value.other = stops Stop.ill_formed

  unfoldable pub typed : Ty → Value → Result ℕ
  typed ty v = do
    w ← width_of ty
    value w v

  unfoldable pub typeds : List TypedVal → Result (List ℕ)
  typeds [] = ok []
  typeds (a ∷ as') = do
    x ← typed a.ty a.val
    xs ← typeds as'
    ok (x ∷ xs)

-- opens every definition of this file, for an example that computes
unfoldable pub open_operand : Unit {0}
unfolding width_of integer_width scalar value typed typeds
open_operand = tt
