-- codegen.rs: the step that an index of a getelementptr takes into an array or a struct. Refusal 14: no aggregate, a field that is not constant or out of range.
use Rattle.std.specs.Prelude.{ℕ, zero, suc, ◌*◌, ◌%◌, ◌^◌, List}
use Rattle.std.proofs.Math.Option.{Option, none, some}
use Rattle.book.specs.Ast.{Ty, Tys, Value, StructBody, StructType}
use Rattle.book.specs.Result.{Result, ok, err, bind as ◌>>=◌, ok_or}
use Rattle.layout.specs.Layout.{resolve, size_of, field_offset}

-- an integer's two's complement word, where the value is one
unfoldable pub const_int : Value → Option ℕ
const_int (Value.int v) = some v
const_int (Value.local x) = none
const_int (Value.global x) = none
const_int (Value.zero z) = none
const_int Value.other = none

-- `body.fields[i]`
unfoldable pub field_at : Tys → ℕ → Option Ty
field_at Tys.nil i = none
field_at (Tys.cons t ts) zero = some t
field_at (Tys.cons t ts) (suc i) = field_at ts i

-- `Step`: a constant offset modulo 2^64, or a stride for an index that varies; and the type stepped into
pub data Step : Type 0 where
  const : (off : ℕ) → (next : Ty) → Step
  var : (stride : ℕ) → (next : Ty) → Step

-- an index over elements of this size; the option is the index where it is constant
unfoldable pub stride : ℕ → Ty → Option ℕ → Step
stride size next (some c) = Step.const (c * size % 2 ^ 64) next
stride size next none = Step.var size next

module _ (structs : List StructType) where
  -- `struct_step`
  unfoldable pub struct_step : StructBody → Value → Result Step
  struct_step body idx = do
    field ← ok_or 14 (const_int idx)
    next ← ok_or 14 (field_at body.fields field)
    off ← field_offset structs body field
    ok (Step.const off next)

  -- `gep_step`
  unfoldable pub gep_step : Ty → Value → Result Step
  gep_step (Ty.struct p ts) idx = struct_step (record { packed = p; fields = ts }) idx
  gep_step (Ty.named_struct x) idx = do
    body ← resolve structs x
    struct_step body idx
  gep_step (Ty.array p n elem) idx = do
    size ← size_of structs elem
    ok (stride size elem (const_int idx))
  gep_step Ty.void idx = err 14
  gep_step Ty.ptr idx = err 14
  gep_step (Ty.int w) idx = err 14
  gep_step (Ty.sizeless s) idx = err 14

-- opens every definition of this file, for an example that computes
unfoldable pub open_step : Unit {0}
unfolding const_int field_at stride struct_step gep_step
open_step = tt
