-- "'getelementptr' Instruction": the offset that the indices add, modulo 2^64; sizes and offsets are layout.rs's.
use Rattle.std.specs.Prelude.{ℕ, ◌+◌, ◌*◌, ◌%◌, ◌^◌, List, [], ◌∷◌}
use Rattle.std.proofs.Math.Option.{Option, none, some}
use Rattle.book.specs.Ast.{Ty, Value, TypedVal, StructBody, StructType}
use Rattle.book.specs.Result.{Result, ok, bind as ◌>>=◌, ok_or}
use Rattle.layout.specs.Layout.{resolve, size_of, field_offset}
use Rattle.layout.specs.Step.{const_int, field_at}
use Rattle.machine.specs.State.{World}
use Rattle.machine.specs.Signed.{signed, unsigned}
use Rattle.manual.specs.Stop.{Stop, stops, stop_number, need}
use Rattle.manual.specs.Values.{in_signed_range}
use Rattle.manual.specs.State.{Env}
use Rattle.manual.specs.Operand.{width_of, value}

module _ (world : World) (structs : List StructType) (ρ : Env) where
  -- "the index .. is sign extended": an index of w bits as a number of 64
  unfoldable pub index_at : (w : ℕ) → Value → Option ℕ → Result ℕ
  index_at w v none = do
    x ← value world ρ w v
    ok (unsigned 64 (signed w x))
  index_at w v (some c) = do
    _ ← need (in_signed_range w c) Stop.index_range
    ok c

  unfoldable pub index : TypedVal → Result ℕ
  index i = do
    w ← width_of i.ty
    index_at w i.val (const_int i.val)

  -- a step over elements of this type
  unfoldable pub over_elements : Ty → TypedVal → Result ℕ
  over_elements ty i = do
    size ← size_of structs ty
    n ← index i
    ok (n * size % 2 ^ 64)

  -- "When indexing into a (optionally packed) structure, only i32 integer constants are allowed": here those of any width, and within the fields
  unfoldable pub over_fields : StructBody → TypedVal → Result (ℕ × Ty)
  over_fields body i = do
    n ← index i
    k ← ok_or (stop_number Stop.ill_formed) (const_int i.val)
    next ← ok_or (stop_number Stop.ill_formed) (field_at body.fields k)
    off ← field_offset structs body k
    ok (off, next)

  -- one index into a type: the offset, and the type it leads to
  unfoldable pub into : Ty → TypedVal → Result (ℕ × Ty)
  into (Ty.struct p ts) i = over_fields (record { packed = p; fields = ts }) i
  into (Ty.named_struct x) i = do
    body ← resolve structs x
    over_fields body i
  into (Ty.array p n elem) i = do
    off ← over_elements elem i
    ok (off, elem)
  into Ty.void i = stops Stop.ill_formed
  into Ty.ptr i = stops Stop.ill_formed
  into (Ty.int w) i = stops Stop.ill_formed
  into (Ty.sizeless s) i = stops Stop.ill_formed

  unfoldable pub offset_in : Ty → List TypedVal → Result ℕ
  offset_in ty [] = ok 0
  offset_in ty (i ∷ is) = do
    step ← into ty i
    rest ← offset_in step.1 is
    ok ((step.0 + rest) % 2 ^ 64)

  -- "The first index always indexes the pointer value given as the second argument"
  unfoldable pub offset : Ty → List TypedVal → Result ℕ
  offset ty [] = ok 0
  offset ty (i ∷ is) = do
    off ← over_elements ty i
    rest ← offset_in ty is
    ok ((off + rest) % 2 ^ 64)

-- opens every definition of this file, for an example that computes
unfoldable pub open_gep : Unit {0}
unfolding index_at index over_elements over_fields into offset_in offset
open_gep = tt
