-- "Sheets to check": {i8, i32, i8} and its packed form, and the limits of 2^24 bytes and 64 levels.
use Rattle.std.specs.Prelude.{ℕ, zero, suc, ◌≡◌, refl, Bool, true, false, List, [], ◌∷◌, map}
use Rattle.std.proofs.Math.Option.{none, some}
use Rattle.numbers.specs.Open.{open_numbers}
use Rattle.book.specs.Ast.{Ty, Tys, Sizeless, StructBody, StructType}
use Rattle.book.specs.Rule.{find}
use Rattle.book.specs.Result.{Result, ok, open_result}
use Rattle.layout.specs.Layout.{size_of, field_offset, open_layout}

unfoldable pub open_cases : Unit {0}
unfolding open_result open_layout find open_numbers
open_cases = tt

-- {i8, i32, i8}
unfoldable pub three : Bool → StructBody
three p = record { packed = p; fields = Tys.cons (Ty.int 8) (Tys.cons (Ty.int 32) (Tys.cons (Ty.int 8) Tys.nil)) }

unfoldable pub measured : Bool → List (Result ℕ)
measured p = size_of [] (Ty.struct p (three p).fields) ∷ map (field_offset [] (three p)) (0 ∷ 1 ∷ 2 ∷ [])

pub three_holds : map measured (false ∷ true ∷ []) ≡ (ok 12 ∷ ok 0 ∷ ok 4 ∷ ok 8 ∷ []) ∷ (ok 6 ∷ ok 0 ∷ ok 1 ∷ ok 5 ∷ []) ∷ []
unfolding open_cases three measured
three_holds = refl

-- n arrays of one around a type
unfoldable pub deep : ℕ → Ty → Ty
deep zero t = t
deep (suc n) t = Ty.array false 1 (deep n t)

-- %1 is {i8}, %2 is opaque, %3 is not defined
unfoldable pub some_structs : List StructType
some_structs =
    record { name = 1; body = some (record { packed = false; fields = Tys.cons (Ty.int 8) Tys.nil }) }
    ∷ record { name = 2; body = none } ∷ []

-- 2^24 bytes, one more, 64 levels, one more; a named struct's field stands two below it; opaque, undefined, none of a size
unfoldable pub limits : List Ty
limits =
    Ty.array false 16777216 (Ty.int 8) ∷ Ty.array false 16777217 (Ty.int 8)
    ∷ deep 63 (Ty.int 8) ∷ deep 64 (Ty.int 8)
    ∷ deep 61 (Ty.named_struct 1) ∷ deep 62 (Ty.named_struct 1) ∷ deep 63 (Ty.named_struct 1)
    ∷ deep 63 (Ty.named_struct 2) ∷ deep 64 (Ty.named_struct 2) ∷ Ty.named_struct 3 ∷ Ty.sizeless Sizeless.label ∷ []
