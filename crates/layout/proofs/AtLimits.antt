-- Limits of a measurement at their value and one beyond, and what is asked for first: "A 7 comes at the measurement that exceeds, a struct's after its last field".
use Rattle.std.specs.Prelude.{ℕ, ◌+◌, ◌^◌, ◌≡◌, refl, Bool, true, false, List, [], ◌∷◌, map}
use Rattle.std.proofs.Math.Option.{Option, none, some}
use Rattle.book.specs.Ast.{Ty, Tys, Value, Zero, Sizeless, TypedVal, StructBody}
use Rattle.book.specs.Shape.{Shape}
use Rattle.book.specs.Result.{Result, ok, err, bind}
use Rattle.layout.specs.Layout.{limit, frame_limit, align_of, size_of, field_offset}
use Rattle.layout.specs.Step.{Step, gep_step, open_step}
use Rattle.layout.specs.Frame.{Places, no_frame, place, frame_step, framed, open_frame}
use Rattle.layout.specs.Cases.{deep, some_structs, open_cases}

-- ---- the tests themselves
pub byte_limits : map limit (0 ∷ (2 ^ 24) ∷ (2 ^ 24 + 1) ∷ []) ≡ ok 0 ∷ ok (2 ^ 24) ∷ err 7 ∷ []
unfolding open_cases
byte_limits = refl

pub frame_limits : map frame_limit (0 ∷ (2 ^ 31) ∷ (2 ^ 31 + 1) ∷ []) ≡ ok 0 ∷ ok (2 ^ 31) ∷ err 7 ∷ []
unfolding open_cases
frame_limits = refl

-- ---- types
abbrev bytes : ℕ → Ty
bytes n = Ty.array false n (Ty.int 8)

abbrev label : Ty
label = Ty.sizeless Sizeless.label

unfoldable pub fields_of : List Ty → Tys
fields_of [] = Tys.nil
fields_of (t ∷ ts) = Tys.cons t (fields_of ts)

abbrev plain : List Ty → Ty
plain ts = Ty.struct false (fields_of ts)

abbrev packed : List Ty → Ty
packed ts = Ty.struct true (fields_of ts)

-- size and alignment of a type
unfoldable pub sized : Ty → Result ℕ × Result ℕ
sized t = (size_of some_structs t, align_of some_structs t)

-- every width of a book, and some that no book has
pub widths_hold :
    map sized (map Ty.int (1 ∷ 8 ∷ 16 ∷ 32 ∷ 64 ∷ 0 ∷ 7 ∷ 128 ∷ []))
    ≡ (ok 1, ok 1) ∷ (ok 1, ok 1) ∷ (ok 2, ok 2) ∷ (ok 4, ok 4) ∷ (ok 8, ok 8) ∷ (err 6, err 6) ∷ (err 6, err 6) ∷ (err 6, err 6) ∷ []
unfolding open_cases some_structs sized
widths_hold = refl

-- an array's 7 at the product, behind its element
pub bytes_hold :
    map sized
    (bytes 16777216 ∷ bytes 16777217 ∷ Ty.array true 16777217 (Ty.int 1)
    ∷ Ty.array false 2097152 (Ty.int 64) ∷ Ty.array false 2097153 (Ty.int 64)
    ∷ Ty.array false 0 (bytes 16777217) ∷ Ty.array false 2 (bytes 16777216) ∷ Ty.array false 18446744073709551615 Ty.void
    ∷ Ty.array false 16777217 label
    ∷ [])
    ≡ (ok 16777216, ok 1) ∷ (err 7, ok 1) ∷ (err 7, ok 1)
    ∷ (ok 16777216, ok 8) ∷ (err 7, ok 8)
    ∷ (err 7, ok 1) ∷ (err 7, ok 1) ∷ (ok 0, ok 1)
    ∷ (err 6, err 6) ∷ []
unfolding open_cases some_structs sized
bytes_hold = refl

-- a struct's 7 behind its last field, padding counted; each field's alignment before its size, also where it is packed
pub structs_hold :
    map sized
    (plain (bytes 16777215 ∷ Ty.int 8 ∷ []) ∷ plain (bytes 16777216 ∷ Ty.int 8 ∷ [])
    ∷ plain (Ty.int 16 ∷ bytes 16777213 ∷ []) ∷ plain (Ty.int 16 ∷ bytes 16777214 ∷ []) ∷ plain (Ty.int 16 ∷ bytes 16777215 ∷ [])
    ∷ packed (Ty.int 16 ∷ bytes 16777214 ∷ []) ∷ packed (Ty.int 16 ∷ bytes 16777215 ∷ [])
    ∷ plain (bytes 16777216 ∷ bytes 16777216 ∷ label ∷ []) ∷ plain (bytes 16777217 ∷ label ∷ []) ∷ plain (label ∷ bytes 16777217 ∷ [])
    ∷ packed (bytes 16777217 ∷ label ∷ []) ∷ packed (label ∷ []) ∷ plain [] ∷ packed []
    ∷ plain (plain (bytes 16777217 ∷ label ∷ []) ∷ []) ∷ packed (plain (bytes 16777217 ∷ label ∷ []) ∷ []) ∷ plain (packed (bytes 16777217 ∷ label ∷ []) ∷ [])
    ∷ plain (Ty.void ∷ Ty.ptr ∷ Ty.int 1 ∷ []) ∷ packed (Ty.void ∷ Ty.ptr ∷ Ty.int 1 ∷ []) ∷ plain (packed (Ty.int 64 ∷ []) ∷ Ty.int 16 ∷ [])
    ∷ [])
    ≡ (ok 16777216, ok 1) ∷ (err 7, ok 1)
    ∷ (ok 16777216, ok 2) ∷ (ok 16777216, ok 2) ∷ (err 7, ok 2)
    ∷ (ok 16777216, ok 1) ∷ (err 7, ok 1)
    ∷ (err 6, err 6) ∷ (err 7, err 6) ∷ (err 6, err 6)
    ∷ (err 7, ok 1) ∷ (err 6, ok 1) ∷ (ok 0, ok 1) ∷ (ok 0, ok 1)
    ∷ (err 6, err 6) ∷ (err 6, ok 1) ∷ (err 7, ok 1)
    ∷ (ok 16, ok 8) ∷ (ok 9, ok 1) ∷ (ok 10, ok 2) ∷ []
unfolding open_cases some_structs sized fields_of
structs_hold = refl

-- 64 levels: of arrays, of structs, of a named struct, whose field stands two below it; what is resolved (6) comes before the level of what was resolved
pub levels_hold :
    map sized
    (deep 63 Ty.void ∷ deep 64 Ty.void ∷ deep 62 (plain (Ty.int 8 ∷ [])) ∷ deep 63 (plain (Ty.int 8 ∷ [])) ∷ deep 63 (plain [])
    ∷ deep 62 (packed (Ty.int 8 ∷ [])) ∷ deep 63 (packed (Ty.int 8 ∷ [])) ∷ deep 63 (packed [])
    ∷ deep 61 (Ty.named_struct 1) ∷ deep 62 (Ty.named_struct 1) ∷ deep 63 (Ty.named_struct 1)
    ∷ deep 63 (Ty.named_struct 2) ∷ deep 64 (Ty.named_struct 2) ∷ deep 63 (Ty.named_struct 3) ∷ deep 63 label ∷ deep 64 label
    ∷ plain (deep 62 (Ty.int 8) ∷ label ∷ []) ∷ plain (deep 63 (Ty.int 8) ∷ label ∷ [])
    ∷ [])
    ≡ (ok 0, ok 1) ∷ (err 7, err 7) ∷ (ok 1, ok 1) ∷ (err 7, err 7) ∷ (ok 0, ok 1)
    ∷ (ok 1, ok 1) ∷ (err 7, ok 1) ∷ (ok 0, ok 1)
    ∷ (ok 1, ok 1) ∷ (err 7, err 7) ∷ (err 7, err 7)
    ∷ (err 6, err 6) ∷ (err 7, err 7) ∷ (err 6, err 6) ∷ (err 6, err 6) ∷ (err 7, err 7)
    ∷ (err 6, err 6) ∷ (err 7, err 7) ∷ []
unfolding open_cases deep some_structs sized fields_of
levels_hold = refl

-- ---- offsets: nothing behind the field is measured, and a packed struct's fields are asked for no alignment
abbrev body : Bool → List Ty → StructBody
body p ts = record { packed = p; fields = fields_of ts }

pub offsets_hold :
    map (field_offset some_structs (body false (Ty.int 8 ∷ label ∷ Ty.int 8 ∷ []))) (0 ∷ 1 ∷ 2 ∷ 3 ∷ [])
    ≡ ok 0 ∷ err 6 ∷ err 6 ∷ err 6 ∷ []
unfolding open_cases some_structs fields_of
offsets_hold = refl

pub packed_offsets_hold :
    map (field_offset some_structs (body true (Ty.int 8 ∷ Ty.ptr ∷ label ∷ Ty.int 8 ∷ []))) (0 ∷ 1 ∷ 2 ∷ 3 ∷ [])
    ≡ ok 0 ∷ ok 1 ∷ ok 9 ∷ err 6 ∷ []
unfolding open_cases some_structs fields_of
packed_offsets_hold = refl

-- beyond the last field; no book steps there
pub no_field_holds : map (field_offset [] (body false (Ty.int 8 ∷ []))) (0 ∷ 1 ∷ []) ≡ ok 0 ∷ err 14 ∷ []
unfolding open_cases fields_of
no_field_holds = refl

-- offsets are no measured sizes: they may pass 2^24
pub far_offset_holds : map (field_offset [] (body false (bytes 16777216 ∷ bytes 16777216 ∷ Ty.ptr ∷ []))) (1 ∷ 2 ∷ []) ≡ ok 16777216 ∷ ok 33554432 ∷ []
unfolding open_cases fields_of
far_offset_holds = refl

-- ---- steps: which fault of an index comes first
pub steps_hold :
    map (λ (x : Ty × Value). gep_step some_structs x.0 x.1)
    ((plain (Ty.int 8 ∷ label ∷ []), Value.local 0) ∷ (plain (Ty.int 8 ∷ label ∷ []), Value.int 2) ∷ (plain (Ty.int 8 ∷ label ∷ []), Value.int 1)
    ∷ (plain (Ty.int 8 ∷ label ∷ []), Value.int 0) ∷ (plain (Ty.int 8 ∷ []), Value.zero Zero.null) ∷ (plain (Ty.int 8 ∷ []), Value.int 18446744073709551615)
    ∷ (Ty.named_struct 3, Value.local 0) ∷ (Ty.named_struct 2, Value.int 5) ∷ (Ty.named_struct 1, Value.local 0) ∷ (Ty.named_struct 1, Value.int 1)
    ∷ (Ty.named_struct 1, Value.int 0)
    ∷ (Ty.array false 0 label, Value.int 0) ∷ (Ty.array true 2 (Ty.int 16), Value.int 18446744073709551615) ∷ (Ty.array false 2 (Ty.int 16), Value.zero Zero.null)
    ∷ (Ty.array false 2 Ty.void, Value.local 7)
    ∷ (Ty.void, Value.int 0) ∷ (Ty.ptr, Value.int 0) ∷ (Ty.int 8, Value.int 0) ∷ (label, Value.int 0)
    ∷ [])
    ≡ err 14 ∷ err 14 ∷ err 6
    ∷ ok (Step.const 0 (Ty.int 8)) ∷ err 14 ∷ err 14
    ∷ err 6 ∷ err 6 ∷ err 14 ∷ err 14
    ∷ ok (Step.const 0 (Ty.int 8))
    ∷ err 6 ∷ ok (Step.const 18446744073709551614 (Ty.int 16)) ∷ ok (Step.var 2 (Ty.int 16))
    ∷ ok (Step.var 0 Ty.void)
    ∷ err 14 ∷ err 14 ∷ err 14 ∷ err 14 ∷ []
unfolding open_cases open_step some_structs fields_of
steps_hold = refl

-- ---- where the fixed places end, and whether there is a frame
unfoldable pub ends : Result Places → Result (ℕ × Bool)
ends (ok f) = ok (f.off, framed f)
ends (err e) = err e

-- ---- an alloca of the frame pass: its name, then, where its count is fixed, alignment and size
unfoldable pub entered : Option ℕ × (Ty × Option TypedVal) → Result (ℕ × Bool)
entered x = ends (frame_step some_structs x.0 (Shape.alloca x.1.0 x.1.1) no_frame)

abbrev counting : Value → Option TypedVal
counting v = some (record { ty = label; val = v })

pub entered_hold :
    map entered
    ((none, (label, none)) ∷ (none, (label, counting (Value.local 0))) ∷ (some 0, (label, none)) ∷ (some 0, (label, counting (Value.local 0)))
    ∷ (some 0, (Ty.int 32, none)) ∷ (some 0, (Ty.int 32, counting (Value.int 3))) ∷ (some 0, (Ty.int 32, counting (Value.int 0)))
    ∷ (some 0, (Ty.int 32, counting (Value.zero Zero.null))) ∷ (some 0, (Ty.int 32, counting (Value.global 0))) ∷ (some 0, (Ty.void, counting (Value.int 5))) ∷ [])
    ≡ err 5 ∷ err 5 ∷ err 6 ∷ ok (0, true)
    ∷ ok (4, true) ∷ ok (12, true) ∷ ok (0, false)
    ∷ ok (0, true) ∷ ok (0, true) ∷ ok (0, false) ∷ []
unfolding open_cases open_frame open_step some_structs entered ends
entered_hold = refl

-- ---- fixed places, one behind the other
unfoldable pub placed_all : List (Ty × Option ℕ) → Places → Result Places
placed_all [] f = ok f
placed_all (t ∷ ts) f = bind (place some_structs 0 t.0 t.1 f) (placed_all ts)

pub places_hold :
    map (λ (ts : List (Ty × Option ℕ)). ends (placed_all ts no_frame))
    (((Ty.int 8, some 1) ∷ (Ty.int 32, some 1) ∷ []) ∷ ((Ty.int 8, some 3) ∷ (Ty.int 16, some 0) ∷ [])
    ∷ ((Ty.void, some 18446744073709551615) ∷ []) ∷ ((label, none) ∷ []) ∷ ((Ty.int 8, some 0) ∷ [])
    ∷ ((Ty.int 8, some 2147483648) ∷ []) ∷ ((Ty.int 8, some 2147483649) ∷ [])
    ∷ ((Ty.int 8, some 2147483647) ∷ (Ty.int 8, some 1) ∷ []) ∷ ((Ty.int 8, some 2147483647) ∷ (Ty.int 16, some 1) ∷ [])
    ∷ ((Ty.int 8, some 2147483647) ∷ (Ty.int 64, some 0) ∷ []) ∷ ((Ty.int 8, some 2147483648) ∷ (label, some 1) ∷ [])
    ∷ ((plain (bytes 16777217 ∷ label ∷ []), some 1) ∷ []) ∷ ((plain (bytes 16777217 ∷ label ∷ []), none) ∷ []) ∷ ((bytes 16777217, some 0) ∷ [])
    ∷ [])
    ≡ ok (8, true) ∷ ok (4, true)
    ∷ ok (0, false) ∷ ok (0, true) ∷ ok (0, false)
    ∷ ok (2147483648, true) ∷ err 7
    ∷ ok (2147483648, true) ∷ err 7
    ∷ ok (2147483648, true) ∷ err 6
    ∷ err 6 ∷ ok (0, true) ∷ err 7 ∷ []
unfolding open_cases open_frame open_step some_structs fields_of placed_all ends
places_hold = refl
