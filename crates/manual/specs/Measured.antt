-- What the source run measures: "sizes and offsets are layout.rs's; alloca addresses .. by the Rust's formula". That these can be measured is no matter of a state, and
-- in a book that the translator accepts it is so (`agreement`, `goes_on`).
use Rattle.std.specs.Prelude.{ℕ, ◌≡◌, List, [], ◌∷◌}
use Rattle.std.proofs.Math.Option.{Option, none, some}
use Rattle.book.specs.Ast.{Ty, Value, TypedVal, InstKind, StructBody, StructType}
use Rattle.book.specs.Map.{lookup}
use Rattle.book.specs.Result.{ok}
use Rattle.layout.specs.Layout.{resolve, align_of, size_of, field_offset}
use Rattle.layout.specs.Frame.{count_of}
use Rattle.manual.specs.State.{Given}
use Rattle.manual.specs.Goes.{Leads}

abbrev pub Sized : List StructType → Ty → Type 0
Sized structs ty = (n : ℕ) × (size_of structs ty ≡ ok n)

-- a stated align needs no measurement
abbrev pub Aligned : List StructType → Option ℕ → Ty → Type 0
Aligned structs (some a) ty = Unit {0}
Aligned structs none ty = (a : ℕ) × (align_of structs ty ≡ ok a)

-- the field that a constant names
abbrev pub Offset : List StructType → StructBody → Value → Type 0
Offset structs body v = (k : ℕ) → v ≡ Value.int k → (off : ℕ) × (field_offset structs body k ≡ ok off)

abbrev pub MeasuredStep : List StructType → Ty → Value → Type 0
MeasuredStep structs (Ty.struct p ts) v = Offset structs (record { packed = p; fields = ts }) v
MeasuredStep structs (Ty.named_struct x) v = (body : StructBody) × (resolve structs x ≡ ok body) × Offset structs body v
MeasuredStep structs (Ty.array p n elem) v = Sized structs elem
MeasuredStep structs Ty.void v = Unit {0}
MeasuredStep structs Ty.ptr v = Unit {0}
MeasuredStep structs (Ty.int w) v = Unit {0}
MeasuredStep structs (Ty.sizeless s) v = Unit {0}

abbrev pub MeasuredWay : List StructType → Ty → List TypedVal → Type 0
MeasuredWay structs ty [] = Unit {0}
MeasuredWay structs ty (i ∷ is) = MeasuredStep structs ty i.val × ((next : Ty) → Leads structs ty i.val next → MeasuredWay structs next is)

abbrev pub MeasuredIndices : List StructType → Ty → List TypedVal → Type 0
MeasuredIndices structs ty [] = Unit {0}
MeasuredIndices structs ty (i ∷ is) = Sized structs ty × MeasuredWay structs ty is

-- a place has a name (refusal 5); a fixed one has its offset in the frame, a varying one is measured
abbrev pub MeasuredPlace : Given → (name : ℕ) → Ty → (fixed : Option ℕ) → (align : Option ℕ) → Type 0
MeasuredPlace g x ty (some n) align = (off : ℕ) × (lookup x g.frame.offsets ≡ some off)
MeasuredPlace g x ty none align = Sized g.structs ty × Aligned g.structs align ty

abbrev pub Measured : Given → (dest : Option ℕ) → InstKind → Type 0
Measured g dest (InstKind.load ty p align) = Sized g.structs ty
Measured g dest (InstKind.store ty v p align) = Sized g.structs ty
Measured g dest (InstKind.atomic_load ty p) = Sized g.structs ty
Measured g dest (InstKind.atomic_store ty v p) = Sized g.structs ty
Measured g dest (InstKind.cmpxchg ty p c n) = Sized g.structs ty
Measured g dest (InstKind.alloca ty count align) = (x : ℕ) × (dest ≡ some x) × MeasuredPlace g x ty (count_of count) align
Measured g dest (InstKind.get_element_ptr ty p is) = MeasuredIndices g.structs ty is
Measured g dest (InstKind.bin op ty a b) = Unit {0}
Measured g dest (InstKind.conv op from v to) = Unit {0}
Measured g dest (InstKind.icmp p ty a b) = Unit {0}
Measured g dest (InstKind.select c ty a b) = Unit {0}
Measured g dest (InstKind.phi ty incoming) = Unit {0}
Measured g dest (InstKind.call ty callee args) = Unit {0}
Measured g dest (InstKind.freeze ty v) = Unit {0}
Measured g dest (InstKind.extract_value a k) = Unit {0}
Measured g dest InstKind.fence = Unit {0}
