-- layout.rs, with a falling allowance of levels. Refusals: 6 a type without size, 7 above 2^24 bytes or more levels than the allowance.
use Rattle.std.specs.Prelude.{ℕ, zero, suc, ◌+◌, ◌*◌, ◌^◌, max, Bool, cond, List, leb}
use Rattle.std.proofs.Math.Option.{Option, none, some}
use Rattle.numbers.specs.Align.{align_up}
use Rattle.numbers.specs.Width.{int_bytes, width_ok}
use Rattle.book.specs.Ast.{Ty, Tys, StructBody, StructType}
use Rattle.book.specs.Rule.{find}
use Rattle.book.specs.Result.{Result, ok, err, bind as ◌>>=◌, ok_or, given}

-- a measured size: at most 2^24 bytes
unfoldable pub limit : ℕ → Result ℕ
limit n = given (leb n (2 ^ 24)) 7 n

-- where the fixed places of a frame end: at most 2^31
unfoldable pub frame_limit : ℕ → Result ℕ
frame_limit n = given (leb n (2 ^ 31)) 7 n

-- `int_bytes`: size and alignment of an integer; only the widths of "The book" are measured
unfoldable pub int_size : ℕ → Result ℕ
int_size w = given (width_ok w) 6 (int_bytes w)

-- where a field of alignment a starts behind `off` bytes; and a struct of that alignment ends
unfoldable pub placed : (packed : Bool) → (off a : ℕ) → ℕ
placed packed off a = cond packed off (align_up off a)

-- `al`: align_of a part
module _ (al : Ty → Result ℕ) where
  -- the largest alignment of the fields and a
  unfoldable pub max_align : Tys → ℕ → Result ℕ
  max_align Tys.nil a = ok a
  max_align (Tys.cons t ts) a = do
    b ← al t
    max_align ts (max a b)

  -- `struct_align`
  unfoldable pub struct_align : StructBody → Result ℕ
  struct_align body = cond body.packed (ok 1) (max_align body.fields 1)

-- `al` and `sz`: align_of and size_of a part
module _ (al sz : Ty → Result ℕ) where
  -- the loop of `struct_size`: the fields left, the offset and the largest alignment so far
  unfoldable pub size_from : (packed : Bool) → Tys → (offset max_align : ℕ) → Result ℕ
  size_from packed Tys.nil offset m = limit (placed packed offset m)
  size_from packed (Tys.cons t ts) offset m = do
    a ← al t
    s ← sz t
    size_from packed ts (placed packed offset a + s) (max m a)

  -- `struct_size`
  unfoldable pub struct_size : StructBody → Result ℕ
  struct_size body = size_from body.packed body.fields 0 1

  -- `field_offset` asks a packed struct's fields for no alignment
  unfoldable pub align_in : (packed : Bool) → Ty → Result ℕ
  align_in packed t = cond packed (ok 1) (al t)

  -- the loop of `field_offset`: the fields left, the index among them and the offset so far; the index is in range
  unfoldable pub offset_from : (packed : Bool) → Tys → (idx offset : ℕ) → Result ℕ
  offset_from packed Tys.nil idx offset = err 14
  offset_from packed (Tys.cons t ts) zero offset = do
    a ← align_in packed t
    ok (placed packed offset a)
  offset_from packed (Tys.cons t ts) (suc idx) offset = do
    a ← align_in packed t
    s ← sz t
    offset_from packed ts idx (placed packed offset a + s)

-- the body of a named struct: undefined and opaque ones have none
unfoldable pub body_of : Option StructType → Result StructBody
body_of none = err 6
body_of (some s) = ok_or 6 s.body

-- a struct's body as a type
abbrev pub as_type : StructBody → Ty
as_type b = Ty.struct b.packed b.fields

module _ (structs : List StructType) where
  -- `resolve`
  unfoldable pub resolve : ℕ → Result StructBody
  resolve name = body_of (find (λ (s : StructType). s.name) name structs)

  -- `align_of`, with an allowance
  unfoldable pub align_at : ℕ → Ty → Result ℕ
  align_at zero t = err 7
  align_at (suc k) Ty.void = ok 1
  align_at (suc k) (Ty.int w) = int_size w
  align_at (suc k) Ty.ptr = ok 8
  align_at (suc k) (Ty.array p n t) = align_at k t
  align_at (suc k) (Ty.struct p ts) = struct_align (align_at k) (record { packed = p; fields = ts })
  align_at (suc k) (Ty.named_struct x) = do
    body ← resolve x
    align_at k (as_type body)
  align_at (suc k) (Ty.sizeless s) = err 6

  -- `size_of`, with an allowance
  unfoldable pub size_at : ℕ → Ty → Result ℕ
  size_at zero t = err 7
  size_at (suc k) Ty.void = ok 0
  size_at (suc k) (Ty.int w) = int_size w
  size_at (suc k) Ty.ptr = ok 8
  size_at (suc k) (Ty.array p n t) = do
    s ← size_at k t
    limit (n * s)
  size_at (suc k) (Ty.struct p ts) = struct_size (align_at k) (size_at k) (record { packed = p; fields = ts })
  size_at (suc k) (Ty.named_struct x) = do
    body ← resolve x
    size_at k (as_type body)
  size_at (suc k) (Ty.sizeless s) = err 6

  -- each measurement begins with 64 levels
  unfoldable pub align_of : Ty → Result ℕ
  align_of t = align_at 64 t

  unfoldable pub size_of : Ty → Result ℕ
  size_of t = size_at 64 t

  -- `field_offset`
  unfoldable pub field_offset : StructBody → ℕ → Result ℕ
  field_offset body idx = offset_from align_of size_of body.packed body.fields idx 0

-- opens every definition of this file, for an example that computes
unfoldable pub open_layout : Unit {0}
unfolding limit frame_limit int_size placed max_align struct_align size_from struct_size align_in offset_from body_of resolve align_at size_at align_of size_of field_offset
open_layout = tt
