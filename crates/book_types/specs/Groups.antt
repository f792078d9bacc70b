-- The group of a kind.
use Rattle.std.specs.Prelude.{ℕ, eqb, ltb, Option, Some, None}
use Rattle.std.specs.Bool.{then_some}
use Rattle.std.proofs.Math.Option as math
use Rattle.numbers.specs.Width.{width_ok}
use Rattle.book.specs.Kinds.{TyTag, ty_tag}
use Rattle.book_types.specs.declared.types.TypeHead.{TypeHead}
use Rattle.book_types.specs.declared.types.TypeHead.TheVariants as head
use Rattle.book_types.specs.declared.types.TypeGroup.{TypeGroup}
use Rattle.book_types.specs.declared.types.TypeGroup.TheVariants.{Void, Int, Ptr, Array, Named, Struct, Sizeless, Other}

abbrev pub type_group_of : math.Option TyTag → TypeGroup
type_group_of math.none = Other
type_group_of (math.some TyTag.void) = Void
type_group_of (math.some TyTag.int) = Int
type_group_of (math.some TyTag.ptr) = Ptr
type_group_of (math.some (TyTag.array p)) = Array p
type_group_of (math.some TyTag.named) = Named
type_group_of (math.some (TyTag.struct p)) = Struct p
type_group_of (math.some (TyTag.sizeless s)) = Sizeless

-- what a type's tag and word begin
abbrev pub group_head : ℕ → ℕ → TypeGroup → Option TypeHead
group_head m w Other = None
group_head m w Void = then_some (eqb w 0) head.Leaf
group_head m w Int = then_some (width_ok w) head.Leaf
group_head m w Ptr = then_some (eqb w 0) head.Leaf
group_head m w (Array p) = Some head.Array
group_head m w Named = then_some (ltb w m) head.Leaf
group_head m w (Struct p) = then_some (eqb w 0) head.Struct
group_head m w Sizeless = then_some (eqb w 0) head.Leaf

-- what the entry in front begins, which may be none
abbrev pub type_head_of : ℕ → Option (ℕ × ℕ) → Option TypeHead
type_head_of m None = None
type_head_of m (Some e) = group_head m e.1 (type_group_of (ty_tag e.0))
