-- What an entry says: a value, or the width of the type that it begins.
use Rattle.std.specs.Prelude.{ℕ, ◌+◌, ◌-◌, ◌<◌, ◌≡◌, refl, List, cond, length, eqb, leb}
use Rattle.std.proofs.Common.{ap, sym, subst, arith, ne_eqb}
use Rattle.std.proofs.Math.Option.{Option, none, some}
use Rattle.book.specs.Ast.{Value, Zero}
use Rattle.book.specs.Work.{slot_at}
use Rattle.book.specs.Kinds.{ValTag, val_tag}
use Rattle.book.specs.Encode.{value_entry, dest_word}
use Rattle.book.specs.AgreeTy.{val_found}
use Rattle.book_values.specs.Items.{value_group_of}
use Rattle.book_values.specs.declared.ValueGroup.{ValueGroup}
use Rattle.book_values.specs.declared.ValueGroup.TheVariants as group

-- the value of an entry of a value's kind
abbrev pub value_by : ℕ → Option ValTag → Value
value_by w none = Value.other
value_by w (some ValTag.local) = Value.local w
value_by w (some ValTag.global) = Value.global w
value_by w (some ValTag.int) = Value.int w
value_by w (some (ValTag.zero z)) = Value.zero z
value_by w (some ValTag.other) = Value.other

unfoldable pub value_of : (kind word : ℕ) → Value
value_of k w = value_by w (val_tag k)

-- `int_width` by the entry that begins a type, 0 where it has none
unfoldable pub width_by : (kind word : ℕ) → ℕ
width_by k w = cond (eqb k 12) 64 (cond (eqb k 11) (cond (leb w 64) w 0) 0)

-- the words of a local are there
pub record Reaches (kind word : ℕ) (work : List ℕ) : Type 0 where
  pub there : value_of kind word ≡ Value.local word → slot_at word < length work

-- the result's name of a result word
unfoldable pub dest_of : ℕ → Option ℕ
dest_of d = cond (eqb d 0) none (some (d - 1))

-- the words of a result are there
pub record DestReaches (dest : ℕ) (work : List ℕ) : Type 0 where
  pub there : (dest ≡ 0 → ⊥) → slot_at (dest - 1) < length work

pub dest_is : (d : Option ℕ) → dest_of (dest_word d) ≡ d
unfolding dest_of
dest_is none = refl
dest_is (some x) = let e : x + 1 - 1 ≡ x = omega arith in rw (ne_eqb (x + 1) 0 (λ z. omega arith)) (ap some e)

-- an entry of a value is that value
pub value_is : (v : Value) → value_of (value_entry v).kind (value_entry v).word ≡ v
unfolding value_of value_entry
value_is (Value.local x) = ap (value_by x) (val_found ValTag.local)
value_is (Value.global x) = ap (value_by x) (val_found ValTag.global)
value_is (Value.int c) = ap (value_by c) (val_found ValTag.int)
value_is (Value.zero z) = ap (value_by 0) (val_found (ValTag.zero z))
value_is Value.other = ap (value_by 0) (val_found ValTag.other)

-- what the group of its kind says of a value
abbrev pub ValueIs : ValueGroup → ℕ → Value → Type 0
ValueIs group.Local w v = v ≡ Value.local w
ValueIs group.Global w v = v ≡ Value.global w
ValueIs group.Int w v = v ≡ Value.int w
ValueIs group.Zero w v = (z : Zero) × (v ≡ Value.zero z)
ValueIs group.Other w v = v ≡ Value.other
ValueIs group.Bad w v = v ≡ Value.other

pub value_shape : (k w : ℕ) {g : ValueGroup} → g ≡ value_group_of (val_tag k) → ValueIs g w (value_of k w)
unfolding value_of
value_shape k w {g} e = subst (λ (h : ValueGroup). ValueIs h w (value_by w (val_tag k))) (sym e) (at (val_tag k))
  where
    at : (t : Option ValTag) → ValueIs (value_group_of t) w (value_by w t)
    at none = refl
    at (some ValTag.local) = refl
    at (some ValTag.global) = refl
    at (some ValTag.int) = refl
    at (some (ValTag.zero z)) = (z, refl)
    at (some ValTag.other) = refl
