-- `book_types::types::type_group` meets its contract: each kind is looked up, and what is below or above the table is not in it.
use Prim.Native.Nat.{ℕ, suc-le-suc}
use mathlib.Core.Path.{◌≡◌, refl, sym, ap}
use native.Mathlib.Omega.{arith}
use Rattle.book.specs.Kinds.{ty_tag, ty_tags, ty_kind}
use Rattle.book.specs.Rule.{find}
use Rattle.book_types.specs.Groups.{type_group_of}
use Rattle.book_types.specs.Tables.{find_below, find_above, in_range_lem}
use Rattle.book_types.specs.declared.types.TypeGroup.TheVariants.{Sizeless}
use Rattle.book_types.proofs.types.type_group.Goals as goal

-- the kinds that are none of those before
abbrev Rest : ℕ → Type 0
Rest k = ((((((((Unit {0} × (k ≡ 10 → ⊥)) × (k ≡ 11 → ⊥)) × (k ≡ 12 → ⊥)) × (k ≡ 13 → ⊥)) × (k ≡ 14 → ⊥)) × (k ≡ 15 → ⊥)) × (k ≡ 16 → ⊥)) × (k ≡ 17 → ⊥))

pub returns-then-kind-lt-VOID : goal.returns-then-kind-lt-VOID
unfolding ty_tag ty_tags
returns-then-kind-lt-VOID c = ap type_group_of (sym (find_above ty_kind _ 9 ty_tags refl (omega arith)))

pub returns-then-kind-gt-METADATA : goal.returns-then-kind-gt-METADATA
unfolding ty_tag ty_tags
returns-then-kind-gt-METADATA c = ap type_group_of (sym (find_below ty_kind _ 21 ty_tags refl (omega arith)))

pub returns-in-10 : goal.returns-in-10
unfolding ty_tag find ty_tags
returns-in-10 c = ap (λ k. type_group_of (ty_tag k)) (sym c.in-10.is)

pub returns-in-11 : goal.returns-in-11
unfolding ty_tag find ty_tags
returns-in-11 c = ap (λ k. type_group_of (ty_tag k)) (sym c.in-11.is)

pub returns-in-12 : goal.returns-in-12
unfolding ty_tag find ty_tags
returns-in-12 c = ap (λ k. type_group_of (ty_tag k)) (sym c.in-12.is)

pub returns-in-13 : goal.returns-in-13
unfolding ty_tag find ty_tags
returns-in-13 c = ap (λ k. type_group_of (ty_tag k)) (sym c.in-13.is)

pub returns-in-14 : goal.returns-in-14
unfolding ty_tag find ty_tags
returns-in-14 c = ap (λ k. type_group_of (ty_tag k)) (sym c.in-14.is)

pub returns-in-15 : goal.returns-in-15
unfolding ty_tag find ty_tags
returns-in-15 c = ap (λ k. type_group_of (ty_tag k)) (sym c.in-15.is)

pub returns-in-16 : goal.returns-in-16
unfolding ty_tag find ty_tags
returns-in-16 c = ap (λ k. type_group_of (ty_tag k)) (sym c.in-16.is)

pub returns-in-17 : goal.returns-in-17
unfolding ty_tag find ty_tags
returns-in-17 c = ap (λ k. type_group_of (ty_tag k)) (sym c.in-17.is)

pub returns-in_default : goal.returns-in_default
unfolding ty_tag find ty_tags
returns-in_default c =
    in_range_lem (λ k. Rest k → Sizeless ≡ type_group_of (ty_tag k)) 10 11 (
      λ r. absurd (r.0.0.0.0.0.0.0.1 refl),
      (
        λ r. absurd (r.0.0.0.0.0.0.1 refl),
        (
          λ r. absurd (r.0.0.0.0.0.1 refl),
          (
            λ r. absurd (r.0.0.0.0.1 refl),
            (
              λ r. absurd (r.0.0.0.1 refl),
              (
                λ r. absurd (r.0.0.1 refl),
                (λ r. absurd (r.0.1 refl), (λ r. absurd (r.1 refl), (λ r. refl, (λ r. refl, (λ r. refl, tt))))),
              ),
            ),
          ),
        ),
      ),
    )
    _ c.if-kind-lt-VOID.false (suc-le-suc c.if-kind-gt-METADATA.false) c.in_default.in_default-own.rest
