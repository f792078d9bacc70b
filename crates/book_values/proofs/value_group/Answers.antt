-- `book_values::value_group` meets its contract: each kind is looked up, and what is below or above the table is not in it.
use Prim.Native.Nat.{ℕ, suc-le-suc}
use mathlib.Core.Path.{◌≡◌, refl, sym, ap}
use native.Mathlib.Omega.{arith}
use Rattle.book.specs.Rule.{find}
use Rattle.book.specs.Kinds.{val_tag, val_tags, val_kind}
use Rattle.book_values.specs.Items.{value_group_of}
use Rattle.book_types.specs.Tables.{find_below, find_above, in_range_lem}
use Rattle.book_values.specs.declared.ValueGroup.TheVariants.{Zero}
use Rattle.book_values.proofs.value_group.Goals as goal

-- the kinds that are none of those before
abbrev Rest : ℕ → Type 0
Rest k = (((Unit {0} × (k ≡ 30 → ⊥)) × (k ≡ 31 → ⊥)) × (k ≡ 32 → ⊥)) × (k ≡ 37 → ⊥)

pub returns-then-kind-lt-LOCAL : goal.returns-then-kind-lt-LOCAL
unfolding val_tag val_tags
returns-then-kind-lt-LOCAL c = ap value_group_of (sym (find_above val_kind _ 29 val_tags refl (omega arith)))

pub returns-then-kind-gt-OTHER : goal.returns-then-kind-gt-OTHER
unfolding val_tag val_tags
returns-then-kind-gt-OTHER c = ap value_group_of (sym (find_below val_kind _ 38 val_tags refl (omega arith)))

pub returns-in-30 : goal.returns-in-30
unfolding val_tag find val_tags
returns-in-30 c = ap (λ k. value_group_of (val_tag k)) (sym c.in-30.is)

pub returns-in-31 : goal.returns-in-31
unfolding val_tag find val_tags
returns-in-31 c = ap (λ k. value_group_of (val_tag k)) (sym c.in-31.is)

pub returns-in-32 : goal.returns-in-32
unfolding val_tag find val_tags
returns-in-32 c = ap (λ k. value_group_of (val_tag k)) (sym c.in-32.is)

pub returns-in-37 : goal.returns-in-37
unfolding val_tag find val_tags
returns-in-37 c = ap (λ k. value_group_of (val_tag k)) (sym c.in-37.is)

pub returns-in_default : goal.returns-in_default
unfolding val_tag find val_tags
returns-in_default c =
    in_range_lem (λ k. Rest k → Zero ≡ value_group_of (val_tag k)) 30 8
    (λ r. absurd (r.0.0.0.1 refl), (λ r. absurd (r.0.0.1 refl), (λ r. absurd (r.0.1 refl), (λ r. refl, (λ r. refl, (λ r. refl, (λ r. refl, (λ r. absurd (r.1 refl), tt))))))))
    _ c.if-kind-lt-LOCAL.false (suc-le-suc c.if-kind-gt-OTHER.false) c.in_default.in_default-own.rest
