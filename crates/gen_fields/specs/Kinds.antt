-- What the kind of a value's entry says of it.
use Rattle.std.specs.Prelude.{ℕ, ◌≡◌, refl}
use Rattle.std.proofs.Common.{ap, ◌∙◌}
use Rattle.std.proofs.Math.Option.{Option, none, some}
use Rattle.book.specs.Ast.{Value}
use Rattle.book.specs.Kinds.{ValTag, val_tag}
use Rattle.book.specs.AgreeTy.{val_is, val_found}
use Rattle.gen_values.specs.Values.{value_by, value_of}

pub is_local : (k w : ℕ) → k ≡ 30 → value_of k w ≡ Value.local w
unfolding value_of
is_local k w e = ap (λ (x : ℕ). value_by w (val_tag x)) e ∙ ap (value_by w) (val_found ValTag.local)

pub is_global_lem : (k w : ℕ) → k ≡ 31 → value_of k w ≡ Value.global w
unfolding value_of
is_global_lem k w e = ap (λ (x : ℕ). value_by w (val_tag x)) e ∙ ap (value_by w) (val_found ValTag.global)

-- no local
abbrev pub NoLocal : Value → Type 0
NoLocal (Value.local x) = ⊥
NoLocal (Value.global x) = Unit {0}
NoLocal (Value.int v) = Unit {0}
NoLocal (Value.zero z) = Unit {0}
NoLocal Value.other = Unit {0}

pub no_local : (k w : ℕ) → (k ≡ 30 → ⊥) → NoLocal (value_of k w)
unfolding value_of
no_local k w z = at (val_tag k) refl
  where
    at : (t : Option ValTag) → val_tag k ≡ t → NoLocal (value_by w t)
    at none e = tt
    at (some ValTag.local) e = z (val_is k ValTag.local e)
    at (some ValTag.global) e = tt
    at (some ValTag.int) e = tt
    at (some (ValTag.zero y)) e = tt
    at (some ValTag.other) e = tt

-- neither a local nor a global
abbrev pub NoName : Value → Type 0
NoName (Value.local x) = ⊥
NoName (Value.global x) = ⊥
NoName (Value.int v) = Unit {0}
NoName (Value.zero z) = Unit {0}
NoName Value.other = Unit {0}

pub no_name : (k w : ℕ) → (k ≡ 30 → ⊥) → (k ≡ 31 → ⊥) → NoName (value_of k w)
unfolding value_of
no_name k w y z = at (val_tag k) refl
  where
    at : (t : Option ValTag) → val_tag k ≡ t → NoName (value_by w t)
    at none e = tt
    at (some ValTag.local) e = y (val_is k ValTag.local e)
    at (some ValTag.global) e = z (val_is k ValTag.global e)
    at (some ValTag.int) e = tt
    at (some (ValTag.zero x)) e = tt
    at (some ValTag.other) e = tt
