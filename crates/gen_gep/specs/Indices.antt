-- The fields of a getelementptr, and its list of indices taken one at a time. "A GEP has at most 32 indices"
use Rattle.std.specs.Prelude.{ℕ, ◌+◌, ◌<◌, ◌≡◌, true, false, length, drop, get_or}
use Rattle.std.proofs.Math.Path.{refl, ap}
use Rattle.std.proofs.Common.{sym, subst, ◌∙◌, arith}
use mathlib.Core.List.{List, [], ◌∷◌, ◌++◌, append_assoc}
use Rattle.std.proofs.Math.Option.{Option, none, some}
use Rattle.book.specs.Ast.{Ty, TypedVal, Sizeless}
use Rattle.book.specs.Entry.{Entry, entries}
use Rattle.book.specs.Fields.{Item, Field, Meanings, inst_fields}
use Rattle.book.specs.Kinds.{InstTag, ValTag, val_tag}
use Rattle.book.specs.Encode.{ending, enc_ty, enc_fields}
use Rattle.book.specs.AgreeTy.{val_found, val_is}
use Rattle.layout.specs.Step.{const_int}
use Rattle.layout_memo.specs.Front.{ty_len}
use Rattle.gen_values.specs.Values.{value_by, value_of}
use Rattle.gen_values.specs.Fields.{Fields, ValueAt, entry_at, value_at, behind_value, behind_type_lem, type_in}

-- a list of indices; a typed value, and the rest of the list
abbrev pub index_list : List Field
index_list = Field.up_to 32 Item.gep_index ∷ []

abbrev pub index_then : List Field
index_then = Field.plain Item.type ∷ Field.plain Item.value ∷ index_list

-- base type, pointer, indices
abbrev pub gep_fields : List Field
gep_fields = inst_fields InstTag.get_element_ptr

abbrev pub index_in : Meanings index_then → TypedVal
index_in p = record { ty = p.0; val = p.1.0 }

-- ---- the kind in front tells whether the list goes on
type_open : (t : Ty) (ks ws : List ℕ) (a : ℕ) (tail : List Entry) → drop a (entries ks ws) ≡ enc_ty t ++ tail → get_or ks a 0 ≡ 0 → ⊥
unfolding enc_ty
type_open Ty.void ks ws a tail h z = omega (arith, (entry_at ks ws a _ _ h).0)
type_open Ty.ptr ks ws a tail h z = omega (arith, (entry_at ks ws a _ _ h).0)
type_open (Ty.sizeless Sizeless.func) ks ws a tail h z = omega (arith, (entry_at ks ws a _ _ h).0)
type_open (Ty.sizeless Sizeless.label) ks ws a tail h z = omega (arith, (entry_at ks ws a _ _ h).0)
type_open (Ty.sizeless Sizeless.metadata) ks ws a tail h z = omega (arith, (entry_at ks ws a _ _ h).0)
type_open (Ty.int w) ks ws a tail h z = omega (arith, (entry_at ks ws a _ _ h).0)
type_open (Ty.array false n t) ks ws a tail h z = omega (arith, (entry_at ks ws a _ _ h).0)
type_open (Ty.array true n t) ks ws a tail h z = omega (arith, (entry_at ks ws a _ _ h).0)
type_open (Ty.named_struct x) ks ws a tail h z = omega (arith, (entry_at ks ws a _ _ h).0)
type_open (Ty.struct false ts) ks ws a tail h z = omega (arith, (entry_at ks ws a _ _ h).0)
type_open (Ty.struct true ts) ks ws a tail h z = omega (arith, (entry_at ks ws a _ _ h).0)

module _ (m : ℕ) (ks ws : List ℕ) (a : ℕ) where
  -- the list at its end
  list_closed : Fields m index_list ([], tt) (drop a (entries ks ws)) → (get_or ks a 0 ≡ 0) × (a < length ks)
  unfolding enc_fields ending
  list_closed f = let q = entry_at ks ws a _ _ f.here in (q.0, q.2)

  module _ (idx : TypedVal) (is : List TypedVal) (f : Fields m index_list (idx ∷ is, tt) (drop a (entries ks ws))) where
    abbrev taken : Meanings index_then
    taken = (idx.ty, (idx.val, (is, tt)))

    -- an index in front, and the list behind it
    list_first : Fields m index_then taken (drop a (entries ks ws))
    unfolding enc_fields ending
    list_first =
        record {
          rest = f.rest;
          here = f.here ∙ simp append_assoc;
          keeps = (f.keeps.0.1.0.0.0, (f.keeps.0.1.0.0.1, ((omega (arith, f.keeps.0.0), f.keeps.0.1.1), tt)));
          few = f.few;
        }

    in_front : drop a (entries ks ws) ≡ enc_ty idx.ty ++ (enc_fields (Field.plain Item.value ∷ index_list) taken.1 ++ f.rest)
    unfolding enc_fields ending
    in_front = f.here ∙ simp append_assoc

    list_open : (get_or ks a 0 ≡ 0 → ⊥) × (a < length ks)
    list_open = (type_open idx.ty ks ws a _ in_front, (type_in ks ws a list_first).0)

  pub list_in : (is : List TypedVal) → Fields m index_list (is, tt) (drop a (entries ks ws)) → a < length ks
  list_in [] f = (list_closed f).1
  list_in (idx ∷ is) f = (list_open idx is f).1

  pub list_done : (is : List TypedVal) → Fields m index_list (is, tt) (drop a (entries ks ws)) → get_or ks a 0 ≡ 0 → is ≡ []
  list_done [] f z = refl
  list_done (idx ∷ is) f z = absurd ((list_open idx is f).0 z)

  -- an index more
  pub record More (is : List TypedVal) : Type 0 where
    pub first : TypedVal
    pub later : List TypedVal
    pub same : is ≡ first ∷ later
    pub fields : Fields m index_then (first.ty, (first.val, (later, tt))) (drop a (entries ks ws))

  pub list_more : (is : List TypedVal) → Fields m index_list (is, tt) (drop a (entries ks ws)) → (get_or ks a 0 ≡ 0 → ⊥) → More is
  list_more [] f z = absurd (z (list_closed f).0)
  list_more (idx ∷ is) f z = record { first = idx; later = is; same = refl; fields = list_first idx is f }

-- ---- the value behind a type
module _ {m : ℕ} {p : Meanings index_then} (ks ws : List ℕ) (a : ℕ) (f : Fields m index_then p (drop a (entries ks ws))) {n v : ℕ} (e : n ≡ ty_len m (drop a (entries ks ws))) (ev : v ≡ a + n) where
  behind : Fields m (Field.plain Item.value ∷ index_list) p.1 (drop v (entries ks ws))
  behind = subst (λ (k : ℕ). Fields m (Field.plain Item.value ∷ index_list) p.1 (drop k (entries ks ws))) (sym ev) (behind_type_lem ks ws a f e)

  pub value_behind : ValueAt m ks ws v p.1.0
  value_behind = value_at ks ws v behind

  pub list_behind : Fields m index_list p.1.1 (drop (v + 1) (entries ks ws))
  list_behind = behind_value ks ws v behind

-- ---- a constant index, by its kind
module _ (k w : ℕ) where
  pub constant_is : k ≡ 32 → const_int (value_of k w) ≡ some w
  unfolding value_of const_int
  constant_is e = let q : val_tag k ≡ some ValTag.int = ap val_tag e ∙ val_found ValTag.int in rw q

  pub varying_is : (k ≡ 32 → ⊥) → const_int (value_of k w) ≡ none
  unfolding value_of const_int
  varying_is z = at (val_tag k) refl
    where
      at : (t : Option ValTag) → val_tag k ≡ t → const_int (value_by w t) ≡ none
      at none e = refl
      at (some ValTag.local) e = refl
      at (some ValTag.global) e = refl
      at (some ValTag.int) e = absurd (z (val_is k ValTag.int e))
      at (some (ValTag.zero x)) e = refl
      at (some ValTag.other) e = refl
