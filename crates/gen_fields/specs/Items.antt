-- Fields that may be absent and lists, read item by item: a typed value is a type and the value behind it.
use Rattle.std.specs.Prelude.{ℕ, ◌+◌, ◌≤◌, ◌<◌, ◌≡◌, true, false, length, drop}
use Rattle.std.proofs.Common.{ap, ◌∙◌, length-drop}
use Rattle.std.proofs.Math.Option.{Option, none, some}
use mathlib.Core.List.{List, [], ◌∷◌, ◌++◌, append_assoc}
use native.Mathlib.Omega.{arith}
use Rattle.std.proofs.Math.ListN.{get_or}
use Rattle.numbers.specs.Align.{align_bounds}
use Rattle.book.specs.Ast.{Ty, Value, TypedVal, Sizeless, Zero}
use Rattle.book.specs.Entry.{Entry, entry, entries}
use Rattle.book.specs.Fields.{Item, Field, Meanings}
use Rattle.book.specs.Encode.{enc_ty, enc_fields, ending, value_entry}
use Rattle.gen_values.specs.Fields.{Fields, entry_at}

abbrev type : Field
type = Field.plain Item.type

abbrev value : Field
value = Field.plain Item.value

-- ---- the kind in front
type_between : (t : Ty) (ks ws : List ℕ) (a : ℕ) (tail : List Entry) → drop a (entries ks ws) ≡ enc_ty t ++ tail → (10 ≤ get_or ks a 0) × (get_or ks a 0 ≤ 20)
unfolding enc_ty
type_between Ty.void ks ws a tail h = let q = entry_at ks ws a _ _ h in (omega (arith, q.0), omega (arith, q.0))
type_between Ty.ptr ks ws a tail h = let q = entry_at ks ws a _ _ h in (omega (arith, q.0), omega (arith, q.0))
type_between (Ty.sizeless Sizeless.func) ks ws a tail h = let q = entry_at ks ws a _ _ h in (omega (arith, q.0), omega (arith, q.0))
type_between (Ty.sizeless Sizeless.label) ks ws a tail h = let q = entry_at ks ws a _ _ h in (omega (arith, q.0), omega (arith, q.0))
type_between (Ty.sizeless Sizeless.metadata) ks ws a tail h = let q = entry_at ks ws a _ _ h in (omega (arith, q.0), omega (arith, q.0))
type_between (Ty.int w) ks ws a tail h = let q = entry_at ks ws a _ _ h in (omega (arith, q.0), omega (arith, q.0))
type_between (Ty.array false n t) ks ws a tail h = let q = entry_at ks ws a _ _ h in (omega (arith, q.0), omega (arith, q.0))
type_between (Ty.array true n t) ks ws a tail h = let q = entry_at ks ws a _ _ h in (omega (arith, q.0), omega (arith, q.0))
type_between (Ty.named_struct x) ks ws a tail h = let q = entry_at ks ws a _ _ h in (omega (arith, q.0), omega (arith, q.0))
type_between (Ty.struct false ts) ks ws a tail h = let q = entry_at ks ws a _ _ h in (omega (arith, q.0), omega (arith, q.0))
type_between (Ty.struct true ts) ks ws a tail h = let q = entry_at ks ws a _ _ h in (omega (arith, q.0), omega (arith, q.0))

module _ {m : ℕ} {fs : List Field} where
  pub type_front : {p : Meanings (type ∷ fs)} {es : List Entry} (f : Fields m (type ∷ fs) p es) → es ≡ enc_ty p.0 ++ (enc_fields fs p.1 ++ f.rest)
  unfolding enc_fields
  type_front {p} f = f.here ∙ append_assoc (enc_ty p.0) (enc_fields fs p.1) f.rest

  -- the kinds of types are 10 to 20, those of values 30 to 37
  pub type_kind : {p : Meanings (type ∷ fs)} (ks ws : List ℕ) (a : ℕ) → Fields m (type ∷ fs) p (drop a (entries ks ws)) → (10 ≤ get_or ks a 0) × (get_or ks a 0 ≤ 20)
  type_kind {p} ks ws a f = type_between p.0 ks ws a _ (type_front f)

  pub value_kind : {p : Meanings (value ∷ fs)} (ks ws : List ℕ) (a : ℕ) → Fields m (value ∷ fs) p (drop a (entries ks ws)) → 30 ≤ get_or ks a 0
  unfolding enc_fields value_entry
  value_kind {p} ks ws a f = let q = entry_at ks ws a _ _ f.here in at p.0 q.0
    where
      at : (v : Value) → get_or ks a 0 ≡ (value_entry v).kind → 30 ≤ get_or ks a 0
      at (Value.local x) e = omega arith
      at (Value.global x) e = omega arith
      at (Value.int x) e = omega arith
      at (Value.zero Zero.null) e = omega arith
      at (Value.zero Zero.undef) e = omega arith
      at (Value.zero Zero.poison) e = omega arith
      at (Value.zero Zero.zero_init) e = omega arith
      at Value.other e = omega arith

-- ---- a typed value that may be absent
present_same : (fs : List Field) (q : Meanings fs) (x : TypedVal) → enc_fields (Field.optional Item.typed ∷ fs) (some x, q) ≡ enc_fields (type ∷ value ∷ fs) (x.ty, (x.val, q))
unfolding enc_fields
present_same fs q x = append_assoc (enc_ty x.ty) (value_entry x.val ∷ []) (enc_fields fs q)

module _ {m : ℕ} {fs : List Field} {q : Meanings fs} where
  -- the absent one, and the fields behind it
  absent_front : {i : Item} {es : List Entry} (f : Fields m (Field.optional i ∷ fs) (none, q) es) → es ≡ entry 21 0 ∷ (enc_fields fs q ++ f.rest)
  unfolding enc_fields
  absent_front f = f.here

  module _ {i : Item} (ks ws : List ℕ) (a : ℕ) (f : Fields m (Field.optional i ∷ fs) (none, q) (drop a (entries ks ws))) where
    pub absent_kind : (get_or ks a 0 ≡ 21) × (a < length ks) × (a < length ws)
    absent_kind = let e = entry_at ks ws a _ _ (absent_front f) in (e.0, e.2, e.3)

    pub behind_absent : Fields m fs q (drop (a + 1) (entries ks ws))
    behind_absent =
        let e = entry_at ks ws a _ _ (absent_front f) in
        record {
          rest = f.rest;
          here = e.4;
          keeps = f.keeps.1;
          few = omega (arith, f.few, length-drop a (entries ks ws), length-drop (a + 1) (entries ks ws));
        }

  -- the one that is there
  pub present : {x : TypedVal} {es : List Entry} → Fields m (Field.optional Item.typed ∷ fs) (some x, q) es → Fields m (type ∷ value ∷ fs) (x.ty, (x.val, q)) es
  present {x} f =
      record {
        rest = f.rest;
        here = f.here ∙ ap (λ (r : List Entry). r ++ f.rest) (present_same fs q x);
        keeps = (f.keeps.0.0, (f.keeps.0.1, f.keeps.1));
        few = f.few;
      }

-- ---- a stated align
abbrev pub AlignSays : (k w : ℕ) → Option ℕ → Type 0
AlignSays k w none = k ≡ 21
AlignSays k w (some n) = (k ≡ 22) × (w ≡ n) × (n ≤ 4096)

pub record AlignAt (ks ws : List ℕ) (a : ℕ) (o : Option ℕ) : Type 0 where
  pub says : AlignSays (get_or ks a 0) (get_or ws a 0) o
  pub in_kinds : a < length ks
  pub in_words : a < length ws

pub align_at_lem : {m : ℕ} {fs : List Field} {p : Meanings (Field.optional Item.align ∷ fs)} (ks ws : List ℕ) (a : ℕ)
    → Fields m (Field.optional Item.align ∷ fs) p (drop a (entries ks ws)) → AlignAt ks ws a p.0
unfolding enc_fields
align_at_lem {m} {fs} {p} ks ws a f = at p.0 f
  where
    at : (o : Option ℕ) → Fields m (Field.optional Item.align ∷ fs) (o, p.1) (drop a (entries ks ws)) → AlignAt ks ws a o
    at none f = let e = absent_kind ks ws a f in record { says = e.0; in_kinds = e.1; in_words = e.2 }
    at (some n) f = let e = entry_at ks ws a _ _ f.here in record { says = (e.0, e.1, (align_bounds n f.keeps.0).1); in_kinds = e.2; in_words = e.3 }

-- ---- a list of typed values
one_same : (fs : List Field) (q : Meanings fs) (x : TypedVal) (xs : List TypedVal)
    → enc_fields (Field.list Item.typed ∷ fs) (x ∷ xs, q) ≡ enc_fields (type ∷ value ∷ Field.list Item.typed ∷ fs) (x.ty, (x.val, (xs, q)))
unfolding enc_fields ending
one_same fs q x xs = simp append_assoc

module _ {m : ℕ} {fs : List Field} {q : Meanings fs} where
  -- the first one is a type, a value and the list behind them
  pub first_typed : {x : TypedVal} {xs : List TypedVal} {es : List Entry} → Fields m (Field.list Item.typed ∷ fs) (x ∷ xs, q) es
      → Fields m (type ∷ value ∷ Field.list Item.typed ∷ fs) (x.ty, (x.val, (xs, q))) es
  first_typed {x} {xs} f =
      record {
        rest = f.rest;
        here = f.here ∙ ap (λ (r : List Entry). r ++ f.rest) (one_same fs q x xs);
        keeps = (f.keeps.0.0.0, (f.keeps.0.0.1, (f.keeps.0.1, f.keeps.1)));
        few = f.few;
      }

  list_end : {es : List Entry} (f : Fields m (Field.list Item.typed ∷ fs) ([], q) es) → es ≡ entry 0 0 ∷ (enc_fields fs q ++ f.rest)
  unfolding enc_fields ending
  list_end f = f.here

  pub list_closes : (ks ws : List ℕ) (a : ℕ) → Fields m (Field.list Item.typed ∷ fs) ([], q) (drop a (entries ks ws)) → (get_or ks a 0 ≡ 0) × (a < length ks)
  list_closes ks ws a f = let e = entry_at ks ws a _ _ (list_end f) in (e.0, e.2)
