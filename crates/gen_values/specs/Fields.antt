-- Fields of an instruction or terminator at a place of the lent entries, read one after the other.
use Rattle.std.specs.Prelude.{ℕ, zero, suc, ◌+◌, ◌-◌, ◌<◌, ◌≤◌, ◌^◌, ◌≡◌, refl, true, false, take, get_or}
use Rattle.std.proofs.Math.Path.{sym, ap}
use Rattle.std.proofs.Common.{subst, ◌∙◌, arith, le-leb, le_of_eq, drop-drop, get_or-drop, take_all}
use mathlib.Core.List.{List, [], ◌∷◌, ◌++◌, append_assoc}
use Rattle.std.proofs.Math.ListN.{length, drop, length-drop}
use Rattle.std.proofs.Math.Seq.{drop-append_seam}
use Rattle.numbers.specs.Width.{width_bounds}
use Rattle.book.specs.Ast.{Ty, Value, Sizeless, Inst}
use Rattle.book.specs.Entry.{Entry, entry, entries}
use Rattle.book.specs.Fields.{Item, Field, Meanings}
use Rattle.book.specs.Work.{name_words}
use Rattle.book.specs.Encode.{enc_ty, value_entry, enc_fields, enc_inst}
use Rattle.book.specs.Limits.{Parts, ValueLimits, FieldsLimits, InstLimits}
use Rattle.book.specs.Result.{Result, ok, err}
use Rattle.book_types.specs.Laws.{lent_from, entries_part}
use Rattle.lowering.specs.Operand.{int_width}
use Rattle.layout_memo.specs.Front.{Starts, ty_of, ty_len, ty_is, len_is}
use Rattle.gen_values.specs.Values.{value_of, width_by, Reaches, value_is}

-- the fields fs stand at the front, and this is what they hold
pub record Fields (m : ℕ) (fs : List Field) (p : Meanings fs) (es : List Entry) : Type 0 where
  pub rest : List Entry
  pub here : es ≡ enc_fields fs p ++ rest
  pub keeps : FieldsLimits m fs p
  pub few : length es ≤ 2 ^ 20

-- the instruction i stands at the front
pub record InstAt (m : ℕ) (i : Inst) (es : List Entry) : Type 0 where
  pub rest : List Entry
  pub here : es ≡ enc_inst i ++ rest
  pub keeps : InstLimits m i
  pub few : length es ≤ 2 ^ 20

-- ---- entries at a place
-- the entry at a place, in the kinds and in the words
pub entry_at : (ks ws : List ℕ) (a : ℕ) (e : Entry) (tail : List Entry) → drop a (entries ks ws) ≡ e ∷ tail
    → (get_or ks a 0 ≡ e.kind) × (get_or ws a 0 ≡ e.word) × (a < length ks) × (a < length ws) × (drop (a + 1) (entries ks ws) ≡ tail)
unfolding entries
entry_at [] ws zero e tail h = absurd (let z : ◌≡◌ {A = ℕ} 0 1 = cc in omega arith)
entry_at [] ws (suc a) e tail h = absurd (let z : ◌≡◌ {A = ℕ} 0 1 = cc in omega arith)
entry_at (k ∷ ks) [] zero e tail h = absurd (let z : ◌≡◌ {A = ℕ} 0 1 = cc in omega arith)
entry_at (k ∷ ks) [] (suc a) e tail h = absurd (let z : ◌≡◌ {A = ℕ} 0 1 = cc in omega arith)
entry_at (k ∷ ks) (w ∷ ws) zero e tail h =
    let p : entry k w ≡ e = cc in
    (ap (λ (x : Entry). x.kind) p, ap (λ (x : Entry). x.word) p, omega arith, omega arith, ap (drop 1) h)
entry_at (k ∷ ks) (w ∷ ws) (suc a) e tail h =
    let q = entry_at ks ws a e tail h in
    let i : suc (a + 1) ≡ suc a + 1 = omega arith in
    (q.0, q.1, omega (arith, q.2), omega (arith, q.3), ap (λ n. drop n (entries (k ∷ ks) (w ∷ ws))) (sym i) ∙ q.4)

-- ---- the part from a place on
-- what `&l[a..]` lends
abbrev pub part_from : List ℕ → ℕ → List ℕ
part_from l a = take (length l - a) (drop a l)

part_is : (l : List ℕ) (a : ℕ) → part_from l a ≡ drop a l
part_is l a = take_all (length l - a) (drop a l) (le_of_eq (length-drop a l))

-- its front is the place
pub part_length : (l : List ℕ) (a : ℕ) → length (part_from l a) ≡ length l - a
part_length l a = ap length (part_is l a) ∙ length-drop a l

pub part_front : (l : List ℕ) (a : ℕ) → get_or (part_from l a) 0 0 ≡ get_or l a 0
part_front l a = let e : a + 0 ≡ a = omega arith in rw (part_is l a) (get_or-drop a l 0 0 ∙ ap (λ i. get_or l i 0) e)

pub part_there : (l : List ℕ) (a : ℕ) → a < length l → 0 < length (part_from l a)
part_there l a h = rw (part_is l a) (omega (arith, length-drop a l))

-- fields at a place are at the front of the part
pub fields_part : {m : ℕ} {fs : List Field} {p : Meanings fs} (ks ws : List ℕ) (a : ℕ) → Fields m fs p (drop a (entries ks ws)) → Fields m fs p (lent_from ks ws a)
fields_part {m} {fs} {p} ks ws a f = subst (Fields m fs p) (sym (entries_part a ks ws)) f

-- ---- the entry that begins a type
type_within : (t : Ty) (ks ws : List ℕ) (a : ℕ) (tail : List Entry) → drop a (entries ks ws) ≡ enc_ty t ++ tail → (a < length ks) × (a < length ws)
unfolding enc_ty
type_within Ty.void ks ws a tail h = let q = entry_at ks ws a _ _ h in (q.2, q.3)
type_within Ty.ptr ks ws a tail h = let q = entry_at ks ws a _ _ h in (q.2, q.3)
type_within (Ty.sizeless s) ks ws a tail h = let q = entry_at ks ws a _ _ h in (q.2, q.3)
type_within (Ty.int w) ks ws a tail h = let q = entry_at ks ws a _ _ h in (q.2, q.3)
type_within (Ty.array p n t) ks ws a tail h = let q = entry_at ks ws a _ _ h in (q.2, q.3)
type_within (Ty.named_struct x) ks ws a tail h = let q = entry_at ks ws a _ _ h in (q.2, q.3)
type_within (Ty.struct p ts) ks ws a tail h = let q = entry_at ks ws a _ _ h in (q.2, q.3)

-- a width that is not 0, or 0 where there is none
abbrev pub WidthSays : ℕ → Result ℕ → Type 0
WidthSays w (ok v) = (w ≡ v) × (v ≡ 0 → ⊥)
WidthSays w (err e) = (w ≡ 0) × (e ≡ 9)

type_width : (m : ℕ) (t : Ty) (ks ws : List ℕ) (a : ℕ) (tail : List Entry) → drop a (entries ks ws) ≡ enc_ty t ++ tail → Parts m t
    → WidthSays (width_by (get_or ks a 0) (get_or ws a 0)) (int_width t)
unfolding enc_ty int_width width_by Parts
type_width m Ty.void ks ws a tail h k = let q = entry_at ks ws a _ _ h in (rw q.0, refl)
type_width m Ty.ptr ks ws a tail h k = let q = entry_at ks ws a _ _ h in (rw q.0, λ z. omega arith)
type_width m (Ty.sizeless Sizeless.func) ks ws a tail h k = let q = entry_at ks ws a _ _ h in (rw q.0, refl)
type_width m (Ty.sizeless Sizeless.label) ks ws a tail h k = let q = entry_at ks ws a _ _ h in (rw q.0, refl)
type_width m (Ty.sizeless Sizeless.metadata) ks ws a tail h k = let q = entry_at ks ws a _ _ h in (rw q.0, refl)
type_width m (Ty.int w) ks ws a tail h k =
    let q = entry_at ks ws a _ _ h in
    let l = width_bounds w k in
    (rw (q.0, q.1) (rw (le-leb w 64 l.1)), λ z. omega (arith, l.0))
type_width m (Ty.array false n t) ks ws a tail h k = let q = entry_at ks ws a _ _ h in (rw q.0, refl)
type_width m (Ty.array true n t) ks ws a tail h k = let q = entry_at ks ws a _ _ h in (rw q.0, refl)
type_width m (Ty.named_struct x) ks ws a tail h k = let q = entry_at ks ws a _ _ h in (rw q.0, refl)
type_width m (Ty.struct false ts) ks ws a tail h k = let q = entry_at ks ws a _ _ h in (rw q.0, refl)
type_width m (Ty.struct true ts) ks ws a tail h k = let q = entry_at ks ws a _ _ h in (rw q.0, refl)

-- ---- a value
pub record ValueAt (m : ℕ) (ks ws : List ℕ) (a : ℕ) (v : Value) : Type 0 where
  pub is : value_of (get_or ks a 0) (get_or ws a 0) ≡ v
  pub limits : ValueLimits m v
  pub in_kinds : a < length ks
  pub in_words : a < length ws

-- a value is there, and a local's work words
pub record OperandAt (ks ws : List ℕ) (a : ℕ) (work : List ℕ) : Type 0 where
  pub in_kinds : a < length ks
  pub in_words : a < length ws
  pub reaches : Reaches (get_or ks a 0) (get_or ws a 0) work

-- a value at a place is the one at the front of the part
pub value_part : {m : ℕ} {ks ws : List ℕ} {a : ℕ} {v : Value} → ValueAt m ks ws a v → ValueAt m (part_from ks a) (part_from ws a) 0 v
value_part {m} {ks} {ws} {a} q =
    record {
      is = rw (part_front ks a, part_front ws a) q.is;
      limits = q.limits;
      in_kinds = part_there ks a q.in_kinds;
      in_words = part_there ws a q.in_words;
    }

pub operand_part : {ks ws : List ℕ} {a : ℕ} {work : List ℕ} → OperandAt ks ws a work → OperandAt (part_from ks a) (part_from ws a) 0 work
operand_part {ks} {ws} {a} q =
    record {
      in_kinds = part_there ks a q.in_kinds;
      in_words = part_there ws a q.in_words;
      reaches = rw (part_front ks a, part_front ws a) q.reaches;
    }

-- a local is one of the names
pub local_below : (m w : ℕ) (v : Value) → ValueLimits m v → v ≡ Value.local w → w < m
local_below m w v l e = rw e at l

pub operand_at : {m : ℕ} {ks ws : List ℕ} {a : ℕ} {v : Value} {work : List ℕ} → ValueAt m ks ws a v → name_words m ≤ length work → OperandAt ks ws a work
operand_at {m} {ks} {ws} {a} {v} q room =
    record {
      in_kinds = q.in_kinds;
      in_words = q.in_words;
      reaches = record { there = λ e. omega (arith, local_below m (get_or ws a 0) v q.limits (sym q.is ∙ e)) };
    }

module _ {m : ℕ} {fs : List Field} where
  module _ {p : Meanings (Field.plain Item.value ∷ fs)} (ks ws : List ℕ) (a : ℕ) (f : Fields m (Field.plain Item.value ∷ fs) p (drop a (entries ks ws))) where
    head : drop a (entries ks ws) ≡ value_entry p.0 ∷ (enc_fields fs p.1 ++ f.rest)
    unfolding enc_fields
    head = f.here

    pub value_at : ValueAt m ks ws a p.0
    value_at =
        let q = entry_at ks ws a _ _ head in
        record { is = rw (q.0, q.1) (value_is p.0); limits = f.keeps.0; in_kinds = q.2; in_words = q.3 }

    pub behind_value : Fields m fs p.1 (drop (a + 1) (entries ks ws))
    behind_value =
        let q = entry_at ks ws a _ _ head in
        record {
          rest = f.rest;
          here = q.4;
          keeps = f.keeps.1;
          few = omega (arith, f.few, length-drop a (entries ks ws), length-drop (a + 1) (entries ks ws));
        }

  -- ---- a type
  module _ {p : Meanings (Field.plain Item.type ∷ fs)} (ks ws : List ℕ) (a : ℕ) (f : Fields m (Field.plain Item.type ∷ fs) p (drop a (entries ks ws))) where
    front : drop a (entries ks ws) ≡ enc_ty p.0 ++ (enc_fields fs p.1 ++ f.rest)
    unfolding enc_fields
    front = f.here ∙ append_assoc (enc_ty p.0) (enc_fields fs p.1) f.rest

    pub type_starts : Starts m (drop a (entries ks ws))
    type_starts = record { ty = p.0; rest = enc_fields fs p.1 ++ f.rest; here = front; keeps = f.keeps.0; few = f.few }

    pub type_is : ty_of m (drop a (entries ks ws)) ≡ p.0
    unfolding type_starts
    type_is = ty_is type_starts

    pub behind_type_lem : {n : ℕ} → n ≡ ty_len m (drop a (entries ks ws)) → Fields m fs p.1 (drop (a + n) (entries ks ws))
    unfolding type_starts
    behind_type_lem {n} e =
        let l : n ≡ length (enc_ty p.0) = e ∙ len_is type_starts in
        record {
          rest = f.rest;
          here = sym (drop-drop n a (entries ks ws)) ∙ ap (drop n) front ∙ ap (λ k. drop k (enc_ty p.0 ++ (enc_fields fs p.1 ++ f.rest))) l ∙ drop-append_seam (enc_ty p.0) _;
          keeps = f.keeps.1;
          few = omega (arith, f.few, length-drop a (entries ks ws), length-drop (a + n) (entries ks ws));
        }

    -- the entry that begins it tells the width
    pub type_in : (a < length ks) × (a < length ws)
    type_in = type_within p.0 ks ws a _ front

    pub width_is : WidthSays (width_by (get_or ks a 0) (get_or ws a 0)) (int_width p.0)
    width_is = type_width m p.0 ks ws a _ front f.keeps.0.parts
