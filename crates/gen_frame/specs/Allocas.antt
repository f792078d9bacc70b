-- An alloca: its name, its count, its place. "A place is fixed when its count is absent or an integer", which is read as u64.
use Rattle.std.specs.Prelude.{ℕ, ◌-◌, ◌<◌, ◌≤◌, ◌^◌, ◌≡◌, true, false, get_or, drop}
use Rattle.std.proofs.Math.Path.{refl, sym, ap, subst}
use Rattle.std.proofs.Common.{◌∙◌, arith, zero-add, eq-eqb, ne_eqb, length-append}
use mathlib.Core.List.{List, [], ◌∷◌, ◌++◌, append_assoc}
use Rattle.std.proofs.Math.Option.{Option, none, some}
use Rattle.std.proofs.Math.ListN.{length}
use Rattle.book.specs.Entry.{Entry, entries}
use Rattle.book.specs.Ast.{Sizeless, Ty, Value, Zero, TypedVal}
use Rattle.book.specs.Kinds.{InstTag}
use Rattle.book.specs.Fields.{Item, Field, Meanings, inst_fields}
use Rattle.book.specs.Encode.{enc_ty, enc_fields, enc_typed, or_absent, value_entry}
use Rattle.book.specs.Limits.{Maybe, TypedLimits}
use Rattle.book.specs.Result.{Result, bind, ok_or}
use Rattle.book.specs.Shape.{Shape}
use Rattle.book_types.specs.Laws.{entries_part, within_kinds, within_words}
use Rattle.layout.specs.Step.{const_int}
use Rattle.layout.specs.Frame.{Places, count_of, place, frame_step, with_dynamic}
use Rattle.layout_memo.specs.Front.{Starts, ty_of, ty_len, len_is}
use Rattle.layout_memo.specs.Work.{Ready, structs_in}
use Rattle.layout_memo.specs.Calls.{lent}
use Rattle.gen_values.specs.Values.{dest_of}
use Rattle.gen_values.specs.Fields.{Fields, entry_at, type_starts, type_is, behind_type_lem, type_in}
use Rattle.gen_frame.specs.Frames.{Framing, dynamic_by, FrameSays}
use Rattle.gen_frame.specs.Placed.{PlaceStep, PlaceDone, same_step, step_none, step_err}
use Rattle.gen_frame.specs.declared.Frame.{Frame}
use Rattle.std.specs.Prelude.{Option as Counted, Some, None, Ok, Err}
use Rattle.book.specs.declared.refusal.Refusal.TheVariants as refusal

-- ---- the count
-- it stands at the front
pub record CountAt (m : ℕ) (o : Option TypedVal) (es : List Entry) : Type 0 where
  pub rest : List Entry
  pub here : es ≡ or_absent enc_typed o ++ rest
  pub keeps : Maybe (TypedLimits m) o
  pub few : length es ≤ 2 ^ 20

abbrev pub count_by : Counted ℕ → Option ℕ
count_by (Some n) = some n
count_by None = none

-- no type begins with kind 21
type_kind : (t : Ty) (ks ws : List ℕ) (rest : List Entry) → entries ks ws ≡ enc_ty t ++ rest → get_or ks 0 0 ≡ 21 → ⊥
unfolding enc_ty
type_kind Ty.void ks ws rest h e = omega (arith, (entry_at ks ws 0 _ _ h).0)
type_kind Ty.ptr ks ws rest h e = omega (arith, (entry_at ks ws 0 _ _ h).0)
type_kind (Ty.sizeless Sizeless.func) ks ws rest h e = omega (arith, (entry_at ks ws 0 _ _ h).0)
type_kind (Ty.sizeless Sizeless.label) ks ws rest h e = omega (arith, (entry_at ks ws 0 _ _ h).0)
type_kind (Ty.sizeless Sizeless.metadata) ks ws rest h e = omega (arith, (entry_at ks ws 0 _ _ h).0)
type_kind (Ty.int w) ks ws rest h e = omega (arith, (entry_at ks ws 0 _ _ h).0)
type_kind (Ty.array true n t) ks ws rest h e = omega (arith, (entry_at ks ws 0 _ _ h).0)
type_kind (Ty.array false n t) ks ws rest h e = omega (arith, (entry_at ks ws 0 _ _ h).0)
type_kind (Ty.named_struct x) ks ws rest h e = omega (arith, (entry_at ks ws 0 _ _ h).0)
type_kind (Ty.struct true ts) ks ws rest h e = omega (arith, (entry_at ks ws 0 _ _ h).0)
type_kind (Ty.struct false ts) ks ws rest h e = omega (arith, (entry_at ks ws 0 _ _ h).0)

-- what the entry of a value says of a constant
value_constant : (v : Value) {k w : ℕ} → k ≡ (value_entry v).kind → w ≡ (value_entry v).word → (k ≡ 32 → const_int v ≡ some w) × ((k ≡ 32 → ⊥) → const_int v ≡ none)
unfolding value_entry const_int
value_constant (Value.local x) e d = (λ q. absurd (omega arith), λ q. refl)
value_constant (Value.global x) e d = (λ q. absurd (omega arith), λ q. refl)
value_constant (Value.int c) e d = (λ q. ap some (sym d), λ q. absurd (q e))
value_constant (Value.zero Zero.null) e d = (λ q. absurd (omega arith), λ q. refl)
value_constant (Value.zero Zero.undef) e d = (λ q. absurd (omega arith), λ q. refl)
value_constant (Value.zero Zero.poison) e d = (λ q. absurd (omega arith), λ q. refl)
value_constant (Value.zero Zero.zero_init) e d = (λ q. absurd (omega arith), λ q. refl)
value_constant Value.other e d = (λ q. absurd (omega arith), λ q. refl)

-- a count behind whose type the value is at n
pub record CountValue (o : Option TypedVal) (ks ws : List ℕ) (n : ℕ) : Type 0 where
  pub in_kinds : n < length ks
  pub in_words : n < length ws
  pub constant : get_or ks n 0 ≡ 32 → some (get_or ws n 0) ≡ count_of o
  pub varies : (get_or ks n 0 ≡ 32 → ⊥) → none ≡ count_of o

module _ {m : ℕ} (ks ws : List ℕ) where
  typed : (v : TypedVal) → CountAt m (some v) (entries ks ws) → Fields m (Field.plain Item.type ∷ Field.plain Item.value ∷ []) (v.ty, (v.val, tt)) (drop 0 (entries ks ws))
  unfolding enc_fields
  typed v k = record { rest = k.rest; here = k.here; keeps = (k.keeps.0, (k.keeps.1, tt)); few = k.few }

  pub count_there : (o : Option TypedVal) → CountAt m o (entries ks ws) → 0 < length ks
  count_there none k = (entry_at ks ws 0 _ _ k.here).2
  count_there (some v) k = (type_in ks ws 0 (typed v k)).0

  pub count_absent : (o : Option TypedVal) → CountAt m o (entries ks ws) → get_or ks 0 0 ≡ 21 → some 1 ≡ count_of o
  unfolding count_of
  count_absent none k e = refl
  count_absent (some v) k e = absurd (type_kind v.ty ks ws _ (k.here ∙ append_assoc (enc_ty v.ty) _ _) e)

  pub count_value : (o : Option TypedVal) → CountAt m o (entries ks ws) → (get_or ks 0 0 ≡ 21 → ⊥) → {n : ℕ} → n ≡ ty_len m (entries ks ws) → CountValue o ks ws n
  unfolding count_of enc_fields
  count_value none k z e = absurd (z (entry_at ks ws 0 _ _ k.here).0)
  count_value (some v) k z {n} e =
      let f = subst (λ (j : ℕ). Fields m (Field.plain Item.value ∷ []) (v.val, tt) (drop j (entries ks ws))) (zero-add n) (behind_type_lem ks ws 0 (typed v k) e) in
      let q = entry_at ks ws n (value_entry v.val) _ f.here in
      let c = value_constant v.val q.0 q.1 in
      record { in_kinds = q.2; in_words = q.3; constant = λ d. sym (c.0 d); varies = λ d. sym (c.1 d) }

-- a type's entries are there
pub skip_fits : {m : ℕ} (ks ws : List ℕ) → Starts m (entries ks ws) → {n : ℕ} → n ≡ ty_len m (entries ks ws) → (n ≤ length ks) × (n ≤ length ws)
skip_fits ks ws s {n} e =
    let l : n ≤ length (entries ks ws) = omega (arith, e, len_is s, ap length s.here, length-append (enc_ty s.ty) s.rest) in
    (within_kinds n ks ws l, within_words n ks ws l)

-- ---- an alloca
abbrev pub alloca_fields : List Field
alloca_fields = inst_fields InstTag.alloca

-- its fields stand at the front; its result word is a name with 1 added, or 0
pub record AllocaAsk (m dest : ℕ) (f : Frame) (es bs : List Entry) (work : List ℕ) : Type 0 where
  pub args : Meanings alloca_fields
  pub fields : Fields m alloca_fields args es
  pub named : dest ≤ m
  pub ready : Ready m bs work
  pub ends : f.off ≤ 2147483648

abbrev pub AllocaDone : (m dest : ℕ) (es bs : List Entry) (work work' : List ℕ) (f : Frame) (r : Framing) → Type 0
AllocaDone m dest es bs work work' f r =
    (args : Meanings alloca_fields) → Fields m alloca_fields args es → PlaceStep m bs work work' f r (frame_step (structs_in m bs) (dest_of dest) (Shape.alloca args.0 args.1.0))

module _ (m dest : ℕ) (ks ws : List ℕ) (args : Meanings alloca_fields) (k : Fields m alloca_fields args (entries ks ws)) where
  -- the count behind the type
  pub count_at : {n : ℕ} → n ≡ ty_len m (entries ks ws) → CountAt m args.1.0 (lent ks ws n)
  unfolding enc_fields
  count_at {n} e =
      let f = subst (λ (j : ℕ). Fields m (Field.optional Item.typed ∷ Field.optional Item.align ∷ []) args.1 (drop j (entries ks ws))) (zero-add n) (behind_type_lem ks ws 0 k e) in
      record {
        rest = enc_fields (Field.optional Item.align ∷ []) args.1.1 ++ f.rest;
        here = entries_part n ks ws ∙ f.here ∙ append_assoc (or_absent enc_typed args.1.0) _ _;
        keeps = f.keeps.0;
        few = subst (λ (es : List Entry). length es ≤ 2 ^ 20) (sym (entries_part n ks ws)) f.few;
      }

  pub alloca_starts : Starts m (entries ks ws)
  alloca_starts = type_starts ks ws 0 k

  abbrev step_of : List Entry → Places → Result Places
  step_of bs = frame_step (structs_in m bs) (dest_of dest) (Shape.alloca args.0 args.1.0)

  -- no name
  pub alloca_unnamed : {bs : List Entry} {work : List ℕ} {f : Frame} → dest ≡ 0 → Ready m bs work → PlaceStep m bs work work f (Err refusal.NoResultName) (step_of bs)
  unfolding frame_step dest_of ok_or bind
  alloca_unnamed {bs} z ready = step_err (step_of bs) ready (λ p h. rw (eq-eqb dest 0 z) refl)

  module _ (z : dest ≡ 0 → ⊥) (c : Counted ℕ) (e : count_by c ≡ count_of args.1.0) where
    step_named : {o : Option ℕ} → count_by c ≡ o → (bs : List Entry) (p : Places) → step_of bs p ≡ place (structs_in m bs) (dest - 1) args.0 o p
    unfolding frame_step dest_of ok_or bind
    step_named d bs p = rw (ne_eqb dest 0 z) (ap (λ x. place (structs_in m bs) (dest - 1) args.0 x p) (sym e ∙ d))

    -- a fixed count
    pub alloca_fixed : {bs : List Entry} {work work' : List ℕ} {f : Frame} {r : Framing} {n : ℕ} → c ≡ Some n → PlaceDone m (dest - 1) n (entries ks ws) bs work work' f r
        → PlaceStep m bs work work' f r (step_of bs)
    alloca_fixed {bs} {n = n} d s =
        same_step (place (structs_in m bs) (dest - 1) (ty_of m (entries ks ws)) (some n)) (step_of bs)
        (λ p. step_named (ap count_by d) bs p ∙ ap (λ t. place (structs_in m bs) (dest - 1) t (some n) p) (sym (type_is ks ws 0 k))) s

    -- a varying one
    pub alloca_varying : {bs : List Entry} {work : List ℕ} {f : Frame} → c ≡ None → Ready m bs work → PlaceStep m bs work work f (Ok (dynamic_by f)) (step_of bs)
    unfolding place with_dynamic
    alloca_varying {bs} {work} {f} d ready =
        step_none (step_of bs) ready refl refl
        (λ p h.
        subst (λ (x : Result Places). FrameSays m x work (Ok (dynamic_by f))) (sym (step_named (ap count_by d) bs p))
        (record { off = h.off; within = h.within; dynamic = refl; words = h.words }))
