-- The slots of an instruction: "cmpxchg takes two, and so does a call of a global containing `.with.overflow.`. In each map later duplicates win."
use Rattle.std.specs.Prelude.{ℕ, ◌+◌, ◌-◌, ◌<◌, ◌≤◌, ◌^◌, ◌≡◌, refl, length, drop, set}
use Rattle.std.proofs.Math.Path.{sym, ap, subst}
use Rattle.std.proofs.Common.{◌∙◌, arith, zero-add, length-drop}
use mathlib.Core.List.{List, [], ◌∷◌, ◌++◌}
use Rattle.std.proofs.Math.Option.{Option, none, some}
use borrow.Author.Tests.{le-leb, lt-leb}
use Rattle.std.proofs.Math.ListN.{get_or, length-set}
use Rattle.std.proofs.Math.Seq.{get_or-set_other}
use Rattle.book.specs.Entry.{Entry, entries}
use Rattle.book.specs.Ast.{Value, Zero, InstKind, Inst}
use Rattle.book.specs.Kinds.{InstTag, inst_kind, inst_tag}
use Rattle.book.specs.Fields.{Item, Field, Meanings, inst_fields, inst_tag_of, inst_args}
use Rattle.book.specs.Encode.{enc_fields, enc_inst, dest_word, value_entry}
use Rattle.book.specs.Limits.{Maybe, NameLimits, InstLimits, ValueLimits}
use Rattle.book.specs.Shape.{Shape, shape}
use Rattle.book.specs.AgreeInst.{inst_found}
use Rattle.book.specs.Work.{name_words, slot_at, place_at, mark_at}
use Rattle.book_types.specs.Laws.{entries_part}
use Rattle.layout.specs.Frame.{Places}
use Rattle.layout_memo.specs.Front.{ty_len}
use Rattle.layout_memo.specs.Work.{Ready, table_other}
use Rattle.layout_memo.specs.Calls.{lent}
use Rattle.lowering.specs.Context.{Slots, call_slots, slots_for, slot_step}
use Rattle.gen_values.specs.Fields.{Fields, entry_at, behind_type_lem}
use Rattle.gen_frame.specs.Frames.{SlotsHold, Overflows, PlacesHold, FrameKept, kept_none, word_set, ready_set}
use Rattle.gen_frame.specs.declared.Frame.{Frame}

-- ---- a call
abbrev pub call_fields : List Field
call_fields = inst_fields InstTag.call

-- a call's fields stand at the front
pub record CallAsk (m : ℕ) (es : List Entry) (work : List ℕ) : Type 0 where
  pub args : Meanings call_fields
  pub fields : Fields m call_fields args es
  pub room : name_words m ≤ length work

pub record CallSlots (m : ℕ) (es : List Entry) (work : List ℕ) (r : ℕ) : Type 0 where
  pub most : r ≤ 2
  pub says : (args : Meanings call_fields) → Fields m call_fields args es → (names : List (List ℕ)) → Overflows names m work → r ≡ call_slots names args.1.0

-- what the entry of a value says of a callee
callee_slots : (names : List (List ℕ)) (v : Value) {k w : ℕ} → k ≡ (value_entry v).kind → w ≡ (value_entry v).word → (k ≡ 31 → v ≡ Value.global w) × ((k ≡ 31 → ⊥) → 1 ≡ call_slots names v)
unfolding value_entry call_slots
callee_slots names (Value.local x) e d = (λ q. absurd (omega arith), λ q. refl)
callee_slots names (Value.global x) e d = (λ q. ap Value.global (sym d), λ q. absurd (q e))
callee_slots names (Value.int c) e d = (λ q. absurd (omega arith), λ q. refl)
callee_slots names (Value.zero Zero.null) e d = (λ q. absurd (omega arith), λ q. refl)
callee_slots names (Value.zero Zero.undef) e d = (λ q. absurd (omega arith), λ q. refl)
callee_slots names (Value.zero Zero.poison) e d = (λ q. absurd (omega arith), λ q. refl)
callee_slots names (Value.zero Zero.zero_init) e d = (λ q. absurd (omega arith), λ q. refl)
callee_slots names Value.other e d = (λ q. absurd (omega arith), λ q. refl)

-- the callee is at n
pub record CalleeAt (m : ℕ) (v : Value) (ks ws work : List ℕ) (n : ℕ) : Type 0 where
  pub in_kinds : n < length ks
  pub in_words : n < length ws
  pub below : get_or ks n 0 ≡ 31 → get_or ws n 0 < m
  pub other : (get_or ks n 0 ≡ 31 → ⊥) → (names : List (List ℕ)) → 1 ≡ call_slots names v
  pub plain : get_or ks n 0 ≡ 31 → get_or work (mark_at (get_or ws n 0)) 0 < 4 → (names : List (List ℕ)) → Overflows names m work → 1 ≡ call_slots names v
  pub doubled : get_or ks n 0 ≡ 31 → 4 ≤ get_or work (mark_at (get_or ws n 0)) 0 → (names : List (List ℕ)) → Overflows names m work → 2 ≡ call_slots names v

module _ {m : ℕ} (ks ws work : List ℕ) (args : Meanings call_fields) (k : Fields m call_fields args (entries ks ws)) where
  pub callee_at : {n : ℕ} → n ≡ ty_len m (entries ks ws) → CalleeAt m args.1.0 ks ws work n
  unfolding enc_fields call_slots
  callee_at {n} e =
      let f = subst (λ (j : ℕ). Fields m (Field.plain Item.value ∷ Field.list Item.typed ∷ []) args.1 (drop j (entries ks ws))) (zero-add n) (behind_type_lem ks ws 0 k e) in
      let q = entry_at ks ws n (value_entry args.1.0) _ f.here in
      let global : get_or ks n 0 ≡ 31 → args.1.0 ≡ Value.global (get_or ws n 0) = (callee_slots [] args.1.0 q.0 q.1).0 in
      let small : get_or ks n 0 ≡ 31 → get_or ws n 0 < m = λ d. subst (ValueLimits m) (global d) f.keeps.0 in
      record {
        in_kinds = q.2;
        in_words = q.3;
        below = small;
        other = λ d names. (callee_slots names args.1.0 q.0 q.1).1 d;
        plain = λ d l names o. rw (global d, ← o (get_or ws n 0) (small d), lt-leb 4 _ l) refl;
        doubled = λ d l names o. rw (global d, ← o (get_or ws n 0) (small d), le-leb 4 _ l) refl;
      }

module _ {m : ℕ} (ks ws work : List ℕ) {n : ℕ} (e : n ≡ ty_len m (entries ks ws)) where
  pub call_other : (get_or ks n 0 ≡ 31 → ⊥) → CallSlots m (entries ks ws) work 1
  call_other d = record { most = omega arith; says = λ args k names o. (callee_at ks ws work args k e).other d names }

  pub call_plain : get_or ks n 0 ≡ 31 → get_or work (mark_at (get_or ws n 0)) 0 < 4 → CallSlots m (entries ks ws) work 1
  call_plain d l = record { most = omega arith; says = λ args k. (callee_at ks ws work args k e).plain d l }

  pub call_doubled : get_or ks n 0 ≡ 31 → 4 ≤ get_or work (mark_at (get_or ws n 0)) 0 → CallSlots m (entries ks ws) work 2
  call_doubled d l = record { most = omega arith; says = λ args k. (callee_at ks ws work args k e).doubled d l }

-- ---- an instruction
-- it stands at the front
pub record InstAt (m : ℕ) (i : Inst) (es : List Entry) : Type 0 where
  pub rest : List Entry
  pub here : es ≡ enc_inst i ++ rest
  pub keeps : InstLimits m i
  pub few : length es ≤ 2 ^ 20

-- its entry, and the fields behind it
pub record InstFront (m : ℕ) (i : Inst) (ks ws : List ℕ) : Type 0 where
  pub kind : get_or ks 0 0 ≡ inst_kind (inst_tag_of i.kind)
  pub dest : get_or ws 0 0 ≡ dest_word i.dest
  pub in_kinds : 0 < length ks
  pub in_words : 0 < length ws
  pub fields : Fields m (inst_fields (inst_tag_of i.kind)) (inst_args i.kind) (lent ks ws 1)

pub inst_front : {m : ℕ} {i : Inst} (ks ws : List ℕ) → InstAt m i (entries ks ws) → InstFront m i ks ws
unfolding enc_inst
inst_front {m} {i} ks ws a =
    let q = entry_at ks ws 0 _ _ a.here in
    record {
      kind = q.0;
      dest = q.1;
      in_kinds = q.2;
      in_words = q.3;
      fields = subst (Fields m (inst_fields (inst_tag_of i.kind)) (inst_args i.kind)) (sym (entries_part 1 ks ws))
          (record { rest = a.rest; here = q.4; keeps = a.keeps.1; few = omega (arith, a.few, length-drop 1 (entries ks ws)) });
    }

-- kinds are told apart
pub same_tag : (t u : InstTag) → inst_kind t ≡ inst_kind u → t ≡ u
same_tag t u e = let g : some t ≡ some u = sym (inst_found t) ∙ ap inst_tag e ∙ inst_found u in cc

-- a call, an alloca, a cmpxchg; any other has one slot
tag_call : (q : InstKind) → inst_tag_of q ≡ InstTag.call → (args : Meanings call_fields) × (q ≡ InstKind.call args.0 args.1.0 args.1.1.0)
tag_call (InstKind.bin op t l r) e = absurd (let z : ◌≡◌ {A = ℕ} 0 1 = cc in omega arith)
tag_call (InstKind.conv op t v u) e = absurd (let z : ◌≡◌ {A = ℕ} 0 1 = cc in omega arith)
tag_call (InstKind.icmp p t l r) e = absurd (let z : ◌≡◌ {A = ℕ} 0 1 = cc in omega arith)
tag_call (InstKind.select c t l r) e = absurd (let z : ◌≡◌ {A = ℕ} 0 1 = cc in omega arith)
tag_call (InstKind.load t p a) e = absurd (let z : ◌≡◌ {A = ℕ} 0 1 = cc in omega arith)
tag_call (InstKind.store t v p a) e = absurd (let z : ◌≡◌ {A = ℕ} 0 1 = cc in omega arith)
tag_call (InstKind.alloca t n a) e = absurd (let z : ◌≡◌ {A = ℕ} 0 1 = cc in omega arith)
tag_call (InstKind.get_element_ptr t p is) e = absurd (let z : ◌≡◌ {A = ℕ} 0 1 = cc in omega arith)
tag_call (InstKind.phi t vs) e = absurd (let z : ◌≡◌ {A = ℕ} 0 1 = cc in omega arith)
tag_call (InstKind.call t f vs) e = ((t, (f, (vs, tt))), refl)
tag_call (InstKind.freeze t v) e = absurd (let z : ◌≡◌ {A = ℕ} 0 1 = cc in omega arith)
tag_call (InstKind.atomic_load t p) e = absurd (let z : ◌≡◌ {A = ℕ} 0 1 = cc in omega arith)
tag_call (InstKind.atomic_store t v p) e = absurd (let z : ◌≡◌ {A = ℕ} 0 1 = cc in omega arith)
tag_call (InstKind.cmpxchg t p c v) e = absurd (let z : ◌≡◌ {A = ℕ} 0 1 = cc in omega arith)
tag_call (InstKind.extract_value v i) e = absurd (let z : ◌≡◌ {A = ℕ} 0 1 = cc in omega arith)
tag_call InstKind.fence e = absurd (let z : ◌≡◌ {A = ℕ} 0 1 = cc in omega arith)

tag_cmpxchg : (q : InstKind) → inst_tag_of q ≡ InstTag.cmpxchg → shape q ≡ Shape.cmpxchg
unfolding shape
tag_cmpxchg (InstKind.bin op t l r) e = absurd (let z : ◌≡◌ {A = ℕ} 0 1 = cc in omega arith)
tag_cmpxchg (InstKind.conv op t v u) e = absurd (let z : ◌≡◌ {A = ℕ} 0 1 = cc in omega arith)
tag_cmpxchg (InstKind.icmp p t l r) e = absurd (let z : ◌≡◌ {A = ℕ} 0 1 = cc in omega arith)
tag_cmpxchg (InstKind.select c t l r) e = absurd (let z : ◌≡◌ {A = ℕ} 0 1 = cc in omega arith)
tag_cmpxchg (InstKind.load t p a) e = absurd (let z : ◌≡◌ {A = ℕ} 0 1 = cc in omega arith)
tag_cmpxchg (InstKind.store t v p a) e = absurd (let z : ◌≡◌ {A = ℕ} 0 1 = cc in omega arith)
tag_cmpxchg (InstKind.alloca t n a) e = absurd (let z : ◌≡◌ {A = ℕ} 0 1 = cc in omega arith)
tag_cmpxchg (InstKind.get_element_ptr t p is) e = absurd (let z : ◌≡◌ {A = ℕ} 0 1 = cc in omega arith)
tag_cmpxchg (InstKind.phi t vs) e = absurd (let z : ◌≡◌ {A = ℕ} 0 1 = cc in omega arith)
tag_cmpxchg (InstKind.call t f vs) e = absurd (let z : ◌≡◌ {A = ℕ} 0 1 = cc in omega arith)
tag_cmpxchg (InstKind.freeze t v) e = absurd (let z : ◌≡◌ {A = ℕ} 0 1 = cc in omega arith)
tag_cmpxchg (InstKind.atomic_load t p) e = absurd (let z : ◌≡◌ {A = ℕ} 0 1 = cc in omega arith)
tag_cmpxchg (InstKind.atomic_store t v p) e = absurd (let z : ◌≡◌ {A = ℕ} 0 1 = cc in omega arith)
tag_cmpxchg (InstKind.cmpxchg t p c v) e = refl
tag_cmpxchg (InstKind.extract_value v i) e = absurd (let z : ◌≡◌ {A = ℕ} 0 1 = cc in omega arith)
tag_cmpxchg InstKind.fence e = absurd (let z : ◌≡◌ {A = ℕ} 0 1 = cc in omega arith)

tag_plain : (names : List (List ℕ)) (q : InstKind) → (inst_tag_of q ≡ InstTag.cmpxchg → ⊥) → (inst_tag_of q ≡ InstTag.call → ⊥) → 1 ≡ slots_for names (shape q)
unfolding shape slots_for
tag_plain names (InstKind.bin op t l r) y z = refl
tag_plain names (InstKind.conv op t v u) y z = refl
tag_plain names (InstKind.icmp p t l r) y z = refl
tag_plain names (InstKind.select c t l r) y z = refl
tag_plain names (InstKind.load t p a) y z = refl
tag_plain names (InstKind.store t v p a) y z = refl
tag_plain names (InstKind.alloca t n a) y z = refl
tag_plain names (InstKind.get_element_ptr t p is) y z = refl
tag_plain names (InstKind.phi t vs) y z = refl
tag_plain names (InstKind.call t f vs) y z = absurd (z refl)
tag_plain names (InstKind.freeze t v) y z = refl
tag_plain names (InstKind.atomic_load t p) y z = refl
tag_plain names (InstKind.atomic_store t v p) y z = refl
tag_plain names (InstKind.cmpxchg t p c v) y z = absurd (y refl)
tag_plain names (InstKind.extract_value v i) y z = refl
tag_plain names InstKind.fence y z = refl

-- a call at the front
pub record CallFront (m : ℕ) (i : Inst) (ks ws : List ℕ) : Type 0 where
  pub args : Meanings call_fields
  pub fields : Fields m call_fields args (lent ks ws 1)
  pub is : shape i.kind ≡ Shape.call args.1.0

pub call_front : {m : ℕ} {i : Inst} (ks ws : List ℕ) → InstAt m i (entries ks ws) → get_or ks 0 0 ≡ 76 → CallFront m i ks ws
unfolding shape
call_front {m} {i} ks ws a e =
    let f = inst_front ks ws a in
    let t = tag_call i.kind (same_tag (inst_tag_of i.kind) InstTag.call (sym f.kind ∙ e)) in
    record { args = t.0; fields = subst (λ (q : InstKind). Fields m (inst_fields (inst_tag_of q)) (inst_args q) (lent ks ws 1)) t.1 f.fields; is = ap shape t.1 }

-- ---- its slots
pub record SlotsAsk (m : ℕ) (es : List Entry) (work : List ℕ) : Type 0 where
  pub inst : Inst
  pub at : InstAt m inst es
  pub room : name_words m ≤ length work

pub record SlotsFor (m : ℕ) (es : List Entry) (work : List ℕ) (r : ℕ) : Type 0 where
  pub most : r ≤ 2
  pub says : (i : Inst) → InstAt m i es → (names : List (List ℕ)) → Overflows names m work → r ≡ slots_for names (shape i.kind)

module _ {m : ℕ} (ks ws work : List ℕ) where
  pub call_ask : SlotsAsk m (entries ks ws) work → get_or ks 0 0 ≡ 76 → CallAsk m (lent ks ws 1) work
  call_ask a e = let c = call_front ks ws a.at e in record { args = c.args; fields = c.fields; room = a.room }

  pub slots_cmpxchg : get_or ks 0 0 ≡ 80 → SlotsFor m (entries ks ws) work 2
  unfolding slots_for
  slots_cmpxchg e =
      record {
        most = omega arith;
        says = λ i a names o.
            let f = inst_front ks ws a in
            sym (ap (slots_for names) (tag_cmpxchg i.kind (same_tag (inst_tag_of i.kind) InstTag.cmpxchg (sym f.kind ∙ e))));
      }

  pub slots_call : get_or ks 0 0 ≡ 76 → {r : ℕ} → CallSlots m (lent ks ws 1) work r → SlotsFor m (entries ks ws) work r
  unfolding slots_for
  slots_call e c =
      record {
        most = c.most;
        says = λ i a names o. let f = call_front ks ws a e in c.says f.args f.fields names o ∙ sym (ap (slots_for names) f.is);
      }

  pub slots_plain : (get_or ks 0 0 ≡ 80 → ⊥) → (get_or ks 0 0 ≡ 76 → ⊥) → SlotsFor m (entries ks ws) work 1
  slots_plain y z =
      record {
        most = omega arith;
        says = λ i a names o.
            let f = inst_front ks ws a in
            tag_plain names i.kind (λ e. y (f.kind ∙ ap inst_kind e)) (λ e. z (f.kind ∙ ap inst_kind e));
      }

-- ---- slots are taken
pub record TakeAsk (m : ℕ) (f : Frame) (es : List Entry) (work : List ℕ) : Type 0 where
  pub inst : Inst
  pub at : InstAt m inst es
  pub room : name_words m ≤ length work
  pub few : f.slots ≤ 2 ^ 22

pub record Taken (m : ℕ) (es : List Entry) (work work' : List ℕ) (f r : Frame) : Type 0 where
  pub kept : FrameKept m work work'
  pub few : r.slots ≤ f.slots + 2
  pub off : r.off ≡ f.off
  pub ready : (bs : List Entry) → Ready m bs work → Ready m bs work'
  pub slots : (i : Inst) → InstAt m i es → (names : List (List ℕ)) → Overflows names m work → (s : Slots) → SlotsHold m s work f → SlotsHold m (slot_step names i.dest (shape i.kind) s) work' r
  pub places : (p : Places) → PlacesHold m p work f → PlacesHold m p work' r

-- a result word: a name with 1 added, or 0 for none
dest_none : (o : Option ℕ) {d : ℕ} → d ≡ dest_word o → d ≡ 0 → o ≡ none
dest_none none e z = refl
dest_none (some x) e z = absurd (omega arith)

dest_some : (o : Option ℕ) {d : ℕ} → d ≡ dest_word o → (d ≡ 0 → ⊥) → o ≡ some (d - 1)
dest_some none e z = absurd (z e)
dest_some (some x) {d} e z = let q : x ≡ d - 1 = omega arith in ap some q

module _ {m : ℕ} (ks ws work : List ℕ) (f : Frame) where
  pub take_none : get_or ws 0 0 ≡ 0 → Taken m (entries ks ws) work work f f
  unfolding slot_step
  take_none z =
      record {
        kept = kept_none;
        few = omega arith;
        off = refl;
        ready = λ bs r. r;
        slots = λ i a names o s h. rw (dest_none i.dest (inst_front ks ws a).dest z) h;
        places = λ p h. h;
      }

  module _ (ask : TakeAsk m f (entries ks ws) work) (z : get_or ws 0 0 ≡ 0 → ⊥) where
    abbrev x : ℕ
    x = get_or ws 0 0 - 1

    pub take_below : x < m
    take_below = subst (Maybe (NameLimits m)) (dest_some ask.inst.dest (inst_front ks ws ask.at).dest z) ask.at.keeps.0

    pub take_some : {n : ℕ} → SlotsFor m (entries ks ws) work n
        → Taken m (entries ks ws) work (set work (slot_at x) (f.slots + 1)) f (record { slots = f.slots + n; off = f.off; dynamic = f.dynamic })
    unfolding slot_step
    take_some {n} c =
        record {
          kept = record { long = length-set work (slot_at x) (f.slots + 1); same = λ i a b d. get_or-set_other work (slot_at x) i (f.slots + 1) 0 (a x take_below) };
          few = omega (arith, c.most);
          off = refl;
          ready = λ bs r. ready_set (slot_at x) (f.slots + 1) r (λ y e. omega arith) (λ y e. omega arith) (λ k. table_other m k x 1 (omega arith) (λ e. omega arith) take_below);
          slots = λ i a names o s h.
              rw (dest_some i.dest (inst_front ks ws a).dest z)
              (record {
                count = ap (λ k. k + n) h.count ∙ ap (λ k. s.num + k) (c.says i a names o);
                words = λ y l. rw h.count (word_set 1 (omega arith) work ask.room x s.num take_below s.slots h.words y l);
              });
          places = λ p h.
              record {
                off = h.off;
                within = h.within;
                dynamic = h.dynamic;
                words = λ y l. get_or-set_other work (slot_at x) (place_at y) (f.slots + 1) 0 (λ e. omega arith) ∙ h.words y l;
              };
        }
