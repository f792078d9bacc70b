-- One instruction of the frame pass: its slots, and its place where it is an alloca.
use Rattle.std.specs.Prelude.{ℕ, ◌+◌, ◌<◌, ◌≤◌, ◌^◌, ◌≡◌, refl, List, get_or, Ok, Err, IfOk}
use Rattle.std.proofs.Common.{sym, ◌∙◌, arith}
use Rattle.std.proofs.Math.Path.{ap, subst}
use Rattle.std.proofs.Math.Option.{Option, none, some}
use Rattle.book.specs.Entry.{Entry, entries}
use Rattle.book.specs.Ast.{InstKind, Inst, StructType}
use Rattle.book.specs.Kinds.{InstTag, inst_kind}
use Rattle.book.specs.Fields.{Meanings, inst_fields, inst_tag_of, inst_args}
use Rattle.book.specs.Encode.{dest_word}
use Rattle.book.specs.Limits.{Maybe, NameLimits}
use Rattle.book.specs.Map.{lookup}
use Rattle.book.specs.Result.{Result, ok}
use Rattle.book.specs.Shape.{Shape, shape}
use Rattle.book.specs.Work.{slot_at}
use Rattle.layout.specs.Frame.{Places, frame_step}
use Rattle.layout_memo.specs.Work.{Ready, settled_word, structs_in}
use Rattle.layout_memo.specs.Calls.{lent}
use Rattle.lowering.specs.Context.{Slots, slot_step}
use Rattle.gen_values.specs.Values.{dest_of, dest_is}
use Rattle.gen_values.specs.Maps.{numbered}
use Rattle.gen_values.specs.Fields.{Fields}
use Rattle.gen_frame.specs.Frames.{Framing, SlotsHold, PlacesHold, Overflows, FrameSays, FrameKept, kept_then, kept_places}
use Rattle.gen_frame.specs.Allocas.{alloca_fields, AllocaAsk, AllocaDone}
use Rattle.gen_frame.specs.Taken.{InstAt, inst_front, same_tag, TakeAsk, Taken, take_none}
use Rattle.gen_frame.specs.declared.Frame.{Frame}

pub record StepAsk (m : ℕ) (f : Frame) (es bs : List Entry) (work : List ℕ) : Type 0 where
  pub inst : Inst
  pub at : InstAt m inst es
  pub ready : Ready m bs work
  pub few : f.slots ≤ 2 ^ 22
  pub ends : f.off ≤ 2147483648

-- what was done: the places as `frameStep` says, the slots as `slotStep` does
pub record Stepped (m : ℕ) (es bs : List Entry) (work work' : List ℕ) (f : Frame) (r : Framing) : Type 0 where
  pub ready : Ready m bs work'
  pub kept : FrameKept m work work'
  pub few : IfOk r (λ t. t.slots ≤ f.slots + 2)
  pub ends : f.off ≤ 2147483648 → IfOk r (λ t. t.off ≤ 2147483648)
  pub places : (i : Inst) → InstAt m i es → (p : Places) → PlacesHold m p work f → FrameSays m (frame_step (structs_in m bs) i.dest (shape i.kind) p) work' r
  pub slots : (i : Inst) → InstAt m i es → (names : List (List ℕ)) → Overflows names m work → (s : Slots) → SlotsHold m s work f
      → IfOk r (λ t. SlotsHold m (slot_step names i.dest (shape i.kind) s) work' t)

-- an alloca; any other has no place
tag_alloca : (q : InstKind) → inst_tag_of q ≡ InstTag.alloca → (args : Meanings alloca_fields) × (q ≡ InstKind.alloca args.0 args.1.0 args.1.1.0)
tag_alloca (InstKind.bin op t l r) e = absurd (let z : ◌≡◌ {A = ℕ} 0 1 = cc in omega arith)
tag_alloca (InstKind.conv op t v u) e = absurd (let z : ◌≡◌ {A = ℕ} 0 1 = cc in omega arith)
tag_alloca (InstKind.icmp p t l r) e = absurd (let z : ◌≡◌ {A = ℕ} 0 1 = cc in omega arith)
tag_alloca (InstKind.select c t l r) e = absurd (let z : ◌≡◌ {A = ℕ} 0 1 = cc in omega arith)
tag_alloca (InstKind.load t p a) e = absurd (let z : ◌≡◌ {A = ℕ} 0 1 = cc in omega arith)
tag_alloca (InstKind.store t v p a) e = absurd (let z : ◌≡◌ {A = ℕ} 0 1 = cc in omega arith)
tag_alloca (InstKind.alloca t n a) e = ((t, (n, (a, tt))), refl)
tag_alloca (InstKind.get_element_ptr t p is) e = absurd (let z : ◌≡◌ {A = ℕ} 0 1 = cc in omega arith)
tag_alloca (InstKind.phi t vs) e = absurd (let z : ◌≡◌ {A = ℕ} 0 1 = cc in omega arith)
tag_alloca (InstKind.call t f vs) e = absurd (let z : ◌≡◌ {A = ℕ} 0 1 = cc in omega arith)
tag_alloca (InstKind.freeze t v) e = absurd (let z : ◌≡◌ {A = ℕ} 0 1 = cc in omega arith)
tag_alloca (InstKind.atomic_load t p) e = absurd (let z : ◌≡◌ {A = ℕ} 0 1 = cc in omega arith)
tag_alloca (InstKind.atomic_store t v p) e = absurd (let z : ◌≡◌ {A = ℕ} 0 1 = cc in omega arith)
tag_alloca (InstKind.cmpxchg t p c v) e = absurd (let z : ◌≡◌ {A = ℕ} 0 1 = cc in omega arith)
tag_alloca (InstKind.extract_value v i) e = absurd (let z : ◌≡◌ {A = ℕ} 0 1 = cc in omega arith)
tag_alloca InstKind.fence e = absurd (let z : ◌≡◌ {A = ℕ} 0 1 = cc in omega arith)

tag_unplaced : (structs : List StructType) (dest : Option ℕ) (q : InstKind) (p : Places) → (inst_tag_of q ≡ InstTag.alloca → ⊥) → frame_step structs dest (shape q) p ≡ ok p
unfolding shape frame_step
tag_unplaced structs dest (InstKind.bin op t l r) pl z = refl
tag_unplaced structs dest (InstKind.conv op t v u) pl z = refl
tag_unplaced structs dest (InstKind.icmp p t l r) pl z = refl
tag_unplaced structs dest (InstKind.select c t l r) pl z = refl
tag_unplaced structs dest (InstKind.load t p a) pl z = refl
tag_unplaced structs dest (InstKind.store t v p a) pl z = refl
tag_unplaced structs dest (InstKind.alloca t n a) pl z = absurd (z refl)
tag_unplaced structs dest (InstKind.get_element_ptr t p is) pl z = refl
tag_unplaced structs dest (InstKind.phi t vs) pl z = refl
tag_unplaced structs dest (InstKind.call t f vs) pl z = refl
tag_unplaced structs dest (InstKind.freeze t v) pl z = refl
tag_unplaced structs dest (InstKind.atomic_load t p) pl z = refl
tag_unplaced structs dest (InstKind.atomic_store t v p) pl z = refl
tag_unplaced structs dest (InstKind.cmpxchg t p c v) pl z = refl
tag_unplaced structs dest (InstKind.extract_value v i) pl z = refl
tag_unplaced structs dest InstKind.fence pl z = refl

-- an alloca at the front
record AllocaFront (m : ℕ) (i : Inst) (ks ws : List ℕ) : Type 0 where
  pub args : Meanings alloca_fields
  pub fields : Fields m alloca_fields args (lent ks ws 1)
  pub is : shape i.kind ≡ Shape.alloca args.0 args.1.0

alloca_front : {m : ℕ} {i : Inst} (ks ws : List ℕ) → InstAt m i (entries ks ws) → get_or ks 0 0 ≡ 73 → AllocaFront m i ks ws
unfolding shape
alloca_front {m} {i} ks ws a e =
    let f = inst_front ks ws a in
    let t = tag_alloca i.kind (same_tag (inst_tag_of i.kind) InstTag.alloca (sym f.kind ∙ e)) in
    record { args = t.0; fields = subst (λ (q : InstKind). Fields m (inst_fields (inst_tag_of q)) (inst_args q) (lent ks ws 1)) t.1 f.fields; is = ap shape t.1 }

dest_within : {m : ℕ} (o : Option ℕ) {d : ℕ} → d ≡ dest_word o → Maybe (NameLimits m) o → d ≤ m
dest_within none e l = omega arith
dest_within (some x) e l = omega arith

module _ {m : ℕ} (ks ws : List ℕ) {bs : List Entry} (work : List ℕ) (f : Frame) where
  pub take_ask : StepAsk m f (entries ks ws) bs work → TakeAsk m f (entries ks ws) work
  take_ask k = record { inst = k.inst; at = k.at; room = k.ready.room; few = k.few }

  module _ {work' : List ℕ} {taken : Frame} (t : Taken m (entries ks ws) work work' f taken) where
    -- no alloca
    pub step_plain : Ready m bs work → (get_or ks 0 0 ≡ 73 → ⊥) → Stepped m (entries ks ws) bs work work' f (Ok taken)
    step_plain ready z =
        record { ready = t.ready bs ready; kept = t.kept; few = t.few; ends = λ l. omega (arith, t.off); places = places; slots = λ i a names o s h. t.slots i a names o s h }
      where
        places : (i : Inst) → InstAt m i (entries ks ws) → (p : Places) → PlacesHold m p work f → FrameSays m (frame_step (structs_in m bs) i.dest (shape i.kind) p) work' (Ok taken)
        places i a p h =
            subst (λ (x : Result Places). FrameSays m x work' (Ok taken))
            (sym (tag_unplaced (structs_in m bs) i.dest i.kind p (λ e. z ((inst_front ks ws a).kind ∙ ap inst_kind e)))) (t.places p h)

    -- an alloca
    module _ (e : get_or ks 0 0 ≡ 73) where
      pub alloca_ask : StepAsk m f (entries ks ws) bs work → AllocaAsk m (get_or ws 0 0) taken (lent ks ws 1) bs work'
      alloca_ask k =
          let a = alloca_front ks ws k.at e in
          let d : get_or ws 0 0 ≤ m = dest_within k.inst.dest (inst_front ks ws k.at).dest k.at.keeps.0 in
          record { args = a.args; fields = a.fields; named = d; ready = t.ready bs k.ready; ends = omega (arith, k.ends, t.off) }

      pub step_alloca : (k : StepAsk m f (entries ks ws) bs work) {work'' : List ℕ} {r : Framing} → AllocaDone m (get_or ws 0 0) (lent ks ws 1) bs work' work'' taken r
          → Stepped m (entries ks ws) bs work work'' f r
      step_alloca k {work''} {r} done =
          let own = alloca_front ks ws k.at e in
          let s = done own.args own.fields in
          record {
            ready = s.ready;
            kept = kept_then t.kept (kept_places s.kept);
            few = few r s.slots;
            ends = λ l. s.ends (omega (arith, t.off));
            places = places;
            slots = λ i a names o z h.
                let g = t.slots i a names o z h in
                slots (slot_step names i.dest (shape i.kind) z) g.count (λ x l. s.kept.same (slot_at x) (λ y _ q. omega arith) (settled_word x 1 l (omega arith)) ∙ g.words x l) r s.slots;
          }
        where
          few : (r : Framing) → IfOk r (λ u. u.slots ≡ taken.slots) → IfOk r (λ u. u.slots ≤ f.slots + 2)
          few (Ok u) q = omega (arith, t.few)
          few (Err n) q = tt

          slots : (so : Slots) → taken.slots ≡ so.num → ((x : ℕ) → x < m → get_or work'' (slot_at x) 0 ≡ numbered (lookup x so.slots)) → (r : Framing) → IfOk r (λ u. u.slots ≡ taken.slots)
              → IfOk r (λ u. SlotsHold m so work'' u)
          slots so count words (Ok u) q = record { count = q ∙ count; words = words }
          slots so count words (Err n) q = tt

          places : (i : Inst) → InstAt m i (entries ks ws) → (p : Places) → PlacesHold m p work f → FrameSays m (frame_step (structs_in m bs) i.dest (shape i.kind) p) work'' r
          places i a p h =
              let c = alloca_front ks ws a e in
              let d : dest_of (get_or ws 0 0) ≡ i.dest = ap dest_of (inst_front ks ws a).dest ∙ dest_is i.dest in
              rw (← d, c.is) ((done c.args c.fields).says p (t.places p h))

  -- no result that has a name, and no alloca
  pub step_idle : Ready m bs work → get_or ws 0 0 ≡ 0 → (get_or ks 0 0 ≡ 73 → ⊥) → Stepped m (entries ks ws) bs work work f (Ok f)
  step_idle ready w z = step_plain (take_none ks ws work f w) ready z
