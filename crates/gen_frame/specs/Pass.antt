-- The whole pass: `framePass` and `slotMap` over the instructions of all blocks, and what the work words then hold for a function's context.
use Rattle.std.specs.Prelude.{ℕ, ◌+◌, ◌*◌, ◌<◌, ◌≤◌, ◌^◌, ◌≡◌, Bool, true, false, length, get_or, drop, ltb}
use Rattle.std.proofs.Math.Path.{refl, sym, ap, subst}
use Rattle.std.proofs.Common.{◌∙◌, arith, add-zero, add-one, ltb-true, ltb-false, length-drop, drop_of_length-le, drop-cons, get_or-drop}
use mathlib.Core.List.{List, [], ◌∷◌, ◌++◌, append-nil}
use Rattle.std.specs.Prelude.{Ok, Err, IfOk}
use Rattle.book.specs.declared.refusal.Refusal.{Refusal}
use Rattle.book.specs.Entry.{Entry, entry, entries}
use Rattle.book.specs.Ast.{Inst, BasicBlock}
use Rattle.book.specs.Encode.{closed, enc_basic_block}
use Rattle.book.specs.Limits.{Each, BlockLimits}
use Rattle.book.specs.Map.{lookup}
use Rattle.book.specs.Read.{got, many}
use Rattle.book.specs.Result.{Result, ok, err, bind}
use Rattle.book.specs.Shape.{shape, all_insts}
use Rattle.book.proofs.AgreeBook.{agrees_blocks}
use Rattle.book.specs.Work.{slot_at, place_at}
use Rattle.book_types.specs.Laws.{entries_drop, entries_part, within_kinds, within_words}
use Rattle.layout.specs.Frame.{Places, no_frame, frame_step, frame_pass}
use Rattle.layout_memo.specs.Front.{kind_of, kind_at_lem}
use Rattle.layout_memo.specs.Work.{Ready, structs_in}
use Rattle.layout_memo.specs.Calls.{lent}
use Rattle.lowering.specs.Context.{Slots, no_slots, slot_step, slot_map}
use Rattle.gen_frame.specs.Frames.{Framing, PlacesHold, SlotsHold, Overflows, FrameSays, FrameKept, kept_none, kept_then, overflows_kept}
use Rattle.gen_frame.specs.Taken.{InstAt}
use Rattle.gen_frame.specs.Steps.{StepAsk, Stepped, step_idle}
use Rattle.gen_frame.specs.Scan.{First, Scan, scan_blocks}
use Rattle.gen_frame.specs.declared.Frame.{Frame}

-- the blocks of a function stand at the front, with the entry that closes them
pub record BlocksAt (m : ℕ) (blocks : List BasicBlock) (es : List Entry) : Type 0 where
  pub rest : List Entry
  pub here : es ≡ closed enc_basic_block blocks ++ rest
  pub keeps : Each (BlockLimits m) blocks
  pub few : length es ≤ 2 ^ 20

-- no others stand there
pub same_blocks : {m : ℕ} {b c : List BasicBlock} {es : List Entry} → BlocksAt m b es → BlocksAt m c es → b ≡ c
same_blocks {m} {b} {c} {es} x y =
    let p : many _ es ≡ got b _ = ap (many _) x.here ∙ (agrees_blocks m).complete b x.rest x.keeps in
    let q : many _ es ≡ got c _ = ap (many _) y.here ∙ (agrees_blocks m).complete c y.rest y.keeps in
    cc

-- nothing stands behind the blocks; words 1 and 3 are 0; bs are the book's entries
pub record FrameAsk (m : ℕ) (es bs : List Entry) (work : List ℕ) : Type 0 where
  pub blocks : List BasicBlock
  pub at : BlocksAt m blocks es
  pub ends : at.rest ≡ []
  pub ready : Ready m bs work
  pub slots : (x : ℕ) → x < m → get_or work (slot_at x) 0 ≡ 0
  pub places : (x : ℕ) → x < m → get_or work (place_at x) 0 ≡ 0

-- the answer is that of `framePass`, with the slots of `slotMap`. Left free: what words 1, 3 and 7 hold where it refuses
pub record FrameDone (m : ℕ) (es bs : List Entry) (work work' : List ℕ) (r : Framing) : Type 0 where
  pub ready : Ready m bs work'
  pub kept : FrameKept m work work'
  pub few : IfOk r (λ f. f.slots ≤ 2 * length es)
  pub ends : IfOk r (λ f. f.off ≤ 2147483648)
  pub places : (blocks : List BasicBlock) → BlocksAt m blocks es → FrameSays m (frame_pass (structs_in m bs) (all_insts blocks) no_frame) work' r
  pub slots : (blocks : List BasicBlock) → BlocksAt m blocks es → (names : List (List ℕ)) → Overflows names m work
      → IfOk r (λ f. SlotsHold m (slot_map names (all_insts blocks) no_slots) work' f)

-- ---- on the way
-- the slots so far, and those of the instructions that are left
pub record SlotsSo (m : ℕ) (names : List (List ℕ)) (all left : List Inst) (work : List ℕ) (f : Frame) : Type 0 where
  pub so : Slots
  pub rest : slot_map names all no_slots ≡ slot_map names left so
  pub holds : SlotsHold m so work f

pub record Going (m : ℕ) (es bs : List Entry) (work₀ work : List ℕ) (at : ℕ) (f : Frame) : Type 0 where
  pub blocks : List BasicBlock
  pub own : BlocksAt m blocks es
  pub left : List Inst
  pub place : Scan m left (drop at es)
  pub so : Places
  pub rest : frame_pass (structs_in m bs) (all_insts blocks) no_frame ≡ frame_pass (structs_in m bs) left so
  pub says : PlacesHold m so work f
  pub slots : (names : List (List ℕ)) → Overflows names m work₀ → SlotsSo m names (all_insts blocks) left work f
  pub ready : Ready m bs work
  pub kept : FrameKept m work₀ work
  pub there : at ≤ length es
  pub few : f.slots ≤ 2 * at
  pub ends : f.off ≤ 2147483648

abbrev pub first : Frame
first = record { slots = 0; off = 0; dynamic = false }

pub going_start : {m : ℕ} {es bs : List Entry} {work : List ℕ} → FrameAsk m es bs work → Going m es bs work work 0 first
unfolding no_frame no_slots lookup
going_start {m} {es} {bs} {work} a =
    record {
      blocks = a.blocks;
      own = a.at;
      left = all_insts a.blocks;
      place = subst (Scan m (all_insts a.blocks)) (sym (a.at.here ∙ ap (λ (x : List Entry). closed enc_basic_block a.blocks ++ x) a.ends ∙ append-nil (closed enc_basic_block a.blocks)))
          (scan_blocks m a.blocks a.at.keeps);
      so = no_frame;
      rest = refl;
      says = record { off = refl; within = omega arith; dynamic = refl; words = a.places };
      slots = λ names o. record { so = no_slots; rest = refl; holds = record { count = refl; words = a.slots } };
      ready = a.ready;
      kept = kept_none;
      there = omega arith;
      few = omega arith;
      ends = omega arith;
    }

-- a place before the end of the entries
pub inside : (ks ws : List ℕ) {at end : ℕ} → end ≡ length (entries ks ws) → at < end → (at < length (entries ks ws)) × (at + 1 ≤ length ks) × (at + 1 ≤ length ws)
inside ks ws {at} e l = (omega arith, within_kinds (at + 1) ks ws (omega arith), within_words (at + 1) ks ws (omega arith))

module _ {m : ℕ} (ks ws : List ℕ) {bs : List Entry} {work₀ work : List ℕ} {at : ℕ} {f : Frame} (g : Going m (entries ks ws) bs work₀ work at f) where
  abbrev here : List Entry
  here = drop at (entries ks ws)

  -- no entry is left
  pub going_done : length (entries ks ws) ≤ at → FrameDone m (entries ks ws) bs work₀ work (Ok f)
  unfolding frame_pass slot_map
  going_done z =
      let e : g.left ≡ [] = subst (Scan m g.left) (drop_of_length-le (entries ks ws) z) g.place in
      record {
        ready = g.ready;
        kept = g.kept;
        few = omega (arith, g.few, g.there);
        ends = g.ends;
        places = λ blocks b.
            subst (λ (r : Result Places). FrameSays m r work (Ok f))
            (sym (ap (λ x. frame_pass (structs_in m bs) (all_insts x) no_frame) (same_blocks b g.own) ∙ g.rest ∙ ap (λ x. frame_pass (structs_in m bs) x g.so) e)) g.says;
        slots = λ blocks b names o.
            let s = g.slots names o in
            subst (λ (x : Slots). SlotsHold m x work f) (sym (ap (λ x. slot_map names (all_insts x) no_slots) (same_blocks b g.own) ∙ s.rest ∙ ap (λ x. slot_map names x s.so) e)) s.holds;
      }

  module _ (more : at < length (entries ks ws)) where
    -- the entry at the place, and what stands behind it
    abbrev front : Entry
    front = get_or (entries ks ws) at (entry 0 0)

    abbrev back : List Entry
    back = drop (at + 1) (entries ks ws)

    here_is : here ≡ front ∷ back
    here_is = rw (add-one, drop-cons (entries ks ws) at (entry 0 0) more) refl

    kind_is : front.kind ≡ get_or ks at 0
    unfolding kind_of
    kind_is = sym (ap kind_of here_is) ∙ kind_at_lem ks ws at more

    scanned : Scan m g.left (front ∷ back)
    scanned = subst (Scan m g.left) here_is g.place

    -- nothing was done
    skipped : Scan m g.left back → Going m (entries ks ws) bs work₀ work (at + 1) f
    skipped p =
        record {
          blocks = g.blocks;
          own = g.own;
          left = g.left;
          place = p;
          so = g.so;
          rest = g.rest;
          says = g.says;
          slots = g.slots;
          ready = g.ready;
          kept = g.kept;
          there = omega arith;
          few = omega (arith, g.few);
          ends = g.ends;
        }

    -- a step was done
    module _ (i : Inst) (next : List Inst) (split : g.left ≡ i ∷ next) (own : InstAt m i here) where
      abbrev step : Result Places
      step = frame_step (structs_in m bs) i.dest (shape i.kind) g.so

      behind : frame_pass (structs_in m bs) (all_insts g.blocks) no_frame ≡ bind step (frame_pass (structs_in m bs) next)
      unfolding frame_pass
      behind = g.rest ∙ ap (λ x. frame_pass (structs_in m bs) x g.so) split

      module _ {work' : List ℕ} where
        -- its place was refused
        barred : {e : Refusal} → Stepped m here bs work work' f (Err e) → FrameDone m (entries ks ws) bs work₀ work' (Err e)
        unfolding bind
        barred {e} s =
            record {
              ready = s.ready;
              kept = kept_then g.kept s.kept;
              few = tt;
              ends = tt;
              places = λ blocks b.
                  subst (λ (x : Result Places). FrameSays m x work' (Err e))
                  (sym (ap (λ x. frame_pass (structs_in m bs) (all_insts x) no_frame) (same_blocks b g.own) ∙ behind)) (go step (s.places i own g.so g.says));
              slots = λ blocks b names o. tt;
            }
          where
            go : (x : Result Places) → FrameSays m x work' (Err e) → FrameSays m (bind x (frame_pass (structs_in m bs) next)) work' (Err e)
            go (err n) h = h
            go (ok p) h = absurd h

        done : {t : Frame} → Stepped m here bs work work' f (Ok t) → Scan m next back → Going m (entries ks ws) bs work₀ work' (at + 1) t
        unfolding slot_map bind
        done {t} s p = go step refl (s.places i own g.so g.says)
          where
            go : (x : Result Places) → step ≡ x → FrameSays m x work' (Ok t) → Going m (entries ks ws) bs work₀ work' (at + 1) t
            go (err n) e h = absurd h
            go (ok so) e h =
                record {
                  blocks = g.blocks;
                  own = g.own;
                  left = next;
                  place = p;
                  so = so;
                  rest = behind ∙ ap (λ x. bind x (frame_pass (structs_in m bs) next)) e;
                  says = h;
                  slots = λ names o.
                      let q = g.slots names o in
                      record {
                        so = slot_step names i.dest (shape i.kind) q.so;
                        rest = q.rest ∙ ap (λ x. slot_map names x q.so) split;
                        holds = s.slots i own names (overflows_kept names g.kept o) q.so q.holds;
                      };
                  ready = s.ready;
                  kept = kept_then g.kept s.kept;
                  there = omega arith;
                  few = omega (arith, g.few, s.few);
                  ends = s.ends g.ends;
                }

    -- an instruction
    module _ (low : 40 ≤ get_or ks at 0) (high : get_or ks at 0 < 90) where
      first_here : First (λ (others : List Inst). Scan m others back) m g.left (front ∷ back)
      first_here = scanned.2 (omega (arith, kind_is)) (omega (arith, kind_is))

      inst_here : InstAt m first_here.own here
      inst_here =
          record { rest = first_here.rest; here = here_is ∙ first_here.here; keeps = first_here.keeps; few = omega (arith, g.own.few, length-drop at (entries ks ws)) }

      pub going_ask : StepAsk m f (lent ks ws at) bs work
      going_ask =
          subst (λ (es : List Entry). StepAsk m f es bs work) (sym (entries_part at ks ws))
          (record {
            inst = first_here.own;
            at = inst_here;
            ready = g.ready;
            few = omega (arith, g.few, g.own.few);
            ends = g.ends;
          })

      step_here : {work' : List ℕ} (r : Framing) → Stepped m (lent ks ws at) bs work work' f r → (q : Framing) → r ≡ q → Stepped m here bs work work' f q
      step_here {work'} r s q e = rw e at (subst (λ (es : List Entry). Stepped m es bs work work' f r) (entries_part at ks ws) s)

      pub going_inst : {work' : List ℕ} (r : Framing) → Stepped m (lent ks ws at) bs work work' f r → (t : Frame) → r ≡ Ok t → Going m (entries ks ws) bs work₀ work' (at + 1) t
      going_inst r s t e = done first_here.own first_here.others first_here.split inst_here (step_here r s (Ok t) e) first_here.behind

      pub going_barred : {work' : List ℕ} (r : Framing) → Stepped m (lent ks ws at) bs work work' f r → (x : Refusal) → r ≡ Err x → FrameDone m (entries ks ws) bs work₀ work' (Err x)
      going_barred r s x e = barred first_here.own first_here.others first_here.split inst_here (step_here r s (Err x) e)

    -- any other entry
    pub going_idle : (40 ≤ get_or ks at 0 → get_or ks at 0 < 90 → (get_or ws at 0 ≡ 0) × (get_or ks at 0 ≡ 73 → ⊥)) → Going m (entries ks ws) bs work₀ work (at + 1) f
    going_idle idle = low (ltb (get_or ks at 0) 40) refl
      where
        high : 40 ≤ get_or ks at 0 → (b : Bool) → ltb (get_or ks at 0) 90 ≡ b → Going m (entries ks ws) bs work₀ work (at + 1) f
        high l true e =
            let h = ltb-true (get_or ks at 0) 90 e in
            let w = idle l h in
            let k : get_or (drop at ks) 0 0 ≡ get_or ks at 0 = rw (get_or-drop, add-zero) refl in
            let v : get_or (drop at ws) 0 0 ≡ get_or ws at 0 = rw (get_or-drop, add-zero) refl in
            done (first_here l h).own (first_here l h).others (first_here l h).split (inst_here l h)
            (subst (λ (es : List Entry). Stepped m es bs work work f (Ok f)) (entries_drop at ks ws)
            (step_idle (drop at ks) (drop at ws) work f g.ready (v ∙ w.0) (λ q. w.1 (sym k ∙ q)))) (first_here l h).behind
        high l false e = skipped (scanned.1 (omega (arith, kind_is, ltb-false (get_or ks at 0) 90 e)))

        low : (b : Bool) → ltb (get_or ks at 0) 40 ≡ b → Going m (entries ks ws) bs work₀ work (at + 1) f
        low true e = skipped (scanned.0 (omega (arith, kind_is, ltb-true (get_or ks at 0) 40 e)))
        low false e = high (ltb-false (get_or ks at 0) 40 e) (ltb (get_or ks at 0) 90) refl
