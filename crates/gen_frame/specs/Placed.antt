-- The place of an alloca with a fixed count: its type's alignment is measured, then its size.
use Rattle.std.specs.Prelude.{ℕ, ◌+◌, ◌*◌, ◌<◌, ◌≤◌, ◌^◌, ◌≡◌, Bool, List, length, set}
use Rattle.std.proofs.Math.Path.{refl, subst}
use Rattle.std.proofs.Common.{sym, ◌∙◌, arith}
use Rattle.std.proofs.Math.Bool.{true, false}
use Rattle.std.proofs.Math.Option.{some}
use borrow.Author.Tests.{leb-true}
use Rattle.std.proofs.Math.ListN.{length-set}
use Rattle.std.proofs.Math.Seq.{get_or-set_other}
use Rattle.std.proofs.Math.Dec.{leb}
use Rattle.numbers.specs.Align.{align_up}
use Rattle.book.specs.Entry.{Entry}
use Rattle.book.specs.Ast.{Ty, StructType}
use Rattle.book.specs.Result.{Result, ok, err, bind, given}
use Rattle.book.specs.Work.{name_words, place_at}
use Rattle.layout.specs.Layout.{align_at, size_at, align_of, size_of, frame_limit}
use Rattle.layout.specs.Frame.{Places, place, with_place}
use Rattle.std.specs.Prelude.{Ok, Err, IfOk}
use Rattle.book.specs.Refusal.{number_of}
use Rattle.book.specs.declared.refusal.Refusal.{Refusal}
use Rattle.book.specs.declared.refusal.Refusal.TheVariants as refusal
use Rattle.layout_memo.specs.Measured.{Measured, bytes_of}
use Rattle.layout_memo.specs.Front.{Starts, ty_of}
use Rattle.layout_memo.specs.Work.{Ready, After, Ask, Outcome, kept_word, table_other, structs_in, sizes, aligns, align_small}
use Rattle.layout_memo.specs.Helpers.{gives_at, refused_at}
use Rattle.gen_lines.specs.Puts.{or_else}
use Rattle.gen_frame.specs.Fixed.{SmallPlace, start_of, end_of, made_by, fixed_by, fixed_words}
use Rattle.gen_frame.specs.Frames.{Framing, PlacesHold, FrameSays, PlacesKept, measured_kept, places_then, word_set, ready_set}
use Rattle.gen_frame.specs.declared.Frame.{Frame}

-- ---- the type is measured
module _ (m name : ℕ) where
  -- an alloca's type is at the front of es; bs are the book's entries
  pub record PlaceAsk (f : Frame) (es bs : List Entry) (work : List ℕ) : Type 0 where
    pub front : Starts m es
    pub ready : Ready m bs work
    pub named : name < m
    pub ends : f.off ≤ 2147483648

  -- the alignment is known
  pub record SizedAsk (align : ℕ) (f : Frame) (es bs : List Entry) (work : List ℕ) : Type 0 where
    pub ask : PlaceAsk f es bs work
    pub aligned : align ≤ 8

pub place_ask : {m name : ℕ} {f : Frame} {es bs : List Entry} {work : List ℕ} → PlaceAsk m name f es bs work → Ask m es bs work 64
place_ask k = record { front = k.front; ready = k.ready; levels = omega arith }

-- what is left of `place` when the alignment is known
unfoldable pub place_sized : List StructType → (name align : ℕ) → Ty → (count : ℕ) → Places → Result Places
place_sized structs name a ty n f = bind (size_of structs ty) (λ s. bind (frame_limit (align_up f.off a + s * n)) (λ end. ok (with_place name (align_up f.off a) end f)))

pub place_is : (structs : List StructType) (name : ℕ) (ty : Ty) (n : ℕ) (f : Places) → place structs name ty (some n) f ≡ bind (align_of structs ty) (λ a. place_sized structs name a ty n f)
unfolding place place_sized
place_is structs name ty n f = refl

-- what was done: fixed places stand as `step` says, slots as before
pub record PlaceStep (m : ℕ) (bs : List Entry) (work work' : List ℕ) (f : Frame) (r : Framing) (step : Places → Result Places) : Type 0 where
  pub ready : Ready m bs work'
  pub kept : PlacesKept m work work'
  pub slots : IfOk r (λ t. t.slots ≡ f.slots)
  pub ends : f.off ≤ 2147483648 → IfOk r (λ t. t.off ≤ 2147483648)
  pub says : (p : Places) → PlacesHold m p work f → FrameSays m (step p) work' r

module _ (m name : ℕ) where
  abbrev pub SizedDone : (align count : ℕ) (es bs : List Entry) (work work' : List ℕ) (f : Frame) (r : Framing) → Type 0
  SizedDone align count es bs work work' f r = PlaceStep m bs work work' f r (place_sized (structs_in m bs) name align (ty_of m es) count)

  abbrev pub PlaceDone : (count : ℕ) (es bs : List Entry) (work work' : List ℕ) (f : Frame) (r : Framing) → Type 0
  PlaceDone count es bs work work' f r = PlaceStep m bs work work' f r (place (structs_in m bs) name (ty_of m es) (some count))

-- the same step by another name
pub same_step : {m : ℕ} {bs : List Entry} {work work' : List ℕ} {f : Frame} {r : Framing} (one all : Places → Result Places) → ((p : Places) → all p ≡ one p)
    → PlaceStep m bs work work' f r one → PlaceStep m bs work work' f r all
same_step {m} {bs} {work} {work'} {f} {r} one all e s =
    record { ready = s.ready; kept = s.kept; slots = s.slots; ends = s.ends; says = λ p h. subst (λ (q : Result Places). FrameSays m q work' r) (sym (e p)) (s.says p h) }

-- nothing was measured
pub step_none : {m : ℕ} {bs : List Entry} {work : List ℕ} {f t : Frame} (step : Places → Result Places) → Ready m bs work → t.slots ≡ f.slots → t.off ≡ f.off
    → ((p : Places) → PlacesHold m p work f → FrameSays m (step p) work (Ok t)) → PlaceStep m bs work work f (Ok t) step
step_none step r e o s = record { ready = r; kept = record { long = refl; same = λ i a b. refl }; slots = e; ends = λ l. omega arith; says = s }

pub step_err : {m : ℕ} {bs : List Entry} {work : List ℕ} {f : Frame} {e : Refusal} (step : Places → Result Places) → Ready m bs work
    → ((p : Places) → PlacesHold m p work f → FrameSays m (step p) work (Err e)) → PlaceStep m bs work work f (Err e) step
step_err step r s = record { ready = r; kept = record { long = refl; same = λ i a b. refl }; slots = tt; ends = λ l. tt; says = s }

-- the words of places stand as before where only word 7 changed
holds_after : {m : ℕ} {bs : List Entry} {work work' : List ℕ} {p : Places} {f : Frame} → After m bs work work' → PlacesHold m p work f → PlacesHold m p work' f
holds_after a h =
    record { off = h.off; within = h.within; dynamic = h.dynamic; words = λ x l. kept_word a x 3 l (omega arith) ∙ h.words x l }

-- a measurement, then a step
then_step : {m : ℕ} {bs : List Entry} {a b c : List ℕ} {f : Frame} {r : Framing} (one all : Places → Result Places)
    → After m bs a b → PlaceStep m bs b c f r one → ((p : Places) → all p ≡ one p) → PlaceStep m bs a c f r all
then_step {m} {bs} {a} {b} {c} {f} {r} one all x y e =
    record {
      ready = y.ready;
      kept = places_then (measured_kept x.kept) y.kept;
      slots = y.slots;
      ends = y.ends;
      says = λ p h. subst (λ (q : Result Places). FrameSays m q c r) (sym (e p)) (y.says p (holds_after x h));
    }

-- a refusal while measuring
barred_step : {m : ℕ} {bs : List Entry} {work work' : List ℕ} {f : Frame} {e : Refusal} (all : Places → Result Places)
    → After m bs work work' → ((p : Places) → all p ≡ err (number_of e)) → PlaceStep m bs work work' f (Err e) all
barred_step {e = e} all a h = then_step (λ p. err (number_of e)) all a (step_err (λ p. err (number_of e)) a.ready (λ p k. refl)) h

-- one place more, when alignment and size are known
module _ (name align size count : ℕ) where
  unfoldable limited : Places → Result Places
  limited p = bind (frame_limit (align_up p.off align + size * count)) (λ end. ok (with_place name (align_up p.off align) end p))

  module _ (work : List ℕ) (f : Frame) where
    abbrev start : ℕ
    start = start_of align size count f

    abbrev end : ℕ
    end = end_of align size count f

    abbrev stored : List ℕ
    stored = set work (place_at name) (start + 1)

    holds : {m : ℕ} (p : Places) → name < m → name_words m ≤ length work → PlacesHold m p work f → end ≤ 2 ^ 31 → PlacesHold m (with_place name start end p) stored (made_by align size count f)
    unfolding with_place
    holds p named room h l = record { off = refl; within = l; dynamic = h.dynamic; words = word_set 3 (omega arith) work room name start named p.offsets h.words }

    fixed_step : {m : ℕ} {bs : List Entry} → Ready m bs work → name < m → PlaceStep m bs work (fixed_words align size count f name work) f (fixed_by align size count f) limited
    unfolding limited frame_limit given bind
    fixed_step {m} {bs} ready named = go (leb end (2 ^ 31)) refl
      where
        go : (b : Bool) → leb end (2 ^ 31) ≡ b → PlaceStep m bs work (or_else b stored work) f (or_else b (Ok (made_by align size count f)) (Err refusal.TooLarge)) limited
        go true e =
            record {
              ready = ready_set (place_at name) (start + 1) ready (λ x d. omega arith) (λ x d. omega arith) (λ k. table_other m k name 3 (omega arith) (λ z. omega arith) named);
              kept = record { long = length-set work (place_at name) (start + 1); same = λ i a b. get_or-set_other work (place_at name) i (start + 1) 0 (a name named) };
              slots = refl;
              ends = λ l. leb-true end (2 ^ 31) e;
              says = λ p h.
                  let d : limited p ≡ ok (with_place name start end p) = rw (sym h.off, e) refl in
                  subst (λ (x : Result Places). FrameSays m x stored (Ok (made_by align size count f))) (sym d) (holds p named ready.room h (leb-true end (2 ^ 31) e));
            }
        go false e =
            step_err {f = f} {e = refusal.TooLarge} limited ready
            (λ p h.
            let d : limited p ≡ err 7 = rw (sym h.off, e) refl in
            subst (λ (x : Result Places). FrameSays m x work (Err refusal.TooLarge)) (sym d) refl)

module _ (m : ℕ) (es bs : List Entry) where
  abbrev structs : List StructType
  structs = structs_in m bs

  abbrev ty : Ty
  ty = ty_of m es

  module _ (name count : ℕ) {work work' : List ℕ} {f : Frame} {q : Measured} where
    pub align_barred : {e : Refusal} → Outcome m bs work work' (aligns structs ty) 64 q → q ≡ Err e → PlaceDone m name count es bs work work' f (Err e)
    unfolding align_of bind
    align_barred {e} o d =
        let g : align_at structs 64 ty ≡ err (number_of e) = refused_at q (aligns structs ty) 64 d o.says in
        barred_step (place structs name ty (some count)) o.after (λ p. place_is structs name ty count p ∙ rw g refl)

    pub size_barred : {e : Refusal} (align : ℕ) → Outcome m bs work work' (sizes structs ty) 64 q → q ≡ Err e → SizedDone m name align count es bs work work' f (Err e)
    unfolding place_sized size_of bind
    size_barred {e} align o d =
        let g : size_at structs 64 ty ≡ err (number_of e) = refused_at q (sizes structs ty) 64 d o.says in
        barred_step (place_sized structs name align ty count) o.after (λ p. rw g refl)

    module _ {n h : ℕ} (d : q ≡ bytes_of n h) where
      -- the alignment is known
      pub align_ask : PlaceAsk m name f es bs work → Outcome m bs work work' (aligns structs ty) 64 q → SizedAsk m name n f es bs work'
      align_ask k o =
          let g = gives_at q d (aligns structs ty) 64 o.says in
          record {
            ask = record { front = k.front; ready = o.after.ready; named = k.named; ends = k.ends };
            aligned = (align_small structs ty g.within g.known).1;
          }

      pub align_done : {r : Framing} {work'' : List ℕ} → Outcome m bs work work' (aligns structs ty) 64 q → SizedDone m name n count es bs work' work'' f r → PlaceDone m name count es bs work work'' f r
      unfolding align_of bind
      align_done o s =
          let g = gives_at q d (aligns structs ty) 64 o.says in
          then_step (place_sized structs name n ty count) (place structs name ty (some count)) o.after s
          (λ p. place_is structs name ty count p ∙ rw (g.known.high 64 g.within) refl)

      -- the size is known
      pub size_ask : (align : ℕ) → SizedAsk m name align f es bs work → Outcome m bs work work' (sizes structs ty) 64 q → SmallPlace name align f work'
      size_ask align k o =
          record {
            room = omega (arith, k.ask.named, o.after.ready.room);
            ends = k.ask.ends;
            aligned = k.aligned;
          }

      pub size_done : (align : ℕ) {r : Framing} {work'' : List ℕ} → SizedAsk m name align f es bs work → Outcome m bs work work' (sizes structs ty) 64 q
          → (r ≡ fixed_by align n count f) × (work'' ≡ fixed_words align n count f name work') → SizedDone m name align count es bs work work'' f r
      unfolding place_sized limited size_of bind
      size_done align k o (er, ew) =
          let g = gives_at q d (sizes structs ty) 64 o.says in
          then_step (limited name align n count) (place_sized structs name align ty count) o.after
          (rw (er, ew) (fixed_step name align n count _ f o.after.ready k.ask.named))
          (λ p. rw (g.known.high 64 g.within) refl)
