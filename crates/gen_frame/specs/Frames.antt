-- What the frame pass has reached, in its answer and in the work words: word 1 of a name holds its slot, word 3 where its fixed place starts, each with 1 added.
use Rattle.std.specs.Prelude.{ℕ, ◌+◌, ◌<◌, ◌≤◌, ◌^◌, ◌≡◌, Bool, List, ◌∷◌, set, leb}
use Rattle.std.proofs.Math.Path.{refl}
use Rattle.std.proofs.Common.{sym, ap, ◌∙◌, length-set, get_or-set_same}
use Rattle.std.proofs.Math.Bool.{true, false}
use native.Mathlib.Omega.{arith}
use Rattle.std.proofs.Math.Numerals.{add-one}
use borrow.Author.Tests.{eqb-true, eqb-false}
use Rattle.std.proofs.Math.ListN.{length, get_or}
use Rattle.std.proofs.Math.Seq.{get_or-set_other}
use Rattle.std.proofs.Math.Dec.{eqb}
use Rattle.names.specs.Name.{name_at}
use Rattle.names.specs.Spelling.{has_overflow}
use Rattle.std.specs.Prelude.{Result as Answer, Ok, Err}
use Rattle.book.specs.Refusal.{number_of}
use Rattle.book.specs.declared.refusal.Refusal.{Refusal}
use Rattle.book.specs.Entry.{Entry}
use Rattle.book.specs.Result.{Result, ok, err}
use Rattle.book.specs.Map.{Map, lookup}
use Rattle.book.specs.Work.{name_words, slot_at, place_at, body_at, mark_at, measured_at, word_at}
use Rattle.layout.specs.Frame.{Places}
use Rattle.layout_memo.specs.Work.{Ready, Kept, Settled, settled_word, table_at, facts_kept}
use Rattle.lowering.specs.Context.{Slots}
use Rattle.gen_values.specs.Maps.{numbered}
use Rattle.gen_frame.specs.declared.Frame.{Frame}

-- ---- answers
-- a refusal with the number e is told: it is not 0
pub record Barred (e told : ℕ) : Type 0 where
  pub positive : 0 < e
  pub number : told ≡ e

pub not_told : {A : Type 0} {e told : ℕ} → Barred e told → told ≡ 0 → A
not_told b z = absurd (omega (arith, b.positive, b.number))

-- no test holds and fails
pub never : {A : Type 0} {b : Bool} → b ≡ true → b ≡ false → A
never p q = absurd (let z : ◌≡◌ {A = ℕ} 0 1 = cc in omega arith)

-- what the pass has reached, or why a place was refused
abbrev pub Framing : Type 0
Framing = Answer Frame Refusal

abbrev pub dynamic_by : Frame → Frame
dynamic_by f = record { slots = f.slots; off = f.off; dynamic = true }

-- ---- slots
pub record SlotsHold (m : ℕ) (s : Slots) (work : List ℕ) (f : Frame) : Type 0 where
  pub count : f.slots ≡ s.num
  pub words : (x : ℕ) → x < m → get_or work (slot_at x) 0 ≡ numbered (lookup x s.slots)

-- word 5 of a name says whether it contains `.with.overflow.`
abbrev pub Overflows : List (List ℕ) → ℕ → List ℕ → Type 0
Overflows names m work = (x : ℕ) → x < m → leb 4 (get_or work (mark_at x) 0) ≡ has_overflow (name_at names x)

-- ---- fixed places
pub record PlacesHold (m : ℕ) (p : Places) (work : List ℕ) (f : Frame) : Type 0 where
  pub off : f.off ≡ p.off
  pub within : p.off ≤ 2 ^ 31
  pub dynamic : f.dynamic ≡ p.dynamic
  pub words : (x : ℕ) → x < m → get_or work (place_at x) 0 ≡ numbered (lookup x p.offsets)

abbrev pub FrameSays : ℕ → Result Places → List ℕ → Framing → Type 0
FrameSays m (ok p) work (Ok f) = PlacesHold m p work f
FrameSays m (ok p) work (Err e) = ⊥
FrameSays m (err n) work (Ok f) = ⊥
FrameSays m (err n) work (Err e) = number_of e ≡ n

-- ---- what is left as it was
-- words 3 may have changed, and those of measuring
pub record PlacesKept (m : ℕ) (work work' : List ℕ) : Type 0 where
  pub long : length work' ≡ length work
  pub same : (i : ℕ) → ((x : ℕ) → x < m → i ≡ place_at x → ⊥) → Settled m i → get_or work' i 0 ≡ get_or work i 0

-- words 1 and 3 may have changed, and those of measuring
pub record FrameKept (m : ℕ) (work work' : List ℕ) : Type 0 where
  pub long : length work' ≡ length work
  pub same : (i : ℕ) → ((x : ℕ) → x < m → i ≡ slot_at x → ⊥) → ((x : ℕ) → x < m → i ≡ place_at x → ⊥) → Settled m i → get_or work' i 0 ≡ get_or work i 0

module _ {m : ℕ} where
  pub measured_kept : {work work' : List ℕ} → Kept m work work' → PlacesKept m work work'
  measured_kept k = record { long = k.long; same = λ i a b. k.same i b }

  pub places_then : {a b c : List ℕ} → PlacesKept m a b → PlacesKept m b c → PlacesKept m a c
  places_then p q = record { long = q.long ∙ p.long; same = λ i x y. q.same i x y ∙ p.same i x y }

  pub kept_places : {work work' : List ℕ} → PlacesKept m work work' → FrameKept m work work'
  kept_places k = record { long = k.long; same = λ i a b c. k.same i b c }

  pub kept_none : {work : List ℕ} → FrameKept m work work
  kept_none = record { long = refl; same = λ i a b c. refl }

  pub kept_then : {a b c : List ℕ} → FrameKept m a b → FrameKept m b c → FrameKept m a c
  kept_then p q = record { long = q.long ∙ p.long; same = λ i x y z. q.same i x y z ∙ p.same i x y z }

  pub overflows_kept : (names : List (List ℕ)) {work work' : List ℕ} → FrameKept m work work' → Overflows names m work → Overflows names m work'
  overflows_kept names k o x l = ap (leb 4) (k.same (mark_at x) (λ y _ e. omega arith) (λ y _ e. omega arith) (settled_word x 5 l (omega arith))) ∙ o x l

-- ---- a word of a name is set
-- a map's word j of each name, with one entry more
module _ (j : ℕ) (small : j < 8) {m : ℕ} (work : List ℕ) (room : name_words m ≤ length work) (x v : ℕ) (named : x < m) (map : Map ℕ) where
  pub word_set : ((y : ℕ) → y < m → get_or work (word_at y j) 0 ≡ numbered (lookup y map)) → (y : ℕ) → y < m → get_or (set work (word_at x j) (v + 1)) (word_at y j) 0 ≡ numbered (lookup y ((x, v) ∷ map))
  unfolding lookup
  word_set h y l = go (eqb y x) refl
    where
      go : (b : Bool) → eqb y x ≡ b → get_or (set work (word_at x j) (v + 1)) (word_at y j) 0 ≡ numbered (lookup y ((x, v) ∷ map))
      go true e =
          let q = eqb-true y x e in
          let f : word_at x j < length work = omega arith in
          rw (e, q) (get_or-set_same work (word_at x j) (v + 1) 0 f ∙ add-one v)
      go false e =
          let q = eqb-false y x e in
          rw (e, get_or-set_other work (word_at x j) (word_at y j) (v + 1) 0 (λ z. q (omega arith))) (h y l)

-- the words of measuring, of bodies and of the table are left
pub ready_set : {m : ℕ} {bs : List Entry} {work : List ℕ} (i v : ℕ) → Ready m bs work → ((x : ℕ) → i ≡ body_at x → ⊥) → ((x : ℕ) → i ≡ measured_at x → ⊥) → ((k : ℕ) → table_at m k ≡ i → ⊥) → Ready m bs (set work i v)
ready_set {m} {bs} {work} i v r a b t =
    record {
      room = omega (arith, r.room, length-set work i v);
      bodies = λ x l. rw (get_or-set_other work i (body_at x) v 0 (λ e. a x (sym e))) (r.bodies x l);
      known = λ x l. rw (get_or-set_other work i (measured_at x) v 0 (λ e. b x (sym e))) (r.known x l);
      facts = facts_kept (set work i v) r (λ k. get_or-set_other work i (table_at m k) v 0 (t k));
      few = r.few;
    }
