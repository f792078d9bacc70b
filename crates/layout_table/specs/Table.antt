-- Facts about the fields of structs and the alignments of types in the work words: how they are read and stored.
use Rattle.std.specs.Prelude.{ℕ, ◌+◌, ◌-◌, ◌*◌, ◌/◌, ◌%◌, ◌<◌, ◌≤◌, ◌^◌, min, ◌≡◌, ◌⊎◌, Bool, true, false, cond, ◌&&◌, List, eqb, leb, get_or, drop, set}
use Rattle.std.proofs.Math.Path.{refl}
use Rattle.std.proofs.Common.{sym, ap, ◌∙◌, inl, inr, ⊎_elim, mod-eq_of_lt, mul-le-mul, zero-add, arith, length-set, length-drop, get_or-set_same, get_or-set_other}
use Rattle.std.proofs.Math.Nat.{add-mul-mod_self_right, mul-add-mod_self_right}
use Rattle.std.specs.Int.Bits.{bit_and}
use Rattle.std.proofs.lemmas.Nat.{and_le_r}
use Rattle.std.proofs.Math.ListN.{length}
use borrow.Author.Tests.{eqb-true, eqb-false, leb-true, le-leb, lt-leb}
use Rattle.book.specs.Entry.{Entry}
use Rattle.book.specs.Check.{work_for}
use Rattle.book.specs.Work.{fact_at, word_at}
use Rattle.layout_memo.specs.Front.{Starts, StartsFields, fields_there}
use Rattle.layout_memo.specs.Work.{Ready, After, after_none, FieldFact, AlignFact, FactWords, table_at, table_word, table_other}
use Rattle.layout_memo.specs.Calls.{starts_length}
use Rattle.layout_table.specs.declared.Known.{Known}

-- what is known of a struct whose first field stands at p
abbrev pub FactOf : (m : ℕ) (es : List Entry) (packed : Bool) (p : ℕ) → Known → Type 0
FactOf m es packed p k = FieldFact m es packed p k.index k.at k.offset

-- behind no fields
abbrev pub no_fields : ℕ → Known
no_fields p = record { index = 0; at = p; offset = 0 }

-- what is asked about the struct
pub record AskFieldsAt (m : ℕ) (es : List Entry) (work : List ℕ) (at : ℕ) : Type 0 where
  pub front : StartsFields m (drop at es)
  pub there : at ≤ length es
  pub ready : Ready m es work

module _ {m : ℕ} {es : List Entry} {work : List ℕ} {p : ℕ} (k : AskFieldsAt m es work p) where
  pub fields_below : p < length es
  fields_below = omega (arith, fields_there k.front, length-drop p es)

  pub fact_none : (packed : Bool) → FieldFact m es packed p 0 p 0
  fact_none packed =
      record { fields = k.front; there = fields_below; later = omega arith; small = omega arith; places = λ i. rw (zero-add i) refl; offsets = λ i. rw (zero-add i) refl }

-- ---- the words of a fact
-- the first word of a fact about a struct
pub record KeyOf (packed : Bool) (place index key : ℕ) : Type 0 where
  pub some : key ≡ 0 → ⊥
  pub low : key < 2 ^ 43
  pub packing : eqb ((key - 1) % 2) 1 ≡ packed
  pub start : (key - 1) / 2 % 1048576 ≡ place
  pub field : (key - 1) / 2097152 ≡ index

module _ (place index : ℕ) (l : place < 1048576) (h : index < 1048576) where
  start_of : (k : ℕ) → k / 2 ≡ index * 1048576 + place → k / 2 % 1048576 ≡ place
  start_of k e = ap (λ (j : ℕ). j % 1048576) e ∙ mul-add-mod_self_right index 1048576 place ∙ mod-eq_of_lt l

  pub key_packed : (packed : Bool) → packed ≡ true → KeyOf packed place index (index * 2097152 + place * 2 + 2)
  key_packed packed e =
      let x : index * 2097152 + place * 2 + 2 - 1 ≡ 1 + (index * 1048576 + place) * 2 = omega arith in
      let d : (index * 2097152 + place * 2 + 2 - 1) % 2 ≡ 1 = ap (λ (k : ℕ). k % 2) x ∙ add-mul-mod_self_right 1 (index * 1048576 + place) 2 in
      record { some = λ z. omega arith; low = omega arith; packing = rw (d, e) refl; start = start_of _ (omega arith); field = omega arith }

  pub key_free : (packed : Bool) → packed ≡ false → KeyOf packed place index (index * 2097152 + place * 2 + 1)
  key_free packed e =
      let x : index * 2097152 + place * 2 + 1 - 1 ≡ 0 + (index * 1048576 + place) * 2 = omega arith in
      let d : (index * 2097152 + place * 2 + 1 - 1) % 2 ≡ 0 = ap (λ (k : ℕ). k % 2) x ∙ add-mul-mod_self_right 0 (index * 1048576 + place) 2 in
      record { some = λ z. omega arith; low = omega arith; packing = rw (d, e) refl; start = start_of _ (omega arith); field = omega arith }

-- the second word of a fact
pub record ValueOf (q off value : ℕ) : Type 0 where
  pub place : value / 33554432 ≡ q
  pub offset : value % 33554432 ≡ off

pub value_is : (q off : ℕ) → off ≤ 16777216 → ValueOf q off (q * 33554432 + off)
value_is q off l =
    let h : off < 33554432 = omega arith in
    record { place = omega arith; offset = mul-add-mod_self_right q 33554432 off ∙ mod-eq_of_lt h }

-- the two words of a right fact
pub words_right : (m : ℕ) (es : List Entry) (packed : Bool) (p j q off key value : ℕ) → KeyOf packed p j key → ValueOf q off value → FieldFact m es packed p j q off → FactWords m es key value
words_right m es packed p j q off key value k v f = record { field = λ z l. rw (k.packing, k.start, k.field, v.place, v.offset) f; align = λ l. absurd (omega (arith, k.low)) }

-- and those of an alignment
abbrev pub align_key : ℕ → ℕ
align_key place = 2 ^ 43 + place

pub align_words : (m : ℕ) (es : List Entry) (place a key : ℕ) → key ≡ align_key place → AlignFact m es place a → FactWords m es key a
align_words m es place a key e f =
    let d : key - 2 ^ 43 ≡ place = omega arith in
    record { field = λ z l. absurd (omega arith); align = λ l. rw d f }

-- ---- how many facts the table has room for: two words each, of one word for each name and those behind what a translation wants
unfoldable pub room_for : (length m : ℕ) → ℕ
room_for length m = cond (leb m 1048576 && leb (work_for m) length) (min (2 ^ 32) ((length - work_for m) / 2 + m / 2)) 0

module _ (length m : ℕ) where
  pub room_over : 1048576 < m → 0 ≡ room_for length m
  unfolding room_for
  room_over h = rw (lt-leb m 1048576 h) refl

  module _ (few : m ≤ 1048576) where
    pub room_short : length < work_for m → 0 ≡ room_for length m
    unfolding room_for
    room_short h = rw (le-leb m 1048576 few, lt-leb (work_for m) length h) refl

    pub room_there : work_for m ≤ length → (r : ℕ) → r ≡ min (2 ^ 32) ((length - work_for m) / 2 + m / 2) → r ≡ room_for length m
    unfolding room_for
    room_there h r e = rw (le-leb m 1048576 few, le-leb (work_for m) length h) e

pub room_few : (length m r : ℕ) → r ≡ room_for length m → 1 ≤ r → (m ≤ 2 ^ 40) × (r ≤ 2 ^ 32)
unfolding room_for
room_few length m r e l = go (leb m 1048576) refl (leb (work_for m) length) e
  where
    go : (a : Bool) → leb m 1048576 ≡ a → (b : Bool) → r ≡ cond (a && b) (min (2 ^ 32) ((length - work_for m) / 2 + m / 2)) 0 → (m ≤ 2 ^ 40) × (r ≤ 2 ^ 32)
    go true q true e = (omega (arith, leb-true m 1048576 q), omega arith)
    go true q false e = absurd (omega arith)
    go false q b e = absurd (omega arith)

-- ---- looking for a fact
-- a word that stands behind a key in the table
abbrev pub Probed : (m : ℕ) (work : List ℕ) (key r : ℕ) → Type 0
Probed m work key r = (k : ℕ) × ((get_or work (table_at m (2 * k)) 0 ≡ key) × (get_or work (table_at m (2 * k + 1)) 0 ≡ r))

pub probed_at : (m : ℕ) (work : List ℕ) (key slot at behind : ℕ) → at ≡ table_at m (2 * slot) → behind ≡ table_at m (2 * slot + 1) → get_or work at 0 ≡ key → Probed m work key (get_or work behind 0)
probed_at m work key slot at behind ea eb e = (slot, (rw (← ea) e, rw (← eb) refl))

-- a right fact about a struct with at most so many fields before it
pub record Best (m : ℕ) (es : List Entry) (packed : Bool) (p index : ℕ) (r : Known) : Type 0 where
  pub fact : FactOf m es packed p r
  pub before : r.index ≤ index

pub best_none : {m : ℕ} {es : List Entry} {work : List ℕ} {p : ℕ} → AskFieldsAt m es work p → (packed : Bool) (index : ℕ) (r : Known) → r ≡ no_fields p → Best m es packed p index r
best_none k packed index r e = rw e (record { fact = fact_none k packed; before = omega arith })

-- what is asked to find a fact
pub record AskFind (m : ℕ) (es : List Entry) (work : List ℕ) (p index : ℕ) : Type 0 where
  pub ask : AskFieldsAt m es work p
  pub few : index < 1048576

module _ {m : ℕ} {es : List Entry} {work : List ℕ} {p index : ℕ} (k : AskFind m es work p index) (packed : Bool) where
  pub find_place : p < 1048576
  find_place = omega (arith, fields_below k.ask, k.ask.ready.few)

  pub find_probed : (j key value : ℕ) → KeyOf packed p j key → Probed m work key value → FieldFact m es packed p j (value / 33554432) (value % 33554432)
  find_probed j key value c f =
      let g = (k.ask.ready.facts f.0).field (λ z. c.some (sym f.1.0 ∙ z)) (rw f.1.0 c.low) in
      rw (f.1.0, f.1.1, c.packing, c.start, c.field) at g

  pub find_here : (j key value : ℕ) → KeyOf packed p j key → Probed m work key value → j ≤ index
      → Best m es packed p index (record { index = j; at = value / 33554432; offset = value % 33554432 })
  find_here j key value c f l = record { fact = find_probed j key value c f; before = l }

-- what is asked about the type at a place
pub record AskTypeAt (m : ℕ) (es : List Entry) (work : List ℕ) (p : ℕ) : Type 0 where
  pub front : Starts m (drop p es)
  pub ready : Ready m es work

module _ {m : ℕ} {es : List Entry} {work : List ℕ} {p : ℕ} (k : AskTypeAt m es work p) where
  pub type_below : p < length es
  type_below = omega (arith, starts_length k.front, length-drop p es)

  pub type_place : p < 1048576
  type_place = omega (arith, type_below, k.ready.few)

  pub align_probed : (key r : ℕ) → key ≡ align_key p → Probed m work key r → AlignFact m es p r
  align_probed key r e f =
      let d : key - 2 ^ 43 ≡ p = omega arith in
      let l : 2 ^ 43 ≤ key = omega arith in
      let g = (k.ready.facts f.0).align (rw f.1.0 l) in
      rw (f.1.0, f.1.1, d) at g

-- the lowest set bit is taken off
pub bit_less : (j : ℕ) → (j ≡ 0 → ⊥) → bit_and j (j - 1) < j
bit_less j z = omega (arith, and_le_r j (j - 1))

-- ---- storing a fact
-- what is asked to store a fact, or to go on from it
pub record AskNote (m : ℕ) (es : List Entry) (work : List ℕ) (packed : Bool) (p : ℕ) (k : Known) : Type 0 where
  pub ready : Ready m es work
  pub fact : FactOf m es packed p k

-- and to store an alignment
pub record AskNoteAlign (m : ℕ) (es : List Entry) (work : List ℕ) (p a : ℕ) : Type 0 where
  pub ask : AskTypeAt m es work p
  pub fact : AlignFact m es p a

-- ---- slots
module _ (x n : ℕ) (l : x < 2 ^ 32) (h : n ≤ 2 ^ 32) where
  slot_most : x * n ≤ 4294967295 * 2 ^ 32
  slot_most = let k : x ≤ 4294967295 = omega arith in mul-le-mul k h

  pub slot_product : x * n < 2 ^ 64
  slot_product = omega (arith, slot_most)

  pub slot_small : x * n / 4294967296 ≤ 2 ^ 32
  slot_small = omega (arith, slot_most)

pub table_name : (m i : ℕ) → i < m → fact_at i ≡ table_at m i
table_name m i l = ⊎_elim (λ t. sym t.1) (λ t. absurd (omega (arith, t.0))) (table_word m i)

pub table_behind : (m i : ℕ) → m ≤ i → 7 * m + 64 + i ≡ table_at m i
table_behind m i l = ⊎_elim (λ t. absurd (omega (arith, t.0))) (λ t. sym t.1) (table_word m i)

-- the table's words stand apart
pub table_one : (m i j : ℕ) → table_at m i ≡ table_at m j → i ≡ j
table_one m i j e =
    ⊎_elim
    (λ a. ⊎_elim (λ b. omega (arith, a.0, a.1, b.0, b.1)) (λ b. omega (arith, a.0, a.1, b.0, b.1)) (table_word m j))
    (λ a. ⊎_elim (λ b. omega (arith, a.0, a.1, b.0, b.1)) (λ b. omega (arith, a.0, a.1, b.0, b.1)) (table_word m j))
    (table_word m i)

module _ {m : ℕ} {es : List Entry} {work : List ℕ} (n key value : ℕ) (r : Ready m es work) (f : FactWords m es key value)
    (a : table_at m (2 * n) < length work) (b : table_at m (2 * n + 1) < length work) where
  abbrev pub stored : List ℕ
  stored = set (set work (table_at m (2 * n)) key) (table_at m (2 * n + 1)) value

  other : (i : ℕ) → (i ≡ table_at m (2 * n) → ⊥) → (i ≡ table_at m (2 * n + 1) → ⊥) → get_or stored i 0 ≡ get_or work i 0
  other i p q = get_or-set_other (set work (table_at m (2 * n)) key) (table_at m (2 * n + 1)) i value 0 q ∙ get_or-set_other work (table_at m (2 * n)) i key 0 p

  word : (x j : ℕ) → j < 8 → (j ≡ 6 → ⊥) → x < m → get_or stored (word_at x j) 0 ≡ get_or work (word_at x j) 0
  word x j l h lx = other (word_at x j) (λ e. table_other m (2 * n) x j l h lx (sym e)) (λ e. table_other m (2 * n + 1) x j l h lx (sym e))

  key_there : get_or stored (table_at m (2 * n)) 0 ≡ key
  key_there =
      get_or-set_other (set work (table_at m (2 * n)) key) (table_at m (2 * n + 1)) (table_at m (2 * n)) value 0 (λ e. let z = table_one m (2 * n) (2 * n + 1) e in omega arith)
      ∙ get_or-set_same work (table_at m (2 * n)) key 0 a

  value_there : get_or stored (table_at m (2 * n + 1)) 0 ≡ value
  value_there = get_or-set_same (set work (table_at m (2 * n)) key) (table_at m (2 * n + 1)) value 0 (omega (arith, length-set work (table_at m (2 * n)) key))

  facts : (k : ℕ) → FactWords m es (get_or stored (table_at m (2 * k)) 0) (get_or stored (table_at m (2 * k + 1)) 0)
  facts k = go (eqb k n) refl
    where
      go : (t : Bool) → eqb k n ≡ t → FactWords m es (get_or stored (table_at m (2 * k)) 0) (get_or stored (table_at m (2 * k + 1)) 0)
      go true e = rw (eqb-true k n e, key_there, value_there) f
      go false e =
          let d = eqb-false k n e in
          rw (
            other (table_at m (2 * k)) (λ z. d (let y = table_one m (2 * k) (2 * n) z in omega arith)) (λ z. let y = table_one m (2 * k) (2 * n + 1) z in omega arith),
            other (table_at m (2 * k + 1)) (λ z. let y = table_one m (2 * k + 1) (2 * n) z in omega arith) (λ z. d (let y = table_one m (2 * k + 1) (2 * n + 1) z in omega arith)),
          ) (r.facts k)

  -- a right fact may stand anywhere in the table
  pub after_note : After m es work stored
  after_note =
      record {
        ready = record {
          room = omega (arith, r.room, length-set work (table_at m (2 * n)) key, length-set (set work (table_at m (2 * n)) key) (table_at m (2 * n + 1)) value);
          bodies = λ x l. rw (word x 4 (omega arith) (λ z. omega arith) l) (r.bodies x l);
          known = λ x l. rw (word x 7 (omega arith) (λ z. omega arith) l) (r.known x l);
          facts = facts;
          few = r.few;
        };
        kept = record {
          long = length-set (set work (table_at m (2 * n)) key) (table_at m (2 * n + 1)) value ∙ length-set work (table_at m (2 * n)) key;
          same = λ i s. other i (λ e. s.table (2 * n) (sym e)) (λ e. s.table (2 * n + 1) (sym e));
        };
      }

-- two words of the table are stored, or none
pub record StoredAt (m : ℕ) (work work' : List ℕ) (key value : ℕ) : Type 0 where
  pub slot : ℕ
  pub first : table_at m (2 * slot) < length work
  pub second : table_at m (2 * slot + 1) < length work
  pub same : work' ≡ set (set work (table_at m (2 * slot)) key) (table_at m (2 * slot + 1)) value

abbrev pub Stored : (m : ℕ) (work work' : List ℕ) (key value : ℕ) → Type 0
Stored m work work' key value = (work' ≡ work) ⊎ StoredAt m work work' key value

pub store_both : (m : ℕ) (work : List ℕ) (slot at behind key value : ℕ) → at ≡ table_at m (2 * slot) → behind ≡ table_at m (2 * slot + 1) → at < length work → behind < length work
    → Stored m work (set (set work at key) behind value) key value
store_both m work slot at behind key value ea eb la lb = inr (record { slot = slot; first = rw (← ea) la; second = rw (← eb) lb; same = rw (ea, eb) refl })

pub stored_after : {m : ℕ} {es : List Entry} {work work' : List ℕ} {key value : ℕ} → Ready m es work → FactWords m es key value → Stored m work work' key value → After m es work work'
stored_after r f (inl e) = rw e (after_none r)
stored_after {key = key} {value = value} r f (inr s) = rw s.same (after_note s.slot key value r f s.first s.second)

pub field_stored : {m : ℕ} {es : List Entry} {work work' : List ℕ} {packed : Bool} {p key value : ℕ} (k : Known) → AskNote m es work packed p k → KeyOf packed p k.index key
    → ValueOf k.at k.offset value → Stored m work work' key value → After m es work work'
field_stored {m} {es} {packed = packed} {p = p} {key = key} {value = value} k a c v s =
    stored_after a.ready (words_right m es packed p k.index k.at k.offset key value c v a.fact) s

pub align_stored : {m : ℕ} {es : List Entry} {work work' : List ℕ} {p a : ℕ} (key : ℕ) → key ≡ align_key p → AskNoteAlign m es work p a → Stored m work work' key a → After m es work work'
align_stored {m} {es} {p = p} {a = a} key e k s = stored_after k.ask.ready (align_words m es p a key e k.fact) s

module _ {m : ℕ} {es : List Entry} {work : List ℕ} {packed : Bool} {p : ℕ} {k : Known} (a : AskNote m es work packed p k) where
  pub note_place : p < 1048576
  note_place = omega (arith, a.fact.later, a.fact.there, a.ready.few)

  pub note_to : k.at < 1048576
  note_to = omega (arith, a.fact.there, a.ready.few)
