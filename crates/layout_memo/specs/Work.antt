-- The work words of measuring. A name has 8 words; the name x has those from 8 * x on:
--   0 parameter   1 slot   2 block   3 fixed place   4 struct body   5 mark   6 table of fields   7 measuring
-- Word 4 is one more than the place of the struct's body among the book's entries, 0 where the name has none. Word 7 has the size in its upper
-- 32 bits and the alignment in its lower ones, each as 128 * bytes + levels, 0 where it is not measured yet. The table of fields is made of the words 6
-- and of all words behind the 64 that a getelementptr's varying terms take.
use Rattle.std.specs.Prelude.{ℕ, ◌+◌, ◌-◌, ◌*◌, ◌/◌, ◌%◌, ◌<◌, ◌≤◌, ◌^◌, ◌≡◌, refl, ◌⊎◌, Bool, true, false, cond, List, [], leb, ltb, eqb, length, get_or, drop, set}
use Rattle.std.proofs.Common.{subst, ◌∙◌, inl, inr, ⊎_elim, arith, length-set, get_or-set_same, get_or-set_other, eqb-true, leb-true, leb-false, lt-ltb, le-ltb}
use Rattle.std.proofs.Math.Option.{Option, none, some}
use Rattle.std.proofs.lemmas.Bool.{eqb-false}
use Rattle.numbers.specs.Tests.{lt_or_le}
use Rattle.book.specs.Entry.{Entry}
use Rattle.book.specs.Ast.{Ty, StructBody, StructType, Book}
use Rattle.book.specs.Decode.{decode}
use Rattle.book.specs.Result.{Result, ok, err}
use Rattle.book.specs.Work.{body_at, fact_at, measured_at, name_words, param_at, word_at}
use Rattle.book.specs.Check.{work_for}
use Rattle.layout.specs.Layout.{as_type, resolve, align_at, size_at, align_of, size_of, offset_from}
use Rattle.layout.specs.Step.{field_at}
use Rattle.layout.specs.Natural.{Natural, one, two, four, eight, align_of_natural}
use Rattle.layout.proofs.Limit.{size_of_limit}
use Rattle.std.specs.Prelude.{Ok, Err}
use Rattle.book.specs.declared.refusal.Refusal.TheVariants as refusal
use Rattle.layout_memo.specs.Measured.{Measured, bytes_of, result_of, Known, Measures, measures_result}
use Rattle.layout_memo.specs.Front.{Starts, StartsFields, ty_of, tys_of}

-- the structs of the book
abbrev pub structs_or : Option Book → List StructType
structs_or none = []
structs_or (some b) = b.structs

unfoldable pub structs_in : ℕ → List Entry → List StructType
structs_in m es = structs_or (decode m es)

-- ---- word 4
module _ (structs : List StructType) where
  -- the body of the struct x stands at the place p
  pub record BodyAt (m : ℕ) (es : List Entry) (x p : ℕ) : Type 0 where
    pub body : StructBody
    pub resolved : resolve structs x ≡ ok body
    pub front : Starts m (drop p es)
    pub same : ty_of m (drop p es) ≡ as_type body
    pub there : p ≤ length es

  -- the word w says where it stands
  pub record Placed (m : ℕ) (es : List Entry) (x w : ℕ) : Type 0 where
    pub absent : w ≡ 0 → resolve structs x ≡ err 6
    pub present : (w ≡ 0 → ⊥) → BodyAt m es x (w - 1)

-- ---- word 7
abbrev pub size_part : ℕ → ℕ
size_part w = w / 2 ^ 32

abbrev pub align_part : ℕ → ℕ
align_part w = w % 2 ^ 32

-- a part that is not 0 is right
pub record Recalls (f : ℕ → Result ℕ) (part : ℕ) : Type 0 where
  pub right : (part ≡ 0 → ⊥) → Known f (part / 128) (part % 128)

module _ (structs : List StructType) where
  -- the measures of a type, by the allowance
  abbrev pub sizes : Ty → ℕ → Result ℕ
  sizes t k = size_at structs k t

  abbrev pub aligns : Ty → ℕ → Result ℕ
  aligns t k = align_at structs k t

  -- the word w of the struct x is right
  pub record Remembered (x w : ℕ) : Type 0 where
    pub align : Recalls (aligns (Ty.named_struct x)) (align_part w)
    pub size : Recalls (sizes (Ty.named_struct x)) (size_part w)

-- ---- the table of fields
-- where the table's word i stands: word 6 of the name i, or behind the terms
unfoldable pub table_at : ℕ → ℕ → ℕ
table_at m i = cond (ltb i m) (fact_at i) (7 * m + 64 + i)

-- a table word is word 6 of a name or stands behind the terms
pub table_word : (m i : ℕ) → ((i < m) × (table_at m i ≡ fact_at i)) ⊎ ((m ≤ i) × (table_at m i ≡ 7 * m + 64 + i))
unfolding table_at
table_word m i = ⊎_elim (λ l. inl (l, rw (lt-ltb i m l) refl)) (λ l. inr (l, rw (le-ltb i m l) refl)) (lt_or_le i m)

-- the word 8 * x + j of a name, j not 6, and the words of terms are none of the table's
pub table_other : (m i x j : ℕ) → j < 8 → (j ≡ 6 → ⊥) → x < m → table_at m i ≡ word_at x j → ⊥
table_other m i x j l n lx e = ⊎_elim (λ t. n (omega (arith, t.0, t.1))) (λ t. omega (arith, t.0, t.1)) (table_word m i)

pub table_term : (m i k : ℕ) → name_words m ≤ k → k < work_for m → table_at m i ≡ k → ⊥
table_term m i k l h e = ⊎_elim (λ t. omega (arith, t.0, t.1)) (λ t. omega (arith, t.0, t.1)) (table_word m i)

-- what a fact says. Behind j fields of the struct whose first field stands at p, the fields from q on are left, and `off` bytes are taken
module _ (m : ℕ) (es : List Entry) where
  pub record FieldFact (packed : Bool) (p j q off : ℕ) : Type 0 where
    pub fields : StartsFields m (drop q es)
    pub there : q < length es
    pub later : p ≤ q
    pub small : off ≤ 16777216
    pub places : (i : ℕ) → field_at (tys_of m (drop p es)) (j + i) ≡ field_at (tys_of m (drop q es)) i
    pub offsets : (i : ℕ) → offset_from (align_of (structs_in m es)) (size_of (structs_in m es)) packed (tys_of m (drop p es)) (j + i) 0
        ≡ offset_from (align_of (structs_in m es)) (size_of (structs_in m es)) packed (tys_of m (drop q es)) i off

  -- or: the type at the place has this alignment
  pub record AlignFact (place a : ℕ) : Type 0 where
    pub aligned : align_of (structs_in m es) (ty_of m (drop place es)) ≡ ok a

  -- two words of the table. The first is 0 for no fact. Below 2^43 it is, for a field, one more than whether the struct is packed, with p in the 20 bits
  -- above it and j above p; the second has `off` in its lower 25 bits and q above it. From 2^43 on it is, for an alignment, the place behind 2^43, and the
  -- second is the alignment
  pub record FactWords (key value : ℕ) : Type 0 where
    pub field : (key ≡ 0 → ⊥) → key < 2 ^ 43
        → FieldFact (eqb ((key - 1) % 2) 1) ((key - 1) / 2 % 1048576) ((key - 1) / 2097152) (value / 33554432) (value % 33554432)
    pub align : 2 ^ 43 ≤ key → AlignFact (key - 2 ^ 43) value

-- ---- the words of all names
module _ (m : ℕ) (es : List Entry) where
  pub record Ready (work : List ℕ) : Type 0 where
    pub room : name_words m ≤ length work
    pub bodies : (x : ℕ) → x < m → Placed (structs_in m es) m es x (get_or work (body_at x) 0)
    pub known : (x : ℕ) → x < m → Remembered (structs_in m es) x (get_or work (measured_at x) 0)
    pub facts : (k : ℕ) → FactWords m es (get_or work (table_at m (2 * k)) 0) (get_or work (table_at m (2 * k + 1)) 0)
    pub few : length es ≤ 2 ^ 20

-- a word that measuring leaves: none of the table's, and none of the words 7
pub record Settled (m i : ℕ) : Type 0 where
  pub table : (k : ℕ) → table_at m k ≡ i → ⊥
  pub known : (x : ℕ) → x < m → i ≡ measured_at x → ⊥

-- so are the words 0 to 5 of a name, and those of terms
pub settled_word : {m : ℕ} (x j : ℕ) → x < m → j < 6 → Settled m (word_at x j)
settled_word {m} x j l h = record { table = λ k e. table_other m k x j (omega arith) (λ z. omega arith) l e; known = λ y ly e. omega arith }

pub settled_first : {m : ℕ} (x : ℕ) → x < m → Settled m (param_at x)
settled_first {m} x l = subst (Settled m) (let e : word_at x 0 ≡ param_at x = omega arith in e) (settled_word x 0 l (omega arith))

pub settled_term : {m : ℕ} (i : ℕ) → name_words m ≤ i → i < work_for m → Settled m i
settled_term {m} i l h = record { table = λ k e. table_term m k i l h e; known = λ y ly e. omega arith }

-- no word has changed but those of measuring
pub record Kept (m : ℕ) (work work' : List ℕ) : Type 0 where
  pub long : length work' ≡ length work
  pub same : (i : ℕ) → Settled m i → get_or work' i 0 ≡ get_or work i 0

-- the table's facts stand where its words do
pub facts_kept : {m : ℕ} {es : List Entry} {work : List ℕ} (work' : List ℕ) → Ready m es work → ((k : ℕ) → get_or work' (table_at m k) 0 ≡ get_or work (table_at m k) 0)
    → (k : ℕ) → FactWords m es (get_or work' (table_at m (2 * k)) 0) (get_or work' (table_at m (2 * k + 1)) 0)
facts_kept work' r same k = rw (same (2 * k), same (2 * k + 1)) (r.facts k)

-- words that are 0 have none
pub facts_none : {m : ℕ} {es : List Entry} (key value : ℕ) → key ≡ 0 → FactWords m es key value
facts_none key value e = record { field = λ z l. absurd (z e); align = λ l. absurd (omega arith) }

-- after a measurement
pub record After (m : ℕ) (es : List Entry) (work work' : List ℕ) : Type 0 where
  pub ready : Ready m es work'
  pub kept : Kept m work work'

module _ {m : ℕ} {es : List Entry} where
  pub after_none : {work : List ℕ} → Ready m es work → After m es work work
  after_none r = record { ready = r; kept = record { long = refl; same = λ i n. refl } }

  pub after_then : {a b c : List ℕ} → After m es a b → After m es b c → After m es a c
  after_then p q = record { ready = q.ready; kept = record { long = q.kept.long ∙ p.kept.long; same = λ i n. q.kept.same i n ∙ p.kept.same i n } }

  -- a word of measuring is stored
  pub after_set : {work : List ℕ} (x v : ℕ) → Ready m es work → x < m → Remembered (structs_in m es) x v → After m es work (set work (measured_at x) v)
  after_set {work} x v r l k =
      record {
        ready = record {
          room = omega (arith, r.room, length-set work (measured_at x) v);
          bodies = λ y ly. rw (get_or-set_other work (measured_at x) (body_at y) v 0 (λ e. omega arith)) (r.bodies y ly);
          known = λ y ly. stored y ly (eqb y x) refl;
          facts = facts_kept (set work (measured_at x) v) r (λ k. get_or-set_other work (measured_at x) (table_at m k) v 0 (table_other m k x 7 (omega arith) (λ e. omega arith) l));
          few = r.few;
        };
        kept = record { long = length-set work (measured_at x) v; same = λ i n. get_or-set_other work (measured_at x) i v 0 (n.known x l) };
      }
    where
      stored : (y : ℕ) → y < m → (b : Bool) → eqb y x ≡ b → Remembered (structs_in m es) y (get_or (set work (measured_at x) v) (measured_at y) 0)
      stored y ly true e =
          let q = eqb-true y x e in
          let f : measured_at x < length work = omega (arith, r.room) in
          rw (q, get_or-set_same work (measured_at x) v 0 f) k
      stored y ly false e =
          let q = eqb-false y x e in
          rw (get_or-set_other work (measured_at x) (measured_at y) v 0 (λ z. q (omega arith))) (r.known y ly)

-- a measurement leaves the words 0 to 5 of a name and those of terms
module _ {m : ℕ} {es : List Entry} {work work' : List ℕ} (a : After m es work work') where
  pub kept_word : (x j : ℕ) → x < m → j < 6 → get_or work' (word_at x j) 0 ≡ get_or work (word_at x j) 0
  kept_word x j l h = a.kept.same (word_at x j) (settled_word x j l h)

  pub kept_first : (x : ℕ) → x < m → get_or work' (param_at x) 0 ≡ get_or work (param_at x) 0
  kept_first x l = a.kept.same (param_at x) (settled_first x l)

  pub kept_term : (i : ℕ) → name_words m ≤ i → i < work_for m → get_or work' i 0 ≡ get_or work i 0
  kept_term i l h = a.kept.same i (settled_term i l h)

-- ---- a part of the word of measuring
abbrev pub part_of : ℕ → ℕ → ℕ
part_of n h = n * 128 + h

abbrev pub with_size : ℕ → Measured → ℕ
with_size w (Ok m) = part_of m.bytes m.levels * 2 ^ 32 + w % 2 ^ 32
with_size w (Err e) = w

abbrev pub with_align : ℕ → Measured → ℕ
with_align w (Ok m) = w / 2 ^ 32 * 2 ^ 32 + part_of m.bytes m.levels
with_align w (Err e) = w

abbrev pub pick_measured : Bool → Measured → Measured → Measured
pick_measured true a b = a
pick_measured false a b = b

-- the answer that a part remembers
abbrev pub recalled : ℕ → ℕ → Measured
recalled part level = pick_measured (leb (part % 128) level) (bytes_of (part / 128) (part % 128)) (Err refusal.TooLarge)

pub recalls : (f : ℕ → Result ℕ) (part level : ℕ) → (part ≡ 0 → ⊥) → Recalls f part → Measures f level (recalled part level)
recalls f part level z r = go (leb (part % 128) level) refl
  where
    go : (b : Bool) → leb (part % 128) level ≡ b → Measures f level (pick_measured b (bytes_of (part / 128) (part % 128)) (Err refusal.TooLarge))
    go true e = record { known = r.right z; within = leb-true _ _ e }
    go false e = (r.right z).low level (leb-false _ _ e)

-- what is known is recalled
known_recalls : (f : ℕ → Result ℕ) (n h part : ℕ) → part ≡ part_of n h → h ≤ 64 → Known f n h → Recalls f part
known_recalls f n h part e l k =
    let a : part / 128 ≡ n = omega arith in
    let b : part % 128 ≡ h = omega arith in
    record { right = λ z. rw (a, b) k }

natural_most : {a : ℕ} → Natural a → a ≤ 8
natural_most one = omega arith
natural_most two = omega arith
natural_most four = omega arith
natural_most eight = omega arith

module _ (structs : List StructType) where
  -- what is measured within 64 levels is small
  pub size_small : (t : Ty) {n h : ℕ} → h ≤ 64 → Known (sizes structs t) n h → n ≤ 16777216
  unfolding size_of
  size_small t {n} l k = size_of_limit structs t n (k.high 64 l)

  pub aligned_small : (t : Ty) {a : ℕ} → align_of structs t ≡ ok a → (1 ≤ a) × (a ≤ 8)
  aligned_small t {a} e = let n = align_of_natural structs t a e in (positive n, natural_most n)
    where
      positive : {a : ℕ} → Natural a → 1 ≤ a
      positive one = omega arith
      positive two = omega arith
      positive four = omega arith
      positive eight = omega arith

  pub align_small : (t : Ty) {n h : ℕ} → h ≤ 64 → Known (aligns structs t) n h → (1 ≤ n) × (n ≤ 8)
  unfolding align_of
  align_small t l k = aligned_small t (k.high 64 l)

  pub size_remembered : (x w level : ℕ) (r : Measured) → level ≤ 64 → Measures (sizes structs (Ty.named_struct x)) level r → Remembered structs x w → Remembered structs x (with_size w r)
  size_remembered x w level (Err e) l m k = k
  size_remembered x w level (Ok b) l m k =
      let q : b.levels ≤ 64 = omega (arith, m.within) in
      let s = size_small (Ty.named_struct x) q m.known in
      let e : align_part (with_size w (Ok b)) ≡ align_part w = omega arith in
      let f : size_part (with_size w (Ok b)) ≡ part_of b.bytes b.levels = omega arith in
      record { align = rw e k.align; size = known_recalls (sizes structs (Ty.named_struct x)) b.bytes b.levels _ f q m.known }

  pub align_remembered : (x w level : ℕ) (r : Measured) → level ≤ 64 → Measures (aligns structs (Ty.named_struct x)) level r → Remembered structs x w → Remembered structs x (with_align w r)
  align_remembered x w level (Err e) l m k = k
  align_remembered x w level (Ok b) l m k =
      let q : b.levels ≤ 64 = omega (arith, m.within) in
      let s = align_small (Ty.named_struct x) q m.known in
      let t : b.bytes ≤ 8 = s.1 in
      let e : align_part (with_align w (Ok b)) ≡ part_of b.bytes b.levels = omega arith in
      let f : size_part (with_align w (Ok b)) ≡ size_part w = omega arith in
      record { align = known_recalls (aligns structs (Ty.named_struct x)) b.bytes b.levels _ e q m.known; size = rw f k.size }

-- what a measurement answers and leaves: the definition's answer, with the levels that it takes
pub record Outcome (m : ℕ) (es : List Entry) (work work' : List ℕ) (f : ℕ → Result ℕ) (level : ℕ) (r : Measured) : Type 0 where
  pub answer : result_of r ≡ f level
  pub says : Measures f level r
  pub after : After m es work work'

pub outcome : {m : ℕ} {es : List Entry} {work work' : List ℕ} {f : ℕ → Result ℕ} {level : ℕ} {r : Measured}
    → Measures f level r → After m es work work' → Outcome m es work work' f level r
outcome {m} {es} {work} {work'} {f} {level} {r} s a = record { answer = measures_result f level r s; says = s; after = a }

-- what a measurement asks: a type, or the fields of a struct, at the front of the entries; a name of the book
pub record Ask (m : ℕ) (es bs : List Entry) (work : List ℕ) (level : ℕ) : Type 0 where
  pub front : Starts m es
  pub ready : Ready m bs work
  pub levels : level ≤ 64

pub record AskFields (m : ℕ) (es bs : List Entry) (work : List ℕ) (level : ℕ) : Type 0 where
  pub front : StartsFields m es
  pub ready : Ready m bs work
  pub levels : level ≤ 64

pub record AskName (m x : ℕ) (bs : List Entry) (work : List ℕ) (level : ℕ) : Type 0 where
  pub name : x < m
  pub some_level : 1 ≤ level
  pub ready : Ready m bs work
  pub levels : level ≤ 64
