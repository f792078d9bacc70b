-- The varying terms in the work words behind the names': for each the place of its index among the book's entries, and its stride.
use Rattle.std.specs.Prelude.{ℕ, zero, suc, ◌+◌, ◌*◌, ◌<◌, ◌≤◌, ◌≡◌, refl, List, [], ◌∷◌, ◌++◌, length, drop, take, get_or, set}
use Rattle.std.proofs.Common.{ap, subst, ◌∙◌, arith, length-set, get_or-set_same, get_or-set_other}
use Rattle.book.specs.Entry.{Entry, entries}
use Rattle.book.specs.Fields.{Meanings}
use Rattle.book.specs.Work.{body_at, measured_at, name_words, param_at, word_at}
use Rattle.book.specs.Check.{work_for}
use Rattle.lowering.specs.Context.{FnCtx}
use Rattle.lowering.specs.Gep.{VarTerm}
use Rattle.layout_memo.specs.Work.{Ready, After, kept_word, kept_term, table_at, table_term, facts_kept}
use Rattle.gen_values.specs.Values.{width_by}
use Rattle.gen_values.specs.Fields.{Fields}
use Rattle.gen_values.specs.Maps.{Maps}
use Rattle.gen_gep.specs.Indices.{index_then}

-- ---- what stays
-- the words of the names, but those of measuring
pub record Stays (m : ℕ) (es : List Entry) (work work' : List ℕ) : Type 0 where
  pub ready : Ready m es work'
  pub long : length work' ≡ length work
  pub same : (x j : ℕ) → x < m → j < 6 → get_or work' (word_at x j) 0 ≡ get_or work (word_at x j) 0

module _ {m : ℕ} {es : List Entry} where
  pub stays_none : {work : List ℕ} → Ready m es work → Stays m es work work
  stays_none r = record { ready = r; long = refl; same = λ x j l h. refl }

  pub stays_then : {a b c : List ℕ} → Stays m es a b → Stays m es b c → Stays m es a c
  stays_then p q = record { ready = q.ready; long = q.long ∙ p.long; same = λ x j l h. q.same x j l h ∙ p.same x j l h }

  pub stays_after : {work work' : List ℕ} → After m es work work' → Stays m es work work'
  stays_after a = record { ready = a.ready; long = a.kept.long; same = kept_word a }

  -- a word of terms is stored
  stays_set : {work : List ℕ} (i v : ℕ) → name_words m ≤ i → i < work_for m → Ready m es work → Stays m es work (set work i v)
  stays_set {work} i v l h r =
      record {
        ready = record {
          room = omega (arith, r.room, length-set work i v);
          bodies = λ y ly. rw (get_or-set_other work i (body_at y) v 0 (λ e. omega arith)) (r.bodies y ly);
          known = λ y ly. rw (get_or-set_other work i (measured_at y) v 0 (λ e. omega arith)) (r.known y ly);
          facts = facts_kept (set work i v) r (λ k. get_or-set_other work i (table_at m k) v 0 (table_term m k i l h));
          few = r.few;
        };
        long = length-set work i v;
        same = λ x j lx lj. get_or-set_other work i (word_at x j) v 0 (λ e. omega arith);
      }

  pub maps_stays : {c : FnCtx} {work work' : List ℕ} → Maps m es c work → Stays m es work work' → Maps m es c work'
  maps_stays {work = work} {work' = work'} k a =
      record {
        room = omega (arith, k.room, a.long);
        locals = record {
          params = λ x l. subst (λ (i : ℕ). get_or work' i 0 ≡ get_or work i 0) (let e : word_at x 0 ≡ param_at x = omega arith in e) (a.same x 0 l (omega arith)) ∙ k.locals.params x l;
          slots = λ x l. a.same x 1 l (omega arith) ∙ k.locals.slots x l;
        };
        blocks = λ x l. rw (a.same x 2 l (omega arith)) (k.blocks x l);
        places = λ x l. a.same x 3 l (omega arith) ∙ k.places x l;
        marks = λ x l. a.same x 5 l (omega arith) ∙ k.marks x l;
        structs = k.structs;
        measured = a.ready;
      }

-- ---- terms
-- the index at a place, with a stride, is a term
pub record TermIs (m : ℕ) (bk bw : List ℕ) (place size : ℕ) (t : VarTerm) : Type 0 where
  pub holds : Meanings index_then
  pub fields : Fields m index_then holds (drop place (entries bk bw))
  pub val : t.val ≡ holds.1.0
  pub width : t.width ≡ width_by (get_or bk place 0) (get_or bw place 0)
  pub stride : t.stride ≡ size

abbrev pub TermAt : (m : ℕ) (bk bw work : List ℕ) (j : ℕ) → VarTerm → Type 0
TermAt m bk bw work j t = TermIs m bk bw (get_or work (name_words m + 2 * j) 0) (get_or work (name_words m + 2 * j + 1) 0) t

-- terms from the j-th on
abbrev pub Terms : (m : ℕ) (bk bw work : List ℕ) (j : ℕ) → List VarTerm → Type 0
Terms m bk bw work j [] = Unit {0}
Terms m bk bw work j (t ∷ ts) = TermAt m bk bw work j t × Terms m bk bw work (suc j) ts

module _ (m : ℕ) (bk bw : List ℕ) where
  term_kept : (work work' : List ℕ) (j : ℕ) (t : VarTerm) → get_or work' (name_words m + 2 * j) 0 ≡ get_or work (name_words m + 2 * j) 0
      → get_or work' (name_words m + 2 * j + 1) 0 ≡ get_or work (name_words m + 2 * j + 1) 0
      → TermAt m bk bw work j t → TermAt m bk bw work' j t
  term_kept work work' j t a b k = rw (a, b) k

  terms_kept : (work work' : List ℕ) (j : ℕ) (ts : List VarTerm) → ((i : ℕ) → name_words m ≤ i → i < name_words m + 2 * (j + length ts) → get_or work' i 0 ≡ get_or work i 0)
      → Terms m bk bw work j ts → Terms m bk bw work' j ts
  terms_kept work work' j [] same k = tt
  terms_kept work work' j (t ∷ ts) same k = (
    term_kept work work' j t (same (name_words m + 2 * j) (omega arith) (omega arith)) (same (name_words m + 2 * j + 1) (omega arith) (omega arith)) k.0,
    terms_kept work work' (suc j) ts (λ i l h. same i l (omega arith)) k.1,
  )

  terms_more : (work : List ℕ) (j : ℕ) (ts : List VarTerm) (t : VarTerm) (n : ℕ) → n ≡ j + length ts → Terms m bk bw work j ts → TermAt m bk bw work n t
      → Terms m bk bw work j (ts ++ (t ∷ []))
  terms_more work j [] t n e k h = (subst (λ (i : ℕ). TermAt m bk bw work i t) (let q : n ≡ j = omega arith in q) h, tt)
  terms_more work j (u ∷ ts) t n e k h = (k.0, terms_more work (suc j) ts t n (omega arith) k.1 h)

  -- a term is stored behind the others
  module _ (work : List ℕ) (n place stride : ℕ) (room : work_for m ≤ length work) (few : n < 32) where
    abbrev pub to : ℕ
    to = name_words m + 2 * n

    abbrev pub stored : List ℕ
    stored = set (set work to place) (to + 1) stride

    kept_below : (i : ℕ) → i < to → get_or stored i 0 ≡ get_or work i 0
    kept_below i l = get_or-set_other (set work to place) (to + 1) i stride 0 (λ e. omega arith) ∙ get_or-set_other work to i place 0 (λ e. omega arith)

    place_is : get_or stored to 0 ≡ place
    place_is = get_or-set_other (set work to place) (to + 1) to stride 0 (λ e. omega arith) ∙ get_or-set_same work to place 0 (omega arith)

    stride_is : get_or stored (to + 1) 0 ≡ stride
    stride_is = get_or-set_same (set work to place) (to + 1) stride 0 (omega (arith, length-set work to place))

    pub terms_stored : (ts : List VarTerm) (t : VarTerm) → length ts ≡ n → Terms m bk bw work 0 ts → TermIs m bk bw place stride t → Terms m bk bw stored 0 (ts ++ (t ∷ []))
    terms_stored ts t e k h =
        terms_more stored 0 ts t n (omega arith) (terms_kept work stored 0 ts (λ i l b. kept_below i (omega arith)) k) (rw (place_is, stride_is) h)

    pub stays_stored : {es : List Entry} → Ready m es work → Stays m es work stored
    stays_stored r =
        let a = stays_set to place (omega arith) (omega arith) r in
        stays_then a (stays_set (to + 1) stride (omega arith) (omega arith) a.ready)

  -- terms stay in a measurement
  pub terms_after : (es : List Entry) (work work' : List ℕ) (ts : List VarTerm) → length ts ≤ 32 → After m es work work' → Terms m bk bw work 0 ts → Terms m bk bw work' 0 ts
  terms_after es work work' ts few a k = terms_kept work work' 0 ts (λ i l h. kept_term a i l (omega arith)) k

  -- the i-th term
  pub record Ith (work : List ℕ) (j i : ℕ) (ts : List VarTerm) : Type 0 where
    pub term : VarTerm
    pub here : TermAt m bk bw work (j + i) term
    pub more : take (suc i) ts ≡ take i ts ++ (term ∷ [])

  pub term_at : (work : List ℕ) (j i : ℕ) (ts : List VarTerm) → i < length ts → Terms m bk bw work j ts → Ith work j i ts
  term_at work j i [] l k = absurd (omega arith)
  term_at work j zero (t ∷ ts) l k = record { term = t; here = subst (λ (n : ℕ). TermAt m bk bw work n t) (let q : j ≡ j + 0 = omega arith in q) k.0; more = refl }
  term_at work j (suc i) (t ∷ ts) l k =
      let q = term_at work (suc j) i ts (omega arith) k.1 in
      record {
        term = q.term;
        here = subst (λ (n : ℕ). TermAt m bk bw work n q.term) (let e : suc j + i ≡ j + suc i = omega arith in e) q.here;
        more = ap (λ r. t ∷ r) q.more;
      }

-- ---- what is asked
-- a term at a place
pub record TermAsk (m : ℕ) (bk bw work : List ℕ) (place stride : ℕ) : Type 0 where
  pub term : VarTerm
  pub is : TermIs m bk bw place stride term
  pub room : work_for m ≤ length work

-- so many terms
pub record TermsAsk (m : ℕ) (bk bw work : List ℕ) (n : ℕ) : Type 0 where
  pub kept : List VarTerm
  pub count : length kept ≡ n
  pub few : n ≤ 32
  pub terms : Terms m bk bw work 0 kept
  pub room : work_for m ≤ length work

module _ {m : ℕ} {bk bw work : List ℕ} {n : ℕ} (t : TermsAsk m bk bw work n) (i : ℕ) (l : i < n) where
  pub term_asked : TermAsk m bk bw work (get_or work (name_words m + 2 * i) 0) (get_or work (name_words m + 2 * i + 1) 0)
  term_asked =
      let x : Ith m bk bw work 0 i t.kept = term_at m bk bw work 0 i t.kept (omega (arith, t.count)) t.terms in
      let e : 0 + i ≡ i = omega arith in
      record { term = x.term; is = subst (λ (j : ℕ). TermAt m bk bw work j x.term) e x.here; room = t.room }

  -- its two words are there
  pub term_there : name_words m + 2 * i + 1 < length work
  term_there = omega (arith, t.room, t.few)
