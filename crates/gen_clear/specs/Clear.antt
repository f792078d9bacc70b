-- Words 0 to 3 of names, cleared along the entries that set them.
use Rattle.std.specs.Prelude.{ℕ, zero, suc, ◌+◌, ◌-◌, ◌*◌, ◌<◌, ◌≤◌, ◌^◌, ◌≡◌, refl, ◌⊎◌, Bool, true, false, List, [], ◌∷◌, ◌++◌, eqb, length, get_or, drop, set}
use Rattle.std.proofs.Common.{sym, ap, ◌∙◌, subst, inl, inr, ⊎_elim, append-nil, arith, eqb-true, length-set, length-append, length-drop, get_or-set_same, get_or-set_other}
use Rattle.std.proofs.lemmas.Bool.{eqb-false}
use Rattle.book.specs.Entry.{Entry, entry, entries}
use Rattle.book.specs.Ast.{Function}
use Rattle.book.specs.Encode.{enc_function}
use Rattle.book.specs.Limits.{Each, FunctionLimits}
use Rattle.book.specs.Result.{ok}
use Rattle.book.specs.Shape.{all_insts}
use Rattle.book.specs.Work.{name_words, param_at, slot_at, block_at, place_at, body_at, mark_at, measured_at, word_at}
use Rattle.book_types.specs.Laws.{within_kinds, within_words}
use Rattle.layout.specs.Frame.{Places, frame_pass, no_frame}
use Rattle.layout_memo.specs.Work.{table_at, table_other}
use Rattle.lowering.specs.Context.{Codegen}
use Rattle.lowering.specs.Function.{context_of}
use Rattle.gen_values.specs.Maps.{Maps}
use Rattle.gen_values.specs.Fields.{entry_at}
use Rattle.gen_blocks.specs.Words.{ready_kept}
use Rattle.gen_blocks.specs.Function.{between, between_part}
use Rattle.gen_prepare.specs.Prepare.{Clean, Shared}
use Rattle.gen_clear.specs.Sets.{Sets, Somewhere, Bounded, function_bounded}
use Rattle.gen_clear.specs.Covers.{covers_params, covers_slots, covers_blocks, covers_places}

-- a word of a function's, of the name x
abbrev pub Own : (m i : ℕ) → Type 0
Own m i = (x : ℕ) × ((j : ℕ) × ((x < m) × ((j < 4) × (i ≡ word_at x j))))

-- every word of a function's that is not 0 is set by one of these entries
abbrev pub Covered : (m : ℕ) (work : List ℕ) (part : List Entry) → Type 0
Covered m work part = (x j : ℕ) → x < m → j < 4 → (get_or work (word_at x j) 0 ≡ 0 → ⊥) → Somewhere (λ e. Sets e x j) part

-- ---- one entry: its words are 0, and nothing else but 0 is written
pub record Cleared (m : ℕ) (e : Entry) (work work' : List ℕ) : Type 0 where
  pub long : length work' ≡ length work
  pub gone : (x j : ℕ) → x < m → Sets e x j → get_or work' (word_at x j) 0 ≡ 0
  pub less : (i : ℕ) → (get_or work' i 0 ≡ 0) ⊎ (get_or work' i 0 ≡ get_or work i 0)
  pub same : (i : ℕ) → (Own m i → ⊥) → get_or work' i 0 ≡ get_or work i 0

-- ---- the entries from the place a to the place b
pub record Clearing (m : ℕ) (es : List Entry) (work₀ work : List ℕ) (a b : ℕ) : Type 0 where
  pub part : List Entry
  pub rest : List Entry
  pub here : drop a es ≡ part ++ rest
  pub size : b ≡ a + length part
  pub there : b ≤ length es
  pub bounded : Each (Bounded m) part
  pub covered : Covered m work part
  pub long : length work ≡ length work₀
  pub same : (i : ℕ) → (Own m i → ⊥) → get_or work i 0 ≡ get_or work₀ i 0
  pub room : name_words m ≤ length work
  pub few : length es ≤ 2 ^ 20

-- all are cleared
pub record AllCleared (m : ℕ) (work work' : List ℕ) : Type 0 where
  pub clean : Clean m work'
  pub long : length work' ≡ length work
  pub same : (i : ℕ) → (Own m i → ⊥) → get_or work' i 0 ≡ get_or work i 0

abbrev pub ClearAsk : (m : ℕ) (es : List Entry) (a b : ℕ) (work : List ℕ) → Type 0
ClearAsk m es a b work = Clearing m es work work a b

-- these entries, all of them
abbrev pub ClearPart : (m : ℕ) (es : List Entry) (work : List ℕ) → Type 0
ClearPart m es work = ClearAsk m es 0 (length es) work

-- ---- what an entry clears
pub positive_of : (w : ℕ) → (w ≡ 0 → ⊥) → 1 ≤ w
positive_of zero n = absurd (n refl)
positive_of (suc w) n = omega arith

-- nothing is written
none_cleared : (m : ℕ) (e : Entry) (work : List ℕ) → ((x j : ℕ) → Sets e x j → ⊥) → Cleared m e work work
none_cleared m e work n = record { long = refl; gone = λ x j l s. absurd (n x j s); less = λ i. inr refl; same = λ i o. refl }

-- one word of a function's
module _ (m : ℕ) (work : List ℕ) (k : ℕ) (own : Own m k) (room : name_words m ≤ length work) where
  within : k < length work
  within = let (x, (j, (l, (s, e)))) = own in omega arith

  less_one : (i : ℕ) → (get_or (set work k 0) i 0 ≡ 0) ⊎ (get_or (set work k 0) i 0 ≡ get_or work i 0)
  less_one i = go (eqb i k) refl
    where
      go : (b : Bool) → eqb i k ≡ b → (get_or (set work k 0) i 0 ≡ 0) ⊎ (get_or (set work k 0) i 0 ≡ get_or work i 0)
      go true e = inl (rw (eqb-true i k e) (get_or-set_same work k 0 0 within))
      go false e = inr (get_or-set_other work k i 0 0 (λ z. eqb-false i k e z))

  same_one : (i : ℕ) → (Own m i → ⊥) → get_or (set work k 0) i 0 ≡ get_or work i 0
  same_one i n = get_or-set_other work k i 0 0 (λ z. n (rw z own))

-- a block: word 2
pub block_cleared : (m w : ℕ) (work : List ℕ) → w < m → name_words m ≤ length work → Cleared m (entry 7 w) work (set work (block_at w) 0)
block_cleared m w work l room =
    let own : Own m (block_at w) = (w, (2, (l, (omega arith, refl)))) in
    record { long = length-set work (block_at w) 0; gone = gone; less = less_one m work (block_at w) own room; same = same_one m work (block_at w) own room }
  where
    gone : (x j : ℕ) → x < m → Sets (entry 7 w) x j → get_or (set work (block_at w) 0) (word_at x j) 0 ≡ 0
    gone x j lx (Sets.param z e i) = absurd (omega arith)
    gone x j lx (Sets.slot z e i) = absurd (omega arith)
    gone x j lx (Sets.block z e i) = rw (sym i, z) (get_or-set_same work (block_at w) 0 0 (omega arith))
    gone x j lx (Sets.place z e i) = absurd (omega arith)

-- a parameter: word 0, where it has a name
pub param_cleared : (m w : ℕ) (work : List ℕ) → (w ≡ 0 → ⊥) → w ≤ m → name_words m ≤ length work → Cleared m (entry 6 w) work (set work (param_at (w - 1)) 0)
param_cleared m w work n l room =
    let own : Own m (param_at (w - 1)) = (w - 1, (0, (omega (arith, positive), (omega arith, omega (arith, positive))))) in
    record { long = length-set work (param_at (w - 1)) 0; gone = gone; less = less_one m work (param_at (w - 1)) own room; same = same_one m work (param_at (w - 1)) own room }
  where
    positive : 1 ≤ w
    positive = positive_of w n

    gone : (x j : ℕ) → x < m → Sets (entry 6 w) x j → get_or (set work (param_at (w - 1)) 0) (word_at x j) 0 ≡ 0
    gone x j lx (Sets.param z e i) = let q : word_at x j ≡ param_at (w - 1) = omega (arith, z, i) in rw q (get_or-set_same work (param_at (w - 1)) 0 0 (omega (arith, positive)))
    gone x j lx (Sets.slot z e i) = absurd (omega arith)
    gone x j lx (Sets.block z e i) = absurd (omega arith)
    gone x j lx (Sets.place z e i) = absurd (omega arith)

-- a result: words 1 and 3
pub result_cleared : (m k w : ℕ) (work : List ℕ) → 40 ≤ k → (w ≡ 0 → ⊥) → w ≤ m → name_words m ≤ length work → Cleared m (entry k w) work (set (set work (slot_at (w - 1)) 0) (place_at (w - 1)) 0)
result_cleared m k w work h n l room =
    record { long = length-set once (place_at (w - 1)) 0 ∙ length-set work (slot_at (w - 1)) 0; gone = gone; less = less; same = same }
  where
    positive : 1 ≤ w
    positive = positive_of w n

    once : List ℕ
    once = set work (slot_at (w - 1)) 0

    own₁ : Own m (slot_at (w - 1))
    own₁ = (w - 1, (1, (omega (arith, positive), (omega arith, omega (arith, positive)))))

    own₃ : Own m (place_at (w - 1))
    own₃ = (w - 1, (3, (omega (arith, positive), (omega arith, omega (arith, positive)))))

    room₁ : name_words m ≤ length once
    room₁ = omega (arith, length-set work (slot_at (w - 1)) 0)

    less : (i : ℕ) → (get_or (set once (place_at (w - 1)) 0) i 0 ≡ 0) ⊎ (get_or (set once (place_at (w - 1)) 0) i 0 ≡ get_or work i 0)
    less i =
        ⊎_elim (λ p. inl p) (λ p. ⊎_elim (λ q. inl (p ∙ q)) (λ q. inr (p ∙ q)) (less_one m work (slot_at (w - 1)) own₁ room i)) (less_one m once (place_at (w - 1)) own₃ room₁ i)

    same : (i : ℕ) → (Own m i → ⊥) → get_or (set once (place_at (w - 1)) 0) i 0 ≡ get_or work i 0
    same i o = same_one m once (place_at (w - 1)) own₃ room₁ i o ∙ same_one m work (slot_at (w - 1)) own₁ room i o

    gone : (x j : ℕ) → x < m → Sets (entry k w) x j → get_or (set once (place_at (w - 1)) 0) (word_at x j) 0 ≡ 0
    gone x j lx (Sets.param z e i) = absurd (omega arith)
    gone x j lx (Sets.slot z e i) =
        let q : word_at x j ≡ slot_at (w - 1) = omega (arith, z, i) in
        rw q (get_or-set_other once (place_at (w - 1)) (slot_at (w - 1)) 0 0 (λ y. omega (arith, positive)) ∙ get_or-set_same work (slot_at (w - 1)) 0 0 (omega (arith, positive)))
    gone x j lx (Sets.block z e i) = absurd (omega arith)
    gone x j lx (Sets.place z e i) = let q : word_at x j ≡ place_at (w - 1) = omega (arith, z, i) in rw q (get_or-set_same once (place_at (w - 1)) 0 0 (omega (arith, positive, room₁)))

-- entries without a name, and those that say none
pub unnamed_cleared : (m k : ℕ) (work : List ℕ) → (k ≡ 7 → ⊥) → Cleared m (entry k 0) work work
unnamed_cleared m k work n = none_cleared m (entry k 0) work none
  where
    none : (x j : ℕ) → Sets (entry k 0) x j → ⊥
    none x j (Sets.param z e i) = omega arith
    none x j (Sets.slot z e i) = omega arith
    none x j (Sets.block z e i) = n e
    none x j (Sets.place z e i) = omega arith

pub other_cleared : (m k w : ℕ) (work : List ℕ) → k < 40 → (k ≡ 7 → ⊥) → (k ≡ 6 → ⊥) → Cleared m (entry k w) work work
other_cleared m k w work h n o = none_cleared m (entry k w) work none
  where
    none : (x j : ℕ) → Sets (entry k w) x j → ⊥
    none x j (Sets.param z e i) = o e
    none x j (Sets.slot z e i) = omega arith
    none x j (Sets.block z e i) = n e
    none x j (Sets.place z e i) = omega arith

-- ---- the loop
sets_as : {e : Entry} {x j k w : ℕ} → k ≡ e.kind → w ≡ e.word → Sets e x j → Sets (entry k w) x j
sets_as p q (Sets.param z a b) = Sets.param z (p ∙ a) (q ∙ b)
sets_as p q (Sets.slot z a b) = Sets.slot z (omega arith) (q ∙ b)
sets_as p q (Sets.block z a b) = Sets.block z (p ∙ a) (q ∙ b)
sets_as p q (Sets.place z a b) = Sets.place z (omega arith) (q ∙ b)

-- no entry is left: every word is 0
zero_word : (n : ℕ) → ((n ≡ 0 → ⊥) → ⊥) → n ≡ 0
zero_word zero h = refl
zero_word (suc n) h = absurd (h (λ e. omega arith))

module _ (m : ℕ) (es : List Entry) (work₀ work : List ℕ) (a b : ℕ) (p : Clearing m es work₀ work a b) where
  pub clear_done : b ≤ a → AllCleared m work₀ work
  clear_done l = go p.part p.size p.covered
    where
      go : (part : List Entry) → b ≡ a + length part → Covered m work part → AllCleared m work₀ work
      go (e ∷ part) s c = absurd (omega arith)
      go [] s c =
          let word : (x j : ℕ) → x < m → j < 4 → get_or work (word_at x j) 0 ≡ 0 = λ x j lx lj. zero_word (get_or work (word_at x j) 0) (c x j lx lj) in
          record {
            clean = record {
              params = λ x lx. let q : 8 * x ≡ 8 * x + 0 = omega arith in rw q (word x 0 lx (omega arith));
              slots = λ x lx. word x 1 lx (omega arith);
              blocks = λ x lx. word x 2 lx (omega arith);
              places = λ x lx. word x 3 lx (omega arith);
            };
            long = p.long;
            same = p.same;
          }

module _ (m : ℕ) (ks ws work₀ work : List ℕ) (a b : ℕ) (p : Clearing m (entries ks ws) work₀ work a b) (l : a < b) where
  abbrev es : List Entry
  es = entries ks ws

  abbrev now : Entry
  now = entry (get_or ks a 0) (get_or ws a 0)

  -- the entry at the place
  pub record Here : Type 0 where
    pub first : Entry
    pub others : List Entry
    pub is : p.part ≡ first ∷ others
    pub kind : get_or ks a 0 ≡ first.kind
    pub word : get_or ws a 0 ≡ first.word
    pub in_kinds : a < length ks
    pub in_words : a < length ws
    pub next : drop (a + 1) es ≡ others ++ p.rest

  pub here : Here
  here = go p.part refl
    where
      go : (part : List Entry) → p.part ≡ part → Here
      go [] e = absurd (omega (arith, p.size, ap length e))
      go (f ∷ part) e =
          let q = entry_at ks ws a f (part ++ p.rest) (p.here ∙ ap (λ (x : List Entry). x ++ p.rest) e) in
          record { first = f; others = part; is = e; kind = q.0; word = q.1; in_kinds = q.2; in_words = q.3; next = q.4 }

  pub now_bounded : Bounded m now
  now_bounded =
      let k = (subst (Each (Bounded m)) here.is p.bounded).0 in
      let ek = here.kind in
      let ew = here.word in
      record { param = λ e. rw ew (k.param (sym ek ∙ e)); block = λ e. rw ew (k.block (sym ek ∙ e)); inst = λ e. rw ew (k.inst (rw (sym ek) e)) }

  pub clear_next : {work' : List ℕ} → Cleared m now work work' → Clearing m es work₀ work' (a + 1) b
  clear_next {work'} c =
      record {
        part = here.others;
        rest = p.rest;
        here = here.next;
        size = omega (arith, p.size, ap length here.is);
        there = p.there;
        bounded = (subst (Each (Bounded m)) here.is p.bounded).1;
        covered = covered;
        long = c.long ∙ p.long;
        same = λ i o. c.same i o ∙ p.same i o;
        room = omega (arith, c.long, p.room);
        few = p.few;
      }
    where
      left : (x j : ℕ) → x < m → (get_or work' (word_at x j) 0 ≡ 0 → ⊥) → Somewhere (λ e. Sets e x j) (here.first ∷ here.others) → Somewhere (λ e. Sets e x j) here.others
      left x j lx n (inl s) = absurd (n (c.gone x j lx (sets_as here.kind here.word s)))
      left x j lx n (inr s) = s

      covered : Covered m work' here.others
      covered x j lx lj n =
          let was : (get_or work (word_at x j) 0 ≡ 0 → ⊥) = λ z. ⊎_elim (λ q. n q) (λ q. n (q ∙ z)) (c.less (word_at x j)) in
          left x j lx n (subst (Somewhere (λ e. Sets e x j)) here.is (p.covered x j lx lj was))

-- ---- what it is asked for
-- nothing is set
pub none_ask : (m : ℕ) (es : List Entry) (work : List ℕ) → Clean m work → name_words m ≤ length work → length es ≤ 2 ^ 20 → ClearAsk m es 0 0 work
none_ask m es work k room few =
    record {
      part = [];
      rest = es;
      here = refl;
      size = refl;
      there = omega arith;
      bounded = tt;
      covered = λ x j lx lj n. n (word x j lx lj);
      long = refl;
      same = λ i o. refl;
      room = room;
      few = few;
    }
  where
    word : (x j : ℕ) → x < m → j < 4 → get_or work (word_at x j) 0 ≡ 0
    word x zero lx lj = let q : 8 * x + 0 ≡ 8 * x = omega arith in rw q (k.params x lx)
    word x (suc zero) lx lj = k.slots x lx
    word x (suc (suc zero)) lx lj = k.blocks x lx
    word x (suc (suc (suc zero))) lx lj = k.places x lx
    word x (suc (suc (suc (suc j)))) lx lj = absurd (omega arith)

-- the part of lent kinds and words from one place to another
module _ {m : ℕ} (ks ws : List ℕ) {a b : ℕ} {work : List ℕ} (p : ClearAsk m (entries ks ws) a b work) where
  pub cut_within : (a ≤ b) × (b ≤ length ks) × (b ≤ length ws)
  cut_within = (omega (arith, p.size), within_kinds b ks ws p.there, within_words b ks ws p.there)

  cut_is : between ks ws a b ≡ p.part
  cut_is = between_part ks ws a b p.part p.rest p.here p.size

  pub clear_part : ClearPart m (between ks ws a b) work
  clear_part =
      record {
        part = p.part;
        rest = [];
        here = cut_is ∙ sym (append-nil p.part);
        size = omega (arith, ap length cut_is);
        there = omega arith;
        bounded = p.bounded;
        covered = p.covered;
        long = refl;
        same = λ i o. refl;
        room = p.room;
        few = omega (arith, ap length cut_is, p.size, p.there, p.few);
      }

-- the function f at the place a, up to b, has set its context
pub function_ask : (m : ℕ) (es : List Entry) (work : List ℕ) (a b : ℕ) (g : Codegen) (f : Function) (fr : Places) (rest : List Entry)
    → drop a es ≡ enc_function f ++ rest → a ≤ length es → b ≡ a + length (enc_function f) → FunctionLimits m f → length es ≤ 2 ^ 20
    → frame_pass g.structs (all_insts f.blocks) no_frame ≡ ok fr → Maps m es (context_of g f fr) work → ClearAsk m es a b work
function_ask m es work a b g f fr rest h t s l few pass k =
    record {
      part = enc_function f;
      rest = rest;
      here = h;
      size = s;
      there = omega (arith, ap length h, length-append (enc_function f) rest, length-drop a es);
      bounded = function_bounded m f l;
      covered = covered;
      long = refl;
      same = λ i o. refl;
      room = omega (arith, k.room);
      few = few;
    }
  where
    covered : Covered m work (enc_function f)
    covered x zero lx lj n = let q : 8 * x + 0 ≡ 8 * x = omega arith in covers_params g f fr pass k x lx (λ z. n (rw q z))
    covered x (suc zero) lx lj n = covers_slots g f fr pass k x lx n
    covered x (suc (suc zero)) lx lj n = covers_blocks g f fr pass k x lx n
    covered x (suc (suc (suc zero))) lx lj n = covers_places g f fr pass k x lx n
    covered x (suc (suc (suc (suc j)))) lx lj n = absurd (omega arith)

-- what functions share is left
pub shared_after : {m : ℕ} {es : List Entry} {g : Codegen} {work work' : List ℕ} → Shared m es g work → AllCleared m work work' → Shared m es g work'
shared_after {m} k c =
    record {
      room = omega (arith, k.room, c.long);
      marks = λ x l. c.same (mark_at x) (other x 5 (omega arith) (omega arith)) ∙ k.marks x l;
      structs = k.structs;
      measured =
          ready_kept k.measured c.long (λ x l. c.same (body_at x) (other x 4 (omega arith) (omega arith))) (λ x l. c.same (measured_at x) (other x 7 (omega arith) (omega arith)))
          (λ i. c.same (table_at m i) (λ (y, (j, (ly, (lj, e)))). table_other m i y j (omega arith) (λ z. omega arith) ly e));
    }
  where
    other : (x j : ℕ) → 4 ≤ j → j < 8 → Own m (word_at x j) → ⊥
    other x j h t (y, (i, (ly, (li, e)))) = omega arith
