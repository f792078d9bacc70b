-- The fields of a struct one after the other, each with what is known behind it.
use Rattle.std.specs.Prelude.{ℕ, suc, ◌+◌, ◌-◌, ◌<◌, ◌≤◌, ◌^◌, ◌≡◌, Bool, List, length, get_or, drop}
use Rattle.std.proofs.Math.Path.{refl}
use Rattle.std.proofs.Common.{sym, ap, ◌∙◌, subst, arith}
use Rattle.book.specs.Entry.{Entry, entries}
use Rattle.book.specs.Ast.{Ty, StructType}
use Rattle.book.specs.Result.{Result, ok, bind}
use Rattle.book_types.specs.Laws.{entries_part}
use Rattle.layout.specs.Layout.{placed, align_in, offset_from, align_of, size_of}
use Rattle.layout.specs.Step.{field_at}
use Rattle.layout_memo.specs.Front.{ty_of, tys_of, ty_len}
use Rattle.layout_memo.specs.Measured.{Gives}
use Rattle.layout_memo.specs.Work.{structs_in, sizes, Ready, After, Outcome, Ask, FieldFact, after_then, size_small}
use Rattle.layout_memo.specs.Helpers.{gives_at}
use Rattle.layout_memo.specs.Calls.{lent, ask_part, part_type}
use Rattle.layout_memo.specs.Fields.{AtFields, at_field, at_next, at_cons}
use Rattle.layout_memo.specs.FieldCalls.{skipped}
use Rattle.layout_memo.specs.Scalars.{Scalar, Passes, none, more, RunFrom, scalar_kind, scalar_type}
use Rattle.layout_memo.specs.declared.scalars.Run.{Run}
use Rattle.layout_memo.specs.Measured.{Measured, bytes_of}
use Rattle.layout_field.specs.Offsets.{Offset, left_from, start_of, offset_result, AskStart, StartOutcome, StartsBy, through, scalar_starts, scalar_sized}
use Rattle.std.specs.Prelude.{Option, Some, None, IfSome, ok_or, Result as Answer, Ok, Err}
use Rattle.layout_table.specs.declared.Known.{Known}
use Rattle.layout_table.specs.Table.{AskNote, Best}

-- what passing answers and leaves: a fact with at most so many fields before it
pub record KnownOutcome (m : ℕ) (es : List Entry) (work work' : List ℕ) (packed : Bool) (p index : ℕ) (r : Known) : Type 0 where
  pub best : Best m es packed p index r
  pub after : After m es work work'

-- the same, whether passing came as far as it was to or not
abbrev pub PassOutcome : (m : ℕ) (es : List Entry) (work work' : List ℕ) (packed : Bool) (p index : ℕ) → Answer Known Known → Type 0
PassOutcome m es work work' packed p index (Ok k) = KnownOutcome m es work work' packed p index k
PassOutcome m es work work' packed p index (Err k) = KnownOutcome m es work work' packed p index k

-- what is asked to pass integers and pointers; to pass any fields
pub record AskRun (m : ℕ) (es : List Entry) (packed : Bool) (p index : ℕ) (k : Known) : Type 0 where
  pub best : Best m es packed p index k
  pub few : index < 1048576
  pub long : length es ≤ 2 ^ 20

pub record AskPass (m : ℕ) (es : List Entry) (work : List ℕ) (packed : Bool) (p index : ℕ) (k : Known) : Type 0 where
  pub best : Best m es packed p index k
  pub few : index < 1048576
  pub ready : Ready m es work

module _ {m : ℕ} {es : List Entry} {work : List ℕ} {packed : Bool} {p index : ℕ} {k : Known} (a : AskPass m es work packed p index k) where
  pub pass_run : AskRun m es packed p index k
  pass_run = record { best = a.best; few = a.few; long = a.ready.few }

  pub pass_place : k.at ≤ 2 ^ 32
  pass_place = omega (arith, a.best.fact.there, a.ready.few)

  -- the next ask
  pub pass_note : {work' : List ℕ} {r : Known} → KnownOutcome m es work work' packed p index r → AskNote m es work' packed p r
  pass_note o = record { ready = o.after.ready; fact = o.best.fact }

  pub pass_again : {work' work'' : List ℕ} {r : Known} → KnownOutcome m es work work' packed p index r → After m es work' work'' → AskPass m es work'' packed p index r
  pass_again o f = record { best = o.best; few = a.few; ready = f.ready }

  pub pass_then : {work' work'' work''' : List ℕ} {r s : Known} → KnownOutcome m es work work' packed p index r → After m es work' work'' → KnownOutcome m es work'' work''' packed p index s
      → KnownOutcome m es work work''' packed p index s
  pass_then o f u = record { best = u.best; after = after_then o.after (after_then f u.after) }

module _ {m : ℕ} {es : List Entry} {work : List ℕ} {packed : Bool} {p index : ℕ} {k : Known} (a : AskPass m es work packed p index k) where
  -- one field was passed, or none
  pub pass_one : {work' : List ℕ} (o : Option Known) → IfSome o (Best m es packed p index) → After m es work work' → (r : Answer Known Known) → r ≡ ok_or o k → PassOutcome m es work work' packed p index r
  pass_one (Some n) b f r e = rw e (record { best = b; after = f })
  pass_one None b f r e = rw e (record { best = a.best; after = f })

  pub pass_on : {u v : List ℕ} {r : Known} (w : List ℕ) → KnownOutcome m es work u packed p index r → After m es u v → (s : Answer Known Known)
      → PassOutcome m es v w packed p index s → PassOutcome m es work w packed p index s
  pass_on w o f (Ok n) g = pass_then a o f g
  pass_on w o f (Err n) g = pass_then a o f g

one_left : (goal l : ℕ) → l ≤ goal → l - 1 ≤ goal
one_left goal l h = omega arith

one_more_lem : (goal l : ℕ) → l ≤ goal → (l ≡ 0 → ⊥) → goal - l + 1 ≡ goal - (l - 1)
one_more_lem goal l h n = omega arith

-- ---- the fields behind a place, as a fact has them
module _ (m : ℕ) (bk bw : List ℕ) (packed : Bool) (p : ℕ) where
  abbrev es : List Entry
  es = entries bk bw

  abbrev structs : List StructType
  structs = structs_in m es

  abbrev from : (a i off : ℕ) → Result ℕ
  from a i off = offset_from (align_of structs) (size_of structs) packed (tys_of m (drop a es)) i off

  -- a fact but for the bound on its bytes
  pub record Behind (j q off : ℕ) : Type 0 where
    pub place : AtFields m bk bw q
    pub later : p ≤ q
    pub places : (i : ℕ) → field_at (tys_of m (drop p es)) (j + i) ≡ field_at (tys_of m (drop q es)) i
    pub offsets : (i : ℕ) → from p (j + i) 0 ≡ from q i off

  pub behind_of : {j q off : ℕ} → FieldFact m es packed p j q off → length es ≤ 2 ^ 20 → Behind j q off
  behind_of f l = record { place = record { fields = f.fields; there = f.there; few = l }; later = f.later; places = f.places; offsets = f.offsets }

  pub fact_of : {j q off : ℕ} → Behind j q off → off ≤ 16777216 → FieldFact m es packed p j q off
  fact_of b l = record { fields = b.place.fields; there = b.place.there; later = b.later; small = l; places = b.places; offsets = b.offsets }

  -- ---- one field more
  module _ {j q off : ℕ} (b : Behind j q off) (z : get_or bk q 0 ≡ 0 → ⊥) where
    abbrev field : Ty
    field = ty_of m (drop q es)

    abbrev next : ℕ
    next = q + ty_len m (drop q es)

    place_later : (i : ℕ) → field_at (tys_of m (drop q es)) (suc i) ≡ field_at (tys_of m (drop next es)) i
    unfolding field_at
    place_later i = rw (at_cons b.place z) refl

    offset_later : (n s : ℕ) → ok n ≡ start_of structs packed field off → sizes structs field 64 ≡ ok s → (i : ℕ) → from q (suc i) off ≡ from next i (n + s)
    unfolding offset_from start_of size_of bind
    offset_later n s e f i =
        rw (at_cons b.place z)
        (through (align_in (align_of structs) (size_of structs) packed field) (placed packed off) (ok n) (λ o. bind (sizes structs field 64) (λ s. from next i (o + s))) e ∙ rw f refl)

    pub behind_next : (n s : ℕ) → ok n ≡ start_of structs packed field off → sizes structs field 64 ≡ ok s → Behind (j + 1) next (n + s)
    behind_next n s e f =
        record {
          place = at_next b.place z;
          later = omega (arith, b.later);
          places = λ i. let d : j + 1 + i ≡ j + suc i = omega arith in rw d (b.places (suc i) ∙ place_later i);
          offsets = λ i. let d : j + 1 + i ≡ j + suc i = omega arith in rw d (b.offsets (suc i) ∙ offset_later n s e f i);
        }

  -- ---- integers and pointers
  behind_one : {j : ℕ} (s : Run) (b : ℕ) → Scalar (get_or bk s.at 0) (get_or bw s.at 0) b → (b ≡ 0 → ⊥) → Behind j s.at s.offset → Behind (j + 1) (s.at + 1) (placed packed s.offset b + b)
  behind_one s b c nz h =
      let one = (scalar_type h.place nz c).one in
      rw one at (behind_next h (scalar_kind h.place nz c) (placed packed s.offset b) b (sym (scalar_starts structs packed h.place nz c s.offset)) (scalar_sized structs h.place nz c))

  -- so many are to be passed before the field with the index `goal`
  behind_run : (goal : ℕ) {stop : ℕ} (r s : Run) → Passes bk bw packed stop r s → r.left ≤ goal → Behind (goal - r.left) r.at r.offset
      → (s.left ≤ goal) × Behind (goal - s.left) s.at s.offset
  behind_run goal r s none l h = (l, h)
  behind_run goal r s (more {s = u} b p c nz w n) l h =
      let i = behind_run goal r u p l h in (
        one_left goal u.left i.0,
        subst (λ (j : ℕ). Behind j (u.at + 1) (placed packed u.offset b + b)) (one_more_lem goal u.left i.0 n) (behind_one u b c nz i.1),
      )

  module _ {index : ℕ} (k : Known) (a : AskRun m es packed p index k) (many : ℕ) (next : Run) (e : next ≡ left_from k.at many k.offset) where
    here : Behind k.index k.at k.offset
    here = behind_of a.best.fact a.long

    pub run_from : RunFrom m bk bw next
    run_from = rw e (record { place = here.place; small = omega (arith, a.best.fact.small) })

    pub run_passed : {stop : ℕ} (run : Run) → Passes bk bw packed stop next run → run.left ≡ 0 → run.offset ≤ 16777216 → many ≤ index - k.index
        → Best m es packed p index (record { index = k.index + many; at = run.at; offset = run.offset })
    run_passed run w z l h =
        let d : k.index ≡ k.index + many - many = omega arith in
        let y : k.index + many - run.left ≡ k.index + many = omega arith in
        let g = behind_run (k.index + many) (left_from k.at many k.offset) run (rw e at w) (omega arith) (subst (λ (j : ℕ). Behind j k.at k.offset) d here) in
        record { fact = fact_of (subst (λ (j : ℕ). Behind j run.at run.offset) y g.1) l; before = omega (arith, a.best.before) }

  -- ---- any field
  module _ {work : List ℕ} {index : ℕ} (k : Known) (a : AskPass m es work packed p index k) where
    now : Behind k.index k.at k.offset
    now = behind_of a.best.fact a.ready.few

    pub known_place : AtFields m bk bw k.at
    known_place = now.place

    module _ (z : get_or bk k.at 0 ≡ 0 → ⊥) where
      abbrev here_type : Ty
      here_type = ty_of m (drop k.at es)

      pub start_ask : AskStart m (lent bk bw k.at) es work k.offset
      start_ask = record { ask = ask_part bk bw k.at (at_field known_place z).field a.ready (omega arith); small = omega (arith, a.best.fact.small) }

      module _ {work' : List ℕ} (r : Offset) (o : StartOutcome m es work work' k.offset (start_of structs packed (ty_of m (lent bk bw k.at)) k.offset) r) (n : ℕ) (q : r ≡ Ok n) where
        pub size_ask : Ask m (lent bk bw k.at) es work' 64
        size_ask = ask_part bk bw k.at (at_field known_place z).field o.after.ready (omega arith)

        start_is : ok n ≡ start_of structs packed here_type k.offset
        start_is = ap offset_result (sym q) ∙ o.answer ∙ ap (λ (x : List Entry). start_of structs packed (ty_of m x) k.offset) (entries_part k.at bk bw)

        start_most : n ≤ k.offset + 8
        start_most = subst (StartsBy (k.offset + 8)) q o.most

        module _ {work'' : List ℕ} (s : Measured) (u : Outcome m es work' work'' (sizes structs (ty_of m (lent bk bw k.at))) 64 s) (c h : ℕ) (e : s ≡ bytes_of c h) where
          gives : Gives (sizes structs here_type) 64 c h
          gives = gives_at s e _ 64 (part_type (sizes structs) m bk bw k.at 64 s u.says)

          pub next_fits : n + c ≤ 2 ^ 47
          next_fits = omega (arith, start_most, a.best.fact.small, size_small structs here_type gives.within gives.known)

          pub field_passed : n + c ≤ 16777216 → k.index < index → (len : ℕ) → len ≡ ty_len m (lent bk bw k.at)
              → Best m es packed p index (record { index = k.index + 1; at = k.at + len; offset = n + c })
          field_passed l w len en =
              let g = behind_next now z n c start_is (gives.known.high 64 gives.within) in
              rw (skipped m bk bw k.at known_place z len en) (record { fact = fact_of g l; before = omega arith })
