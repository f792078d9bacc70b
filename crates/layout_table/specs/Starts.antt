-- Where the field at a place starts: its alignment is noted, or measured and noted.
use Rattle.std.specs.Prelude.{ℕ, ◌+◌, ◌≤◌, ◌≡◌, refl, Bool, false, List, length, drop}
use Rattle.std.proofs.Common.{sym, ◌∙◌, subst, arith}
use Rattle.std.proofs.Math.Path.{ap}
use Rattle.book.specs.Entry.{Entry, entries}
use Rattle.book.specs.Ast.{Ty, StructType}
use Rattle.book.specs.Result.{ok, bind}
use Rattle.book_types.specs.Laws.{entries_part, within_kinds, within_words}
use Rattle.layout.specs.Layout.{placed, align_in, align_of}
use Rattle.layout_memo.specs.Front.{Starts, ty_of}
use Rattle.layout_memo.specs.Work.{structs_in, aligns, After, Outcome, AlignFact, after_none, after_then, aligned_small}
use Rattle.layout_memo.specs.Helpers.{gives_at}
use Rattle.layout_memo.specs.Calls.{lent, ask_part, part_type}
use Rattle.layout_memo.specs.Measured.{Measured, bytes_of}
use Rattle.layout_size.specs.Sums.{SmallSum, placed_most}
use Rattle.layout_field.specs.Offsets.{Offset, start_of, AskStart, StartOutcome, start_refused, start_small, start_at}
use Rattle.std.specs.Prelude.{Ok, Err}
use Rattle.book.specs.declared.refusal.Refusal.{Refusal}
use Rattle.layout_table.specs.Table.{AskTypeAt, AskNoteAlign, type_below}

-- a type at a place of the lent slices
module _ {m : ℕ} (bk bw : List ℕ) {work : List ℕ} {p : ℕ} (k : AskTypeAt m (entries bk bw) work p) where
  pub type_kinds : p + 1 ≤ length bk
  type_kinds = within_kinds (p + 1) bk bw (omega (arith, type_below k))

  pub type_words : p + 1 ≤ length bw
  type_words = within_words (p + 1) bk bw (omega (arith, type_below k))

  pub type_starts : Starts m (lent bk bw p)
  type_starts = subst (Starts m) (sym (entries_part p bk bw)) k.front

module _ {m : ℕ} (bk bw : List ℕ) {work : List ℕ} (p : ℕ) {off : ℕ} (k : AskStart m (drop p (entries bk bw)) (entries bk bw) work off) where
  pub type_ask : AskTypeAt m (entries bk bw) work p
  type_ask = record { front = k.ask.front; ready = k.ask.ready }

  pub start_ask : AskStart m (lent bk bw p) (entries bk bw) work off
  start_ask = record { ask = ask_part bk bw p k.ask.front k.ask.ready (omega arith); small = k.small }

module _ (m : ℕ) (bk bw work : List ℕ) (p : ℕ) (packed : Bool) (off : ℕ) (k : AskStart m (drop p (entries bk bw)) (entries bk bw) work off) where
  abbrev es : List Entry
  es = entries bk bw

  abbrev structs : List StructType
  structs = structs_in m es

  abbrev field : Ty
  field = ty_of m (drop p es)

  -- the answer for the part is that for the place
  pub start_part : {work' : List ℕ} {r : Offset} → StartOutcome m es work work' off (start_of structs packed (ty_of m (lent bk bw p)) off) r
      → StartOutcome m es work work' off (start_of structs packed field off) r
  start_part {work'} {r} o = subst (λ (x : List Entry). StartOutcome m es work work' off (start_of structs packed (ty_of m x) off) r) (entries_part p bk bw) o

  module _ (e : packed ≡ false) where
    -- the alignment is noted
    module _ (a : ℕ) (f : AlignFact m es p a) where
      pub noted_small : SmallSum off a
      noted_small = (k.small, (aligned_small structs field f.aligned).1)

      pub start_noted : (n : ℕ) → n ≡ placed packed off a → StartOutcome m es work work off (start_of structs packed field off) (Ok n)
      unfolding start_of align_in bind
      start_noted n en =
          record { answer = ap ok en ∙ rw (e, f.aligned) refl; most = omega (arith, placed_most packed off a noted_small.1); after = after_none k.ask.ready }

    -- it is measured
    module _ {work' : List ℕ} (r : Measured) (o : Outcome m es work work' (aligns structs (ty_of m (lent bk bw p))) 64 r) where
      pub measured_refused : (x : Refusal) → r ≡ Err x → StartOutcome m es work work' off (start_of structs packed field off) (Err x)
      measured_refused x q = start_part (start_refused m (lent bk bw p) es work packed off (start_ask bk bw p k) e r o x q)

      module _ (a h : ℕ) (q : r ≡ bytes_of a h) where
        measured_fact : AlignFact m es p a
        unfolding align_of
        measured_fact =
            let g = gives_at r q _ 64 (part_type (aligns structs) m bk bw p 64 r o.says) in
            record { aligned = g.known.high 64 g.within }

        pub measured_note : AskNoteAlign m es work' p a
        measured_note = record { ask = record { front = k.ask.front; ready = o.after.ready }; fact = measured_fact }

        pub measured_small : SmallSum off a
        measured_small = start_small m (lent bk bw p) es work packed off (start_ask bk bw p k) e r o a h q

        pub measured_start : {work'' : List ℕ} → After m es work' work'' → (n : ℕ) → n ≡ placed packed off a
            → StartOutcome m es work work'' off (start_of structs packed field off) (Ok n)
        measured_start f n en =
            let s = start_part (start_at m (lent bk bw p) es work packed off (start_ask bk bw p k) e r o a h q n en) in
            record { answer = s.answer; most = s.most; after = after_then s.after f }
