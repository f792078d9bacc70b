-- A fixed place: "Fixed stack places follow type alignment"; 7 where it ends above 2^31.
use Rattle.std.specs.Prelude.{ℕ, ◌+◌, ◌-◌, ◌*◌, ◌<◌, ◌≤◌, ◌^◌, min, ◌≡◌, refl, true, false, List, length, set, leb, Ok, Err}
use Rattle.std.proofs.Common.{sym, ap, arith, le-leb}
use Rattle.std.proofs.lemmas.Bool.{lt-leb}
use Rattle.numbers.specs.Align.{align_up}
use Rattle.book.specs.declared.refusal.Refusal.TheVariants as refusal
use Rattle.book.specs.Work.{place_at}
use Rattle.gen_lines.specs.Puts.{or_else}
use Rattle.gen_frame.specs.Frames.{Framing}
use Rattle.gen_frame.specs.declared.Frame.{Frame}

-- ---- one place more
pub record SmallPlace (name align : ℕ) (f : Frame) (work : List ℕ) : Type 0 where
  pub room : place_at name < length work
  pub ends : f.off ≤ 2147483648
  pub aligned : align ≤ 8

module _ (align size count : ℕ) (f : Frame) where
  abbrev pub start_of : ℕ
  start_of = align_up f.off align

  abbrev pub end_of : ℕ
  end_of = start_of + size * count

  abbrev pub made_by : Frame
  made_by = record { slots = f.slots; off = end_of; dynamic = f.dynamic }

  abbrev pub fixed_by : Framing
  fixed_by = or_else (leb end_of (2 ^ 31)) (Ok made_by) (Err refusal.TooLarge)

  abbrev pub fixed_words : (name : ℕ) → List ℕ → List ℕ
  fixed_words name work = or_else (leb end_of (2 ^ 31)) (set work (place_at name) (start_of + 1)) work

  -- what the code does, by the place's start and its end, which do not wrap
  module _ (name : ℕ) (work : List ℕ) {start product end : ℕ} (s : start ≡ start_of) (p : product ≡ min (size * count) (2 ^ 64 - 1)) (e : end ≡ min (start + product) (2 ^ 64 - 1)) where
    pub fixed_over : 2147483648 < end → (Err refusal.TooLarge ≡ fixed_by) × (work ≡ fixed_words name work)
    fixed_over l = let q : leb end_of (2 ^ 31) ≡ false = lt-leb end_of (2 ^ 31) (omega arith) in (sym (rw q refl), sym (rw q refl))

    pub fixed_at : end ≤ 2147483648
        → (Ok (record { slots = f.slots; off = end; dynamic = f.dynamic }) ≡ fixed_by) × (set work (place_at name) (start + 1) ≡ fixed_words name work)
    fixed_at l =
        let q : leb end_of (2 ^ 31) ≡ true = le-leb end_of (2 ^ 31) (omega arith) in
        let d : end ≡ end_of = omega arith in
        (rw q (ap (λ x. Ok (record { slots = f.slots; off = x; dynamic = f.dynamic })) d), rw q (ap (λ x. set work (place_at name) (x + 1)) s))
