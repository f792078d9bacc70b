-- The answer of the whole check, and the laws that lead to it.
use Rattle.std.specs.Prelude.{ℕ, ◌-◌, ◌/◌, ◌≤◌, ◌<◌, ◌^◌, Bool, ◌&&◌, ◌||◌, replicate, get_or, leb}
use Rattle.std.proofs.Math.Path.{◌≡◌, refl, ap, sym, fun_ext}
use Rattle.std.proofs.Common.{◌∙◌, subst, arith}
use Rattle.std.proofs.Math.Bool.{true, false, and-false, or-false}
use Rattle.std.proofs.Math.Option.{Option, none, some}
use mathlib.Core.List.{List, [], ◌∷◌}
use borrow.Author.Tests.{le-leb, lt-leb, eq-eqb, leb-true, leb-false, ltb-true, ltb-false, le-ltb}
use Rattle.std.proofs.Math.ListN.{length, length-replicate, get_or-eq_default}
use Rattle.std.proofs.Math.Dec.{ltb}
use Rattle.numbers.specs.Bits.{bit_none}
use Rattle.names.specs.Text.{bytes, starts}
use Rattle.names.specs.Name.{name_at, names_of, lines, counts, accepted}
use Rattle.names.specs.Spelling.{is_intrinsic}
use Rattle.names.specs.Prefix.{first_with, past_with}
use Rattle.names.specs.Lines.{accepted_iff, names_lines}
use Rattle.names.specs.Ranges.{range_test, range_order}
use Rattle.names_check.specs.Read.{Names, names_read, sorted_read, bad_read}
use Rattle.names_check.specs.Read as names
use Rattle.names_check.specs.Nexts.{Noted}
use Rattle.book.specs.Ast.{Book}
use Rattle.book.specs.Decode.{member}
use Rattle.book.specs.Result.{bind, ok_or, given, require}
use Rattle.book.specs.Input.{Counted, book_in, names_in}
use Rattle.book.specs.Forbidden.{any, reserved_by, uncallable, forbidden_function, forbidden}
use Rattle.book.specs.Check.{work_for, checked, refusal_of}
use Rattle.book_marks.specs.Range.{bit_range}
use Rattle.book_check.specs.Whole.{there, barred_with, barred_range, reading_in, Holds, slice_holds}
use Rattle.std.specs.Prelude as code
use Rattle.std.specs.Prelude.{Some, None, Result, Ok, Err, IsOk}
use Rattle.book.specs.Refusal.{number_of}
use Rattle.book.specs.declared.refusal.Refusal.{Refusal}
use Rattle.book.specs.declared.refusal.Refusal.TheVariants as refusal

-- the answer of a check
abbrev pub Answer : Type 0
Answer = Result (Unit {0}) Refusal

-- document 01's number of an answer; 0 is a sound book
abbrev pub answer_number : Answer → ℕ
answer_number (Ok u) = 0
answer_number (Err e) = number_of e

-- the answer to what was read, in document 01's order
abbrev pub pick_verdict : Bool → Answer → Answer → Answer
pick_verdict true a b = a
pick_verdict false a b = b

abbrev pub names_verdict : Bool → Bool → ℕ → ℕ → Answer
names_verdict false x m work = Err refusal.Names
names_verdict true x m work = pick_verdict x (Err refusal.Forbidden) (pick_verdict (leb (work_for m) work) (Ok tt) (Err refusal.Work))

abbrev pub verdict_of : code.Option Bool → Bool → ℕ → ℕ → ℕ → Answer
verdict_of None named counter m work = Err refusal.Book
verdict_of (Some x) named counter m work = pick_verdict (leb counter (2 ^ 32)) (names_verdict named x m work) (Err refusal.Book)

-- the bytes of `llvm.`
abbrev pub intrinsic : List ℕ
intrinsic = 108 ∷ 108 ∷ 118 ∷ 109 ∷ 46 ∷ []

-- ---- the names that may not be called
module _ (bs : List ℕ) (ns : List (List ℕ)) (en : names_of bs ≡ some ns) where
  abbrev from : ℕ
  from = first_with intrinsic (lines bs)

  abbrev to : ℕ
  to = past_with intrinsic (lines bs)

  past_fits : to ≤ length ns
  past_fits = rw (names_lines bs ns en) (range_order intrinsic ns).1

  in_range_lem : (x : ℕ) → (leb from x && ltb x to) ≡ is_intrinsic (name_at ns x)
  unfolding is_intrinsic bytes name_at starts
  in_range_lem x = go (ltb x (length ns)) refl
    where
      go : (t : Bool) → ltb x (length ns) ≡ t → (leb from x && ltb x to) ≡ is_intrinsic (name_at ns x)
      go true e = range_test intrinsic bs ns _ _ en (record { first = refl; past = refl }) x (ltb-true x (length ns) e)
      go false e =
          let l : length ns ≤ x = ltb-false x (length ns) e in
          rw (le-ltb x to (omega (arith, past_fits)), get_or-eq_default ns [] l) (and-false (leb from x))

  -- by their bits
  uncallable_bits : length ns ≤ 131072 → (b : Book) (x : ℕ) → barred_with (barred_range from to) b x ≡ uncallable ns b.marks x
  unfolding uncallable
  uncallable_bits few b x =
      ap (λ t. member x (reserved_by b.marks) || t)
      (bit_range (replicate 2048 0) from to (omega (arith, past_fits, length-replicate {A = ℕ} 2048 0)) x ∙ rw (in_range_lem x, bit_none 2048 x) (or-false (is_intrinsic (name_at ns x))))

  pub book_forbidden : length ns ≤ 131072 → (b : Book) → any (forbidden_function (barred_with (barred_range from to) b)) b.functions ≡ forbidden ns b
  unfolding forbidden
  book_forbidden few b = ap (λ t. any (forbidden_function t) b.functions) (fun_ext (uncallable_bits few b))

-- ---- the refusals in order
module _ (s bs : List ℕ) (counter work : ℕ) where
  abbrev pub says : ℕ → Type 0
  says n = n ≡ refusal_of (checked s bs counter work)

  pub says_book : there (book_in s) ≡ false → says 1
  unfolding checked refusal_of bind ok_or
  says_book h = go (book_in s) refl h
    where
      go : (o : Option Counted) → book_in s ≡ o → there o ≡ false → says 1
      go none e t = sym (rw e)
      go (some c) e t = absurd (let z : ◌≡◌ {A = ℕ} 0 1 = cc in omega arith)

  module _ (c : Counted) (ec : book_in s ≡ some c) where
    pub says_counter : 2 ^ 32 < counter → says 1
    unfolding checked refusal_of bind ok_or require given
    says_counter h = sym (rw (ec, lt-leb counter (2 ^ 32) h))

    module _ (fits : counter ≤ 2 ^ 32) where
      pub says_names : accepted bs c.count ≡ false → says 2
      unfolding checked refusal_of bind ok_or require given names_in accepted
      says_names h = sym (rw (ec, le-leb counter (2 ^ 32) fits, h))

      module _ (ns : List (List ℕ)) (en : names_of bs ≡ some ns) (el : length ns ≡ c.count) where
        names_in_lem : names_in c.count bs ≡ some ns
        unfolding names_in counts
        names_in_lem = rw (en, eq-eqb (length ns) c.count el)

        pub says_barred : forbidden ns c.book ≡ true → says 3
        unfolding checked refusal_of bind ok_or require given
        says_barred h = sym (rw (ec, le-leb counter (2 ^ 32) fits, names_in_lem, h))

        module _ (free : forbidden ns c.book ≡ false) where
          pub says_work : work < work_for c.count → says 4
          unfolding checked refusal_of bind ok_or require given
          says_work h = sym (rw (ec, le-leb counter (2 ^ 32) fits, names_in_lem, free, lt-leb (work_for c.count) work h))

          pub says_sound : work_for c.count ≤ work → says 0
          unfolding checked refusal_of bind ok_or require given
          says_sound h = sym (rw (ec, le-leb counter (2 ^ 32) fits, names_in_lem, free, le-leb (work_for c.count) work h))

-- ---- the whole answer
module _ (s bs : List ℕ) (counter work : ℕ) where
  module _ (c : Counted) (ec : book_in s ≡ some c) (fits : counter ≤ 2 ^ 32) where
    holds : Holds s c
    holds = slice_holds s c ec

    sized : (ns : List (List ℕ)) → names_of bs ≡ some ns → length ns ≡ c.count → (v : Bool) → forbidden ns c.book ≡ v → (t : Bool) → leb (work_for (get_or s 1 0)) work ≡ t
        → says s bs counter work (answer_number (pick_verdict v (Err refusal.Forbidden) (pick_verdict t (Ok tt) (Err refusal.Work))))
    sized ns en el true ev t et = says_barred s bs counter work c ec fits ns en el ev
    sized ns en el false ev true et = says_sound s bs counter work c ec fits ns en el ev (rw holds.count (leb-true _ _ et))
    sized ns en el false ev false et = says_work s bs counter work c ec fits ns en el ev (rw holds.count (leb-false _ _ et))

    listed : accepted bs (get_or s 1 0) ≡ true
        → says s bs counter work (answer_number (names_verdict true (any (forbidden_function (barred_with (barred_range (first_with intrinsic (lines bs)) (past_with intrinsic (lines bs))) c.book)) c.book.functions) (get_or s 1 0) work))
    listed eu =
        let n = (accepted_iff bs (get_or s 1 0)).0 eu in
        let el : length n.0 ≡ c.count = n.2 ∙ sym holds.count in
        let f = book_forbidden bs n.0 n.1 (omega (arith, el, holds.few)) c.book in
        sized n.0 n.1 el _ (sym f) (leb (work_for (get_or s 1 0)) work) refl

    not_listed : accepted bs (get_or s 1 0) ≡ false → says s bs counter work 2
    not_listed eu = says_names s bs counter work c ec fits (ap (accepted bs) holds.count ∙ eu)

  -- a book or none, with a counter or another
  by_book : (named : Bool) (from to : ℕ)
      → ((c : Counted) → book_in s ≡ some c → counter ≤ 2 ^ 32 → says s bs counter work (answer_number (names_verdict named (any (forbidden_function (barred_with (barred_range from to) c.book)) c.book.functions) (get_or s 1 0) work)))
      → says s bs counter work (answer_number (verdict_of (reading_in (barred_range from to) (book_in s)) named counter (get_or s 1 0) work))
  by_book named from to next = book (book_in s) refl
    where
      book : (o : Option Counted) → book_in s ≡ o → says s bs counter work (answer_number (verdict_of (reading_in (barred_range from to) o) named counter (get_or s 1 0) work))
      book none e = says_book s bs counter work (ap there e)
      book (some c) e = counted (leb counter (2 ^ 32)) refl
        where
          counted : (t : Bool) → leb counter (2 ^ 32) ≡ t → says s bs counter work (answer_number (pick_verdict t (names_verdict named (any (forbidden_function (barred_with (barred_range from to) c.book)) c.book.functions) (get_or s 1 0) work) (Err refusal.Book)))
          counted true et = next c e (leb-true counter (2 ^ 32) et)
          counted false et = says_counter s bs counter work c e (leb-false counter (2 ^ 32) et)

-- ---- the arms of the code
-- a work slice is long enough: by a division, so that nothing can overflow
pub work_test : (m w : ℕ) → 64 ≤ w → leb m ((w - 64) / 8) ≡ leb (work_for m) w
work_test m w h = go (leb (work_for m) w) refl
  where
    go : (t : Bool) → leb (work_for m) w ≡ t → leb m ((w - 64) / 8) ≡ t
    go true e = le-leb m ((w - 64) / 8) (omega (arith, leb-true (work_for m) w e))
    go false e = lt-leb m ((w - 64) / 8) (omega (arith, leb-false (work_for m) w e))

pub work_short : (m w : ℕ) → w < 64 → false ≡ leb (work_for m) w
work_short m w h = sym (lt-leb (work_for m) w (omega arith))

pub no_count : (s : List ℕ) → length s < 2 → 0 ≡ get_or s 1 0
no_count [] h = refl
no_count (n ∷ []) h = refl
no_count (n ∷ (m ∷ es)) h = absurd (omega arith)

-- bytes that are no list of names are not sound
never_sound : (rd : code.Option Bool) (counter m work : ℕ) → IsOk (verdict_of rd false counter m work) → ⊥
never_sound None counter m work e = let z : ◌≡◌ {A = ℕ} 0 1 = cc in omega arith
never_sound (Some x) counter m work e = go (leb counter (2 ^ 32)) e
  where
    go : (t : Bool) → IsOk (pick_verdict t (Err refusal.Names) (Err refusal.Book)) → ⊥
    go true f = let z : ◌≡◌ {A = ℕ} 0 1 = cc in omega arith
    go false f = let z : ◌≡◌ {A = ℕ} 0 1 = cc in omega arith

-- the whole, over what the code has at hand
module _ (s bs : List ℕ) (counter work count : ℕ) (ec : count ≡ get_or s 1 0) (nm : Names)
    (en : nm ≡ names_read (accepted bs count) (first_with intrinsic (lines bs)) (past_with intrinsic (lines bs))) where
  named : nm ≡ names_read (accepted bs (get_or s 1 0)) (first_with intrinsic (lines bs)) (past_with intrinsic (lines bs))
  named = en ∙ ap (λ n. names_read (accepted bs n) (first_with intrinsic (lines bs)) (past_with intrinsic (lines bs))) ec

  at_count : (r : code.Option Bool) (b : Bool) (v : Answer) → v ≡ verdict_of r b counter count work → v ≡ verdict_of r b counter (get_or s 1 0) work
  at_count r b v ev = ev ∙ ap (λ n. verdict_of r b counter n work) ec

  pub check_sorted : (from to : ℕ) → nm ≡ names.Sorted from to → (rd : code.Option Bool) → rd ≡ reading_in (barred_range from to) (book_in s) → (v : Answer) → v ≡ verdict_of rd true counter count work → says s bs counter work (answer_number v)
  check_sorted from to h rd er v ev =
      let l = sorted_read (accepted bs (get_or s 1 0)) (first_with intrinsic (lines bs)) (past_with intrinsic (lines bs)) from to (sym named ∙ h) in
      let r : rd ≡ reading_in (barred_range (first_with intrinsic (lines bs)) (past_with intrinsic (lines bs))) (book_in s) = er ∙ ap (λ x. reading_in (barred_range x to) (book_in s)) l.1.0 ∙ ap (λ x. reading_in (barred_range (first_with intrinsic (lines bs)) x) (book_in s)) l.1.1 in
      ap answer_number (at_count rd true v ev ∙ ap (λ x. verdict_of x true counter (get_or s 1 0) work) r)
      ∙ by_book s bs counter work true (first_with intrinsic (lines bs)) (past_with intrinsic (lines bs)) (λ c e f. listed s bs counter work c e f l.0)

  pub check_bad : nm ≡ names.Bad → (rd : code.Option Bool) → rd ≡ reading_in (barred_range 0 0) (book_in s) → (v : Answer) → v ≡ verdict_of rd false counter count work → says s bs counter work (answer_number v)
  check_bad h rd er v ev =
      ap answer_number (at_count rd false v ev ∙ ap (λ x. verdict_of x false counter (get_or s 1 0) work) er)
      ∙ by_book s bs counter work false 0 0 (λ c e f. not_listed s bs counter work c e f (bad_read (accepted bs (get_or s 1 0)) (first_with intrinsic (lines bs)) (past_with intrinsic (lines bs)) (sym named ∙ h)))

  -- what was noted of a list of names
  pub noted_sorted : (from to : ℕ) → nm ≡ names.Sorted from to → {nexts nexts' : List ℕ} → (accepted bs count ≡ true → Noted 8 5 bs count nexts nexts')
      → Noted 8 5 bs (get_or s 1 0) nexts nexts'
  noted_sorted from to h noted = rw ec at (noted (sorted_read (accepted bs count) (first_with intrinsic (lines bs)) (past_with intrinsic (lines bs)) from to (sym en ∙ h)).0)

  pub unnamed : (rd : code.Option Bool) → rd ≡ reading_in (barred_range 0 0) (book_in s) → (v : Answer) → v ≡ verdict_of rd false counter count work → IsOk v → ⊥
  unnamed rd er v ev sound = never_sound rd counter count work (subst IsOk ev sound)
