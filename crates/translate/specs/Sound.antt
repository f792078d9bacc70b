-- What the check's answer says of a call: one of the first four refusals, or a sound book with its entries, names and work words.
use Rattle.std.specs.Prelude.{ℕ, ◌+◌, ◌-◌, ◌*◌, ◌≤◌, ◌^◌, Bool, not, List, [], length, get_or, take, drop, replicate, leb, Err}
use Rattle.std.proofs.Math.Path.{◌≡◌, refl, sym, ap, subst}
use Rattle.std.proofs.Common.{◌∙◌, arith, leb-true, length-take, length-drop}
use Rattle.std.proofs.Math.Bool.{true, false}
use Rattle.std.proofs.Math.Option.{Option, none, some}
use Rattle.std.proofs.lemmas.List.{length-replicate}
use Rattle.names.specs.Name.{names_of, counts}
use Rattle.names.specs.Lines.{accepted_iff}
use Rattle.names_check.specs.Nexts.{Noted, NextsAlone, nexts_alone}
use Rattle.book.specs.Entry.{entries}
use Rattle.book.specs.Refusal.{number_of, number_positive}
use Rattle.book.specs.declared.refusal.Refusal.{Refusal}
use Rattle.book.specs.Rule.{pick}
use Rattle.book.specs.Decode.{decode}
use Rattle.book.specs.Encode.{encode}
use Rattle.book.proofs.AgreeBook.{decode_complete}
use Rattle.book.specs.Forbidden.{forbidden}
use Rattle.book.specs.Input.{Counted, book_in, names_in}
use Rattle.book.specs.Result.{Result, ok, err, bind, ok_or, require, bind_ok, given_ok}
use Rattle.book.specs.Check.{Sound, work_for, checked, refusal_of}
use Rattle.book_types.specs.Laws.{length_entries}
use Rattle.book_check.specs.Whole.{Holds, slice_holds, slice_parts}
use Rattle.lowering.specs.Gen.{Out}
use Rattle.lowering.specs.Context.{codegen_of}
use Rattle.lowering.specs.Function.{gen_functions}
use Rattle.lowering.specs.Numbers.{refusal_range, checked_numbered}
use Rattle.lowering.proofs.Printable.{Lent, checked_lent, names_counted}
use Rattle.lowering.specs.Translate.{generated}
use Rattle.gen_passes.specs.Passes.{fitted, Answered}
use Rattle.gen_passes.specs.Generate.{GenerateAsk}
use Rattle.gen_passes.specs.Reply.{Reply}
use Rattle.gen_slices.specs.Clear.{Blank, clear_blank}

-- ---- the check's refusals
module _ (book names : List ℕ) (counter work : ℕ) where
  -- a refusal by its number
  refused_by : (n : ℕ) → n ≡ refusal_of (checked book names counter work) → 1 ≤ n → checked book names counter work ≡ err n
  unfolding refusal_of
  refused_by n e l = go (checked book names counter work) refl
    where
      go : (r : Result Sound) → checked book names counter work ≡ r → checked book names counter work ≡ err n
      go (ok s) i = absurd (let z : n ≡ 0 = e ∙ ap refusal_of i in omega arith)
      go (err x) i = let z : x ≡ n = sym (e ∙ ap refusal_of i) in i ∙ ap err z

  -- it is the answer
  pub refused_answer : (x : Refusal) → number_of x ≡ refusal_of (checked book names counter work) → (k : ℕ) (ks os : List ℕ)
      → Answered (generated book names counter work k) (Err x) ks os ks os
  unfolding generated bind
  refused_answer x e k ks os =
      rw (refused_by (number_of x) e (omega (arith, number_positive x))) (record { refusal = x; reply = refl; number = refl; kinds = refl; operands = refl })

  -- a sound book
  pub sound_by : 0 ≡ refusal_of (checked book names counter work) → (s : Sound) × (checked book names counter work ≡ ok s)
  unfolding refusal_of
  sound_by e = go (checked book names counter work) refl
    where
      go : (r : Result Sound) → checked book names counter work ≡ r → (s : Sound) × (checked book names counter work ≡ ok s)
      go (ok s) i = (s, i)
      go (err x) i = let z : x ≡ 0 = sym (e ∙ ap refusal_of i) in absurd (let l = refusal_range x ((checked_numbered book names counter work).numbered x i) in omega arith)

-- ---- a sound book, for a work slice of so many words
module _ (book names : List ℕ) (counter lent : ℕ) (e : 0 ≡ refusal_of (checked book names counter lent)) where
  abbrev sound : Sound
  sound = (sound_by book names counter lent e).0

  sound_is : checked book names counter lent ≡ ok sound
  sound_is = (sound_by book names counter lent e).1

  sound_lent : Lent book names sound
  sound_lent = checked_lent book names counter lent sound sound_is

  sound_holds : Holds book sound_lent.counted
  sound_holds = slice_holds book sound_lent.counted sound_lent.read

  -- they are enough for its names
  sound_room : work_for (get_or book 1 0) ≤ lent
  unfolding checked ok_or
  sound_room =
      let b = bind_ok (ok_or 1 (book_in book)) _ sound sound_is in
      let c = bind_ok (require (leb counter (2 ^ 32)) 1) _ sound b.2 in
      let n = bind_ok (ok_or 2 (names_in b.0.count names)) _ sound c.2 in
      let f = bind_ok (require (not (forbidden n.0 b.0.book)) 3) _ sound n.2 in
      let w = given_ok (leb (work_for b.0.count) lent) 4 _ sound f.2 in
      let e : b.0 ≡ sound_lent.counted = found (book_in book) b.1 sound_lent.read in
      let r : work_for sound_lent.counted.count ≤ lent = subst (λ (x : Counted). work_for x.count ≤ lent) e (leb-true _ _ w.0) in
      omega (arith, r, sound_holds.count)
    where
      found : (o : Option Counted) {x y : Counted} → ok_or 1 o ≡ ok x → o ≡ some y → x ≡ y
      found none p q = absurd (let z : ◌≡◌ {A = ℕ} 0 1 = cc in omega arith)
      found (some z) p q = cc

-- ---- the call of a sound book: a slice of `lent` words was lent, and the words that are used are enough
pub record SoundAsk (book names : List ℕ) (counter lent : ℕ) (work : List ℕ) : Type 0 where
  pub sound : 0 ≡ refusal_of (checked book names counter lent)
  pub room : work_for (get_or book 1 0) ≤ length work
  pub words : NextsAlone 8 5 names (get_or book 1 0) work

module _ {book names : List ℕ} {counter lent : ℕ} {work : List ℕ} (a : SoundAsk book names counter lent work) where
  abbrev pub s : Sound
  s = sound book names counter lent a.sound

  is : checked book names counter lent ≡ ok s
  is = sound_is book names counter lent a.sound

  own : Lent book names s
  own = sound_lent book names counter lent a.sound

  holds : Holds book own.counted
  holds = slice_holds book own.counted own.read

  -- the parts that the code lends
  abbrev kinds : List ℕ
  kinds = take (2 + get_or book 0 0 - 2) (drop 2 book)

  abbrev words : List ℕ
  words = take (length book - (2 + get_or book 0 0)) (drop (2 + get_or book 0 0) book)

  pub size : length book ≡ 2 + 2 * get_or book 0 0
  size = holds.size

  pub most : get_or book 0 0 ≤ 1048576
  most = holds.most

  count_few : get_or book 1 0 ≤ 131072
  count_few = omega (arith, holds.count, holds.few)

  written : entries kinds words ≡ encode own.counted.book
  written = slice_parts [] book (omega (arith, size)) most count_few size ∙ holds.written

  pub decoded : decode (get_or book 1 0) (entries kinds words) ≡ some s.book
  decoded =
      ap (decode (get_or book 1 0)) written
      ∙ subst (λ (m : ℕ). decode m (encode own.counted.book) ≡ some own.counted.book) holds.count (decode_complete own.counted.count own.counted.book holds.limits)
      ∙ ap some own.same

  pub named : names_of names ≡ some s.names
  unfolding names_in
  named = go (counts own.counted.count (names_of names)) own.spelled
    where
      go : (b : Bool) → pick b (names_of names) none ≡ some s.names → names_of names ≡ some s.names
      go true e = e
      go false e = absurd (let z : ◌≡◌ {A = ℕ} 0 1 = cc in omega arith)

  pub generate_ask : GenerateAsk names (get_or book 1 0) kinds words work
  generate_ask =
      record {
        ask = record {
          names = (accepted_iff names (get_or book 1 0)).1 (s.names, named, names_counted own.counted.count names s.names own.spelled ∙ holds.count);
          book = record { book = s.book; says = decoded; few = omega (arith, length_entries kinds words, length-take (2 + get_or book 0 0 - 2) (drop 2 book), most) };
          room = a.room;
          words = a.words;
        };
        even = omega (
          arith,
          size,
          length-take (2 + get_or book 0 0 - 2) (drop 2 book),
          length-drop 2 book,
          length-take (length book - (2 + get_or book 0 0)) (drop (2 + get_or book 0 0) book),
          length-drop (2 + get_or book 0 0) book,
        );
      }

  -- what is generated
  generated_is : (k : ℕ) → generated book names counter lent k ≡ fitted (gen_functions (codegen_of s.names s.book) s.book.functions counter) k
  unfolding generated bind
  generated_is k = ap (λ (r : Result Sound). bind r (λ s. fitted (gen_functions (codegen_of s.names s.book) s.book.functions counter) k)) is

  pub sound_answer : (k : ℕ) (q : Reply) (ks os ks' os' : List ℕ) → Answered (fitted (gen_functions (codegen_of s.names s.book) s.book.functions counter) k) q ks os ks' os'
      → Answered (generated book names counter lent k) q ks os ks' os'
  sound_answer k q ks os ks' os' h = subst (λ (g : Result Out). Answered g q ks os ks' os') (sym (generated_is k)) h

-- ---- words that are 0, and enough of them where those that were lent are enough
pub record BlankAsk (book : List ℕ) (lent : ℕ) (work : List ℕ) : Type 0 where
  pub blank : Blank work
  pub enough : work_for (get_or book 1 0) ≤ lent → work_for (get_or book 1 0) ≤ length work

-- the lent words themselves
pub blank_lent : (book : List ℕ) {work : List ℕ} → Blank work → BlankAsk book (length work) work
blank_lent book z = record { blank = z; enough = λ l. l }

-- words of our own
pub blank_own : (book : List ℕ) (lent n : ℕ) → work_for (get_or book 1 0) ≤ n → BlankAsk book lent (replicate n 0)
blank_own book lent n l = record { blank = clear_blank n (replicate n 0) refl; enough = λ _. omega (arith, l, length-replicate {A = ℕ} n 0) }

-- after the check
pub sound_ask : (book names : List ℕ) (counter lent : ℕ) {work work' : List ℕ} → Noted 8 5 names (get_or book 1 0) work work' → 0 ≡ refusal_of (checked book names counter lent)
    → BlankAsk book lent work → SoundAsk book names counter lent work'
sound_ask book names counter lent n e z =
    record { sound = e; room = omega (arith, z.enough (sound_room book names counter lent e), n.long); words = nexts_alone n z.blank }
