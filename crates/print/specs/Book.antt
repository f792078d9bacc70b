-- The slice of a sound book: how many entries and names it has, its kinds and its words.
use Prim.Native.Nat.{ℕ, suc, ◌+◌, ◌-◌, ◌*◌, ◌≤◌}
use Rattle.std.specs.Prelude.{◌≡◌, refl, Bool, ◌&&◌, leb, length, get_or, take, drop, Result}
use Rattle.std.proofs.Common.{ap, le_of_eq, length-drop, length-take, take_all}
use Rattle.std.proofs.Math.Path.{subst}
use Rattle.std.proofs.Math.Bool.{true, false}
use Rattle.std.proofs.lemmas.Bool.{false≢true}
use Rattle.std.proofs.Math.Option.{Option, none, some}
use mathlib.Core.List.{List, [], ◌∷◌}
use native.Mathlib.Omega.{arith}
use borrow.Author.Tests.{eqb-true, leb-true}
use Rattle.std.proofs.Math.Dec.{eqb}
use Rattle.names.specs.Tests.{both}
use Rattle.book.specs.Ast.{Book}
use Rattle.book.specs.Entry.{entries}
use Rattle.book.specs.Rule.{pick}
use Rattle.book.specs.Input.{counted, book_in}
use Rattle.book.specs.Decode.{decode}
use Rattle.assembly.specs.Printer.{Printing, needed, print}
use Rattle.print_forms.specs.Allowed.{is_some}
use Rattle.print.specs.Heads.{Decoded, book_at, book_is}
use Rattle.print.specs.Reply.{Prints}
use Rattle.print.specs.Passes.{with_names}
use Rattle.book.specs.declared.refusal.Refusal.{Refusal}

pub record Booked (book : List ℕ) : Type 0 where
  pub some : is_some (book_in book) ≡ true

-- what the slice of a sound book says
pub record Slices (book : List ℕ) (b : Book) : Type 0 where
  pub long : 2 ≤ length book
  pub few : get_or book 1 0 ≤ 131072
  pub short : get_or book 0 0 ≤ 1048576
  pub size : length book ≡ 2 * get_or book 0 0 + 2
  pub read : decode (get_or book 1 0) (entries (take (get_or book 0 0) (drop 2 book)) (drop (get_or book 0 0 + 2) book)) ≡ some b
  pub is : book_in book ≡ some (record { count = get_or book 1 0; book = b })

module _ (book : List ℕ) (d : Booked book) where
  slices : (b : Book) × Slices book b
  unfolding book_in counted
  slices = go book d.some
    where
      split : (n m : ℕ) (es : List ℕ) (t : Bool) → (leb n 1048576 && (leb m 131072 && eqb (length es) (2 * n))) ≡ t → (o : Option Book) → decode m (entries (take n es) (drop n es)) ≡ o
          → is_some (pick t (counted m o) none) ≡ true → book_in (n ∷ m ∷ es) ≡ pick t (counted m o) none → (b : Book) × Slices (n ∷ m ∷ es) b
      split n m es false f o e h i = absurd (false≢true h)
      split n m es true f none e h i = absurd (false≢true h)
      split n m es true f (some b) e h i =
          let p = both (leb n 1048576) (leb m 131072 && eqb (length es) (2 * n)) f in
          let q = both (leb m 131072) (eqb (length es) (2 * n)) p.1 in
          let two : n + 2 ≡ suc (suc n) = omega arith in (
            b,
            record {
              long = omega arith;
              few = leb-true m 131072 q.0;
              short = leb-true n 1048576 p.0;
              size = omega (arith, eqb-true (length es) (2 * n) q.1);
              read = rw two e;
              is = i;
            },
          )

      go : (l : List ℕ) → is_some (book_in l) ≡ true → (b : Book) × Slices l b
      go [] h = absurd (false≢true h)
      go (n ∷ []) h = absurd (false≢true h)
      go (n ∷ m ∷ es) h = split n m es _ refl _ refl h refl

  abbrev the_book : Book
  the_book = slices.0

  s : Slices book the_book
  s = slices.1

  pub book_long : 2 ≤ length book
  book_long = s.long

  pub middle_inside : get_or book 0 0 + 2 ≤ length book
  middle_inside = omega (arith, s.size)

  abbrev pub kinds_part : List ℕ
  kinds_part = take (get_or book 0 0 + 2 - 2) (drop 2 book)

  abbrev pub words_part : List ℕ
  words_part = take (length book - (get_or book 0 0 + 2)) (drop (get_or book 0 0 + 2) book)

  words_is : words_part ≡ drop (get_or book 0 0 + 2) book
  words_is = take_all _ (drop (get_or book 0 0 + 2) book) (le_of_eq (length-drop (get_or book 0 0 + 2) book))

  kinds_is : kinds_part ≡ take (get_or book 0 0) (drop 2 book)
  kinds_is = let e : get_or book 0 0 + 2 - 2 ≡ get_or book 0 0 = omega arith in rw e

  decoded_is : decode (get_or book 1 0) (entries kinds_part words_part) ≡ some the_book
  decoded_is = rw (kinds_is, words_is) s.read

  pub book_decoded : Decoded (get_or book 1 0) kinds_part words_part
  book_decoded = record {
    some = ap is_some decoded_is;
    even = rw (kinds_is, words_is) (omega (arith, length-take (get_or book 0 0) (drop 2 book), length-drop 2 book, length-drop (get_or book 0 0 + 2) book, s.size));
  }

  pub book_few : get_or book 1 0 ≤ 131072
  book_few = s.few

  pub book_short : length kinds_part ≤ 1048576
  book_short = rw kinds_is (omega (arith, length-take (get_or book 0 0) (drop 2 book), s.short))

  pub booked_printed : (bs kinds operands text : List ℕ) {r : Result ℕ Refusal} {y : List ℕ} → Prints (with_names (get_or book 1 0) bs (book_at (get_or book 1 0) kinds_part words_part) kinds operands text) r y
      → Prints (print book bs kinds operands text) r y
  unfolding print with_names needed
  booked_printed bs kinds operands text {r} {y} p =
      subst (λ (g : Printing). Prints g r y) (rw (book_is (get_or book 1 0) kinds_part words_part the_book decoded_is, s.is)) p
