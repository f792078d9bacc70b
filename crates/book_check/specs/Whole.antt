-- The whole check: laws from its parts to the definition.
use Rattle.std.specs.Prelude.{ℕ, ◌+◌, ◌-◌, ◌*◌, ◌≤◌, ◌<◌, Bool, true, false, ◌&&◌, length, get_or, drop, take, replicate, eqb, leb}
use Rattle.std.proofs.Math.Path.{◌≡◌, refl, sym, subst⁻¹}
use Rattle.std.proofs.Common.{ap, ◌∙◌, subst, le_of_eq, arith, eq-eqb, ne_eqb, le-leb, length-append, length-drop, take_all, drop-drop, take_at, drop_at}
use Rattle.std.proofs.Math.Option.{Option, none, some}
use mathlib.Core.List.{List, [], ◌∷◌}
use Rattle.std.proofs.lemmas.Bool.{lt-leb}
use Rattle.std.proofs.lemmas.List.{length-replicate}
use Rattle.numbers.specs.Bits.{bit_at}
use Rattle.book.specs.Entry.{Entry, entries, kinds_of, words_of}
use Rattle.book.specs.Ast.{Mark, StructType, Function, Book}
use Rattle.book.specs.Rule.{pick, when}
use Rattle.book.specs.Read.{Read, got, bad, mapped, and_then}
use Rattle.book.specs.Decode.{parts, book_of, once_each, whole, decode}
use Rattle.book.specs.Encode.{encode}
use Rattle.book.specs.Limits.{Limits}
use Rattle.book.specs.Forbidden.{any, forbidden_function}
use Rattle.book.proofs.AgreeBook.{PartsLimits, agrees_book}
use Rattle.book.specs.AgreeInput.{slice, entries_back, length_kinds, length_words}
use Rattle.book.proofs.AgreeInput.{slice_sound}
use Rattle.book.specs.Input.{Counted, counted, book_in}
use Rattle.book_marks.specs.Range.{marked_range, length_range}
use Rattle.book_types.specs.Found.{found}
use Rattle.book_types.specs.declared.Found.{Found}
use Rattle.book_parts.specs.Reading.{answered, parts_found}
use Rattle.book_parts.specs.Maps.{barred_by, parts_answer}
use Rattle.std.specs.Bool.{then_some}
use Rattle.std.specs.Prelude as code
use Rattle.std.specs.Prelude.{Some, None, is_some}

-- ---- a book, and whether something in it is forbidden where the names of a map may not be called
abbrev pub barred_with : List ℕ → Book → ℕ → Bool
barred_with barred b = barred_by (bit_at barred) b.marks

abbrev pub reading_of : List ℕ → Option Book → code.Option Bool
reading_of barred none = None
reading_of barred (some b) = Some (any (forbidden_function (barred_with barred b)) b.functions)

-- the map of the names from one number to another, with a bit for each of 131,072
abbrev pub barred_range : ℕ → ℕ → List ℕ
barred_range from to = marked_range (replicate 2048 0) from to

pub range_size : (from to : ℕ) → length (barred_range from to) ≡ 2048
range_size from to = length_range (replicate 2048 0) from to ∙ length-replicate {A = ℕ} 2048 0

-- whether there is one
abbrev pub there : {A : Type 0} → Option A → Bool
there none = false
there (some a) = true

-- the same of a book with the number of its names
abbrev pub reading_in : List ℕ → Option Counted → code.Option Bool
reading_in barred none = None
reading_in barred (some c) = reading_of barred (some c.book)

pub book_there : (barred : List ℕ) (o : Option Counted) → is_some (reading_in barred o) ≡ there o
book_there barred none = refl
book_there barred (some c) = refl

-- ---- what the pass finds, by the definition
module _ (m : ℕ) (few : m ≤ 131072) where
  module _ (barred : List ℕ) (size : length barred ≡ 2048) (es : List Entry) (f : code.Option Found) (ef : f ≡ parts_found barred (parts m es)) where
    -- what was read, as a book
    book_read : (b : Book) (n : ℕ) → mapped book_of (parts m) es ≡ got b n → f ≡ answered n (when (once_each b) (any (forbidden_function (barred_with barred b)) b.functions))
    unfolding mapped
    book_read b n e = go (parts m es) refl
      where
        keeps : PartsLimits m b
        keeps = ((agrees_book m).sound es b n e).keeps

        go : (r : Read (List Mark × (List StructType × List Function))) → parts m es ≡ r → f ≡ answered n (when (once_each b) (any (forbidden_function (barred_with barred b)) b.functions))
        go (got p k) h =
            let eb : got (book_of p) k ≡ got b n = sym (ap (λ r. and_then r (λ a n. got (book_of a) n)) h) ∙ e in
            let fb : book_of p ≡ b = cc in
            let fk : k ≡ n = cc in
            ef ∙ ap (parts_found barred) h
            ∙ parts_answer m 2048 (omega arith) barred size (book_of p) k (subst (PartsLimits m) (sym fb) keeps)
            ∙ ap (λ c. answered k (when (once_each c) (any (forbidden_function (barred_with barred c)) c.functions))) fb
            ∙ ap (λ i. answered i (when (once_each b) (any (forbidden_function (barred_with barred b)) b.functions))) fk
        go bad h = absurd (let z : bad ≡ got b n = sym (ap (λ r. and_then r (λ a n. got (book_of a) n)) h) ∙ e in let y : ◌≡◌ {A = ℕ} 0 1 = cc in omega arith)

    none_read : mapped book_of (parts m) es ≡ bad → parts_found barred (parts m es) ≡ None
    unfolding mapped
    none_read e = by (parts m es) refl
      where
        by : (r : Read (List Mark × (List StructType × List Function))) → parts m es ≡ r → parts_found barred r ≡ None
        by (got p k) z = absurd (let y : got (book_of p) k ≡ bad = sym (ap (λ r. and_then r (λ a n. got (book_of a) n)) z) ∙ e in let w : ◌≡◌ {A = ℕ} 0 1 = cc in omega arith)
        by bad z = refl

    -- the answer by what the definition reads
    reads : (q : code.Option Bool) → ((r : Read Book) → mapped book_of (parts m) es ≡ r → q ≡ reading_of barred (whole es r)) → q ≡ reading_of barred (decode m es)
    unfolding decode
    reads q h = h (mapped book_of (parts m) es) refl

    pub reading_bad : f ≡ None → None ≡ reading_of barred (decode m es)
    reading_bad h = reads None go
      where
        go : (r : Read Book) → mapped book_of (parts m) es ≡ r → None ≡ reading_of barred (whole es r)
        go (got b n) e = once (once_each b) (sym h ∙ book_read b n e)
          where
            once : (t : Bool) → None ≡ answered n (when t (any (forbidden_function (barred_with barred b)) b.functions)) → None ≡ reading_of barred (when (eqb n (length es) && t) b)
            once true z = absurd (let y : ◌≡◌ {A = ℕ} 0 1 = cc in omega arith)
            once false z = last (eqb n (length es))
              where
                last : (u : Bool) → None ≡ reading_of barred (when (u && false) b)
                last true = refl
                last false = refl
        go bad e = refl

    pub reading_whole : (g : Found) → f ≡ Some g → then_some (eqb g.entries (length es)) g.barred ≡ reading_of barred (decode m es)
    reading_whole g h = reads (then_some (eqb g.entries (length es)) g.barred) go
      where
        go : (r : Read Book) → mapped book_of (parts m) es ≡ r → then_some (eqb g.entries (length es)) g.barred ≡ reading_of barred (whole es r)
        go (got b k) e = once (once_each b) (sym h ∙ book_read b k e)
          where
            once : (t : Bool) → Some g ≡ answered k (when t (any (forbidden_function (barred_with barred b)) b.functions))
                → then_some (eqb g.entries (length es)) g.barred ≡ reading_of barred (when (eqb k (length es) && t) b)
            once true z =
                let y : g ≡ found k (any (forbidden_function (barred_with barred b)) b.functions) = cc in
                ap (λ x. then_some (eqb x.entries (length es)) x.barred) y ∙ last (eqb k (length es))
              where
                last : (u : Bool) → then_some u (any (forbidden_function (barred_with barred b)) b.functions) ≡ reading_of barred (when (u && true) b)
                last true = refl
                last false = refl
            once false z = absurd (let y : ◌≡◌ {A = ℕ} 0 1 = cc in omega arith)
        go bad e = absurd (let y : Some g ≡ None = sym h ∙ ef ∙ none_read e in let w : ◌≡◌ {A = ℕ} 0 1 = cc in omega arith)

-- ---- the slice
-- the kinds and words of a book slice, by its entry count
abbrev pub kinds_in : List ℕ → List ℕ
kinds_in s = take (get_or s 0 0) (drop 2 s)

abbrev pub words_in : List ℕ → List ℕ
words_in s = drop (get_or s 0 0) (drop 2 s)

-- a slice of a count of entries, a count of names, and more
slice_at : (s : List ℕ) → 2 ≤ length s
    → book_in s ≡ pick (leb (get_or s 0 0) 1048576 && (leb (get_or s 1 0) 131072 && eqb (length (drop 2 s)) (2 * get_or s 0 0))) (counted (get_or s 1 0) (decode (get_or s 1 0) (entries (kinds_in s) (words_in s)))) none
unfolding book_in
slice_at [] h = absurd (omega arith)
slice_at (n ∷ []) h = absurd (omega arith)
slice_at (n ∷ (m ∷ es)) h = refl

pub slice_short : (barred s : List ℕ) → length s < 2 → None ≡ reading_in barred (book_in s)
unfolding book_in
slice_short barred [] h = refl
slice_short barred (n ∷ []) h = refl
slice_short barred (n ∷ (m ∷ es)) h = absurd (omega arith)

module _ (barred s : List ℕ) (two : 2 ≤ length s) where
  pub slice_entries : 1048576 < get_or s 0 0 → None ≡ reading_in barred (book_in s)
  slice_entries h = sym (rw (slice_at s two, lt-leb (get_or s 0 0) 1048576 h))

  module _ (n : get_or s 0 0 ≤ 1048576) where
    pub slice_names : 131072 < get_or s 1 0 → None ≡ reading_in barred (book_in s)
    slice_names h = sym (rw (slice_at s two, le-leb (get_or s 0 0) 1048576 n, lt-leb (get_or s 1 0) 131072 h))

    module _ (m : get_or s 1 0 ≤ 131072) where
      pub slice_long : (length s ≡ 2 + 2 * get_or s 0 0 → ⊥) → None ≡ reading_in barred (book_in s)
      slice_long h =
          sym (rw (slice_at s two, le-leb (get_or s 0 0) 1048576 n, le-leb (get_or s 1 0) 131072 m, ne_eqb (length (drop 2 s)) (2 * get_or s 0 0) (λ z. h (omega (arith, length-drop 2 s)))))

      module _ (l : length s ≡ 2 + 2 * get_or s 0 0) where
        slice_book : book_in s ≡ counted (get_or s 1 0) (decode (get_or s 1 0) (entries (kinds_in s) (words_in s)))
        slice_book =
            slice_at s two ∙ rw (le-leb (get_or s 0 0) 1048576 n, le-leb (get_or s 1 0) 131072 m, eq-eqb (length (drop 2 s)) (2 * get_or s 0 0) (omega (arith, length-drop 2 s)))

        -- the parts that the code lends
        pub slice_parts : entries (take (2 + get_or s 0 0 - 2) (drop 2 s)) (take (length s - (2 + get_or s 0 0)) (drop (2 + get_or s 0 0) s)) ≡ entries (kinds_in s) (words_in s)
        slice_parts =
            let e : 2 + get_or s 0 0 - 2 ≡ get_or s 0 0 = omega arith in
            rw (e, take_all (length s - (2 + get_or s 0 0)) (drop (2 + get_or s 0 0) s) (le_of_eq (length-drop (2 + get_or s 0 0) s)), ← drop-drop (get_or s 0 0) 2 s)

        pub slice_ok : (r : code.Option Bool) → r ≡ reading_of barred (decode (get_or s 1 0) (entries (kinds_in s) (words_in s))) → r ≡ reading_in barred (book_in s)
        unfolding counted
        slice_ok r e = e ∙ sym (rw slice_book (go (decode (get_or s 1 0) (entries (kinds_in s) (words_in s)))))
          where
            go : (o : Option Book) → reading_in barred (counted (get_or s 1 0) o) ≡ reading_of barred o
            go none = refl
            go (some b) = refl

-- what a sound slice holds
pub record Holds (s : List ℕ) (c : Counted) : Type 0 where
  pub count : c.count ≡ get_or s 1 0
  pub few : c.count ≤ 131072
  pub most : get_or s 0 0 ≤ 1048576
  pub size : length s ≡ 2 + 2 * get_or s 0 0
  pub written : entries (kinds_in s) (words_in s) ≡ encode c.book
  pub limits : Limits c.count c.book

pub slice_holds : (s : List ℕ) (c : Counted) → book_in s ≡ some c → Holds s c
unfolding slice
slice_holds s c h =
    let e = slice_sound s c h in
    let l = e.1 in
    let es : List Entry = encode c.book in
    subst⁻¹ (λ s. Holds s c) e.0 (record {
      count = refl;
      few = l.names;
      most = l.entries;
      size = omega (arith, length-append (kinds_of es) (words_of es), length_kinds es, length_words es);
      written = rw (take_at (kinds_of es) (words_of es) (length es) (length_kinds es), drop_at (kinds_of es) (words_of es) (length es) (length_kinds es)) (entries_back es);
      limits = l.book;
    })
