-- A slice decodes to a book exactly when it is the encoding of that book and the book keeps the limits.
use Rattle.std.specs.Prelude.{ℕ, ◌*◌, ◌≤◌, ◌≡◌, refl, ◌↔◌, Bool, true, false, ◌&&◌, List, [], ◌∷◌, ◌++◌, length, take, drop, eqb, leb}
use Rattle.std.proofs.Common.{ap, sym, ◌∙◌, subst, arith, eqb-true, eq-eqb, leb-true, le-leb, length-append, length-drop, take-append-drop, length-take-le, take_at, drop_at}
use Rattle.std.proofs.Math.Option.{Option, none, some}
use Rattle.book.specs.Ast.{Book}
use Rattle.book.specs.Entry.{Entry, entries, kinds_of, words_of}
use Rattle.book.specs.Rule.{pick}
use Rattle.book.specs.Agree.{no_some}
use Rattle.book.specs.Decode.{decode}
use Rattle.book.specs.Encode.{encode}
use Rattle.book.proofs.AgreeBook.{decode_sound, decode_complete}
use Rattle.book.specs.Input.{Counted, counted, book_in}
use Rattle.book.specs.AgreeInput.{slice, SliceLimits, kinds_back, words_back, length_back, entries_back, length_kinds, length_words}

-- ---- both directions
read_slice : (n m : ℕ) (xs : List ℕ) (c : Counted) → n ≤ 1048576 → m ≤ 131072 → length xs ≡ 2 * n → (o : Option Book) → decode m (entries (take n xs) (drop n xs)) ≡ o → counted m o ≡ some c
    → (n ∷ (m ∷ xs) ≡ slice c) × SliceLimits c
unfolding counted slice
read_slice n m xs c p q l none eo g = no_some c g
read_slice n m xs c p q l (some b) eo g =
    let d = decode_sound m (entries (take n xs) (drop n xs)) b eo in
    let lt : length (take n xs) ≡ n = length-take-le n xs (omega arith) in
    let ld : length (take n xs) ≡ length (drop n xs) = omega (arith, length-drop n xs) in
    let en : n ≡ length (encode b) = sym (ap length (sym d.0) ∙ length_back (take n xs) (drop n xs) ld ∙ lt) in
    let ek : take n xs ≡ kinds_of (encode b) = sym (kinds_back (take n xs) (drop n xs) ld) ∙ ap kinds_of d.0 in
    let ew : drop n xs ≡ words_of (encode b) = sym (words_back (take n xs) (drop n xs) ld) ∙ ap words_of d.0 in
    let ex : xs ≡ kinds_of (encode b) ++ words_of (encode b) = sym (take-append-drop n xs) ∙ ap (λ r. r ++ drop n xs) ek ∙ ap (λ r. kinds_of (encode b) ++ r) ew in
    let k : record { count = m; book = b } ≡ c = cc in
    subst (λ c. (n ∷ (m ∷ xs) ≡ slice c) × SliceLimits c) k
    ((λ i. en i ∷ (m ∷ ex i)), record { entries = omega arith; names = q; book = d.1 })

pub slice_sound : (s : List ℕ) (c : Counted) → book_in s ≡ some c → (s ≡ slice c) × SliceLimits c
unfolding book_in
slice_sound [] c h = no_some c h
slice_sound (n ∷ []) c h = no_some c h
slice_sound (n ∷ (m ∷ xs)) c h = tests (leb n 1048576) (leb m 131072) (eqb (length xs) (2 * n)) refl refl refl h
  where
    tests : (x y z : Bool) → leb n 1048576 ≡ x → leb m 131072 ≡ y → eqb (length xs) (2 * n) ≡ z
        → pick (x && (y && z)) (counted m (decode m (entries (take n xs) (drop n xs)))) none ≡ some c → (n ∷ (m ∷ xs) ≡ slice c) × SliceLimits c
    tests true true true ex ey ez g = read_slice n m xs c (leb-true _ _ ex) (leb-true _ _ ey) (eqb-true _ _ ez) (decode m (entries (take n xs) (drop n xs))) refl g
    tests true true false ex ey ez g = no_some c g
    tests true false z ex ey ez g = no_some c g
    tests false y z ex ey ez g = no_some c g

pub slice_complete : (c : Counted) → SliceLimits c → book_in (slice c) ≡ some c
unfolding book_in slice counted
slice_complete c l =
    let es : List Entry = encode c.book in
    let xs : List ℕ = kinds_of es ++ words_of es in
    let lx : length xs ≡ 2 * length es = omega (arith, length-append (kinds_of es) (words_of es), length_kinds es, length_words es) in
    rw (
      le-leb (length (encode c.book)) 1048576 l.entries,
      le-leb c.count 131072 l.names,
      eq-eqb (length xs) (2 * length es) lx,
      take_at (kinds_of es) (words_of es) (length es) (length_kinds es),
      drop_at (kinds_of es) (words_of es) (length es) (length_kinds es),
      entries_back es,
      decode_complete c.count c.book l.book,
    )

pub slice_exactly : (s : List ℕ) (c : Counted) → (book_in s ≡ some c) ↔ ((s ≡ slice c) × SliceLimits c)
slice_exactly s c = (slice_sound s c, λ h. rw h.0 (slice_complete c h.1))
