-- Of document 02, card 1: by themselves the functions of a sound book make sound books, and the whole call gives what they give one by one.
use Rattle.std.specs.Prelude.{ℕ, ◌+◌, ◌≤◌, ◌<◌, ◌^◌, ◌≡◌, refl, Bool, not, cond, ◌||◌, eqb, leb}
use Rattle.std.proofs.Math.Path.{ap}
use Rattle.std.proofs.Common.{sym, ◌∙◌, subst, length-append}
use Rattle.std.proofs.Math.Bool.{true, false, and-false}
use Rattle.std.proofs.lemmas.Bool.{false≢true}
use Rattle.std.proofs.Math.Option.{some}
use mathlib.Core.List.{List, [], ◌∷◌, ◌++◌, map, Memᴰ}
use Rattle.std.proofs.Math.ListN.{length}
use native.Mathlib.Omega.{arith}
use borrow.Author.Tests.{eq-eqb, not-true, le-leb}
use Rattle.names.specs.Tests.{both}
use Rattle.book.specs.Ast.{Function, Mark, Book}
use Rattle.book.specs.Entry.{Entry, entry}
use Rattle.book.specs.Decode.{member, distinct, mark_name, function_names, once_each}
use Rattle.book.specs.Encode.{ending, enc_mark, enc_struct, enc_function, enc_functions, encode}
use Rattle.book.specs.Limits.{Each, FunctionLimits, Limits}
use Rattle.book.specs.Forbidden.{forbidden}
use Rattle.book.specs.Result.{ok, bind, ok_or, given, require, bind_ok, given_ok}
use Rattle.book.specs.Input.{Counted, book_in, names_in}
use Rattle.book.specs.AgreeInput.{slice}
use Rattle.book.proofs.AgreeInput.{slice_sound, slice_complete}
use Rattle.book.specs.Check.{Sound, work_for, checked}
use Rattle.lowering.specs.Gen.{each}
use Rattle.lowering.specs.Translate.{generated}
use Rattle.lowering.specs.Allowed.{ok_some}
use Rattle.lowering.proofs.Printable.{names_counted}
use Rattle.lowering.specs.Labels.{sum_of}
use Rattle.lowering.specs.Alike.{neither}
use Rattle.lowering.proofs.AllowedBlocks.{and-true}
use Rattle.lowering.specs.OneByOne.{taken, others, alone, translated, member_append, member_taken, none_of, forbidden_one_by_one, one_by_one_lem}

abbrev name_of : Function → ℕ
name_of f = f.name

-- ---- the limits: a name that is marked twice would be refused
distinct_taken : (test : ℕ → Bool) (xs : List ℕ) → distinct xs ≡ true → distinct (taken test xs) ≡ true
unfolding distinct taken
distinct_taken test [] h = refl
distinct_taken test (x ∷ xs) h = go (test x) (both (not (member x xs)) (distinct xs) h) (distinct_taken test xs)
  where
    go : (t : Bool) → (not (member x xs) ≡ true) × (distinct xs ≡ true) → (distinct xs ≡ true → distinct (taken test xs) ≡ true)
        → distinct (cond t (x ∷ taken test xs) (taken test xs)) ≡ true
    go false k rest = rest k.1
    go true k rest = rw (member_taken x test xs, not-true (member x xs) k.0, and-false (test x)) (rest k.1)

distinct_append : (xs ys : List ℕ) → distinct xs ≡ true → distinct ys ≡ true → ((x : ℕ) → member x ys ≡ true → member x xs ≡ false) → distinct (xs ++ ys) ≡ true
unfolding distinct member
distinct_append [] ys h k apart = k
distinct_append (x ∷ xs) ys h k apart =
    let p = both (not (member x xs)) (distinct xs) h in
    rw (member_append x xs ys, not-true (member x xs) p.0, away (member x ys) refl)
    (distinct_append xs ys p.1 k (λ y m. (neither (eqb y x) (member y xs) (apart y m)).1))
  where
    away : (t : Bool) → member x ys ≡ t → member x ys ≡ false
    away false e = e
    away true e = absurd (false≢true (sym (neither (eqb x x) (member x xs) (apart x e)).0 ∙ eq-eqb x x refl))

-- what holds of each holds of one among them
each_at : {A : Type 0} (P : A → Type 0) (xs : List A) → Each P xs → (x : A) → Memᴰ x xs → P x
each_at {A = A} P [] p x x4 = elim x4 [ ]
each_at P (y ∷ xs) p x (Memᴰ.head e) = subst P (sym e) p.0
each_at P (y ∷ xs) p x (Memᴰ.tail m) = each_at P xs p.1 x m

marks_below : (m : ℕ) (ms : List Mark) (xs : List ℕ) → Each (λ k. mark_name k < m) ms → Each (λ x. x < m) xs → Each (λ k. mark_name k < m) (ms ++ map Mark.defined xs)
marks_below m [] [] p q = tt
marks_below m [] (x ∷ xs) p q = (q.0, marks_below m [] xs tt q.1)
marks_below m (k ∷ ms) xs p q = (p.0, marks_below m ms xs p.1 q)

mark_names : (ms : List Mark) (xs : List ℕ) → map mark_name (ms ++ map Mark.defined xs) ≡ map mark_name ms ++ xs
mark_names [] [] = refl
mark_names [] (x ∷ xs) = ap (λ (r : List ℕ). x ∷ r) (mark_names [] xs)
mark_names (k ∷ ms) xs = ap (λ (r : List ℕ). mark_name k ∷ r) (mark_names ms xs)

taken_below : (m : ℕ) (test : ℕ → Bool) (fs : List Function) → Each (FunctionLimits m) fs → Each (λ x. x < m) (taken test (map name_of fs))
unfolding taken
taken_below m test [] l = tt
taken_below m test (f ∷ fs) l = go (test f.name) (taken_below m test fs l.1)
  where
    go : (t : Bool) → Each (λ x. x < m) (taken test (map name_of fs))
        → Each (λ x. x < m) (cond t (f.name ∷ taken test (map name_of fs)) (taken test (map name_of fs)))
    go true rest = (l.0.0, rest)
    go false rest = rest

module _ (b : Book) (f : Function) where
  -- another function is marked here only where it had no mark
  unmarked : (x : ℕ) → member x (others b f) ≡ true → member x (map mark_name b.marks) ≡ false
  unfolding others
  unmarked x h =
      let k = both (not (eqb x f.name || member x (map mark_name b.marks))) (member x (function_names b)) (sym (member_taken x _ (function_names b)) ∙ h) in
      (neither (eqb x f.name) _ (not-true _ k.0)).1

  once_alone : once_each b ≡ true → once_each (alone b f) ≡ true
  unfolding once_each alone others distinct member
  once_alone h =
      let p = both (distinct (map mark_name b.marks)) _ h in
      let q = both (distinct (map (λ s. s.name) b.structs)) (distinct (function_names b)) p.1 in
      let k = distinct_append (map mark_name b.marks) (others b f) p.0 (distinct_taken _ (function_names b) q.1) unmarked in
      and-true _ _ (subst (λ (xs : List ℕ). distinct xs ≡ true) (sym (mark_names b.marks (others b f))) k) (and-true _ _ q.0 refl)

  -- a function's book keeps the limits of the whole one
  pub alone_limits : (m : ℕ) → Limits m b → Memᴰ f b.functions → Limits m (alone b f)
  unfolding alone others
  alone_limits m l i =
      record {
        marks = marks_below m b.marks (others b f) l.marks (taken_below m _ b.functions l.functions.1);
        structs = l.structs;
        functions = (omega arith, (each_at (FunctionLimits m) b.functions l.functions.1 f i, tt));
        once = once_alone l.once;
      }

-- ---- the entries: another function has at least as many as the mark that stands for it
length_ending : {A : Type 0} (write : A → List Entry) (end : List Entry) (xs : List A) → length (ending write end xs) ≡ sum_of (λ a. length (write a)) xs + length end
unfolding ending sum_of
length_ending write end [] = omega arith
length_ending write end (x ∷ xs) = omega (arith, length-append (write x) (ending write end xs), length_ending write end xs)

marks_length : (ms : List Mark) (xs : List ℕ) → sum_of (λ k. length (enc_mark k)) (ms ++ map Mark.defined xs) ≡ sum_of (λ k. length (enc_mark k)) ms + length xs
unfolding sum_of
marks_length [] [] = refl
marks_length [] (x ∷ xs) = omega (arith, marks_length [] xs)
marks_length (k ∷ ms) xs = omega (arith, marks_length ms xs)

abbrev size : Function → ℕ
size f = length (enc_function f)

module _ (test : ℕ → Bool) where
  few : (fs : List Function) → length (taken test (map name_of fs)) ≤ sum_of size fs
  unfolding taken sum_of enc_function
  few [] = omega arith
  few (g ∷ fs) = go (test g.name) (few fs)
    where
      go : (t : Bool) → length (taken test (map name_of fs)) ≤ sum_of size fs
          → length (cond t (g.name ∷ taken test (map name_of fs)) (taken test (map name_of fs))) ≤ size g + sum_of size fs
      go true h = omega arith
      go false h = omega arith

  fewer : (f : Function) → test f.name ≡ false → (fs : List Function) → Memᴰ f fs → length (taken test (map name_of fs)) + size f ≤ sum_of size fs
  unfolding taken sum_of enc_function
  fewer f h [] x' = elim x' [ ]
  fewer f h (g ∷ fs) (Memᴰ.head e) =
      let k : test g.name ≡ false = rw e at h in
      let n : size f ≡ size g = ap size e in
      rw k (omega (arith, few fs))
  fewer f h (g ∷ fs) (Memᴰ.tail m) = go (test g.name) (fewer f h fs m)
    where
      go : (t : Bool) → length (taken test (map name_of fs)) + size f ≤ sum_of size fs
          → length (cond t (g.name ∷ taken test (map name_of fs)) (taken test (map name_of fs))) + size f ≤ size g + sum_of size fs
      go true h = omega arith
      go false h = omega arith

-- a function's book has no more entries than the whole one
pub alone_entries : (b : Book) (f : Function) → Memᴰ f b.functions → length (encode (alone b f)) ≤ length (encode b)
unfolding encode alone others sum_of
alone_entries b f i =
    let own : not (eqb f.name f.name || member f.name (map mark_name b.marks)) ≡ false = rw (eq-eqb f.name f.name refl) in
    let n = fewer (λ x. not (eqb x f.name || member x (map mark_name b.marks))) f own b.functions i in
    let end : List Entry = entry 0 0 ∷ [] in
    omega (
      arith,
      length_ending enc_mark (ending enc_struct (enc_functions b.functions) b.structs) b.marks,
      length_ending enc_struct (enc_functions b.functions) b.structs,
      length_ending enc_function end b.functions,
      length_ending enc_mark (ending enc_struct (enc_functions (f ∷ [])) b.structs) (b.marks ++ map Mark.defined (others b f)),
      length_ending enc_struct (enc_functions (f ∷ [])) b.structs,
      length_ending enc_function end (f ∷ []),
      marks_length b.marks (others b f),
    )

-- ---- whole calls
-- what a sound call was lent: the book's slice and the names read, no refusal 3, and the work slice long enough
record Passed (book names : List ℕ) (work : ℕ) (s : Sound) : Type 0 where
  read : book_in book ≡ some (record { count = length s.names; book = s.book })
  spelled : names_in (length s.names) names ≡ some s.names
  allowed : forbidden s.names s.book ≡ false
  works : leb (work_for (length s.names)) work ≡ true

passed : (book names : List ℕ) (counter work : ℕ) (s : Sound) → checked book names counter work ≡ ok s → Passed book names work s
unfolding checked require
passed book names counter work s h =
    let a = bind_ok _ _ s h in
    let c = bind_ok _ _ s a.2 in
    let d = bind_ok _ _ s c.2 in
    let e = bind_ok _ _ s d.2 in
    let f = given_ok _ _ _ s e.2 in
    let g = given_ok _ _ _ _ e.1 in
    let p = ok_some 1 (book_in book) a.0 a.1 in
    let q = ok_some 2 (names_in a.0.count names) d.0 d.1 in
    let n = names_counted a.0.count names d.0 q in
    let z : record { names = d.0; book = a.0.book } ≡ s = f.1 in
    subst (Passed book names work) z (record {
      read = subst (λ (m : ℕ). book_in book ≡ some (record { count = m; book = a.0.book })) (sym n) p;
      spelled = subst (λ (m : ℕ). names_in m names ≡ some d.0) (sym n) q;
      allowed = not-true _ g.0;
      works = subst (λ (m : ℕ). leb (work_for m) work ≡ true) (sym n) f.0;
    })

-- the slice of one function's book
abbrev pub alone_slice : Sound → Function → List ℕ
alone_slice s f = slice (record { count = length s.names; book = alone s.book f })

module _ (book names : List ℕ) (counter work : ℕ) (s : Sound) (sound : checked book names counter work ≡ ok s) where
  -- "Lines and counter equal those of translating them one by one", of the whole call: the first refusal of a function, 20 after all others
  pub generated_one_by_one : (room : ℕ) → generated book names counter work room
      ≡ bind (each (λ f. translated s.names (alone s.book f)) s.book.functions counter) (λ out. given (leb (length out.lines) room) 20 out)
  unfolding generated bind
  generated_one_by_one room = rw (sound, one_by_one_lem s.names s.book (passed book names counter work s sound).allowed counter)

  -- each function's book by itself passes 1 to 4, with the same names and work slice, from any counter up to 2^32
  pub alone_checked : (f : Function) → Memᴰ f s.book.functions → (from : ℕ) → from ≤ 2 ^ 32
      → checked (alone_slice s f) names from work ≡ ok (record { names = s.names; book = alone s.book f })
  unfolding checked require ok_or given bind
  alone_checked f i from h =
      let p = passed book names counter work s sound in
      let l = (slice_sound book _ p.read).1 in
      let n = alone_entries s.book f i in
      let c : Counted = record { count = length s.names; book = alone s.book f } in
      let q = slice_complete c (record { entries = omega (arith, n, l.entries); names = l.names; book = alone_limits s.book f _ l.book i }) in
      let k = none_of (λ g. forbidden s.names (alone s.book g)) s.book.functions (sym (forbidden_one_by_one s.names s.book) ∙ p.allowed) f i in
      rw (q, le-leb from (2 ^ 32) h, p.spelled, k, p.works)

  -- so a call on it gives what the function gives by itself, where there is room
  pub alone_generated : (f : Function) → Memᴰ f s.book.functions → (from : ℕ) → from ≤ 2 ^ 32 → (room : ℕ)
      → generated (alone_slice s f) names from work room ≡ bind (translated s.names (alone s.book f) from) (λ out. given (leb (length out.lines) room) 20 out)
  unfolding generated bind
  alone_generated f i from h room = rw (alone_checked f i from h)
