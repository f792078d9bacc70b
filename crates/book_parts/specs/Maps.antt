-- What the pass over marks, named structs and functions finds, by the definition; and that maps of fewer words find the same, where they have a bit
-- for each name.
use Prim.Native.Nat.{ℕ, ◌*◌, ◌≤◌, ◌<◌}
use Rattle.std.specs.Prelude.{◌≡◌, Bool, true, false, ◌&&◌, ◌||◌, replicate, eqb}
use Rattle.std.proofs.Math.Path.{refl, ap, fun_ext}
use Rattle.std.proofs.Common.{sym, ◌∙◌, arith, eqb-true, eq-eqb, ne_eqb}
use Rattle.std.proofs.Math.Bool.{or-false}
use Rattle.std.proofs.Math.Option.{Option, none, some}
use mathlib.Core.List.{List, [], ◌∷◌, map}
use Rattle.std.proofs.lemmas.Bool.{eqb-false}
use Rattle.std.proofs.Math.ListN.{length, length-replicate}
use Rattle.numbers.specs.Bits.{bit_at, set_bit_at, length_set_bit, bit_none}
use Rattle.book.specs.Entry.{Entry}
use Rattle.book.specs.Ast.{Mark, StructType, Function, Book}
use Rattle.book.specs.Rule.{pick, when}
use Rattle.book.specs.Read.{Read, got, bad, mapped, and_then}
use Rattle.book.specs.Decode.{parts, member, distinct, mark_name, function_names, book_of, once_each}
use Rattle.book.specs.Limits.{Each, StructLimits, FunctionLimits, FunctionsLimits}
use Rattle.book.specs.Forbidden.{any, reserved_by, forbidden_function}
use Rattle.book.proofs.AgreeBook.{PartsLimits, agrees_book}
use Rattle.book_marks.specs.Range.{marked_range, length_range, bit_range}
use Rattle.book_marks.specs.Once.{is_new, all_new, AllBelow, new_distinct, bit_set}
use Rattle.std.specs.Prelude as code
use Rattle.book_types.specs.declared.Found.{Found}
use Rattle.book_parts.specs.Reading.{goes, answered, folded, function_taken, functions_closed, functions_ended, struct_taken, now_barred, marked_by, structs_ended, marks_found}

-- structs are taken exactly where their names are new, one after the other
structs_taken : (named : List ℕ) (o : Option Bool) (ss : List StructType)
    → goes (folded struct_taken named ss) (λ t. o) ≡ pick (all_new named (map (λ s. s.name) ss)) o none
unfolding folded all_new
structs_taken named o [] = refl
structs_taken named o (s ∷ ss) = go (is_new named s.name) (structs_taken (set_bit_at named s.name) o ss)
  where
    go : (b : Bool) → goes (folded struct_taken (set_bit_at named s.name) ss) (λ t. o) ≡ pick (all_new (set_bit_at named s.name) (map (λ s. s.name) ss)) o none
        → goes (goes (when b (set_bit_at named s.name)) (λ t. folded struct_taken t ss)) (λ t. o) ≡ pick (b && all_new (set_bit_at named s.name) (map (λ s. s.name) ss)) o none
    go true ih = ih
    go false ih = refl

-- and so are functions, of which one at least is there
or_assoc : (a b c : Bool) → ((a || b) || c) ≡ (a || (b || c))
or_assoc true b c = refl
or_assoc false b c = refl

module _ (barred : List ℕ) where
  abbrev forbid : Function → Bool
  forbid = forbidden_function (bit_at barred)

  abbrev taken : List ℕ × (Bool × Bool) → List Function → Option Bool
  taken s fs = goes (folded (function_taken barred) s fs) (λ t. functions_closed barred t tt)

  more_taken : (defined : List ℕ) (x : Bool) (fs : List Function) → taken (defined, (true, x)) fs ≡ when (all_new defined (map (λ f. f.name) fs)) (x || any forbid fs)
  unfolding folded all_new any
  more_taken defined x [] = ap some (sym (or-false x))
  more_taken defined x (f ∷ fs) = go (is_new defined f.name) (more_taken (set_bit_at defined f.name) (x || forbid f) fs)
    where
      next : List ℕ × (Bool × Bool)
      next = (set_bit_at defined f.name, (true, x || forbid f))

      go : (b : Bool) → taken next fs ≡ when (all_new (set_bit_at defined f.name) (map (λ f. f.name) fs)) ((x || forbid f) || any forbid fs)
          → goes (goes (when b next) (λ t. folded (function_taken barred) t fs)) (λ t. functions_closed barred t tt)
          ≡ when (b && all_new (set_bit_at defined f.name) (map (λ f. f.name) fs)) (x || (forbid f || any forbid fs))
      go true ih = ih ∙ ap (when (all_new (set_bit_at defined f.name) (map (λ f. f.name) fs))) (or_assoc x (forbid f) (any forbid fs))
      go false ih = refl

  functions_taken : (defined : List ℕ) (fs : List Function) → 1 ≤ length fs → functions_ended barred defined fs ≡ when (all_new defined (map (λ f. f.name) fs)) (any forbid fs)
  unfolding folded all_new any
  functions_taken defined [] h = absurd (omega arith)
  functions_taken defined (f ∷ fs) h = go (is_new defined f.name)
    where
      next : List ℕ × (Bool × Bool)
      next = (set_bit_at defined f.name, (true, forbid f))

      go : (b : Bool) → goes (goes (when b next) (λ t. folded (function_taken barred) t fs)) (λ t. functions_closed barred t tt)
          ≡ when (b && all_new (set_bit_at defined f.name) (map (λ f. f.name) fs)) (forbid f || any forbid fs)
      go true = more_taken (set_bit_at defined f.name) (forbid f) fs
      go false = refl

-- the names that may not be called, with the reserved ones
with_reserved : List ℕ → List Mark → List ℕ
with_reserved barred [] = barred
with_reserved barred (k ∷ ms) = with_reserved (now_barred k barred) ms

marks_taken : (marked barred : List ℕ) (rest : List ℕ → Option Bool) (ms : List Mark)
    → goes (folded marked_by (marked, barred) ms) (λ t. rest t.1) ≡ pick (all_new marked (map mark_name ms)) (rest (with_reserved barred ms)) none
unfolding folded all_new with_reserved
marks_taken marked barred rest [] = refl
marks_taken marked barred rest (k ∷ ms) = go (is_new marked (mark_name k)) (marks_taken (set_bit_at marked (mark_name k)) (now_barred k barred) rest ms)
  where
    go : (b : Bool)
        → goes (folded marked_by (set_bit_at marked (mark_name k), now_barred k barred) ms) (λ t. rest t.1) ≡ pick (all_new (set_bit_at marked (mark_name k)) (map mark_name ms)) (rest (with_reserved (now_barred k barred) ms)) none
        → goes (goes (when b (set_bit_at marked (mark_name k), now_barred k barred)) (λ t. folded marked_by t ms)) (λ t. rest t.1)
        ≡ pick (b && all_new (set_bit_at marked (mark_name k)) (map mark_name ms)) (rest (with_reserved (now_barred k barred) ms)) none
    go true ih = ih
    go false ih = refl

-- their bits
same : (a b : ℕ) → eqb a b ≡ eqb b a
same a b = by (eqb a b) refl
  where
    by : (t : Bool) → eqb a b ≡ t → t ≡ eqb b a
    by true e = sym (eq-eqb b a (sym (eqb-true a b e)))
    by false e = sym (ne_eqb b a (λ z. eqb-false a b e (sym z)))

or_swap : (a b c : Bool) → (a || (b || c)) ≡ ((b || a) || c)
or_swap true true c = refl
or_swap true false c = refl
or_swap false true c = refl
or_swap false false c = refl

reserved_bits : (n : ℕ) (barred : List ℕ) (ms : List Mark) → length barred ≡ n → AllBelow n (map mark_name ms) → (x : ℕ) → bit_at (with_reserved barred ms) x ≡ (member x (reserved_by ms) || bit_at barred x)
unfolding with_reserved reserved_by member
reserved_bits n barred [] e h x = refl
reserved_bits n barred (Mark.defined y ∷ ms) e h x = reserved_bits n barred ms e h.1 x
reserved_bits n barred (Mark.reserved y ∷ ms) e h x =
    reserved_bits n (set_bit_at barred y) ms (length_set_bit barred y ∙ e) h.1 x
    ∙ rw (bit_set barred y x (rw e h.0), same y x) (or_swap (member x (reserved_by ms)) (eqb x y) (bit_at barred x))

module _ (m words : ℕ) (few : m ≤ 64 * words) where
  marks_below : (ms : List Mark) → Each (λ k. mark_name k < m) ms → AllBelow words (map mark_name ms)
  marks_below [] k = tt
  marks_below (x ∷ ms) k = (omega (arith, k.0), marks_below ms k.1)

  structs_below : (ss : List StructType) → Each (StructLimits m) ss → AllBelow words (map (λ s. s.name) ss)
  structs_below [] k = tt
  structs_below (s ∷ ss) k = (omega (arith, k.0.0), structs_below ss k.1)

  functions_below : (fs : List Function) → Each (FunctionLimits m) fs → AllBelow words (map (λ f. f.name) fs)
  functions_below [] k = tt
  functions_below (f ∷ fs) k = (omega (arith, k.0.0), functions_below fs k.1)

  -- structs and functions are taken exactly where each name is there once
  structs_once : (ss : List StructType) (o : Option Bool) → Each (StructLimits m) ss
      → goes (folded struct_taken (replicate words 0) ss) (λ t. o) ≡ pick (distinct (map (λ s. s.name) ss)) o none
  structs_once ss o k = structs_taken (replicate words 0) o ss ∙ rw (new_distinct words (map (λ s. s.name) ss) (structs_below ss k))

  functions_once : (barred : List ℕ) (fs : List Function) → FunctionsLimits m fs
      → functions_ended barred (replicate words 0) fs ≡ when (distinct (map (λ f. f.name) fs)) (any (forbidden_function (bit_at barred)) fs)
  functions_once barred fs k = functions_taken barred (replicate words 0) fs k.0 ∙ rw (new_distinct words (map (λ f. f.name) fs) (functions_below fs k.1))

-- the names that may not be called
abbrev pub barred_by : (ℕ → Bool) → List Mark → ℕ → Bool
barred_by barred ms x = member x (reserved_by ms) || barred x

-- a book's marks, structs and functions are taken exactly where each name is there once
pub parts_answer : (m words : ℕ) → m ≤ 64 * words → (barred : List ℕ) → length barred ≡ words → (b : Book) (n : ℕ) → PartsLimits m b
    → marks_found (replicate words 0) (replicate words 0) (replicate words 0) barred (got (b.marks, (b.structs, b.functions)) n)
    ≡ answered n (when (once_each b) (any (forbidden_function (barred_by (bit_at barred) b.marks)) b.functions))
unfolding once_each
parts_answer m words fits barred e b n k =
    let none_yet : List ℕ = replicate words 0 in
    let below = marks_below m words fits b.marks k.0 in
    let marksOnce = distinct (map mark_name b.marks) in
    let structsOnce = distinct (map (λ s. s.name) b.structs) in
    let functionsOnce = distinct (function_names b) in
    let reserved = with_reserved barred b.marks in
    let seen = any (forbidden_function (bit_at reserved)) b.functions in
    ap (answered n)
    (marks_taken none_yet barred (λ r. structs_ended none_yet none_yet (none_yet, r) (b.structs, b.functions)) b.marks
    ∙ rw (structs_once m words fits b.structs (functions_ended reserved none_yet b.functions) k.1.0, functions_once m words fits reserved b.functions k.1.1, new_distinct words (map mark_name b.marks) below)
    (go marksOnce structsOnce functionsOnce seen)
    ∙ ap (λ t. when (marksOnce && (structsOnce && functionsOnce)) (any (forbidden_function t) b.functions)) (fun_ext λ x. reserved_bits words barred b.marks e below x))
  where
    go : (p q r x : Bool) → pick p (pick q (when r x) none) none ≡ when (p && (q && r)) x
    go true true r x = refl
    go true false r x = refl
    go false q r x = refl

-- ---- maps of fewer words: what is found with maps of so many
abbrev pub words_found : (words from to : ℕ) → Read (List Mark × (List StructType × List Function)) → code.Option Found
words_found words from to = marks_found (replicate words 0) (replicate words 0) (replicate words 0) (marked_range (replicate words 0) from to)

module _ (m : ℕ) (few : m ≤ 2048) (es : List Entry) (from to : ℕ) (short : to ≤ 2048) where
  -- the same names are marked
  range_few : (x : ℕ) → bit_at (marked_range (replicate 32 0) from to) x ≡ bit_at (marked_range (replicate 2048 0) from to) x
  range_few x =
      bit_range (replicate 32 0) from to (omega (arith, length-replicate {A = ℕ} 32 0)) x
      ∙ rw (bit_none 32 x, ← bit_none 2048 x) (sym (bit_range (replicate 2048 0) from to (omega (arith, length-replicate {A = ℕ} 2048 0)) x))

  pub parts_few : words_found 32 from to (parts m es) ≡ words_found 2048 from to (parts m es)
  unfolding mapped
  parts_few = go (parts m es) refl
    where
      sized : (words : ℕ) → length (marked_range (replicate words 0) from to) ≡ words
      sized words = length_range (replicate words 0) from to ∙ length-replicate {A = ℕ} words 0

      go : (r : Read (List Mark × (List StructType × List Function))) → parts m es ≡ r → words_found 32 from to r ≡ words_found 2048 from to r
      go (got p n) e =
          let k = ((agrees_book m).sound es (book_of p) n (ap (λ r. and_then r (λ a n. got (book_of a) n)) e)).keeps in
          parts_answer m 32 (omega arith) (marked_range (replicate 32 0) from to) (sized 32) (book_of p) n k
          ∙ ap (λ t. answered n (when (once_each (book_of p)) (any (forbidden_function (barred_by t p.0)) p.1.1))) (fun_ext range_few)
          ∙ sym (parts_answer m 2048 (omega arith) (marked_range (replicate 2048 0) from to) (sized 2048) (book_of p) n k)
      go bad e = refl
