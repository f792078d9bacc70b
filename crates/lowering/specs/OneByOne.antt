-- Law of document 02, card 1: "Lines and counter equal those of translating them one by one."
use Prim.Native.Nat.{ℕ}
use Rattle.std.specs.Prelude.{◌≡◌, Bool, not, cond, ◌&&◌, ◌||◌, eqb}
use Rattle.std.proofs.Math.Path.{refl, ap, sym}
use Rattle.std.proofs.Common.{◌∙◌, eqb-true, eq-eqb}
use Rattle.std.proofs.Math.Bool.{true, false, and-false, or_assoc, or-false, or-true}
use mathlib.Core.List.{List, [], ◌∷◌, ◌++◌, map, Memᴰ}
use Rattle.names.specs.Name.{name_at}
use Rattle.names.specs.Spelling.{is_intrinsic}
use Rattle.book.specs.Ast.{Function, Mark, Book}
use Rattle.book.specs.Decode.{member, mark_name, function_names}
use Rattle.book.specs.Forbidden.{any, reserved_by, uncallable, forbidden_function, forbidden}
use Rattle.lowering.specs.Gen.{Gen, each, then_skip}
use Rattle.lowering.specs.Context.{defined_by, codegen_of}
use Rattle.lowering.specs.Function.{gen_function, gen_functions}
use Rattle.lowering.specs.Alike.{neither, function_alike}

-- ---- what is stated
-- of these names those that a test takes
unfoldable pub taken : (ℕ → Bool) → List ℕ → List ℕ
taken test [] = []
taken test (x ∷ xs) = let rest = taken test xs in cond (test x) (x ∷ rest) rest

-- the names of the book's other functions that have no mark
unfoldable pub others : Book → Function → List ℕ
others b f = taken (λ x. not (eqb x f.name || member x (map mark_name b.marks))) (function_names b)

-- a function of the book by itself: the marks there are, behind them the other functions marked defined ("All functions of the book count as defined"), the
-- structs, and that function. One that is marked reserved stays so: nobody calls it, or refusal 3 comes first.
unfoldable pub alone : Book → Function → Book
alone b f = record { marks = b.marks ++ map Mark.defined (others b f); structs = b.structs; functions = f ∷ [] }

-- a book's functions translated in order, from the given counter
abbrev pub translated : List (List ℕ) → Book → Gen
translated names b = gen_functions (codegen_of names b) b.functions

-- ---- names in a list
pub member_append : (x : ℕ) (xs ys : List ℕ) → member x (xs ++ ys) ≡ (member x xs || member x ys)
unfolding member
member_append x [] ys = refl
member_append x (y ∷ xs) ys = rw (member_append x xs ys) (sym (or_assoc (eqb x y) (member x xs) (member x ys)))

pub member_taken : (x : ℕ) (test : ℕ → Bool) (xs : List ℕ) → member x (taken test xs) ≡ (test x && member x xs)
unfolding member taken
member_taken x test [] = sym (and-false (test x))
member_taken x test (y ∷ xs) = go (test y) refl (eqb x y) refl (member_taken x test xs)
  where
    go : (t : Bool) → test y ≡ t → (e : Bool) → eqb x y ≡ e → member x (taken test xs) ≡ (test x && member x xs)
        → member x (cond t (y ∷ taken test xs) (taken test xs)) ≡ (test x && (e || member x xs))
    go true p true q h = let z : test x ≡ true = rw (eqb-true x y q) p in rw (q, z)
    go true p false q h = rw q h
    go false p true q h = let z : test x ≡ false = rw (eqb-true x y q) p in rw z (rw z at h)
    go false p false q h = h

-- a mark is defined or reserved
member_marks : (x : ℕ) (ms : List Mark) → member x (map mark_name ms) ≡ (member x (defined_by ms) || member x (reserved_by ms))
unfolding member defined_by reserved_by
member_marks x [] = refl
member_marks x (Mark.defined y ∷ ms) = rw (member_marks x ms) (sym (or_assoc (eqb x y) (member x (defined_by ms)) (member x (reserved_by ms))))
member_marks x (Mark.reserved y ∷ ms) = rw (member_marks x ms) (go (eqb x y) (member x (defined_by ms)))
  where
    go : (a b : Bool) → (a || (b || member x (reserved_by ms))) ≡ (b || (a || member x (reserved_by ms)))
    go true true = refl
    go true false = refl
    go false b = refl

-- a function's name is among the names
own_name : (f : Function) (fs : List Function) → Memᴰ f fs → member f.name (map (λ (g : Function). g.name) fs) ≡ true
unfolding member
own_name f [] x' = elim x' [ ]
own_name f (g ∷ fs) (Memᴰ.head e) = rw (eq-eqb f.name g.name (ap (λ (h : Function). h.name) e))
own_name f (g ∷ fs) (Memᴰ.tail m) = rw (own_name f fs m) (or-true (eqb f.name g.name))

-- ---- marks behind the marks there are
defined_more : (ms : List Mark) (xs : List ℕ) → defined_by (ms ++ map Mark.defined xs) ≡ defined_by ms ++ xs
unfolding defined_by
defined_more [] [] = refl
defined_more [] (x ∷ xs) = ap (λ (r : List ℕ). x ∷ r) (defined_more [] xs)
defined_more (Mark.defined y ∷ ms) xs = ap (λ (r : List ℕ). y ∷ r) (defined_more ms xs)
defined_more (Mark.reserved y ∷ ms) xs = defined_more ms xs

reserved_more : (ms : List Mark) (xs : List ℕ) → reserved_by (ms ++ map Mark.defined xs) ≡ reserved_by ms
unfolding reserved_by
reserved_more [] [] = refl
reserved_more [] (x ∷ xs) = reserved_more [] xs
reserved_more (Mark.defined y ∷ ms) xs = reserved_more ms xs
reserved_more (Mark.reserved y ∷ ms) xs = ap (λ (r : List ℕ). y ∷ r) (reserved_more ms xs)

-- ---- refusal 3
module _ (names : List (List ℕ)) (b : Book) where
  uncallable_alone : (f : Function) → uncallable names (alone b f).marks ≡ uncallable names b.marks
  unfolding uncallable alone
  uncallable_alone f i x = member x (reserved_more b.marks (others b f) i) || is_intrinsic (name_at names x)

  forbidden_alone : (f : Function) → forbidden names (alone b f) ≡ forbidden_function (uncallable names b.marks) f
  unfolding forbidden alone any
  forbidden_alone f = or-false _ ∙ ap (λ (barred : ℕ → Bool). forbidden_function barred f) (uncallable_alone f)

  -- a book is forbidden where one of its functions is by itself
  pub forbidden_one_by_one : forbidden names b ≡ any (λ f. forbidden names (alone b f)) b.functions
  unfolding forbidden
  forbidden_one_by_one = simp forbidden_alone

  -- ---- a name that may be called is defined in both or in neither
  same_defined : (f : Function) → Memᴰ f b.functions → (x : ℕ) → uncallable names b.marks x ≡ false
      → member x (codegen_of names b).defined ≡ member x (codegen_of names (alone b f)).defined
  unfolding codegen_of alone uncallable others member
  same_defined f m x h =
      let free : member x (reserved_by b.marks) ≡ false = (neither (member x (reserved_by b.marks)) (is_intrinsic (name_at names x)) h).0 in
      simp (member_append, defined_more, member_taken, member_marks, free)
      (go (member x (defined_by b.marks)) (eqb x f.name) (member x (function_names b)) (λ e. rw (eqb-true x f.name e) (own_name f b.functions m)))
    where
      go : (a e n : Bool) → (e ≡ true → n ≡ true) → (a || n) ≡ ((a || (not (e || (a || false)) && n)) || (e || false))
      go true e n k = refl
      go false true n k = k refl
      go false false n k = sym (or-false n)

-- ---- one by one
each_same : {A : Type 0} (g h : A → Gen) (xs : List A) → ((x : A) → Memᴰ x xs → g x ≡ h x) → each g xs ≡ each h xs
unfolding each
each_same g h [] e = refl
each_same g h (x ∷ xs) e = rw (e x (Memᴰ.head refl), each_same g h xs (λ y m. e y (Memᴰ.tail m)))

pub none_of : {A : Type 0} (test : A → Bool) (xs : List A) → any test xs ≡ false → (x : A) → Memᴰ x xs → test x ≡ false
unfolding any
none_of {A = A} test [] h x x4 = elim x4 [ ]
none_of test (y ∷ xs) h x (Memᴰ.head e) = ap test e ∙ (neither (test y) _ h).0
none_of test (y ∷ xs) h x (Memᴰ.tail m) = none_of test xs (neither (test y) _ h).1 x m

module _ (names : List (List ℕ)) (b : Book) (allowed : forbidden names b ≡ false) where
  function_alone : (f : Function) → Memᴰ f b.functions → gen_function (codegen_of names b) f ≡ translated names (alone b f)
  unfolding gen_functions each codegen_of alone forbidden
  function_alone f m =
      function_alike (codegen_of names b) (codegen_of names (alone b f)).defined (uncallable names b.marks) (same_defined names b f m)
      f (none_of (forbidden_function (uncallable names b.marks)) b.functions allowed f m)
      ∙ sym (then_skip (gen_function (codegen_of names (alone b f)) f))

  -- "Lines and counter equal those of translating them one by one", "each beginning with the counter that the last one left". An equation of results: both
  -- are accepted, with the same lines and next counter, or both refused, with the same number.
  pub one_by_one_lem : (n : ℕ) → translated names b n ≡ each (λ f. translated names (alone b f)) b.functions n
  unfolding gen_functions
  one_by_one_lem n = ap (λ (g : Gen). g n) (each_same (gen_function (codegen_of names b)) (λ f. translated names (alone b f)) b.functions function_alone)
