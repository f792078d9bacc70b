-- The answers for marks, named structs and functions, and the laws that their proofs cite.
use Prim.Native.Nat.{ℕ, zero, suc, ◌+◌, ◌-◌, ◌≤◌, ◌<◌}
use Rattle.std.proofs.Math.Path.{◌≡◌, refl, ap, sym}
use Rattle.std.proofs.Common.{◌∙◌, subst, arith}
use Rattle.std.specs.Prelude.{◌⊎◌, Bool, ◌&&◌, ◌||◌, not, length, get_or, take, eqb, leb}
use Rattle.std.proofs.Math.Logic.{inl, inr, ⊎_elim}
use Rattle.std.proofs.Math.Bool.{true, false, and-false}
use Rattle.std.proofs.Math.Option.{Option, none, some}
use mathlib.Core.List.{List, [], ◌∷◌, ◌++◌}
use borrow.Author.Tests.{eqb-true, eqb-false, eq-eqb, ne_eqb, le-leb, lt-leb, le-ltb, lt-ltb}
use Rattle.std.proofs.Math.ListN.{drop, drop_of_length-le}
use Rattle.std.proofs.Math.Dec.{ltb}
use Rattle.numbers.specs.Bits.{bit_at, set_bit_at}
use Rattle.book.specs.Entry.{Entry, entry, entries}
use Rattle.book.specs.Ast.{Ty, Mark, StructBody, StructType, Function}
use Rattle.book.specs.Rule.{when, unmentioned}
use Rattle.book.specs.Kinds.{TyTag, ty_tag}
use Rattle.book.specs.Read.{Read, got, bad, Reader, and_then, taking, one, filtered, stops, mapped, until, word, closing, is_closing, list_of, many}
use Rattle.book.specs.Decode.{type, mark_as, mark, body_of, struct_body, struct_type, function, functions, structs_and_functions, parts}
use Rattle.book.specs.Encode.{enc_ty, enc_struct, enc_function}
use Rattle.book.specs.Forbidden.{forbidden_function}
use Rattle.book.specs.Agree.{Agrees}
use Rattle.book.specs.AgreeTy.{ty_found}
use Rattle.book.proofs.AgreeTy.{agrees_type}
use Rattle.book.proofs.AgreeBook.{agrees_function, agrees_struct_type, agrees_functions, agrees_structs}
use Rattle.book_types.specs.Length.{len_of, front_of}
use Rattle.book_types.specs.Groups.{type_group_of}
use Rattle.book_types.specs.Laws.{entry_at, entries_part, lent_from, lent_fits}
use Rattle.book_types.specs.declared.types.TypeGroup.{TypeGroup}
use Rattle.book_types.specs.declared.types.TypeGroup.TheVariants as group
use Rattle.book_marks.specs.Once.{is_new, set_if}
use Rattle.book_types.specs.Found.{found, found_of, joined, never}
use Rattle.book_types.specs.declared.Found.{Found}
use Rattle.std.specs.Bool.{then_some}
use Rattle.std.specs.Prelude as code
use Rattle.std.specs.Prelude.{Some, None}
use Rattle.book_parts.specs.Reading.{answered, folded, end_found, all_found, function_taken, functions_closed, functions_ended, functions_found, struct_taken, structs_closed, named_found, marked_by, structs_ended, marks_found, mark_taken}
use Rattle.book_parts.specs.Folds.{Fold, fold_start, fold_end, fold_bad, fold_full, fold_refused, fold_next, NameFirst, ItemAt, item_none, item_at}

no : false ≡ true → ⊥
no e = let z : ◌≡◌ {A = ℕ} 0 1 = cc in omega arith

yes : true ≡ false → ⊥
yes e = let z : ◌≡◌ {A = ℕ} 0 1 = cc in omega arith

abbrev pub is_struct_group : TypeGroup → Bool
is_struct_group group.Void = false
is_struct_group group.Int = false
is_struct_group group.Ptr = false
is_struct_group (group.Array p) = false
is_struct_group group.Named = false
is_struct_group (group.Struct p) = true
is_struct_group group.Sizeless = false
is_struct_group group.Other = false

kind_is : (k w : ℕ) (e : Entry) (es rs : List Entry) → entry k w ∷ es ≡ e ∷ rs → k ≡ e.kind
kind_is k w e es rs h = let z : entry k w ≡ e = cc in ap (λ x. x.kind) z

-- a length, if a test holds
abbrev only_if : Bool → code.Option ℕ → code.Option ℕ
only_if true a = a
only_if false a = None

-- a type that was read is a struct exactly where its kind is a struct's
body_len : (m : ℕ) (t : Ty) (n k w : ℕ) (es r : List Entry) → entry k w ∷ es ≡ enc_ty t ++ r → len_of (body_of m t n) ≡ only_if (is_struct_group (type_group_of (ty_tag k))) (Some n)
unfolding body_of enc_ty
body_len m Ty.void n k w es r e = sym (rw (kind_is k w _ es _ e, ty_found TyTag.void))
body_len m Ty.ptr n k w es r e = sym (rw (kind_is k w _ es _ e, ty_found TyTag.ptr))
body_len m (Ty.sizeless s) n k w es r e = sym (rw (kind_is k w _ es _ e, ty_found (TyTag.sizeless s)))
body_len m (Ty.int v) n k w es r e = sym (rw (kind_is k w _ es _ e, ty_found TyTag.int))
body_len m (Ty.array p l t) n k w es r e = sym (rw (kind_is k w _ es _ e, ty_found (TyTag.array p)))
body_len m (Ty.named_struct x) n k w es r e = sym (rw (kind_is k w _ es _ e, ty_found TyTag.named))
body_len m (Ty.struct p ts) n k w es r e = sym (rw (kind_is k w _ es _ e, ty_found (TyTag.struct p)))

-- the arms of the code
module _ (m : ℕ) (es : List Entry) where
  pub body_none : None ≡ front_of es → None ≡ len_of (struct_body m es)
  unfolding struct_body front_of
  body_none h = go es h
    where
      go : (es : List Entry) → None ≡ front_of es → None ≡ len_of (struct_body m es)
      go [] e = refl
      go (e ∷ es) i = absurd (let z : ◌≡◌ {A = ℕ} 0 1 = cc in omega arith)

  module _ (k w : ℕ) (h : Some (k, w) ≡ front_of es) where
    -- the entries, with the entry in front taken apart
    apart : (es : List Entry) → Some (k, w) ≡ front_of es → (rs : List Entry) × (es ≡ entry k w ∷ rs)
    unfolding front_of
    apart [] i = absurd (let z : ◌≡◌ {A = ℕ} 0 1 = cc in omega arith)
    apart (e ∷ es) i = (es, ap (λ x. x ∷ es) (λ j. record { kind = ap (λ p. p.0) (sym same) j; word = ap (λ p. p.1) (sym same) j }))
      where
        same : ◌≡◌ {A = ℕ × ℕ} (k, w) (e.kind, e.word)
        same = cc

    pub body_opaque : k ≡ 4 → then_some (eqb w 0) 1 ≡ len_of (struct_body m es)
    unfolding struct_body
    body_opaque e4 = let a = apart es h in sym (rw (a.1, eq-eqb k 4 e4) (go (eqb w 0)))
      where
        go : (b : Bool) → len_of (taking {A = Option StructBody} 1 (when b none)) ≡ then_some b 1
        go true = refl
        go false = refl

    module _ (d : k ≡ 4 → ⊥) where
      typed : (rs : List Entry) (r : Read Ty) → type m (entry k w ∷ rs) ≡ r → len_of (and_then r (body_of m)) ≡ only_if (is_struct_group (type_group_of (ty_tag k))) (len_of r)
      typed rs (got t n) er = body_len m t n k w rs _ ((agrees_type m).sound (entry k w ∷ rs) t n er).here
      typed rs bad er = go (is_struct_group (type_group_of (ty_tag k)))
        where
          go : (b : Bool) → None ≡ only_if b None
          go true = refl
          go false = refl

      body_is : len_of (struct_body m es) ≡ only_if (is_struct_group (type_group_of (ty_tag k))) (len_of (type m es))
      unfolding struct_body
      body_is = let a = apart es h in rw (a.1, ne_eqb k 4 d) (typed a.0 (type m (entry k w ∷ a.0)) refl)

      module _ (g : TypeGroup) (t : Bool) (eg : g ≡ type_group_of (ty_tag k)) (et : t ≡ is_struct_group g) where
        test_is : is_struct_group (type_group_of (ty_tag k)) ≡ t
        test_is = sym (et ∙ ap is_struct_group eg)

        pub body_struct : t ≡ true → len_of (type m es) ≡ len_of (struct_body m es)
        body_struct e = sym (body_is ∙ rw (test_is, e))

        pub body_other : t ≡ false → None ≡ len_of (struct_body m es)
        body_other e = sym (body_is ∙ rw (test_is, e))

pub no_functions : (m : ℕ) → functions m [] ≡ bad
unfolding functions filtered many list_of mapped until stops closing word one
no_functions m = refl

pub no_structs : (m : ℕ) → structs_and_functions m [] ≡ bad
unfolding structs_and_functions until stops mapped
no_structs m = rw (no_functions m)

-- ---- functions
-- what is found of the functions is what is found of the items that close with kind 0
functions_found_lem : (barred defined : List ℕ) (m : ℕ) (es : List Entry)
    → functions_found barred defined (functions m es) ≡ all_found (function_taken barred) (functions_closed barred) (defined, (false, false)) (until is_closing (function m) closing (length es) es)
unfolding functions filtered many list_of mapped folded
functions_found_lem barred defined m es = go (until is_closing (function m) closing (length es) es)
  where
    go : (r : Read (List Function × Unit {0}))
        → functions_found barred defined (and_then (and_then r (λ a n. got a.0 n)) (λ fs n. taking n (when (leb 1 (length fs)) fs)))
        ≡ all_found (function_taken barred) (functions_closed barred) (defined, (false, false)) r
    go (got ([], u) n) = refl
    go (got (f ∷ fs, u) n) = rw (le-leb 1 (length (f ∷ fs)) (omega arith))
    go bad = refl

function_first : (f : Function) → NameFirst (enc_function f) f.name
unfolding enc_function
function_first f = (5, (_, refl))

-- the loop, at the place a: the names that occurred, whether there was one, and whether something was forbidden
abbrev pub FunctionsFold : (barred defined : List ℕ) (m : ℕ) (ks ws : List ℕ) (a left : ℕ) (now : List ℕ) (seen : Bool) → Type 0
FunctionsFold barred defined m ks ws a left now seen =
    Fold (function_taken barred) (functions_closed barred) is_closing (function m) closing (defined, (false, false)) (length (entries ks ws)) ks ws a left (now, (ltb 0 a, seen))

pub functions_start : (barred defined : List ℕ) (m : ℕ) (ks ws : List ℕ) (left : ℕ) → left ≡ length (entries ks ws) → FunctionsFold barred defined m ks ws 0 left defined false
functions_start barred defined m ks ws left e =
    fold_start (function_taken barred) (functions_closed barred) is_closing (function m) closing (defined, (false, false)) (length (entries ks ws)) ks ws left e

module _ (barred defined : List ℕ) (m : ℕ) (ks ws : List ℕ) (a left : ℕ) (now : List ℕ) (seen : Bool) (l : FunctionsFold barred defined m ks ws a left now seen) where
  abbrev functions_whole : code.Option Found
  functions_whole = functions_found barred defined (functions m (entries ks ws))

  abbrev functions_rest : List Entry
  functions_rest = drop a (entries ks ws)

  functions_end : stops is_closing functions_rest ≡ true → (r x : code.Option Found) → r ≡ end_found (functions_closed barred) (now, (ltb 0 a, seen)) (closing functions_rest)
      → x ≡ joined a false r → x ≡ functions_whole
  functions_end t r x er ex =
      fold_end (function_taken barred) (functions_closed barred) is_closing (function m) closing (defined, (false, false)) (length (entries ks ws)) ks ws a left _ l t r x er ex
      ∙ sym (functions_found_lem barred defined m (entries ks ws))

  pub functions_over : length (entries ks ws) ≤ a → None ≡ functions_whole
  unfolding stops closing word one
  functions_over h =
      let e : functions_rest ≡ [] = drop_of_length-le (entries ks ws) h in
      functions_end (rw e) None _ (rw e) refl

  module _ (h : a < length (entries ks ws)) where
    functions_front : functions_rest ≡ entry (get_or ks a 0) (get_or ws a 0) ∷ drop (a + 1) (entries ks ws)
    functions_front = entry_at ks ws a h

    -- the entry that closes them
    module _ (z : get_or ks a 0 ≡ 0) where
      closing_stops : stops is_closing functions_rest ≡ true
      unfolding stops
      closing_stops = rw functions_front (eq-eqb (get_or ks a 0) 0 z)

      closing_is : closing functions_rest ≡ taking 1 (unmentioned (get_or ws a 0))
      unfolding closing word one
      closing_is = rw (functions_front, eq-eqb (get_or ks a 0) 0 z)

      pub functions_none : (eqb a 0 || not (eqb (get_or ws a 0) 0)) ≡ true → None ≡ functions_whole
      functions_none d = functions_end closing_stops None _ (sym (ap (end_found (functions_closed barred) (now, (ltb 0 a, seen))) closing_is ∙ go (eqb a 0) refl (eqb (get_or ws a 0) 0) d)) refl
        where
          go : (t : Bool) → eqb a 0 ≡ t → (u : Bool) → (t || not u) ≡ true → end_found (functions_closed barred) (now, (ltb 0 a, seen)) (taking 1 (when u tt)) ≡ None
          go true e true q = rw (eqb-true a 0 e)
          go true e false q = refl
          go false e true q = absurd (no q)
          go false e false q = refl

      pub functions_done : (eqb a 0 || not (eqb (get_or ws a 0) 0)) ≡ false → Some (found (a + 1) seen) ≡ functions_whole
      functions_done d = functions_end closing_stops (Some (found 1 seen)) _ (sym (ap (end_found (functions_closed barred) (now, (ltb 0 a, seen))) closing_is ∙ go (eqb a 0) refl (eqb (get_or ws a 0) 0) d)) refl
        where
          go : (t : Bool) → eqb a 0 ≡ t → (u : Bool) → (t || not u) ≡ false → end_found (functions_closed barred) (now, (ltb 0 a, seen)) (taking 1 (when u tt)) ≡ Some (found 1 seen)
          go true e u q = absurd (yes q)
          go false e true q = rw (lt-ltb 0 a (omega (arith, eqb-false a 0 e)))
          go false e false q = absurd (yes q)

    -- a function
    module _ (z : get_or ks a 0 ≡ 0 → ⊥) (f : code.Option Found) (ef : f ≡ found_of (forbidden_function (bit_at barred)) (function m (lent_from ks ws a))) where
      function_more : stops is_closing functions_rest ≡ false
      unfolding stops
      function_more = rw functions_front (ne_eqb (get_or ks a 0) 0 z)

      pub functions_bad : f ≡ None → None ≡ functions_whole
      functions_bad e =
          fold_bad (function_taken barred) (functions_closed barred) is_closing (function m) closing (defined, (false, false)) (length (entries ks ws)) ks ws a left _ l function_more
          (item_none (agrees_function m) (forbidden_function (bit_at barred)) (λ x. x.name) function_first ks ws a l.there f ef e)
          ∙ sym (functions_found_lem barred defined m (entries ks ws))

      pub functions_full : left ≡ 0 → None ≡ functions_whole
      functions_full e =
          fold_full (function_taken barred) (functions_closed barred) is_closing (function m) closing (defined, (false, false)) (length (entries ks ws)) ks ws a left _ l function_more e
          ∙ sym (functions_found_lem barred defined m (entries ks ws))

      module _ (g : Found) (eh : f ≡ Some g) where
        pub function_at : ItemAt (function m) (forbidden_function (bit_at barred)) (λ x. x.name) ks ws a g.entries g.barred
        function_at = item_at (agrees_function m) (forbidden_function (bit_at barred)) (λ x. x.name) function_first ks ws a l.there f ef g eh

        module _ (r : Bool) (er : r ≡ is_new now (get_or ws a 0)) where
          function_new : is_new now function_at.value.name ≡ r
          function_new = ap (is_new now) function_at.name ∙ sym er

          pub functions_repeated : r ≡ false → None ≡ functions_whole
          functions_repeated t =
              fold_refused (function_taken barred) (functions_closed barred) is_closing (function m) closing (defined, (false, false)) (length (entries ks ws)) ks ws a left _ l function_more
              function_at.value g.entries function_at.read (rw (function_new, t))
              ∙ sym (functions_found_lem barred defined m (entries ks ws))

          pub functions_next : r ≡ true → (later : List ℕ) → later ≡ set_if r now (get_or ws a 0) → (left ≡ 0 → ⊥) → FunctionsFold barred defined m ks ws (a + g.entries) (left - 1) later (seen || g.barred)
          functions_next t later el y =
              let u : ◌≡◌ {A = List ℕ × (Bool × Bool)} (set_bit_at now function_at.value.name, (true, seen || forbidden_function (bit_at barred) function_at.value)) (later, (ltb 0 (a + g.entries), seen || g.barred)) =
              λ i. ((ap (set_bit_at now) function_at.name ∙ sym (el ∙ ap (λ x. set_if x now (get_or ws a 0)) t)) i, (sym (lt-ltb 0 (a + g.entries) (omega (arith, function_at.long))) i, seen || function_at.tested i)) in
              fold_next (function_taken barred) (functions_closed barred) is_closing (function m) closing (defined, (false, false)) (length (entries ks ws)) ks ws a left _ l function_more
              function_at.value g.entries function_at.read _ (rw (function_new, t) (ap some u)) y function_at.there

-- what the code finds behind the first entries is there
found_behind : {S A : Type 0} {p : Reader A} {write : A → List Entry} {Keeps : A → Type 0} → Agrees p write Keeps → (ended : S → A → Option Bool) (s : S) (ks ws : List ℕ) (a : ℕ) (f : Found)
    → Some f ≡ end_found ended s (p (lent_from ks ws a)) → a ≤ length (entries ks ws) → a + f.entries ≤ length (entries ks ws)
found_behind {S} {A} {p} agrees ended s ks ws a f ef h = go (p (lent_from ks ws a)) refl ef
  where
    sized : (k : ℕ) (o : Option Bool) → a + k ≤ length (entries ks ws) → Some f ≡ answered k o → a + f.entries ≤ length (entries ks ws)
    sized k none l e = absurd (let z : ◌≡◌ {A = ℕ} 0 1 = cc in omega arith)
    sized k (some b) l e = let z : f ≡ found k b = cc in omega (arith, ap (λ g. g.entries) z)

    go : (r : Read A) → p (lent_from ks ws a) ≡ r → Some f ≡ end_found ended s r → a + f.entries ≤ length (entries ks ws)
    go (got y k) e i = sized k (ended s y) (lent_fits agrees ks ws a k h (sym (ap len_of e))) i
    go bad e i = absurd (let z : ◌≡◌ {A = ℕ} 0 1 = cc in omega arith)

pub functions_behind : (barred defined : List ℕ) (m : ℕ) (ks ws : List ℕ) (a : ℕ) (f : Found) → Some f ≡ functions_found barred defined (functions m (lent_from ks ws a))
    → a ≤ length (entries ks ws) → a + f.entries ≤ length (entries ks ws)
functions_behind barred defined m = found_behind (agrees_functions m) (functions_ended barred) defined

-- ---- named structs
struct_first : (s : StructType) → NameFirst (enc_struct s) s.name
unfolding enc_struct
struct_first s = (3, (_, refl))

-- the loop, at the place a
abbrev pub NamedFold : (barred defined named : List ℕ) (m : ℕ) (ks ws : List ℕ) (a left : ℕ) (now : List ℕ) → Type 0
NamedFold barred defined named m ks ws a left now =
    Fold struct_taken (structs_closed barred defined) (leb 4) (struct_type m) (functions m) named (length (entries ks ws)) ks ws a left now

pub named_start : (barred defined named : List ℕ) (m : ℕ) (ks ws : List ℕ) (left : ℕ) → left ≡ length (entries ks ws) → NamedFold barred defined named m ks ws 0 left named
named_start barred defined named m ks ws left e =
    fold_start struct_taken (structs_closed barred defined) (leb 4) (struct_type m) (functions m) named (length (entries ks ws)) ks ws left e

module _ (barred defined named : List ℕ) (m : ℕ) (ks ws : List ℕ) (a left : ℕ) (now : List ℕ) (l : NamedFold barred defined named m ks ws a left now) where
  abbrev named_whole : code.Option Found
  named_whole = named_found barred defined named (structs_and_functions m (entries ks ws))

  abbrev named_rest : List Entry
  named_rest = drop a (entries ks ws)

  functions_closed_lem : (r : Read (List Function)) → end_found (structs_closed barred defined) now r ≡ functions_found barred defined r
  functions_closed_lem (got fs n) = refl
  functions_closed_lem bad = refl

  pub named_over : length (entries ks ws) ≤ a → None ≡ named_whole
  unfolding structs_and_functions stops
  named_over h =
      let e : named_rest ≡ [] = drop_of_length-le (entries ks ws) h in
      fold_end struct_taken (structs_closed barred defined) (leb 4) (struct_type m) (functions m) named (length (entries ks ws)) ks ws a left now l (rw e) None _ (rw (e, no_functions m)) refl

  module _ (h : a < length (entries ks ws)) where
    named_front : named_rest ≡ entry (get_or ks a 0) (get_or ws a 0) ∷ drop (a + 1) (entries ks ws)
    named_front = entry_at ks ws a h

    pub named_end : 4 ≤ get_or ks a 0 → (r x : code.Option Found) → r ≡ functions_found barred defined (functions m (lent_from ks ws a)) → x ≡ joined a false r → x ≡ named_whole
    unfolding structs_and_functions stops
    named_end t r x er ex =
        fold_end struct_taken (structs_closed barred defined) (leb 4) (struct_type m) (functions m) named (length (entries ks ws)) ks ws a left now l (rw named_front (le-leb 4 (get_or ks a 0) t)) r x
        (er ∙ ap (λ es. functions_found barred defined (functions m es)) (entries_part a ks ws) ∙ sym (functions_closed_lem (functions m named_rest))) ex

    -- a struct
    module _ (t : get_or ks a 0 < 4) (f : code.Option Found) (ef : f ≡ found_of never (struct_type m (lent_from ks ws a))) where
      struct_more : stops (leb 4) named_rest ≡ false
      unfolding stops
      struct_more = rw named_front (lt-leb 4 (get_or ks a 0) t)

      pub named_bad : f ≡ None → None ≡ named_whole
      unfolding structs_and_functions
      named_bad e =
          fold_bad struct_taken (structs_closed barred defined) (leb 4) (struct_type m) (functions m) named (length (entries ks ws)) ks ws a left now l struct_more
          (item_none (agrees_struct_type m) never (λ x. x.name) struct_first ks ws a l.there f ef e)

      pub named_full : left ≡ 0 → None ≡ named_whole
      unfolding structs_and_functions
      named_full e = fold_full struct_taken (structs_closed barred defined) (leb 4) (struct_type m) (functions m) named (length (entries ks ws)) ks ws a left now l struct_more e

      module _ (g : Found) (eh : f ≡ Some g) where
        pub struct_at : ItemAt (struct_type m) never (λ x. x.name) ks ws a g.entries g.barred
        struct_at = item_at (agrees_struct_type m) never (λ x. x.name) struct_first ks ws a l.there f ef g eh

        module _ (r : Bool) (er : r ≡ is_new now (get_or ws a 0)) where
          struct_new : is_new now struct_at.value.name ≡ r
          struct_new = ap (is_new now) struct_at.name ∙ sym er

          pub named_repeated : r ≡ false → None ≡ named_whole
          unfolding structs_and_functions
          named_repeated e =
              fold_refused struct_taken (structs_closed barred defined) (leb 4) (struct_type m) (functions m) named (length (entries ks ws)) ks ws a left now l struct_more
              struct_at.value g.entries struct_at.read (rw (struct_new, e))

          pub named_next : r ≡ true → (later : List ℕ) → later ≡ set_if r now (get_or ws a 0) → (left ≡ 0 → ⊥) → NamedFold barred defined named m ks ws (a + g.entries) (left - 1) later
          named_next e later el y =
              fold_next struct_taken (structs_closed barred defined) (leb 4) (struct_type m) (functions m) named (length (entries ks ws)) ks ws a left now l struct_more
              struct_at.value g.entries struct_at.read later
              (rw (struct_new, e) (ap some (ap (set_bit_at now) struct_at.name ∙ sym (el ∙ ap (λ x. set_if x now (get_or ws a 0)) e)))) y struct_at.there

-- ---- marks
structs_ended_lem : (named defined marked barred : List ℕ) (r : Read (List StructType × List Function)) → end_found (structs_ended named defined) (marked, barred) r ≡ named_found barred defined named r
structs_ended_lem named defined marked barred (got p n) = refl
structs_ended_lem named defined marked barred bad = refl

pub structs_behind : (named defined barred : List ℕ) (m : ℕ) (ks ws : List ℕ) (a : ℕ) (f : Found) → Some f ≡ named_found barred defined named (structs_and_functions m (lent_from ks ws a))
    → a ≤ length (entries ks ws) → a + f.entries ≤ length (entries ks ws)
structs_behind named defined barred m ks ws a f e =
    found_behind (agrees_structs m) (structs_ended named defined) ([], barred) ks ws a f (e ∙ sym (structs_ended_lem named defined [] barred (structs_and_functions m (lent_from ks ws a))))

module _ (m : ℕ) (marked barred : List ℕ) (k w : ℕ) (es : List Entry) (low : k < 3) where
  -- the entry is read as a mark, or is none
  pub mark_yes : mark_taken m marked k w ≡ true → (x : Mark) × ((mark m (entry k w ∷ es) ≡ got x 1) × (marked_by (marked, barred) x ≡ some (set_bit_at marked w, set_if (eqb k 2) barred w)))
  unfolding mark one mark_as
  mark_yes t = go k low t (ltb w m) refl (is_new marked w) refl
    where
      go : (k : ℕ) → k < 3 → mark_taken m marked k w ≡ true → (p : Bool) → ltb w m ≡ p → (q : Bool) → is_new marked w ≡ q
          → (x : Mark) × ((mark m (entry k w ∷ es) ≡ got x 1) × (marked_by (marked, barred) x ≡ some (set_bit_at marked w, set_if (eqb k 2) barred w)))
      go zero l t p ep q eq = absurd (let z : ◌≡◌ {A = ℕ} 0 1 = cc in omega arith)
      go (suc zero) l t true ep true eq = (Mark.defined w, (rw ep, rw eq))
      go (suc zero) l t true ep false eq = absurd (no (rw (ep, eq) at t))
      go (suc zero) l t false ep q eq = absurd (no (rw ep at t))
      go (suc (suc zero)) l t true ep true eq = (Mark.reserved w, (rw ep, rw eq))
      go (suc (suc zero)) l t true ep false eq = absurd (no (rw (ep, eq) at t))
      go (suc (suc zero)) l t false ep q eq = absurd (no (rw ep at t))
      go (suc (suc (suc k))) l t p ep q eq = absurd (omega arith)

  pub mark_no : mark_taken m marked k w ≡ false → (mark m (entry k w ∷ es) ≡ bad) ⊎ ((x : Mark) × ((mark m (entry k w ∷ es) ≡ got x 1) × (marked_by (marked, barred) x ≡ none)))
  unfolding mark one mark_as
  mark_no t = go k low t (ltb w m) refl (is_new marked w) refl
    where
      go : (k : ℕ) → k < 3 → mark_taken m marked k w ≡ false → (p : Bool) → ltb w m ≡ p → (q : Bool) → is_new marked w ≡ q
          → (mark m (entry k w ∷ es) ≡ bad) ⊎ ((x : Mark) × ((mark m (entry k w ∷ es) ≡ got x 1) × (marked_by (marked, barred) x ≡ none)))
      go zero l t p ep q eq = inl refl
      go (suc zero) l t true ep true eq = absurd (yes (rw (ep, eq) at t))
      go (suc zero) l t true ep false eq = inr (Mark.defined w, (rw ep, rw eq))
      go (suc zero) l t false ep q eq = inl (rw ep)
      go (suc (suc zero)) l t true ep true eq = absurd (yes (rw (ep, eq) at t))
      go (suc (suc zero)) l t true ep false eq = inr (Mark.reserved w, (rw ep, rw eq))
      go (suc (suc zero)) l t false ep q eq = inl (rw ep)
      go (suc (suc (suc k))) l t p ep q eq = absurd (omega arith)

-- the tests of the code
module _ (m : ℕ) (marked : List ℕ) (k w : ℕ) where
  pub mark_zero : k ≡ 0 → false ≡ mark_taken m marked k w
  mark_zero e = sym (rw e)

  pub mark_high : 2 < k → false ≡ mark_taken m marked k w
  mark_high h = sym (rw (lt-leb k 2 h, and-false (leb 1 k)))

  pub mark_name_lem : m ≤ w → false ≡ mark_taken m marked k w
  mark_name_lem h = sym (rw (le-ltb w m h) (and-false (leb 1 k && leb k 2)))

  pub mark_old : (r : Bool) → r ≡ is_new marked w → r ≡ false → false ≡ mark_taken m marked k w
  mark_old r er f = sym (rw (sym er ∙ f, and-false (ltb w m)) (and-false (leb 1 k && leb k 2)))

  pub mark_first : (k ≡ 0 → ⊥) → k ≤ 2 → w < m → (r : Bool) → r ≡ is_new marked w → r ≡ true → true ≡ mark_taken m marked k w
  mark_first z h l r er t = sym (rw (le-leb 1 k (omega (arith, z)), le-leb k 2 h, lt-ltb w m l, sym er ∙ t))

-- the loop over the marks, at the place a
module _ (named defined marked barred : List ℕ) (m : ℕ) (ks ws : List ℕ) (a : ℕ) (now : List ℕ × List ℕ)
    (l : Fold marked_by (structs_ended named defined) (leb 3) (mark m) (structs_and_functions m) (marked, barred) (length (entries ks ws)) ks ws a (length (entries ks ws) - a) now) where
  abbrev whole_marks : code.Option Found
  whole_marks = marks_found named defined marked barred (parts m (entries ks ws))

  pub marks_over : length (entries ks ws) ≤ a → None ≡ whole_marks
  unfolding parts stops
  marks_over h =
      let e : drop a (entries ks ws) ≡ [] = drop_of_length-le (entries ks ws) h in
      fold_end marked_by (structs_ended named defined) (leb 3) (mark m) (structs_and_functions m) (marked, barred) (length (entries ks ws)) ks ws a _ now l (rw e) None _ (sym (ap (λ es. end_found (structs_ended named defined) now (structs_and_functions m es)) e ∙ ap (end_found (structs_ended named defined) now) (no_structs m))) refl

  module _ (h : a < length (entries ks ws)) where
    here : drop a (entries ks ws) ≡ entry (get_or ks a 0) (get_or ws a 0) ∷ drop (a + 1) (entries ks ws)
    here = entry_at ks ws a h

    pub marks_end : 3 ≤ get_or ks a 0 → (r x : code.Option Found) → r ≡ named_found now.1 defined named (structs_and_functions m (lent_from ks ws a)) → x ≡ joined a false r → x ≡ whole_marks
    unfolding parts stops
    marks_end t r x er ex =
        fold_end marked_by (structs_ended named defined) (leb 3) (mark m) (structs_and_functions m) (marked, barred) (length (entries ks ws)) ks ws a _ now l (rw here (le-leb 3 (get_or ks a 0) t)) r x
        (er ∙ ap (λ es. named_found now.1 defined named (structs_and_functions m es)) (entries_part a ks ws) ∙ sym (structs_ended_lem named defined now.0 now.1 (structs_and_functions m (drop a (entries ks ws))))) ex

    module _ (t : get_or ks a 0 < 3) (r : Bool) (er : r ≡ mark_taken m now.0 (get_or ks a 0) (get_or ws a 0)) where
      item_stays : stops (leb 3) (drop a (entries ks ws)) ≡ false
      unfolding stops
      item_stays = rw here (lt-leb 3 (get_or ks a 0) t)

      pub marks_refused : r ≡ false → None ≡ whole_marks
      unfolding parts
      marks_refused f =
          ⊎_elim
          (λ e. fold_bad marked_by (structs_ended named defined) (leb 3) (mark m) (structs_and_functions m) (marked, barred) (length (entries ks ws)) ks ws a _ now l item_stays (ap (mark m) here ∙ e))
          (λ y. fold_refused marked_by (structs_ended named defined) (leb 3) (mark m) (structs_and_functions m) (marked, barred) (length (entries ks ws)) ks ws a _ now l item_stays y.0 1 (ap (mark m) here ∙ y.1.0) y.1.1)
          (mark_no m now.0 now.1 (get_or ks a 0) (get_or ws a 0) (drop (a + 1) (entries ks ws)) t (sym er ∙ f))

      pub marks_next : r ≡ true → (p q : List ℕ) → p ≡ set_if r now.0 (get_or ws a 0) → q ≡ set_if (r && eqb (get_or ks a 0) 2) now.1 (get_or ws a 0)
          → Fold marked_by (structs_ended named defined) (leb 3) (mark m) (structs_and_functions m) (marked, barred) (length (entries ks ws)) ks ws (a + 1) (length (entries ks ws) - (a + 1)) (p, q)
      marks_next f p q ep eq =
          let y = mark_yes m now.0 now.1 (get_or ks a 0) (get_or ws a 0) (drop (a + 1) (entries ks ws)) t (sym er ∙ f) in
          let u : ◌≡◌ {A = List ℕ × List ℕ} (set_bit_at now.0 (get_or ws a 0), set_if (eqb (get_or ks a 0) 2) now.1 (get_or ws a 0)) (p, q) = λ i. (sym (ep ∙ ap (λ b. set_if b now.0 (get_or ws a 0)) f) i, sym (eq ∙ ap (λ b. set_if (b && eqb (get_or ks a 0) 2) now.1 (get_or ws a 0)) f) i) in
          ap_left (fold_next marked_by (structs_ended named defined) (leb 3) (mark m) (structs_and_functions m) (marked, barred) (length (entries ks ws)) ks ws a _ now l item_stays y.0 1 (ap (mark m) here ∙ y.1.0) (p, q) (y.1.1 ∙ ap some u) (λ z. omega arith) (omega arith))
        where
          ap_left : Fold marked_by (structs_ended named defined) (leb 3) (mark m) (structs_and_functions m) (marked, barred) (length (entries ks ws)) ks ws (a + 1) (length (entries ks ws) - a - 1) (p, q)
              → Fold marked_by (structs_ended named defined) (leb 3) (mark m) (structs_and_functions m) (marked, barred) (length (entries ks ws)) ks ws (a + 1) (length (entries ks ws) - (a + 1)) (p, q)
          ap_left = subst (λ i. Fold marked_by (structs_ended named defined) (leb 3) (mark m) (structs_and_functions m) (marked, barred) (length (entries ks ws)) ks ws (a + 1) i (p, q)) (omega arith)
