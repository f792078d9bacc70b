-- Where the functions of a book stand: the one of a name begins at the first entry of kind 5 with that name.
use Prim.Native.Nat.{ℕ, zero, suc, ◌+◌, ◌-◌, ◌*◌, ◌/◌, ◌≤◌, ◌<◌}
use Rattle.std.specs.Prelude.{◌≡◌, Bool, cond, ◌&&◌, ◌||◌, get_or, set, take, drop, replicate}
use Rattle.std.proofs.Math.Path.{refl, ap}
use Rattle.std.proofs.Common.{sym, ◌∙◌, subst, ⊎_elim, add-one, eqb-true, eq-eqb, ne_eqb, length-drop, length-set, drop-cons, drop-drop, get_or-set_same, get_or-set_other}
use Rattle.std.proofs.Math.Bool.{true, false}
use Rattle.std.proofs.lemmas.Bool.{false≢true}
use Rattle.std.proofs.Math.Option.{Option, none, some}
use mathlib.Core.List.{List, [], ◌∷◌, ◌++◌, map, append-nil}
use native.Mathlib.Omega.{arith}
use Rattle.std.proofs.Math.Dec.{eqb}
use Rattle.std.proofs.Math.ListN.{length, length-append}
use Rattle.numbers.specs.Tests.{eq_or_ne}
use Rattle.book.specs.Ast.{Function, Book}
use Rattle.book.specs.Entry.{Entry, entry, entries}
use Rattle.book.specs.Read.{got}
use Rattle.book.specs.Decode.{type_to, function, member, function_names, decode}
use Rattle.book.specs.Encode.{ending, enc_function, enc_functions, encode}
use Rattle.book.specs.Limits.{Each, FunctionLimits, Limits}
use Rattle.book.proofs.AgreeBook.{agrees_function, decode_sound}
use Rattle.book.specs.Heads.{Other, function_rest, function_rest_lem, other_function, book_heads, other_closing}
use Rattle.book_types.specs.Laws.{lent_from, entries_part, length_entries}
use Rattle.assembly.specs.Printer.{function_named, first}
use Rattle.print_types.specs.Types.{is_got}
use Rattle.print_forms.specs.Allowed.{is_some}
use Rattle.print.specs.Function.{FunctionThere, FunctionParts, function_parts, params_read}
use Rattle.print.specs.declared.heads.Head.{Head}
use Rattle.std.specs.Prelude.{Option as RustOption, Some, None}

-- ---- the book in two slices
pub record Decoded (m : ℕ) (ks ws : List ℕ) : Type 0 where
  pub some : is_some (decode m (entries ks ws)) ≡ true
  pub even : length ks ≡ length ws

abbrev book_or : Option Book → Book
book_or none = record { marks = []; structs = []; functions = [] }
book_or (some b) = b

-- the book that the entries are
unfoldable pub book_at : (m : ℕ) (ks ws : List ℕ) → Book
book_at m ks ws = book_or (decode m (entries ks ws))

pub book_is : (m : ℕ) (ks ws : List ℕ) (b : Book) → decode m (entries ks ws) ≡ some b → book_at m ks ws ≡ b
unfolding book_at
book_is m ks ws b e = ap book_or e

module _ (m : ℕ) (ks ws : List ℕ) where
  -- whether it has a function of that name, and which
  abbrev pub is_fn : ℕ → Bool
  is_fn x = member x (function_names (book_at m ks ws))

  abbrev pub fn_named : ℕ → Function
  fn_named x = function_named (book_at m ks ws).functions x

  -- the name of the first one
  abbrev pub first_of : ℕ
  first_of = (first (book_at m ks ws).functions).name

-- the function named own stands at the place p and has n parameters
pub record Standing (m : ℕ) (ks ws : List ℕ) (own p n : ℕ) : Type 0 where
  pub is : is_fn m ks ws own ≡ true
  pub below : own < m
  pub kinds : p + 1 ≤ length ks
  pub words : p + 1 ≤ length ws
  pub size : ℕ
  pub type : type_to m 64 (lent_from ks ws (p + 1)) ≡ got (fn_named m ks ws own).ret_ty size
  pub count : n ≡ length (fn_named m ks ws own).params

-- what a search for it answers
abbrev pub Sought : (m : ℕ) (ks ws : List ℕ) (own : ℕ) → RustOption Head → Type 0
Sought m ks ws own (Some h) = Standing m ks ws own h.at h.params
Sought m ks ws own None = is_fn m ks ws own ≡ false

pub stands_at : {m : ℕ} {ks ws : List ℕ} {own : ℕ} {r : RustOption Head} (h : Head) → Sought m ks ws own r → r ≡ Some h → Standing m ks ws own h.at h.params
stands_at {m} {ks} {ws} {own} h s e = subst (Sought m ks ws own) e s

pub stands_nowhere : (m : ℕ) (ks ws : List ℕ) (own : ℕ) {r : RustOption Head} → Sought m ks ws own r → r ≡ None → is_fn m ks ws own ≡ false
stands_nowhere m ks ws own s e = subst (Sought m ks ws own) e s

-- ---- the first function of a name
abbrev pick_nat : Bool → ℕ → ℕ → ℕ
pick_nat true a b = a
pick_nat false a b = b

-- its place among entries, their number where there is none
pub head_in : ℕ → List Entry → ℕ
head_in x [] = 0
head_in x (e ∷ es) = pick_nat (eqb e.kind 5 && eqb x e.word) 0 (suc (head_in x es))

abbrev pub head_of : ℕ → (ks ws : List ℕ) → ℕ
head_of x ks ws = head_in x (entries ks ws)

module _ (x : ℕ) where
  pub head_inside : (es : List Entry) → head_in x es ≤ length es
  unfolding head_in
  head_inside [] = omega arith
  head_inside (e ∷ es) = go (eqb e.kind 5 && eqb x e.word) (head_inside es)
    where
      go : (t : Bool) → head_in x es ≤ length es → pick_nat t 0 (suc (head_in x es)) ≤ suc (length es)
      go true h = omega arith
      go false h = omega arith

  head_past : (a b : List Entry) → Each Other a → head_in x (a ++ b) ≡ length a + head_in x b
  unfolding head_in
  head_past [] b o = omega arith
  head_past (e ∷ a) b o = rw (ne_eqb e.kind 5 o.0) (omega (arith, head_past a b o.1))

  -- an entry that begins it, and one that doesn't
  pub head_hit : (ks ws : List ℕ) (i : ℕ) → i < length ks → i < length ws → (eqb (get_or ks i 0) 5 && eqb x (get_or ws i 0)) ≡ true → head_of x ks ws ≤ i
  unfolding head_in entries
  head_hit [] ws i h g e = absurd (omega arith)
  head_hit (k ∷ ks) [] i h g e = absurd (omega arith)
  head_hit (k ∷ ks) (w ∷ ws) zero h g e = rw e (omega arith)
  head_hit (k ∷ ks) (w ∷ ws) (suc i) h g e = go (eqb k 5 && eqb x w) (head_hit ks ws i (omega arith) (omega arith) e)
    where
      go : (t : Bool) → head_of x ks ws ≤ i → pick_nat t 0 (suc (head_of x ks ws)) ≤ suc i
      go true h = omega arith
      go false h = omega arith

  pub head_next : (ks ws : List ℕ) (i : ℕ) → i < length ks → i < length ws → i ≤ head_of x ks ws → (eqb (get_or ks i 0) 5 && eqb x (get_or ws i 0)) ≡ false → i + 1 ≤ head_of x ks ws
  unfolding head_in entries
  head_next [] ws i h g l n = absurd (omega arith)
  head_next (k ∷ ks) [] i h g l n = absurd (omega arith)
  head_next (k ∷ ks) (w ∷ ws) zero h g l n = rw n (omega arith)
  head_next (k ∷ ks) (w ∷ ws) (suc i) h g l n = go (eqb k 5 && eqb x w) l (λ j. head_next ks ws i (omega arith) (omega arith) j n)
    where
      go : (t : Bool) → suc i ≤ pick_nat t 0 (suc (head_of x ks ws)) → (i ≤ head_of x ks ws → i + 1 ≤ head_of x ks ws) → suc i + 1 ≤ pick_nat t 0 (suc (head_of x ks ws))
      go true j r = absurd (omega arith)
      go false j r = omega (arith, r (omega arith))

-- ---- among a book's functions
drop_past : (a b : List Entry) (n : ℕ) → drop (length a + n) (a ++ b) ≡ drop n b
drop_past [] b n = let z : 0 + n ≡ n = omega arith in ap (λ (k : ℕ). drop k b) z
drop_past (e ∷ a) b n = let z : suc (length a) + n ≡ suc (length a + n) = omega arith in ap (λ (k : ℕ). drop k (e ∷ (a ++ b))) z ∙ drop_past a b n

abbrev name_of : Function → ℕ
name_of f = f.name

-- the one of a name among functions, in front of an end without any
module _ (x : ℕ) (end : List Entry) (o : Each Other end) where
  among_none : (fs : List Function) → member x (map name_of fs) ≡ false → head_in x (ending enc_function end fs) ≡ length (ending enc_function end fs)
  unfolding ending head_in member
  among_none [] h = ap (head_in x) (sym (append-nil end)) ∙ head_past x end [] o ∙ (let z : length end + 0 ≡ length end = omega arith in z)
  among_none (f ∷ fs) h = rw (function_rest_lem f) (go (eqb x f.name) h (among_none fs))
    where
      go : (t : Bool) → (t || member x (map name_of fs)) ≡ false
          → (member x (map name_of fs) ≡ false → head_in x (ending enc_function end fs) ≡ length (ending enc_function end fs))
          → pick_nat t 0 (suc (head_in x (function_rest f ++ ending enc_function end fs))) ≡ suc (length (function_rest f ++ ending enc_function end fs))
      go true g ih = absurd (false≢true (sym g))
      go false g ih =
          let past = head_past x (function_rest f) (ending enc_function end fs) (other_function f) in
          let long = length-append (function_rest f) (ending enc_function end fs) in
          omega (arith, past, long, ih g)

  among_some : (fs : List Function) → member x (map name_of fs) ≡ true
      → (rest : List Entry) × (drop (head_in x (ending enc_function end fs)) (ending enc_function end fs) ≡ enc_function (function_named fs x) ++ rest)
  unfolding ending head_in member function_named
  among_some [] h = absurd (false≢true h)
  among_some (f ∷ fs) h = rw (function_rest_lem f) (go (eqb x f.name) h (among_some fs))
    where
      go : (t : Bool) → (t || member x (map name_of fs)) ≡ true
          → (member x (map name_of fs) ≡ true → (rest : List Entry) × (drop (head_in x (ending enc_function end fs)) (ending enc_function end fs) ≡ enc_function (function_named fs x) ++ rest))
          → (rest : List Entry) × (drop (pick_nat t 0 (suc (head_in x (function_rest f ++ ending enc_function end fs)))) (entry 5 f.name ∷ (function_rest f ++ ending enc_function end fs)) ≡ enc_function (cond t f (function_named fs x)) ++ rest)
      go true g ih = (ending enc_function end fs, rw (function_rest_lem f))
      go false g ih =
          let r = ih g in
          let past = head_past x (function_rest f) (ending enc_function end fs) (other_function f) in
          (r.0, rw past (drop_past (function_rest f) (ending enc_function end fs) (head_in x (ending enc_function end fs)) ∙ r.1))

named_limits : (P : Function → Type 0) (x : ℕ) (fs : List Function) → Each P fs → member x (map name_of fs) ≡ true → P (function_named fs x)
unfolding member function_named
named_limits P x [] l h = absurd (false≢true h)
named_limits P x (f ∷ fs) l h = go (eqb x f.name) h (named_limits P x fs l.1)
  where
    go : (t : Bool) → (t || member x (map name_of fs)) ≡ true → (member x (map name_of fs) ≡ true → P (function_named fs x)) → P (cond t f (function_named fs x))
    go true g ih = l.0
    go false g ih = ih g

pub named_name : (x : ℕ) (fs : List Function) → (function_named fs x).name ≡ x
unfolding function_named
named_name x [] = refl
named_name x (f ∷ fs) = go (eqb x f.name) refl (named_name x fs)
  where
    go : (t : Bool) → eqb x f.name ≡ t → (function_named fs x).name ≡ x → (cond t f (function_named fs x)).name ≡ x
    go true e ih = sym (eqb-true x f.name e)
    go false e ih = ih

-- ---- in the slices of a sound book
-- the place of the first 5
abbrev pub first_five : List ℕ → ℕ
first_five [] = 0
first_five (k ∷ ks) = pick_nat (eqb k 5) 0 (suc (first_five ks))

first_past : (a : List Entry) (e : Entry) (es : List Entry) (ks ws : List ℕ) → entries ks ws ≡ a ++ (e ∷ es) → Each Other a → e.kind ≡ 5
    → (first_five ks ≡ length a) × ((get_or ws (first_five ks) 0 ≡ e.word) × ((first_five ks < length ks) × (first_five ks < length ws)))
unfolding entries
first_past [] e es [] ws h o k = absurd (let z : ◌≡◌ {A = ℕ} 0 1 = cc in omega arith)
first_past [] e es (k₀ ∷ ks) [] h o k = absurd (let z : ◌≡◌ {A = ℕ} 0 1 = cc in omega arith)
first_past [] e es (k₀ ∷ ks) (w ∷ ws) h o k =
    let u : entry k₀ w ≡ e = cc in
    let five : k₀ ≡ 5 = ap (λ (v : Entry). v.kind) u ∙ k in
    rw (eq-eqb k₀ 5 five) (refl, (ap (λ (v : Entry). v.word) u, (omega arith, omega arith)))
first_past (x ∷ a) e es [] ws h o k = absurd (let z : ◌≡◌ {A = ℕ} 0 1 = cc in omega arith)
first_past (x ∷ a) e es (k₀ ∷ ks) [] h o k = absurd (let z : ◌≡◌ {A = ℕ} 0 1 = cc in omega arith)
first_past (x ∷ a) e es (k₀ ∷ ks) (w ∷ ws) h o k =
    let u : entry k₀ w ≡ x = cc in
    let more : entries ks ws ≡ a ++ (e ∷ es) = cc in
    let r = first_past a e es ks ws more o.1 k in
    let no : (k₀ ≡ 5 → ⊥) = λ q. o.0 (sym (ap (λ (v : Entry). v.kind) u) ∙ q) in
    rw (ne_eqb k₀ 5 no) (omega (arith, r.0), (r.1.0, (omega (arith, r.1.1.0), omega (arith, r.1.1.1))))

module _ (m : ℕ) (ks ws : List ℕ) (d : Decoded m ks ws) where
  pub book_read : decode m (entries ks ws) ≡ some (book_at m ks ws)
  unfolding book_at
  book_read = go (decode m (entries ks ws)) d.some
    where
      go : (o : Option Book) → is_some o ≡ true → o ≡ some (book_or o)
      go none h = absurd (false≢true h)
      go (some b) h = refl

  abbrev b : Book
  b = book_at m ks ws

  sound : (entries ks ws ≡ encode b) × Limits m b
  sound = decode_sound m (entries ks ws) b book_read

  entries_are : entries ks ws ≡ (book_heads b).pre ++ enc_functions b.functions
  entries_are = sound.0 ∙ (book_heads b).here

  long : length (entries ks ws) ≡ length ks
  long = omega (arith, length_entries ks ws, d.even)

  module _ (x : ℕ) where
    abbrev fns : List Entry
    fns = enc_functions b.functions

    head_is : head_of x ks ws ≡ length (book_heads b).pre + head_in x fns
    head_is = ap (head_in x) entries_are ∙ head_past x (book_heads b).pre fns (book_heads b).before

    head_none : is_fn m ks ws x ≡ false → head_of x ks ws ≡ length ks
    head_none h =
        let n = among_none x (entry 0 0 ∷ []) other_closing b.functions h in
        omega (arith, head_is, n, ap length entries_are, length-append (book_heads b).pre fns, long)

    head_some : is_fn m ks ws x ≡ true → (rest : List Entry) × (drop (head_of x ks ws) (entries ks ws) ≡ enc_function (fn_named m ks ws x) ++ rest)
    head_some h =
        let s = among_some x (entry 0 0 ∷ []) other_closing b.functions h in
        (s.0, rw (head_is, entries_are) (drop_past (book_heads b).pre fns (head_in x fns) ∙ s.1))

    some_inside : is_fn m ks ws x ≡ true → head_of x ks ws < length ks
    some_inside h =
        let s = head_some h in
        let l = ap length (s.1 ∙ ap (λ (r : List Entry). r ++ s.0) (function_rest_lem (fn_named m ks ws x))) in
        omega (arith, l, length-drop (head_of x ks ws) (entries ks ws), long)

    -- where the search comes to the end there is no such function
    pub no_head_lem : length ks ≤ head_of x ks ws → is_fn m ks ws x ≡ false
    no_head_lem h = go (is_fn m ks ws x) refl
      where
        go : (t : Bool) → is_fn m ks ws x ≡ t → t ≡ false
        go true e = absurd (omega (arith, some_inside e))
        go false e = refl

    limits : is_fn m ks ws x ≡ true → FunctionLimits m (fn_named m ks ws x)
    limits h = named_limits (FunctionLimits m) x b.functions sound.1.functions.1 h

    pub fn_below : is_fn m ks ws x ≡ true → x < m
    fn_below h = omega (arith, (limits h).0, named_name x b.functions)

    pub fn_beyond : m ≤ x → is_fn m ks ws x ≡ false
    fn_beyond h = go (is_fn m ks ws x) refl
      where
        go : (t : Bool) → is_fn m ks ws x ≡ t → t ≡ false
        go true e = absurd (omega (arith, fn_below e))
        go false e = refl

    -- else it stands there
    module _ (p : ℕ) (e : p ≡ head_of x ks ws) (l : p < length ks) where
      is : is_fn m ks ws x ≡ true
      is = go (is_fn m ks ws x) refl
        where
          go : (t : Bool) → is_fn m ks ws x ≡ t → t ≡ true
          go true f = refl
          go false f = absurd (omega (arith, head_none f))

      head_read : function m (lent_from ks ws p) ≡ got (fn_named m ks ws x) (length (enc_function (fn_named m ks ws x)))
      head_read =
          let s = head_some is in
          rw (entries_part p ks ws, e, s.1) ((agrees_function m).complete (fn_named m ks ws x) s.0 (limits is))

      pub head_there : FunctionThere m (take (length ks - p) (drop p ks)) (take (length ws - p) (drop p ws))
      head_there = record { got = ap is_got head_read }

      parts : FunctionParts m (lent_from ks ws p) (fn_named m ks ws x)
      parts = function_parts m (lent_from ks ws p) (fn_named m ks ws x) _ head_read

      pub head_stands : (n : ℕ) → n ≡ params_read (function m (lent_from ks ws p)) → Standing m ks ws x p n
      head_stands n c =
          let o : p + 1 ≡ 1 + p = omega arith in
          let behind : drop 1 (lent_from ks ws p) ≡ lent_from ks ws (p + 1) =
          ap (drop 1) (entries_part p ks ws) ∙ drop-drop 1 p (entries ks ws) ∙ sym (entries_part (p + 1) ks ws) in
          record {
            is = is;
            below = fn_below is;
            kinds = omega arith;
            words = omega (arith, d.even);
            size = parts.size;
            type = rw behind at parts.typed;
            count = c ∙ ap params_read head_read;
          }

  -- ---- the first function
  some_function : 1 ≤ length b.functions
  some_function = omega (arith, sound.1.functions.0)

  pub first_place : (at : ℕ) → at ≡ first_five ks → (get_or ws at 0 ≡ (first_of m ks ws)) × ((at < length ks) × (at < length ws))
  unfolding ending first
  first_place at e = rw e (go b.functions some_function entries_are)
    where
      go : (fs : List Function) → 1 ≤ length fs → entries ks ws ≡ (book_heads b).pre ++ enc_functions fs
          → (get_or ws (first_five ks) 0 ≡ (first fs).name) × ((first_five ks < length ks) × (first_five ks < length ws))
      go [] l h = absurd (omega arith)
      go (f ∷ fs) l h =
          let g = h ∙ ap (λ (r : List Entry). (book_heads b).pre ++ (r ++ enc_functions fs)) (function_rest_lem f) in
          (first_past (book_heads b).pre (entry 5 f.name) _ ks ws g (book_heads b).before refl).1

  pub first_is : is_fn m ks ws (first_of m ks ws) ≡ true
  unfolding first member
  first_is = go b.functions some_function
    where
      go : (fs : List Function) → 1 ≤ length fs → member (first fs).name (map name_of fs) ≡ true
      go [] l = absurd (omega arith)
      go (f ∷ fs) l = rw (eq-eqb f.name f.name refl)

  pub first_named : first b.functions ≡ fn_named m ks ws (first_of m ks ws)
  unfolding first function_named
  first_named = go b.functions some_function
    where
      go : (fs : List Function) → 1 ≤ length fs → first fs ≡ function_named fs (first fs).name
      go [] l = absurd (omega arith)
      go (f ∷ fs) l = rw (eq-eqb f.name f.name refl)

-- none of the first i is 5
pub record Seeking (ks : List ℕ) (i : ℕ) : Type 0 where
  pub inside : i ≤ length ks
  pub same : first_five ks ≡ i + first_five (drop i ks)

pub seeking_start : (ks : List ℕ) → Seeking ks 0
seeking_start ks = record { inside = omega arith; same = omega arith }

module _ {ks : List ℕ} {i : ℕ} (s : Seeking ks i) where
  pub seeking_found : i < length ks → get_or ks i 0 ≡ 5 → i ≡ first_five ks
  seeking_found h e =
      let f : first_five ks ≡ i + pick_nat (eqb (get_or ks i 0) 5) 0 (suc (first_five (drop (suc i) ks))) = rw (drop-cons ks i 0 h) at s.same in
      let g : first_five ks ≡ i + 0 = rw (eq-eqb (get_or ks i 0) 5 e) at f in
      omega (arith, g)

  pub seeking_next : i < length ks → (get_or ks i 0 ≡ 5 → ⊥) → Seeking ks (i + 1)
  seeking_next h e =
      let f : first_five ks ≡ i + pick_nat (eqb (get_or ks i 0) 5) 0 (suc (first_five (drop (suc i) ks))) = rw (drop-cons ks i 0 h) at s.same in
      let g : first_five ks ≡ i + suc (first_five (drop (suc i) ks)) = rw (ne_eqb (get_or ks i 0) 5 e) at f in
      record { inside = omega arith; same = rw (add-one i) (omega (arith, g)) }

  pub seeking_end : length ks ≤ i → length ks ≡ first_five ks
  seeking_end h = omega (arith, s.same, s.inside, none (drop i ks) (omega (arith, length-drop i ks)))
    where
      none : (l : List ℕ) → length l ≡ 0 → first_five l ≡ 0
      none [] e = refl
      none (k ∷ l) e = absurd (omega arith)

-- ---- the index by name: a window of 32 entries, counted from 1, before which no function of the name stands; 0 is none
-- among the first i entries
pub record Noted (ks ws : List ℕ) (i : ℕ) (index : List ℕ) : Type 0 where
  pub none : (x : ℕ) → x < length index → get_or index x 0 ≡ 0 → i ≤ head_of x ks ws
  pub from : (x : ℕ) → x < length index → (get_or index x 0 - 1) * 32 ≤ head_of x ks ws

pub record Zeroed (index : List ℕ) : Type 0 where
  pub all : (x : ℕ) → get_or index x 0 ≡ 0

pub zeroed : (n : ℕ) → Zeroed (replicate {A = ℕ} n 0)
zeroed n = record { all = go n }
  where
    go : (n x : ℕ) → ◌≡◌ {A = ℕ} (get_or (replicate n 0) x 0) 0
    go zero x = refl
    go (suc n) zero = refl
    go (suc n) (suc x) = go n x

pub noted_start : (ks ws index : List ℕ) → Zeroed index → Noted ks ws 0 index
noted_start ks ws index z = record { none = λ x h e. omega arith; from = λ x h. omega (arith, z.all x) }

-- an entry of kind k and word x stands at the place i
pub record Here (ks ws : List ℕ) (i k x : ℕ) : Type 0 where
  pub kinds : i < length ks
  pub words : i < length ws
  pub kind : get_or ks i 0 ≡ k
  pub word : get_or ws i 0 ≡ x

module _ {ks ws index : List ℕ} {i k x : ℕ} (a : Here ks ws i k x) (n : Noted ks ws i index) where
  past : (y : ℕ) → i ≤ head_of y ks ws → (eqb k 5 && eqb y x) ≡ false → i + 1 ≤ head_of y ks ws
  past y l e = head_next y ks ws i a.kinds a.words l (rw (a.kind, a.word) e)

  other : (y : ℕ) → (y ≡ x → ⊥) → (eqb k 5 && eqb y x) ≡ false
  other y q = rw (ne_eqb y x q) (and-false (eqb k 5))
    where
      and-false : (t : Bool) → (t && false) ≡ false
      and-false true = refl
      and-false false = refl

  -- no function begins there
  pub noted_other : (k ≡ 5 → ⊥) → Noted ks ws (i + 1) index
  noted_other e = record { none = λ y l z. past y (n.none y l z) (rw (ne_eqb k 5 e)); from = n.from }

  -- one whose name is beyond the index or has a window
  pub noted_beyond : length index ≤ x → Noted ks ws (i + 1) index
  noted_beyond h = record { none = λ y l z. past y (n.none y l z) (other y (λ q. omega (arith, q))); from = n.from }

  pub noted_kept : (get_or index x 0 ≡ 0 → ⊥) → Noted ks ws (i + 1) index
  noted_kept h = record { none = λ y l z. past y (n.none y l z) (other y (λ q. h (rw q at z))); from = n.from }

  pub noted_set : x < length index → get_or index x 0 ≡ 0 → Noted ks ws (i + 1) (set index x (i / 32 + 1))
  noted_set h e = record {
    none = λ y l z. ⊎_elim (λ q. absurd (let v : i / 32 + 1 ≡ 0 = sym (same y q) ∙ z in omega (arith, v)))
        (λ q. past y (n.none y (short y l) (sym (get_or-set_other index x y (i / 32 + 1) 0 q) ∙ z)) (other y q)) (eq_or_ne y x);
    from = λ y l. ⊎_elim (λ q. let v = same y q in let o = n.none x h e in let w : head_of y ks ws ≡ head_of x ks ws = ap (λ (u : ℕ). head_of u ks ws) q in omega (arith, v, o, w))
        (λ q. rw (get_or-set_other index x y (i / 32 + 1) 0 q) (n.from y (short y l))) (eq_or_ne y x);
  }
    where
      short : (y : ℕ) → y < length (set index x (i / 32 + 1)) → y < length index
      short y l = omega (arith, length-set index x (i / 32 + 1))

      same : (y : ℕ) → y ≡ x → get_or (set index x (i / 32 + 1)) y 0 ≡ i / 32 + 1
      same y q = rw q (get_or-set_same index x (i / 32 + 1) 0 h)

-- what finds a function of a book of m names
pub record Indexed (m : ℕ) (ks ws index : List ℕ) : Type 0 where
  pub book : Decoded m ks ws
  pub room : m ≤ length index
  pub noted : Noted ks ws (length ks) index
