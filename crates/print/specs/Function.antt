-- The function that entries begin with.
use Rattle.std.specs.Prelude.{ℕ, zero, suc, ◌+◌, ◌≤◌, ◌<◌, Bool, true, false, List, [], ◌∷◌, ◌++◌, cond, count_by, eqb, length, take, drop}
use Rattle.std.proofs.Math.Path.{◌≡◌, refl, ap}
use Rattle.std.proofs.Common.{sym, ◌∙◌, subst, arith, length-append, length-drop, drop-drop}
use Rattle.std.proofs.lemmas.Bool.{false≢true}
use Rattle.std.proofs.lemmas.List.Recursion.{is_count_by}
use Rattle.std.proofs.Math.Seq.{take-append_seam}
use Rattle.book.specs.Ast.{Ty, Tys, Sizeless, Param, Function}
use Rattle.book.specs.Entry.{Entry, entry, entries}
use Rattle.book.specs.Fields.{Item}
use Rattle.book.specs.Encode.{ending, closed, enc_ty, enc_tys, enc_param}
use Rattle.book.proofs.AgreeTy.{agrees_type}
use Rattle.book.proofs.AgreeInst.{agrees_items, agrees_name}
use Rattle.book.specs.Read.{Read, got, bad, Reader, and_then, both, mapped, many}
use Rattle.book.specs.Decode.{type_to, item, function}
use Rattle.book_types.specs.Length.{len_of}
use Rattle.book_types.specs.Found.{found_of}
use Rattle.book_types.specs.Passes.{found_got, found_bad}
use Rattle.book_types.specs.declared.Found.{Found}
use Rattle.book_types.specs.Laws.{length_entries, entries_part, lent_from, len_got, len_fits}
use Rattle.std.specs.Prelude.{Some, None}
use Rattle.book_types.specs.TypeLaws.{behind_front}
use Rattle.print_types.specs.Types.{is_got}

-- something was read
pub record There {A : Type 0} (r : Read A) : Type 0 where
  pub got : is_got r ≡ true

-- how many there are in a list that was read
abbrev pub read_count : {A : Type 0} → Read (List A) → ℕ
read_count (got as' n) = length as'
read_count bad = 0

-- a function of a book of m names begins the entries
pub record FunctionThere (m : ℕ) (ks ws : List ℕ) : Type 0 where
  pub got : is_got (function m (entries ks ws)) ≡ true

abbrev pub params_read : Read Function → ℕ
params_read (got f n) = length f.params
params_read bad = 0

-- ---- counting
abbrev pub one_if : Bool → ℕ
one_if true = 1
one_if false = 0

abbrev pub sixes : List ℕ → ℕ
sixes [] = 0
sixes (k ∷ ks) = one_if (eqb k 6) + sixes ks

-- as the code counts them
pub sixes_counted : (ks : List ℕ) → sixes ks ≡ count_by (λ k. eqb k 6) ks
sixes_counted ks = is_count_by sixes (λ k. eqb k 6) refl (λ k l. go (eqb k 6) (sixes l)) ks
  where
    go : (t : Bool) (n : ℕ) → one_if t + n ≡ cond t (1 + n) n
    go true n = refl
    go false n = omega arith

-- ---- the entries of parameters
abbrev sixes_in : List Entry → ℕ
sixes_in [] = 0
sixes_in (e ∷ es) = one_if (eqb e.kind 6) + sixes_in es

sixes_append : (a b : List Entry) → sixes_in (a ++ b) ≡ sixes_in a + sixes_in b
sixes_append [] b = omega arith
sixes_append (e ∷ a) b = omega (arith, sixes_append a b)

mutual
  unfolding enc_ty enc_tys

  type_sixes : (t : Ty) → sixes_in (enc_ty t) ≡ 0
  type_sixes Ty.void = refl
  type_sixes Ty.ptr = refl
  type_sixes (Ty.sizeless Sizeless.func) = refl
  type_sixes (Ty.sizeless Sizeless.label) = refl
  type_sixes (Ty.sizeless Sizeless.metadata) = refl
  type_sixes (Ty.int w) = refl
  type_sixes (Ty.array true n t) = omega (arith, type_sixes t)
  type_sixes (Ty.array false n t) = omega (arith, type_sixes t)
  type_sixes (Ty.named_struct x) = refl
  type_sixes (Ty.struct true ts) = omega (arith, types_sixes ts)
  type_sixes (Ty.struct false ts) = omega (arith, types_sixes ts)

  types_sixes : (ts : Tys) → sixes_in (enc_tys ts) ≡ 0
  types_sixes Tys.nil = refl
  types_sixes (Tys.cons t ts) = omega (arith, sixes_append (enc_ty t) (enc_tys ts), type_sixes t, types_sixes ts)

param_sixes : (p : Param) → sixes_in (enc_param p) ≡ 1
unfolding enc_param
param_sixes p = omega (arith, type_sixes p.ty)

params_sixes : (ps : List Param) → sixes_in (closed enc_param ps) ≡ length ps
unfolding ending
params_sixes [] = refl
params_sixes (p ∷ ps) = omega (arith, sixes_append (enc_param p) (closed enc_param ps), param_sixes p, params_sixes ps)

sixes_front : (n : ℕ) (ks ws : List ℕ) → n ≤ length (entries ks ws) → sixes (take n ks) ≡ sixes_in (take n (entries ks ws))
unfolding entries
sixes_front zero ks ws h = refl
sixes_front (suc n) [] ws h = absurd (omega arith)
sixes_front (suc n) (k ∷ ks) [] h = absurd (omega arith)
sixes_front (suc n) (k ∷ ks) (w ∷ ws) h = ap (λ (j : ℕ). one_if (eqb k 6) + j) (sixes_front n ks ws (omega arith))

module _ (m : ℕ) (ks ws : List ℕ) where
  pub params_fit : (ps : List Param) (n : ℕ) → many (item m Item.param) (entries ks ws) ≡ got ps n → n ≤ length (entries ks ws)
  params_fit ps n e =
      let b = (agrees_items m Item.param).sound (entries ks ws) ps n e in
      omega (arith, b.size, ap length b.here, length-append (closed enc_param ps) (drop n (entries ks ws)))

  pub params_count : (ps : List Param) (n : ℕ) → many (item m Item.param) (entries ks ws) ≡ got ps n → sixes (take n ks) ≡ length ps
  params_count ps n e =
      let b = (agrees_items m Item.param).sound (entries ks ws) ps n e in
      let t : take n (entries ks ws) ≡ closed enc_param ps = rw b.size (ap (take (length (closed enc_param ps))) here ∙ take-append_seam (closed enc_param ps) (drop n (entries ks ws))) in
      sixes_front n ks ws (params_fit ps n e) ∙ ap sixes_in t ∙ params_sixes ps
    where
      here : entries ks ws ≡ closed enc_param ps ++ drop n (entries ks ws)
      here = ((agrees_items m Item.param).sound (entries ks ws) ps n e).here

-- ---- the parts of a function
module _ {A B : Type 0} where
  both_got : (p : Reader A) (q : Reader B) (es : List Entry) (x : A × B) (n : ℕ) → both p q es ≡ got x n
      → (k : ℕ) × ((j : ℕ) × ((p es ≡ got x.0 k) × (q (drop k es) ≡ got x.1 j)))
  unfolding both
  both_got p q es x n h = first (p es) refl h
    where
      second : (a : A) (k : ℕ) → p es ≡ got a k → (s : Read B) → q (drop k es) ≡ s → and_then s (λ b m. got (a, b) (k + m)) ≡ got x n
          → (k : ℕ) × ((j : ℕ) × ((p es ≡ got x.0 k) × (q (drop k es) ≡ got x.1 j)))
      second a k e (got b j) f g =
          let u : (a, b) ≡ x = cc in
          (k, (j, (e ∙ ap (λ (v : A × B). got v.0 k) u, f ∙ ap (λ (v : A × B). got v.1 j) u)))
      second a k e bad f g = absurd (let z : ◌≡◌ {A = ℕ} 0 1 = cc in omega arith)

      first : (r : Read A) → p es ≡ r → and_then r (λ a k. and_then (q (drop k es)) (λ b m. got (a, b) (k + m))) ≡ got x n
          → (k : ℕ) × ((j : ℕ) × ((p es ≡ got x.0 k) × (q (drop k es) ≡ got x.1 j)))
      first (got a k) e g = second a k e (q (drop k es)) refl g
      first bad e g = absurd (let z : ◌≡◌ {A = ℕ} 0 1 = cc in omega arith)

  mapped_got : (f : A → B) (p : Reader A) (es : List Entry) (b : B) (n : ℕ) → mapped f p es ≡ got b n → (a : A) × ((p es ≡ got a n) × (f a ≡ b))
  unfolding mapped
  mapped_got f p es b n h = go (p es) refl h
    where
      go : (r : Read A) → p es ≡ r → and_then r (λ a k. got (f a) k) ≡ got b n → (a : A) × ((p es ≡ got a n) × (f a ≡ b))
      go (got a k) e g = let u : k ≡ n = cc in (a, (e ∙ ap (got a) u, cc))
      go bad e g = absurd (let z : ◌≡◌ {A = ℕ} 0 1 = cc in omega arith)

pub record FunctionParts (m : ℕ) (es : List Entry) (f : Function) : Type 0 where
  pub front : es ≡ entry 5 f.name ∷ drop 1 es
  pub below : f.name < m
  pub size : ℕ
  pub typed : type_to m 64 (drop 1 es) ≡ got f.ret_ty size
  pub more : ℕ
  pub params : many (item m Item.param) (drop size (drop 1 es)) ≡ got f.params more

pub function_parts : (m : ℕ) (es : List Entry) (f : Function) (n : ℕ) → function m es ≡ got f n → FunctionParts m es f
unfolding function
function_parts m es f n h =
    let g = mapped_got _ _ es f n h in
    let a = both_got _ _ es g.0 n g.1.0 in
    let b = both_got _ _ (drop a.0 es) g.0.1 a.1.0 a.1.1.1 in
    let c = both_got _ _ (drop b.0 (drop a.0 es)) g.0.1.1 b.1.0 b.1.1.1 in
    let s = (agrees_name m 5).sound es g.0.0 a.0 a.1.1.0 in
    let one : a.0 ≡ 1 = s.size in
    let v = g.1.1 in
    subst (FunctionParts m es) v (record {
      front = subst (λ (k : ℕ). es ≡ entry 5 g.0.0 ∷ drop k es) one s.here;
      below = s.keeps;
      size = b.0;
      typed = subst (λ (k : ℕ). type_to m 64 (drop k es) ≡ got g.0.1.0 b.0) one b.1.1.0;
      more = c.0;
      params = subst (λ (k : ℕ). many (item m Item.param) (drop b.0 (drop k es)) ≡ got g.0.1.1.0 c.0) one c.1.1.0;
    })

module _ (m : ℕ) (ks ws : List ℕ) (h : FunctionThere m ks ws) where
  found : (f : Function) × ((n : ℕ) × (function m (entries ks ws) ≡ got f n))
  found = go (function m (entries ks ws)) refl h.got
    where
      go : (r : Read Function) → function m (entries ks ws) ≡ r → is_got r ≡ true → (f : Function) × ((n : ℕ) × (function m (entries ks ws) ≡ got f n))
      go (got f n) e g = (f, (n, e))
      go bad e g = absurd (false≢true g)

  parts : FunctionParts m (entries ks ws) found.0
  parts = function_parts m (entries ks ws) found.0 found.1.0 found.1.1

  some_entry : 1 ≤ length (entries ks ws)
  some_entry = let e = ap length parts.front in omega (arith, e)

  pub fn_kinds : 1 ≤ length ks
  fn_kinds = omega (arith, some_entry, length_entries ks ws)

  pub fn_words : 1 ≤ length ws
  fn_words = omega (arith, some_entry, length_entries ks ws)

  behind_is : behind_front ks ws ≡ drop 1 (entries ks ws)
  behind_is = entries_part 1 ks ws

  type_is : type_to m 64 (behind_front ks ws) ≡ got found.0.ret_ty parts.size
  type_is = ap (type_to m 64) behind_is ∙ parts.typed

  size_is : (n : ℕ) → Some n ≡ len_of (type_to m 64 (behind_front ks ws)) → n ≡ parts.size
  size_is n e = let u : Some n ≡ Some parts.size = e ∙ ap len_of type_is in cc

  pub fn_no_type : {X : Type 0} → None ≡ len_of (type_to m 64 (behind_front ks ws)) → X
  fn_no_type e = absurd (let u : None ≡ Some parts.size = e ∙ ap len_of type_is in let z : ◌≡◌ {A = ℕ} 0 1 = cc in omega arith)

  size_fits : parts.size + 1 ≤ length (entries ks ws)
  size_fits =
      let f = len_fits (agrees_type m) (drop 1 (entries ks ws)) parts.size (ap len_of parts.typed) in
      omega (arith, f, some_entry, length-drop 1 (entries ks ws))

  params_are : (n : ℕ) → n ≡ parts.size → many (item m Item.param) (lent_from ks ws (n + 1)) ≡ got found.0.params parts.more
  params_are n e =
      let o : n + 1 ≡ 1 + parts.size = omega (arith, e) in
      let u : drop (n + 1) (entries ks ws) ≡ drop parts.size (drop 1 (entries ks ws)) = rw (o, drop-drop parts.size 1 (entries ks ws)) in
      ap (many (item m Item.param)) (entries_part (n + 1) ks ws ∙ u) ∙ parts.params

  module _ (n : ℕ) (l : Some n ≡ len_of (type_to m 64 (behind_front ks ws))) where
    pub fn_kinds_at : n + 1 ≤ length ks
    fn_kinds_at = omega (arith, size_is n l, size_fits, length_entries ks ws)

    pub fn_words_at : n + 1 ≤ length ws
    fn_words_at = omega (arith, size_is n l, size_fits, length_entries ks ws)

    pub fn_params_there : There (many (item m Item.param) (lent_from ks ws (n + 1)))
    fn_params_there = record { got = ap is_got (params_are n (size_is n l)) }

    pub fn_params : (r : ℕ) → r ≡ read_count (many (item m Item.param) (lent_from ks ws (n + 1))) → r ≡ params_read (function m (entries ks ws))
    fn_params r e = e ∙ ap read_count (params_are n (size_is n l)) ∙ sym (ap params_read found.1.1)

-- ---- a list of parameters, as the code counts it
-- from what a list was found to be to its length
pub found_len : {A : Type 0} (t : A → Bool) (r : Read A) (f : Found) → Some f ≡ found_of t r → Some f.entries ≡ len_of r
found_len t r f h = sym (ap len_of (found_got t r f (sym h)).1.0)

pub none_len : {A : Type 0} (t : A → Bool) (r : Read A) → None ≡ found_of t r → None ≡ len_of r
none_len t r h = sym (ap len_of (found_bad t r (sym h)))

module _ (m : ℕ) (ks ws : List ℕ) (h : There (many (item m Item.param) (entries ks ws))) where
  pub no_params : {X : Type 0} → None ≡ len_of (many (item m Item.param) (entries ks ws)) → X
  no_params e = absurd (go (many (item m Item.param) (entries ks ws)) h.got e)
    where
      go : (r : Read (List Param)) → is_got r ≡ true → None ≡ len_of r → ⊥
      go (got ps n) g e = let z : ◌≡◌ {A = ℕ} 0 1 = cc in omega arith
      go bad g e = false≢true g

  module _ (n : ℕ) (l : Some n ≡ len_of (many (item m Item.param) (entries ks ws))) where
    read : (ps : List Param) × (many (item m Item.param) (entries ks ws) ≡ got ps n)
    read = len_got (many (item m Item.param) (entries ks ws)) n (sym l)

    pub list_fits : n ≤ length ks
    list_fits = omega (arith, params_fit m ks ws read.0 n read.1, length_entries ks ws)

    pub list_count : (r : ℕ) → r ≡ sixes (take n ks) → r ≡ read_count (many (item m Item.param) (entries ks ws))
    list_count r e = e ∙ params_count m ks ws read.0 n read.1 ∙ sym (ap read_count read.1)
