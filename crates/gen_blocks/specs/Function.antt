-- Where the functions stand among a book's entries: the first of them, and what stands behind each.
use Rattle.std.specs.Prelude.{ℕ, ◌+◌, ◌-◌, ◌<◌, ◌≤◌, ◌^◌, ◌≡◌, refl, ◌⊎◌, List, [], ◌∷◌, ◌++◌, get_or, take, drop}
use Rattle.std.proofs.Common.{sym, ◌∙◌, subst, inl, inr, append_assoc, arith, length-append, drop-drop}
use Rattle.std.proofs.Math.Path.{ap}
use Rattle.std.proofs.Math.Option.{Option, none, some}
use Rattle.std.proofs.Math.ListN.{length, length-drop}
use Rattle.std.proofs.lemmas.List.{drop-append-le}
use Rattle.std.proofs.Math.Seq.{take-append_seam, drop-append_seam}
use Rattle.book.specs.Entry.{Entry, entry, entries}
use Rattle.book.specs.Ast.{Ty, Function, Book}
use Rattle.book.specs.Read.{Read, got, bad}
use Rattle.book.specs.Decode.{function, decode}
use Rattle.book.specs.Encode.{ending, enc_function, enc_functions, function_long}
use Rattle.book.specs.Limits.{Each, FunctionLimits, FunctionsLimits}
use Rattle.book.proofs.AgreeBook.{Five, functions_begin, agrees_function, decode_sound}
use Rattle.book_types.specs.Laws.{entries_drop, entries_take}
use Rattle.layout_memo.specs.Structs.{IsBook}
use Rattle.gen_values.specs.Fields.{entry_at}
use Rattle.book.specs.Heads.{Other, book_heads}

-- the function that stands at the place a, and what stands behind it
abbrev function_or : Read Function → Function
function_or bad = record { name = 0; ret_ty = Ty.void; params = []; blocks = [] }
function_or (got f n) = f

unfoldable pub function_in : (m : ℕ) → List Entry → (a : ℕ) → Function
function_in m es a = function_or (function m (drop a es))

unfoldable pub behind_in : (m : ℕ) → List Entry → (a : ℕ) → List Entry
behind_in m es a = drop (length (enc_function (function_in m es a))) (drop a es)

pub function_is : (m : ℕ) (es : List Entry) (a : ℕ) (f : Function) (rest : List Entry) → FunctionLimits m f → drop a es ≡ enc_function f ++ rest → function_in m es a ≡ f
unfolding function_in
function_is m es a f rest l h = ap function_or (ap (function m) h ∙ (agrees_function m).complete f rest l)

pub behind_is : (m : ℕ) (es : List Entry) (a : ℕ) (f : Function) (rest : List Entry) → FunctionLimits m f → drop a es ≡ enc_function f ++ rest → behind_in m es a ≡ rest
unfolding behind_in
behind_is m es a f rest l h =
    ap (λ (g : Function). drop (length (enc_function g)) (drop a es)) (function_is m es a f rest l h) ∙ ap (drop (length (enc_function f))) h ∙ drop-append_seam (enc_function f) rest

-- a list and what stands behind it
pub ending_append : {A : Type 0} (write : A → List Entry) (end rest : List Entry) (as' : List A) → ending write end as' ++ rest ≡ ending write (end ++ rest) as'
unfolding ending
ending_append write end rest [] = refl
ending_append write end rest (a ∷ as') = append_assoc (write a) (ending write end as') rest ∙ ap (λ x. write a ++ x) (ending_append write end rest as')

-- behind a function stands another, or nothing
abbrev pub Others : List Entry → Type 0
Others es = (es ≡ []) ⊎ Five es

-- a function stands at the place a, others behind it up to `last`
pub record FunctionAt (m : ℕ) (es : List Entry) (last a : ℕ) : Type 0 where
  pub others : List Entry
  pub end : List Entry
  pub here : drop a es ≡ enc_function (function_in m es a) ++ behind_in m es a
  pub behind : behind_in m es a ≡ others ++ end
  pub next : Others others
  pub ends : last + length end ≡ length es
  pub limits : FunctionLimits m (function_in m es a)
  pub there : a ≤ length es
  pub few : length es ≤ 2 ^ 20

-- ---- these functions stand from the place a on, up to `last`
pub record FunctionsAt (m : ℕ) (es : List Entry) (last a : ℕ) (fs : List Function) : Type 0 where
  pub end : List Entry
  pub here : drop a es ≡ ending enc_function end fs
  pub limits : Each (FunctionLimits m) fs
  pub ends : last + length end ≡ length es
  pub there : a ≤ length es
  pub few : length es ≤ 2 ^ 20

ending_within : (end : List Entry) (fs : List Function) → length end ≤ length (ending enc_function end fs)
unfolding ending
ending_within end [] = omega arith
ending_within end (f ∷ fs) = omega (arith, ending_within end fs, length-append (enc_function f) (ending enc_function end fs))

others_are : (fs : List Function) → Others (ending enc_function [] fs)
unfolding ending enc_function
others_are [] = inl refl
others_are (f ∷ fs) = inr (f.name, (_, refl))

module _ {m : ℕ} {es : List Entry} {last a : ℕ} where
  -- none is left
  pub functions_none : FunctionsAt m es last a [] → a ≡ last
  unfolding ending
  functions_none k = omega (arith, ap length k.here, length-drop a es, k.ends, k.there)

  module _ {f : Function} {fs : List Function} (k : FunctionsAt m es last a (f ∷ fs)) where
    front : drop a es ≡ enc_function f ++ ending enc_function k.end fs
    unfolding ending
    front = k.here

    pub first_is : function_in m es a ≡ f
    first_is = function_is m es a f _ k.limits.0 front

    rest_is : behind_in m es a ≡ ending enc_function k.end fs
    rest_is = behind_is m es a f _ k.limits.0 front

    pub first_at : FunctionAt m es last a
    first_at =
        record {
          others = ending enc_function [] fs;
          end = k.end;
          here = front ∙ ap (λ (g : Function). enc_function g ++ ending enc_function k.end fs) (sym first_is) ∙ ap (λ (r : List Entry). enc_function (function_in m es a) ++ r) (sym rest_is);
          behind = rest_is ∙ sym (ending_append enc_function [] k.end fs);
          next = others_are fs;
          ends = k.ends;
          limits = subst (FunctionLimits m) (sym first_is) k.limits.0;
          there = k.there;
          few = k.few;
        }

    pub first_before : a < last
    first_before =
        omega (arith, ap length front, length-append (enc_function f) (ending enc_function k.end fs), length-drop a es, ending_within k.end fs, function_long f, k.ends, k.there)

    -- the place behind it
    pub next_at : (e : ℕ) → e ≤ length es → drop e es ≡ behind_in m es a → FunctionsAt m es last e fs
    next_at e l h = record { end = k.end; here = h ∙ rest_is; limits = k.limits.1; ends = k.ends; there = l; few = k.few }

-- ---- the part of lent kinds and words from one place to another
abbrev pub between : (ks ws : List ℕ) (a e : ℕ) → List Entry
between ks ws a e = entries (take (e - a) (drop a ks)) (take (e - a) (drop a ws))

pub between_is : (ks ws : List ℕ) (a e : ℕ) → between ks ws a e ≡ take (e - a) (drop a (entries ks ws))
between_is ks ws a e = entries_take (e - a) (drop a ks) (drop a ws) ∙ ap (take (e - a)) (entries_drop a ks ws)

pub between_part : (ks ws : List ℕ) (a e : ℕ) (x y : List Entry) → drop a (entries ks ws) ≡ x ++ y → e ≡ a + length x → between ks ws a e ≡ x
between_part ks ws a e x y h s =
    let n : e - a ≡ length x = omega arith in
    between_is ks ws a e ∙ ap (take (e - a)) h ∙ ap (λ (j : ℕ). take j (x ++ y)) n ∙ take-append_seam x y

-- ---- a part of the book's entries, from the place a on, and the tail behind it
pub record Part (book : List Entry) (a : ℕ) (es tail : List Entry) : Type 0 where
  pub here : drop a book ≡ es ++ tail
  pub there : a ≤ length book

module _ {book : List Entry} {a : ℕ} {es tail : List Entry} (p : Part book a es tail) where
  pub part_within : a + length es ≤ length book
  part_within = omega (arith, ap length p.here, length-append es tail, length-drop a book, p.there)

  -- a later part of it
  pub part_from_lem : (j : ℕ) → j ≤ length es → Part book (a + j) (drop j es) tail
  part_from_lem j l =
      record {
        here = sym (drop-drop j a book) ∙ ap (drop j) p.here ∙ drop-append-le j es tail l;
        there = omega (arith, part_within);
      }

-- the function at the place with the others behind it, up to `last`
module _ {m : ℕ} {book : List Entry} {last a : ℕ} (k : FunctionAt m book last a) where
  abbrev pub cut : List Entry
  cut = take (last - a) (drop a book)

  whole : drop a book ≡ (enc_function (function_in m book a) ++ k.others) ++ k.end
  whole =
      k.here ∙ ap (λ (r : List Entry). enc_function (function_in m book a) ++ r) k.behind ∙ sym (append_assoc (enc_function (function_in m book a)) k.others k.end)

  pub cut_bounds : (a ≤ last) × (last ≤ length book)
  cut_bounds =
      let long = ap length whole in
      let both = length-append (enc_function (function_in m book a) ++ k.others) k.end in
      (omega (arith, long, both, length-drop a book, k.ends, k.there), omega (arith, k.ends))

  pub cut_is : cut ≡ enc_function (function_in m book a) ++ k.others
  cut_is =
      let e : last - a ≡ length (enc_function (function_in m book a) ++ k.others) =
      omega (arith, ap length whole, length-append (enc_function (function_in m book a) ++ k.others) k.end, length-drop a book, k.ends, k.there) in
      ap (take (last - a)) whole ∙ ap (λ (n : ℕ). take n ((enc_function (function_in m book a) ++ k.others) ++ k.end)) e ∙ take-append_seam (enc_function (function_in m book a) ++ k.others) k.end

  pub cut_part : Part book a cut k.end
  cut_part = record { here = whole ∙ ap (λ (r : List Entry). r ++ k.end) (sym cut_is); there = k.there }

-- ---- the book's
abbrev functions_or : Option Book → List Function
functions_or none = []
functions_or (some b) = b.functions

unfoldable pub functions_in : ℕ → List Entry → List Function
functions_in m es = functions_or (decode m es)

pub functions_are : (m : ℕ) (es : List Entry) (b : Book) → decode m es ≡ some b → functions_in m es ≡ b.functions
unfolding functions_in
functions_are m es b e = ap functions_or e

-- the place behind the last function: the entry that closes them, which is the last
abbrev pub last_of : List Entry → ℕ
last_of es = length es - 1

-- ---- before the first there is no entry of kind 5
-- a scan for it: at the place a
pub record Scanning (m : ℕ) (es : List Entry) (a : ℕ) : Type 0 where
  pub pre : List Entry
  pub here : drop a es ≡ pre ++ enc_functions (functions_in m es)
  pub other : Each Other pre
  pub limits : FunctionsLimits m (functions_in m es)
  pub few : length es ≤ 2 ^ 20

pub scan_start : (m : ℕ) (es : List Entry) → IsBook m es → Scanning m es 0
scan_start m es b =
    let s = decode_sound m es b.book b.says in
    let e = functions_are m es b.book b.says in
    let h = book_heads b.book in
    record {
      pre = h.pre;
      here = s.0 ∙ h.here ∙ ap (λ (x : List Function). h.pre ++ enc_functions x) (sym e);
      other = h.before;
      limits = subst (FunctionsLimits m) (sym e) s.1.functions;
      few = b.few;
    }

module _ (m : ℕ) (ks ws : List ℕ) (a : ℕ) (s : Scanning m (entries ks ws) a) where
  abbrev es : List Entry
  es = entries ks ws

  abbrev fs : List Function
  fs = functions_in m (entries ks ws)

  view : (pre : List Entry) → drop a es ≡ pre ++ enc_functions fs → Each Other pre
      → (a < length ks) × ((get_or ks a 0 ≡ 5 → FunctionsAt m es (last_of es) a fs) × ((get_or ks a 0 ≡ 5 → ⊥) → Scanning m es (a + 1)))
  view [] h o =
      let f = functions_begin m fs s.limits in
      let q = entry_at ks ws a _ _ (h ∙ f.1.1) in
      let long = ap length (h ∙ f.1.1) in
      let there : a ≤ length es = omega (arith, long, length-drop a es) in
      (q.2, ((λ _. record { end = entry 0 0 ∷ []; here = h; limits = s.limits.1; ends = omega (arith, long, length-drop a es); there = there; few = s.few }), λ n. absurd (n q.0)))
  view (e ∷ pre) h o =
      let q = entry_at ks ws a _ _ h in
      (q.2, ((λ k. absurd (o.0 (sym q.0 ∙ k))), λ _. record { pre = pre; here = q.4; other = o.1; limits = s.limits; few = s.few }))

  seen : (a < length ks) × ((get_or ks a 0 ≡ 5 → FunctionsAt m es (last_of es) a fs) × ((get_or ks a 0 ≡ 5 → ⊥) → Scanning m es (a + 1)))
  seen = view s.pre s.here s.other

  pub scan_there : a < length ks
  scan_there = seen.0

  pub scan_done : get_or ks a 0 ≡ 5 → FunctionsAt m es (last_of es) a fs
  scan_done = seen.1.0

  pub scan_next : (get_or ks a 0 ≡ 5 → ⊥) → Scanning m es (a + 1)
  scan_next = seen.1.1
