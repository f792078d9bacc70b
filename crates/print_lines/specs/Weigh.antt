-- What lines weigh: whether all may stand, and how many bytes they have where the text has room for them.
use Rattle.std.specs.Prelude.{ℕ, ◌+◌, ◌≤◌, ◌<◌, ◌⊎◌, Bool, List, Result, Ok, Err, length, get_or, drop, min}
use Rattle.std.proofs.Math.Path.{◌≡◌, refl}
use Rattle.std.proofs.Common.{sym, ap, ◌∙◌, inl, inr, arith, length-append}
use Rattle.std.proofs.Math.Bool.{true, false, cond}
use Rattle.std.proofs.lemmas.Bool.{false≢true}
use borrow.Author.Tests.{leb-true, leb-false, le-leb, lt-leb}
use Rattle.std.proofs.Math.Dec.{leb}
use Rattle.print_forms.specs.Forms.{form_of, allowed_by}
use Rattle.print_forms.specs.All.{allowed_all, checked_end, checked_false, checked_true}
use Rattle.print_pen.specs.Pen.{Put, fitting}
use Rattle.print_pen.specs.declared.Pen.{Pen}
use Rattle.print_pen.specs.declared.Pen.TheVariants.{Counting}
use Rattle.print_words.specs.Plain.{plain_text}
use Rattle.print_lines.specs.Lines.{parts_text, comment, printed, plain_printed}
use Rattle.print_lines.specs.Named.{named_printed}
use Rattle.print_lines.specs.All.{printed_all, all_done, all_step}
use Rattle.book.specs.declared.refusal.Refusal.{Refusal}
use Rattle.book.specs.declared.refusal.Refusal.TheVariants.{NoRoom, BadLine}

-- a line that may not stand comes first, then that the text is too short
unfoldable pub weight : Bool → (size room : ℕ) → Result ℕ Refusal
weight allowed size room = cond allowed (cond (leb size room) (Ok size) (Err NoRoom)) (Err BadLine)

-- the answer for so many bytes and the text x, which is y then: nothing is written
pub record Weighed (allowed : Bool) (size : ℕ) (x y : List ℕ) (r : Result ℕ Refusal) : Type 0 where
  pub is : r ≡ weight allowed size (length x)
  pub text : y ≡ x

-- ---- what an answer tells
module _ (t : Bool) (size room : ℕ) where
  pub is_bytes : (n : ℕ) → weight t size room ≡ Ok n → (t ≡ true) × ((n ≡ size) × (size ≤ room))
  unfolding weight
  is_bytes n h = go t (leb size room) refl refl h
    where
      go : (a b : Bool) → t ≡ a → leb size room ≡ b → cond a (cond b (Ok size) (Err NoRoom)) (Err BadLine) ≡ Ok n → (t ≡ true) × ((n ≡ size) × (size ≤ room))
      go true true e f g = (e, (cc, leb-true size room f))
      go true false e f g = absurd (let z : ◌≡◌ {A = ℕ} 0 1 = cc in omega arith)
      go false b e f g = absurd (let z : ◌≡◌ {A = ℕ} 0 1 = cc in omega arith)

  pub is_short : weight t size room ≡ Err NoRoom → (t ≡ true) × (room < size)
  unfolding weight
  is_short h = go t (leb size room) refl refl h
    where
      go : (a b : Bool) → t ≡ a → leb size room ≡ b → cond a (cond b (Ok size) (Err NoRoom)) (Err BadLine) ≡ Err NoRoom → (t ≡ true) × (room < size)
      go true true e f g = absurd (let z : ◌≡◌ {A = ℕ} 0 1 = cc in omega arith)
      go true false e f g = (e, leb-false size room f)
      go false b e f g = absurd (let z : ◌≡◌ {A = ℕ} 0 1 = cc in omega arith)

  pub is_err : (d : Refusal) → weight t size room ≡ Err d → ((t ≡ false) × (d ≡ BadLine)) ⊎ ((t ≡ true) × ((room < size) × (d ≡ NoRoom)))
  unfolding weight
  is_err d h = go t (leb size room) refl refl h
    where
      go : (a b : Bool) → t ≡ a → leb size room ≡ b → cond a (cond b (Ok size) (Err NoRoom)) (Err BadLine) ≡ Err d
          → ((t ≡ false) × (d ≡ BadLine)) ⊎ ((t ≡ true) × ((room < size) × (d ≡ NoRoom)))
      go true true e f g = absurd (let z : ◌≡◌ {A = ℕ} 0 1 = cc in omega arith)
      go true false e f g = inr (e, (leb-false size room f, cc))
      go false b e f g = inl (e, cc)

  -- and when it is given
  pub bytes_are : t ≡ true → size ≤ room → Ok size ≡ weight t size room
  unfolding weight
  bytes_are h g = rw (h, le-leb size room g)

  pub short_is : room < size → cond t (Err NoRoom) (Err BadLine) ≡ weight t size room
  unfolding weight
  short_is g = rw (lt-leb size room g)

  pub short_alone : t ≡ true → room < size → Err NoRoom ≡ weight t size room
  unfolding weight
  short_alone h g = rw (h, lt-leb size room g)

  pub barred_is : t ≡ false → Err BadLine ≡ weight t size room
  unfolding weight
  barred_is h = rw h

-- bytes that may all stand are refused where they are too many
pub is_refused : (size room : ℕ) (d : Refusal) → weight true size room ≡ Err d → room < size
is_refused size room d h = go (is_err true size room d h)
  where
    go : ((true ≡ false) × (d ≡ BadLine)) ⊎ ((true ≡ true) × ((room < size) × (d ≡ NoRoom))) → room < size
    go (inl e) = absurd (false≢true (sym e.0))
    go (inr e) = e.1.0

-- ---- line after line
-- s bytes and those of i lines that may stand are n, which fit, and nothing was written
pub record Weighing (m f a b : ℕ) (one : ℕ → ℕ → List ℕ) (ks xs x : List ℕ) (s i : ℕ) (y : List ℕ) (n : ℕ) : Type 0 where
  pub stand : allowed_all m f a b ks xs ≡ allowed_all m f a b (drop i ks) (drop i xs)
  pub size : n + length (printed_all one (drop i ks) (drop i xs)) ≡ s + length (printed_all one ks xs)
  pub inside : n ≤ length x
  pub text : y ≡ x

pub weighing_start : (m f a b : ℕ) (one : ℕ → ℕ → List ℕ) (ks xs x : List ℕ) (s : ℕ) → s ≤ length x → Weighing m f a b one ks xs x s 0 x s
weighing_start m f a b one ks xs x s h = record { stand = refl; size = omega arith; inside = h; text = refl }

module _ {m f a b : ℕ} {one : ℕ → ℕ → List ℕ} {ks xs x : List ℕ} {start i : ℕ} {y : List ℕ} {n : ℕ} (s : Weighing m f a b one ks xs x start i y n) where
  pub weighing_done : min (length ks) (length xs) ≤ i → Weighed (allowed_all m f a b ks xs) (start + length (printed_all one ks xs)) x y (Ok n)
  weighing_done h =
      let same : n ≡ start + length (printed_all one ks xs) = omega (arith, s.size, ap length (all_done one ks xs i h)) in
      record { is = rw same (bytes_are _ _ _ (s.stand ∙ checked_end m f a b ks xs i h) (omega (arith, s.inside))); text = s.text }

  -- the next line
  module _ (h : i < length ks) (g : i < length xs) {z : List ℕ} {r : Result ℕ Refusal}
      (w : Weighed (allowed_by (form_of (get_or ks i 0)) (get_or xs i 0) m f a b) (n + length (one (get_or ks i 0) (get_or xs i 0))) y z r) where
    more : length (printed_all one (drop i ks) (drop i xs)) ≡ length (one (get_or ks i 0) (get_or xs i 0)) + length (printed_all one (drop (i + 1) ks) (drop (i + 1) xs))
    more = ap length (all_step one ks xs i h g) ∙ length-append (one (get_or ks i 0) (get_or xs i 0)) (printed_all one (drop (i + 1) ks) (drop (i + 1) xs))

    same : z ≡ x
    same = w.text ∙ s.text

    pub weighing_next : (k : ℕ) → r ≡ Ok k → Weighing m f a b one ks xs x start (i + 1) z k
    weighing_next k e =
        let t = is_bytes _ _ _ k (sym w.is ∙ e) in
        record {
          stand = s.stand ∙ checked_true m f a b ks xs i h g t.0;
          size = omega (arith, s.size, more, t.1.0);
          inside = omega (arith, t.1.0, t.1.1, ap length s.text);
          text = same;
        }

    -- refused, by whichever of the two comes first for all that are left
    pub weighing_refused : (q : Result ℕ Refusal) (d : Refusal) → r ≡ Err d → q ≡ cond (allowed_all m f a b (drop i ks) (drop i xs)) (Err NoRoom) (Err BadLine)
        → Weighed (allowed_all m f a b ks xs) (start + length (printed_all one ks xs)) x z q
    weighing_refused q d e v = record { is = v ∙ rw s.stand (go (allowed_by (form_of (get_or ks i 0)) (get_or xs i 0) m f a b) refl w.is); text = same }
      where
        go : (t : Bool) → allowed_by (form_of (get_or ks i 0)) (get_or xs i 0) m f a b ≡ t
            → r ≡ weight t (n + length (one (get_or ks i 0) (get_or xs i 0))) (length y)
            → cond (allowed_all m f a b (drop i ks) (drop i xs)) (Err NoRoom) (Err BadLine)
            ≡ weight (allowed_all m f a b (drop i ks) (drop i xs)) (start + length (printed_all one ks xs)) (length x)
        go true o u =
            let t = is_refused _ _ d (sym u ∙ e) in
            short_is _ _ _ (omega (arith, t, s.size, more, ap length s.text))
        go false o u = let c = checked_false m f a b ks xs i h g o in rw c (barred_is false _ _ refl)

-- ---- one line
-- by a counting pen
module _ {bs x y : List ℕ} {n : ℕ} {q : Pen} (t : Bool) (h : t ≡ true) (c : Put bs (Counting n) x y q) where
  pub counted_bytes : (k : ℕ) → q ≡ Counting k → Weighed t (n + length bs) x y (Ok k)
  counted_bytes k e = go (leb (n + length bs) (length x)) refl c.says
    where
      go : (l : Bool) → leb (n + length bs) (length x) ≡ l → q ≡ fitting l (Counting (n + length bs)) → Weighed t (n + length bs) x y (Ok k)
      go true f g = let same : k ≡ n + length bs = cc in record { is = rw same (bytes_are t _ _ h (leb-true _ _ f)); text = c.text }
      go false f g = absurd (let z : ◌≡◌ {A = ℕ} 0 1 = cc in omega arith)

  pub counted_short : ((k : ℕ) → q ≡ Counting k → ⊥) → Weighed t (n + length bs) x y (Err NoRoom)
  counted_short e = go (leb (n + length bs) (length x)) refl c.says
    where
      go : (l : Bool) → leb (n + length bs) (length x) ≡ l → q ≡ fitting l (Counting (n + length bs)) → Weighed t (n + length bs) x y (Err NoRoom)
      go true f g = absurd (e (n + length bs) g)
      go false f g = record { is = short_alone t _ _ h (leb-false _ _ f); text = c.text }

-- a line of kind 7 or more
pub number_weighed : (ns : List (List ℕ)) (fname ty : List ℕ) (params k x n : ℕ) (t : Bool) (y : List ℕ) (r : Result ℕ Refusal) → 7 ≤ k → r ≡ weight t (n + length (plain_text k x)) (length y)
    → Weighed t (n + length (printed ns fname ty params k x)) y y r
number_weighed ns fname ty params k x n t y r h e = record { is = rw (plain_printed ns fname k x ty params h) at e; text = refl }

-- a line of kind 1 to 6
pub named_weighed : (ns : List (List ℕ)) (fname ty : List ℕ) (params k x n : ℕ) (t : Bool) (y : List ℕ) (r : Result ℕ Refusal) → 1 ≤ k → k < 7
    → r ≡ weight t (n + length (parts_text ns fname k x)) (length y) → Weighed t (n + length (printed ns fname ty params k x)) y y r
named_weighed ns fname ty params k x n t y r h g e = record { is = rw (named_printed ns fname x ty params k h g) at e; text = refl }

-- a line of kind 0
pub comment_printed : (ns : List (List ℕ)) (fname ty : List ℕ) (params k x : ℕ) → k < 1 → comment fname ty params ≡ printed ns fname ty params k x
unfolding printed
comment_printed ns fname ty params k x h = let z : k ≡ 0 = omega arith in rw z
