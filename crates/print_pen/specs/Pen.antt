-- What putting bytes with a pen leaves behind.
use Rattle.std.specs.Prelude.{ℕ, suc, ◌+◌, ◌-◌, ◌≤◌, ◌<◌, ◌≡◌, refl, Bool, true, false, List, [], ◌∷◌, ◌++◌, length, get_or, drop, set, leb}
use Rattle.std.proofs.Common.{sym, ap, ◌∙◌, add-one, arith, add-zero, leb-true, leb-false, le-leb, length-append, length-set, drop-cons}
use Rattle.std.proofs.lemmas.Bool.{lt-leb}
use Rattle.std.proofs.lemmas.List.Edits.{sets}
use Rattle.std.proofs.Math.Seq.{length-sets, drop-length}
use Rattle.names.specs.Utf8.{is_tail}
use Rattle.names.specs.Spelling.{sanitize, clean_byte}
use Rattle.names.specs.Tests.{agree}
use Rattle.names.specs.Labels.{clean_over, clean_tail, clean_more}
use Rattle.print_pen.specs.declared.Pen.{Pen}
use Rattle.print_pen.specs.declared.Pen.TheVariants.{Counting, Writing, Full}

-- one of two texts
abbrev pub pick_bytes : Bool → List ℕ → List ℕ → List ℕ
pick_bytes true a b = a
pick_bytes false a b = b

abbrev pub fitting : Bool → Pen → Pen
fitting true p = p
fitting false p = Full

-- the pen behind n bytes more, where there is room for so many in all
abbrev pub reached : ℕ → ℕ → Pen → Pen
reached room n (Counting a) = fitting (leb (a + n) room) (Counting (a + n))
reached room n (Writing a) = fitting (leb (a + n) room) (Writing (a + n))
reached room n Full = Full

-- the text x becomes y: a writing pen stores the bytes where all fit, a counting or full one nothing. Left free: what a writing pen has stored of bytes that do
-- not all fit, of which some pieces may. The printer writes only what a counting pen has shown to fit.
abbrev pub Text : Pen → List ℕ → List ℕ → List ℕ → Type 0
Text (Counting a) bs x y = y ≡ x
Text (Writing a) bs x y = a + length bs ≤ length x → y ≡ sets x a bs
Text Full bs x y = y ≡ x

-- the bytes bs were put with the pen p into the text x; y and q are the text and the pen behind them
pub record Put (bs : List ℕ) (p : Pen) (x y : List ℕ) (q : Pen) : Type 0 where
  pub says : q ≡ reached (length x) (length bs) p
  pub long : length y ≡ length x
  pub text : Text p bs x y

-- ---- one piece
module _ (bs : List ℕ) (n : ℕ) (x : List ℕ) (p q : Pen) (size : n ≡ length bs) (e : q ≡ reached (length x) n p) where
  says : q ≡ reached (length x) (length bs) p
  says = rw size at e

  pub put_none : (a : ℕ) → q ≡ Counting a → Put bs p x x q
  put_none a h = record { says = says; long = refl; text = go p says }
    where
      go : (p : Pen) → q ≡ reached (length x) (length bs) p → Text p bs x x
      go (Counting b) e = refl
      go (Writing b) e = λ f. absurd (let g : q ≡ Writing (b + length bs) = e ∙ rw (le-leb _ _ f) in let z : ◌≡◌ {A = ℕ} 0 1 = cc in omega arith)
      go Full e = refl

  pub put_full : q ≡ Full → Put bs p x x q
  put_full h = record { says = says; long = refl; text = go p says }
    where
      go : (p : Pen) → q ≡ reached (length x) (length bs) p → Text p bs x x
      go (Counting b) e = refl
      go (Writing b) e = λ f. absurd (let g : q ≡ Writing (b + length bs) = e ∙ rw (le-leb _ _ f) in let z : ◌≡◌ {A = ℕ} 0 1 = cc in omega arith)
      go Full e = refl

  -- the end of the bytes written lies in the text
  pub end_fits : (b : ℕ) → q ≡ Writing b → (n ≤ b) × (b ≤ length x)
  end_fits b h = go p e
    where
      at : (a : ℕ) (t : Bool) → leb (a + n) (length x) ≡ t → q ≡ fitting t (Writing (a + n)) → (n ≤ b) × (b ≤ length x)
      at a true f g = let i : b ≡ a + n = cc in (omega arith, omega (arith, leb-true (a + n) (length x) f))
      at a false f g = absurd (let z : ◌≡◌ {A = ℕ} 0 1 = cc in omega arith)

      go : (p : Pen) → q ≡ reached (length x) n p → (n ≤ b) × (b ≤ length x)
      go (Counting a) e = no (leb (a + n) (length x)) e
        where
          no : (t : Bool) → q ≡ fitting t (Counting (a + n)) → (n ≤ b) × (b ≤ length x)
          no true g = absurd (let z : ◌≡◌ {A = ℕ} 0 1 = cc in omega arith)
          no false g = absurd (let z : ◌≡◌ {A = ℕ} 0 1 = cc in omega arith)
      go (Writing a) e = at a (leb (a + n) (length x)) refl e
      go Full e = absurd (let z : ◌≡◌ {A = ℕ} 0 1 = cc in omega arith)

  put_done : (b : ℕ) (y : List ℕ) → q ≡ Writing b → y ≡ sets x (b - n) bs → Put bs p x y q
  put_done b y h w = record { says = says; long = ap length w ∙ length-sets x (b - n) bs; text = go p says }
    where
      go : (p : Pen) → q ≡ reached (length x) (length bs) p → Text p bs x y
      go (Counting a) e = no (leb (a + length bs) (length x)) e
        where
          no : (t : Bool) → q ≡ fitting t (Counting (a + length bs)) → y ≡ x
          no true g = absurd (let z : ◌≡◌ {A = ℕ} 0 1 = cc in omega arith)
          no false g = absurd (let z : ◌≡◌ {A = ℕ} 0 1 = cc in omega arith)
      go (Writing a) e = λ f.
          let g : q ≡ Writing (a + length bs) = e ∙ rw (le-leb _ _ f) in
          let i : b ≡ a + length bs = cc in
          let j : b - n ≡ a = omega arith in
          rw j at w
      go Full e = absurd (let z : ◌≡◌ {A = ℕ} 0 1 = cc in omega arith)

  pub put_wrote : (b : ℕ) (y : List ℕ) → q ≡ Writing b → y ≡ sets x (b - n) bs → Put bs p x y (Writing b)
  put_wrote b y h w = rw h at (put_done b y h w)

-- ---- pieces one after the other
sets_append : (x : List ℕ) (a : ℕ) (bs cs : List ℕ) → sets x a (bs ++ cs) ≡ sets (sets x a bs) (a + length bs) cs
sets_append x a [] cs = rw (add-zero a)
sets_append x a (b ∷ bs) cs = sets_append (set x a b) (suc a) bs cs ∙ ap (λ i. sets (sets (set x a b) (suc a) bs) i cs) (omega arith)

module _ (bs cs : List ℕ) (x y z : List ℕ) where
  two_reached : (p q r : Pen) → length y ≡ length x → q ≡ reached (length x) (length bs) p → r ≡ reached (length y) (length cs) q → r ≡ reached (length x) (length (bs ++ cs)) p
  two_reached p q r l e f = rw (l, e) at f ∙ go p
    where
      size : (a : ℕ) → a + length bs + length cs ≡ a + length (bs ++ cs)
      size a = omega (arith, length-append bs cs)

      far : (a : ℕ) → leb (a + length bs) (length x) ≡ false → leb (a + length (bs ++ cs)) (length x) ≡ false
      far a g = lt-leb (a + length (bs ++ cs)) (length x) (omega (arith, leb-false (a + length bs) (length x) g, length-append bs cs))

      go : (p : Pen) → reached (length x) (length cs) (reached (length x) (length bs) p) ≡ reached (length x) (length (bs ++ cs)) p
      go (Counting a) = at (leb (a + length bs) (length x)) refl
        where
          at : (t : Bool) → leb (a + length bs) (length x) ≡ t
              → reached (length x) (length cs) (fitting t (Counting (a + length bs))) ≡ fitting (leb (a + length (bs ++ cs)) (length x)) (Counting (a + length (bs ++ cs)))
          at true g = rw (size a)
          at false g = rw (far a g)
      go (Writing a) = at (leb (a + length bs) (length x)) refl
        where
          at : (t : Bool) → leb (a + length bs) (length x) ≡ t
              → reached (length x) (length cs) (fitting t (Writing (a + length bs))) ≡ fitting (leb (a + length (bs ++ cs)) (length x)) (Writing (a + length (bs ++ cs)))
          at true g = rw (size a)
          at false g = rw (far a g)
      go Full = refl

  text_full : (q : Pen) → q ≡ Full → Text q cs y z → z ≡ y
  text_full q e t = rw e at t

  two_text : (p q : Pen) → length y ≡ length x → q ≡ reached (length x) (length bs) p → Text p bs x y → Text q cs y z → Text p (bs ++ cs) x z
  two_text (Counting a) q l e t u = kept (leb (a + length bs) (length x)) e ∙ t
    where
      kept : (b : Bool) → q ≡ fitting b (Counting (a + length bs)) → z ≡ y
      kept true g = rw g at u
      kept false g = rw g at u
  two_text (Writing a) q l e t u = λ f.
      let g : a + length bs ≤ length x = omega (arith, length-append bs cs) in
      let i : q ≡ Writing (a + length bs) = e ∙ rw (le-leb _ _ g) in
      let v : a + length bs + length cs ≤ length y → z ≡ sets y (a + length bs) cs = rw i at u in
      v (omega (arith, length-append bs cs)) ∙ rw (t g) (sym (sets_append x a bs cs))
  two_text Full q l e t u = (rw e at u) ∙ t

  put_then : (p q r : Pen) → Put bs p x y q → Put cs q y z r → Put (bs ++ cs) p x z r
  put_then p q r h g = record {
    says = two_reached p q r h.long h.says g.says;
    long = g.long ∙ h.long;
    text = two_text p q h.long h.says h.text g.text;
  }

pub then_put : {bs cs x y z : List ℕ} {p q r : Pen} → Put bs p x y q → Put cs q y z r → Put (bs ++ cs) p x z r
then_put {bs} {cs} {x} {y} {z} {p} {q} {r} h g = put_then bs cs x y z p q r h g

-- the same bytes in another form
pub put_same : {bs cs x y : List ℕ} {p q : Pen} → bs ≡ cs → Put bs p x y q → Put cs p x y q
put_same e h = rw e at h

-- ---- the loops that store
-- what the first i bytes leave to be stored
pub record Copied (src x : List ℕ) (at : ℕ) (y : List ℕ) (i : ℕ) : Type 0 where
  pub inside : i ≤ length src
  pub long : length y ≡ length x
  pub same : sets y (at + i) (drop i src) ≡ sets x at src

pub copy_start : (src x : List ℕ) (at : ℕ) → Copied src x at x 0
copy_start src x at = record { inside = omega arith; long = refl; same = rw (add-zero at) }

pub copy_step_lem : {src x y : List ℕ} {at i : ℕ} → Copied src x at y i → i < length src → Copied src x at (set y (at + i) (get_or src i 0)) (i + 1)
copy_step_lem {src} {x} {y} {at} {i} c h = record {
  inside = omega arith;
  long = length-set y (at + i) (get_or src i 0) ∙ c.long;
  same = step;
}
  where
    one : at + (i + 1) ≡ suc (at + i)
    one = omega arith

    step : sets (set y (at + i) (get_or src i 0)) (at + (i + 1)) (drop (i + 1) src) ≡ sets x at src
    step = rw (one, add-one i) (rw (drop-cons src i 0 h) at c.same)

pub copy_end : {src x y : List ℕ} {at i : ℕ} → Copied src x at y i → length src ≤ i → y ≡ sets x at src
copy_end {src} {x} {y} {at} {i} c h =
    let e : i ≡ length src = omega (arith, c.inside) in
    let f : drop i src ≡ [] = rw e (drop-length src) in
    rw f at c.same

-- the same over the bytes as a label spells them, of which the next one stands at `to`
pub record Cleaned (src x : List ℕ) (at : ℕ) (y : List ℕ) (i to : ℕ) : Type 0 where
  pub long : length y ≡ length x
  pub rest : to + length (sanitize (drop i src)) ≡ at + length (sanitize src)
  pub same : sets y to (sanitize (drop i src)) ≡ sets x at (sanitize src)

pub clean_start : (src x : List ℕ) (at : ℕ) → Cleaned src x at x 0 at
clean_start src x at = record { long = refl; rest = refl; same = refl }

module _ {src x y : List ℕ} {at i to : ℕ} (c : Cleaned src x at y i to) where
  module _ (h : i < length src) (f : is_tail (get_or src i 0) ≡ false) where
    pub clean_room : at + length (sanitize src) ≤ length x → to < length y
    clean_room g = omega (arith, c.long, c.rest, ap length (clean_more src i h f))

    -- a byte that gives one
    pub clean_step : {b : ℕ} → b ≡ clean_byte (get_or src i 0) → Cleaned src x at (set y to b) (i + 1) (to + 1)
    clean_step {b} e = record {
      long = length-set y to b ∙ c.long;
      rest = omega (arith, c.rest, ap length (clean_more src i h f));
      same = rw (add-one to, e) (rw (clean_more src i h f) at c.same);
    }

  -- a byte that gives none
  pub clean_skip : i < length src → is_tail (get_or src i 0) ≡ true → Cleaned src x at y (i + 1) to
  clean_skip h f = record { long = c.long; rest = rw (clean_tail src i h f) at c.rest; same = rw (clean_tail src i h f) at c.same }

  pub clean_end : length src ≤ i → y ≡ sets x at (sanitize src)
  clean_end h = rw (clean_over src i h) at c.same

-- ---- the test and the pen behind it
pub fits_there : (at n room : ℕ) → at ≤ room → leb n (room - at) ≡ leb (at + n) room
fits_there at n room h =
    agree (leb n (room - at)) (leb (at + n) room)
    (λ e. let l = leb-true n (room - at) e in le-leb (at + n) room (omega arith))
    (λ e. let l = leb-true (at + n) room e in le-leb n (room - at) (omega arith))

pub fits_not : (at n room : ℕ) → room < at → false ≡ leb (at + n) room
fits_not at n room h = sym (lt-leb (at + n) room (omega arith))

module _ (p : Pen) (a n room : ℕ) (t : Bool) (f : t ≡ leb (a + n) room) where
  pub sum_fits : room < 18446744073709551616 → t ≡ true → a + n < 18446744073709551616
  sum_fits h e = omega (arith, leb-true (a + n) room (sym f ∙ e))

  pub reach_counting : p ≡ Counting a → t ≡ true → Counting (a + n) ≡ reached room n p
  reach_counting h e = rw (h, sym f ∙ e)

  pub stop_counting : p ≡ Counting a → t ≡ false → Full ≡ reached room n p
  stop_counting h e = rw (h, sym f ∙ e)

  pub reach_writing : p ≡ Writing a → t ≡ true → Writing (a + n) ≡ reached room n p
  reach_writing h e = rw (h, sym f ∙ e)

  pub stop_writing : p ≡ Writing a → t ≡ false → Full ≡ reached room n p
  stop_writing h e = rw (h, sym f ∙ e)
