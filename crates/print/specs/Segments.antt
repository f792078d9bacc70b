-- Lines in segments: from one comment line up to the next that names another function. A line belongs to the function that the last comment
-- line names, up to the line itself.
use Rattle.std.specs.Prelude.{ℕ, suc, ◌+◌, ◌-◌, ◌≤◌, ◌<◌, ◌≡◌, refl, Bool, true, false, cond, not, ◌&&◌, ◌||◌, ◌⊎◌, List, [], ◌∷◌, ◌++◌, Result, Ok, Err, eqb, length, get_or, take, drop}
use Rattle.std.proofs.Common.{sym, ⊎_elim, inl, inr, ap, ◌∙◌, append_assoc, append-nil, add-one, arith, eqb-true, eq-eqb, ne_eqb, length-drop, length-append, take-append-drop, drop-cons, drop-drop}
use Rattle.std.proofs.lemmas.Bool.{false≢true}
use Rattle.numbers.specs.Tests.{lt_or_le}
use Rattle.names.specs.Tests.{both}
use Rattle.print_pen.specs.Write.{Wrote}
use Rattle.print_forms.specs.Forms.{form_of, allowed_by}
use Rattle.print_forms.specs.All.{allowed_all}
use Rattle.print_lines.specs.All.{printed_all}
use Rattle.print_lines.specs.Weigh.{Weighed, is_bytes, is_short, is_err, bytes_are, short_alone, barred_is}
use Rattle.book.specs.declared.refusal.Refusal.{Refusal}
use Rattle.book.specs.declared.refusal.Refusal.TheVariants.{NoRoom, BadLine}

-- the name in the last comment line, up to a line of kind k and operand x, where own is the one before it
abbrev pub turned : (own k x : ℕ) → ℕ
turned own k x = cond (eqb k 0) x own

-- the bytes of all lines, where `one` has those of a line of a function
abbrev pub printed_from : (ℕ → ℕ → ℕ → List ℕ) → ℕ → List ℕ → List ℕ → List ℕ
printed_from one own [] xs = []
printed_from one own (k ∷ ks) [] = []
printed_from one own (k ∷ ks) (x ∷ xs) = one (turned own k x) k x ++ printed_from one (turned own k x) ks xs

-- every line may stand, and belongs to a function
abbrev pub stand_from : (ℕ → Bool) → (names from to : ℕ) → ℕ → List ℕ → List ℕ → Bool
stand_from is n a b own [] xs = true
stand_from is n a b own (k ∷ ks) [] = true
stand_from is n a b own (k ∷ ks) (x ∷ xs) =
    (is (turned own k x) && allowed_by (form_of k) x n (turned own k x) a b) && stand_from is n a b (turned own k x) ks xs

-- "a block label or jump takes the function of the last comment line before it, else 21": no kind 2 or 3 before the first 0
abbrev pub headed_kinds : List ℕ → Bool
headed_kinds [] = true
headed_kinds (k ∷ ks) = eqb k 0 || (not (eqb k 2 || eqb k 3) && headed_kinds ks)

-- no comment, or one of this function
abbrev pub stays : (own k x : ℕ) → Bool
stays own k x = not (eqb k 0) || eqb x own

abbrev pub pick_nat : Bool → ℕ → ℕ → ℕ
pick_nat true a b = a
pick_nat false a b = b

-- how many lines follow before a comment of another function
abbrev pub run : ℕ → List ℕ → List ℕ → ℕ
run own [] xs = 0
run own (k ∷ ks) [] = 0
run own (k ∷ ks) (x ∷ xs) = pick_nat (stays own k x) (suc (run own ks xs)) 0

stays_turned : (own k x : ℕ) → stays own k x ≡ true → turned own k x ≡ own
stays_turned own k x h = go (eqb k 0) h
  where
    go : (t : Bool) → (not t || eqb x own) ≡ true → cond t x own ≡ own
    go true e = eqb-true x own e
    go false e = refl

turned_stays : (own k x : ℕ) → stays (turned own k x) k x ≡ true
turned_stays own k x = go (eqb k 0)
  where
    go : (t : Bool) → (not t || eqb x (cond t x own)) ≡ true
    go true = eq-eqb x x refl
    go false = refl

-- ---- lines before the first comment line
-- the first i are none, and no block label or jump
pub record Ahead (ks : List ℕ) (i : ℕ) : Type 0 where
  pub same : headed_kinds ks ≡ headed_kinds (drop i ks)

module _ {ks : List ℕ} {i : ℕ} (a : Ahead ks i) where
  ahead_step : i < length ks → headed_kinds ks ≡ (eqb (get_or ks i 0) 0 || (not (eqb (get_or ks i 0) 2 || eqb (get_or ks i 0) 3) && headed_kinds (drop (i + 1) ks)))
  ahead_step h = a.same ∙ rw (drop-cons ks i 0 h, add-one i)

  pub ahead_comment : i < length ks → get_or ks i 0 ≡ 0 → true ≡ headed_kinds ks
  ahead_comment h e = sym (ahead_step h ∙ rw (eq-eqb (get_or ks i 0) 0 e))

  pub ahead_block : i < length ks → 2 ≤ get_or ks i 0 → get_or ks i 0 < 4 → false ≡ headed_kinds ks
  ahead_block h e f = sym (ahead_step h ∙ go (get_or ks i 0) e f)
    where
      go : (k : ℕ) → 2 ≤ k → k < 4 → (eqb k 0 || (not (eqb k 2 || eqb k 3) && headed_kinds (drop (i + 1) ks))) ≡ false
      go k e f =
          ⊎_elim (λ l. let z : k ≡ 2 = omega arith in rw z) (λ l. let z : k ≡ 3 = omega arith in rw z) (lt_or_le k 3)

  pub ahead_next : i < length ks → (get_or ks i 0 ≡ 0 → ⊥) → (get_or ks i 0 ≡ 2 → ⊥) → (get_or ks i 0 ≡ 3 → ⊥) → Ahead ks (i + 1)
  ahead_next h e f g = record { same = ahead_step h ∙ rw (ne_eqb (get_or ks i 0) 0 e, ne_eqb (get_or ks i 0) 2 f, ne_eqb (get_or ks i 0) 3 g) }

  pub ahead_end : length ks ≤ i → true ≡ headed_kinds ks
  ahead_end h = sym (a.same ∙ none (drop i ks) (omega (arith, length-drop i ks)))
    where
      none : (l : List ℕ) → length l ≡ 0 → headed_kinds l ≡ true
      none [] e = refl
      none (k ∷ l) e = absurd (omega arith)

-- ---- the end of a segment
-- the lines from s up to i stay
pub record Staying (own : ℕ) (ks xs : List ℕ) (s i : ℕ) : Type 0 where
  pub after : s ≤ i
  pub inside : i ≤ length ks
  pub same : s + run own (drop s ks) (drop s xs) ≡ i + run own (drop i ks) (drop i xs)

pub staying_start : (own : ℕ) (ks xs : List ℕ) (s : ℕ) → s ≤ length ks → Staying own ks xs s s
staying_start own ks xs s h = record { after = omega arith; inside = h; same = refl }

module _ {own : ℕ} {ks xs : List ℕ} {s i : ℕ} (v : Staying own ks xs s i) (h : i < length ks) (g : i < length xs) where
  step : run own (drop i ks) (drop i xs) ≡ pick_nat (stays own (get_or ks i 0) (get_or xs i 0)) (suc (run own (drop (i + 1) ks) (drop (i + 1) xs))) 0
  step = rw (drop-cons ks i 0 h, drop-cons xs i 0 g, add-one i)

  pub staying_next : stays own (get_or ks i 0) (get_or xs i 0) ≡ true → Staying own ks xs s (i + 1)
  staying_next e =
      let f : run own (drop i ks) (drop i xs) ≡ suc (run own (drop (i + 1) ks) (drop (i + 1) xs)) = rw e at step in
      record { after = omega (arith, v.after); inside = omega arith; same = omega (arith, v.same, f) }

  pub staying_done : stays own (get_or ks i 0) (get_or xs i 0) ≡ false → i ≡ s + run own (drop s ks) (drop s xs)
  staying_done e =
      let f : run own (drop i ks) (drop i xs) ≡ 0 = rw e at step in
      omega (arith, v.same, f)

pub staying_end : {own : ℕ} {ks xs : List ℕ} {s i : ℕ} → Staying own ks xs s i → length ks ≤ i → length ks ≡ s + run own (drop s ks) (drop s xs)
staying_end {own} {ks} {xs} {s} {i} v h = omega (arith, v.inside, v.same, none (drop i ks) (omega (arith, length-drop i ks)))
  where
    none : (l : List ℕ) → length l ≡ 0 → run own l (drop i xs) ≡ 0
    none [] e = refl
    none (k ∷ l) e = absurd (omega arith)

-- ---- a segment and what follows it
run_inside : (own : ℕ) (ks xs : List ℕ) → run own ks xs ≤ length ks
run_inside own [] xs = omega arith
run_inside own (k ∷ ks) [] = omega arith
run_inside own (k ∷ ks) (x ∷ xs) = go (stays own k x) (run_inside own ks xs)
  where
    go : (t : Bool) → run own ks xs ≤ length ks → pick_nat t (suc (run own ks xs)) 0 ≤ suc (length ks)
    go true h = omega arith
    go false h = omega arith

module _ (one : ℕ → ℕ → ℕ → List ℕ) where
  printed_split : (own : ℕ) (ks xs : List ℕ) → printed_from one own ks xs
      ≡ printed_all (one own) (take (run own ks xs) ks) (take (run own ks xs) xs) ++ printed_from one own (drop (run own ks xs) ks) (drop (run own ks xs) xs)
  printed_split own [] xs = refl
  printed_split own (k ∷ ks) [] = refl
  printed_split own (k ∷ ks) (x ∷ xs) = go (stays own k x) refl (printed_split own ks xs)
    where
      go : (t : Bool) → stays own k x ≡ t
          → printed_from one own ks xs ≡ printed_all (one own) (take (run own ks xs) ks) (take (run own ks xs) xs) ++ printed_from one own (drop (run own ks xs) ks) (drop (run own ks xs) xs)
          → printed_from one own (k ∷ ks) (x ∷ xs) ≡ printed_all (one own) (take (pick_nat t (suc (run own ks xs)) 0) (k ∷ ks)) (take (pick_nat t (suc (run own ks xs)) 0) (x ∷ xs))
          ++ printed_from one own (drop (pick_nat t (suc (run own ks xs)) 0) (k ∷ ks)) (drop (pick_nat t (suc (run own ks xs)) 0) (x ∷ xs))
      go true e ih =
          let n = run own ks xs in
          rw (stays_turned own k x e)
          (ap (λ (l : List ℕ). one own k x ++ l) ih ∙ sym (append_assoc (one own k x) (printed_all (one own) (take n ks) (take n xs)) (printed_from one own (drop n ks) (drop n xs))))
      go false e ih = refl

  -- the line that a segment begins with belongs to its function
  printed_turned : (own k x : ℕ) (ks xs : List ℕ) → printed_from one own (k ∷ ks) (x ∷ xs) ≡ printed_from one (turned own k x) (k ∷ ks) (x ∷ xs)
  printed_turned own k x ks xs = rw (stays_turned (turned own k x) k x (turned_stays own k x))

module _ (is : ℕ → Bool) (n a b : ℕ) where
  and_assoc : (s t u : Bool) → (s && (t && u)) ≡ ((s && t) && u)
  and_assoc true t u = refl
  and_assoc false t u = refl

  stand_split : (own : ℕ) → is own ≡ true → (ks xs : List ℕ) → stand_from is n a b own ks xs
      ≡ (allowed_all n own a b (take (run own ks xs) ks) (take (run own ks xs) xs) && stand_from is n a b own (drop (run own ks xs) ks) (drop (run own ks xs) xs))
  stand_split own h [] xs = refl
  stand_split own h (k ∷ ks) [] = refl
  stand_split own h (k ∷ ks) (x ∷ xs) = go (stays own k x) refl (stand_split own h ks xs)
    where
      go : (t : Bool) → stays own k x ≡ t
          → stand_from is n a b own ks xs ≡ (allowed_all n own a b (take (run own ks xs) ks) (take (run own ks xs) xs) && stand_from is n a b own (drop (run own ks xs) ks) (drop (run own ks xs) xs))
          → stand_from is n a b own (k ∷ ks) (x ∷ xs) ≡ (allowed_all n own a b (take (pick_nat t (suc (run own ks xs)) 0) (k ∷ ks)) (take (pick_nat t (suc (run own ks xs)) 0) (x ∷ xs))
          && stand_from is n a b own (drop (pick_nat t (suc (run own ks xs)) 0) (k ∷ ks)) (drop (pick_nat t (suc (run own ks xs)) 0) (x ∷ xs)))
      go true e ih = rw (stays_turned own k x e, h, ih) (and_assoc (allowed_by (form_of k) x n own a b) _ _)
      go false e ih = refl

  stand_turned : (own k x : ℕ) (ks xs : List ℕ) → stand_from is n a b own (k ∷ ks) (x ∷ xs) ≡ stand_from is n a b (turned own k x) (k ∷ ks) (x ∷ xs)
  stand_turned own k x ks xs = rw (stays_turned (turned own k x) k x (turned_stays own k x))

-- the segment from line i up to line j, of the function that the last comment line names: j stands behind i
pub record Segment (own : ℕ) (ks xs : List ℕ) (i o j : ℕ) : Type 0 where
  pub kinds : i < length ks
  pub words : i < length xs
  pub name : o ≡ turned own (get_or ks i 0) (get_or xs i 0)
  pub end : j ≡ i + run o (drop i ks) (drop i xs)

module _ {own : ℕ} {ks xs : List ℕ} {i o j : ℕ} (s : Segment own ks xs i o j) where
  first_stays : 1 ≤ run o (drop i ks) (drop i xs)
  first_stays =
      let e : stays o (get_or ks i 0) (get_or xs i 0) ≡ true = rw s.name (turned_stays own (get_or ks i 0) (get_or xs i 0)) in
      rw (drop-cons ks i 0 s.kinds, drop-cons xs i 0 s.words, e) (omega arith)

  pub segment_behind : i < j
  segment_behind = omega (arith, s.end, first_stays)

  pub segment_inside : j ≤ length ks
  segment_inside = omega (arith, s.end, run_inside o (drop i ks) (drop i xs), length-drop i ks, s.kinds)

  length_is : run o (drop i ks) (drop i xs) ≡ j - i
  length_is = omega (arith, s.end)

  behind : (l : List ℕ) → drop (run o (drop i ks) (drop i xs)) (drop i l) ≡ drop j l
  behind l = drop-drop (run o (drop i ks) (drop i xs)) i l ∙ ap (λ (n : ℕ). drop n l) (sym s.end)

  abbrev part : List ℕ → List ℕ
  part l = take (j - i) (drop i l)

  pub segment_printed : (one : ℕ → ℕ → ℕ → List ℕ) → printed_from one own (drop i ks) (drop i xs) ≡ printed_all (one o) (part ks) (part xs) ++ printed_from one o (drop j ks) (drop j xs)
  segment_printed one =
      let turn : printed_from one own (drop i ks) (drop i xs) ≡ printed_from one o (drop i ks) (drop i xs) =
      rw (s.name, drop-cons ks i 0 s.kinds, drop-cons xs i 0 s.words) (printed_turned one own (get_or ks i 0) (get_or xs i 0) (drop (suc i) ks) (drop (suc i) xs)) in
      turn ∙ (rw (behind ks, behind xs, length_is) at (printed_split one o (drop i ks) (drop i xs)))

  module _ (is : ℕ → Bool) (n a b : ℕ) where
    turn : stand_from is n a b own (drop i ks) (drop i xs) ≡ stand_from is n a b o (drop i ks) (drop i xs)
    turn = rw (s.name, drop-cons ks i 0 s.kinds, drop-cons xs i 0 s.words) (stand_turned is n a b own (get_or ks i 0) (get_or xs i 0) (drop (suc i) ks) (drop (suc i) xs))

    pub segment_stands : is o ≡ true
        → stand_from is n a b own (drop i ks) (drop i xs) ≡ (allowed_all n o a b (part ks) (part xs) && stand_from is n a b o (drop j ks) (drop j xs))
    segment_stands h = turn ∙ (rw (behind ks, behind xs, length_is) at (stand_split is n a b o h (drop i ks) (drop i xs)))

    -- where its function isn't there, it may not stand
    pub segment_nowhere : is o ≡ false → stand_from is n a b own (drop i ks) (drop i xs) ≡ false
    segment_nowhere h = rw (drop-cons ks i 0 s.kinds, drop-cons xs i 0 s.words, ← s.name, h)

    -- the same in one
    pub segment_both : stand_from is n a b own (drop i ks) (drop i xs) ≡ ((is o && allowed_all n o a b (part ks) (part xs)) && stand_from is n a b o (drop j ks) (drop j xs))
    segment_both = go (is o) refl
      where
        go : (t : Bool) → is o ≡ t → stand_from is n a b own (drop i ks) (drop i xs) ≡ ((t && allowed_all n o a b (part ks) (part xs)) && stand_from is n a b o (drop j ks) (drop j xs))
        go true e = segment_stands e
        go false e = segment_nowhere e

no_line : (one : ℕ → ℕ → ℕ → List ℕ) (own : ℕ) (ks xs : List ℕ) (i : ℕ) → length ks ≤ i → printed_from one own (drop i ks) (drop i xs) ≡ []
no_line one own ks xs i h = go (drop i ks) (omega (arith, length-drop i ks))
  where
    go : (l : List ℕ) → length l ≡ 0 → printed_from one own l (drop i xs) ≡ []
    go [] e = refl
    go (k ∷ l) e = absurd (omega arith)

none_stand : (is : ℕ → Bool) (n a b own : ℕ) (ks xs : List ℕ) (i : ℕ) → length ks ≤ i → stand_from is n a b own (drop i ks) (drop i xs) ≡ true
none_stand is n a b own ks xs i h = go (drop i ks) (omega (arith, length-drop i ks))
  where
    go : (l : List ℕ) → length l ≡ 0 → stand_from is n a b own l (drop i xs) ≡ true
    go [] e = refl
    go (k ∷ l) e = absurd (omega arith)

-- ---- weighing segment after segment
-- the lines before i may stand and have n bytes, which fit; or they and what follows are too many
pub record Weighing (is : ℕ → Bool) (m a b : ℕ) (one : ℕ → ℕ → ℕ → List ℕ) (own₀ : ℕ) (ks xs x : List ℕ) (own i : ℕ) (y : List ℕ) (n : ℕ) (short : Bool) : Type 0 where
  pub lines : i ≤ length ks
  pub stand : stand_from is m a b own₀ ks xs ≡ stand_from is m a b own (drop i ks) (drop i xs)
  pub size : short ≡ false → n + length (printed_from one own (drop i ks) (drop i xs)) ≡ length (printed_from one own₀ ks xs)
  pub over : short ≡ true → length x < length (printed_from one own₀ ks xs)
  pub inside : n ≤ length x
  pub text : y ≡ x

pub weighing_start : (is : ℕ → Bool) (m a b : ℕ) (one : ℕ → ℕ → ℕ → List ℕ) (own : ℕ) (ks xs x : List ℕ) → Weighing is m a b one own ks xs x own 0 x 0 false
weighing_start is m a b one own ks xs x = record { lines = omega arith; stand = refl; size = λ e. omega arith; over = λ e. absurd (false≢true e); inside = omega arith; text = refl }

module _ {is : ℕ → Bool} {m a b : ℕ} {one : ℕ → ℕ → ℕ → List ℕ} {own₀ : ℕ} {ks xs x : List ℕ} {own i : ℕ} {y : List ℕ} {n : ℕ} {short : Bool}
    (s : Weighing is m a b one own₀ ks xs x own i y n short) where
  module _ {o j : ℕ} (g : Segment own ks xs i o j) {z : List ℕ} {r : Result ℕ Refusal}
      (w : Weighed (is o && allowed_all m o a b (take (j - i) (drop i ks)) (take (j - i) (drop i xs))) (n + length (printed_all (one o) (take (j - i) (drop i ks)) (take (j - i) (drop i xs)))) y z r) where
    more : length (printed_from one own (drop i ks) (drop i xs)) ≡ length (printed_all (one o) (take (j - i) (drop i ks)) (take (j - i) (drop i xs))) + length (printed_from one o (drop j ks) (drop j xs))
    more = ap length (segment_printed g one) ∙ length-append (printed_all (one o) (take (j - i) (drop i ks)) (take (j - i) (drop i xs))) (printed_from one o (drop j ks) (drop j xs))

    passes : (is o && allowed_all m o a b (take (j - i) (drop i ks)) (take (j - i) (drop i xs))) ≡ true → stand_from is m a b own₀ ks xs ≡ stand_from is m a b o (drop j ks) (drop j xs)
    passes e = s.stand ∙ segment_both g is m a b ∙ rw e

    pub weighing_next : (k : ℕ) → r ≡ Ok k → Weighing is m a b one own₀ ks xs x o j z k short
    weighing_next k e =
        let t = is_bytes _ _ _ k (sym w.is ∙ e) in
        record {
          lines = segment_inside g;
          stand = passes t.0;
          size = λ f. omega (arith, s.size f, more, t.1.0);
          over = s.over;
          inside = omega (arith, t.1.0, t.1.1, ap length s.text);
          text = w.text ∙ s.text;
        }

    pub weighing_short : r ≡ Err NoRoom → Weighing is m a b one own₀ ks xs x o j z n true
    weighing_short e =
        let t = is_short _ _ _ (sym w.is ∙ e) in
        record {
          lines = segment_inside g;
          stand = passes t.0;
          size = λ f. absurd (false≢true (sym f));
          over = λ _. go short refl t.1;
          inside = s.inside;
          text = w.text ∙ s.text;
        }
      where
        go : (t : Bool) → short ≡ t → length y < n + length (printed_all (one o) (take (j - i) (drop i ks)) (take (j - i) (drop i xs))) → length x < length (printed_from one own₀ ks xs)
        go true f l = s.over f
        go false f l = omega (arith, s.size f, more, ap length s.text)

    pub weighing_barred : (d : Refusal) → r ≡ Err d → (d ≡ NoRoom → ⊥) → Weighed (stand_from is m a b own₀ ks xs) (length (printed_from one own₀ ks xs)) x z (Err d)
    weighing_barred d e f = go (is_err _ _ _ d (sym w.is ∙ e))
      where
        go : {size room : ℕ} → (((is o && allowed_all m o a b (take (j - i) (drop i ks)) (take (j - i) (drop i xs))) ≡ false) × (d ≡ BadLine))
            ⊎ (((is o && allowed_all m o a b (take (j - i) (drop i ks)) (take (j - i) (drop i xs))) ≡ true) × ((room < size) × (d ≡ NoRoom)))
            → Weighed (stand_from is m a b own₀ ks xs) (length (printed_from one own₀ ks xs)) x z (Err d)
        go (inl t) = rw t.1 (record { is = barred_is _ _ _ (s.stand ∙ segment_both g is m a b ∙ rw t.0); text = w.text ∙ s.text })
        go (inr t) = absurd (f t.1.1)

  module _ (h : length ks ≤ i) where
    all_stand : stand_from is m a b own₀ ks xs ≡ true
    all_stand = s.stand ∙ none_stand is m a b own ks xs i h

    pub weighing_end : short ≡ false → Weighed (stand_from is m a b own₀ ks xs) (length (printed_from one own₀ ks xs)) x y (Ok n)
    weighing_end e =
        let same : n ≡ length (printed_from one own₀ ks xs) = omega (arith, s.size e, ap length (no_line one own ks xs i h)) in
        record { is = rw same (bytes_are _ _ _ all_stand (omega (arith, s.inside))); text = s.text }

    pub weighing_over : short ≡ true → Weighed (stand_from is m a b own₀ ks xs) (length (printed_from one own₀ ks xs)) x y (Err NoRoom)
    weighing_over e = record { is = short_alone _ _ _ all_stand (s.over e); text = s.text }

-- ---- writing segment after segment
pub record Writing (is : ℕ → Bool) (m a b : ℕ) (one : ℕ → ℕ → ℕ → List ℕ) (own₀ : ℕ) (ks xs x : List ℕ) (end own i : ℕ) (y : List ℕ) (at : ℕ) : Type 0 where
  pub lines : i ≤ length ks
  pub stand : stand_from is m a b own (drop i ks) (drop i xs) ≡ true
  pub long : length y ≡ length x
  pub rest : at + length (printed_from one own (drop i ks) (drop i xs)) ≡ end
  pub front : take at y ++ printed_from one own (drop i ks) (drop i xs) ≡ printed_from one own₀ ks xs
  pub back : drop end y ≡ drop end x

pub writing_start : (is : ℕ → Bool) (m a b : ℕ) (one : ℕ → ℕ → ℕ → List ℕ) (own : ℕ) (ks xs x : List ℕ) (end : ℕ) → stand_from is m a b own ks xs ≡ true
    → end ≡ length (printed_from one own ks xs) → Writing is m a b one own ks xs x end own 0 x 0
writing_start is m a b one own ks xs x end h e = record { lines = omega arith; stand = h; long = refl; rest = omega arith; front = refl; back = refl }

module _ {is : ℕ → Bool} {m a b : ℕ} {one : ℕ → ℕ → ℕ → List ℕ} {own₀ : ℕ} {ks xs x : List ℕ} {end own i : ℕ} {y : List ℕ} {at : ℕ}
    (s : Writing is m a b one own₀ ks xs x end own i y at) where
  module _ {o j : ℕ} (g : Segment own ks xs i o j) where
    abbrev bytes : List ℕ
    bytes = printed_all (one o) (take (j - i) (drop i ks)) (take (j - i) (drop i xs))

    abbrev later : List ℕ
    later = printed_from one o (drop j ks) (drop j xs)

    two : ((is o && allowed_all m o a b (take (j - i) (drop i ks)) (take (j - i) (drop i xs))) ≡ true) × (stand_from is m a b o (drop j ks) (drop j xs) ≡ true)
    two = both _ _ (sym (segment_both g is m a b) ∙ s.stand)

    pub writing_is : is o ≡ true
    writing_is = (both (is o) _ two.0).0

    pub writing_stands : allowed_all m o a b (take (j - i) (drop i ks)) (take (j - i) (drop i xs)) ≡ true
    writing_stands = (both (is o) _ two.0).1

    pub writing_room : at + length bytes ≤ end
    writing_room = omega (arith, s.rest, ap length (segment_printed g one), length-append bytes later)

    pub writing_next : (z : List ℕ) (r : ℕ) → Wrote bytes at end y z r → Writing is m a b one own₀ ks xs x end o j z r
    writing_next z r t = record {
      lines = segment_inside g;
      stand = two.1;
      long = t.long ∙ s.long;
      rest = omega (arith, s.rest, ap length (segment_printed g one), length-append bytes later, t.place);
      front = ap (λ (l : List ℕ). l ++ later) t.front ∙ append_assoc (take at y) bytes later ∙ ap (λ (l : List ℕ). take at y ++ l) (sym (segment_printed g one)) ∙ s.front;
      back = t.back ∙ s.back;
    }

  pub writing_end : length ks ≤ i → y ≡ printed_from one own₀ ks xs ++ drop end x
  writing_end h =
      let none = no_line one own ks xs i h in
      let a : at ≡ end = omega (arith, s.rest, ap length none) in
      let f : take end y ≡ printed_from one own₀ ks xs = ap (λ (n : ℕ). take n y) (sym a) ∙ sym (append-nil (take at y)) ∙ ap (λ (l : List ℕ). take at y ++ l) (sym none) ∙ s.front in
      sym (take-append-drop end y) ∙ ap (λ (l : List ℕ). l ++ drop end y) f ∙ ap (λ (l : List ℕ). printed_from one own₀ ks xs ++ l) s.back
