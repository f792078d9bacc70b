-- The bytes of a text: a refusal's, and that those of an accepted answer stand in it.
use Prim.Native.Nat.{ℕ, ◌+◌, ◌≤◌, ◌^◌, ◌<◌}
use mathlib.Core.Path.{◌≡◌, ap, ◌∙◌, subst}
use mathlib.Core.Bool.{Bool, true, false, cond}
use mathlib.Core.Option.{Option, none, some}
use mathlib.Core.List.{List, [], ◌∷◌, ◌++◌}
use native.Mathlib.Numerals.{add-one}
use native.Mathlib.Omega.{arith}
use lib.Dec.{leb}
use lib.ListN.{length, take, drop, set, length-append, length-set}
use lib.Seq.{sets, sets-eq, length-sets, take-suc-set, take-append_seam}
use Rattle.numbers.specs.Digits.{decimal, length_word}
use Rattle.assembly.specs.Printer.{Printed, Printing, refusing, writing, needed, headed, book_texts, print_lines, print}
use Rattle.lines.specs.Shown.{refusal, Begins}

-- ---- an accepted answer
abbrev inside : (text : List ℕ) → Printed → Type 0
inside text (Printed.accepted n) = n ≤ length text
inside text (Printed.refused e) = Unit {0}

abbrev Inside : Printing → Type 0
Inside p = inside p.text p.reply

refusing_inside : (e : ℕ) (text : List ℕ) → Inside (refusing e text)
unfolding refusing
refusing_inside e text = tt

writing_inside : (bs text : List ℕ) → Inside (writing bs text)
unfolding writing
writing_inside bs text = go (leb (length bs) (length text))
  where
    go : (t : Bool) → Inside (cond t (record { reply = Printed.accepted (length bs); text = bs ++ drop (length bs) text }) (refusing 20 text))
    go true = omega (arith, length-append bs (drop (length bs) text))
    go false = refusing_inside 20 text

needed_inside : {A : Type 0} (e : ℕ) (text : List ℕ) (o : Option A) (go : A → Printing) → ((a : A) → Inside (go a)) → Inside (needed e text o go)
unfolding needed
needed_inside e text none go h = refusing_inside e text
needed_inside e text (some a) go h = h a

cond_inside : (t : Bool) (p q : Printing) → Inside p → Inside q → Inside (cond t p q)
cond_inside true p q h k = h
cond_inside false p q h k = k

all_inside : (book names kinds operands text : List ℕ) → Inside (print book names kinds operands text)
unfolding print print_lines
all_inside book names kinds operands text =
    needed_inside 1 text _ _
    (λ b. needed_inside 2 text _ _
    (λ ns. needed_inside 21 text _ _
    (λ ls. cond_inside (headed ls) _ _ (writing_inside (book_texts ns b.book.functions ls) text) (refusing_inside 21 text))))

pub print_inside : (book names kinds operands text : List ℕ) (n : ℕ) → (print book names kinds operands text).reply ≡ Printed.accepted n
    → n ≤ length (print book names kinds operands text).text
print_inside book names kinds operands text n e = subst (inside (print book names kinds operands text).text) e (all_inside book names kinds operands text)

-- ---- a refusal
-- room for every number's digits and the byte behind them
pub digits_fit : (e : ℕ) → e < 2 ^ 64 → (text : List ℕ) → 21 ≤ length text → length (decimal e) < length text
digits_fit e h text r = omega (arith, length_word e h)

-- digits, and then byte 10
pub refusal_put : (e : ℕ) (x y : List ℕ) (n : ℕ) → length (decimal e) < length x → n ≡ 0 + length (decimal e) → y ≡ sets x 0 (decimal e) → Begins (refusal e) (set y n 10) (n + 1)
unfolding refusal
refusal_put e x y n h c p =
    let size : n ≡ length (decimal e) = omega arith in
    let long : length y ≡ length x = ap length p ∙ length-sets x 0 (decimal e) in
    let all : y ≡ decimal e ++ drop (0 + length (decimal e)) x = p ∙ sets-eq (decimal e) x 0 (omega arith) in
    let front : take n y ≡ decimal e = rw (size, all) (take-append_seam (decimal e) _) in
    record {
      fits = omega (arith, length-set y n 10);
      front = rw (add-one n) (take-suc-set y n 10 (omega arith) ∙ ap (λ (l : List ℕ). l ++ (10 ∷ [])) front);
    }
