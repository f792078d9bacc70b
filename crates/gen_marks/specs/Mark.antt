-- Word 5 of a name by its spelling, and what it becomes where the name is defined here.
use Rattle.std.specs.Prelude.{ℕ, ◌+◌, ◌*◌, ◌%◌, ◌<◌, ◌≤◌, ◌≡◌, refl, Bool, true, false, cond, ◌||◌, List, eqb, length, get_or, set}
use Rattle.std.proofs.Common.{ap, ◌∙◌, arith, get_or-set_same, get_or-set_other, eqb-true, ne_eqb}
use Rattle.std.proofs.lemmas.Bool.{eqb-false}
use Rattle.names.specs.Name.{name_at}
use Rattle.names.specs.Spelling.{is_syscall, is_bcmp, is_memcmp, has_overflow}
use Rattle.book.specs.Decode.{member}
use Rattle.book.specs.Work.{name_words, mark_at}
use Rattle.lowering.specs.Context.{Codegen}
use Rattle.gen_values.specs.Maps.{call_class, mark_word}

-- 2 a syscall, 3 memcmp, else 0
unfoldable pub spelled : List ℕ → ℕ
spelled n = cond (is_syscall n) 2 (cond (is_bcmp n || is_memcmp n) 3 0)

pub spelled_small : (n : List ℕ) → spelled n < 4
unfolding spelled
spelled_small n = at (is_syscall n) (is_bcmp n || is_memcmp n)
  where
    at : (a b : Bool) → cond a 2 (cond b 3 0) < 4
    at true b = omega arith
    at false true = omega arith
    at false false = omega arith

-- 4 more where it contains `.with.overflow.`
unfoldable pub with_overflow : ℕ → Bool → ℕ
with_overflow class overflow = class + cond overflow 4 0

-- the word of a name that is not defined here, and of one that is
unfoldable pub plain_mark : List ℕ → ℕ
plain_mark n = with_overflow (spelled n) (has_overflow n)

-- a class of 0 becomes 1
unfoldable pub defined_mark : ℕ → ℕ
defined_mark w = cond (eqb (w % 4) 0) (w + 1) w

abbrev pub raised : Bool → ℕ → ℕ
raised d w = cond d (defined_mark w) w

pub mark_is : (g : Codegen) (x : ℕ) → raised (member x g.defined) (plain_mark (name_at g.names x)) ≡ mark_word g x
unfolding mark_word call_class plain_mark spelled with_overflow defined_mark
mark_is g x = at (is_syscall n) (is_bcmp n || is_memcmp n) (member x g.defined) (has_overflow n)
  where
    n : List ℕ
    n = name_at g.names x

    at : (a b d o : Bool) → raised d (cond a 2 (cond b 3 0) + cond o 4 0) ≡ cond a 2 (cond b 3 (cond d 1 0)) + cond o 4 0
    at true b true true = refl
    at true b true false = refl
    at true b false o = refl
    at false true true true = refl
    at false true true false = refl
    at false true false o = refl
    at false false true true = refl
    at false false true false = refl
    at false false false o = refl

-- once is as good as twice
defined_again : (w : ℕ) → defined_mark (defined_mark w) ≡ defined_mark w
unfolding defined_mark
defined_again w = at (eqb (w % 4) 0) refl
  where
    at : (b : Bool) → eqb (w % 4) 0 ≡ b → cond (eqb (cond b (w + 1) w % 4) 0) (cond b (w + 1) w + 1) (cond b (w + 1) w) ≡ cond b (w + 1) w
    at true e = rw (ne_eqb ((w + 1) % 4) 0 (λ z. omega (arith, eqb-true (w % 4) 0 e)))
    at false e = rw e

-- ---- the words of all names
-- each is what it was, and defined where x was seen
abbrev pub Raised : (m : ℕ) → (ℕ → Bool) → (work work' : List ℕ) → Type 0
Raised m seen work work' = (x : ℕ) → x < m → get_or work' (mark_at x) 0 ≡ raised (seen x) (get_or work (mark_at x) 0)

pub raise_one : (m : ℕ) (seen : ℕ → Bool) (work work' : List ℕ) → Raised m seen work work' → name_words m ≤ length work' → (y : ℕ) → y < m
    → Raised m (λ x. eqb x y || seen x) work (set work' (mark_at y) (defined_mark (get_or work' (mark_at y) 0)))
raise_one m seen work work' r room y l x lx = at (eqb x y) refl
  where
    v : ℕ
    v = defined_mark (get_or work' (mark_at y) 0)

    own : (b : Bool) → defined_mark (raised b (get_or work (mark_at y) 0)) ≡ defined_mark (get_or work (mark_at y) 0)
    own true = defined_again (get_or work (mark_at y) 0)
    own false = refl

    at : (b : Bool) → eqb x y ≡ b → get_or (set work' (mark_at y) v) (mark_at x) 0 ≡ raised (b || seen x) (get_or work (mark_at x) 0)
    at true e =
        let s : mark_at y < length work' = omega arith in
        rw (eqb-true x y e) (get_or-set_same work' (mark_at y) v 0 s ∙ ap defined_mark (r y l) ∙ own (seen y))
    at false e =
        let n = eqb-false x y e in
        get_or-set_other work' (mark_at y) (mark_at x) v 0 (λ z. n (omega arith)) ∙ r x lx
