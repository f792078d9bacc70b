-- Law: every refusal of the printer has one of document 01's numbers 1, 2, 20 and 21; so none is 0, the number of an accepted call.
use Rattle.std.specs.Prelude.{ℕ, ◌≡◌, refl, Bool, true, false, cond, ◌||◌, List, ◌++◌, length, drop, eqb, leb}
use Rattle.std.proofs.Math.Option.{Option, none, some}
use Rattle.std.proofs.Common.{arith}
use Rattle.book.specs.Ast.{Book}
use Rattle.book.specs.Input.{book_in, names_in}
use Rattle.assembly.specs.Line.{Line}
use Rattle.assembly.specs.Printer.{Printed, Printing, lines_of, headed, book_texts, refusing, writing, needed, print_lines, print}

-- whether a number is one of the printer's refusals
abbrev pub is_refusal : ℕ → Bool
is_refusal e = eqb e 1 || eqb e 2 || eqb e 20 || eqb e 21

pub refusal_some : (e : ℕ) → is_refusal e ≡ true → e ≡ 0 → ⊥
refusal_some e h z = let f : false ≡ true = rw z at h in absurd (let y : ◌≡◌ {A = ℕ} 0 1 = cc in omega arith)

-- a reply that refuses does so with such a number
abbrev pub Numbered : Printed → Type 0
Numbered (Printed.accepted n) = Unit {0}
Numbered (Printed.refused e) = is_refusal e ≡ true

writing_numbered : (bs text : List ℕ) → Numbered (writing bs text).reply
unfolding writing refusing
writing_numbered bs text = go (leb (length bs) (length text))
  where
    go : (t : Bool) → Numbered (cond t (record { reply = Printed.accepted (length bs); text = bs ++ drop (length bs) text }) (refusing 20 text)).reply
    go true = tt
    go false = refl

needed_numbered : {A : Type 0} (e : ℕ) (text : List ℕ) (o : Option A) (go : A → Printing) → is_refusal e ≡ true → ((a : A) → Numbered (go a).reply)
    → Numbered (needed e text o go).reply
unfolding needed refusing
needed_numbered e text none go p q = p
needed_numbered e text (some a) go p q = q a

lines_numbered : (ns : List (List ℕ)) (b : Book) (kinds operands text : List ℕ) → Numbered (print_lines ns b kinds operands text).reply
unfolding print_lines refusing
lines_numbered ns b kinds operands text = needed_numbered 21 text (lines_of ns b kinds operands) _ refl (λ ls. go ls (headed ls))
  where
    go : (ls : List Line) (t : Bool) → Numbered (cond t (writing (book_texts ns b.functions ls) text) (refusing 21 text)).reply
    go ls true = writing_numbered (book_texts ns b.functions ls) text
    go ls false = refl

-- the whole call
pub print_numbered : (book names kinds operands text : List ℕ) → Numbered (print book names kinds operands text).reply
unfolding print
print_numbered book names kinds operands text =
    needed_numbered 1 text (book_in book) _ refl (λ b.
    needed_numbered 2 text (names_in b.count names) _ refl (λ ns. lines_numbered ns b.book kinds operands text))
