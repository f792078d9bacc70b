-- Laws: the text of lines is that of their parts; lines without a comment line are those of one function.
use Rattle.std.specs.Prelude.{ℕ, ◌≡◌, Bool, cond, not, ◌&&◌}
use Rattle.std.proofs.Math.Path.{refl}
use Rattle.std.proofs.Common.{ap, sym, ◌∙◌}
use Rattle.std.proofs.Math.Bool.{true, false}
use Rattle.std.proofs.lemmas.Bool.{false≢true}
use mathlib.Core.List.{List, [], ◌∷◌, ◌++◌, append_assoc}
use Rattle.book.specs.Ast.{Book, Function}
use Rattle.assembly.specs.Line.{Line}
use Rattle.assembly.specs.Number.{operand_of, allowed}
use Rattle.assembly.specs.Text.{text, texts}
use Rattle.assembly.specs.Printer.{function_named, is_comment, heading, texts_from}

-- no comment among them
abbrev pub no_comment : List Line → Bool
no_comment [] = true
no_comment (l ∷ ls) = not (is_comment l) && no_comment ls

module _ (names : List (List ℕ)) (b : Book) where
  pub data AllAllowed : List Line → Type 0 where
    none : AllAllowed []
    one : {l : Line} {ls : List Line} → allowed names b l ≡ true → AllAllowed ls → AllAllowed (l ∷ ls)

pub texts_append : (names : List (List ℕ)) (f : Function) (ls ms : List Line) → texts names f (ls ++ ms) ≡ texts names f ls ++ texts names f ms
unfolding texts
texts_append names f [] ms = refl
texts_append names f (l ∷ ls) ms = ap (λ (r : List ℕ). text names f l ++ (10 ∷ r)) (texts_append names f ls ms) ∙ sym (append_assoc (text names f l) (10 ∷ texts names f ls) (texts names f ms))

-- ---- lines of more than one function
module _ (names : List (List ℕ)) (fs : List Function) where
  -- lines without a comment are those of one function
  pub one_function : (f : Function) (ls : List Line) → no_comment ls ≡ true → texts_from names fs f ls ≡ texts names f ls
  unfolding texts_from texts heading
  one_function f [] h = refl
  one_function f (l ∷ ls) h = go (is_comment l) h (one_function f ls)
    where
      go : (t : Bool) → (not t && no_comment ls) ≡ true → (no_comment ls ≡ true → texts_from names fs f ls ≡ texts names f ls)
          → text names (cond t (function_named fs (operand_of l)) f) l ++ (10 ∷ texts_from names fs (cond t (function_named fs (operand_of l)) f) ls) ≡ text names f l ++ (10 ∷ texts names f ls)
      go true k ih = absurd (false≢true k)
      go false k ih = rw (ih k)
