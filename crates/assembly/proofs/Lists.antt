-- Laws: lines that are allowed are read back from their numbers; lines before the first comment line print alike for every function.
use Rattle.std.specs.Prelude.{ℕ, ◌≡◌, Bool, cond, not, ◌&&◌, ◌||◌}
use Rattle.std.proofs.Math.Path.{refl}
use Rattle.std.proofs.Common.{sym}
use Rattle.std.proofs.Math.Bool.{true, false}
use Rattle.std.proofs.lemmas.Bool.{false≢true}
use Rattle.std.proofs.Math.Option.{some}
use mathlib.Core.List.{List, [], ◌∷◌, ◌++◌, map}
use Rattle.book.specs.Ast.{Book, Function}
use Rattle.assembly.specs.Line.{Line}
use Rattle.assembly.specs.Number.{kind_of, operand_of}
use Rattle.assembly.specs.Text.{text}
use Rattle.assembly.specs.Printer.{consed, lines_of, function_named, is_comment, of_block, headed, heading, texts_from}
use Rattle.assembly.proofs.Laws.{line_of_number}
use Rattle.assembly.specs.Lists.{AllAllowed, none, one}

module _ (names : List (List ℕ)) (b : Book) where
  -- the printer reads the lines that were written
  pub lines_of_numbers : (ls : List Line) → AllAllowed names b ls → lines_of names b (map kind_of ls) (map operand_of ls) ≡ some ls
  unfolding lines_of consed
  lines_of_numbers [] none = refl
  lines_of_numbers (l ∷ ls) (one h r) = rw (line_of_number names b l h, lines_of_numbers ls r)

-- ---- lines of more than one function
module _ (names : List (List ℕ)) (fs : List Function) where
  -- a line that is no comment, no block label and no jump to one has the same text in every function
  plain_same : (f g : Function) (l : Line) → is_comment l ≡ false → of_block l ≡ false → text names f l ≡ text names g l
  unfolding text is_comment of_block kind_of
  plain_same f g (Line.comment x) c b = absurd (false≢true (sym c))
  plain_same f g (Line.fn_label x) c b = refl
  plain_same f g (Line.block_label x) c b = absurd (false≢true (sym b))
  plain_same f g (Line.jmp_block x) c b = absurd (false≢true (sym b))
  plain_same f g (Line.push_name x) c b = refl
  plain_same f g (Line.syscall x) c b = refl
  plain_same f g (Line.push0n x) c b = refl
  plain_same f g (Line.push x) c b = refl
  plain_same f g (Line.get_arg x) c b = refl
  plain_same f g (Line.get_local x) c b = refl
  plain_same f g (Line.set_local x) c b = refl
  plain_same f g (Line.call_fp x) c b = refl
  plain_same f g (Line.call x k) c b = refl
  plain_same f g (Line.label h n) c b = refl
  plain_same f g (Line.jump h n) c b = refl
  plain_same f g (Line.bin op w) c b = refl
  plain_same f g (Line.icmp p w) c b = refl
  plain_same f g (Line.trunc n) c b = refl
  plain_same f g (Line.sx8 w) c b = refl
  plain_same f g (Line.sx16 w) c b = refl
  plain_same f g Line.sx32 c b = refl
  plain_same f g (Line.load m) c b = refl
  plain_same f g (Line.store m) c b = refl
  plain_same f g Line.atomic_load c b = refl
  plain_same f g Line.atomic_store c b = refl
  plain_same f g Line.atomic_cas c b = refl
  plain_same f g Line.sys_memcmp c b = refl
  plain_same f g Line.dup c b = refl
  plain_same f g Line.pop c b = refl
  plain_same f g Line.ret c b = refl
  plain_same f g Line.panic c b = refl
  plain_same f g Line.thread_get c b = refl
  plain_same f g Line.thread_set c b = refl
  plain_same f g Line.blank c b = refl

  -- headed lines have the same text whichever function those before the first comment line are taken for
  pub headed_same : (f g : Function) (ls : List Line) → headed ls ≡ true → texts_from names fs f ls ≡ texts_from names fs g ls
  unfolding headed texts_from heading
  headed_same f g [] h = refl
  headed_same f g (l ∷ ls) h = go (is_comment l) (of_block l) refl refl h (headed_same f g ls)
    where
      go : (t u : Bool) → is_comment l ≡ t → of_block l ≡ u → (t || (not u && headed ls)) ≡ true → (headed ls ≡ true → texts_from names fs f ls ≡ texts_from names fs g ls)
          → text names (cond t (function_named fs (operand_of l)) f) l ++ (10 ∷ texts_from names fs (cond t (function_named fs (operand_of l)) f) ls)
          ≡ text names (cond t (function_named fs (operand_of l)) g) l ++ (10 ∷ texts_from names fs (cond t (function_named fs (operand_of l)) g) ls)
      go true u c b k ih = refl
      go false true c b k ih = absurd (false≢true k)
      go false false c b k ih = rw (plain_same f g l c b, ih k)
