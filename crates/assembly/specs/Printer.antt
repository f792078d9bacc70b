-- "The printer is lent book, names, lines and a text slice. Accepted: a byte count, bytes from 0, the rest unchanged. Refused: the number and 0, nothing
-- changed." It gives 1, 2, 21, 20 in that order, and takes as many lines as the shorter of the two line slices holds.
use Rattle.std.specs.Prelude.{ℕ, Bool, true, cond, not, ◌&&◌, ◌||◌, List, [], ◌∷◌, ◌++◌, length, drop, eqb, leb}
use Rattle.std.proofs.Math.Option.{Option, none, some}
use Rattle.book.specs.Ast.{Ty, Function, Book}
use Rattle.assembly.specs.Line.{Line}
use Rattle.assembly.specs.Number.{kind_of, operand_of, line_of}
use Rattle.assembly.specs.Text.{text}
use Rattle.book.specs.Input.{book_in, names_in}

unfoldable pub consed : Option Line → Option (List Line) → Option (List Line)
consed none ls = none
consed (some l) none = none
consed (some l) (some ls) = some (l ∷ ls)

-- the lines of kinds and operands
unfoldable pub lines_of : List (List ℕ) → Book → List ℕ → List ℕ → Option (List Line)
lines_of names b [] xs = some []
lines_of names b (k ∷ ks) [] = some []
lines_of names b (k ∷ ks) (x ∷ xs) = consed (line_of names b k x) (lines_of names b ks xs)

-- ---- lines of more than one function
-- a comment names a function of the book: the first of that name
unfoldable pub function_named : List Function → ℕ → Function
function_named [] x = record { name = x; ret_ty = Ty.void; params = []; blocks = [] }
function_named (f ∷ fs) x = cond (eqb x f.name) f (function_named fs x)

-- a function's opening comment, of kind 0
unfoldable pub is_comment : Line → Bool
is_comment l = eqb (kind_of l) 0

-- a block label or a jump to one, of kinds 2 and 3: its text has the function's name
unfoldable pub of_block : Line → Bool
of_block l = eqb (kind_of l) 2 || eqb (kind_of l) 3

-- "A block label or jump takes the function of the last comment line before it, else 21": none stands before the first comment line
unfoldable pub headed : List Line → Bool
headed [] = true
headed (l ∷ ls) = is_comment l || (not (of_block l) && headed ls)

module _ (names : List (List ℕ)) (fs : List Function) where
  -- the function of the last comment line up to this line, where f is that of the last one before it
  unfoldable pub heading : Function → Line → Function
  heading f l = cond (is_comment l) (function_named fs (operand_of l)) f

  -- each line as one of the function of the last comment line, which is f at first; each is ended by byte 10, the empty one too
  unfoldable pub texts_from : Function → List Line → List ℕ
  texts_from f [] = []
  texts_from f (l ∷ ls) = text names (heading f l) l ++ (10 ∷ texts_from (heading f l) ls)

-- the first function of the book: that of lines before the first comment line, whose text is the same for every function where they are headed
unfoldable pub first : List Function → Function
first [] = record { name = 0; ret_ty = Ty.void; params = []; blocks = [] }
first (f ∷ fs) = f

unfoldable pub book_texts : List (List ℕ) → List Function → List Line → List ℕ
book_texts names fs ls = texts_from names fs (first fs) ls

pub data Printed : Type 0 where
  accepted : (bytes : ℕ) → Printed
  refused : (number : ℕ) → Printed

-- document 01's number and byte count of a reply; 0 is no refusal
unfoldable pub printed_number : Printed → ℕ
printed_number (Printed.accepted n) = 0
printed_number (Printed.refused e) = e

unfoldable pub printed_bytes : Printed → ℕ
printed_bytes (Printed.accepted n) = n
printed_bytes (Printed.refused e) = 0

-- the reply, and the text slice after the call
pub record Printing : Type 0 where
  pub reply : Printed
  pub text : List ℕ

unfoldable pub refusing : ℕ → List ℕ → Printing
refusing e text = record { reply = Printed.refused e; text = text }

-- these bytes from 0, if they fit
unfoldable pub writing : List ℕ → List ℕ → Printing
writing bs text =
    cond (leb (length bs) (length text))
    (record { reply = Printed.accepted (length bs); text = bs ++ drop (length bs) text })
    (refusing 20 text)

-- what there is goes on; nothing is the refusal e
unfoldable pub needed : {A : Type 0} → ℕ → List ℕ → Option A → (A → Printing) → Printing
needed e text none go = refusing e text
needed e text (some a) go = go a

-- the lines of the book b, whose names are ns: 21 where one isn't allowed or they aren't headed, then 20
unfoldable pub print_lines : (ns : List (List ℕ)) (b : Book) (kinds operands text : List ℕ) → Printing
print_lines ns b kinds operands text =
    needed 21 text (lines_of ns b kinds operands) λ ls.
    cond (headed ls) (writing (book_texts ns b.functions ls) text) (refusing 21 text)

unfoldable pub print : (book names kinds operands text : List ℕ) → Printing
print book names kinds operands text =
    needed 1 text (book_in book) λ b.
    needed 2 text (names_in b.count names) λ ns.
    print_lines ns b.book kinds operands text

-- opens every definition of this file, for an example that computes
unfoldable pub open_printer : Unit {0}
unfolding consed lines_of function_named is_comment of_block headed heading texts_from first book_texts printed_number printed_bytes refusing writing needed print_lines print
open_printer = tt
