-- "The program `lines` reads book (u64s little-endian) and names, up to 65,536 bytes, from standard input and prints the text at counter 0, or the
-- refusal's number." The first 8 bytes give N, the book is these and the next 8 + 16N bytes, the rest are the names. Input that ends inside the book, or
-- is longer, is a 1; where the lines or the text do not fit the program's own slices, the answer is 20. Work words there are as many as the names want, so
-- that no input meets a 4. A refusal's number is printed as its decimal digits and byte 10.
use Rattle.std.specs.Prelude.{ℕ, zero, suc, ◌+◌, ◌*◌, ◌≤◌, Bool, false, cond, ◌≡◌, List, [], ◌∷◌, ◌++◌, length, take, drop, get_or, replicate, leb}
use Rattle.numbers.specs.Digits.{decimal}
use Rattle.names.specs.Name.{lines}
use Rattle.book.specs.Check.{work_for}
use Rattle.assembly.specs.Printer.{Printed, Printing, refusing, print}
use Rattle.lowering.specs.Translate.{Translation, Translating, translate}

-- ---- the program's own slices
-- the bytes that are taken
abbrev pub longest : ℕ
longest = 65536

-- room for so many lines, and for so many bytes of text
abbrev pub line_room : ℕ
line_room = 65536

abbrev pub text_room : ℕ
text_room = 1048576

-- slices are lent full of zeros
unfoldable pub zeros : ℕ → List ℕ
zeros n = replicate n 0

-- ---- the book and the names of an input
-- the u64 that stands in front, its low byte first; a byte that is missing is 0
abbrev pub word : List ℕ → ℕ
word bs =
    get_or bs 0 0
    + 256 * (get_or bs 1 0
    + 256 * (get_or bs 2 0
    + 256 * (get_or bs 3 0 + 256 * (get_or bs 4 0 + 256 * (get_or bs 5 0 + 256 * (get_or bs 6 0 + 256 * get_or bs 7 0))))))

-- so many of them
unfoldable pub words : ℕ → List ℕ → List ℕ
words zero bs = []
words (suc n) bs = word bs ∷ words n (drop 8 bs)

-- how many words the book of an input has
unfoldable pub size : List ℕ → ℕ
size input = 2 + 2 * word input

unfoldable pub whole : List ℕ → Bool
whole input = cond (leb (length input) longest) (leb (8 * size input) (length input)) false

-- "at least 8 × names + 64"
unfoldable pub enough : List ℕ → List ℕ
enough names = zeros (work_for (length (lines names)))

-- ---- the answer
-- the text of a translation's lines, or its refusal
unfoldable pub printed : (book names text : List ℕ) → Translating → Translation → Printing
printed book names text t (Translation.accepted n next) = print book names (take n t.kinds) (take n t.operands) text
printed book names text t (Translation.refused e) = refusing e text

-- the text of a book's lines, for the slices that are lent
unfoldable pub translated : (book names work kinds operands text : List ℕ) → Printing
translated book names work kinds operands text = let t = translate book names 0 work kinds operands in printed book names text t t.reply

-- the same for an input
unfoldable pub answered : (input kinds operands text : List ℕ) → Printing
answered input kinds operands text =
    let names = drop (8 * size input) input in
    cond (whole input) (translated (words (size input) input) names (enough names) kinds operands text) (refusing 1 text)

-- ---- the bytes that are written
unfoldable pub refusal : ℕ → List ℕ
refusal e = decimal e ++ (10 ∷ [])

unfoldable pub said_of : (text : List ℕ) → Printed → List ℕ
said_of text (Printed.accepted n) = take n text
said_of text (Printed.refused e) = refusal e

-- of an answer: the text, or the refusal
unfoldable pub said : Printing → List ℕ
said p = said_of p.text p.reply

-- what the program writes for what it reads
unfoldable pub shown : (input : List ℕ) → List ℕ
shown input = said (answered input (zeros line_room) (zeros line_room) (zeros text_room))

-- a text begins with these bytes, which are r
pub record Begins (bytes text : List ℕ) (r : ℕ) : Type 0 where
  pub fits : r ≤ length text
  pub front : take r text ≡ bytes

-- opens every definition of this file, for an example that computes
unfoldable pub open_shown : Unit {0}
unfolding zeros words size whole enough printed translated answered refusal said_of said shown
open_shown = tt
