-- What `lines` of "Sheets to check" prints for a book: its text, or the refusal's number.
use Rattle.std.specs.Prelude.{ℕ, List, take, replicate}
use Prim.Native.String.{String}
use Rattle.assembly.specs.Printer.{Printed, print}
use Rattle.assembly.specs.Cases.{unlines, slice}
use Rattle.lowering.specs.Translate.{Translation, translate}
use Rattle.lowering.specs.Open.{open_lowering}

-- the text with the counter that follows, or a refusal
pub data Answer : Type 0 where
  text : (bytes : List ℕ) → (next : ℕ) → Answer
  refusal : (number : ℕ) → Answer

unfoldable pub printed : (next : ℕ) → Printed → (after : List ℕ) → Answer
printed next (Printed.accepted n) after = Answer.text (take n after) next
printed next (Printed.refused e) after = Answer.refusal e

-- the translator's lines go to the printer
unfoldable pub listed : (book names : List ℕ) → (bytes : ℕ) → Translation → (kinds operands : List ℕ) → Answer
listed book names bytes (Translation.accepted n next) kinds operands =
    let p = print book names (take n kinds) (take n operands) (replicate bytes 0) in printed next p.reply p.text
listed book names bytes (Translation.refused e) kinds operands = Answer.refusal e

-- the answer to a book at a counter, with slices of these lengths
unfoldable pub answer_in : (work lines bytes : ℕ) → (book names : List ℕ) → (counter : ℕ) → Answer
answer_in work lines bytes book names counter =
    let t = translate book names counter (replicate work 7) (replicate lines 7) (replicate lines 7) in
    listed book names bytes t.reply t.kinds t.operands

-- a book's entries, its names, and its answer, at counter 0 unless it is said
pub record Sheet : Type 0 where
  pub entries : List (ℕ × ℕ)
  pub names : List String
  pub says : Answer

unfoldable pub answers_at : (counter : ℕ) → Sheet → Answer
answers_at counter s = answer_in 1024 512 8192 (slice s.entries s.names) (unlines s.names) counter

unfoldable pub answers : Sheet → Answer
answers s = answers_at 0 s

abbrev pub says_of : Sheet → Answer
says_of s = s.says

-- opens every definition of this file, for an example that computes
unfoldable pub open_sheet : Unit {0}
unfolding open_lowering unlines slice printed listed answer_in answers_at answers
open_sheet = tt
