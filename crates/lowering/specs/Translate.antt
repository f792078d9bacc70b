-- The whole call of the translator: "lent a book, its names, a label counter, a u64 work slice of at least 8 × names + 64, and two line slices". "Accepted:
-- the number of lines and the next counter; lines from index 0, the rest unchanged. Refused: the number, 0 lines, the given counter; line slices unchanged.
-- The work slice is all zero after every call." Order: 1, 2, 3, 4 over the whole book, then the first fault of `gen_function`, then 20.
use Rattle.std.specs.Prelude.{ℕ, min, List, ◌++◌, map, length, drop, replicate, leb}
use Rattle.book.specs.Result.{Result, ok, err, bind as ◌>>=◌, given}
use Rattle.assembly.specs.Number.{kind_of, operand_of}
use Rattle.book.specs.Check.{checked}
use Rattle.lowering.specs.Gen.{Out}
use Rattle.lowering.specs.Context.{codegen_of}
use Rattle.lowering.specs.Function.{gen_functions}

-- ---- what is generated, for a work slice of `workLen` words and room for `room` lines
unfoldable pub generated : (book names : List ℕ) → (counter workLen room : ℕ) → Result Out
generated book names counter workLen room = do
  s ← checked book names counter workLen
  out ← gen_functions (codegen_of s.names s.book) s.book.functions counter
  given (leb (length out.lines) room) 20 out

-- ---- the reply
pub data Translation : Type 0 where
  accepted : (lines next : ℕ) → Translation
  refused : (number : ℕ) → Translation

-- document 01's number, line count and counter of a reply, for the counter that was handed in; 0 is no refusal
unfoldable pub translation_number : Translation → ℕ
translation_number (Translation.accepted n next) = 0
translation_number (Translation.refused e) = e

unfoldable pub translation_lines : Translation → ℕ
translation_lines (Translation.accepted n next) = n
translation_lines (Translation.refused e) = 0

unfoldable pub translation_counter : (counter : ℕ) → Translation → ℕ
translation_counter counter (Translation.accepted n next) = next
translation_counter counter (Translation.refused e) = counter

-- the reply, and the lent slices after the call
pub record Translating : Type 0 where
  pub reply : Translation
  pub work : List ℕ
  pub kinds : List ℕ
  pub operands : List ℕ

-- these values from index 0, the rest as it was
unfoldable pub over : List ℕ → List ℕ → List ℕ
over vs slice = vs ++ drop (length vs) slice

unfoldable pub replied : Result Out → (work kinds operands : List ℕ) → Translating
replied (ok out) work kinds operands =
    record {
      reply = Translation.accepted (length out.lines) out.next;
      work = replicate (length work) 0;
      kinds = over (map kind_of out.lines) kinds;
      operands = over (map operand_of out.lines) operands;
    }
replied (err e) work kinds operands =
    record { reply = Translation.refused e; work = replicate (length work) 0; kinds = kinds; operands = operands }

-- "the shorter line slice counts"
unfoldable pub translate : (book names : List ℕ) → (counter : ℕ) → (work kinds operands : List ℕ) → Translating
translate book names counter work kinds operands =
    replied (generated book names counter (length work) (min (length kinds) (length operands))) work kinds operands

-- opens every definition of this file, for an example that computes
unfoldable pub open_translate : Unit {0}
unfolding generated translation_number translation_lines translation_counter over replied translate
open_translate = tt
