-- `put_decimal` meets its contract. The loop's invariant: to write the digits of the rest gives the text that is asked for, and `i` is past
-- their place. The measure is the rest. Assumes nothing.
use Rattle.std.proofs.Common.{◌≡◌, ℕ, ◌+◌, ◌≤◌, List, length}
use lib.Seq.{sets}
use Rattle.numbers.specs.Digits.{decimal}
use Rattle.numbers.proofs.digits.put_decimal.Given as goal

-- where a turn begins: the text so far, with the digits of the rest still to be written below i
pub record Writing (n : ℕ) (start : List ℕ) (at : ℕ) (text : List ℕ) (rest i : ℕ) : Type 0 where
  pub place : i ≡ at + length (decimal rest)
  pub room : i ≤ length start
  pub long : length text ≡ length start
  pub same : sets text at (decimal rest) ≡ sets start at (decimal n)

abbrev pub invariant-loop-rest : goal.invariant-loop-rest
invariant-loop-rest l = Writing l.n l.initial.text l.at l.text l.rest l.i

abbrev pub decreases-loop-rest : goal.decreases-loop-rest
decreases-loop-rest l = l.rest
