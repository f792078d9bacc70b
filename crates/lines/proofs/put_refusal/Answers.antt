-- The digits, and then byte 10: a u64 has 20 digits at most.
use borrow.Author.Rules.{rules}
use native.Mathlib.Omega.{arith}
use Rattle.numbers.specs.Digits.{length_word}
use Rattle.lines.proofs.Text.{refusal_put}
use Rattle.lines.proofs.put_refusal.Goals as goal

pub put_decimal-n-requires : goal.put_decimal-n-requires
put_decimal-n-requires c = omega (arith, length_word c.args.number (search rules))

pub bounds-text-n : goal.bounds-text-n
bounds-text-n c = omega (arith, length_word c.args.number (search rules))

pub overflow_add-result : goal.overflow_add-result
overflow_add-result c = record { fits = omega (arith, length_word c.args.number (search rules)) }

pub returns : goal.returns
returns c =
    let put = c.put_decimal-n.ensures in
    refusal_put _ _ _ _ (omega (arith, length_word c.args.number (search rules))) put.0 put.1
