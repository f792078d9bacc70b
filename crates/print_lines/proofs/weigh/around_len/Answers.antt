-- `around_len` meets its contract, one part after the other.
use Prim.Native.Nat.{◌+◌, ◌<◌}
use mathlib.Core.Bool.{◌&&◌}
use native.Mathlib.Omega.{arith}
use lib.Dec.{eqb, leb}
use Rattle.numbers.specs.Digits.{length_word}
use Rattle.print_words.specs.Words.{word_short}
use Rattle.print_lines.specs.Named.{around, pick_most}
use borrow.Author.Rules.{rules}
use Rattle.print_lines.proofs.weigh.around_len.Goals.{After-pick-args}
use Rattle.print_lines.proofs.weigh.around_len.Goals as goal

pub overflow_add-digits : goal.overflow_add-digits
overflow_add-digits c = omega (arith, c.decimal_len-digits.ensures, length_word c.pick.result (search rules))

-- the parts are short
small : (c : After-pick-args) → c.word_len-word.result + c.pick-block.result + c.pick-args.result + 2 < 18446744073709551616
small c =
    let short = word_short c.args.kind c.requires.kind_bound in
    let most = pick_most (leb 2 c.args.kind && leb c.args.kind 3) (c.args.label + 2) in
    let few = pick_most (eqb c.args.kind 5) (c.decimal_len-digits.result + 2) in
    let digits = length_word c.pick.result (search rules) in
    omega (
      arith,
      c.word_len-word.ensures,
      short,
      c.pick-block.ensures,
      most,
      c.pick-args.ensures,
      few,
      digits,
      c.decimal_len-digits.ensures,
      c.requires.label_bound,
    )

pub overflow_add-result : goal.overflow_add-result
overflow_add-result c = omega (arith, small (goal.at.overflow_add-result c).After-pick-args)

pub overflow_add-result-2 : goal.overflow_add-result-2
overflow_add-result-2 c = omega (arith, small (goal.at.overflow_add-result-2 c).After-pick-args)

pub overflow_add-result-3 : goal.overflow_add-result-3
overflow_add-result-3 c = omega (arith, small (goal.at.overflow_add-result-3 c).After-pick-args)

pub returns : goal.returns
unfolding around
returns c =
    rw (
      c.word_len-word.ensures,
      c.pick-block.ensures,
      c.pick-args.ensures,
      c.decimal_len-digits.ensures,
      c.pick.ensures,
    )
