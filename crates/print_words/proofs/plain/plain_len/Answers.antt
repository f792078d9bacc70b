-- `plain_len` meets its contract by the parts of the line.
use mathlib.Core.Path.{ap, ◌∙◌}
use native.Mathlib.Omega.{arith}
use lib.ListN.{length}
use Rattle.numbers.specs.Digits.{length_word}
use Rattle.print_words.specs.Words.{word_short}
use Rattle.print_words.specs.Plain.{plain_bare, plain_long}
use borrow.Author.Rules.{rules}
use Rattle.print_words.proofs.plain.plain_len.Goals as goal

pub overflow_add-number : goal.overflow_add-number
overflow_add-number c = omega (arith, c.decimal_len-number.ensures, length_word c.args.x (search rules))

pub overflow_add-result : goal.overflow_add-result
overflow_add-result c =
    omega (
      arith,
      c.decimal_len-number.ensures,
      length_word c.args.x (search rules),
      c.word_len-letters.ensures,
      word_short c.args.kind c.requires.kind_bound,
    )

pub returns-then-kind-ge-ADD_U32 : goal.returns-then-kind-ge-ADD_U32
returns-then-kind-ge-ADD_U32 c = c.word_len-letters.ensures ∙ ap length (plain_bare _ _ c.if-kind-ge-ADD_U32.true)

pub returns-else-kind-ge-ADD_U32 : goal.returns-else-kind-ge-ADD_U32
returns-else-kind-ge-ADD_U32 c =
    omega (arith, c.word_len-letters.ensures, c.decimal_len-number.ensures, plain_long c.args.kind c.args.x c.if-kind-ge-ADD_U32.false)
