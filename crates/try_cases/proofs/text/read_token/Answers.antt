-- The number in front, the byte behind it and the number behind that make the token.
use Rattle.std.proofs.Common.{◌+◌, ap, ◌∙◌}
use Rattle.try_cases.specs.Text.{number_in}
use Rattle.try_cases.proofs.Reading.{token_short, token_parts, to_end}
use Rattle.try_cases.proofs.text.read_token.Goals as goal

pub returns-then-word-n : goal.returns-then-word-n
returns-then-word-n c = token_short _ c.read_number-first.result c.read_number-first.ensures c.if-word-n.true

pub returns : goal.returns
returns c =
    token_parts _ c.read_number-first.result c.read_number-second.result c.read_number-first.ensures
    (c.read_number-second.ensures ∙ ap number_in (to_end c.args.word.now (c.read_number-first.result.digits + 1)))
