-- `gen_values::sext_bit` meets its contract.
use mathlib.Core.Path.{◌∙◌}
use Rattle.gen_values.specs.Widths as laws
use borrow.Author.Rules.{rules}
use Rattle.gen_values.proofs.sext_bit.Goals as goal

pub returns : goal.returns
returns c =
    laws.bit_puts c.args.to c.bin_line.ensures c.mask_to_width.ensures (search rules) c.bin_line-2.ensures
    c.put-a.ensures c.put-b.ensures c.put-c.ensures c.put.ensures
