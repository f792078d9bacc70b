-- `gen_values::push_int` meets its contract.
use native.Mathlib.Omega.{arith}
use Rattle.gen_values.specs.Push as laws
use Rattle.gen_values.proofs.push_int.Goals as goal

pub returns : goal.returns
returns c =
    laws.int_puts c.args.value c.args.width c.mask_to_width.ensures (omega arith) c.put.ensures
