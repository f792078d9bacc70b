-- `layout_size::add_field` meets its contract.
use native.Mathlib.Omega.{arith}
use Rattle.layout_size.specs.Sums.{placed_most}
use Rattle.layout_size.proofs.add_field.Goals as goal

pub overflow_add-result : goal.overflow_add-result
overflow_add-result c = omega (arith, c.placed.ensures, placed_most c.args.packed c.args.sum.offset c.args.align.bytes c.requires.1.0)
