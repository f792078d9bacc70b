-- `print_known` meets its contract: the passes give the definition.
use native.Mathlib.Omega.{arith}
use lib.ListN.{length-take}
use Rattle.print.specs.Passes.{known_printed}
use Rattle.print.proofs.passes.print_known.Goals as goal

pub slice_bounds-put_twice-end : goal.slice_bounds-put_twice-end
slice_bounds-put_twice-end c =
    omega (arith, length-take c.min-n.result c.args.line_kinds.now, c.min-n.ensures)

pub slice_bounds-put_twice-end-2 : goal.slice_bounds-put_twice-end-2
slice_bounds-put_twice-end-2 c =
    omega (arith, length-take c.min-n.result c.args.operands.now, c.min-n.ensures)

pub put_twice-requires : goal.put_twice-requires
put_twice-requires c =
    let n = c.min-n.result in
    record {
      starts = c.requires.starts;
      named = c.requires.named;
      indexed = c.requires.indexed;
      line_kinds_len = omega (arith, length-take n c.args.line_kinds.now, length-take n c.args.operands.now, c.min-n.ensures);
    }

pub returns : goal.returns
returns c =
    known_printed c.requires.named c.args.kinds.now c.args.words.now c.requires.indexed.book _ c.requires.first_value c.args.line_kinds.now c.args.operands.now _ _ c.min-n.ensures
    c.put_twice.ensures
