-- `gen_arith::gen_bin` meets its contract: both sides, the operation, and the result cut.
use Rattle.book.specs.Ops.{bin_of}
use Rattle.gen_values.specs.Fields.{type_in, width_is}
use Rattle.gen_arith.specs.Arith.{bin_lines}
use Rattle.gen_arith.proofs.gen_bin.Goals as goal

pub need_width-wide-requires : goal.need_width-wide-requires
need_width-wide-requires c =
    type_in c.args.kinds.now c.args.words.now 0 c.requires.fields

pub returns : goal.returns
returns c = λ k maps p f.
    bin_lines k p.0 p.1.0 p.1.1.0 (c.need_width-wide.ensures p.0 (width_is c.args.kinds.now c.args.words.now 0 f)) (bin_of c.args.op)
    c.signed_left-left.ensures c.signed_right-right.ensures c.bin_line.ensures (c.push_sides-both.ensures k maps p f) c.put-done.ensures c.cut.ensures
