-- `gen_arith::gen_icmp` meets its contract: both sides and the comparison.
use Rattle.book.specs.Ops.{icmp_of}
use Rattle.gen_values.specs.Fields.{type_in, width_is}
use Rattle.gen_arith.specs.Arith.{icmp_lines}
use Rattle.gen_arith.proofs.gen_icmp.Goals as goal

pub need_width-wide-requires : goal.need_width-wide-requires
need_width-wide-requires c =
    type_in c.args.kinds.now c.args.words.now 0 c.requires.fields

pub returns : goal.returns
returns c = λ k maps p f.
    icmp_lines k p.0 p.1.0 p.1.1.0 (c.need_width-wide.ensures p.0 (width_is c.args.kinds.now c.args.words.now 0 f)) (icmp_of c.args.pred)
    c.signed_pred-signed.ensures c.icmp_line.ensures (c.push_sides-both.ensures k maps p f) c.put.ensures
