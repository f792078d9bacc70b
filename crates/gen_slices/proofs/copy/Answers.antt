use Rattle.std.proofs.Common.{arith}
use Rattle.gen_slices.specs.Copies.{copy_start, copy_long, copy_more, copy_done}
use Rattle.gen_slices.proofs.copy.Goals as goal

pub loop-i-init : goal.loop-i-init
loop-i-init g c = copy_start c.args.many c.args.from.now c.args.to.now

pub loop-i-preserved : goal.loop-i-preserved
loop-i-preserved g c =
    copy_more c.requires.from_reaches c.requires.to_reaches c.loop-i.invariant (omega (arith, c.loop-i-test.true)) c.index-from-i.is

pub shape_of-to : goal.shape_of-to
shape_of-to g c = copy_long c.requires.from_reaches c.requires.to_reaches c.loop-i.invariant

pub returns : goal.returns
returns g c =
    copy_done c.requires.from_reaches c.requires.to_reaches c.loop-i.invariant (omega (arith, c.loop-i-test.false))
