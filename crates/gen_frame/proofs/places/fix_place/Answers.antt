-- `gen_frame::places::fix_place` meets its contract: the place starts where the alignment says, and its end is tested without wrapping.
use Rattle.gen_frame.specs.Fixed as laws
use Rattle.gen_frame.proofs.places.fix_place.Goals as goal

pub returns-then-end-gt-MOST_FRAME : goal.returns-then-end-gt-MOST_FRAME
returns-then-end-gt-MOST_FRAME c =
    laws.fixed_over c.args.align c.args.size c.args.count c.args.f
    c.args.name c.args.work.now
    c.align_up-start.ensures c.saturating_mul.ensures c.saturating_add-end.ensures c.if-end-gt-MOST_FRAME.true

pub returns : goal.returns
returns c =
    laws.fixed_at c.args.align c.args.size c.args.count c.args.f
    c.args.name c.args.work.now
    c.align_up-start.ensures c.saturating_mul.ensures c.saturating_add-end.ensures c.if-end-gt-MOST_FRAME.false
