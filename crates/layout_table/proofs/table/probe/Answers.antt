use Rattle.layout_table.specs.Table as laws
use Rattle.layout_table.proofs.table.probe.Goals as goal

pub returns-then-work-at-2 : goal.returns-then-work-at-2
returns-then-work-at-2 c =
    laws.probed_at c.args.names c.args.work.now c.args.key c.loop.slot _ _
    c.table_at-at.ensures c.table_at-behind.ensures c.if-work-at-2.true
