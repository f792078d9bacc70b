-- `layout_table::table::store` meets its contract.
use mathlib.Core.Path.{refl}
use mathlib.Core.Logic.{inl}
use Rattle.layout_table.specs.Table as laws
use Rattle.layout_table.proofs.table.store.Goals as goal

pub returns-then-behind-work : goal.returns-then-behind-work
returns-then-behind-work c =
    laws.store_both c.args.names c.args.work.now c.args.slot _ _ c.args.key c.args.value
    c.table_at-at.ensures c.table_at-behind.ensures c.if-at-work.true c.if-behind-work.true

pub returns-else-behind-work : goal.returns-else-behind-work
returns-else-behind-work c = inl refl

pub returns-else-at-work : goal.returns-else-at-work
returns-else-at-work c = inl refl
