-- `layout_size::placed` meets its contract.
use Rattle.layout_memo.specs.Helpers as laws
use Rattle.layout_size.proofs.placed.Goals as goal

pub returns-then-packed : goal.returns-then-packed
returns-then-packed c = laws.placed_packed _ _ _ c.if-packed.true

pub returns-else-packed : goal.returns-else-packed
returns-else-packed c = laws.placed_free _ _ _ _ c.if-packed.false c.align_up.ensures
