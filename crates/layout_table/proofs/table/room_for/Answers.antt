-- `layout_table::table::room_for` meets its contract by its tests: too many names, too few words, more room than is used.
use native.Mathlib.Omega.{arith}
use Rattle.layout_table.specs.Table as laws
use Rattle.layout_table.proofs.table.room_for.Goals as goal

pub returns-then-names-gt-MOST_ENTRIES : goal.returns-then-names-gt-MOST_ENTRIES
returns-then-names-gt-MOST_ENTRIES c = laws.room_over _ _ c.if-names-gt-MOST_ENTRIES.true

pub returns-then-length-m : goal.returns-then-length-m
returns-then-length-m c = laws.room_short _ _ (omega arith) (omega arith)

pub returns : goal.returns
returns c = laws.room_there _ _ (omega arith) (omega arith) _ (omega arith)
