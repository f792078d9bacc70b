-- `gen_lines::store` meets its contract: a place behind the end is not stored to.
use Rattle.std.proofs.Common.{sym}
use Rattle.std.proofs.Math.Seq.{set_out}
use Rattle.gen_lines.proofs.store.Goals as goal

pub returns-else-at-slice : goal.returns-else-at-slice
returns-else-at-slice g c = sym (set_out _ _ _ c.if-at-slice.false)
