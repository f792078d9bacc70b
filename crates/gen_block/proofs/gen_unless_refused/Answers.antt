-- `gen_block::gen_unless_refused` meets its contract: behind a refusal nothing need be done.
use Rattle.gen_lines.specs.Puts.{refused_puts}
use Rattle.gen_block.proofs.gen_unless_refused.Goals as goal

pub returns-then-s-ne0 : goal.returns-then-s-ne0
returns-then-s-ne0 c κ i a e k = record { puts = refused_puts _ _ c.if-s-ne0.true; maps = k }
