-- `layout_memo::scalars::scalar_bytes` meets its contract.
use Rattle.layout_memo.specs.Scalars.{int, ptr}
use Rattle.layout_memo.proofs.scalars.scalar_bytes.Goals as goal

pub returns-in-11 : goal.returns-in-11
returns-in-11 c = int c.in-11.is

pub returns-in-12 : goal.returns-in-12
returns-in-12 c = ptr c.in-12.is
