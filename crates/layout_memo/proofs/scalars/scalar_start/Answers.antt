-- `layout_memo::scalars::scalar_start` meets its contract: bytes that are a power of two are rounded to by its exponent.
use mathlib.Core.Path.{refl}
use borrow.Author.Rules.{rules}
use Rattle.numbers.specs.Align.{align_bounds}
use Rattle.layout_memo.specs.Scalars as laws
use Rattle.layout_memo.proofs.scalars.scalar_start.Goals as goal

pub returns-then-packed : goal.returns-then-packed
returns-then-packed c = laws.start_packed _ c.if-packed.true _ _

pub overflow_sub-result : goal.overflow_sub-result
overflow_sub-result c = let h = align_bounds _ c.requires.0 in search rules

pub overflow_shr-result : goal.overflow_shr-result
overflow_shr-result c = laws.start_shift _ _ c.requires.0 refl

pub overflow_shl-result : goal.overflow_shl-result
overflow_shl-result c = laws.start_shift _ _ c.requires.0 refl

pub returns : goal.returns
returns c = laws.start_rounded _ _ c.requires.0 refl _ c.if-packed.false _ (search rules)
