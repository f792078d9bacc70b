-- `name_of` meets its contract: from its start the name stands up to its end, or up to the byte before the next one's start.
use native.Mathlib.Omega.{arith}
use Rattle.print_types.specs.Starts.{between, end_below, name_bytes}
use borrow.Author.Rules.{rules}
use Rattle.print_types.proofs.starts.name_of.Goals as goal

pub overflow_sub-to : goal.overflow_sub-to
overflow_sub-to c =
    omega (arith, (between _ c.requires.starts c.if-every.true c.requires.x_in_bounds).order)

pub slice_bounds-result-count : goal.slice_bounds-result-count
slice_bounds-result-count c =
    omega (arith, (between _ c.requires.starts c.if-every.true c.requires.x_in_bounds).order)

pub slice_bounds-result-start : goal.slice_bounds-result-start
slice_bounds-result-start c =
    omega (arith, (between _ c.requires.starts c.if-every.true c.requires.x_in_bounds).order)

pub slice_bounds-result-end : goal.slice_bounds-result-end
slice_bounds-result-end c =
    omega (arith, (between _ c.requires.starts c.if-every.true c.requires.x_in_bounds).inside)

pub returns-then-every : goal.returns-then-every
returns-then-every c =
    (between _ c.requires.starts c.if-every.true c.requires.x_in_bounds).spelled

pub slice_bounds-result-end-2 : goal.slice_bounds-result-end-2
slice_bounds-result-end-2 c =
    let e = end_below _ c.requires.starts.sound _ _ _ c.requires.x_in_bounds c.name_start-at.ensures c.name_end-end.ensures in
    search rules

pub returns : goal.returns
returns c =
    name_bytes _ c.requires.starts.sound _ _ _ c.requires.x_in_bounds c.name_start-at.ensures c.name_end-end.ensures
