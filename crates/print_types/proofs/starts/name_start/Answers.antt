use Rattle.std.proofs.Common.{◌≡◌, ◌+◌, ◌-◌, ◌%◌, arith}
use Rattle.print_types.specs.Starts.{stepping_below, stepping_next}
use Rattle.print_types.proofs.starts.name_start.Goals as goal

pub overflow_add-at : goal.overflow_add-at
overflow_add-at c =
    let b = stepping_below c.requires.starts.sound c.loop.invariant c.requires.x_in_bounds (omega arith) _ c.name_end-at.ensures in
    omega arith

pub loop-preserved : goal.loop-preserved
loop-preserved c =
    let one : c.args.x % 8 - c.loop.counter - 1 ≡ c.args.x % 8 - (c.loop.counter + 1) = omega arith in
    rw (← one) (stepping_next c.requires.starts.sound c.loop.invariant c.requires.x_in_bounds (omega arith) _ c.name_end-at.ensures)
