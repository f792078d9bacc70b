-- What is copied so far are that many bytes in front, `|` turned into 10.
use Rattle.std.proofs.Common.{◌≡◌, ◌-◌, ◌≤◌, ◌++◌, map, length, take, drop}
use Rattle.try_cases.specs.Lent.{name_byte}
use Rattle.try_cases.proofs.lent.copy_names.Given as goal

abbrev pub invariant-loop-i : goal.invariant-loop-i
invariant-loop-i l = (l.i ≤ l.i-end) × (l.i-end ≡ length l.from) × (length l.to ≡ length l.initial.to) × (l.to ≡ take l.i (map name_byte l.from) ++ drop l.i l.initial.to)

abbrev pub decreases-loop-i : goal.decreases-loop-i
decreases-loop-i l = l.i-end - l.i
