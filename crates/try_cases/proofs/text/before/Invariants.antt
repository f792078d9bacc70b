-- What is passed and what stands before the byte from there on make the whole.
use Rattle.std.proofs.Common.{◌≡◌, ◌+◌, ◌≤◌, length, drop}
use Rattle.try_cases.specs.Text.{up_to}
use Rattle.try_cases.proofs.text.before.Given as goal

abbrev pub invariant-loop-i : goal.invariant-loop-i
invariant-loop-i l = (l.i ≤ length l.text) × (length (up_to l.wanted l.text) ≡ l.i + length (up_to l.wanted (drop l.i l.text)))
