-- The words read so far stand at the front of the book.
use Prim.Native.Nat.{◌≤◌}
use mathlib.Core.Path.{◌≡◌}
use lib.ListN.{length, take}
use Rattle.lines.specs.Shown.{words}
use Rattle.lines.proofs.read_words.Given as goal

abbrev pub invariant-loop-i : goal.invariant-loop-i
invariant-loop-i l = (l.i ≤ l.count) × (length l.book ≡ length l.initial.book) × (take l.i l.book ≡ words l.i l.input)
