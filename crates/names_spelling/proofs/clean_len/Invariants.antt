-- `clean_len` meets its contract: what is counted and what is spelled of the rest are the whole.
use Prim.Native.Nat.{◌+◌}
use mathlib.Core.Path.{◌≡◌}
use lib.ListN.{length, drop}
use Rattle.names.specs.Spelling.{sanitize}
use Rattle.names_spelling.proofs.clean_len.Given as goal

abbrev pub invariant-loop-b : goal.invariant-loop-b
invariant-loop-b l = l.n + length (sanitize (drop l.b-index l.name)) ≡ length (sanitize l.name)
