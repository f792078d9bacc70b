-- `note_start` meets its contract: a store behind the slice would change nothing.
use mathlib.Core.Path.{sym}
use borrow.Author.Rules.{rules}
use borrow.Author.Tests.{lt-ltb, le-ltb}
use lib.Seq.{set_out}
use Rattle.names_check.proofs.note_start.Goals as goal

pub returns-then-place-nexts : goal.returns-then-place-nexts
returns-then-place-nexts c = record {
  nexts_after = search rules;
  value = rw (lt-ltb _ _ c.if-place-nexts.true);
}

pub returns : goal.returns
returns c = record {
  nexts_after = sym (set_out _ _ _ c.if-place-nexts.false);
  value = rw (le-ltb _ _ c.if-place-nexts.false);
}
