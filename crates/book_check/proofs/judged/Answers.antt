-- `book_check::judged` meets its contract: the tests come in document 01's order.
use mathlib.Core.Path.{◌∙◌, sym}
use borrow.Author.Tests.{le-leb, lt-leb}
use Rattle.book_check.proofs.judged.Goals as goal

pub returns-then-counter-gt-MOST_COUNTER : goal.returns-then-counter-gt-MOST_COUNTER
returns-then-counter-gt-MOST_COUNTER c = sym (rw (c.in_ok-forbidden.ensures.ok_part, lt-leb _ _ c.if-counter-gt-MOST_COUNTER.true))

pub returns-then-not-named : goal.returns-then-not-named
returns-then-not-named c = sym (rw (c.in_ok-forbidden.ensures.ok_part, le-leb _ _ c.if-counter-gt-MOST_COUNTER.false, c.if-not-named.true))

pub returns-then-forbidden : goal.returns-then-forbidden
returns-then-forbidden c =
    sym
    (rw (
      c.in_ok-forbidden.ensures.ok_part,
      le-leb _ _ c.if-counter-gt-MOST_COUNTER.false,
      c.if-not-named.false,
      c.if-forbidden.true,
    ))

pub returns-then-work_fits : goal.returns-then-work_fits
returns-then-work_fits c =
    sym
    (rw (
      c.in_ok-forbidden.ensures.ok_part,
      le-leb _ _ c.if-counter-gt-MOST_COUNTER.false,
      c.if-not-named.false,
      c.if-forbidden.false,
      sym c.work_fits.ensures ∙ c.if-work_fits.true,
    ))

pub returns-else-work_fits : goal.returns-else-work_fits
returns-else-work_fits c =
    sym
    (rw (
      c.in_ok-forbidden.ensures.ok_part,
      le-leb _ _ c.if-counter-gt-MOST_COUNTER.false,
      c.if-not-named.false,
      c.if-forbidden.false,
      sym c.work_fits.ensures ∙ c.if-work_fits.false,
    ))
