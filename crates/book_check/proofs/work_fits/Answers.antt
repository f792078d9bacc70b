-- `book_check::work_fits` meets its contract: 64 words and eight for each name.
use Rattle.book_check.specs.Verdict as verdict
use Rattle.book_check.proofs.work_fits.Goals as goal

pub returns-then-work-lt64 : goal.returns-then-work-lt64
returns-then-work-lt64 c = verdict.work_short _ _ c.if-work-lt64.true

pub returns : goal.returns
returns c = verdict.work_test _ _ c.if-work-lt64.false
