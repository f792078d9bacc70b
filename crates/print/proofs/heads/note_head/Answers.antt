-- `note_head` meets its contract, by where it leaves the index as it is and where it notes a window.
use native.Mathlib.Omega.{arith}
use Rattle.print.specs.Heads.{noted_other, noted_beyond, noted_kept, noted_set}
use Rattle.print.proofs.heads.note_head.Goals as goal

pub returns-then-kind-ne-FUNCTION : goal.returns-then-kind-ne-FUNCTION
returns-then-kind-ne-FUNCTION c = λ ks ws a n. noted_other a n c.if-kind-ne-FUNCTION.true

pub returns-then-index-name : goal.returns-then-index-name
returns-then-index-name c = λ ks ws a n. noted_beyond a n c.if-index-name.true

pub returns-then-index-name-ne0 : goal.returns-then-index-name-ne0
returns-then-index-name-ne0 c = λ ks ws a n. noted_kept a n c.if-index-name-ne0.true

pub returns : goal.returns
returns c = λ ks ws a n. noted_set a n (omega (arith, c.if-index-name.false)) (omega (arith, c.if-index-name-ne0.false))
