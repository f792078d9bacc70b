-- `gen_frame::acts` meets its contract.
use mathlib.Core.Path.{refl}
use native.Mathlib.Omega.{arith}
use borrow.Author.Tests.{eqb-true, not-false}
use Rattle.gen_frame.specs.Frames.{never}
use Rattle.gen_frame.proofs.acts.Goals as goal

pub returns-then-kind-lt-ADD : goal.returns-then-kind-lt-ADD
returns-then-kind-lt-ADD c = record { does = λ e. never e refl; idle = λ e l h. absurd (omega arith) }

pub returns-then-kind-ge-RET : goal.returns-then-kind-ge-RET
returns-then-kind-ge-RET c = record { does = λ e. never e refl; idle = λ e l h. absurd (omega arith) }

pub returns-then-kind-eq-ALLOCA : goal.returns-then-kind-eq-ALLOCA
returns-then-kind-eq-ALLOCA c = record { does = λ e. (omega arith, omega arith); idle = λ e. never refl e }

pub returns : goal.returns
returns c = record { does = λ e. (omega arith, omega arith); idle = λ e l h. (eqb-true _ 0 (not-false _ e), c.if-kind-eq-ALLOCA.false) }
