-- `gen_arith::cut` meets its contract.
use Prim.Native.Nat.{ℕ, ◌<◌, ◌≤◌}
use mathlib.Core.Path.{◌≡◌}
use mathlib.Core.Bool.{true, false}
use native.Mathlib.Omega.{arith}
use borrow.Author.Tests.{ltb-true, ltb-false}
use lib.Dec.{ltb}
use Rattle.gen_lines.specs.Puts.{skip_puts}
use Rattle.gen_lines.specs.Follow.{when_puts}
use Rattle.gen_arith.proofs.cut.Goals as goal

false_lt : {w n : ℕ} → ltb w n ≡ false → w < n → ⊥
false_lt {w} {n} e l = omega (arith, ltb-false w n e)

true_le : {w n : ℕ} → ltb w n ≡ true → n ≤ w → ⊥
true_le {w} {n} e l = omega (arith, ltb-true w n e)

pub returns-then-width-below : goal.returns-then-width-below
returns-then-width-below c =
    when_puts _ (λ _. c.emit_trunc_to.ensures) (λ e. absurd (false_lt e c.if-width-below.true))

pub returns : goal.returns
returns c =
    when_puts _ (λ e. absurd (true_le e c.if-width-below.false)) (λ _. skip_puts c.args.s c.args.lines.now c.args.operands.now)
