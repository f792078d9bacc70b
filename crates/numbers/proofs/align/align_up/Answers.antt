-- `align_up` meets its contract: where one digit of the align is set, the align is the power of two whose exponent its trailing zeros are.
-- Assumes nothing.
use Rattle.std.proofs.Common.{◌≡◌, ℕ, ◌+◌, ◌-◌, ◌*◌, ◌/◌, ◌%◌, ◌^◌, ◌<◌, ◌≤◌, sym, ap, ◌∙◌, lt_of_le_of_lt, mod-eq_of_lt, div-mul-le_self, rules, refl}
use lib.Count.{ones}
use Rattle.numbers.specs.Power.{power_ones, power_below_lem}
use Rattle.numbers.specs.Align.{align_up, exponent_of, align_small, align_step}
use Rattle.numbers.proofs.align.align_up.Goals as goal

-- the exponent that the code has for a power of two
module _ (a e : ℕ) (f : a < 2 ^ 64) (one : ones a ≡ 1) (is : e ≡ exponent_of a) where
  power : 2 ^ e ≡ a
  power = ap (λ (k : ℕ). 2 ^ k) is ∙ sym (power_ones 64 a f one)

  below : e < 64
  below = power_below_lem e 64 (rw power f)

  rounded : (off : ℕ) → 1 ≤ a → off + (a - 1) < 2 ^ 64 → (off + (a - 1)) / 2 ^ e * 2 ^ e % 2 ^ 64 ≡ align_up off a
  rounded off h g = rw power (mod-eq_of_lt (lt_of_le_of_lt (div-mul-le_self (off + (a - 1)) a) g) ∙ sym (align_step off a h))

pub returns-then-align-le1 : goal.returns-then-align-le1
returns-then-align-le1 c = sym (align_small _ _ (search rules))

pub returns-then-align-eq1 : goal.returns-then-align-eq1
returns-then-align-eq1 c = rounded c.args.align _ (search rules) c.if-align-eq1.true refl c.args.off (search rules) (search rules)

pub returns : goal.returns
returns c = sym (align_step _ _ (search rules))
