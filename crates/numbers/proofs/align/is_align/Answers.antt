-- `is_align` meets its contract: a number has one digit set exactly where it is a power of two. Assumes nothing.
use Rattle.std.proofs.Common.{◌≡◌, ℕ, ◌≤◌, true, eqb, ap, ◌∙◌, arith, rules, eq-eqb, eqb-true}
use lib.Count.{ones, count_trailing_zeros}
use Rattle.std.proofs.lemmas.Bool.{lt-leb}
use Rattle.numbers.specs.Tests.{same_test_lem, fails}
use Rattle.numbers.specs.Power.{ones_power, power_ones, power_below_lem}
use Rattle.numbers.specs.Align.{is_align, align_power, align_bounds, power_align}
use Rattle.numbers.proofs.align.is_align.Goals as goal

one_digit : (a : ℕ) → a ≤ 4096 → ones a ≡ 1 → is_align a ≡ true
one_digit a h e =
    let p = power_ones 13 a (omega arith) e in
    let l = power_below_lem (count_trailing_zeros 13 a) 13 (omega arith) in
    rw p (power_align (count_trailing_zeros 13 a) (omega arith))

digit_one : (a : ℕ) → is_align a ≡ true → ones a ≡ 1
digit_one a e = let r = align_power a e in ap ones r.2 ∙ ones_power r.0

counted : (a : ℕ) → a ≤ 4096 → eqb (ones a) 1 ≡ is_align a
counted a h =
    same_test_lem (eqb (ones a) 1) (is_align a) (λ e. one_digit a h (eqb-true (ones a) 1 e)) (λ e. eq-eqb (ones a) 1 (digit_one a e))

pub returns-then-a-le4096 : goal.returns-then-a-le4096
returns-then-a-le4096 c = counted c.args.a (search rules)

pub returns-else-a-le4096 : goal.returns-else-a-le4096
returns-else-a-le4096 c = lt-leb c.args.a 4096 c.if-a-le4096.false ∙ fails (is_align c.args.a) (λ e. omega (arith, align_bounds c.args.a e))
