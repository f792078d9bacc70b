-- `sign_extend` meets its contract: the low bits below half stand for themselves, and the others have every bit above them set. Assumes nothing.
use Rattle.std.proofs.Common.{◌≡◌, ℕ, ◌+◌, ◌-◌, ◌*◌, ◌%◌, ◌^◌, ◌<◌, ◌≤◌, sym, ◌∙◌, arith, pow_pos, rules}
use lib.Pow.{pow-lt}
use Rattle.numbers.specs.Width.{mask_to_width, sign_extend, sign_none, sign_word, sign_plus, sign_minus, sign_lt}
use Rattle.numbers.proofs.Shift.{one_shifted, one_below}
use Rattle.numbers.proofs.width.sign_extend.Goals as goal

-- the bits above w, all set
above : (w : ℕ) → w < 64 → 18446744073709551615 - (1 * 2 ^ w % 2 ^ 64 - 1) ≡ 2 ^ 64 - 2 ^ w
above w h = rw (one_shifted w h) (omega (arith, pow_pos w, pow-lt h))

module _ (v w low : ℕ) (h : w < 64) (e : low ≡ mask_to_width v w) where
  plus : low < 1 * 2 ^ (w - 1) % 2 ^ 64 → low ≡ sign_extend v w
  plus f = e ∙ sym (sign_plus v w (omega arith) (rw (one_shifted (w - 1) (omega arith), e) at f))

  minus : 1 * 2 ^ (w - 1) % 2 ^ 64 ≤ low → low + (18446744073709551615 - (1 * 2 ^ w % 2 ^ 64 - 1)) ≡ sign_extend v w
  minus f = rw (above w h, e) (sym (sign_minus v w (omega arith) (rw (one_shifted (w - 1) (omega arith), e) at f)))

pub returns-then-width-eq0 : goal.returns-then-width-eq0
returns-then-width-eq0 c = rw c.if-width-eq0.true (sym (sign_none c.args.v))

pub returns-then-width-ge64 : goal.returns-then-width-ge64
returns-then-width-ge64 c = sym (sign_word c.args.v c.args.width (search rules) (search rules))

pub overflow_sub-result : goal.overflow_sub-result
overflow_sub-result c = one_below c.args.width (search rules)

pub overflow_add-result : goal.overflow_add-result
overflow_add-result c =
    let s = c.args in
    record { fits = rw (minus s.v s.width c.mask_to_width-low.result (search rules) c.mask_to_width-low.ensures c.if-low-width.false) (sign_lt s.v s.width (search rules)) }

pub returns-then-low-width : goal.returns-then-low-width
returns-then-low-width c = plus _ _ _ (search rules) c.mask_to_width-low.ensures c.if-low-width.true

pub returns-else-low-width : goal.returns-else-low-width
returns-else-low-width c = minus _ _ _ (search rules) c.mask_to_width-low.ensures c.if-low-width.false
