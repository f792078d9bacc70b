-- `mask_to_width` meets its contract: a mask of as many ones as the width says is a remainder by that power of two. Assumes nothing.
use Rattle.std.proofs.Common.{◌≡◌, ℕ, ◌-◌, ◌*◌, ◌%◌, ◌^◌, ◌<◌, sym, ◌∙◌, arith, rules}
use lib.Bits.{bit_and, and_mask}
use Rattle.numbers.specs.Width.{mask_to_width, mask_low, mask_word}
use Rattle.numbers.proofs.Shift.{one_shifted, one_below}
use Rattle.numbers.proofs.width.mask_to_width.Goals as goal

mask_ones : (v w : ℕ) → w < 64 → bit_and v (1 * 2 ^ w % 2 ^ 64 - 1) ≡ mask_to_width v w
mask_ones v w h = rw (one_shifted w h) (and_mask v w ∙ sym (mask_low v w (omega arith)))

pub overflow_sub-result : goal.overflow_sub-result
overflow_sub-result c = one_below c.args.width (search rules)

pub returns-then-width-ge64 : goal.returns-then-width-ge64
returns-then-width-ge64 c = sym (mask_word c.args.v c.args.width (search rules) (search rules))

pub returns-else-width-ge64 : goal.returns-else-width-ge64
returns-else-width-ge64 c = mask_ones c.args.v c.args.width (search rules)
