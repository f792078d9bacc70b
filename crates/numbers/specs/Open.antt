-- Opens every definition of the crate, for a theorem that computes: `unfolding openNumbers`.
use Rattle.numbers.specs.Width.{mask_to_width, signed_word, sign_extend, width_ok}
use Rattle.numbers.specs.Align.{align_up, power_below, is_align}
use Rattle.numbers.specs.Bits.{digit_at, with_digit, bit_at, set_bit_at}
use Rattle.numbers.specs.Digits.{last_digits, decimal, value_from}
use Rattle.std.specs.Int.Count.{count_trailing_zeros}

unfoldable pub open_numbers : Unit {0}
unfolding mask_to_width signed_word sign_extend width_ok align_up power_below is_align count_trailing_zeros digit_at with_digit bit_at set_bit_at last_digits decimal value_from
open_numbers = tt
