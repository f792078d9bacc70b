-- `word_front` meets its contract: no byte of the sum and of the difference reaches into its neighbour, and the zeros in front of the first
-- bit that is set are those of the bytes in front.
use native.Mathlib.Omega.{arith}
use lib.Count.{leading_le}
use Rattle.names_words.proofs.Stops.{copies, stops, low_under, low_room, front_counted}
use Rattle.names_words.proofs.word_front.Goals as goal

pub overflow_sub-stops : goal.overflow_sub-stops
unfolding copies
overflow_sub-stops c = low_under 8 c.args.w

pub overflow_add-stops : goal.overflow_add-stops
unfolding copies
overflow_add-stops c = record { fits = low_room 8 c.args.w }

pub overflow_cast-result : goal.overflow_cast-result
unfolding copies
overflow_cast-result c = record { fits = omega (arith, leading_le 64 (stops 8 c.args.w)) }

pub returns : goal.returns
unfolding copies
returns c = λ bs o l e. front_counted c.args.w bs o l e
