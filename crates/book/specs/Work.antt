-- The work slice (document 01, "Replies": 8 × names + 64): eight words for each name, and 64 behind them. A word holds its number with
-- 1 added, 0 for none.
use Rattle.std.specs.Prelude.{ℕ, ◌+◌, ◌*◌}

-- the words of all names end here
abbrev pub name_words : ℕ → ℕ
name_words m = 8 * m

-- those of name x: its parameter, its slot, its block, its fixed place, its struct's body, how a global of that name is called, a word
-- of the table of fields, its measurement
abbrev pub param_at : ℕ → ℕ
param_at x = 8 * x

abbrev pub slot_at : ℕ → ℕ
slot_at x = 8 * x + 1

abbrev pub block_at : ℕ → ℕ
block_at x = 8 * x + 2

abbrev pub place_at : ℕ → ℕ
place_at x = 8 * x + 3

abbrev pub body_at : ℕ → ℕ
body_at x = 8 * x + 4

abbrev pub mark_at : ℕ → ℕ
mark_at x = 8 * x + 5

abbrev pub fact_at : ℕ → ℕ
fact_at x = 8 * x + 6

abbrev pub measured_at : ℕ → ℕ
measured_at x = 8 * x + 7

-- one of them by its number
abbrev pub word_at : ℕ → ℕ → ℕ
word_at x j = 8 * x + j
