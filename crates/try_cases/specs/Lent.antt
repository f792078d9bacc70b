-- What is put into the slices that are lent.
use Rattle.std.specs.Prelude.{ℕ, ◌+◌, Bool, cond, List, length, ◌==◌, nat_le}
use Rattle.std.proofs.Math.Seq.{paste}

-- there is room for words in a slice from a place on
abbrev pub room : List ℕ → List ℕ → ℕ → Bool
room from to at = nat_le (at + length from) (length to)

-- the place behind them
unfoldable pub put_end : List ℕ → List ℕ → ℕ → ℕ
put_end from to at = cond (room from to at) (at + length from) at

-- the slice with them in it, in place of as many
unfoldable pub put_words : List ℕ → List ℕ → ℕ → List ℕ
put_words from to at = cond (room from to at) (paste to at from (length from)) to

-- a byte of names as the input has them: 10 for |
unfoldable pub name_byte : ℕ → ℕ
name_byte b = cond (b == 124) 10 b
