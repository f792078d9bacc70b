-- An ASCII character is one byte.
use Rattle.std.specs.Prelude.{ℕ, ◌<◌, ◌≡◌, true, List, [], ◌∷◌}
use Rattle.std.proofs.Common.{arith, lt-ltb}
use Rattle.names.proofs.Lead.{lead_behind, lead_begins}
use Rattle.names.specs.Characters.{exactly, is_char}

-- an ASCII character is one byte
pub char_alone : (b : ℕ) (p : List ℕ) → b < 0x80 → is_char (b ∷ p) ≡ exactly [] p
unfolding is_char
char_alone b p h = rw (lead_begins b (omega arith), lead_behind b (omega arith), lt-ltb b 0x80 h, lt-ltb b 0xC2 (omega arith))

pub char_ascii : (b : ℕ) → b < 0x80 → is_char (b ∷ []) ≡ true
unfolding exactly
char_ascii b h = char_alone b [] h
