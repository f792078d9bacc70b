-- UTF-8 as RFC 3629 defines it: the grammar of section 4, by which card 6 of document 02 tells the names, and the encoding of section 3,
-- which confirms it (`Encoding`).
use Rattle.std.specs.Prelude.{ℕ, suc, ◌+◌, ◌/◌, ◌%◌, Bool, true, false, ◌&&◌, ◌||◌, cond, List, [], ◌∷◌, ◌++◌, length, leb}
use Rattle.names.specs.Text.{within}

-- ---- section 4

-- bytes from one to another, both of them among these
pub record Range : Type 0 where
  pub low : ℕ
  pub high : ℕ

unfoldable pub to : ℕ → ℕ → Range
to l h = record { low = l; high = h }

-- UTF8-tail = %x80-BF
unfoldable pub tail : Range
tail = to 0x80 0xBF

-- the ways in which a character is spelled, each a range for every byte, in the grammar's order
unfoldable pub table : List (List Range)
table =
    (to 0x00 0x7F ∷ [])
    ∷ (to 0xC2 0xDF ∷ tail ∷ [])
    ∷ (to 0xE0 0xE0 ∷ to 0xA0 0xBF ∷ tail ∷ [])
    ∷ (to 0xE1 0xEC ∷ tail ∷ tail ∷ [])
    ∷ (to 0xED 0xED ∷ to 0x80 0x9F ∷ tail ∷ [])
    ∷ (to 0xEE 0xEF ∷ tail ∷ tail ∷ [])
    ∷ (to 0xF0 0xF0 ∷ to 0x90 0xBF ∷ tail ∷ tail ∷ [])
    ∷ (to 0xF1 0xF3 ∷ tail ∷ tail ∷ tail ∷ [])
    ∷ (to 0xF4 0xF4 ∷ to 0x80 0x8F ∷ tail ∷ tail ∷ [])
    ∷ []

-- the range has the byte
unfoldable pub has : Range → ℕ → Bool
has r b = within r.low r.high b

-- a way begins with the byte
unfoldable pub opens : List Range → ℕ → Bool
opens [] b = false
opens (r ∷ rs) b = has r b

-- what it has behind its first byte
unfoldable pub others : List Range → List Range
others [] = []
others (r ∷ rs) = rs

-- one of the ways begins with the byte
unfoldable pub begins : List (List Range) → ℕ → Bool
begins [] b = false
begins (w ∷ ws) b = opens w b || begins ws b

-- what that way has behind it
unfoldable pub behind : List (List Range) → ℕ → List Range
behind [] b = []
behind (w ∷ ws) b = cond (opens w b) (others w) (behind ws b)

-- UTF8-octets = *( UTF8-char ), where a character was begun whose other bytes lie in these ranges
unfoldable pub follow : List Range → List ℕ → Bool
follow [] [] = true
follow (r ∷ rs) [] = false
follow [] (b ∷ bs) = begins table b && follow (behind table b) bs
follow (r ∷ rs) (b ∷ bs) = has r b && follow rs bs

-- the bytes are UTF-8
unfoldable pub well_formed : List ℕ → Bool
well_formed bs = follow [] bs

-- a byte of a character behind its first one
unfoldable pub is_tail : ℕ → Bool
is_tail b = has tail b

-- the bytes begin with as many as there are ranges, one of each
unfoldable pub fills : List Range → List ℕ → Bool
fills [] bs = true
fills (r ∷ rs) [] = false
fills (r ∷ rs) (b ∷ bs) = has r b && fills rs bs

-- how many bytes the character has that the bytes begin with; 0 where they begin with none
unfoldable pub char_length : List ℕ → ℕ
char_length [] = 0
char_length (b ∷ bs) = cond (begins table b && fills (behind table b) bs) (suc (length (behind table b))) 0

-- ---- section 3

-- "The definition of UTF-8 prohibits encoding character numbers between U+D800 and U+DFFF": U+0000 to U+D7FF and U+E000 to U+10FFFF
unfoldable pub scalar : ℕ → Bool
scalar c = within 0 0xD7FF c || within 0xE000 0x10FFFF c

-- 10xxxxxx, the lowest six bits
unfoldable pub six : ℕ → ℕ
six x = 0x80 + x % 0x40

-- the octets of a character, by the range of its number
unfoldable pub encode : ℕ → List ℕ
encode c =
    cond (leb c 0x7F) (c ∷ [])
    (cond (leb c 0x7FF) ((0xC0 + c / 0x40) ∷ six c ∷ [])
    (cond (leb c 0xFFFF) ((0xE0 + c / 0x1000) ∷ six (c / 0x40) ∷ six c ∷ [])
    ((0xF0 + c / 0x40000) ∷ six (c / 0x1000) ∷ six (c / 0x40) ∷ six c ∷ [])))

unfoldable pub every_scalar : List ℕ → Bool
every_scalar [] = true
every_scalar (c ∷ cs) = scalar c && every_scalar cs

unfoldable pub encodes : List ℕ → List ℕ
encodes [] = []
encodes (c ∷ cs) = encode c ++ encodes cs

-- opens every definition of this file, for an example that computes
unfoldable pub open_utf8 : Unit {0}
unfolding to tail table has opens others begins behind follow well_formed is_tail fills char_length scalar six encode every_scalar encodes
open_utf8 = tt
