-- Reading a text, a list of bytes: the part before a byte, the number and the token in front.
use Rattle.std.specs.Prelude.{ℕ, ◌+◌, ◌*◌, ◌%◌, ◌^◌, Bool, not, ◌&&◌, List, [], ◌∷◌, length, drop, nat_eq, nat_le, slice_index}
use Rattle.names.specs.Name.{until}
use Rattle.try_cases.specs.declared.text.Number.{Number}
use Rattle.try_cases.specs.declared.text.Token.{Token}

-- the bytes before the first that is `wanted`
unfoldable pub up_to : ℕ → List ℕ → List ℕ
up_to wanted text = until (λ b. nat_eq b wanted) text

abbrev pub is_digit : ℕ → Bool
is_digit b = nat_le 48 b && nat_le b 57

unfoldable pub no_digit : ℕ → Bool
no_digit b = not (is_digit b)

-- the digits in front
unfoldable pub digits : List ℕ → List ℕ
digits text = until no_digit text

-- a number with a digit behind it, modulo 2^64; a digit's value is its byte's low half
abbrev pub with_digit : ℕ → ℕ → ℕ
with_digit v b = (v * 10 % 2 ^ 64 + b % 16) % 2 ^ 64

-- a number with digits behind it
unfoldable pub with_digits : ℕ → List ℕ → ℕ
with_digits v [] = v
with_digits v (b ∷ bs) = with_digits (with_digit v b) bs

-- the number in front, and how many digits it has
unfoldable pub number_in : List ℕ → Number
number_in text = record { value = with_digits 0 (digits text); digits = length (digits text) }

-- the number in front, the byte behind it, the number behind that
unfoldable pub token_in : List ℕ → Token
token_in text =
    let n = length (digits text) in
    record { first = with_digits 0 (digits text); mark = slice_index text n; second = with_digits 0 (digits (drop (n + 1) text)) }
