-- The definitions at numbers that are written out. Assumes nothing.
use Rattle.std.specs.Prelude.{◌≡◌, ℕ, ◌+◌, ◌-◌, ◌^◌, true, false, List, [], ◌∷◌, map, replicate, refl}
use Rattle.numbers.specs.Width.{mask_to_width, sign_extend, int_bytes, width_ok}
use Rattle.numbers.specs.Align.{align_up, is_align, exponent_of}
use Rattle.numbers.specs.Wrap.{wrap_add, wrap_sub, wrap_mul}
use Rattle.numbers.specs.Bits.{bit_at, set_bit_at}
use Rattle.numbers.specs.Digits.{decimal}
use Rattle.numbers.specs.Open.{open_numbers}

-- every bit set, at some widths
masks : map (mask_to_width (2 ^ 64 - 1)) (0 ∷ 1 ∷ 8 ∷ 33 ∷ 64 ∷ 65 ∷ []) ≡ 0 ∷ 1 ∷ 255 ∷ (2 ^ 33 - 1) ∷ (2 ^ 64 - 1) ∷ (2 ^ 64 - 1) ∷ []
unfolding open_numbers
masks = refl

-- 129 with a high bit: -1 at 1 bit, -127 at 8, 129 at 9
signs : map (sign_extend (2 ^ 63 + 129)) (0 ∷ 1 ∷ 8 ∷ 9 ∷ 64 ∷ []) ≡ 0 ∷ (2 ^ 64 - 1) ∷ (2 ^ 64 - 127) ∷ 129 ∷ (2 ^ 63 + 129) ∷ []
unfolding open_numbers
signs = refl

bytes : map int_bytes (1 ∷ 8 ∷ 16 ∷ 32 ∷ 64 ∷ 128 ∷ 7 ∷ 9 ∷ 33 ∷ []) ≡ 1 ∷ 1 ∷ 2 ∷ 4 ∷ 8 ∷ 16 ∷ 1 ∷ 2 ∷ 5 ∷ []
bytes = refl

widths : map width_ok (1 ∷ 8 ∷ 16 ∷ 32 ∷ 64 ∷ 0 ∷ 2 ∷ 24 ∷ 128 ∷ []) ≡ true ∷ true ∷ true ∷ true ∷ true ∷ false ∷ false ∷ false ∷ false ∷ []
unfolding open_numbers
widths = refl

rounded : map (align_up 5) (0 ∷ 1 ∷ 2 ∷ 4 ∷ 8 ∷ 4096 ∷ []) ≡ 5 ∷ 5 ∷ 6 ∷ 8 ∷ 8 ∷ 4096 ∷ []
unfolding open_numbers
rounded = refl

aligns : map is_align (1 ∷ 2 ∷ 8 ∷ 4096 ∷ 0 ∷ 3 ∷ 12 ∷ 8192 ∷ []) ≡ true ∷ true ∷ true ∷ true ∷ false ∷ false ∷ false ∷ false ∷ []
unfolding open_numbers
aligns = refl

exponents : map exponent_of (1 ∷ 2 ∷ 4096 ∷ 12 ∷ 0 ∷ []) ≡ 0 ∷ 1 ∷ 12 ∷ 2 ∷ 64 ∷ []
unfolding open_numbers
exponents = refl

wraps : wrap_add 64 (2 ^ 64 - 1) 3 ∷ wrap_sub 64 1 3 ∷ wrap_mul 64 (2 ^ 32 - 1) (2 ^ 63 - 1) ∷ [] ≡ 2 ∷ (2 ^ 64 - 2) ∷ (2 ^ 63 - 2 ^ 32 + 1) ∷ []
wraps = refl

-- the bits 3 and 64 of a map of two words
seen : List ℕ
seen = set_bit_at (set_bit_at (replicate 2 0) 64) 3

words : seen ≡ 8 ∷ 1 ∷ []
unfolding open_numbers seen
words = refl

found : map (bit_at seen) (3 ∷ 64 ∷ 0 ∷ 67 ∷ 131072 ∷ []) ≡ true ∷ true ∷ false ∷ false ∷ false ∷ []
unfolding open_numbers seen
found = refl

digits : map decimal (0 ∷ 9 ∷ 10 ∷ []) ≡ (48 ∷ []) ∷ (57 ∷ []) ∷ (49 ∷ 48 ∷ []) ∷ []
unfolding open_numbers
digits = refl

-- 18446744073709551615
largest : decimal (2 ^ 64 - 1) ≡ map (λ (d : ℕ). 48 + d) (1 ∷ 8 ∷ 4 ∷ 4 ∷ 6 ∷ 7 ∷ 4 ∷ 4 ∷ 0 ∷ 7 ∷ 3 ∷ 7 ∷ 0 ∷ 9 ∷ 5 ∷ 5 ∷ 1 ∷ 6 ∷ 1 ∷ 5 ∷ [])
unfolding open_numbers
largest = refl
