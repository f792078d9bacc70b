-- Worked examples on UTF-8, by computation.
use Rattle.std.specs.Prelude.{ℕ, ◌≡◌, refl, true, false, List, [], ◌∷◌, ◌++◌, map, drop, replicate}
use Rattle.std.proofs.Math.Option.{none, some}
use Rattle.names.specs.Text.{bytes}
use Rattle.names.specs.Utf8.{well_formed, encode, encodes}
use Rattle.names.specs.Name.{names_of, accepted, join}
use Rattle.names.specs.Spelling.{sanitize}
use Rattle.names.specs.Cases.{texts, given, open_cases}

-- the first and the last character of every line of RFC 3629's table, and their numbers
unfoldable corners : List (List ℕ)
corners =
    (0x00 ∷ []) ∷ (0x7F ∷ [])
    ∷ (0xC2 ∷ 0x80 ∷ []) ∷ (0xDF ∷ 0xBF ∷ [])
    ∷ (0xE0 ∷ 0xA0 ∷ 0x80 ∷ []) ∷ (0xE0 ∷ 0xBF ∷ 0xBF ∷ [])
    ∷ (0xE1 ∷ 0x80 ∷ 0x80 ∷ []) ∷ (0xEC ∷ 0xBF ∷ 0xBF ∷ [])
    ∷ (0xED ∷ 0x80 ∷ 0x80 ∷ []) ∷ (0xED ∷ 0x9F ∷ 0xBF ∷ [])
    ∷ (0xEE ∷ 0x80 ∷ 0x80 ∷ []) ∷ (0xEF ∷ 0xBF ∷ 0xBF ∷ [])
    ∷ (0xF0 ∷ 0x90 ∷ 0x80 ∷ 0x80 ∷ []) ∷ (0xF0 ∷ 0xBF ∷ 0xBF ∷ 0xBF ∷ [])
    ∷ (0xF1 ∷ 0x80 ∷ 0x80 ∷ 0x80 ∷ []) ∷ (0xF3 ∷ 0xBF ∷ 0xBF ∷ 0xBF ∷ [])
    ∷ (0xF4 ∷ 0x80 ∷ 0x80 ∷ 0x80 ∷ []) ∷ (0xF4 ∷ 0x8F ∷ 0xBF ∷ 0xBF ∷ [])
    ∷ []

unfoldable corner_numbers : List ℕ
corner_numbers =
    0x0 ∷ 0x7F ∷ 0x80 ∷ 0x7FF ∷ 0x800 ∷ 0xFFF
    ∷ 0x1000 ∷ 0xCFFF ∷ 0xD000 ∷ 0xD7FF ∷ 0xE000 ∷ 0xFFFF
    ∷ 0x10000 ∷ 0x3FFFF ∷ 0x40000 ∷ 0xFFFFF ∷ 0x100000 ∷ 0x10FFFF ∷ []

corners_taken : map well_formed corners ≡ replicate 18 true
unfolding open_cases corners
corners_taken = refl

corners_encoded : map encode corner_numbers ≡ corners
unfolding open_cases corners corner_numbers
corners_encoded = refl

-- all but U+0000 and U+007F are names, and ascend
corners_named : names_of (join (drop 2 corners)) ≡ some (drop 2 corners)
unfolding open_cases corners
corners_named = refl

-- no UTF-8: a character longer than need be; the number of none; a tail behind no first byte; a character cut off
unfoldable broken : List (List ℕ)
broken =
    (0xC0 ∷ 0x80 ∷ []) ∷ (0xC1 ∷ 0xBF ∷ []) ∷ (0xE0 ∷ 0x80 ∷ 0x80 ∷ []) ∷ (0xE0 ∷ 0x9F ∷ 0xBF ∷ []) ∷ (0xF0 ∷ 0x80 ∷ 0x80 ∷ 0x80 ∷ []) ∷ (0xF0 ∷ 0x8F ∷ 0xBF ∷ 0xBF ∷ [])
    ∷ (0xED ∷ 0xA0 ∷ 0x80 ∷ []) ∷ (0xED ∷ 0xBF ∷ 0xBF ∷ []) ∷ (0xF4 ∷ 0x90 ∷ 0x80 ∷ 0x80 ∷ []) ∷ (0xF5 ∷ 0x80 ∷ 0x80 ∷ 0x80 ∷ []) ∷ (0xFF ∷ [])
    ∷ (0x80 ∷ []) ∷ (0xBF ∷ []) ∷ (0xC4 ∷ 0x8D ∷ 0x8D ∷ [])
    ∷ (0xC4 ∷ []) ∷ (0xE2 ∷ 0x82 ∷ []) ∷ (0xF0 ∷ 0x9F ∷ 0x8E ∷ []) ∷ (0xC4 ∷ 0x41 ∷ []) ∷ (0xE2 ∷ 0x82 ∷ 0x41 ∷ [])
    ∷ []

broken_refused : map well_formed broken ≡ replicate 19 false
unfolding open_cases broken
broken_refused = refl

-- nor is any of them a name
broken_unnamed : map (λ n. names_of (join (n ∷ []))) broken ≡ replicate 19 none
unfolding open_cases broken
broken_unnamed = refl

-- the slice ends within a character
cut_slice : names_of (given ("a" ∷ []) ++ (0xC4 ∷ [])) ≡ none
unfolding open_cases
cut_slice = refl

-- a name ends within a character, and the next one has the rest
cut_name : names_of (0xC4 ∷ 10 ∷ 0x8D ∷ 10 ∷ []) ≡ none
unfolding open_cases
cut_name = refl

-- U+0085 is none of "control characters 0 to 31 and 127"
next_line : names_of (0xC2 ∷ 0x85 ∷ 10 ∷ []) ≡ some ((0xC2 ∷ 0x85 ∷ []) ∷ [])
unfolding open_cases
next_line = refl

-- RFC 3629, section 7
unfoldable examples : List (List ℕ)
examples =
    (0x41 ∷ 0xE2 ∷ 0x89 ∷ 0xA2 ∷ 0xCE ∷ 0x91 ∷ 0x2E ∷ [])
    ∷ (0xED ∷ 0x95 ∷ 0x9C ∷ 0xEA ∷ 0xB5 ∷ 0xAD ∷ 0xEC ∷ 0x96 ∷ 0xB4 ∷ [])
    ∷ (0xE6 ∷ 0x97 ∷ 0xA5 ∷ 0xE6 ∷ 0x9C ∷ 0xAC ∷ 0xE8 ∷ 0xAA ∷ 0x9E ∷ [])
    ∷ (0xEF ∷ 0xBB ∷ 0xBF ∷ 0xF0 ∷ 0xA3 ∷ 0x8E ∷ 0xB4 ∷ [])
    ∷ []

unfoldable example_numbers : List (List ℕ)
example_numbers = (0x41 ∷ 0x2262 ∷ 0x391 ∷ 0x2E ∷ []) ∷ (0xD55C ∷ 0xAD6D ∷ 0xC5B4 ∷ []) ∷ (0x65E5 ∷ 0x672C ∷ 0x8A9E ∷ []) ∷ (0xFEFF ∷ 0x233B4 ∷ []) ∷ []

examples_encoded : map encodes example_numbers ≡ examples
unfolding open_cases examples example_numbers
examples_encoded = refl

-- names with letters of Hungarian and Czech, of three bytes and of four
unfoldable foreign : List (List ℕ)
foreign = (bytes "f" ++ (197 ∷ 177 ∷ [])) ∷ (bytes "ko" ++ (196 ∷ 141 ∷ bytes "ka")) ∷ (226 ∷ 130 ∷ 172 ∷ []) ∷ (240 ∷ 159 ∷ 142 ∷ 173 ∷ []) ∷ []

-- quoted, a text is the numbers of its characters
foreign_encoded : map encodes (texts ("fű" ∷ "kočka" ∷ "€" ∷ "🎭" ∷ [])) ≡ foreign
unfolding open_cases foreign
foreign_encoded = refl

foreign_named : names_of (join foreign) ≡ some foreign
unfolding open_cases foreign
foreign_named = refl

foreign_counted : accepted (join foreign) 4 ≡ true
unfolding open_cases foreign
foreign_counted = refl

foreign_miscounted : accepted (join foreign) 5 ≡ false
unfolding open_cases foreign
foreign_miscounted = refl

-- one `_` for each character, not for each byte
foreign_labels : map sanitize foreign ≡ texts ("f_" ∷ "ko_ka" ∷ "_" ∷ "_" ∷ [])
unfolding open_cases foreign
foreign_labels = refl

-- every letter of ASCII comes before
foreign_descending : names_of (join ((196 ∷ 141 ∷ []) ∷ bytes "z" ∷ [])) ≡ none
unfolding open_cases
foreign_descending = refl
