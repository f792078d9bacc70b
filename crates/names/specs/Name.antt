-- Names, after document 01, "The book": "Names are bytes: each 1 or more [..], ended by byte 10, strictly ascending bytewise; a name's
-- number is its position from 0", and card 6 of document 02: "Names become well-formed UTF-8 as RFC 3629 defines it, still without control
-- characters 0 to 31 and 127, still ascending bytewise."
use Rattle.std.specs.Prelude.{ℕ, zero, suc, ◌+◌, Bool, true, false, ◌&&◌, ◌||◌, not, List, [], ◌∷◌, ◌++◌, length, get_or, drop, eqb, ltb}
use Rattle.std.proofs.Math.Option.{Option, none, some}
use Rattle.names.specs.Text.{within}
use Rattle.names.specs.Utf8.{well_formed, open_utf8}

-- a byte that is a character of a name by itself
unfoldable pub plain_byte : ℕ → Bool
plain_byte b = within 32 126 b

-- a byte that may stand in a name: "without control characters 0 to 31 and 127"
unfoldable pub name_byte : ℕ → Bool
name_byte b = plain_byte b || within 128 255 b

-- the byte that ends a name
unfoldable pub is_end : ℕ → Bool
is_end b = eqb b 10

-- every byte may stand in a name
unfoldable pub every_byte : List ℕ → Bool
every_byte [] = true
every_byte (b ∷ bs) = name_byte b && every_byte bs

-- "1 or more"
unfoldable pub filled : List ℕ → Bool
filled [] = false
filled (b ∷ bs) = true

-- "well-formed UTF-8 [..] without control characters"
unfoldable pub spelled : List ℕ → Bool
spelled n = every_byte n && well_formed n

-- a name by these rules
unfoldable pub allowed : List ℕ → Bool
allowed n = filled n && spelled n

-- every name is allowed
unfoldable pub every_name : List (List ℕ) → Bool
every_name [] = true
every_name (n ∷ ns) = allowed n && every_name ns

-- `before m n`: m comes strictly before n bytewise; a text comes before every longer one that it begins
unfoldable pub before : List ℕ → List ℕ → Bool
before m [] = false
before [] (y ∷ ys) = true
before (x ∷ xs) (y ∷ ys) = ltb x y || (eqb x y && before xs ys)

-- the names ascend strictly, the first of them after `last`
unfoldable pub ascending_from : List ℕ → List (List ℕ) → Bool
ascending_from last [] = true
ascending_from last (n ∷ ns) = before last n && ascending_from n ns

-- "strictly ascending bytewise"
unfoldable pub ascending : List (List ℕ) → Bool
ascending [] = true
ascending (n ∷ ns) = ascending_from n ns

-- a byte in front of lines: the end of an empty one, or the first byte of the first one
unfoldable pub cut : Bool → ℕ → List (List ℕ) → List (List ℕ)
cut true b ns = [] ∷ ns
cut false b [] = (b ∷ []) ∷ []
cut false b (n ∷ ns) = (b ∷ n) ∷ ns

-- the bytes cut at each byte 10; bytes after the last 10 are one more line
unfoldable pub lines : List ℕ → List (List ℕ)
lines [] = []
lines (b ∷ bs) = cut (is_end b) b (lines bs)

-- the last byte, or d where there is none
unfoldable pub last_or : ℕ → List ℕ → ℕ
last_or d [] = d
last_or d (b ∷ bs) = last_or b bs

-- "ended by byte 10": no byte stands after the last 10
unfoldable pub ended : List ℕ → Bool
ended bs = eqb (last_or 10 bs) 10

-- the bytes follow every rule of the sentence
unfoldable pub sound : List ℕ → Bool
sound bs = ended bs && (every_name (lines bs) && ascending (lines bs))

-- the list where the test passes
unfoldable pub keep : Bool → List (List ℕ) → Option (List (List ℕ))
keep true ns = some ns
keep false ns = none

-- the names that the bytes are, or none where they break the rules
unfoldable pub names_of : List ℕ → Option (List (List ℕ))
names_of bs = keep (sound bs) (lines bs)

-- there are names, and m of them
unfoldable pub counts : ℕ → Option (List (List ℕ)) → Bool
counts m none = false
counts m (some ns) = eqb (length ns) m

-- refusal 2 is given exactly where this fails: the bytes are names, and as many as the book says
unfoldable pub accepted : List ℕ → ℕ → Bool
accepted bs m = counts m (names_of bs)

-- the bytes of a list of names: each is ended by byte 10
unfoldable pub join : List (List ℕ) → List ℕ
join [] = []
join (n ∷ ns) = n ++ (10 ∷ join ns)

-- "a name's number is its position from 0"
unfoldable pub name_at : List (List ℕ) → ℕ → List ℕ
name_at ns i = get_or ns i []

-- where the name numbered i begins in the bytes
unfoldable pub start_of : List (List ℕ) → ℕ → ℕ
start_of ns zero = 0
start_of [] (suc i) = 0
start_of (n ∷ ns) (suc i) = length n + 1 + start_of ns i

-- nothing where the byte stops, else the byte and what follows
unfoldable pub up_to : Bool → ℕ → List ℕ → List ℕ
up_to true b r = []
up_to false b r = b ∷ r

-- the bytes in front of the first that stops
unfoldable pub until : (ℕ → Bool) → List ℕ → List ℕ
until stops [] = []
until stops (b ∷ bs) = up_to (stops b) b (until stops bs)

-- the bytes in front of the first 10
unfoldable pub line : List ℕ → List ℕ
line bs = until is_end bs

-- a byte that is no character of a name by itself
unfoldable pub special : ℕ → Bool
special b = not (plain_byte b)

-- the bytes in front of the first such
unfoldable pub front : List ℕ → List ℕ
front bs = until special bs

-- the bytes from the place `at` up to the next 10 or the end
unfoldable pub name_from : List ℕ → ℕ → List ℕ
name_from bs at = line (drop at bs)

-- opens every definition of this file, for an example that computes
unfoldable pub open_name : Unit {0}
unfolding open_utf8 plain_byte name_byte is_end every_byte filled spelled allowed every_name before ascending_from ascending cut lines last_or ended sound keep names_of counts accepted join name_at start_of up_to until line special front name_from
open_name = tt
