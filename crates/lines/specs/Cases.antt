-- What is shown for the sheet of `add1`, and for its input or the slices cut short.
use Rattle.std.specs.Prelude.{ℕ, ◌-◌, ◌≡◌, refl, List, [], ◌∷◌, ◌++◌, take, replicate}
use Prim.Native.String.{String}
use Rattle.numbers.specs.Open.{open_numbers}
use Rattle.assembly.specs.Printer.{Printed, Printing}
use Rattle.assembly.specs.Cases.{unlines, slice}
use Rattle.lowering.specs.Open.{open_lowering}
use Rattle.lines.specs.Shown.{answered, said, open_shown}

-- words below 256 as bytes
unfoldable pub bytes_of : List ℕ → List ℕ
bytes_of [] = []
bytes_of (w ∷ ws) = w ∷ 0 ∷ 0 ∷ 0 ∷ 0 ∷ 0 ∷ 0 ∷ 0 ∷ bytes_of ws

unfoldable pub names : List String
names = "a" ∷ "add1" ∷ "entry" ∷ "r" ∷ []

unfoldable pub input : List ℕ
input =
    bytes_of (slice
    ((5, 1) ∷ (11, 32) ∷ (6, 1) ∷ (11, 32) ∷ (0, 0) ∷ (7, 2) ∷ (40, 4) ∷ (11, 32) ∷ (30, 0) ∷ (32, 1) ∷ (90, 0) ∷ (11, 32) ∷ (30, 3) ∷ (0, 0) ∷ (0, 0) ∷ []) names)
    ++ unlines names

unfoldable pub their_text : List ℕ
their_text =
    unlines (
    "# i32 @add1(1 params)" ∷ "add1:" ∷ "push_0n 1;" ∷ "add1__entry:" ∷ "get_arg 0;" ∷ "push 1;" ∷ "add_u32;" ∷ "set_local 0;" ∷ "get_local 0;" ∷ "ret;"
    ∷ "" ∷ [])

-- the answer to so many bytes of the input, with room for so many lines and so many bytes of text
unfoldable pub cut : (bytes lines text : ℕ) → Printing
cut bytes lines text = answered (take bytes input) (replicate lines 7) (replicate lines 7) (replicate text 33)

pub add1_shown : cut 271 11 113 ≡ record { reply = Printed.accepted 112; text = their_text ++ (33 ∷ []) }
unfolding open_lowering open_shown unlines slice bytes_of names input their_text cut
add1_shown = refl

-- inside the book, at its end, where no names are left, inside a name, a line short, a byte short
pub cuts_shown : ((cut 0 11 112).reply ≡ Printed.refused 1) × ((cut 255 11 112).reply ≡ Printed.refused 1) × ((cut 256 11 112).reply ≡ Printed.refused 2)
    × ((cut 270 11 112).reply ≡ Printed.refused 2) × ((cut 271 10 112).reply ≡ Printed.refused 20) × ((cut 271 11 111).reply ≡ Printed.refused 20)
unfolding open_lowering open_shown unlines slice bytes_of names input their_text cut
cuts_shown = (refl, refl, refl, refl, refl, refl)

-- line slices that are longer than the lines, and each of another length
pub longer_slices : answered input (replicate 12 7) (replicate 15 7) (replicate 112 33) ≡ record { reply = Printed.accepted 112; text = their_text }
unfolding open_lowering open_shown unlines slice bytes_of names input their_text
longer_slices = refl

-- what is written of these: the text, and numbers of one and of two digits, each with byte 10
pub bytes_written : (said (cut 271 12 120) ≡ their_text) × (said (cut 270 11 112) ≡ 50 ∷ 10 ∷ []) × (said (cut 271 10 112) ≡ 50 ∷ 48 ∷ 10 ∷ [])
unfolding open_numbers open_lowering open_shown unlines slice bytes_of names input their_text cut
bytes_written = (refl, refl, refl)

-- as many bytes as are taken, and one more: behind the book of `add1` stand bytes that are no names
unfoldable pub filled : (bytes : ℕ) → List ℕ
filled bytes = take 256 input ++ replicate (bytes - 256) 0

pub longest_shown : ((answered (filled 65536) [] [] []).reply ≡ Printed.refused 2) × ((answered (filled 65537) [] [] []).reply ≡ Printed.refused 1)
unfolding open_lowering open_shown unlines slice bytes_of names input filled
longest_shown = (refl, refl)
