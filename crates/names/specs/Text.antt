-- Texts as lists of bytes, and the questions that document 01 asks of a spelling: whether it is a text, starts with one or contains one.
use Rattle.std.specs.Prelude.{ℕ, Bool, true, false, ◌&&◌, ◌||◌, List, [], ◌∷◌, eqb, leb}
use Prim.Native.Char.{code}
use Prim.Native.String.{String, [] as ε, ◌∷◌ as ◌∷ₛ◌}

-- a quoted text as the numbers of its characters: its bytes where these are ASCII, else `encodes` of these are its bytes (`Utf8`)
unfoldable pub bytes : String → List ℕ
bytes ε = []
bytes (c ∷ₛ s) = code c ∷ bytes s

-- a byte that lies from `low` to `high`
unfoldable pub within : ℕ → ℕ → ℕ → Bool
within low high b = leb low b && leb b high

-- the two texts are equal
unfoldable pub same : List ℕ → List ℕ → Bool
same [] [] = true
same [] (y ∷ ys) = false
same (x ∷ xs) [] = false
same (x ∷ xs) (y ∷ ys) = eqb x y && same xs ys

-- `starts p s`: s begins with p
unfoldable pub starts : List ℕ → List ℕ → Bool
starts [] s = true
starts (x ∷ xs) [] = false
starts (x ∷ xs) (y ∷ ys) = eqb x y && starts xs ys

-- `contains p s`: p stands somewhere in s
unfoldable pub contains : List ℕ → List ℕ → Bool
contains p [] = starts p []
contains p (y ∷ ys) = starts p (y ∷ ys) || contains p ys

-- opens every definition of this file, for an example that computes
unfoldable pub open_text : Unit {0}
unfolding bytes within same starts contains
open_text = tt
