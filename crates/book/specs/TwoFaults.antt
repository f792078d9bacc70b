-- Refusals 1 to 4: the two counts before the entries, which of two faults is met first, and everything that is a 3. The number is the refusal's, 0 for a sound
-- book.
use Rattle.std.specs.Prelude.{ℕ, ◌+◌, ◌^◌, ◌≡◌, refl, true, false, List, [], ◌∷◌, ◌++◌, map}
use Rattle.names.specs.Text.{bytes}
use Rattle.names.specs.Name.{join}
use Rattle.book.specs.Input.{entries_fit, names_fit}
use Rattle.book.specs.Check.{checked, refusal_of}
use Rattle.book.specs.AtLimits.{Entries, lent, four_names, insts, in_block, bare, end, open_here}

-- ---- lengths: the entry count, the name count
pub counts_hold : (map entries_fit (0 ∷ 1048576 ∷ 1048577 ∷ []) ≡ true ∷ true ∷ false ∷ []) × (map names_fit (0 ∷ 131072 ∷ 131073 ∷ []) ≡ true ∷ true ∷ false ∷ [])
counts_hold = (refl, refl)

-- of the function alone, with these two counts before its kinds and words; a name count that the names don't match is a 2, one above 131,072 a 1
unfoldable pub counted : ℕ × ℕ → ℕ
counted c = refusal_of (checked (c.0 ∷ c.1 ∷ 5 ∷ 10 ∷ 0 ∷ 0 ∷ 0 ∷ 1 ∷ 0 ∷ 0 ∷ 0 ∷ 0 ∷ []) four_names 0 1048704)

pub lengths_hold :
    map counted ((5, 4) ∷ (4, 4) ∷ (6, 4) ∷ (0, 4) ∷ (1048576, 4) ∷ (1048577, 4) ∷ (5, 3) ∷ (5, 5) ∷ (5, 1) ∷ (5, 131072) ∷ (5, 131073) ∷ [])
    ≡ 0 ∷ 1 ∷ 1 ∷ 1 ∷ 1 ∷ 1 ∷ 2 ∷ 2 ∷ 1 ∷ 2 ∷ 1 ∷ []
unfolding open_here counted
lengths_hold = refl

-- ---- "1, 2, 3, 4 over the whole book": of two faults the lower number. A book with a call of `@llvm.a`, or one without, or one that is no book; names, counter, work
unfoldable pub calling : Entries
calling = (5, 1) ∷ (10, 0) ∷ (0, 0) ∷ (7, 0) ∷ (76, 0) ∷ (10, 0) ∷ (31, 2) ∷ (0, 0) ∷ (93, 0) ∷ (0, 0) ∷ (0, 0) ∷ []

abbrev right_names : List ℕ
right_names = join (bytes "e" ∷ bytes "f" ∷ bytes "llvm.a" ∷ bytes "q" ∷ [])

abbrev wrong_names : List ℕ
wrong_names = join (bytes "e" ∷ bytes "f" ∷ bytes "llvm.a" ∷ bytes "llvm.a" ∷ [])

unfoldable pub twice : Entries → List ℕ → (counter work : ℕ) → ℕ
twice es names counter work = refusal_of (checked (lent es 4) names counter work)

pub first_holds :
    twice calling right_names 0 96 ∷ twice end right_names 0 96 ∷ twice end right_names 0 95 ∷ twice end wrong_names 0 96 ∷ twice end right_names (2 ^ 32) 96
    ∷ twice end right_names (2 ^ 32 + 1) 96
    ∷ twice calling right_names (2 ^ 32 + 1) 96 ∷ twice end wrong_names (2 ^ 32 + 1) 96 ∷ twice end right_names (2 ^ 32 + 1) 95
    ∷ twice calling wrong_names 0 96 ∷ twice end wrong_names 0 95 ∷ twice calling right_names 0 95
    ∷ twice (calling ++ end) right_names 0 96 ∷ twice (calling ++ end) wrong_names 0 96 ∷ twice (calling ++ end) right_names 0 95
    ∷ twice (calling ++ end) wrong_names (2 ^ 32 + 1) 95 ∷ twice calling wrong_names 0 0 ∷ []
    ≡ 3 ∷ 0 ∷ 4 ∷ 2 ∷ 0
    ∷ 1
    ∷ 1 ∷ 1 ∷ 1
    ∷ 2 ∷ 2 ∷ 3
    ∷ 1 ∷ 1 ∷ 1
    ∷ 1 ∷ 2 ∷ []
unfolding open_here calling twice
first_holds = refl

-- ---- 3: callees that start `llvm.` and such that nearly do; marks; a global or a local as an operand is none
unfoldable pub call_of : Entries → ℕ × ℕ → List ℕ → ℕ
call_of marks callee last =
    refusal_of (checked
    (lent (marks ++ (5, 1) ∷ (10, 0) ∷ (0, 0) ∷ (7, 0) ∷ (76, 0) ∷ (10, 0) ∷ callee ∷ (12, 0) ∷ (31, 2) ∷ (0, 0) ∷ (93, 0) ∷ (0, 0) ∷ (0, 0) ∷ []) 3)
    (join (bytes "e" ∷ bytes "f" ∷ last ∷ [])) 0 88)

pub callees_hold :
    map (λ s. call_of [] (31, 2) s) (bytes "llvm." ∷ bytes "llvm.x" ∷ bytes "llvm" ∷ bytes "llvm_x" ∷ bytes "llvmx." ∷ bytes "lllvm." ∷ [])
    ++ call_of [] (30, 2) (bytes "llvm.x") ∷ call_of [] (31, 1) (bytes "llvm.x") ∷ call_of [] (33, 0) (bytes "llvm.x")
    ∷ call_of ((2, 2) ∷ []) (31, 2) (bytes "g") ∷ call_of ((2, 2) ∷ []) (30, 2) (bytes "g") ∷ call_of ((2, 2) ∷ []) (31, 1) (bytes "g")
    ∷ call_of ((1, 2) ∷ []) (31, 2) (bytes "llvm.x") ∷ call_of ((1, 2) ∷ []) (31, 2) (bytes "sinf") ∷ call_of [] (31, 2) (bytes "sinf")
    ∷ call_of ((2, 1) ∷ []) (31, 1) (bytes "g") ∷ call_of ((1, 2) ∷ (2, 1) ∷ []) (31, 2) (bytes "g") ∷ []
    ≡ 3 ∷ 3 ∷ 0 ∷ 0 ∷ 0 ∷ 0 ∷ 0 ∷ 0 ∷ 0 ∷ 3 ∷ 0 ∷ 0 ∷ 3 ∷ 0 ∷ 0 ∷ 3 ∷ 0 ∷ []
unfolding open_here call_of
callees_hold = refl

-- a function behind the first: a call of `@llvm.a`, a value of kind 37, a call of another; a call in the third, in the first of three, in both of two; a 1 comes
-- before them, for a function's name that is there twice and for the closing entry that is missing
unfoldable pub behind_first : Entries → ℕ
behind_first es =
    twice (bare 0 ++ ((5, 1) ∷ (10, 0) ∷ (0, 0) ∷ (7, 0) ∷ es ++ ((93, 0) ∷ (0, 0) ∷ (0, 0) ∷ []))) right_names 0 96

unfoldable pub call_from : ℕ → Entries
call_from x = (5, x) ∷ (10, 0) ∷ (0, 0) ∷ (7, 0) ∷ (76, 0) ∷ (10, 0) ∷ (31, 2) ∷ (0, 0) ∷ (93, 0) ∷ (0, 0) ∷ []

pub second_holds :
    map behind_first
    (((76, 0) ∷ (10, 0) ∷ (31, 2) ∷ (0, 0) ∷ []) ∷ ((77, 4) ∷ (11, 8) ∷ (37, 0) ∷ []) ∷ ((76, 0) ∷ (10, 0) ∷ (31, 3) ∷ (0, 0) ∷ []) ∷ [])
    ++ twice (bare 0 ++ (bare 3 ++ calling)) right_names 0 96 ∷ twice (call_from 0 ++ (bare 3 ++ end)) right_names 0 96
    ∷ twice (call_from 0 ++ calling) right_names 0 96 ∷ twice (bare 1 ++ calling) right_names 0 96 ∷ twice (call_from 0 ++ bare 1) right_names 0 96 ∷ []
    ≡ 3 ∷ 3 ∷ 0 ∷ 3 ∷ 3 ∷ 3 ∷ 1 ∷ 1 ∷ []
unfolding open_here calling twice behind_first call_from
second_holds = refl

-- a value of kind 37 in each place that has a value
pub others_hold :
    map insts
    (((40, 4) ∷ (11, 8) ∷ (37, 0) ∷ (32, 0) ∷ []) ∷ ((40, 4) ∷ (11, 8) ∷ (32, 0) ∷ (37, 0) ∷ []) ∷ ((53, 4) ∷ (11, 8) ∷ (37, 0) ∷ (11, 1) ∷ [])
    ∷ ((60, 4) ∷ (11, 8) ∷ (37, 0) ∷ (32, 0) ∷ []) ∷ ((60, 4) ∷ (11, 8) ∷ (32, 0) ∷ (37, 0) ∷ [])
    ∷ ((70, 4) ∷ (37, 0) ∷ (11, 8) ∷ (32, 0) ∷ (32, 0) ∷ []) ∷ ((70, 4) ∷ (32, 0) ∷ (11, 8) ∷ (37, 0) ∷ (32, 0) ∷ [])
    ∷ ((70, 4) ∷ (32, 0) ∷ (11, 8) ∷ (32, 0) ∷ (37, 0) ∷ [])
    ∷ ((71, 4) ∷ (11, 8) ∷ (37, 0) ∷ (21, 0) ∷ []) ∷ ((72, 0) ∷ (11, 8) ∷ (37, 0) ∷ (30, 2) ∷ (21, 0) ∷ []) ∷ ((72, 0) ∷ (11, 8) ∷ (32, 0) ∷ (37, 0) ∷ (21, 0) ∷ [])
    ∷ ((73, 4) ∷ (11, 8) ∷ (11, 8) ∷ (37, 0) ∷ (21, 0) ∷ [])
    ∷ ((74, 4) ∷ (11, 8) ∷ (37, 0) ∷ (0, 0) ∷ []) ∷ ((74, 4) ∷ (11, 8) ∷ (30, 2) ∷ (11, 8) ∷ (32, 0) ∷ (11, 8) ∷ (37, 0) ∷ (0, 0) ∷ [])
    ∷ ((75, 4) ∷ (11, 8) ∷ (32, 0) ∷ (23, 0) ∷ (37, 0) ∷ (23, 0) ∷ (0, 0) ∷ [])
    ∷ ((76, 4) ∷ (11, 8) ∷ (37, 0) ∷ (0, 0) ∷ []) ∷ ((76, 4) ∷ (11, 8) ∷ (30, 2) ∷ (11, 8) ∷ (32, 0) ∷ (11, 8) ∷ (37, 0) ∷ (0, 0) ∷ [])
    ∷ ((77, 4) ∷ (11, 8) ∷ (37, 0) ∷ []) ∷ ((78, 4) ∷ (11, 8) ∷ (37, 0) ∷ []) ∷ ((79, 0) ∷ (11, 8) ∷ (37, 0) ∷ (30, 2) ∷ [])
    ∷ ((79, 0) ∷ (11, 8) ∷ (32, 0) ∷ (37, 0) ∷ [])
    ∷ ((80, 4) ∷ (11, 8) ∷ (37, 0) ∷ (32, 0) ∷ (32, 0) ∷ []) ∷ ((80, 4) ∷ (11, 8) ∷ (30, 2) ∷ (37, 0) ∷ (32, 0) ∷ [])
    ∷ ((80, 4) ∷ (11, 8) ∷ (30, 2) ∷ (32, 0) ∷ (37, 0) ∷ []) ∷ ((81, 4) ∷ (37, 0) ∷ (22, 0) ∷ [])
    ∷ ((82, 0) ∷ (77, 4) ∷ (11, 8) ∷ (37, 0) ∷ (82, 0) ∷ []) ∷ [])
    ++ map in_block
    (((90, 0) ∷ (11, 8) ∷ (37, 0) ∷ []) ∷ ((91, 0) ∷ (37, 0) ∷ (23, 0) ∷ (21, 0) ∷ []) ∷ ((92, 0) ∷ (11, 8) ∷ (37, 0) ∷ (23, 0) ∷ (0, 0) ∷ []) ∷ [])
    ≡ lib.ListN.replicate 29 3
unfolding open_here
others_hold = refl
