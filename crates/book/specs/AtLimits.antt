-- "The book", entry by entry: each limit at its value and one beyond, each word that is 0 where it is unmentioned, each kind beside those that there are. The
-- number is the refusal's, 0 for a sound book.
use Rattle.std.specs.Prelude.{ℕ, zero, suc, ◌-◌, ◌^◌, ◌≡◌, refl, List, [], ◌∷◌, ◌++◌, map, length}
use Rattle.names.specs.Text.{bytes}
use Rattle.names.specs.Name.{join}
use Rattle.book.specs.Check.{checked, refusal_of}
use Rattle.book.specs.Open.{open_book}

abbrev pub Entries : Type 0
Entries = List (ℕ × ℕ)

-- entries as they are lent, with a name count
unfoldable pub lent : Entries → ℕ → List ℕ
lent es m = length es ∷ m ∷ (map (λ (e : ℕ × ℕ). e.0) es ++ map (λ (e : ℕ × ℕ). e.1) es)

-- the names e, f, p, q
abbrev pub four_names : List ℕ
four_names = join (bytes "e" ∷ bytes "f" ∷ bytes "p" ∷ bytes "q" ∷ [])

unfoldable pub whole : Entries → ℕ
whole es = refusal_of (checked (lent es 4) four_names 0 96)

-- void @f(ptr %p), with these blocks; with one block e of these entries; with these instructions before its `unreachable`
unfoldable pub blocks : Entries → ℕ
blocks es = whole ((5, 1) ∷ (10, 0) ∷ (6, 3) ∷ (12, 0) ∷ (0, 0) ∷ (es ++ (0, 0) ∷ (0, 0) ∷ []))

unfoldable pub in_block : Entries → ℕ
in_block es = blocks ((7, 0) ∷ es)

unfoldable pub insts : Entries → ℕ
insts es = in_block (es ++ (93, 0) ∷ [])

-- a function without parameters and blocks; void @f() and the entry that closes the functions
abbrev pub bare : ℕ → Entries
bare x = (5, x) ∷ (10, 0) ∷ (0, 0) ∷ (0, 0) ∷ []

abbrev pub end : Entries
end = bare 1 ++ (0, 0) ∷ []

-- these entries so many times
unfoldable pub times : ℕ → Entries → Entries
times zero es = []
times (suc n) es = es ++ times n es

unfoldable pub open_here : Unit {0}
unfolding open_book lent whole blocks in_block insts times
open_here = tt

-- ---- limits of words
-- "A stated align is a power of two up to 4,096": of an alloca, a load, a store
unfoldable pub aligned : ℕ → List ℕ
aligned a =
    insts ((73, 4) ∷ (11, 8) ∷ (21, 0) ∷ (22, a) ∷ []) ∷ insts ((71, 4) ∷ (11, 8) ∷ (30, 2) ∷ (22, a) ∷ [])
    ∷ insts ((72, 0) ∷ (11, 8) ∷ (32, 0) ∷ (30, 2) ∷ (22, a) ∷ []) ∷ []

abbrev three : ℕ → List ℕ
three n = n ∷ n ∷ n ∷ []

pub aligns_hold :
    map aligned (0 ∷ 1 ∷ 2 ∷ 3 ∷ 4 ∷ 6 ∷ 2048 ∷ 2049 ∷ 4095 ∷ 4096 ∷ 4097 ∷ 6144 ∷ 8192 ∷ [])
    ≡ map three (1 ∷ 0 ∷ 0 ∷ 1 ∷ 0 ∷ 1 ∷ 0 ∷ 1 ∷ 1 ∷ 0 ∷ 1 ∷ 1 ∷ 1 ∷ [])
unfolding open_here aligned
aligns_hold = refl

-- "integer indices lie in −2^31 to 2^31 − 1"; a local's number is none
unfoldable pub indexed : ℕ × ℕ → ℕ
indexed e = insts ((74, 4) ∷ (11, 8) ∷ (30, 2) ∷ (11, 64) ∷ e ∷ (0, 0) ∷ [])

pub indices_hold :
    map indexed ((32, 0) ∷ (32, 2 ^ 31 - 1) ∷ (32, 2 ^ 31) ∷ (32, 2 ^ 64 - 2 ^ 31 - 1) ∷ (32, 2 ^ 64 - 2 ^ 31) ∷ (32, 2 ^ 64 - 1) ∷ (30, 3) ∷ (33, 0) ∷ (37, 0) ∷ [])
    ≡ 0 ∷ 0 ∷ 1 ∷ 1 ∷ 0 ∷ 0 ∷ 0 ∷ 0 ∷ 3 ∷ []
unfolding open_here indexed
indices_hold = refl

-- an integer that is no index may be any word
unfoldable pub numbered : ℕ → ℕ
numbered v = insts ((40, 4) ∷ (11, 8) ∷ (32, v) ∷ (32, v) ∷ [])

pub integers_hold : map numbered ((2 ^ 31) ∷ (2 ^ 64 - 1) ∷ []) ≡ 0 ∷ 0 ∷ []
unfolding open_here numbered
integers_hold = refl

-- "A GEP has at most 32 indices"; an edge, a call and a switch have as many as they like
unfoldable pub many_indices : ℕ → ℕ
many_indices n = insts ((74, 4) ∷ (11, 8) ∷ (30, 2) ∷ (times n ((11, 8) ∷ (32, 0) ∷ []) ++ (0, 0) ∷ []))

unfoldable pub many_arguments : ℕ → ℕ
many_arguments n = insts ((76, 4) ∷ (11, 8) ∷ (30, 2) ∷ (times n ((11, 8) ∷ (32, 0) ∷ []) ++ (0, 0) ∷ []))

pub counts_hold : map many_indices (0 ∷ 31 ∷ 32 ∷ 33 ∷ []) ++ map many_arguments (0 ∷ 33 ∷ 256 ∷ []) ≡ 0 ∷ 0 ∷ 0 ∷ 1 ∷ 0 ∷ 0 ∷ 0 ∷ []
unfolding open_here many_indices many_arguments
counts_hold = refl

-- "the u32 index"
unfoldable pub extracted : ℕ → ℕ
extracted i = insts ((81, 4) ∷ (30, 2) ∷ (22, i) ∷ [])

pub fields_hold : map extracted (0 ∷ 2 ∷ (2 ^ 32 - 1) ∷ (2 ^ 32) ∷ []) ≡ 0 ∷ 0 ∷ 0 ∷ 1 ∷ []
unfolding open_here extracted
fields_hold = refl

-- "width 1, 8, 16, 32 or 64"
unfoldable pub wide : ℕ → ℕ
wide w = insts ((77, 4) ∷ (11, w) ∷ (32, 0) ∷ [])

pub widths_hold :
    map wide (0 ∷ 1 ∷ 2 ∷ 7 ∷ 8 ∷ 9 ∷ 15 ∷ 16 ∷ 17 ∷ 31 ∷ 32 ∷ 33 ∷ 63 ∷ 64 ∷ 65 ∷ 128 ∷ [])
    ≡ 1 ∷ 0 ∷ 1 ∷ 1 ∷ 0 ∷ 1 ∷ 1 ∷ 0 ∷ 1 ∷ 1 ∷ 0 ∷ 1 ∷ 1 ∷ 0 ∷ 1 ∷ 1 ∷ []
unfolding open_here wide
widths_hold = refl

-- "A type is read from its first entry, parts within parts, to 64 levels": arrays, structs, a struct's body, a struct without parts
unfoldable pub nested : ℕ → Entries → ℕ
nested n t = insts ((77, 4) ∷ (times n ((13, 1) ∷ []) ++ (t ++ (32, 0) ∷ [])))

unfoldable pub bodied : ℕ → ℕ
bodied n = whole ((3, 3) ∷ (17, 0) ∷ (times n ((14, 1) ∷ []) ++ (15, 3) ∷ (0, 0) ∷ end))

pub levels_hold :
    map (λ n. nested n ((11, 8) ∷ [])) (0 ∷ 63 ∷ 64 ∷ [])
    ++ map (λ n. nested n ((16, 0) ∷ (19, 0) ∷ (0, 0) ∷ [])) (62 ∷ 63 ∷ [])
    ++ map (λ n. nested n ((16, 0) ∷ (0, 0) ∷ [])) (63 ∷ 64 ∷ [])
    ++ map bodied (62 ∷ 63 ∷ [])
    ≡ 0 ∷ 0 ∷ 1 ∷ 0 ∷ 1 ∷ 0 ∷ 1 ∷ 0 ∷ 1 ∷ []
unfolding open_here nested bodied
levels_hold = refl

-- ---- names: below their count; result and parameter words at most it
unfoldable pub named : ℕ → List ℕ
named x =
    whole ((1, x) ∷ end) ∷ whole ((2, x) ∷ end) ∷ whole ((3, x) ∷ (4, 0) ∷ end) ∷ whole (bare x ++ (0, 0) ∷ [])
    ∷ whole ((5, 1) ∷ (15, x) ∷ (0, 0) ∷ (0, 0) ∷ (0, 0) ∷ []) ∷ blocks ((7, x) ∷ (93, 0) ∷ []) ∷ in_block ((91, 0) ∷ (21, 0) ∷ (23, x) ∷ (21, 0) ∷ [])
    ∷ in_block ((90, 0) ∷ (11, 8) ∷ (30, x) ∷ []) ∷ in_block ((90, 0) ∷ (11, 8) ∷ (31, x) ∷ []) ∷ []

unfoldable pub resulting : ℕ → List ℕ
resulting w = whole ((5, 1) ∷ (10, 0) ∷ (6, w) ∷ (12, 0) ∷ (0, 0) ∷ (0, 0) ∷ (0, 0) ∷ []) ∷ insts ((82, w) ∷ []) ∷ insts ((40, w) ∷ (11, 8) ∷ (32, 0) ∷ (32, 0) ∷ []) ∷ []

abbrev nine : ℕ → List ℕ
nine n = n ∷ n ∷ n ∷ n ∷ n ∷ n ∷ n ∷ n ∷ n ∷ []

pub names_hold : map named (3 ∷ 4 ∷ []) ≡ nine 0 ∷ nine 1 ∷ []
unfolding open_here named
names_hold = refl

pub results_hold : map resulting (0 ∷ 4 ∷ 5 ∷ []) ≡ three 0 ∷ three 0 ∷ three 1 ∷ []
unfolding open_here resulting
results_hold = refl

-- ---- "An unmentioned word is 0": w stands in each
unfoldable pub unmentioned : ℕ → List ℕ
unmentioned w =
    insts ((77, 4) ∷ (10, w) ∷ (32, 0) ∷ []) ∷ insts ((77, 4) ∷ (12, w) ∷ (32, 0) ∷ []) ∷ insts ((77, 4) ∷ (18, w) ∷ (32, 0) ∷ [])
    ∷ insts ((77, 4) ∷ (19, w) ∷ (32, 0) ∷ []) ∷ insts ((77, 4) ∷ (20, w) ∷ (32, 0) ∷ []) ∷ insts ((77, 4) ∷ (16, w) ∷ (0, 0) ∷ (32, 0) ∷ [])
    ∷ insts ((77, 4) ∷ (17, w) ∷ (0, 0) ∷ (32, 0) ∷ []) ∷ insts ((77, 4) ∷ (16, 0) ∷ (0, w) ∷ (32, 0) ∷ [])
    ∷ insts ((77, 4) ∷ (11, 8) ∷ (33, w) ∷ []) ∷ insts ((77, 4) ∷ (11, 8) ∷ (34, w) ∷ []) ∷ insts ((77, 4) ∷ (11, 8) ∷ (35, w) ∷ [])
    ∷ insts ((77, 4) ∷ (11, 8) ∷ (36, w) ∷ []) ∷ insts ((71, 4) ∷ (11, 8) ∷ (30, 2) ∷ (21, w) ∷ []) ∷ insts ((75, 4) ∷ (11, 8) ∷ (0, w) ∷ [])
    ∷ in_block ((90, w) ∷ (21, 0) ∷ []) ∷ in_block ((91, w) ∷ (21, 0) ∷ (23, 0) ∷ (21, 0) ∷ []) ∷ in_block ((92, w) ∷ (11, 8) ∷ (33, 0) ∷ (23, 0) ∷ (0, 0) ∷ [])
    ∷ in_block ((93, w) ∷ []) ∷ whole ((3, 3) ∷ (4, w) ∷ end) ∷ whole ((5, 1) ∷ (10, 0) ∷ (0, w) ∷ (0, 0) ∷ (0, 0) ∷ [])
    ∷ whole ((5, 1) ∷ (10, 0) ∷ (0, 0) ∷ (0, w) ∷ (0, 0) ∷ []) ∷ whole (bare 1 ++ (0, w) ∷ []) ∷ []

abbrev many : ℕ → List ℕ
many n = nine n ++ (nine n ++ (n ∷ three n))

pub unmentioned_hold : map unmentioned (0 ∷ 1 ∷ []) ≡ many 0 ∷ many 1 ∷ []
unfolding open_here unmentioned
unmentioned_hold = refl

-- kind 37 is a 3 only where it is a value
pub other_hold : map (λ w. insts ((77, 4) ∷ (11, 8) ∷ (37, w) ∷ [])) (0 ∷ 1 ∷ []) ≡ 3 ∷ 1 ∷ []
unfolding open_here
other_hold = refl

-- ---- kinds beside those that there are
-- as an instruction without fields, as a type, as a value
pub kinds_hold :
    map (λ k. insts ((k, 0) ∷ [])) (8 ∷ 9 ∷ 24 ∷ 39 ∷ 59 ∷ 82 ∷ 83 ∷ 89 ∷ 94 ∷ [])
    ++ map (λ k. insts ((77, 4) ∷ (k, 0) ∷ (32, 0) ∷ [])) (9 ∷ 10 ∷ 12 ∷ 18 ∷ 20 ∷ 21 ∷ [])
    ++ map (λ k. insts ((77, 4) ∷ (11, 8) ∷ (k, 0) ∷ [])) (29 ∷ 30 ∷ 31 ∷ 32 ∷ 33 ∷ 36 ∷ 37 ∷ 38 ∷ [])
    ≡ 1 ∷ 1 ∷ 1 ∷ 1 ∷ 1 ∷ 0 ∷ 1 ∷ 1 ∷ 1 ∷ 1 ∷ 0 ∷ 0 ∷ 0 ∷ 0 ∷ 1 ∷ 1 ∷ 0 ∷ 0 ∷ 0 ∷ 0 ∷ 0 ∷ 3 ∷ 1 ∷ []
unfolding open_here
kinds_hold = refl

-- a field of another kind: a case's number, a block, a stated align, a parameter, a block's own entry, a body
pub others_hold :
    map (λ k. in_block ((92, 0) ∷ (11, 8) ∷ (33, 0) ∷ (23, 0) ∷ (k, 0) ∷ (23, 0) ∷ (0, 0) ∷ [])) (32 ∷ 22 ∷ 33 ∷ [])
    ++ map (λ k. in_block ((91, 0) ∷ (21, 0) ∷ (k, 0) ∷ (21, 0) ∷ [])) (23 ∷ 22 ∷ 30 ∷ 21 ∷ [])
    ++ map (λ k. insts ((71, 4) ∷ (11, 8) ∷ (30, 2) ∷ (k, 1) ∷ [])) (22 ∷ 23 ∷ 32 ∷ [])
    ++ map (λ k. whole ((5, 1) ∷ (10, 0) ∷ (k, 0) ∷ (12, 0) ∷ (0, 0) ∷ (0, 0) ∷ (0, 0) ∷ [])) (6 ∷ 5 ∷ 7 ∷ [])
    ++ map (λ k. blocks ((k, 0) ∷ (93, 0) ∷ [])) (7 ∷ 6 ∷ 23 ∷ [])
    ++ map (λ k. whole ((3, 3) ∷ (k, 0) ∷ (0, 0) ∷ end)) (16 ∷ 17 ∷ 13 ∷ 12 ∷ [])
    ≡ 0 ∷ 1 ∷ 1 ∷ 0 ∷ 1 ∷ 1 ∷ 1 ∷ 0 ∷ 1 ∷ 1 ∷ 0 ∷ 1 ∷ 1 ∷ 0 ∷ 1 ∷ 1 ∷ 0 ∷ 0 ∷ 1 ∷ 1 ∷ []
unfolding open_here
others_hold = refl

-- ---- once each, in this order, nothing after
pub order_holds :
    map whole
    (((1, 2) ∷ (2, 3) ∷ end) ∷ ((1, 2) ∷ (1, 2) ∷ end) ∷ ((1, 2) ∷ (2, 2) ∷ end) ∷ ((1, 1) ∷ end) ∷ ((2, 1) ∷ end)
    ∷ ((3, 2) ∷ (4, 0) ∷ (3, 3) ∷ (4, 0) ∷ end) ∷ ((3, 2) ∷ (4, 0) ∷ (3, 2) ∷ (4, 0) ∷ end) ∷ ((1, 2) ∷ (3, 2) ∷ (4, 0) ∷ end) ∷ ((3, 1) ∷ (4, 0) ∷ end)
    ∷ ((3, 2) ∷ (4, 0) ∷ (1, 2) ∷ end) ∷ ((3, 2) ∷ (11, 8) ∷ end) ∷ ((3, 2) ∷ end) ∷ (end ++ end) ∷ (end ++ (0, 0) ∷ []) ∷ ((1, 2) ∷ []) ∷ []
    ∷ [])
    ≡ 0 ∷ 1 ∷ 1 ∷ 0 ∷ 0 ∷ 0 ∷ 1 ∷ 0 ∷ 0 ∷ 1 ∷ 1 ∷ 1 ∷ 1 ∷ 1 ∷ 1 ∷ 1 ∷ []
unfolding open_here
order_holds = refl

-- document 02, card 1: "one or more, each name once", closed by kind 0, word 0. In order: one function, two, three; none; the closing entry missing after one and
-- after two, doubled, with a word; a name twice, side by side and apart; a function behind the closing entry; a struct or a mark between two functions
pub functions_hold :
    map whole
    ((bare 1 ++ (0, 0) ∷ []) ∷ (bare 1 ++ (bare 0 ++ (0, 0) ∷ [])) ∷ (bare 2 ++ (bare 0 ++ end)) ∷ ((0, 0) ∷ []) ∷ bare 1 ∷ (bare 1 ++ bare 2)
    ∷ (end ++ (0, 0) ∷ []) ∷ (bare 1 ++ (0, 1) ∷ []) ∷ (bare 1 ++ end) ∷ (bare 1 ++ (bare 2 ++ end)) ∷ (end ++ bare 2) ∷ (end ++ (bare 2 ++ (0, 0) ∷ []))
    ∷ (bare 2 ++ (3, 3) ∷ (4, 0) ∷ end) ∷ (bare 2 ++ (1, 3) ∷ end) ∷ [])
    ≡ 0 ∷ 0 ∷ 0 ∷ 1 ∷ 1 ∷ 1 ∷ 1 ∷ 1 ∷ 1 ∷ 1 ∷ 1 ∷ 1 ∷ 1 ∷ 1 ∷ []
unfolding open_here
functions_hold = refl

-- a function's name may be marked, once, 1 or 2, and be a struct's
pub marked_hold :
    map (λ es. whole (es ++ (bare 2 ++ end)))
    (((1, 1) ∷ []) ∷ ((2, 1) ∷ []) ∷ ((1, 2) ∷ (2, 1) ∷ []) ∷ ((1, 1) ∷ (2, 1) ∷ []) ∷ ((1, 1) ∷ (3, 1) ∷ (4, 0) ∷ (3, 2) ∷ (4, 0) ∷ []) ∷ [])
    ≡ 0 ∷ 0 ∷ 0 ∷ 1 ∷ 0 ∷ []
unfolding open_here
marked_hold = refl

-- repeated block, parameter and result names are no fault; a block has one terminator, behind its instructions
pub blocks_hold :
    blocks ((7, 0) ∷ (82, 4) ∷ (82, 4) ∷ (93, 0) ∷ (7, 0) ∷ (93, 0) ∷ [])
    ∷ whole ((5, 1) ∷ (10, 0) ∷ (6, 3) ∷ (12, 0) ∷ (6, 3) ∷ (12, 0) ∷ (0, 0) ∷ (0, 0) ∷ (0, 0) ∷ [])
    ∷ in_block [] ∷ in_block ((82, 0) ∷ []) ∷ in_block ((93, 0) ∷ (93, 0) ∷ []) ∷ in_block ((93, 0) ∷ (82, 0) ∷ []) ∷ blocks []
    ∷ []
    ≡ 0 ∷ 0 ∷ 1 ∷ 1 ∷ 1 ∷ 1 ∷ 0 ∷ []
unfolding open_here
blocks_hold = refl
