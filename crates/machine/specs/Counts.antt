-- How many cells a line of each kind pops and pushes, as docs/LINES.md has it: with fewer than it pops a line fails ("anything missing fails"), with as many
-- it goes on, and what lies below is left.
use Rattle.std.specs.Prelude.{ℕ, zero, suc, ◌+◌, ◌-◌, ◌≡◌, refl, List, [], ◌∷◌, ◌++◌, map, length, drop, replicate}
use Rattle.std.proofs.Math.Option.{Option, none, some}
use Rattle.assembly.specs.Line.{Line}
use Rattle.assembly.specs.Number.{form_of}
use Rattle.machine.specs.Line.{Effect}
use Rattle.machine.specs.Open.{open_machine}
use Rattle.machine.specs.Sweep.{OnAll, down_from, each, open_sweep}
use Rattle.machine.specs.Alone.{alone, left, open_alone}

pub record Kind : Type 0 where
  pub number : ℕ
  pub operand : ℕ
  pub pops : ℕ
  pub pushes : ℕ

-- so many kinds with one operand and the same counts
pub record Kinds : Type 0 where
  pub many : ℕ
  pub operand : ℕ
  pub pops : ℕ
  pub pushes : ℕ

kinds : (many operand pops pushes : ℕ) → Kinds
kinds m x p q = record { many = m; operand = x; pops = p; pushes = q }

-- in the order of docs/LINES.md
unfoldable pub grouped : List Kinds
unfolding kinds
grouped =
    -- the comment, the function's label, a block's, `jmp` to one; `push` of a name
    kinds 4 0 0 0 ∷ kinds 1 0 0 1 ∷
    -- `call g, 2;`, `syscall ask;` of two arguments and a reply
    kinds 1 514 2 1 ∷ kinds 1 3 2 1 ∷
    -- `push_0n 2;`, `push`, `get_arg`, `get_local`; `set_local`; `call_fp 2;`
    kinds 1 2 0 0 ∷ kinds 3 0 0 1 ∷ kinds 1 0 1 0 ∷ kinds 1 2 3 1 ∷
    -- numbered labels, and their jumps, of which the second is not conditional
    kinds 4 7 0 0 ∷ kinds 1 7 1 0 ∷ kinds 1 7 0 0 ∷ kinds 2 7 1 0 ∷
    -- 23 operations at 32 bits and at 64; `trunc`, `sx`
    kinds 46 0 2 1 ∷ kinds 8 0 1 1 ∷
    -- loads, stores, the atomic ones, compare-and-swap
    kinds 4 0 1 1 ∷ kinds 4 0 2 0 ∷ kinds 1 0 1 1 ∷ kinds 1 0 2 0 ∷ kinds 1 0 3 1 ∷
    -- `syscall memcmp;`, `dup`, `pop`
    kinds 1 0 3 1 ∷ kinds 1 0 1 2 ∷ kinds 1 0 1 0 ∷
    []

-- `thread_get 0;`, `thread_set 0;` and the empty line, behind `ret` and `panic`
unfoldable pub grouped_last : List Kinds
unfolding kinds
grouped_last = kinds 1 0 0 1 ∷ kinds 1 0 1 0 ∷ kinds 1 0 0 0 ∷ []

numbered : (from many : ℕ) → Kinds → List Kind
numbered n zero k = []
numbered n (suc m) k = record { number = n; operand = k.operand; pops = k.pops; pushes = k.pushes } ∷ numbered (suc n) m k

one_by_one : (from : ℕ) → List Kinds → List Kind
one_by_one n [] = []
one_by_one n (k ∷ ks) = numbered n k.many k ++ one_by_one (n + k.many) ks

-- kinds 0 to 88, and 91 to 93
unfoldable pub table : List Kind
unfolding grouped grouped_last numbered one_by_one
table = one_by_one 0 grouped ++ one_by_one 91 grouped_last

-- the line of a kind on operands; none where there is no such line
formed : Option Line → List ℕ → Option (List ℕ)
unfolding alone left
formed none o = none
formed (some l) o = left (alone l o)

unfoldable pub leaves : Kind → List ℕ → Option (List ℕ)
unfolding formed
leaves k o = formed (form_of k.number k.operand) o

-- what is left without what was pushed; how many there are
unfoldable pub below : ℕ → Option (List ℕ) → Option (List ℕ)
below n none = none
below n (some o) = some (drop n o)

unfoldable pub many : Option (List ℕ) → Option ℕ
many none = none
many (some o) = some (length o)

-- every kind but `ret` and `panic` is there
pub kinds_counted : length table ≡ 92
unfolding table
kinds_counted = refl

-- as many cells as a line pops, each 1: it goes on, and leaves what it pushes
pub enough_goes : OnAll table (λ (k : Kind). many (leaves k (replicate k.pops 1))) (λ (k : Kind). some k.pushes)
unfolding open_machine open_alone open_sweep table leaves many
enough_goes = refl

-- two cells more: they are left below
pub below_stays : OnAll table (λ (k : Kind). below k.pushes (leaves k (replicate k.pops 1 ++ 71 ∷ 72 ∷ []))) (λ (k : Kind). some (71 ∷ 72 ∷ []))
unfolding open_machine open_alone open_sweep table leaves below
below_stays = refl

-- any number of cells below that: it fails
unfoldable pub too_few : List (Kind × ℕ)
unfolding each down_from
too_few = each (λ (k : Kind). map (λ (n : ℕ). (k, k.pops - n)) (down_from k.pops)) table

pub fewer_fails : OnAll too_few (λ (p : Kind × ℕ). leaves p.0 (replicate p.1 1)) (λ (p : Kind × ℕ). none)
unfolding open_machine open_alone open_sweep table too_few leaves
fewer_fails = refl

-- "`ret` pops the value and ends", "`panic` .. fails"
unfoldable pub ended : Effect → Option ℕ
ended (Effect.ends v e) = some v
ended (Effect.goes e o) = none
ended (Effect.passes e o) = none
ended (Effect.jumps t e o) = none
ended Effect.fails = none

pub ret_ends : map (λ (o : List ℕ). ended (alone Line.ret o)) ([] ∷ (5 ∷ []) ∷ (6 ∷ 5 ∷ []) ∷ []) ≡ none ∷ some 5 ∷ some 6 ∷ []
unfolding open_machine open_alone ended
ret_ends = refl

pub panic_fails : map (λ (o : List ℕ). alone Line.panic o) ([] ∷ (5 ∷ []) ∷ (6 ∷ 5 ∷ []) ∷ []) ≡ Effect.fails ∷ Effect.fails ∷ Effect.fails ∷ []
unfolding open_machine open_alone
panic_fails = refl
