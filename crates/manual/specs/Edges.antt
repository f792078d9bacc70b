-- Branches and edges: `br` with and without a condition and a false target; phis late, without the predecessor, and in the first block; where there is no block.
use Rattle.std.specs.Prelude.{ℕ, ◌-◌, ◌^◌, ◌≡◌, refl, List, [], ◌∷◌, ◌++◌, map, replicate}
use Rattle.std.proofs.Math.Option.{Option, none, some}
use Rattle.book.specs.Ast.{Ty, Value, BinOp, ConvOp, ICmpPred, Incoming, InstKind, Inst, Terminator, BasicBlock}
use Rattle.book.specs.Result.{Result, ok, bind}
use Rattle.layout.specs.Frame.{no_frame}
use Rattle.machine.specs.Sweep.{OnAll}
use Rattle.manual.specs.Stop.{Stop, stops}
use Rattle.manual.specs.State.{Cell, nothing}
use Rattle.manual.specs.Term.{Stand, edge}
use Rattle.manual.specs.Run.{run_block, run}
use Rattle.manual.specs.Open.{open_manual}
use Rattle.manual.specs.Alone.{Went, went, furnished, standing, given, ends, number, open_alone}

-- ---- "'br' Instruction": without a condition to the first, whatever the second; with one, 1 to the first, 0 to the second, which must be there
unfoldable pub branched : Option Value → Option ℕ → Result Went
branched c f = ends Ty.void furnished (Terminator.br c 8 f)

pub branches_hold :
    (map (branched none) (none ∷ some 9 ∷ []) ≡ ok (Went.to 8) ∷ ok (Went.to 8) ∷ [])
    × (map (λ (v : Value). branched (some v) (some 9)) (Value.int 0 ∷ Value.int 1 ∷ Value.int (2 ^ 64 - 1) ∷ Value.local 1 ∷ [])
    ≡ ok (Went.to 9) ∷ ok (Went.to 8) ∷ ok (Went.to 8) ∷ ok (Went.to 8) ∷ [])
    × (map (λ (v : Value). branched (some v) none) (Value.int 0 ∷ Value.int 1 ∷ Value.local 1 ∷ []) ≡ stops Stop.ill_formed ∷ stops Stop.ill_formed ∷ stops Stop.ill_formed ∷ [])
unfolding open_manual open_alone branched
branches_hold = (refl, refl, refl)

-- both targets may be the same block, and the block itself; so may a switch's default and its cases
unfoldable pub same_target : (block : ℕ) → List (Result Went)
same_target b =
    map (ends Ty.void furnished) (
    Terminator.br none b none ∷ Terminator.br (some (Value.int 0)) b (some b) ∷ Terminator.switch (Ty.int 8) (Value.int 0) b [] ∷
    Terminator.switch (Ty.int 8) (Value.int 1) b (record { value = 0; label = b } ∷ record { value = 1; label = b } ∷ record { value = 1; label = 9 } ∷ []) ∷ [])

pub same_targets : OnAll (7 ∷ 8 ∷ []) same_target (λ (b : ℕ). replicate 4 (ok (Went.to b)))
unfolding open_manual open_alone same_target
same_targets = refl

-- "unreachable; no block"
pub nowhere_stops :
    map (ends Ty.void furnished) (
    Terminator.unreachable ∷ Terminator.br none 55 none ∷ Terminator.br (some (Value.int 0)) 8 (some 55) ∷ Terminator.br (some (Value.int 1)) 55 (some 8)
    ∷ Terminator.switch (Ty.int 8) (Value.int 0) 55 [] ∷ [])
    ≡ stops Stop.unreachable ∷ stops Stop.no_block ∷ stops Stop.no_block ∷ stops Stop.no_block ∷ stops Stop.no_block ∷ []
unfolding open_manual open_alone
nowhere_stops = refl

-- ---- phis: %200 and %201 at the beginning of block 10
unfoldable pub from : ℕ → Value → Incoming
from b v = record { val = v; label = b }

unfoldable pub phi : Option ℕ → List Incoming → Inst
phi x is = record { dest = x; kind = InstKind.phi (Ty.int 8) is }

unfoldable pub plus : Inst
plus = record { dest = some 202; kind = InstKind.bin BinOp.add (Ty.int 8) (Value.local 200) (Value.local 201) }

unfoldable pub block : List Inst → BasicBlock
block is = record { label = 10; insts = is; term = Terminator.br none 8 none }

value_in : Stand → ℕ → Option Cell
value_in (Stand.at b σ) x = σ.env x
value_in (Stand.gave v σ) x = σ.env x

-- what the edge from a block gives %200 and %201
unfoldable pub taken : (from : ℕ) → List Inst → Result (Option Cell × Option Cell)
unfolding block value_in
taken p is = bind (edge (given Ty.void no_frame (block is ∷ [])) p 10 (standing furnished)) λ s. ok (value_in s 200, value_in s 201)

unfoldable pub two : List Inst
unfolding from phi
two = phi (some 200) (from 9 (Value.int 3) ∷ from 7 (Value.local 8) ∷ from 7 (Value.int 4) ∷ []) ∷ phi (some 201) (from 7 (Value.int 255) ∷ []) ∷ []

-- the first pair for the predecessor counts; "with one pair for each predecessor": without it, in either phi, ill-formed; without a name nothing is set; the edge ends at
-- the first instruction that is no phi
pub phis_hold :
    (map (λ (p : ℕ). taken p two) (7 ∷ 8 ∷ 9 ∷ []) ≡ ok (some (Cell.one 8 1), some (Cell.one 8 255)) ∷ stops Stop.ill_formed ∷ stops Stop.ill_formed ∷ [])
    × (taken 7 (phi none (from 7 (Value.int 3) ∷ []) ∷ phi (some 201) (from 7 (Value.int 5) ∷ []) ∷ []) ≡ ok (none, some (Cell.one 8 5)))
    × (taken 7 (phi (some 200) (from 7 (Value.int 3) ∷ []) ∷ plus ∷ phi (some 201) [] ∷ []) ≡ ok (some (Cell.one 8 3), none))
unfolding open_manual open_alone taken two from phi plus
phis_hold = (refl, refl, refl)

-- behind a phi that sets %8, one reads local 8 as it was; of another width, not set, or a cmpxchg's: it stops
pub phis_read :
    map (λ (x : ℕ). taken 7 (phi (some 8) (from 7 (Value.int 3) ∷ []) ∷ phi (some 200) (from 7 (Value.local x) ∷ []) ∷ [])) (8 ∷ 16 ∷ 99 ∷ 100 ∷ [])
    ≡ ok (some (Cell.one 8 1), none) ∷ stops Stop.other_width ∷ stops Stop.unset ∷ stops Stop.aggregate ∷ []
unfolding open_manual open_alone taken from phi
phis_read = refl

-- ---- inside the block: leading phis are skipped, so that in a block that no edge led to they are not set; one behind another instruction is ill-formed
unfoldable pub entered : List Inst → ℕ
unfolding block
entered is = number (run_block (given Ty.void no_frame (block is ∷ [])) 10 (standing furnished))

pub inside_hold : map entered (two ∷ (two ++ (plus ∷ [])) ∷ (plus ∷ []) ∷ (phi (some 200) [] ∷ []) ∷ (record { dest = none; kind = InstKind.fence } ∷ two) ∷ []) ≡ 0 ∷ 101 ∷ 101 ∷ 0 ∷ 103 ∷ []
unfolding open_manual open_alone entered two from phi plus
inside_hold = refl

-- the same behind an instruction of each kind, whatever its operand: the edge takes the phi in front of it and no other, the block runs it, and the phi behind it stops
unfoldable pub kinds : List (Value → InstKind)
kinds =
    (λ v. InstKind.bin BinOp.add (Ty.int 64) v v) ∷ (λ v. InstKind.conv ConvOp.trunc (Ty.int 64) v (Ty.int 8)) ∷ (λ v. InstKind.icmp ICmpPred.eq Ty.ptr v v) ∷
    (λ v. InstKind.select (Value.int 1) Ty.ptr v v) ∷ (λ v. InstKind.load (Ty.int 8) v none) ∷ (λ v. InstKind.store (Ty.int 8) (Value.int 0) v none) ∷
    (λ v. InstKind.alloca (Ty.int 8) (some (record { ty = Ty.ptr; val = v })) none) ∷ (λ v. InstKind.get_element_ptr (Ty.int 8) v []) ∷ (λ v. InstKind.call (Ty.int 64) v []) ∷
    (λ v. InstKind.freeze Ty.ptr v) ∷ (λ v. InstKind.atomic_load (Ty.int 64) v) ∷ (λ v. InstKind.atomic_store (Ty.int 64) v v) ∷ (λ v. InstKind.cmpxchg (Ty.int 64) v v v) ∷ []

-- local 64 is set, local 99 is not
unfoldable pub behind : (Value → InstKind) → (x : ℕ) → List Inst
behind k x = phi (some 200) (from 7 (Value.int 3) ∷ []) ∷ record { dest = some 203; kind = k (Value.local x) } ∷ phi (some 201) (from 7 (Value.int 4) ∷ []) ∷ []

-- two that have no such operand
unfoldable pub others : List (Value → InstKind)
others = (λ v. InstKind.fence) ∷ (λ v. InstKind.extract_value (Value.local 100) 0) ∷ []

pub kinds_end_phis :
    (OnAll (kinds ++ others) (λ (k : Value → InstKind). taken 7 (behind k 64)) (λ (k : Value → InstKind). ok (some (Cell.one 8 3), none)))
    × (OnAll (kinds ++ others) (λ (k : Value → InstKind). entered (behind k 64)) (λ (k : Value → InstKind). 103))
    × (OnAll kinds (λ (k : Value → InstKind). entered (behind k 99)) (λ (k : Value → InstKind). 101))
unfolding open_manual open_alone taken entered from phi kinds others behind
kinds_end_phis = (refl, refl, refl)

-- "With n blocks passed": a block at a time, and a run that has returned stays
unfoldable pub three : List BasicBlock
three =
    record { label = 10; insts = []; term = Terminator.br none 11 none } ∷ record { label = 11; insts = []; term = Terminator.br none 12 none } ∷
    record { label = 12; insts = []; term = Terminator.ret none } ∷ []

unfoldable pub passing : (n : ℕ) → (block : ℕ) → Result Went
passing n b = bind (run (given Ty.void no_frame three) n (Stand.at b (standing nothing))) λ s. ok (went s)

pub runs_hold : (map (λ (n : ℕ). passing n 10) (0 ∷ 1 ∷ 2 ∷ 3 ∷ 4 ∷ []) ≡ ok (Went.to 10) ∷ ok (Went.to 11) ∷ ok (Went.to 12) ∷ ok (Went.back 0) ∷ ok (Went.back 0) ∷ [])
    × (map (λ (n : ℕ). passing n 55) (0 ∷ 1 ∷ []) ≡ ok (Went.to 55) ∷ stops Stop.no_block ∷ [])
unfolding open_manual open_alone three passing
runs_hold = (refl, refl)
