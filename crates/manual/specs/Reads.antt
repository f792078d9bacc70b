-- Every place of an instruction or terminator where an operand is read, by every kind of operand: "reading an unset local or one at another width"; "save a cmpxchg's
-- own result, which extractvalue alone may read"; "an integer outside both .. ranges"; "undef, poison and zeroinitializer as operands are 0"; a global is a pointer.
use Rattle.std.specs.Prelude.{ℕ, ◌-◌, ◌%◌, ◌^◌, ◌≡◌, refl, true, cond, List, [], ◌∷◌, ◌++◌, map, eqb}
use Rattle.std.proofs.Math.Option.{none, some}
use Rattle.book.specs.Ast.{Ty, Value, BinOp, ConvOp, ICmpPred, InstKind, Terminator}
use Rattle.layout.specs.Frame.{Places}
use Rattle.machine.specs.Sweep.{OnAll, open_sweep}
use Rattle.manual.specs.Inst.{run_inst}
use Rattle.manual.specs.Open.{open_manual}
use Rattle.manual.specs.Alone.{furnished, standing, given, gives, ends, crosses, number, typed, zeros, open_alone}

-- a place: the width it reads at, the stop for an integer out of range, and what a run with the operand there answers, 0 where it goes on
pub record Place : Type 0 where
  pub width : ℕ
  pub beyond : ℕ
  pub answer : Value → ℕ

inst : (w : ℕ) → (Value → InstKind) → Place
inst w k = record { width = w; beyond = 105; answer = λ v. number (gives furnished (k v)) }

term : (w : ℕ) → (result : Ty) → (Value → Terminator) → Place
term w t k = record { width = w; beyond = 105; answer = λ v. number (ends t furnished (k v)) }

-- on an edge
phi : (w : ℕ) → Ty → Place
phi w t = record { width = w; beyond = 105; answer = λ v. number (crosses t v) }

-- a getelementptr's index
index : (w : ℕ) → Ty → Place
index w t = record { width = w; beyond = 106; answer = λ v. number (gives furnished (InstKind.get_element_ptr (Ty.int 8) (Value.int 0) (typed t v ∷ []))) }

one : Value
one = Value.int 1

unfoldable pub places : List Place
unfolding inst term phi index one
places =
    inst 8 (λ v. InstKind.bin BinOp.udiv (Ty.int 8) v one) ∷ inst 8 (λ v. InstKind.bin BinOp.add (Ty.int 8) one v) ∷ inst 64 (λ v. InstKind.bin BinOp.xor (Ty.int 64) v v) ∷
    inst 8 (λ v. InstKind.conv ConvOp.zext (Ty.int 8) v (Ty.int 64)) ∷ inst 64 (λ v. InstKind.conv ConvOp.ptr_to_int Ty.ptr v (Ty.int 8)) ∷
    inst 8 (λ v. InstKind.icmp ICmpPred.slt (Ty.int 8) v one) ∷ inst 1 (λ v. InstKind.icmp ICmpPred.eq (Ty.int 1) one v) ∷ inst 64 (λ v. InstKind.icmp ICmpPred.ult Ty.ptr v one) ∷
    -- the condition, and the side that is taken
    inst 1 (λ v. InstKind.select v (Ty.int 8) one one) ∷ inst 8 (λ v. InstKind.select one (Ty.int 8) v one) ∷ inst 64 (λ v. InstKind.select (Value.int 0) Ty.ptr one v) ∷
    inst 64 (λ v. InstKind.load (Ty.int 8) v none) ∷ inst 8 (λ v. InstKind.store (Ty.int 8) v one none) ∷ inst 64 (λ v. InstKind.store (Ty.int 8) one v none) ∷
    inst 64 (λ v. InstKind.atomic_load (Ty.int 64) v) ∷ inst 64 (λ v. InstKind.atomic_store (Ty.int 64) v one) ∷ inst 64 (λ v. InstKind.atomic_store (Ty.int 64) one v) ∷
    inst 64 (λ v. InstKind.cmpxchg (Ty.int 8) v one one) ∷ inst 8 (λ v. InstKind.cmpxchg (Ty.int 8) one v one) ∷ inst 64 (λ v. InstKind.cmpxchg Ty.ptr one one v) ∷
    inst 64 (λ v. InstKind.get_element_ptr (Ty.int 8) v []) ∷ index 8 (Ty.int 8) ∷ index 1 (Ty.int 1) ∷ index 64 (Ty.int 64) ∷
    inst 8 (λ v. InstKind.call (Ty.int 8) (Value.global 1) (typed (Ty.int 8) v ∷ [])) ∷ inst 64 (λ v. InstKind.call (Ty.int 8) (Value.global 1) (typed (Ty.int 8) one ∷ typed Ty.ptr v ∷ [])) ∷
    inst 8 (λ v. InstKind.freeze (Ty.int 8) v) ∷ inst 64 (λ v. InstKind.freeze Ty.ptr v) ∷ phi 8 (Ty.int 8) ∷ phi 64 Ty.ptr ∷
    term 8 (Ty.int 8) (λ v. Terminator.ret (some (typed (Ty.int 8) v))) ∷ term 64 Ty.ptr (λ v. Terminator.ret (some (typed Ty.ptr v))) ∷
    term 1 Ty.void (λ v. Terminator.br (some v) 8 (some 9)) ∷ term 8 Ty.void (λ v. Terminator.switch (Ty.int 8) v 8 []) ∷
    []

-- ---- locals: of this width, of another, not set, a cmpxchg's
unfoldable pub locals_at : Place → List ℕ
locals_at p = map (λ (x : ℕ). p.answer (Value.local x)) (p.width ∷ 16 ∷ 99 ∷ 100 ∷ [])

pub locals_hold : OnAll places locals_at (λ (p : Place). 0 ∷ 102 ∷ 101 ∷ 108 ∷ [])
unfolding open_manual open_sweep open_alone places locals_at
locals_hold = refl

-- ---- integers: 0, -1, and what is beyond the width; of 64 bits every word is in range
unfoldable pub integers_at : Place → List ℕ
integers_at p = map (λ (x : ℕ). p.answer (Value.int x)) (0 ∷ (2 ^ 64 - 1) ∷ 2 ^ p.width % 2 ^ 64 ∷ [])

pub integers_hold : OnAll places integers_at (λ (p : Place). 0 ∷ 0 ∷ cond (eqb p.width 64) 0 p.beyond ∷ [])
unfolding open_manual open_sweep open_alone places integers_at
integers_hold = refl

-- ---- the four zeros; a global, whose address is a pointer; any other constant
unfoldable pub constants_at : Place → List ℕ
constants_at p = map p.answer (zeros ++ (Value.global 1 ∷ Value.other ∷ []))

pub constants_hold : OnAll places constants_at (λ (p : Place). 0 ∷ 0 ∷ 0 ∷ 0 ∷ cond (eqb p.width 64) 0 103 ∷ 103 ∷ [])
unfolding open_manual open_sweep open_alone places constants_at
constants_hold = refl

-- ---- a callee that is a local, and a place's count, which is fixed where it is an integer: here in a function with such a place
framed : Places
framed = record { offsets = (200, 16) ∷ []; off = 24; dynamic = true }

unfoldable pub counted : Ty → Value → ℕ
unfolding framed
counted t v = number (run_inst (given Ty.void framed []) (record { dest = some 200; kind = InstKind.alloca (Ty.int 8) (some (typed t v)) none }) (standing furnished))

unfoldable pub others : List Place
unfolding inst counted
others =
    inst 64 (λ v. InstKind.call (Ty.int 8) v []) ∷ record { width = 8; beyond = 0; answer = counted (Ty.int 8) } ∷ record { width = 1; beyond = 0; answer = counted (Ty.int 1) } ∷
    record { width = 64; beyond = 0; answer = counted (Ty.int 64) } ∷ []

pub others_hold : (OnAll others locals_at (λ (p : Place). 0 ∷ 102 ∷ 101 ∷ 108 ∷ []))
    × (map (counted (Ty.int 8)) (zeros ++ (Value.int 0 ∷ Value.int 255 ∷ Value.global 1 ∷ Value.other ∷ [])) ≡ 0 ∷ 0 ∷ 0 ∷ 0 ∷ 0 ∷ 0 ∷ 103 ∷ 103 ∷ [])
unfolding open_manual open_sweep open_alone others locals_at counted
others_hold = (refl, refl)
