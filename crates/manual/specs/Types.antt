-- Every instruction and terminator by the type of its value: integers of each width and pointers go on, where the manual takes them; "a value of struct, packed
-- struct, array or packed array type" stops, and a type of no value is ill-formed.
use Rattle.std.specs.Prelude.{ℕ, ◌≡◌, refl, List, [], ◌∷◌, ◌++◌, map}
use Rattle.std.proofs.Math.Option.{none, some}
use Rattle.book.specs.Ast.{Ty, Value, Zero, BinOp, ConvOp, ICmpPred, InstKind, Terminator}
use Rattle.machine.specs.Sweep.{OnAll, pairs, open_sweep}
use Rattle.manual.specs.Open.{open_manual}
use Rattle.manual.specs.Alone.{scalars, aggregates, valueless, furnished, gives, ends, crosses, number, typed, open_alone}

-- what a run with this type answers, 0 where it goes on; every operand is poison, which is 0 at any width
abbrev pub Use : Type 0
Use = Ty → ℕ

unfoldable pub inst : (Ty → InstKind) → Use
inst k t = number (gives furnished (k t))

unfoldable pub term : (Ty → Terminator) → Use
term k t = number (ends (Ty.int 8) furnished (k t))

unfoldable pub z : Value
z = Value.zero Zero.poison

on_edge : Use
on_edge t = number (crosses t (Value.zero Zero.poison))

-- ---- those that take integers and pointers
unfoldable pub uses : List Use
unfolding inst z on_edge
uses =
    inst (λ t. InstKind.conv ConvOp.bit_cast t z t) ∷ inst (λ t. InstKind.icmp ICmpPred.eq t z z) ∷ inst (λ t. InstKind.select (Value.int 1) t z z) ∷ inst (λ t. InstKind.freeze t z) ∷
    inst (λ t. InstKind.call (Ty.int 8) (Value.global 1) (typed t z ∷ [])) ∷ on_edge ∷ []

-- and integers alone
unfoldable pub integer_uses : List Use
unfolding inst term z
integer_uses = map (λ (op : BinOp). inst (λ t. InstKind.bin op t z z)) (BinOp.add ∷ BinOp.mul ∷ BinOp.and ∷ BinOp.shl ∷ BinOp.ashr ∷ []) ++ (term (λ t. Terminator.switch t z 8 []) ∷ [])

-- ---- those that measure it: loads, stores, compare-and-swap
unfoldable pub accesses : List Use
unfolding inst z
accesses =
    inst (λ t. InstKind.load t z none) ∷ inst (λ t. InstKind.store t z z none) ∷ inst (λ t. InstKind.atomic_load t z)
    ∷ inst (λ t. InstKind.atomic_store t z z) ∷ inst (λ t. InstKind.cmpxchg t z z z) ∷ []

open_this : Unit {0}
unfolding open_manual open_sweep open_alone uses integer_uses accesses
open_this = tt

pub scalars_go :
    (OnAll (pairs (uses ++ accesses) scalars) (λ (p : Use × Ty). p.0 p.1) (λ (p : Use × Ty). 0))
    × (OnAll integer_uses (λ (u : Use). map u scalars) (λ (u : Use). 0 ∷ 0 ∷ 0 ∷ 0 ∷ 0 ∷ 103 ∷ []))
unfolding open_this
scalars_go = (refl, refl)

pub aggregates_stop : OnAll (pairs (uses ++ (integer_uses ++ accesses)) aggregates) (λ (p : Use × Ty). p.0 p.1) (λ (p : Use × Ty). 108)
unfolding open_this
aggregates_stop = refl

pub valueless_stop : OnAll (pairs (uses ++ integer_uses) valueless) (λ (p : Use × Ty). p.0 p.1) (λ (p : Use × Ty). 103)
unfolding open_this
valueless_stop = refl

-- either side of a conversion
unfoldable pub conversions : List ConvOp
conversions = ConvOp.trunc ∷ ConvOp.zext ∷ ConvOp.sext ∷ ConvOp.ptr_to_int ∷ ConvOp.int_to_ptr ∷ ConvOp.bit_cast ∷ []

unfoldable pub either_side : ConvOp × Ty → List ℕ
either_side p = inst (λ t. InstKind.conv p.0 t z (Ty.int 8)) p.1 ∷ inst (λ t. InstKind.conv p.0 (Ty.int 8) z t) p.1 ∷ []

pub conversions_stop :
    (OnAll (pairs conversions aggregates) either_side (λ (p : ConvOp × Ty). 108 ∷ 108 ∷ [])) × (OnAll (pairs conversions valueless) either_side (λ (p : ConvOp × Ty). 103 ∷ 103 ∷ []))
unfolding open_this inst z conversions either_side
conversions_stop = (refl, refl)

-- ---- a place and an address may be of any type that can be measured
pub measured_go :
    (OnAll (scalars ++ aggregates) (inst (λ t. InstKind.get_element_ptr t z (typed (Ty.int 64) (Value.int 1) ∷ []))) (λ (t : Ty). 0))
    × (OnAll (scalars ++ aggregates) (inst (λ t. InstKind.alloca t (some (typed (Ty.int 8) z)) none)) (λ (t : Ty). 0))
unfolding open_this inst z
measured_go = (refl, refl)

-- an index into a part: integers and pointers have none; of the aggregates the empty struct has no field 0
pub parts_hold :
    (OnAll scalars (inst (λ t. InstKind.get_element_ptr t z (typed (Ty.int 64) (Value.int 1) ∷ typed (Ty.int 32) (Value.int 0) ∷ []))) (λ (t : Ty). 103))
    × (map (inst (λ t. InstKind.get_element_ptr t z (typed (Ty.int 64) (Value.int 1) ∷ typed (Ty.int 32) (Value.int 0) ∷ []))) aggregates ≡ 0 ∷ 0 ∷ 103 ∷ 0 ∷ 0 ∷ 0 ∷ 0 ∷ [])
unfolding open_this inst z
parts_hold = (refl, refl)
