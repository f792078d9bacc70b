-- "'getelementptr' Instruction": any address and any step, structs of any number of fields, packed and not, named and not, arrays in arrays; nothing here stops but a
-- field that is not there or not constant. "all GEP constants" and "Varying indices" lead to the same place.
use Rattle.std.specs.Prelude.{ℕ, zero, suc, ◌+◌, ◌-◌, ◌*◌, ◌%◌, ◌^◌, ◌≡◌, refl, Bool, true, false, cond, List, [], ◌∷◌, map, ltb, replicate}
use Rattle.std.proofs.Math.Option.{some}
use Rattle.book.specs.Ast.{Ty, Tys, Value, TypedVal, StructType}
use Rattle.book.specs.Result.{Result, ok}
use Rattle.layout.specs.Frame.{no_frame}
use Rattle.machine.specs.Sweep.{OnAll, up_to, pairs, open_sweep}
use Rattle.manual.specs.Stop.{Stop, stops}
use Rattle.manual.specs.State.{Cell, nothing, with}
use Rattle.manual.specs.Inst.{eval_gep}
use Rattle.manual.specs.Open.{open_manual}
use Rattle.manual.specs.Alone.{standing, given, typed, open_alone}

-- names 20 and 21 are structs of an i8 and an i64, ten of each in turn, the second packed
unfoldable pub listed : List Ty → Tys
listed [] = Tys.nil
listed (t ∷ ts) = Tys.cons t (listed ts)

unfoldable pub in_turn : ℕ → List Ty
in_turn zero = []
in_turn (suc n) = Ty.int 8 ∷ Ty.int 64 ∷ in_turn n

structs : List StructType
unfolding listed in_turn
structs = record { name = 20; body = some (record { packed = false; fields = listed (in_turn 10) }) } ∷ record { name = 21; body = some (record { packed = true; fields = listed (in_turn 10) }) } ∷ []

-- where the indices lead from an address, local 0; local 1 is an index of 64 bits
unfoldable pub leads : Ty → (address index : ℕ) → List TypedVal → Result ℕ
unfolding structs
leads t a n is =
    eval_gep (record { names = []; structs = structs; function = (given Ty.void no_frame []).function; frame = no_frame; world = (given Ty.void no_frame []).world; base = 0 })
    (standing (with 0 (Cell.one 64 a) (with 1 (Cell.one 64 n) nothing))) t (Value.local 0) is

unfoldable pub word : ℕ → TypedVal
word n = typed (Ty.int 64) (Value.int n)

-- ---- over elements of each size, from any address, by any word: modulo 2^64, constant or not
pub record Sized : Type 0 where
  pub ty : Ty
  pub bytes : ℕ

unfoldable pub sized : List Sized
sized =
    record { ty = Ty.int 1; bytes = 1 } ∷ record { ty = Ty.int 16; bytes = 2 } ∷ record { ty = Ty.int 32; bytes = 4 } ∷ record { ty = Ty.ptr; bytes = 8 } ∷
    record { ty = Ty.array false 3 (Ty.int 32); bytes = 12 } ∷ record { ty = Ty.array true 0 Ty.ptr; bytes = 0 } ∷
    record { ty = Ty.named_struct 20; bytes = 160 } ∷ record { ty = Ty.named_struct 21; bytes = 90 } ∷ []

unfoldable pub numbers : List ℕ
numbers = 0 ∷ 1 ∷ 2 ∷ (2 ^ 31 - 1) ∷ 2 ^ 63 ∷ (2 ^ 64 - 2 ^ 31) ∷ (2 ^ 64 - 2) ∷ (2 ^ 64 - 1) ∷ []

pub steps_hold :
    OnAll (pairs sized (pairs numbers numbers))
    (λ (p : Sized × (ℕ × ℕ)). leads p.0.ty p.1.0 0 (word p.1.1 ∷ []) ∷ leads p.0.ty p.1.0 p.1.1 (typed (Ty.int 64) (Value.local 1) ∷ []) ∷ [])
    (λ (p : Sized × (ℕ × ℕ)). replicate 2 (ok ((p.1.0 + p.1.1 * p.0.bytes) % 2 ^ 64)))
unfolding open_manual open_sweep open_alone leads word sized numbers
steps_hold = refl

-- ---- fields: of n i8 the k-th lies at k; behind the last there is none
pub fields_hold :
    OnAll (0 ∷ up_to 40) (λ (k : ℕ). map (λ (p : Bool). leads (Ty.struct p (listed (replicate 40 (Ty.int 8)))) 4096 0 (word 0 ∷ typed (Ty.int 32) (Value.int k) ∷ [])) (false ∷ true ∷ []))
    (λ (k : ℕ). replicate 2 (cond (ltb k 40) (ok (4096 + k)) (stops Stop.ill_formed)))
unfolding open_manual open_sweep open_alone leads word listed
fields_hold = refl

-- an i8 and an i64 in turn: 16 bytes a pair, 9 where packed; the same named and not
unfoldable pub field_of : (t : Ty) → (k : ℕ) → Result ℕ
unfolding word
field_of t k = leads t 4096 0 (word 1 ∷ typed (Ty.int 8) (Value.int k) ∷ [])

pub packed_hold :
    (OnAll (0 ∷ up_to 9) (λ (j : ℕ). map (λ (t : Ty). (field_of t (2 * j) ∷ field_of t (2 * j + 1) ∷ [])) (Ty.named_struct 20 ∷ Ty.struct false (listed (in_turn 10)) ∷ []))
    (λ (j : ℕ). replicate 2 (ok (4256 + 16 * j) ∷ ok (4264 + 16 * j) ∷ [])))
    × (OnAll (0 ∷ up_to 9) (λ (j : ℕ). map (λ (t : Ty). (field_of t (2 * j) ∷ field_of t (2 * j + 1) ∷ [])) (Ty.named_struct 21 ∷ Ty.struct true (listed (in_turn 10)) ∷ []))
    (λ (j : ℕ). replicate 2 (ok (4186 + 9 * j) ∷ ok (4187 + 9 * j) ∷ [])))
    × (map (λ (x : ℕ). field_of (Ty.named_struct x) 20) (20 ∷ 21 ∷ []) ≡ replicate 2 (stops Stop.ill_formed))
unfolding open_manual open_sweep open_alone leads field_of listed in_turn
packed_hold = (refl, refl, refl)

-- a field that is not constant; an element may be, also behind a field
pub constant_fields :
    (map (λ (t : Ty). leads t 4096 0 (word 0 ∷ typed (Ty.int 64) (Value.local 1) ∷ [])) (Ty.named_struct 20 ∷ Ty.struct true (listed (in_turn 1)) ∷ Ty.array false 2 (Ty.int 8) ∷ [])
    ≡ stops Stop.ill_formed ∷ stops Stop.ill_formed ∷ ok 4096 ∷ [])
    × (leads (Ty.struct false (listed (Ty.int 8 ∷ Ty.array false 4 (Ty.int 32) ∷ []))) 4096 3 (word 0 ∷ word 1 ∷ typed (Ty.int 64) (Value.local 1) ∷ []) ≡ ok 4112)
unfolding open_manual open_alone leads word listed in_turn
constant_fields = (refl, refl)

-- ---- pairs in pairs: index 1 at every depth, from the whole down to a byte
unfoldable pub nest : ℕ → Ty
nest zero = Ty.int 8
nest (suc d) = Ty.array false 2 (nest d)

pub depths_hold : OnAll (0 ∷ up_to 20) (λ (d : ℕ). leads (nest d) 0 1 (replicate (d + 1) (word 1)) ∷ leads (nest d) 0 1 (replicate (d + 1) (typed (Ty.int 64) (Value.local 1))) ∷ [])
    (λ (d : ℕ). replicate 2 (ok (2 ^ (d + 1) - 1)))
unfolding open_manual open_sweep open_alone leads word nest
depths_hold = refl
