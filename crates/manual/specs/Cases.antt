-- Values by the manual at several widths, and edges: each row from a sentence of the LLVM Language Reference Manual or of document 01, one table a kind.
use Rattle.std.specs.Prelude.{ℕ, ◌+◌, ◌-◌, ◌^◌, ◌≡◌, refl, Bool, true, false, List, [], ◌∷◌, map}
use Rattle.std.proofs.Math.Option.{Option, none, some}
use Rattle.book.specs.Ast.{Ty, Tys, Value, Zero, TypedVal, BinOp, ConvOp, ICmpPred, Case}
use Rattle.book.specs.Result.{Result, ok, bind}
use Rattle.machine.specs.State.{World}
use Rattle.manual.specs.Stop.{Stop, stops}
use Rattle.manual.specs.Values.{bin_value, icmp_value, conv_value, conv_widths}
use Rattle.manual.specs.State.{Cell, Env, nothing, with}
use Rattle.manual.specs.Operand.{value}
use Rattle.manual.specs.Gep.{offset}
use Rattle.manual.specs.Inst.{place_above}
use Rattle.manual.specs.Term.{Phi, take_phis, case_for}
use Rattle.manual.specs.Open.{open_manual}

-- ---- "Binary Operations", "Bitwise Binary Operations"
pub record Bin : Type 0 where
  pub op : BinOp
  pub width : ℕ
  pub x : ℕ
  pub y : ℕ
  pub says : Result ℕ

bin : BinOp → (w x y : ℕ) → Result ℕ → Bin
bin op w x y r = record { op = op; width = w; x = x; y = y; says = r }

unfoldable pub bins : List Bin
unfolding bin
bins =
    -- "the mathematical result modulo 2^n"
    bin BinOp.add 1 1 1 (ok 0) ∷
    bin BinOp.add 33 (2 ^ 33 - 1) 2 (ok 1) ∷
    bin BinOp.sub 8 3 10 (ok 249) ∷
    bin BinOp.mul 7 100 3 (ok 44) ∷
    bin BinOp.mul 64 (2 ^ 63) 3 (ok (2 ^ 63)) ∷
    bin BinOp.udiv 8 200 7 (ok 28) ∷
    bin BinOp.udiv 8 200 0 (stops Stop.undefined) ∷
    bin BinOp.urem 16 65535 256 (ok 255) ∷
    bin BinOp.urem 16 1 0 (stops Stop.undefined) ∷
    -- "rounded towards zero": -100 / 7 is -14, 100 / -7 too
    bin BinOp.sdiv 8 156 7 (ok 242) ∷
    bin BinOp.sdiv 8 100 249 (ok 242) ∷
    bin BinOp.sdiv 8 156 0 (stops Stop.undefined) ∷
    -- "Overflow also leads to undefined behavior": -128 / -1, and at one bit -1 / -1
    bin BinOp.sdiv 8 128 255 (stops Stop.undefined) ∷
    bin BinOp.sdiv 16 128 65535 (ok (65536 - 128)) ∷
    bin BinOp.sdiv 1 1 1 (stops Stop.undefined) ∷
    -- "the same sign as the dividend": -100 rem 7 is -2, 100 rem -7 is 2
    bin BinOp.srem 8 156 7 (ok 254) ∷
    bin BinOp.srem 8 100 249 (ok 2) ∷
    bin BinOp.srem 8 128 255 (stops Stop.undefined) ∷
    bin BinOp.and 5 21 19 (ok 17) ∷
    bin BinOp.or 5 21 19 (ok 23) ∷
    bin BinOp.xor 5 21 19 (ok 6) ∷
    -- "op1 * 2^op2 mod 2^n"; "equal to or larger than the number of bits": poison
    bin BinOp.shl 8 129 1 (ok 2) ∷
    bin BinOp.shl 8 1 8 (stops Stop.undefined) ∷
    bin BinOp.lshr 8 129 7 (ok 1) ∷
    bin BinOp.lshr 33 (2 ^ 32) 32 (ok 1) ∷
    bin BinOp.lshr 32 1 32 (stops Stop.undefined) ∷
    -- "filled with the sign bit": -127 shifted by 1 is -64
    bin BinOp.ashr 8 129 1 (ok 192) ∷
    bin BinOp.ashr 16 129 1 (ok 64) ∷
    bin BinOp.ashr 1 1 0 (ok 1) ∷
    bin BinOp.ashr 8 129 8 (stops Stop.undefined) ∷
    []

pub bins_hold : map (λ (b : Bin). bin_value b.op b.width b.x b.y) bins ≡ map (λ (b : Bin). b.says) bins
unfolding open_manual bins
bins_hold = refl

-- ---- "'icmp' Instruction": what each predicate says of two numbers of 8 bits, 200 and 100, and 100 and 100
abbrev pub predicates : List ICmpPred
predicates = ICmpPred.eq ∷ ICmpPred.ne ∷ ICmpPred.ugt ∷ ICmpPred.uge ∷ ICmpPred.ult ∷ ICmpPred.ule ∷ ICmpPred.sgt ∷ ICmpPred.sge ∷ ICmpPred.slt ∷ ICmpPred.sle ∷ []

pub icmps_hold : (map (λ p. icmp_value p 8 200 100) predicates ≡ false ∷ true ∷ true ∷ true ∷ false ∷ false ∷ false ∷ false ∷ true ∷ true ∷ [])
    × (map (λ p. icmp_value p 8 100 100) predicates ≡ true ∷ false ∷ false ∷ true ∷ false ∷ true ∷ false ∷ true ∷ false ∷ true ∷ [])
    × (map (λ p. icmp_value p 16 200 100) predicates ≡ false ∷ true ∷ true ∷ true ∷ false ∷ false ∷ true ∷ true ∷ false ∷ false ∷ [])
unfolding open_manual
icmps_hold = (refl, refl, refl)

-- ---- "Conversion Operations"
pub record Conv : Type 0 where
  pub op : ConvOp
  pub from : ℕ
  pub to : ℕ
  pub x : ℕ
  pub allowed : Bool
  pub says : ℕ

conv : ConvOp → (fw tw x : ℕ) → Bool → ℕ → Conv
conv op fw tw x t v = record { op = op; from = fw; to = tw; x = x; allowed = t; says = v }

unfoldable pub convs : List Conv
unfolding conv
convs =
    conv ConvOp.trunc 64 1 511 true 1 ∷
    conv ConvOp.trunc 8 8 5 false 5 ∷
    conv ConvOp.zext 8 64 200 true 200 ∷
    conv ConvOp.zext 8 8 200 false 200 ∷
    conv ConvOp.sext 8 16 200 true 65480 ∷
    conv ConvOp.sext 1 8 1 true 255 ∷
    conv ConvOp.sext 33 64 (2 ^ 32) true (2 ^ 64 - 2 ^ 32) ∷
    conv ConvOp.sext 16 8 200 false 200 ∷
    conv ConvOp.ptr_to_int 64 32 (2 ^ 32 + 5) true 5 ∷
    conv ConvOp.ptr_to_int 32 32 5 false 5 ∷
    conv ConvOp.int_to_ptr 16 64 65535 true 65535 ∷
    conv ConvOp.bit_cast 32 32 7 true 7 ∷
    conv ConvOp.bit_cast 32 64 7 false 7 ∷
    []

pub convs_hold : (map (λ (c : Conv). conv_widths c.op c.from c.to) convs ≡ map (λ (c : Conv). c.allowed) convs)
    × (map (λ (c : Conv). conv_value c.op c.from c.to c.x) convs ≡ map (λ (c : Conv). c.says) convs)
unfolding open_manual convs
convs_hold = (refl, refl)

-- ---- operands: "an integer outside both the signed and the unsigned range of its width"
abbrev pub world : World
world = record { globals = λ x. 8192 + x; shapes = λ t. none; replies = λ n. record { cell = 0; memory = λ a. 0 } }

-- %0 is 10 and %1 is 11, of 8 bits; %2 a cmpxchg's result
abbrev pub env : Env
env = with 0 (Cell.one 8 10) (with 1 (Cell.one 8 11) (with 2 (Cell.two 64 5 1) nothing))

pub operands_hold :
    map (λ (v : Value). value world env 8 v) (Value.int 255 ∷ Value.int 256 ∷ Value.int (2 ^ 64 - 128) ∷ Value.int (2 ^ 64 - 129) ∷ Value.zero Zero.poison ∷ Value.local 1 ∷ Value.local 2 ∷ Value.local 3 ∷ Value.global 4 ∷ [])
    ≡ ok 255 ∷ stops Stop.integer_range ∷ ok 128 ∷ stops Stop.integer_range ∷ ok 0 ∷ ok 11 ∷ stops Stop.aggregate ∷ stops Stop.unset ∷ stops Stop.ill_formed ∷ []
unfolding open_manual
operands_hold = refl

pub widths_hold : map (λ (w : ℕ). value world env w (Value.local 0)) (8 ∷ 16 ∷ []) ≡ ok 10 ∷ stops Stop.other_width ∷ []
unfolding open_manual
widths_hold = refl

-- ---- edges: "leading phis are taken on the edge"; each reads what stood before it. From block 7, %0 takes %1 and %1 takes %0; the first pair for 7 counts
abbrev pub swapping : List Phi
swapping =
    record { dest = some 0; ty = Ty.int 8; incoming = record { val = Value.int 99; label = 6 } ∷ record { val = Value.local 1; label = 7 } ∷ record { val = Value.int 98; label = 7 } ∷ [] } ∷
    record { dest = some 1; ty = Ty.int 8; incoming = record { val = Value.local 0; label = 7 } ∷ [] } ∷
    []

abbrev pub after : ℕ → Result (Option Cell)
after x = bind (take_phis world 7 swapping env) λ ρ. ok (ρ x)

pub edge_holds : map after (0 ∷ 1 ∷ []) ≡ ok (some (Cell.one 8 11)) ∷ ok (some (Cell.one 8 10)) ∷ []
unfolding open_manual
edge_holds = refl

-- "'switch' Instruction": the first equal case, -1 of 8 bits among them; a case outside both ranges stops
abbrev pub cases : List Case
cases = record { value = 5; label = 1 } ∷ record { value = 2 ^ 64 - 1; label = 2 } ∷ record { value = 255; label = 3 } ∷ record { value = 256; label = 4 } ∷ []

pub switch_holds : map (λ (x : ℕ). case_for 8 x 9 cases) (5 ∷ 255 ∷ 6 ∷ []) ≡ ok 1 ∷ ok 2 ∷ stops Stop.integer_range ∷ []
unfolding open_manual
switch_holds = refl

-- ---- "'getelementptr' Instruction": over {i8, i32, i8} of 12 bytes, whose fields stand at 0, 4 and 8
abbrev pub triple : Ty
triple = Ty.struct false (Tys.cons (Ty.int 8) (Tys.cons (Ty.int 32) (Tys.cons (Ty.int 8) Tys.nil)))

abbrev pub i32 : ℕ → TypedVal
i32 n = record { ty = Ty.int 32; val = Value.int n }

-- %0 of 8 bits, 250, is -6; constant indices; a field that is not constant; an index outside its type's signed range
pub gep_holds :
    map (λ (is : List TypedVal). offset world [] (with 0 (Cell.one 8 250) nothing) triple is)
    ((i32 1 ∷ i32 2 ∷ []) ∷ (i32 (2 ^ 64 - 1) ∷ i32 0 ∷ []) ∷ (record { ty = Ty.int 8; val = Value.local 0 } ∷ i32 1 ∷ []) ∷ (i32 0 ∷ record { ty = Ty.int 8; val = Value.local 0 } ∷ []) ∷ (record { ty = Ty.int 8; val = Value.int 128 } ∷ []) ∷ [])
    ≡ ok 20 ∷ ok (2 ^ 64 - 12) ∷ ok (2 ^ 64 - 68) ∷ stops Stop.ill_formed ∷ stops Stop.index_range ∷ []
unfolding open_manual
gep_holds = refl

-- ---- varying places: rounded up to 8 at least, and modulo 2^64
pub places_hold : map (λ (p : ℕ × ℕ). place_above p.0 p.1) ((1001, 4) ∷ (1008, 1) ∷ (1001, 64) ∷ (2 ^ 64 - 1, 8) ∷ []) ≡ 1008 ∷ 1008 ∷ 1024 ∷ 0 ∷ []
unfolding open_manual
places_hold = refl
