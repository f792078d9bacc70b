-- "Conversion Operations" at every pair of widths from 1 to 64: those that the manual allows go on, with these values, and every other pair stops. What is allowed is
-- said by two lists, of all pairs whose first is the wider and of all others, and not by a test.
use Rattle.std.specs.Prelude.{ℕ, ◌-◌, ◌^◌, ◌≡◌, refl, List, [], ◌∷◌, map}
use Rattle.std.proofs.Math.Option.{Option, some}
use Rattle.book.specs.Ast.{Ty, Value, ConvOp, InstKind}
use Rattle.book.specs.Result.{Result, ok}
use Rattle.machine.specs.Sweep.{OnAll, down_from, each, open_sweep}
use Rattle.manual.specs.Stop.{Stop, stops}
use Rattle.manual.specs.State.{Cell, nothing, with}
use Rattle.manual.specs.Open.{open_manual}
use Rattle.manual.specs.Alone.{gives, open_alone}

unfoldable pub widths : List ℕ
unfolding down_from
widths = down_from 64

-- (a, b) with a above b; (a, b) with a at most b
unfoldable pub wider : List (ℕ × ℕ)
wider = each (λ (a : ℕ). map (λ (b : ℕ). (a, b)) (down_from (a - 1))) widths

unfoldable pub not_wider : List (ℕ × ℕ)
not_wider = each (λ (b : ℕ). map (λ (a : ℕ). (a, b)) (down_from b)) widths

-- ---- two numbers of w bits: the top bit alone, and all the others
unfoldable pub telling : ℕ → List ℕ
telling w = 2 ^ (w - 1) ∷ (2 ^ (w - 1) - 1) ∷ []

-- what becomes of a value of fw bits
unfoldable pub converted : ConvOp → (from to : Ty) → (fw x : ℕ) → Result (Option Cell)
converted op from to fw x = gives (with 0 (Cell.one fw x) nothing) (InstKind.conv op from (Value.local 0) to)

unfoldable pub both : ConvOp → (from to : Ty) → (fw : ℕ) → List (Result (Option Cell))
both op from to fw = map (converted op from to fw) (telling fw)

unfoldable pub values : (w : ℕ) → List ℕ → List (Result (Option Cell))
values w xs = map (λ (x : ℕ). ok (some (Cell.one w x))) xs

-- between integers: from the first width to the second, and the other way round
unfoldable pub down : ConvOp → ℕ × ℕ → List (Result (Option Cell))
down op p = both op (Ty.int p.0) (Ty.int p.1) p.0

unfoldable pub up : ConvOp → ℕ × ℕ → List (Result (Option Cell))
up op p = both op (Ty.int p.1) (Ty.int p.0) p.1

-- what is ill-formed is so whatever the value
unfoldable pub down_one : ConvOp → ℕ × ℕ → Result (Option Cell)
down_one op p = converted op (Ty.int p.0) (Ty.int p.1) p.0 1

unfoldable pub up_one : ConvOp → ℕ × ℕ → Result (Option Cell)
up_one op p = converted op (Ty.int p.1) (Ty.int p.0) p.1 1

unfoldable pub ill_formed : ℕ × ℕ → Result (Option Cell)
ill_formed p = stops Stop.ill_formed

open_this : Unit {0}
unfolding open_manual open_sweep open_alone widths wider not_wider telling converted both values down up down_one up_one ill_formed
open_this = tt

-- "The bit size of the value must be larger than the bit size of the destination type": the low bits are left
pub truncs_hold : (OnAll wider (down ConvOp.trunc) (λ (p : ℕ × ℕ). values p.1 (0 ∷ (2 ^ p.1 - 1) ∷ []))) × (OnAll not_wider (down_one ConvOp.trunc) ill_formed)
unfolding open_this
truncs_hold = (refl, refl)

-- ".. must be smaller ..": "fills the high order bits of the value with zero bits", or with "the sign bit (highest order bit) of the value"
pub zexts_hold : (OnAll wider (up ConvOp.zext) (λ (p : ℕ × ℕ). values p.0 (telling p.1))) × (OnAll not_wider (up_one ConvOp.zext) ill_formed)
unfolding open_this
zexts_hold = (refl, refl)

pub sexts_hold :
    (OnAll wider (up ConvOp.sext) (λ (p : ℕ × ℕ). values p.0 ((2 ^ p.0 - 2 ^ (p.1 - 1)) ∷ (2 ^ (p.1 - 1) - 1) ∷ [])))
    × (OnAll not_wider (up_one ConvOp.sext) ill_formed)
unfolding open_this
sexts_hold = (refl, refl)

-- "It is always a no-op cast because no bits change": between the same widths alone, and from a pointer to a pointer
pub bitcasts_hold :
    (OnAll widths (λ (w : ℕ). both ConvOp.bit_cast (Ty.int w) (Ty.int w) w) (λ (w : ℕ). values w (telling w))) × (both ConvOp.bit_cast Ty.ptr Ty.ptr 64 ≡ values 64 (telling 64))
    × (OnAll wider (down_one ConvOp.bit_cast) ill_formed) × (OnAll wider (up_one ConvOp.bit_cast) ill_formed)
unfolding open_this
bitcasts_hold = (refl, refl, refl, refl)

-- a pointer to an integer of every width, "truncating or zero extending"; from an integer narrower than a pointer it is ill-formed, to any width
pub ptrtoints_hold :
    (OnAll (down_from 63) (λ (w : ℕ). both ConvOp.ptr_to_int Ty.ptr (Ty.int w) 64) (λ (w : ℕ). values w (0 ∷ (2 ^ w - 1) ∷ [])))
    × (both ConvOp.ptr_to_int Ty.ptr (Ty.int 64) 64 ≡ values 64 (telling 64))
    × (OnAll wider (up_one ConvOp.ptr_to_int) ill_formed) × (OnAll (down_from 63) (λ (w : ℕ). converted ConvOp.ptr_to_int (Ty.int w) (Ty.int w) w 1) (λ (w : ℕ). stops Stop.ill_formed))
unfolding open_this
ptrtoints_hold = (refl, refl, refl, refl)

-- an integer of every width to a pointer; to an integer narrower than a pointer it is ill-formed, from any width
pub inttoptrs_hold :
    (OnAll widths (λ (w : ℕ). both ConvOp.int_to_ptr (Ty.int w) Ty.ptr w) (λ (w : ℕ). values 64 (telling w)))
    × (OnAll wider (down_one ConvOp.int_to_ptr) ill_formed) × (OnAll (down_from 63) (λ (w : ℕ). converted ConvOp.int_to_ptr (Ty.int w) (Ty.int w) w 1) (λ (w : ℕ). stops Stop.ill_formed))
unfolding open_this
inttoptrs_hold = (refl, refl, refl)
