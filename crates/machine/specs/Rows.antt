-- Rows of arithmetic at a width w, by rule: the ends of its ranges, a divisor of 0, the overflowing pair, shifts by w - 1 and by w. Here the machine's operations
-- are held to them at 32 and 64 bits; `manual` holds the manual's to the same at every width from 1 to 64. None is a failure.
use Rattle.std.specs.Prelude.{ℕ, ◌+◌, ◌-◌, ◌^◌, Bool, true, false, List, [], ◌∷◌, ◌++◌}
use Rattle.std.proofs.Math.Option.{Option, none, some}
use Rattle.book.specs.Ast.{BinOp}

pub record Row : Type 0 where
  pub op : BinOp
  pub x : ℕ
  pub y : ℕ
  pub says : Option ℕ

row : BinOp → (x y : ℕ) → ℕ → Row
row op x y v = record { op = op; x = x; y = y; says = some v }

-- undefined
bad : BinOp → (x y : ℕ) → Row
bad op x y = record { op = op; x = x; y = y; says = none }

-- m is 2^w and h its half, so that m - 1 is -1 and h the least signed number
unfoldable pub always : (w h m : ℕ) → List Row
unfolding row bad
always w h m =
    row BinOp.add (m - 1) 1 0 ∷ row BinOp.add h (h - 1) (m - 1) ∷ row BinOp.add h h 0 ∷
    row BinOp.sub 0 1 (m - 1) ∷ row BinOp.sub 0 (m - 1) 1 ∷ row BinOp.sub h h 0 ∷ row BinOp.sub (m - 1) h (h - 1) ∷
    row BinOp.mul (m - 1) (m - 1) 1 ∷ row BinOp.mul h 1 h ∷ row BinOp.mul h (m - 1) h ∷
    -- a zero divisor
    bad BinOp.udiv (m - 1) 0 ∷ bad BinOp.udiv 0 0 ∷ row BinOp.udiv 0 1 0 ∷ row BinOp.udiv (m - 1) 1 (m - 1) ∷ row BinOp.udiv (m - 1) (m - 1) 1 ∷
    bad BinOp.urem (m - 1) 0 ∷ bad BinOp.urem 0 0 ∷ row BinOp.urem (m - 1) 1 0 ∷ row BinOp.urem (m - 1) (m - 1) 0 ∷
    bad BinOp.sdiv h 0 ∷ bad BinOp.sdiv 0 0 ∷ row BinOp.sdiv 0 1 0 ∷ row BinOp.sdiv 0 (m - 1) 0 ∷
    bad BinOp.srem h 0 ∷ bad BinOp.srem 0 0 ∷ row BinOp.srem 0 1 0 ∷ row BinOp.srem 0 (m - 1) 0 ∷
    -- the least signed number by -1
    bad BinOp.sdiv h (m - 1) ∷ bad BinOp.srem h (m - 1) ∷
    row BinOp.and (m - 1) h h ∷ row BinOp.and h (h - 1) 0 ∷ row BinOp.or h (h - 1) (m - 1) ∷ row BinOp.or h h h ∷ row BinOp.xor (m - 1) h (h - 1) ∷ row BinOp.xor h h 0 ∷
    -- a shift by 0, by the width less 1, by the width, by the largest number
    row BinOp.shl (m - 1) 0 (m - 1) ∷ row BinOp.shl 1 (w - 1) h ∷ row BinOp.shl (m - 1) (w - 1) h ∷ bad BinOp.shl 1 w ∷ bad BinOp.shl 0 (m - 1) ∷
    row BinOp.lshr (m - 1) 0 (m - 1) ∷ row BinOp.lshr h (w - 1) 1 ∷ row BinOp.lshr (m - 1) (w - 1) 1 ∷ bad BinOp.lshr 1 w ∷ bad BinOp.lshr 0 (m - 1) ∷
    row BinOp.ashr h 0 h ∷ row BinOp.ashr h (w - 1) (m - 1) ∷ row BinOp.ashr (h - 1) (w - 1) 0 ∷ bad BinOp.ashr 1 w ∷ bad BinOp.ashr 0 (m - 1) ∷
    []

-- where 1 is a positive signed number
unfoldable pub from_two : (h m q : ℕ) → List Row
unfolding row
from_two h m q =
    row BinOp.udiv (m - 1) 2 (h - 1) ∷ row BinOp.udiv (m - 2) (m - 1) 0 ∷ row BinOp.urem (m - 1) 2 1 ∷ row BinOp.urem (m - 2) (m - 1) (m - 2) ∷
    -- beside the overflowing pair
    row BinOp.sdiv h 1 h ∷ row BinOp.sdiv (h + 1) (m - 1) (h - 1) ∷ row BinOp.sdiv (h - 1) (m - 1) (h + 1) ∷
    row BinOp.srem h 1 0 ∷ row BinOp.srem (h + 1) (m - 1) 0 ∷ row BinOp.srem (h - 1) (m - 1) 0 ∷
    row BinOp.shl 1 1 2 ∷ row BinOp.lshr h 1 q ∷ row BinOp.ashr h 1 (h + q) ∷
    []

-- where 2 and 3 are; q is a quarter of m
unfoldable pub from_three : (h m q : ℕ) → List Row
unfolding row
from_three h m q =
    -- "rounded towards zero", "the same sign as the dividend": -1, -3 and 3 by 2, 3 by -2, the least number by -2 and by itself
    row BinOp.sdiv (m - 1) 2 0 ∷ row BinOp.sdiv (m - 3) 2 (m - 1) ∷ row BinOp.sdiv 3 2 1 ∷ row BinOp.sdiv 3 (m - 2) (m - 1) ∷ row BinOp.sdiv h (m - 2) q ∷ row BinOp.sdiv h h 1 ∷
    row BinOp.srem (m - 1) 2 (m - 1) ∷ row BinOp.srem (m - 3) 2 (m - 1) ∷ row BinOp.srem 3 2 1 ∷ row BinOp.srem 3 (m - 2) 1 ∷ row BinOp.srem h (m - 2) 0 ∷ row BinOp.srem h h 0 ∷
    row BinOp.mul (m - 3) 2 (m - 6) ∷ row BinOp.sub 3 (m - 2) 5 ∷
    []

-- ---- what each predicate says, in ast.rs order, of the least signed number and the greatest, the other way round, and of two equal ones
unfoldable pub least_greatest : List Bool
least_greatest = false ∷ true ∷ true ∷ true ∷ false ∷ false ∷ false ∷ false ∷ true ∷ true ∷ []

unfoldable pub greatest_least : List Bool
greatest_least = false ∷ true ∷ false ∷ false ∷ true ∷ true ∷ true ∷ true ∷ false ∷ false ∷ []

unfoldable pub equals : List Bool
equals = true ∷ false ∷ false ∷ true ∷ false ∷ true ∷ false ∷ true ∷ false ∷ true ∷ []

unfoldable pub rows_at : (w : ℕ) → List Row
rows_at w = always w (2 ^ (w - 1)) (2 ^ w) ++ (from_two (2 ^ (w - 1)) (2 ^ w) (2 ^ (w - 2)) ++ from_three (2 ^ (w - 1)) (2 ^ w) (2 ^ (w - 2)))

-- opens every definition of this file, for a table that computes
unfoldable pub open_rows : Unit {0}
unfolding always from_two from_three least_greatest greatest_least equals rows_at
open_rows = tt
