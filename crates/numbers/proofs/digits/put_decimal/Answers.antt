use Rattle.std.proofs.Common.{◌≡◌, ℕ, suc, ◌+◌, ◌-◌, ◌/◌, ◌%◌, ◌<◌, ◌≤◌, List, [], ◌∷◌, ◌++◌, length, set, sym, refl, ◌∙◌, add-zero, add-suc, suc-add, arith, length-set}
use lib.Seq.{sets, set_comm}
use Rattle.numbers.specs.Digits.{decimal, decimal_small, decimal_more, length_more, length_pos}
use Rattle.numbers.proofs.digits.put_decimal.Invariants.{Writing}
use Rattle.numbers.proofs.digits.put_decimal.Goals as goal

-- the last of a run of stores may be made first
sets_last : (l : List ℕ) (i : ℕ) (xs : List ℕ) (y : ℕ) → sets l i (xs ++ y ∷ []) ≡ sets (set l (i + length xs) y) i xs
sets_last l i [] y = rw (add-zero i)
sets_last l i (x ∷ xs) y =
    sets_last (set l i x) (suc i) xs y
    ∙ rw (set_comm l i (suc i + length xs) x y (omega arith), add-suc i (length xs), suc-add i (length xs))

module _ {n : ℕ} {start : List ℕ} {at : ℕ} {text : List ℕ} {rest i : ℕ} (w : Writing n start at text rest i) where
  turn : 10 ≤ rest → Writing n start at (set text (i - 1) (48 + rest % 10)) (rest / 10) (i - 1)
  turn h =
      let place : i - 1 ≡ at + length (decimal (rest / 10)) = omega (arith, length_more rest h, w.place) in
      record {
        place = place;
        room = omega (arith, w.room);
        long = length-set text (i - 1) (48 + rest % 10) ∙ w.long;
        same = rw place (sym (sets_last text at (decimal (rest / 10)) (48 + rest % 10)) ∙ rw (← decimal_more rest h) w.same);
      }

  last : rest < 10 → set text at (48 + rest) ≡ sets start at (decimal n)
  last h = rw (decimal_small rest h) at w.same

pub loop-rest-init : goal.loop-rest-init
loop-rest-init c = record { place = omega arith; room = omega arith; long = refl; same = refl }

pub overflow_sub-i : goal.overflow_sub-i
overflow_sub-i c = omega (arith, length_pos c.loop-rest.rest)

pub bounds-text-i : goal.bounds-text-i
bounds-text-i c = omega (arith, length_pos c.loop-rest.rest)

pub loop-rest-preserved : goal.loop-rest-preserved
loop-rest-preserved c = turn c.loop-rest.invariant c.loop-rest-test.true

pub bounds-text-at : goal.bounds-text-at
bounds-text-at c = omega (arith, length_pos c.loop-rest.rest)

pub shape_of-text : goal.shape_of-text
shape_of-text c = simp length-set c.loop-rest.invariant.long

pub returns : goal.returns
returns c = (omega arith, last c.loop-rest.invariant c.loop-rest-test.false)
