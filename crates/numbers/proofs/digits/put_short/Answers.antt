-- `put_short` meets its contract by the number of digits.
use Rattle.std.proofs.Common.{arith, length-set}
use Rattle.numbers.specs.Digits.{length_pos, length_small, length_two, short_one, short_two}
use Rattle.numbers.proofs.digits.put_short.Goals as goal
use Rattle.numbers.proofs.digits.put_short.Goals.{then-n-lt10, else-n-lt10}

pub bounds-text-at : goal.bounds-text-at
bounds-text-at c = omega (arith, length_pos c.args.n)

pub bounds-text-last : goal.bounds-text-last
bounds-text-last c =
    elim c.if-n-lt10.branch [
      | then-n-lt10 w ↦ simp length-set (omega (arith, length_small c.args.n w.if-n-lt10.true))
      | else-n-lt10 w ↦ simp length-set (omega (arith, length_two c.args.n w.if-n-lt10.false c.requires.n_bound))
    ]

pub returns : goal.returns
returns c =
    elim c.if-n-lt10.branch [
      | then-n-lt10 w ↦ short_one _ _ _ _ w.if-n-lt10.true w.last-is
      | else-n-lt10 w ↦ short_two _ _ _ _ w.if-n-lt10.false c.requires.n_bound w.last-is
    ]
