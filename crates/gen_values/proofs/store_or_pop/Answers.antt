-- `gen_values::store_or_pop` meets its contract.
use Rattle.gen_values.specs.Widths as laws
use Rattle.gen_values.proofs.store_or_pop.Goals as goal

pub returns-then-dest-eq0 : goal.returns-then-dest-eq0
returns-then-dest-eq0 c = λ m k below maps.
    laws.popped_puts k c.args.dest c.if-dest-eq0.true c.put.ensures

pub returns : goal.returns
returns c = λ m k below maps.
    laws.kept_puts k c.args.dest c.if-dest-eq0.false (c.store_dest.ensures m k below maps)
