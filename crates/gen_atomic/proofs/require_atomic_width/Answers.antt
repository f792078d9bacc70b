-- `gen_atomic::require_atomic_width` meets its contract.
use Rattle.gen_size.specs.Lent as lent
use Rattle.gen_atomic.specs.Atomic as laws
use Rattle.gen_atomic.proofs.require_atomic_width.Goals as goal

pub returns : goal.returns
returns c = λ fs p k qs os fields maps.
    let size = c.measured_size-size.ensures in
    lent.did maps size.after
    (laws.width_puts k p.0 qs os (lent.size_asked c.args.kinds.now c.args.words.now fields maps size) c.need.ensures)
