-- `gen_alloca::place_of` meets its contract.
use mathlib.Core.Path.{refl}
use Rattle.gen_alloca.specs.Alloca as laws
use Rattle.gen_alloca.proofs.place_of.Goals as goal

pub returns-then-place-ne0 : goal.returns-then-place-ne0
returns-then-place-ne0 c = λ p k fields maps base.
    record {
      puts = laws.place_fixed maps c.args.name c.requires.below refl p.0 p.1.0 p.1.1.0 c.if-place-ne0.true (c.fixed_place.ensures k base);
      maps = maps;
    }

pub returns : goal.returns
returns c = λ p k fields maps base.
    let dynamic = c.gen_dynamic_alloca.ensures p k fields maps in
    record {
      puts = laws.place_varying maps c.args.name c.requires.below refl p.0 p.1.0 p.1.1.0 c.if-place-ne0.false dynamic.puts;
      maps = dynamic.maps;
    }
