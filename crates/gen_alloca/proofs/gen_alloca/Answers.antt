-- `gen_alloca::gen_alloca` meets its contract.
use Rattle.gen_alloca.specs.Alloca as laws
use Rattle.gen_alloca.proofs.gen_alloca.Goals as goal

pub returns-then-dest-eq0 : goal.returns-then-dest-eq0
returns-then-dest-eq0 c = λ p k fields maps base.
    record {
      puts = laws.nameless_puts k c.args.dest p.0 p.1.0 p.1.1.0 c.args.lines.now c.args.operands.now c.if-dest-eq0.true c.refuse.ensures;
      maps = maps;
    }

pub returns : goal.returns
returns c = λ p k fields maps base.
    let place = c.place_of-placed.ensures p k fields maps base in
    record {
      puts = laws.alloca_puts k c.args.dest p.0 p.1.0 p.1.1.0 c.if-dest-eq0.false place.puts
          (c.store_dest.ensures c.args.names k c.requires.result place.maps.locals);
      maps = place.maps;
    }
