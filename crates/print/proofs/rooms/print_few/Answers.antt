-- `print_few` meets its contract: its rooms are enough.
use Rattle.std.proofs.Common.{rules, arith}
use Rattle.print.specs.Heads.{zeroed}
use Rattle.print.proofs.rooms.print_few.Goals as goal

pub print_every-requires : goal.print_every-requires
print_every-requires g c =
    let few = c.requires.count_bound in
    let room = c.requires.room in
    record {
      decoded = c.requires.decoded;
      kinds_len_bound = c.requires.kinds_len_bound;
      count_bound = omega arith;
      count_in_bounds = search rules;
      zeroed = zeroed _;
      count_in_bounds_2 = search rules;
    }
