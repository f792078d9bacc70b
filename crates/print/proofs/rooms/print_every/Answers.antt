-- `print_every` meets its contract: the check of the names has noted all starts behind the first.
use mathlib.Core.Path.{◌∙◌}
use lib.ListN.{length-set}
use Rattle.names.specs.Text.{bytes}
use Rattle.print.specs.Names.{names_barred, names_named, names_starts, names_printed}
use Rattle.print.proofs.rooms.print_every.Goals as goal

pub shape_of-starts-in_default : goal.shape_of-starts-in_default
shape_of-starts-in_default c =
    c.read_names.auto.nexts ∙ length-set c.args.starts.now 0 0

pub returns-in_default : goal.returns-in_default
unfolding bytes
returns-in_default c = names_barred _ _ _ c.read_names.ensures.value c.in_default.is _ _ _ _

pub print_noted-requires : goal.print_noted-requires
unfolding bytes
print_noted-requires c =
    let sorted = c.in-Some.is in
    let few = c.requires.count_bound in
    let named = names_named _ _ _ c.read_names.ensures.value _ _ sorted few in
    let starts = names_starts _ _ _ c.read_names.ensures.value _ _ sorted few c.args.starts.now c.requires.count_in_bounds c.read_names.ensures.noted_where in
    record {
      decoded = c.requires.decoded;
      kinds_len_bound = c.requires.kinds_len_bound;
      named = named;
      starts = starts;
      zeroed = c.requires.zeroed;
      count_in_bounds = c.requires.count_in_bounds_2;
    }

pub shape_of-starts : goal.shape_of-starts
shape_of-starts c =
    c.read_names.auto.nexts ∙ length-set c.args.starts.now 0 0

pub returns : goal.returns
unfolding bytes
returns c =
    names_printed _ _ _ c.read_names.ensures.value _ _ c.in-Some.is _ _ _ _ c.print_noted.ensures
