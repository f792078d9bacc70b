-- `print_many` meets its contract: names that the check accepts are noted by a pass of their own.
use Rattle.names.specs.Text.{bytes}
use Rattle.print.specs.Heads.{zeroed}
use Rattle.print.specs.Names.{names_barred, names_named, names_printed}
use borrow.Author.Rules.{rules}
use Rattle.print.proofs.rooms.print_many.Goals as goal

pub returns-in_default : goal.returns-in_default
unfolding bytes
returns-in_default c = names_barred _ _ _ c.read_names.ensures.value c.in_default.is _ _ _ _

pub note_eighths-requires : goal.note_eighths-requires
unfolding bytes
note_eighths-requires c =
    let named = names_named _ _ _ c.read_names.ensures.value _ _ c.in-Some.is c.requires.count_bound in
    let few = named.sound.few in
    record {
      sound = named.sound;
      names_len_bound = search rules;
    }

pub print_noted-requires : goal.print_noted-requires
unfolding bytes
print_noted-requires c =
    let named = names_named _ _ _ c.read_names.ensures.value _ _ c.in-Some.is c.requires.count_bound in
    let few = c.requires.count_bound in
    record {
      decoded = c.requires.decoded;
      kinds_len_bound = c.requires.kinds_len_bound;
      named = named;
      starts = c.note_eighths.ensures;
      zeroed = zeroed 131072;
      count_in_bounds = search rules;
    }

pub returns : goal.returns
unfolding bytes
returns c =
    names_printed _ _ _ c.read_names.ensures.value _ _ c.in-Some.is _ _ _ _ c.print_noted.ensures
