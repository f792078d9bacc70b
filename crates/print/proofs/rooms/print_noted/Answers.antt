-- `print_noted` meets its contract: the functions are noted, and the first one is known.
use Rattle.std.proofs.Common.{◌≡◌, ◌<◌, length, get_or, arith}
use Rattle.print.specs.Heads.{first_of, first_place}
use Rattle.print.proofs.rooms.print_noted.Goals.{After-function_place-at}
use Rattle.print.proofs.rooms.print_noted.Goals as goal

-- the first function's entry
place : (c : After-function_place-at)
    → (get_or c.args.words.now c.function_place-at.result 0 ≡ first_of c.args.count c.args.kinds.now c.args.words.now)
    × ((c.function_place-at.result < length c.args.kinds.now) × (c.function_place-at.result < length c.args.words.now))
place c = first_place c.args.count c.args.kinds.now c.args.words.now c.requires.decoded _ c.function_place-at.ensures

pub note_functions-requires : goal.note_functions-requires
note_functions-requires c =
    record {
      kinds_len = c.requires.decoded.even;
      kinds_len_bound = c.requires.kinds_len_bound;
      zeroed = c.requires.zeroed;
    }

pub offset_bounds-words-at : goal.offset_bounds-words-at
offset_bounds-words-at c =
    let first = place (goal.at.offset_bounds-words-at c).After-function_place-at in
    omega (arith, first.1.1, c.well_formed)

pub bounds-words-at : goal.bounds-words-at
bounds-words-at c =
    let first = place (goal.at.bounds-words-at c).After-function_place-at in
    first.1.1

pub print_known-requires : goal.print_known-requires
print_known-requires c =
    let first = place (goal.at.print_known-requires c).After-function_place-at in
    let note = c.note_functions in
    record {
      starts = c.requires.starts;
      named = c.requires.named;
      indexed = record { book = c.requires.decoded; room = omega (arith, c.requires.count_in_bounds, note.auto.index); noted = note.ensures };
      first_value = first.0;
    }
