-- `layout_table::known_before` meets its contract.
use Rattle.layout_memo.specs.Work.{after_none}
use Rattle.layout_table.specs.Table.{best_none}
use Rattle.layout_table.proofs.known_before.Goals as goal

pub returns-in_default : goal.returns-in_default
returns-in_default c =
    record { best = best_none c.requires c.args.packed _ _ c.no_fields.ensures; after = after_none c.requires.ready }

pub find-found-requires : goal.find-found-requires
find-found-requires c = record { ask = c.requires; few = c.in-Some.ensures.1.0 }

pub returns-then-is_near : goal.returns-then-is_near
returns-then-is_near c =
    record { best = c.find-found.ensures; after = after_none c.requires.ready }

pub size_for-requires : goal.size_for-requires
size_for-requires c = (c.in-Some.ensures.0, c.in-Some.ensures.1.1)

pub note_fields-requires : goal.note_fields-requires
note_fields-requires c =
    record {
      ask_pass = record { best = c.find-found.ensures; few = c.in-Some.ensures.1.0; ready = c.requires.ready };
      size_bound = c.size_for.ensures;
    }

pub returns-in-Ok : goal.returns-in-Ok
returns-in-Ok c = c.in-Ok.ensures

pub returns-in-Err : goal.returns-in-Err
returns-in-Err c = c.in-Err.ensures
