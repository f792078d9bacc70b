-- `write_under` meets its contract, by what stands at the function's place.
use mathlib.Core.Path.{sym, ◌∙◌}
use mathlib.Core.Bool.{false≢true}
use native.Mathlib.Omega.{arith}
use Rattle.print_forms.specs.Allowed.{all_ready}
use Rattle.print.specs.Heads.{Standing, stands_at, stands_nowhere}
use Rattle.print.specs.Passes.{names_callable, under_typed, under_room, under_wrote}
use Rattle.print.proofs.segments.write_under.Goals.{In-Some}
use Rattle.print.proofs.segments.write_under.Goals as goal

-- where the function stands
stands : (c : In-Some) → Standing c.args.count c.args.kinds.now c.args.words.now c.args.own c.in-Some.head.at c.in-Some.head.params
stands c = stands_at _ c.find_head.ensures c.in-Some.is

pub returns-in_default : goal.returns-in_default
returns-in_default c =
    let nowhere = stands_nowhere c.args.count c.args.kinds.now c.args.words.now c.args.own c.find_head.ensures c.in_default.is in
    absurd (false≢true (sym nowhere ∙ c.requires.own_value))

pub overflow_add-behind : goal.overflow_add-behind
overflow_add-behind c =
    omega (arith, (stands (goal.at.overflow_add-behind c).In-Some).kinds, c.well_formed)

pub name_of-requires : goal.name_of-requires
name_of-requires c =
    record {
      starts = c.requires.starts;
      x_in_bounds = omega (arith, (stands (goal.at.name_of-requires c).In-Some).below, c.requires.named.count);
    }

pub offset_bounds-kinds-behind : goal.offset_bounds-kinds-behind
offset_bounds-kinds-behind c =
    omega (arith, (stands (goal.at.offset_bounds-kinds-behind c).In-Some).kinds, c.well_formed)

pub slice_bounds-write_lines-count : goal.slice_bounds-write_lines-count
slice_bounds-write_lines-count c = (stands (goal.at.slice_bounds-write_lines-count c).In-Some).kinds

pub slice_bounds-write_lines-start : goal.slice_bounds-write_lines-start
slice_bounds-write_lines-start c = (stands (goal.at.slice_bounds-write_lines-start c).In-Some).kinds

pub offset_bounds-words-behind : goal.offset_bounds-words-behind
offset_bounds-words-behind c =
    omega (arith, (stands (goal.at.offset_bounds-words-behind c).In-Some).words, c.well_formed)

pub slice_bounds-write_lines-count-2 : goal.slice_bounds-write_lines-count-2
slice_bounds-write_lines-count-2 c = (stands (goal.at.slice_bounds-write_lines-count-2 c).In-Some).words

pub slice_bounds-write_lines-start-2 : goal.slice_bounds-write_lines-start-2
slice_bounds-write_lines-start-2 c = (stands (goal.at.slice_bounds-write_lines-start-2 c).In-Some).words

pub write_lines-requires : goal.write_lines-requires
write_lines-requires c =
    let there = stands (goal.at.write_lines-requires c).In-Some in
    let named = c.requires.named in
    let ready = all_ready (names_callable named) c.args.own _ _ c.requires.operands_value in
    let room = under_room named there _ c.name_of.ensures c.args.line_kinds.now c.args.operands.now _ _ c.requires.operands_bound in
    record {
      tables = c.requires.tables;
      starts = c.requires.starts;
      typed = under_typed named there;
      all_ready = ready;
      operands_bound = room;
      end_in_bounds = c.requires.end_in_bounds;
    }

pub returns : goal.returns
returns c =
    let named = c.requires.named in
    under_wrote named (stands (goal.at.returns c).In-Some) _ c.name_of.ensures c.args.line_kinds.now c.args.operands.now c.write_lines.ensures
