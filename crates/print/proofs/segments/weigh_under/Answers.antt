-- `weigh_under` meets its contract, by what stands at the function's place.
use native.Mathlib.Omega.{arith}
use Rattle.print.specs.Heads.{Standing, stands_at, stands_nowhere}
use Rattle.print.specs.Passes.{names_callable, under_typed, under_weighed, nowhere_weighed}
use Rattle.print.proofs.segments.weigh_under.Goals.{In-Some}
use Rattle.print.proofs.segments.weigh_under.Goals as goal

-- where the function stands
stands : (c : In-Some) → Standing c.args.count c.args.kinds.now c.args.words.now c.args.own c.in-Some.head.at c.in-Some.head.params
stands c = stands_at _ c.find_head.ensures c.in-Some.is

pub returns-in_default : goal.returns-in_default
returns-in_default c =
    nowhere_weighed _ _ _ _ (stands_nowhere c.args.count c.args.kinds.now c.args.words.now c.args.own c.find_head.ensures c.in_default.is)

pub overflow_add-behind : goal.overflow_add-behind
overflow_add-behind c =
    omega (arith, (stands (goal.at.overflow_add-behind c).In-Some).kinds, c.well_formed)

pub name_of-requires : goal.name_of-requires
name_of-requires c =
    record {
      starts = c.requires.starts;
      x_in_bounds = omega (arith, (stands (goal.at.name_of-requires c).In-Some).below, c.requires.named.count);
    }

pub offset_bounds-kinds-behind : goal.offset_bounds-kinds-behind
offset_bounds-kinds-behind c =
    omega (arith, (stands (goal.at.offset_bounds-kinds-behind c).In-Some).kinds, c.well_formed)

pub slice_bounds-weigh_lines-count : goal.slice_bounds-weigh_lines-count
slice_bounds-weigh_lines-count c = (stands (goal.at.slice_bounds-weigh_lines-count c).In-Some).kinds

pub slice_bounds-weigh_lines-start : goal.slice_bounds-weigh_lines-start
slice_bounds-weigh_lines-start c = (stands (goal.at.slice_bounds-weigh_lines-start c).In-Some).kinds

pub offset_bounds-words-behind : goal.offset_bounds-words-behind
offset_bounds-words-behind c =
    omega (arith, (stands (goal.at.offset_bounds-words-behind c).In-Some).words, c.well_formed)

pub slice_bounds-weigh_lines-count-2 : goal.slice_bounds-weigh_lines-count-2
slice_bounds-weigh_lines-count-2 c = (stands (goal.at.slice_bounds-weigh_lines-count-2 c).In-Some).words

pub slice_bounds-weigh_lines-start-2 : goal.slice_bounds-weigh_lines-start-2
slice_bounds-weigh_lines-start-2 c = (stands (goal.at.slice_bounds-weigh_lines-start-2 c).In-Some).words

pub weigh_lines-requires : goal.weigh_lines-requires
weigh_lines-requires c =
    let named = c.requires.named in
    record {
      places_value = c.requires.places_value;
      starts = c.requires.starts;
      typed = under_typed named (stands (goal.at.weigh_lines-requires c).In-Some);
      callable = names_callable named;
      before_in_bounds = c.requires.before_in_bounds;
    }

pub returns : goal.returns
returns c =
    let named = c.requires.named in
    under_weighed named (stands (goal.at.returns c).In-Some) _ c.name_of.ensures c.args.line_kinds.now c.args.operands.now _ c.weigh_lines.ensures
