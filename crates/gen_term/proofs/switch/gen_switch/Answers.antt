-- `gen_term::switch::gen_switch` meets its contract.
use Rattle.std.proofs.Common.{arith, refl}
use Rattle.gen_values.specs.Fields.{part_from, part_there, fields_part, type_in, width_is}
use Rattle.gen_edge.specs.Walks.{value_reaches}
use Rattle.gen_values.specs.Fields.{part_length}
use Rattle.gen_term.specs.Switches.{behind, switch_puts}
use Rattle.gen_term.proofs.switch.gen_switch.Goals as goal

pub slice_bounds-type_kinds-count : goal.slice_bounds-type_kinds-count
slice_bounds-type_kinds-count c =
    let a = c.args in
    let ks = a.kinds.now in
    let ws = a.words.now in
    let p = c.requires in
    let inside = type_in ks ws 1 p.fields in
    omega (arith, inside.0, inside.1)

pub slice_bounds-type_kinds-start : goal.slice_bounds-type_kinds-start
slice_bounds-type_kinds-start c =
    let a = c.args in
    let ks = a.kinds.now in
    let ws = a.words.now in
    let p = c.requires in
    let inside = type_in ks ws 1 p.fields in
    omega (arith, inside.0, inside.1)

pub slice_bounds-type_kinds-end : goal.slice_bounds-type_kinds-end
slice_bounds-type_kinds-end c =
    let a = c.args in
    let ks = a.kinds.now in
    let ws = a.words.now in
    let p = c.requires in
    let inside = type_in ks ws 1 p.fields in
    omega (arith, inside.0, inside.1)

pub slice_bounds-type_words-count : goal.slice_bounds-type_words-count
slice_bounds-type_words-count c =
    let a = c.args in
    let ks = a.kinds.now in
    let ws = a.words.now in
    let p = c.requires in
    let inside = type_in ks ws 1 p.fields in
    omega (arith, inside.0, inside.1)

pub slice_bounds-type_words-start : goal.slice_bounds-type_words-start
slice_bounds-type_words-start c =
    let a = c.args in
    let ks = a.kinds.now in
    let ws = a.words.now in
    let p = c.requires in
    let inside = type_in ks ws 1 p.fields in
    omega (arith, inside.0, inside.1)

pub slice_bounds-type_words-end : goal.slice_bounds-type_words-end
slice_bounds-type_words-end c =
    let a = c.args in
    let ks = a.kinds.now in
    let ws = a.words.now in
    let p = c.requires in
    let inside = type_in ks ws 1 p.fields in
    omega (arith, inside.0, inside.1)

pub need_width-wide-requires : goal.need_width-wide-requires
need_width-wide-requires c =
    let a = c.args in
    let ks = a.kinds.now in
    let ws = a.words.now in
    let p = c.requires in
    let inside = type_in ks ws 1 p.fields in
    (part_there ks 1 inside.0, part_there ws 1 inside.1)

pub offset_bounds-type_kinds-at : goal.offset_bounds-type_kinds-at
offset_bounds-type_kinds-at c =
    let a = c.args in
    let ks = a.kinds.now in
    let ws = a.words.now in
    let p = c.requires in
    let sw = behind (part_from ks 1) (part_from ws 1) p.ty p.val p.default p.cases (fields_part ks ws 1 p.fields) c.skip-at.ensures in
    omega (arith, sw.in_kinds, sw.in_words, part_length ks 1, part_length ws 1, c.well_formed)

pub slice_bounds-value_kinds-count : goal.slice_bounds-value_kinds-count
slice_bounds-value_kinds-count c =
    let a = c.args in
    let ks = a.kinds.now in
    let ws = a.words.now in
    let p = c.requires in
    let sw = behind (part_from ks 1) (part_from ws 1) p.ty p.val p.default p.cases (fields_part ks ws 1 p.fields) c.skip-at.ensures in
    omega (arith, sw.in_kinds, sw.in_words, part_length ks 1, part_length ws 1, c.well_formed)

pub slice_bounds-value_kinds-start : goal.slice_bounds-value_kinds-start
slice_bounds-value_kinds-start c =
    let a = c.args in
    let ks = a.kinds.now in
    let ws = a.words.now in
    let p = c.requires in
    let sw = behind (part_from ks 1) (part_from ws 1) p.ty p.val p.default p.cases (fields_part ks ws 1 p.fields) c.skip-at.ensures in
    omega (arith, sw.in_kinds, sw.in_words, part_length ks 1, part_length ws 1, c.well_formed)

pub slice_bounds-value_kinds-end : goal.slice_bounds-value_kinds-end
slice_bounds-value_kinds-end c =
    let a = c.args in
    let ks = a.kinds.now in
    let ws = a.words.now in
    let p = c.requires in
    let sw = behind (part_from ks 1) (part_from ws 1) p.ty p.val p.default p.cases (fields_part ks ws 1 p.fields) c.skip-at.ensures in
    omega (arith, sw.in_kinds, sw.in_words, part_length ks 1, part_length ws 1, c.well_formed)

pub offset_bounds-type_words-at : goal.offset_bounds-type_words-at
offset_bounds-type_words-at c =
    let a = c.args in
    let ks = a.kinds.now in
    let ws = a.words.now in
    let p = c.requires in
    let sw = behind (part_from ks 1) (part_from ws 1) p.ty p.val p.default p.cases (fields_part ks ws 1 p.fields) c.skip-at.ensures in
    omega (arith, sw.in_kinds, sw.in_words, part_length ks 1, part_length ws 1, c.well_formed)

pub slice_bounds-value_words-count : goal.slice_bounds-value_words-count
slice_bounds-value_words-count c =
    let a = c.args in
    let ks = a.kinds.now in
    let ws = a.words.now in
    let p = c.requires in
    let sw = behind (part_from ks 1) (part_from ws 1) p.ty p.val p.default p.cases (fields_part ks ws 1 p.fields) c.skip-at.ensures in
    omega (arith, sw.in_kinds, sw.in_words, part_length ks 1, part_length ws 1, c.well_formed)

pub slice_bounds-value_words-start : goal.slice_bounds-value_words-start
slice_bounds-value_words-start c =
    let a = c.args in
    let ks = a.kinds.now in
    let ws = a.words.now in
    let p = c.requires in
    let sw = behind (part_from ks 1) (part_from ws 1) p.ty p.val p.default p.cases (fields_part ks ws 1 p.fields) c.skip-at.ensures in
    omega (arith, sw.in_kinds, sw.in_words, part_length ks 1, part_length ws 1, c.well_formed)

pub slice_bounds-value_words-end : goal.slice_bounds-value_words-end
slice_bounds-value_words-end c =
    let a = c.args in
    let ks = a.kinds.now in
    let ws = a.words.now in
    let p = c.requires in
    let sw = behind (part_from ks 1) (part_from ws 1) p.ty p.val p.default p.cases (fields_part ks ws 1 p.fields) c.skip-at.ensures in
    omega (arith, sw.in_kinds, sw.in_words, part_length ks 1, part_length ws 1, c.well_formed)

pub slice_bounds-case_kinds-count : goal.slice_bounds-case_kinds-count
slice_bounds-case_kinds-count c =
    let a = c.args in
    let ks = a.kinds.now in
    let ws = a.words.now in
    let p = c.requires in
    let sw = behind (part_from ks 1) (part_from ws 1) p.ty p.val p.default p.cases (fields_part ks ws 1 p.fields) c.skip-at.ensures in
    omega (arith, sw.at.in_kinds, sw.at.in_words)

pub slice_bounds-case_kinds-start : goal.slice_bounds-case_kinds-start
slice_bounds-case_kinds-start c =
    let a = c.args in
    let ks = a.kinds.now in
    let ws = a.words.now in
    let p = c.requires in
    let sw = behind (part_from ks 1) (part_from ws 1) p.ty p.val p.default p.cases (fields_part ks ws 1 p.fields) c.skip-at.ensures in
    omega (arith, sw.at.in_kinds, sw.at.in_words)

pub slice_bounds-case_kinds-end : goal.slice_bounds-case_kinds-end
slice_bounds-case_kinds-end c =
    let a = c.args in
    let ks = a.kinds.now in
    let ws = a.words.now in
    let p = c.requires in
    let sw = behind (part_from ks 1) (part_from ws 1) p.ty p.val p.default p.cases (fields_part ks ws 1 p.fields) c.skip-at.ensures in
    omega (arith, sw.at.in_kinds, sw.at.in_words)

pub slice_bounds-case_words-count : goal.slice_bounds-case_words-count
slice_bounds-case_words-count c =
    let a = c.args in
    let ks = a.kinds.now in
    let ws = a.words.now in
    let p = c.requires in
    let sw = behind (part_from ks 1) (part_from ws 1) p.ty p.val p.default p.cases (fields_part ks ws 1 p.fields) c.skip-at.ensures in
    omega (arith, sw.at.in_kinds, sw.at.in_words)

pub slice_bounds-case_words-start : goal.slice_bounds-case_words-start
slice_bounds-case_words-start c =
    let a = c.args in
    let ks = a.kinds.now in
    let ws = a.words.now in
    let p = c.requires in
    let sw = behind (part_from ks 1) (part_from ws 1) p.ty p.val p.default p.cases (fields_part ks ws 1 p.fields) c.skip-at.ensures in
    omega (arith, sw.at.in_kinds, sw.at.in_words)

pub slice_bounds-case_words-end : goal.slice_bounds-case_words-end
slice_bounds-case_words-end c =
    let a = c.args in
    let ks = a.kinds.now in
    let ws = a.words.now in
    let p = c.requires in
    let sw = behind (part_from ks 1) (part_from ws 1) p.ty p.val p.default p.cases (fields_part ks ws 1 p.fields) c.skip-at.ensures in
    omega (arith, sw.at.in_kinds, sw.at.in_words)

pub count_cases-requires : goal.count_cases-requires
count_cases-requires c =
    let a = c.args in
    let ks = a.kinds.now in
    let ws = a.words.now in
    let m = a.names in
    let p = c.requires in
    let sw = behind (part_from ks 1) (part_from ws 1) p.ty p.val p.default p.cases (fields_part ks ws 1 p.fields) c.skip-at.ensures in
    record { names = m; cases = p.cases; front = sw.at.cases }

pub case_tests-tested-requires : goal.case_tests-tested-requires
case_tests-tested-requires c =
    let a = c.args in
    let ks = a.kinds.now in
    let ws = a.words.now in
    let m = a.names in
    let p = c.requires in
    let sw = behind (part_from ks 1) (part_from ws 1) p.ty p.val p.default p.cases (fields_part ks ws 1 p.fields) c.skip-at.ensures in
    record { lent = record { names = m; cases = p.cases; front = sw.at.cases }; value = value_reaches m sw.at.value p.maps.room }

pub bounds-value_words-1 : goal.bounds-value_words-1
bounds-value_words-1 c =
    let a = c.args in
    let ks = a.kinds.now in
    let ws = a.words.now in
    let p = c.requires in
    let sw = behind (part_from ks 1) (part_from ws 1) p.ty p.val p.default p.cases (fields_part ks ws 1 p.fields) c.skip-at.ensures in
    omega (arith, sw.at.in_words)

pub edge-gone-requires : goal.edge-gone-requires
edge-gone-requires c =
    let a = c.args in
    let ks = a.kinds.now in
    let ws = a.words.now in
    let p = c.requires in
    let sw = behind (part_from ks 1) (part_from ws 1) p.ty p.val p.default p.cases (fields_part ks ws 1 p.fields) c.skip-at.ensures in
    record { ctx = p.ctx; maps = p.maps; target = rw sw.at.default_is sw.at.default_below }

pub case_edges-requires : goal.case_edges-requires
case_edges-requires c =
    let a = c.args in
    let ks = a.kinds.now in
    let ws = a.words.now in
    let p = c.requires in
    let sw = behind (part_from ks 1) (part_from ws 1) p.ty p.val p.default p.cases (fields_part ks ws 1 p.fields) c.skip-at.ensures in
    record { ctx = p.ctx; maps = p.maps; cases = p.cases; front = sw.at.cases }

pub returns : goal.returns
returns c = λ k ty val default cs fields maps.
    let a = c.args in
    let ks = a.kinds.now in
    let ws = a.words.now in
    let m = a.names in
    let typed = fields_part ks ws 1 fields in
    let at = (behind (part_from ks 1) (part_from ws 1) ty val default cs typed c.skip-at.ensures).at in
    switch_puts k a.pred ty val default cs c.need_width-wide.result.width c.count_cases.result c.need_width-wide.result.s.counter
    (c.need_width-wide.ensures ty (width_is (part_from ks 1) (part_from ws 1) 0 typed))
    (c.count_cases.ensures m cs at.cases) c.fresh-made.ensures refl (omega arith)
    (λ l e. c.case_tests-tested.ensures m k val l cs at.value maps.locals at.cases e)
    (rw at.default_is at (c.edge-gone.ensures k maps)) (λ l e. c.case_edges.ensures k l cs maps at.cases e)
