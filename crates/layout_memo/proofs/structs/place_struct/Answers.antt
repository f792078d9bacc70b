-- `layout_memo::structs::place_struct` meets its contract.
use native.Mathlib.Omega.{arith}
use Rattle.layout_memo.specs.Structs as laws
use borrow.Author.Rules.{rules}
use Rattle.layout_memo.proofs.structs.place_struct.Goals as goal

pub offset_bounds-words-at : goal.offset_bounds-words-at
offset_bounds-words-at c =
    let h = laws.placing_words c.args.names c.args.kinds.now c.args.words.now c.args.work.now c.args.at
    c.requires.placing in
    search rules

pub bounds-words-at : goal.bounds-words-at
bounds-words-at c =
    let h = laws.placing_words c.args.names c.args.kinds.now c.args.words.now c.args.work.now c.args.at
    c.requires.placing in
    search rules

pub overflow_add-body : goal.overflow_add-body
overflow_add-body c =
    let h = laws.body_in_kinds c.args.names c.args.kinds.now c.args.words.now c.args.work.now c.args.at
    c.requires.placing c.requires.kind in
    search rules

pub offset_bounds-kinds-body : goal.offset_bounds-kinds-body
offset_bounds-kinds-body c =
    let h = laws.body_in_kinds c.args.names c.args.kinds.now c.args.words.now c.args.work.now c.args.at
    c.requires.placing c.requires.kind in
    search rules

pub bounds-kinds-body : goal.bounds-kinds-body
bounds-kinds-body c =
    let h = laws.body_in_kinds c.args.names c.args.kinds.now c.args.words.now c.args.work.now c.args.at
    c.requires.placing c.requires.kind in
    search rules

pub overflow_add-result : goal.overflow_add-result
overflow_add-result c =
    let h = laws.body_in_kinds c.args.names c.args.kinds.now c.args.words.now c.args.work.now c.args.at
    c.requires.placing c.requires.kind in
    search rules

pub returns-then-kinds-body-eq-OPAQUE : goal.returns-then-kinds-body-eq-OPAQUE
returns-then-kinds-body-eq-OPAQUE c =
    laws.next_opaque c.args.names c.args.kinds.now c.args.words.now c.args.work.now c.args.at
    c.requires.placing c.requires.kind c.if-kinds-body-eq-OPAQUE.true

pub overflow_add-work : goal.overflow_add-work
overflow_add-work c =
    let h = laws.body_in_kinds c.args.names c.args.kinds.now c.args.words.now c.args.work.now c.args.at
    c.requires.placing c.requires.kind in
    search rules

pub overflow_mul-work : goal.overflow_mul-work
overflow_mul-work c =
    let g = laws.name_below c.args.names c.args.kinds.now c.args.words.now c.args.work.now c.args.at
    c.requires.placing c.requires.kind in
    let h = laws.body_in_kinds c.args.names c.args.kinds.now c.args.words.now c.args.work.now c.args.at
    c.requires.placing c.requires.kind in
    let r = c.requires.placing.room in
    search rules

pub overflow_add-work-2 : goal.overflow_add-work-2
overflow_add-work-2 c =
    let g = laws.name_below c.args.names c.args.kinds.now c.args.words.now c.args.work.now c.args.at
    c.requires.placing c.requires.kind in
    let h = laws.body_in_kinds c.args.names c.args.kinds.now c.args.words.now c.args.work.now c.args.at
    c.requires.placing c.requires.kind in
    let r = c.requires.placing.room in
    search rules

pub offset_bounds-work-name : goal.offset_bounds-work-name
offset_bounds-work-name c =
    let g = laws.name_below c.args.names c.args.kinds.now c.args.words.now c.args.work.now c.args.at
    c.requires.placing c.requires.kind in
    let h = laws.body_in_kinds c.args.names c.args.kinds.now c.args.words.now c.args.work.now c.args.at
    c.requires.placing c.requires.kind in
    let r = c.requires.placing.room in
    search rules

pub bounds-work-name : goal.bounds-work-name
bounds-work-name c =
    let g = laws.name_below c.args.names c.args.kinds.now c.args.words.now c.args.work.now c.args.at
    c.requires.placing c.requires.kind in
    let h = laws.body_in_kinds c.args.names c.args.kinds.now c.args.words.now c.args.work.now c.args.at
    c.requires.placing c.requires.kind in
    let r = c.requires.placing.room in
    search rules

pub offset_bounds-kinds-body-2 : goal.offset_bounds-kinds-body-2
offset_bounds-kinds-body-2 c =
    let h = laws.body_in_kinds c.args.names c.args.kinds.now c.args.words.now c.args.work.now c.args.at
    c.requires.placing c.requires.kind in
    search rules

pub slice_bounds-skip-count : goal.slice_bounds-skip-count
slice_bounds-skip-count c =
    let h = laws.body_in_kinds c.args.names c.args.kinds.now c.args.words.now c.args.work.now c.args.at
    c.requires.placing c.requires.kind in
    search rules

pub slice_bounds-skip-start : goal.slice_bounds-skip-start
slice_bounds-skip-start c =
    let h = laws.body_in_kinds c.args.names c.args.kinds.now c.args.words.now c.args.work.now c.args.at
    c.requires.placing c.requires.kind in
    search rules

pub offset_bounds-words-body : goal.offset_bounds-words-body
offset_bounds-words-body c =
    let h = laws.body_in_words c.args.names c.args.kinds.now c.args.words.now c.args.work.now c.args.at
    c.requires.placing c.requires.kind in
    search rules

pub slice_bounds-skip-count-2 : goal.slice_bounds-skip-count-2
slice_bounds-skip-count-2 c =
    let h = laws.body_in_words c.args.names c.args.kinds.now c.args.words.now c.args.work.now c.args.at
    c.requires.placing c.requires.kind in
    search rules

pub slice_bounds-skip-start-2 : goal.slice_bounds-skip-start-2
slice_bounds-skip-start-2 c =
    let h = laws.body_in_words c.args.names c.args.kinds.now c.args.words.now c.args.work.now c.args.at
    c.requires.placing c.requires.kind in
    search rules

pub overflow_add-result-2 : goal.overflow_add-result-2
overflow_add-result-2 c =
    omega (
      arith,
      laws.body_fits c.args.names c.args.kinds.now c.args.words.now c.args.work.now c.args.at
          c.requires.placing c.requires.kind c.if-kinds-body-eq-OPAQUE.false _ c.skip.ensures,
    )

pub returns : goal.returns
returns c =
    laws.next_body c.args.names c.args.kinds.now c.args.words.now c.args.work.now c.args.at
    c.requires.placing c.requires.kind c.if-kinds-body-eq-OPAQUE.false _ c.skip.ensures
