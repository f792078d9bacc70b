-- `gen_blocks::place_param` meets its contract: the parameter at the front of those that are left is noted.
use native.Mathlib.Omega.{arith}
use Rattle.gen_blocks.specs.Params as laws
use borrow.Author.Rules.{rules}
use Rattle.gen_blocks.proofs.place_param.Goals as goal

pub bounds-words-0 : goal.bounds-words-0
bounds-words-0 c =
    let h = laws.params_words _ c.args.kinds.now c.args.words.now _ _ _ _ _ c.requires.1.1.params in
    search rules

pub slice_bounds-skip-count : goal.slice_bounds-skip-count
slice_bounds-skip-count c =
    let h = laws.params_kinds _ c.args.kinds.now c.args.words.now _ _ _ _ _ c.requires.1.1.params in
    search rules

pub slice_bounds-skip-start : goal.slice_bounds-skip-start
slice_bounds-skip-start c =
    let h = laws.params_kinds _ c.args.kinds.now c.args.words.now _ _ _ _ _ c.requires.1.1.params in
    search rules

pub slice_bounds-skip-count-2 : goal.slice_bounds-skip-count-2
slice_bounds-skip-count-2 c =
    let h = laws.params_words _ c.args.kinds.now c.args.words.now _ _ _ _ _ c.requires.1.1.params in
    search rules

pub slice_bounds-skip-start-2 : goal.slice_bounds-skip-start-2
slice_bounds-skip-start-2 c =
    let h = laws.params_words _ c.args.kinds.now c.args.words.now _ _ _ _ _ c.requires.1.1.params in
    search rules

pub overflow_add-next : goal.overflow_add-next
overflow_add-next c =
    let p = c.requires.1.1 in
    omega (arith, laws.type_fits _ c.args.kinds.now c.args.words.now _ _ _ _ _ p.params p.kind _ c.skip-next.ensures)

pub returns-then-name-eq0 : goal.returns-then-name-eq0
returns-then-name-eq0 c =
    λ all rest p. laws.unnamed c.args.kinds.now c.args.words.now c.args.work.now p c.skip-next.ensures c.if-name-eq0.true

pub overflow_mul-work : goal.overflow_mul-work
overflow_mul-work c =
    let p = c.requires.1.1 in
    let n = laws.name_below _ c.args.kinds.now c.args.words.now _ _ _ _ _ p.params p.kind c.if-name-eq0.false in
    let r = p.params.room in
    search rules

pub offset_bounds-work-name : goal.offset_bounds-work-name
offset_bounds-work-name c =
    let p = c.requires.1.1 in
    let n = laws.name_below _ c.args.kinds.now c.args.words.now _ _ _ _ _ p.params p.kind c.if-name-eq0.false in
    let r = p.params.room in
    search rules

pub bounds-work-name : goal.bounds-work-name
bounds-work-name c =
    let p = c.requires.1.1 in
    let n = laws.name_below _ c.args.kinds.now c.args.words.now _ _ _ _ _ p.params p.kind c.if-name-eq0.false in
    let r = p.params.room in
    search rules

pub returns : goal.returns
returns c =
    λ all rest p. laws.named c.args.kinds.now c.args.words.now c.args.work.now p c.skip-next.ensures c.if-name-eq0.false
