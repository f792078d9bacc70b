-- `gen_blocks::place_function` meets its contract: the parameters, then the blocks.
use native.Mathlib.Omega.{arith}
use Rattle.gen_blocks.specs.Blocks as laws
use borrow.Author.Rules.{rules}
use Rattle.gen_blocks.proofs.place_function.Goals as goal

pub place_params-first-requires : goal.place_params-first-requires
place_params-first-requires c =
    (_, (_, laws.asked_params c.args.kinds.now c.args.words.now c.requires.1.1))

pub overflow_add-blocks : goal.overflow_add-blocks
overflow_add-blocks c =
    let ks = c.args.kinds.now in
    let ws = c.args.words.now in
    let k = c.requires.1.1 in
    let p = c.place_params-first.ensures _ _ (laws.asked_params ks ws k) in
    omega (arith, laws.blocks_few ks ws k p)

pub offset_bounds-kinds-first : goal.offset_bounds-kinds-first
offset_bounds-kinds-first c =
    let ks = c.args.kinds.now in
    let ws = c.args.words.now in
    let k = c.requires.1.1 in
    let p = c.place_params-first.ensures _ _ (laws.asked_params ks ws k) in
    let h = (laws.blocks_in ks ws k p).0 in
    search rules

pub slice_bounds-place_blocks-count : goal.slice_bounds-place_blocks-count
slice_bounds-place_blocks-count c =
    let ks = c.args.kinds.now in
    let ws = c.args.words.now in
    let k = c.requires.1.1 in
    let p = c.place_params-first.ensures _ _ (laws.asked_params ks ws k) in
    let h = (laws.blocks_in ks ws k p).0 in
    search rules

pub slice_bounds-place_blocks-start : goal.slice_bounds-place_blocks-start
slice_bounds-place_blocks-start c =
    let ks = c.args.kinds.now in
    let ws = c.args.words.now in
    let k = c.requires.1.1 in
    let p = c.place_params-first.ensures _ _ (laws.asked_params ks ws k) in
    let h = (laws.blocks_in ks ws k p).0 in
    search rules

pub offset_bounds-words-first : goal.offset_bounds-words-first
offset_bounds-words-first c =
    let ks = c.args.kinds.now in
    let ws = c.args.words.now in
    let k = c.requires.1.1 in
    let p = c.place_params-first.ensures _ _ (laws.asked_params ks ws k) in
    let h = (laws.blocks_in ks ws k p).1 in
    search rules

pub slice_bounds-place_blocks-count-2 : goal.slice_bounds-place_blocks-count-2
slice_bounds-place_blocks-count-2 c =
    let ks = c.args.kinds.now in
    let ws = c.args.words.now in
    let k = c.requires.1.1 in
    let p = c.place_params-first.ensures _ _ (laws.asked_params ks ws k) in
    let h = (laws.blocks_in ks ws k p).1 in
    search rules

pub slice_bounds-place_blocks-start-2 : goal.slice_bounds-place_blocks-start-2
slice_bounds-place_blocks-start-2 c =
    let ks = c.args.kinds.now in
    let ws = c.args.words.now in
    let k = c.requires.1.1 in
    let p = c.place_params-first.ensures _ _ (laws.asked_params ks ws k) in
    let h = (laws.blocks_in ks ws k p).1 in
    search rules

pub place_blocks-left-requires : goal.place_blocks-left-requires
place_blocks-left-requires c =
    let ks = c.args.kinds.now in
    let ws = c.args.words.now in
    let k = c.requires.1.1 in
    let p = c.place_params-first.ensures _ _ (laws.asked_params ks ws k) in
    (_, (_, (_, laws.asked_blocks ks ws k p)))

pub overflow_add-result : goal.overflow_add-result
overflow_add-result c =
    let ks = c.args.kinds.now in
    let ws = c.args.words.now in
    let k = c.requires.1.1 in
    let p = c.place_params-first.ensures _ _ (laws.asked_params ks ws k) in
    omega (arith, laws.end_few ks ws k p (c.place_blocks-left.ensures _ _ _ (laws.asked_blocks ks ws k p)))

pub returns : goal.returns
returns c =
    let ks = c.args.kinds.now in
    let ws = c.args.words.now in
    λ book last k.
    let p = c.place_params-first.ensures _ _ (laws.asked_params ks ws k) in
    laws.function_placed ks ws k p (c.place_blocks-left.ensures _ _ _ (laws.asked_blocks ks ws k p))
