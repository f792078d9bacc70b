use Prim.Native.Nat.{◌≤◌}
use native.Mathlib.Omega.{arith}
use Rattle.gen_blocks.specs.Words.{words_none, words_then}
use Rattle.gen_blocks.specs.Params as laws
use borrow.Author.Rules.{rules}
use Rattle.gen_blocks.proofs.place_params.Goals as goal

pub slice_bounds-skip-count : goal.slice_bounds-skip-count
slice_bounds-skip-count c =
    let h = laws.return_kinds _ c.args.kinds.now c.args.words.now _ _ _ c.requires.1.1 in
    search rules

pub slice_bounds-skip-start : goal.slice_bounds-skip-start
slice_bounds-skip-start c =
    let h = laws.return_kinds _ c.args.kinds.now c.args.words.now _ _ _ c.requires.1.1 in
    search rules

pub slice_bounds-skip-count-2 : goal.slice_bounds-skip-count-2
slice_bounds-skip-count-2 c =
    let h = laws.return_words _ c.args.kinds.now c.args.words.now _ _ _ c.requires.1.1 in
    search rules

pub slice_bounds-skip-start-2 : goal.slice_bounds-skip-start-2
slice_bounds-skip-start-2 c =
    let h = laws.return_words _ c.args.kinds.now c.args.words.now _ _ _ c.requires.1.1 in
    search rules

pub overflow_add-next : goal.overflow_add-next
overflow_add-next c =
    omega (arith, laws.return_fits _ c.args.kinds.now c.args.words.now _ _ _ c.requires.1.1 _ c.skip-next.ensures)

pub loop-next-init : goal.loop-next-init
loop-next-init c =
    ((λ f rest k. laws.params_start _ c.args.kinds.now c.args.words.now f rest _ k _ c.skip-next.ensures), words_none, omega arith)

pub offset_bounds-kinds-next : goal.offset_bounds-kinds-next
offset_bounds-kinds-next c =
    let ks = c.args.kinds.now in
    let ws = c.args.words.now in
    let i = c.loop-next.invariant.0 c.requires.0 c.requires.1.0 c.requires.1.1 in
    let h = laws.params_kinds _ ks ws _ _ _ _ _ i in
    search rules

pub bounds-kinds-next : goal.bounds-kinds-next
bounds-kinds-next c =
    let ks = c.args.kinds.now in
    let ws = c.args.words.now in
    let i = c.loop-next.invariant.0 c.requires.0 c.requires.1.0 c.requires.1.1 in
    let h = laws.params_kinds _ ks ws _ _ _ _ _ i in
    search rules

pub offset_bounds-kinds-next-in-loop-next : goal.offset_bounds-kinds-next-in-loop-next
offset_bounds-kinds-next-in-loop-next c =
    let ks = c.args.kinds.now in
    let ws = c.args.words.now in
    let i = c.loop-next.invariant.0 c.requires.0 c.requires.1.0 c.requires.1.1 in
    let h = laws.params_kinds _ ks ws _ _ _ _ _ i in
    search rules

pub slice_bounds-place_param-count : goal.slice_bounds-place_param-count
slice_bounds-place_param-count c =
    let ks = c.args.kinds.now in
    let ws = c.args.words.now in
    let i = c.loop-next.invariant.0 c.requires.0 c.requires.1.0 c.requires.1.1 in
    let h = laws.params_kinds _ ks ws _ _ _ _ _ i in
    search rules

pub slice_bounds-place_param-start : goal.slice_bounds-place_param-start
slice_bounds-place_param-start c =
    let ks = c.args.kinds.now in
    let ws = c.args.words.now in
    let i = c.loop-next.invariant.0 c.requires.0 c.requires.1.0 c.requires.1.1 in
    let h = laws.params_kinds _ ks ws _ _ _ _ _ i in
    search rules

pub offset_bounds-words-next : goal.offset_bounds-words-next
offset_bounds-words-next c =
    let ks = c.args.kinds.now in
    let ws = c.args.words.now in
    let i = c.loop-next.invariant.0 c.requires.0 c.requires.1.0 c.requires.1.1 in
    let h = laws.params_words _ ks ws _ _ _ _ _ i in
    search rules

pub slice_bounds-place_param-count-in-loop-next : goal.slice_bounds-place_param-count-in-loop-next
slice_bounds-place_param-count-in-loop-next c =
    let ks = c.args.kinds.now in
    let ws = c.args.words.now in
    let i = c.loop-next.invariant.0 c.requires.0 c.requires.1.0 c.requires.1.1 in
    let h = laws.params_words _ ks ws _ _ _ _ _ i in
    search rules

pub slice_bounds-place_param-start-in-loop-next : goal.slice_bounds-place_param-start-in-loop-next
slice_bounds-place_param-start-in-loop-next c =
    let ks = c.args.kinds.now in
    let ws = c.args.words.now in
    let i = c.loop-next.invariant.0 c.requires.0 c.requires.1.0 c.requires.1.1 in
    let h = laws.params_words _ ks ws _ _ _ _ _ i in
    search rules

pub place_param-next-requires : goal.place_param-next-requires
place_param-next-requires c =
    let ks = c.args.kinds.now in
    let ws = c.args.words.now in
    let i = c.loop-next.invariant.0 c.requires.0 c.requires.1.0 c.requires.1.1 in
    let small : c.loop-next.index ≤ 1048576 = omega (arith, laws.params_few _ ks ws _ _ _ _ _ i, c.loop-next.invariant.2) in
    (_, (_, laws.at_param ks ws _ i c.loop-next-test.true small))

pub overflow_add-next-in-loop-next : goal.overflow_add-next-in-loop-next
overflow_add-next-in-loop-next c =
    let ks = c.args.kinds.now in
    let ws = c.args.words.now in
    let i = c.loop-next.invariant.0 c.requires.0 c.requires.1.0 c.requires.1.1 in
    let small : c.loop-next.index ≤ 1048576 = omega (arith, laws.params_few _ ks ws _ _ _ _ _ i, c.loop-next.invariant.2) in
    let n = c.place_param-next.ensures _ _ (laws.at_param ks ws _ i c.loop-next-test.true small) in
    let j = laws.behind_param ks ws _ i n in
    omega (arith, laws.params_few _ ks ws _ _ _ _ _ j)

pub overflow_add-index : goal.overflow_add-index
overflow_add-index c =
    let ks = c.args.kinds.now in
    let ws = c.args.words.now in
    let i = c.loop-next.invariant.0 c.requires.0 c.requires.1.0 c.requires.1.1 in
    let small : c.loop-next.index ≤ 1048576 = omega (arith, laws.params_few _ ks ws _ _ _ _ _ i, c.loop-next.invariant.2) in
    let n = c.place_param-next.ensures _ _ (laws.at_param ks ws _ i c.loop-next-test.true small) in
    let j = laws.behind_param ks ws _ i n in
    omega arith

pub loop-next-smaller : goal.loop-next-smaller
loop-next-smaller c =
    let ks = c.args.kinds.now in
    let ws = c.args.words.now in
    let i = c.loop-next.invariant.0 c.requires.0 c.requires.1.0 c.requires.1.1 in
    let small : c.loop-next.index ≤ 1048576 = omega (arith, laws.params_few _ ks ws _ _ _ _ _ i, c.loop-next.invariant.2) in
    let n = c.place_param-next.ensures _ _ (laws.at_param ks ws _ i c.loop-next-test.true small) in
    let j = laws.behind_param ks ws _ i n in
    omega (arith, laws.params_kinds _ ks ws _ _ _ _ _ j, n.more)

pub loop-next-preserved : goal.loop-next-preserved
loop-next-preserved c =
    let ks = c.args.kinds.now in
    let ws = c.args.words.now in
    let i = c.loop-next.invariant.0 c.requires.0 c.requires.1.0 c.requires.1.1 in
    let small : c.loop-next.index ≤ 1048576 = omega (arith, laws.params_few _ ks ws _ _ _ _ _ i, c.loop-next.invariant.2) in
    let n = c.place_param-next.ensures _ _ (laws.at_param ks ws _ i c.loop-next-test.true small) in
    let j = laws.behind_param ks ws _ i n in (
      (λ f rest k.
          let i' = c.loop-next.invariant.0 f rest k in
          laws.behind_param ks ws _ i' (c.place_param-next.ensures _ _ (laws.at_param ks ws _ i' c.loop-next-test.true small))),
      words_then c.loop-next.invariant.1 n.kept,
      omega (arith, c.loop-next.invariant.2, n.more),
    )

pub overflow_add-result : goal.overflow_add-result
overflow_add-result c =
    let ks = c.args.kinds.now in
    let ws = c.args.words.now in
    let i = c.loop-next.invariant.0 c.requires.0 c.requires.1.0 c.requires.1.1 in
    omega (arith, laws.params_few _ ks ws _ _ _ _ _ i)

pub shape_of-work : goal.shape_of-work
shape_of-work c = c.loop-next.invariant.1.long

pub returns : goal.returns
returns c =
    λ f rest k.
    let d = laws.params_done _ c.args.kinds.now c.args.words.now _ _ _ _ _ (c.loop-next.invariant.0 f rest k) c.loop-next-test.false in
    record { words = d.0; blocks = d.1; there = d.2; kept = c.loop-next.invariant.1 }
