use mathlib.Core.Path.{sym, ◌∙◌}
use native.Mathlib.Omega.{arith}
use borrow.Author.Rules.{rules}
use Rattle.layout_memo.specs.Ends as laws
use Rattle.layout_memo.proofs.ends.type_end.Goals as goal

pub loop-at-init : goal.loop-at-init
loop-at-init c = (c.requires, laws.fronted_start c.args.names c.args.kinds.now c.args.words.now c.requires)

pub bounds-kinds-at : goal.bounds-kinds-at
bounds-kinds-at c =
    let inv = c.loop-at.invariant in
    let h = laws.fronted_kinds c.args.names c.args.kinds.now c.args.words.now inv.0 inv.1 in
    search rules

pub overflow_add-at : goal.overflow_add-at
overflow_add-at c =
    let inv = c.loop-at.invariant in
    omega (arith, laws.fronted_few c.args.names c.args.kinds.now c.args.words.now inv.0 inv.1)

pub loop-at-smaller : goal.loop-at-smaller
loop-at-smaller c =
    let inv = c.loop-at.invariant in
    omega (arith, laws.fronted_kinds c.args.names c.args.kinds.now c.args.words.now inv.0 inv.1)

pub loop-at-preserved : goal.loop-at-preserved
loop-at-preserved c =
    let inv = c.loop-at.invariant in
    (inv.0, laws.fronted_array c.args.names c.args.kinds.now c.args.words.now inv.0 inv.1 (sym c.is_array.ensures ∙ c.loop-at-test.true))

pub bounds-kinds-at-2 : goal.bounds-kinds-at-2
bounds-kinds-at-2 c =
    let inv = c.loop-at.invariant in
    let h = laws.fronted_kinds c.args.names c.args.kinds.now c.args.words.now inv.0 inv.1 in
    search rules

pub opened-lists-requires : goal.opened-lists-requires
opened-lists-requires c =
    let inv = c.loop-at.invariant in
    ((λ e. absurd (laws.fronted_kind c.args.names c.args.kinds.now c.args.words.now inv.0 inv.1 e)), omega arith)

pub overflow_add-at-2 : goal.overflow_add-at-2
overflow_add-at-2 c =
    let inv = c.loop-at.invariant in
    omega (arith, laws.fronted_few c.args.names c.args.kinds.now c.args.words.now inv.0 inv.1)

pub loop-lists-init : goal.loop-lists-init
loop-lists-init c =
    let inv = c.loop-at.invariant in
    (inv.0, laws.fronted_opens c.args.names c.args.kinds.now c.args.words.now inv.0 inv.1 (sym c.is_array.ensures ∙ c.loop-at-test.false) _ c.opened-lists.ensures)

pub bounds-kinds-at-in-loop-lists : goal.bounds-kinds-at-in-loop-lists
bounds-kinds-at-in-loop-lists c =
    let inv = c.loop-lists.invariant in
    let h = laws.opened_kinds c.args.names c.args.kinds.now c.args.words.now inv.0 inv.1 c.loop-lists-test.true in
    search rules

pub opened-lists-requires-in-loop-lists : goal.opened-lists-requires-in-loop-lists
opened-lists-requires-in-loop-lists c =
    let inv = c.loop-lists.invariant in
    laws.opened_ask c.args.names c.args.kinds.now c.args.words.now inv.0 inv.1 c.loop-lists-test.true

pub overflow_add-at-in-loop-lists : goal.overflow_add-at-in-loop-lists
overflow_add-at-in-loop-lists c =
    let inv = c.loop-lists.invariant in
    omega (arith, laws.opened_few c.args.names c.args.kinds.now c.args.words.now inv.0 inv.1 c.loop-lists-test.true)

pub loop-lists-smaller : goal.loop-lists-smaller
loop-lists-smaller c =
    let inv = c.loop-lists.invariant in
    omega (arith, laws.opened_kinds c.args.names c.args.kinds.now c.args.words.now inv.0 inv.1 c.loop-lists-test.true)

pub loop-lists-preserved : goal.loop-lists-preserved
loop-lists-preserved c =
    let inv = c.loop-lists.invariant in
    (inv.0, laws.opened_next c.args.names c.args.kinds.now c.args.words.now inv.0 inv.1 c.loop-lists-test.true _ c.opened-lists-in-loop-lists.ensures)

pub returns : goal.returns
returns c =
    let inv = c.loop-lists.invariant in
    laws.opened_done c.args.names c.args.kinds.now c.args.words.now inv.0 inv.1 c.loop-lists-test.false
