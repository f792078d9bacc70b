use native.Mathlib.Omega.{arith}
use borrow.Author.Rules.{rules}
use Rattle.layout_memo.specs.FieldCalls as fields
use Rattle.layout_memo.specs.Scalars as laws
use Rattle.layout_memo.specs.Scalars.{none}
use Rattle.layout_memo.proofs.scalars.pass_scalars.Goals as goal

pub loop-run-init : goal.loop-run-init
loop-run-init c = (none, c.requires)

pub bounds-kinds-at : goal.bounds-kinds-at
bounds-kinds-at c =
    let h = fields.place_kinds c.args.names c.args.kinds.now c.args.words.now _ c.loop-run.invariant.1.place in
    search rules

pub bounds-words-at : goal.bounds-words-at
bounds-words-at c =
    let h = fields.place_words c.args.names c.args.kinds.now c.args.words.now _ c.loop-run.invariant.1.place in
    search rules

pub scalar_bytes-requires : goal.scalar_bytes-requires
scalar_bytes-requires c =
    laws.run_word c.loop-run.invariant.0 c.loop-run.invariant.1

pub returns-in_default : goal.returns-in_default
returns-in_default c = c.loop-run.invariant.0

pub returns-then-run-eq0 : goal.returns-then-run-eq0
returns-then-run-eq0 c = c.loop-run.invariant.0

pub overflow_add-run : goal.overflow_add-run
overflow_add-run c =
    omega (arith, fields.place_few c.args.names c.args.kinds.now c.args.words.now _ c.loop-run.invariant.1.place)

pub scalar_start-requires : goal.scalar_start-requires
scalar_start-requires c =
    laws.run_start c.loop-run.invariant.0 c.loop-run.invariant.1 c.in-Some.ensures (laws.scalar_some c.loop-run.invariant.1.place c.in-Some.ensures)

pub overflow_add-run-in-loop-run : goal.overflow_add-run-in-loop-run
overflow_add-run-in-loop-run c =
    omega (
      arith,
      laws.run_fits c.loop-run.invariant.0 c.loop-run.invariant.1 c.in-Some.ensures (laws.scalar_some c.loop-run.invariant.1.place c.in-Some.ensures) _ c.scalar_start.ensures,
    )

pub loop-run-smaller : goal.loop-run-smaller
loop-run-smaller c =
    omega (arith, c.loop-run-test.true)

pub loop-run-preserved : goal.loop-run-preserved
loop-run-preserved c =
    laws.run_next c.loop-run.invariant.0 c.loop-run.invariant.1 c.in-Some.ensures (laws.scalar_some c.loop-run.invariant.1.place c.in-Some.ensures)
    c.loop-run-test.true c.if-run-eq0.false _ _ _ c.scalar_start.ensures c.max.ensures c.max-in-loop-run.ensures

pub returns : goal.returns
returns c = c.loop-run.invariant.0
