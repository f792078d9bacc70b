use mathlib.Core.Path.{◌≡◌, refl, ◌∙◌, sym, ap}
use mathlib.Core.List.{List, [], ◌∷◌}
use native.Mathlib.Omega.{arith}
use lib.ListN.{length}
use Rattle.numbers.specs.Bits.{bit_at}
use Rattle.book_insts.specs.declared.Field.{Field}
use Rattle.book_insts.specs.InstLaws.{digit_small}
use Rattle.book_insts.specs.Rules.{rules_length, rules_tell}
use Rattle.book_blocks.specs.Scan as scan
use Rattle.book_blocks.proofs.scan_blocks.Goals as goal

empty : (xs : List Field) → length xs ≡ 0 → xs ≡ []
empty [] h = refl
empty (x ∷ xs) h = absurd (omega arith)

pub loop-at-init : goal.loop-at-init
loop-at-init c =
    let a = c.args in
    (scan.ends_there a.kinds.now a.words.now _ c.shorter-end.ensures, scan.scan_start (bit_at a.barred.now) a.names a.kinds.now a.words.now)

pub one_entry-requires : goal.one_entry-requires
one_entry-requires c =
    ap length c.requires ∙ rules_length c.args.names

pub loop-at-preserved-then-one_entry : goal.loop-at-preserved-then-one_entry
loop-at-preserved-then-one_entry c =
    let l = c.loop-at.invariant in
    let entry = c in (
      l.0,
      scan.scan_field l.1 _ _ c.in-Some.ensures.cases.0 _
          (scan.scan_alone l.1 _ _ c.in-Some.ensures.cases.0 (omega arith)
          (rules_tell entry.args.names _ (scan.scan_named l.1 _ _ c.in-Some.ensures.cases.0) _ entry.requires _ _ (digit_small c.in-Some.field.now) (sym c.one_entry.ensures ∙ c.if-one_entry.true))),
    )

pub returns-in_err-found : goal.returns-in_err-found
returns-in_err-found c =
    let l = c.loop-at.invariant in
    c.from_residual.ensures ∙ scan.scan_no_field l.1 _ _ c.in-Some.ensures.cases.0 (scan.scan_lent l.1 _ _ c.in-Some.ensures.cases.0 _ c.in_err-found.ensures)

pub overflow_add-at-in-Some : goal.overflow_add-at-in-Some
overflow_add-at-in-Some c =
    let l = c.loop-at.invariant in
    omega (arith, scan.scan_there l.1 _ _ c.in-Some.ensures.cases.0 _ (scan.scan_lent l.1 _ _ c.in-Some.ensures.cases.0 _ c.in_ok-found.ensures))

pub loop-at-smaller-in-Some : goal.loop-at-smaller-in-Some
loop-at-smaller-in-Some c =
    let l = c.loop-at.invariant in
    omega (arith, scan.scan_takes l.1 _ _ c.in-Some.ensures.cases.0 _ (scan.scan_lent l.1 _ _ c.in-Some.ensures.cases.0 _ c.in_ok-found.ensures))

pub loop-at-preserved-in-Some : goal.loop-at-preserved-in-Some
loop-at-preserved-in-Some c =
    let l = c.loop-at.invariant in
    (l.0, scan.scan_field l.1 _ _ c.in-Some.ensures.cases.0 _ (scan.scan_lent l.1 _ _ c.in-Some.ensures.cases.0 _ c.in_ok-found.ensures))

pub returns-in_err-need : goal.returns-in_err-need
returns-in_err-need c =
    let l = c.loop-at.invariant in
    c.from_residual-in_err-need.ensures ∙ scan.scan_unknown l.1 (empty _ (rw c.in_default.is at c.split_first.ensures.cases)) (omega arith) c.if-inside.true c.in_err-need.ensures

pub loop-at-preserved-then-kind-eq-CALL : goal.loop-at-preserved-then-kind-eq-CALL
loop-at-preserved-then-kind-eq-CALL c =
    let l = c.loop-at.invariant in (
      l.0,
      scan.scan_known l.1 (empty _ (rw c.in_default.is at c.split_first.ensures.cases)) (omega arith) c.if-inside.true _
          c.in_ok-need.ensures _
          (scan.scan_call l.1 (empty _ (rw c.in_default.is at c.split_first.ensures.cases)) (omega arith) c.if-inside.true c.if-kind-eq-CALL.true _ c.call_barred-seen.ensures),
    )

pub loop-at-preserved-else-kind-eq-CALL : goal.loop-at-preserved-else-kind-eq-CALL
loop-at-preserved-else-kind-eq-CALL c =
    let l = c.loop-at.invariant in (
      l.0,
      scan.scan_known l.1 (empty _ (rw c.in_default.is at c.split_first.ensures.cases)) (omega arith) c.if-inside.true _
          c.in_ok-need.ensures _
          (scan.scan_no_call l.1 (empty _ (rw c.in_default.is at c.split_first.ensures.cases)) (omega arith) c.if-inside.true c.if-kind-eq-CALL.false),
    )

pub returns-then-kind-word : goal.returns-then-kind-word
returns-then-kind-word c =
    let l = c.loop-at.invariant in
    scan.scan_closed l.1 (empty _ (rw c.in_default.is at c.split_first.ensures.cases)) (omega arith) c.if-inside.false c.if-kind-word.true

pub returns-then-kind-names : goal.returns-then-kind-names
returns-then-kind-names c =
    let l = c.loop-at.invariant in
    scan.scan_bad l.1 (empty _ (rw c.in_default.is at c.split_first.ensures.cases)) (omega arith) c.if-inside.false c.if-kind-word.false c.if-kind-names.true

pub loop-at-preserved : goal.loop-at-preserved
loop-at-preserved c =
    let l = c.loop-at.invariant in
    (l.0, scan.scan_head l.1 (empty _ (rw c.in_default.is at c.split_first.ensures.cases)) (omega arith) c.if-inside.false c.if-kind-names.false)

pub returns : goal.returns
returns c =
    let l = c.loop-at.invariant in
    scan.scan_over l.1 (omega arith)
