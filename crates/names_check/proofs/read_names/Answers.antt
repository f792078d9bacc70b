use mathlib.Core.Path.{◌≡◌, refl, sym, ◌∙◌}
use mathlib.Core.Bool.{Bool, true, false, false≢true}
use borrow.Author.Tests.{eqb-true}
use borrow.Author.Rules.{rules}
use Rattle.names_check.specs.Read.{some_read}
use Rattle.names_check.proofs.Check.{going_start, going_over, going_unnamed, going_ordered, end_named, line_named}
use Rattle.names_check.proofs.Found.{kept_none}
use Rattle.names_check.proofs.Tally.{lines_past, passed_start, passed_end, passed_hit, passed_skip, passed_stop, passed_behind}
use Rattle.names_check.proofs.Nexts.{noting_start, noting_next}
use Rattle.names_check.proofs.read_names.Goals.{then-to-seen+then-name_starts, then-to-seen+else-name_starts+then-from-to, then-to-seen+else-name_starts+else-from-to, else-to-seen}
use Rattle.names_check.proofs.read_names.Goals as goal

-- nothing is said of the words where the names are not accepted
refused : {A : Type 0} {t : Bool} → t ≡ false → t ≡ true → A
refused e a = absurd (false≢true (sym e ∙ a))

pub loop-at-init : goal.loop-at-init
loop-at-init c = (kept_none _, search rules, search rules, going_start _ _, passed_start _ _, noting_start _ _ _ _)

pub next_name-requires : goal.next_name-requires
next_name-requires c = record { at_in_bounds = c.loop-at-test.true; kept = c.loop-at.invariant.0 }

pub shape_of-nexts-in_err-next : goal.shape_of-nexts-in_err-next
shape_of-nexts-in_err-next c = c.loop-at.invariant.5.noted.long

pub returns-in_err-next : goal.returns-in_err-next
returns-in_err-next c =
    let e = c.loop-at.invariant.3 ∙ going_unnamed c.loop-at-test.true c.in_err-next.ensures _ _ in
    record { value = c.from_residual.ensures ∙ rw e refl; noted_where = refused e }

pub loop-at-preserved : goal.loop-at-preserved
loop-at-preserved c =
    let i = c.loop-at.invariant in
    let n = c.in_ok-next.ensures in
    let noted = c.note_start-place.ensures in
    let here = line_named _ _ _ n.reached n.inside n.ended in (
      n.kept,
      search rules,
      search rules,
      i.3 ∙ going_ordered _ _ _ n.reached _ _ _ n.inside n.ended _ (sym n.ordered) refl,
      elim c.if-to-seen.branch [
        | then-to-seen+then-name_starts w ↦
            rw (w.from-is, w.to-is) (passed_hit _ _ _ _ _ _ _ _ here w.if-to-seen.true (sym w.name_starts.ensures ∙ w.if-name_starts.true) i.4)
        | then-to-seen+else-name_starts+then-from-to w ↦
            rw (w.from-is, w.to-is) (passed_skip _ _ _ _ _ _ _ _ here w.if-to-seen.true (sym w.name_starts.ensures ∙ w.if-name_starts.false) w.if-from-to.true i.4)
        | then-to-seen+else-name_starts+else-from-to w ↦
            rw (w.from-is, w.to-is) (passed_stop _ _ _ _ _ _ _ _ here w.if-to-seen.true (sym w.name_starts.ensures ∙ w.if-name_starts.false) w.if-from-to.false i.4)
        | else-to-seen w ↦ rw (w.from-is, w.to-is) (passed_behind _ _ _ _ _ _ _ _ here w.if-to-seen.false i.4)
      ],
      rw (noted.nexts_after, noted.value) (noting_next _ _ c.requires.step_nonzero i.5 here (end_named _ _ _ n.reached n.inside n.ended)),
    )

pub shape_of-nexts : goal.shape_of-nexts
shape_of-nexts c = c.loop-at.invariant.5.noted.long

pub returns : goal.returns
returns c =
    let l = c.loop-at-test.false in
    let r = passed_end _ _ _ _ _ _ (lines_past _ _ l) c.loop-at.invariant.4 in
    let e = c.loop-at.invariant.3 ∙ going_over _ _ _ _ _ l in
    record {
      value = c.then_some.ensures ∙ some_read _ _ _ ∙ rw (e, ← r.first, ← r.past) refl;
      noted_where = λ a. rw (eqb-true _ _ (sym e ∙ a)) at c.loop-at.invariant.5.noted;
    }
