-- `book_parts::mark` meets its contract: the tests are the definition's, and a reserved name is barred.
use mathlib.Core.Path.{refl, ◌∙◌, sym, ap}
use borrow.Author.Tests.{eq-eqb, ne_eqb}
use Rattle.book_marks.specs.Once.{set_if}
use Rattle.book_parts.specs.Parts as parts
use Rattle.book_parts.proofs.mark.Goals as goal

pub returns-then-kind-eq-END : goal.returns-then-kind-eq-END
returns-then-kind-eq-END c =
    let a = c.args in
    record { value = parts.mark_zero a.names a.marked.now a.kind a.word c.if-kind-eq-END.true; marked_after = refl; barred_after = refl }

pub returns-then-kind-gt-RESERVED : goal.returns-then-kind-gt-RESERVED
returns-then-kind-gt-RESERVED c =
    let a = c.args in
    record { value = parts.mark_high a.names a.marked.now a.kind a.word c.if-kind-gt-RESERVED.true; marked_after = refl; barred_after = refl }

pub returns-then-names-word : goal.returns-then-names-word
returns-then-names-word c =
    let a = c.args in
    record { value = parts.mark_name_lem a.names a.marked.now a.kind a.word c.if-names-word.true; marked_after = refl; barred_after = refl }

pub returns-then-not-mark_new : goal.returns-then-not-mark_new
returns-then-not-mark_new c =
    let a = c.args in
    record {
      value = parts.mark_old a.names a.marked.now a.kind a.word _ c.mark_new.ensures.value c.if-not-mark_new.true;
      marked_after = c.mark_new.ensures.map_after ∙ ap (λ t. set_if t a.marked.now a.word) c.if-not-mark_new.true;
      barred_after = refl;
    }

pub returns-then-kind-eq-RESERVED : goal.returns-then-kind-eq-RESERVED
returns-then-kind-eq-RESERVED c =
    let a = c.args in
    record {
      value = parts.mark_first a.names a.marked.now a.kind a.word c.if-kind-eq-END.false c.if-kind-gt-RESERVED.false c.if-names-word.false _
          c.mark_new.ensures.value c.if-not-mark_new.false;
      marked_after = c.mark_new.ensures.map_after ∙ ap (λ t. set_if t a.marked.now a.word) c.if-not-mark_new.false;
      barred_after = c.mark_bit.ensures ∙ sym (ap (λ t. set_if t a.barred.now a.word) (eq-eqb _ _ c.if-kind-eq-RESERVED.true));
    }

pub returns-else-kind-eq-RESERVED : goal.returns-else-kind-eq-RESERVED
returns-else-kind-eq-RESERVED c =
    let a = c.args in
    record {
      value = parts.mark_first a.names a.marked.now a.kind a.word c.if-kind-eq-END.false c.if-kind-gt-RESERVED.false c.if-names-word.false _
          c.mark_new.ensures.value c.if-not-mark_new.false;
      marked_after = c.mark_new.ensures.map_after ∙ ap (λ t. set_if t a.marked.now a.word) c.if-not-mark_new.false;
      barred_after = sym (ap (λ t. set_if t a.barred.now a.word) (ne_eqb _ _ c.if-kind-eq-RESERVED.false));
    }
