-- `next_name` meets its contract: a word tells a short ASCII name, and what it passes of any other.
use mathlib.Core.Path.{refl, sym, ◌∙◌}
use native.Mathlib.Omega.{arith}
use Rattle.names_check.specs.Found.{Spelled}
use Rattle.names_check.proofs.Through.{through_then}
use Rattle.names_check.proofs.Words.{word_read}
use Rattle.names_check.proofs.Found.{Passing, passing_none, passing_word, passing_whole, found_short, found_long, found_wide}
use Rattle.names_check.proofs.next_name.Goals.{then-names-at-ge8+then-n-lt8+else-names-from-eq-END, then-names-at-ge8+else-n-lt8, else-names-at-ge8}
use Rattle.names_check.proofs.next_name.Goals.{then-names-end-via-then-names-end, then-names-end-via-else-names-end+then-names-end-ne-END, then-names-end-via-else-names-end+else-names-end-ne-END+then-not-name_before}
use Rattle.names_check.proofs.next_name.Goals as goal

pub returns-then-names-from-eq-END : goal.returns-then-names-from-eq-END
returns-then-names-from-eq-END c =
    rw c.then_some.ensures
    (found_short (word_read _ _ _ _ (λ i. (c.type_inv.names i).fits) c.if-names-at-ge8.true c.word_at-first.ensures c.word_front-n.ensures) c.requires.kept _ refl c.if-n-lt8.true c.if-names-from-eq-END.true c.word_key-k.ensures)

pub front_end-end-requires : goal.front_end-end-requires
front_end-end-requires c =
    let passing : Passing c.args.names.now c.args.at c.if-names-at-ge8.from c.if-names-at-ge8.first = elim c.if-names-at-ge8.branch [
      | then-names-at-ge8+then-n-lt8+else-names-from-eq-END w ↦ rw (w.from-is, w.first-is) (passing_word (word_read _ _ _ _ (λ i. (c.type_inv.names i).fits) w.if-names-at-ge8.true w.word_at-first.ensures w.word_front-n.ensures))
      | then-names-at-ge8+else-n-lt8 w ↦ rw (w.from-is, w.first-is) (passing_whole (word_read _ _ _ _ (λ i. (c.type_inv.names i).fits) w.if-names-at-ge8.true w.word_at-first.ensures w.word_front-n.ensures) w.if-n-lt8.false)
      | else-names-at-ge8 w ↦ rw (w.from-is, w.first-is) (passing_none _ _ _ (λ i. (c.type_inv.names i).fits) c.requires.at_in_bounds w.if-names-at-ge8.false)
    ] in
    passing.through.ends

pub slice_bounds-name_before-count-else-names-end-ne-END : goal.slice_bounds-name_before-count-else-names-end-ne-END
slice_bounds-name_before-count-else-names-end-ne-END c =
    let passing : Passing c.args.names.now c.args.at c.if-names-at-ge8.from c.if-names-at-ge8.first = elim c.if-names-at-ge8.branch [
      | then-names-at-ge8+then-n-lt8+else-names-from-eq-END w ↦ rw (w.from-is, w.first-is) (passing_word (word_read _ _ _ _ (λ i. (c.type_inv.names i).fits) w.if-names-at-ge8.true w.word_at-first.ensures w.word_front-n.ensures))
      | then-names-at-ge8+else-n-lt8 w ↦ rw (w.from-is, w.first-is) (passing_whole (word_read _ _ _ _ (λ i. (c.type_inv.names i).fits) w.if-names-at-ge8.true w.word_at-first.ensures w.word_front-n.ensures) w.if-n-lt8.false)
      | else-names-at-ge8 w ↦ rw (w.from-is, w.first-is) (passing_none _ _ _ (λ i. (c.type_inv.names i).fits) c.requires.at_in_bounds w.if-names-at-ge8.false)
    ] in
    let rest = c.front_end-end.ensures in
    let whole : Spelled c.args.names.now c.args.at c.front_end-end.result = record { through = through_then passing.through rest.through; stuck = rest.stuck } in
    whole.through.starts

pub overflow_sub-long : goal.overflow_sub-long
overflow_sub-long c =
    let passing : Passing c.args.names.now c.args.at c.if-names-at-ge8.from c.if-names-at-ge8.first = elim c.if-names-at-ge8.branch [
      | then-names-at-ge8+then-n-lt8+else-names-from-eq-END w ↦ rw (w.from-is, w.first-is) (passing_word (word_read _ _ _ _ (λ i. (c.type_inv.names i).fits) w.if-names-at-ge8.true w.word_at-first.ensures w.word_front-n.ensures))
      | then-names-at-ge8+else-n-lt8 w ↦ rw (w.from-is, w.first-is) (passing_whole (word_read _ _ _ _ (λ i. (c.type_inv.names i).fits) w.if-names-at-ge8.true w.word_at-first.ensures w.word_front-n.ensures) w.if-n-lt8.false)
      | else-names-at-ge8 w ↦ rw (w.from-is, w.first-is) (passing_none _ _ _ (λ i. (c.type_inv.names i).fits) c.requires.at_in_bounds w.if-names-at-ge8.false)
    ] in
    let rest = c.front_end-end.ensures in
    let whole : Spelled c.args.names.now c.args.at c.front_end-end.result = record { through = through_then passing.through rest.through; stuck = rest.stuck } in
    whole.through.starts

pub returns-then-names-end : goal.returns-then-names-end
returns-then-names-end c =
    let passing : Passing c.args.names.now c.args.at c.if-names-at-ge8.from c.if-names-at-ge8.first = elim c.if-names-at-ge8.branch [
      | then-names-at-ge8+then-n-lt8+else-names-from-eq-END w ↦ rw (w.from-is, w.first-is) (passing_word (word_read _ _ _ _ (λ i. (c.type_inv.names i).fits) w.if-names-at-ge8.true w.word_at-first.ensures w.word_front-n.ensures))
      | then-names-at-ge8+else-n-lt8 w ↦ rw (w.from-is, w.first-is) (passing_whole (word_read _ _ _ _ (λ i. (c.type_inv.names i).fits) w.if-names-at-ge8.true w.word_at-first.ensures w.word_front-n.ensures) w.if-n-lt8.false)
      | else-names-at-ge8 w ↦ rw (w.from-is, w.first-is) (passing_none _ _ _ (λ i. (c.type_inv.names i).fits) c.requires.at_in_bounds w.if-names-at-ge8.false)
    ] in
    let rest = c.front_end-end.ensures in
    let whole : Spelled c.args.names.now c.args.at c.front_end-end.result = record { through = through_then passing.through rest.through; stuck = rest.stuck } in
    record {
      end = c.front_end-end.result;
      reached = whole;
      unordered = λ l e. elim c.then-names-end.branch [
        | then-names-end-via-then-names-end w ↦ absurd (omega arith)
        | then-names-end-via-else-names-end+then-names-end-ne-END w ↦ absurd (w.if-names-end-ne-END.true e)
        | then-names-end-via-else-names-end+else-names-end-ne-END+then-not-name_before w ↦ sym w.name_before.ensures ∙ w.if-not-name_before.true
      ];
    }

pub returns-then-long-lt8 : goal.returns-then-long-lt8
returns-then-long-lt8 c =
    let passing : Passing c.args.names.now c.args.at c.if-names-at-ge8.from c.if-names-at-ge8.first = elim c.if-names-at-ge8.branch [
      | then-names-at-ge8+then-n-lt8+else-names-from-eq-END w ↦ rw (w.from-is, w.first-is) (passing_word (word_read _ _ _ _ (λ i. (c.type_inv.names i).fits) w.if-names-at-ge8.true w.word_at-first.ensures w.word_front-n.ensures))
      | then-names-at-ge8+else-n-lt8 w ↦ rw (w.from-is, w.first-is) (passing_whole (word_read _ _ _ _ (λ i. (c.type_inv.names i).fits) w.if-names-at-ge8.true w.word_at-first.ensures w.word_front-n.ensures) w.if-n-lt8.false)
      | else-names-at-ge8 w ↦ rw (w.from-is, w.first-is) (passing_none _ _ _ (λ i. (c.type_inv.names i).fits) c.requires.at_in_bounds w.if-names-at-ge8.false)
    ] in
    let rest = c.front_end-end.ensures in
    let whole : Spelled c.args.names.now c.args.at c.front_end-end.result = record { through = through_then passing.through rest.through; stuck = rest.stuck } in
    found_wide passing _ whole c.if-names-end.false c.if-names-end-ne-END.false _ _ (sym c.name_before.ensures ∙ c.if-not-name_before.false) _ c.word_key-first.ensures

pub returns-else-long-lt8 : goal.returns-else-long-lt8
returns-else-long-lt8 c =
    let passing : Passing c.args.names.now c.args.at c.if-names-at-ge8.from c.if-names-at-ge8.first = elim c.if-names-at-ge8.branch [
      | then-names-at-ge8+then-n-lt8+else-names-from-eq-END w ↦ rw (w.from-is, w.first-is) (passing_word (word_read _ _ _ _ (λ i. (c.type_inv.names i).fits) w.if-names-at-ge8.true w.word_at-first.ensures w.word_front-n.ensures))
      | then-names-at-ge8+else-n-lt8 w ↦ rw (w.from-is, w.first-is) (passing_whole (word_read _ _ _ _ (λ i. (c.type_inv.names i).fits) w.if-names-at-ge8.true w.word_at-first.ensures w.word_front-n.ensures) w.if-n-lt8.false)
      | else-names-at-ge8 w ↦ rw (w.from-is, w.first-is) (passing_none _ _ _ (λ i. (c.type_inv.names i).fits) c.requires.at_in_bounds w.if-names-at-ge8.false)
    ] in
    let rest = c.front_end-end.ensures in
    let whole : Spelled c.args.names.now c.args.at c.front_end-end.result = record { through = through_then passing.through rest.through; stuck = rest.stuck } in
    found_long passing _ whole c.if-names-end.false c.if-names-end-ne-END.false _ _ (sym c.name_before.ensures ∙ c.if-not-name_before.false) c.if-long-lt8.false
