-- `write_end` meets its contract by the test of the kind.
use mathlib.Core.Path.{sym, ◌∙◌}
use Rattle.print_words.specs.Plain.{colon_stored, semicolon_stored}
use Rattle.print_words.proofs.plain.write_end.Goals.{else-is_label, then-is_label}
use Rattle.print_words.proofs.plain.write_end.Goals as goal

pub returns : goal.returns
returns c =
    let is = sym c.is_label.ensures in
    elim c.if-is_label.branch [
      | then-is_label w ↦ colon_stored _ _ _ _ (is ∙ w.if-is_label.true) w.text-is
      | else-is_label w ↦ semicolon_stored _ _ _ _ (is ∙ w.if-is_label.false) w.text-is
    ]
