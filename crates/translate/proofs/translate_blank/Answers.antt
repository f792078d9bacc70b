-- `translate::translate_blank` meets its contract: the check's refusals, and what is generated for a sound book.
use borrow.Author.Rules.{rules}
use mathlib.Core.Path.{◌≡◌, refl}
use Rattle.std.proofs.Common.{Err}
use Rattle.translate.specs.Sound.{refused_answer, sound_ask}
use Rattle.translate.proofs.translate_blank.Goals as goal

pub translate_sound-requires : goal.translate_sound-requires
translate_sound-requires c =
    let told = c.in_ok-check_noting.ensures in
    record { sound_ask = sound_ask c.args.book.now _ _ _ (told.noted_where refl) told.result_value c.requires.blank_ask; own_kinds_len = c.requires.own_kinds_len }

pub returns-in_err-check_noting : goal.returns-in_err-check_noting
returns-in_err-check_noting c =
    let a = c.args in
    let is : c.from_residual.result ≡ Err c.in_err-check_noting.field-0.0 = search rules in
    rw is (refused_answer a.book.now a.names.now a.counter _ c.in_err-check_noting.field-0.0 c.in_err-check_noting.ensures.result_value
    _ a.kinds.now a.operands.now)
