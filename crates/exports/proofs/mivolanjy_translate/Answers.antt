-- `exports::mivolanjy_translate` meets its contract: the translator's answer, in numbers.
use Rattle.exports.specs.Translated.{accepted_is, refused_is}
use Rattle.exports.proofs.mivolanjy_translate.Goals as goal

pub returns-in-Ok : goal.returns-in-Ok
returns-in-Ok c =
    accepted_is _ _ _ _ _ _ c.translate.ensures.answer _ c.in-Ok.is

pub returns-in-Err : goal.returns-in-Err
returns-in-Err c =
    rw c.number.ensures (refused_is _ _ _ _ _ _ c.translate.ensures.answer _ c.in-Err.is)
