-- The part before a byte is no longer than the text.
use Prim.Native.Nat.{◌-◌}
use native.Mathlib.Omega.{arith}
use lib.ListN.{length, take, drop, length-drop, length-take}
use Rattle.try_cases.proofs.Reading.{up_within}
use Rattle.try_check.proofs.place.Goals as goal

pub overflow_add-result : goal.overflow_add-result
overflow_add-result c =
    let a = c.args in
    let t = a.text.now in
    let part = take (length t - a.from) (drop a.from t) in
    omega (arith, c.before-2.ensures, up_within a.wanted part, length-take (length t - a.from) (drop a.from t), length-drop a.from t)

pub returns : goal.returns
returns c =
    let a = c.args in
    let t = a.text.now in
    let part = take (length t - a.from) (drop a.from t) in
    omega (arith, c.before-2.ensures, up_within a.wanted part, length-take (length t - a.from) (drop a.from t), length-drop a.from t)
