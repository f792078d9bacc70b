use Rattle.std.proofs.Common.{ℕ, ◌<◌, List, ◌++◌, map, length, drop, set, sym, refl, ap, ◌∙◌, arith, length-set}
use lib.ListN.{length-map, get_or-map}
use Rattle.try_cases.specs.Lent.{name_byte}
use Rattle.try_cases.proofs.Copying.{copied_more, copied_all}
use Rattle.try_cases.proofs.lent.copy_names.Goals as goal

pub loop-i-preserved : goal.loop-i-preserved
unfolding name_byte
loop-i-preserved c =
    let l = c.loop-i in
    let a = c.args in
    let n = length-map a.from.now name_byte in
    let h : l.i < length (map name_byte a.from.now) = omega (arith, n) in (
      omega arith,
      refl,
      length-set l.to l.i _ ∙ l.invariant.2,
      ap (λ (t : List ℕ). set t l.i c.name_byte.result) l.invariant.3
          ∙ copied_more (map name_byte a.from.now) a.to.now l.i 0 _ h (omega (arith, n)) (get_or-map name_byte a.from.now l.i 0 ∙ sym c.name_byte.ensures),
    )

pub returns : goal.returns
returns c =
    let l = c.loop-i in
    let a = c.args in
    let n = length-map a.from.now name_byte in
    copied_all (map name_byte a.from.now) a.to.now l.to l.i l.invariant.3 (omega (arith, n))
    ∙ ap (λ (k : ℕ). map name_byte a.from.now ++ drop k a.to.now) n
