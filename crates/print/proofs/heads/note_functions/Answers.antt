use mathlib.Core.Path.{◌≡◌, refl, ◌∙◌}
use native.Mathlib.Omega.{arith}
use lib.ListN.{length}
use Rattle.print.specs.Heads.{noted_start}
use Rattle.print.proofs.heads.note_functions.Goals as goal

pub loop-i-init : goal.loop-i-init
loop-i-init c = (refl, (omega arith, noted_start _ _ _ c.requires.zeroed))

pub bounds-words-i : goal.bounds-words-i
bounds-words-i c = omega (arith, c.loop-i-test.true, c.requires.kinds_len)

pub note_head-requires : goal.note_head-requires
note_head-requires c = omega (arith, c.loop-i-test.true, c.requires.kinds_len_bound)

pub loop-i-preserved : goal.loop-i-preserved
loop-i-preserved c =
    let test = c.loop-i-test.true in
    let inv = c.loop-i.invariant in (
      c.note_head.auto.index ∙ inv.0,
      (
        omega (arith, test),
        c.note_head.ensures _ _
            (record { kinds = test; words = omega (arith, test, c.requires.kinds_len); kind = refl; word = refl }) inv.1.1,
      ),
    )

pub shape_of-index : goal.shape_of-index
shape_of-index c = c.loop-i.invariant.0

pub returns : goal.returns
returns c =
    let inv = c.loop-i.invariant in
    let e : c.loop-i.i ≡ length c.args.kinds.now = omega (arith, inv.1.0, c.loop-i-test.false) in
    rw e at inv.1.1
