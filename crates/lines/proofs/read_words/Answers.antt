use mathlib.Core.Path.{◌≡◌, refl}
use native.Mathlib.Omega.{arith}
use lib.ListN.{length-set, length-drop, length-take}
use Rattle.lines.specs.Shown.{words}
use Rattle.lines.proofs.Words.{word_put}
use Rattle.lines.proofs.read_words.Goals as goal

pub loop-i-init : goal.loop-i-init
unfolding words
loop-i-init c = (omega arith, refl, refl)

pub read_word-requires : goal.read_word-requires
read_word-requires c = simp (length-take, length-drop) (omega arith)

pub loop-i-preserved : goal.loop-i-preserved
loop-i-preserved c =
    let l = c.loop-i in
    (omega arith, simp length-set l.invariant.1, word_put _ l.book l.i _ (omega arith) l.invariant.2 c.read_word.ensures)

pub returns : goal.returns
returns c =
    let l = c.loop-i in
    let n : l.i ≡ c.args.count = omega arith in
    rw n at l.invariant.2
