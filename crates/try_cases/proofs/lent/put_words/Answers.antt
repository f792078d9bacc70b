use Rattle.std.proofs.Common.{◌≡◌, ℕ, ◌+◌, ◌-◌, ◌<◌, ◌≤◌, List, length, take, drop, append_assoc, sym, refl, arith, le-leb}
use borrow.Author.Tests.{lt-leb}
use borrow.Rule.Slice.PartMut.{put_mid}
use lib.Seq.{paste, take-length, drop-drop}
use Rattle.try_cases.specs.Lent.{put_end, put_words}
use Rattle.try_cases.proofs.lent.put_words.Goals.{then-to-at-via-then-to-at, then-to-at-via-else-to-at+then-to-at-2}
use Rattle.try_cases.proofs.lent.put_words.Goals as goal

pasted : (to from new : List ℕ) (at : ℕ) → new ≡ from → put_mid at (at + length from - at) to new ≡ paste to at from (length from)
pasted to from new at e =
    let n : at + length from - at ≡ length from = omega arith in
    rw (e, n, take-length, drop-drop) (sym (append_assoc (take at to) from (drop (at + length from) to)))

pub returns-then-to-at : goal.returns-then-to-at
unfolding put_end put_words
returns-then-to-at c =
    let h : length c.args.to.now < c.args.at + length c.args.from.now =
    elim c.then-to-at.branch [ then-to-at-via-then-to-at w ↦ omega arith | then-to-at-via-else-to-at+then-to-at-2 w ↦ omega arith ] in
    rw (lt-leb _ _ h) (refl, refl)

pub returns : goal.returns
unfolding put_end put_words
returns c =
    let a = c.args in
    let h : a.at + length a.from.now ≤ length a.to.now = omega arith in
    rw (le-leb _ _ h) (refl, pasted a.to.now a.from.now _ a.at c.copy_from_slice.ensures.after)
