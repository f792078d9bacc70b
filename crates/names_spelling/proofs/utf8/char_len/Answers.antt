use mathlib.Core.Path.{refl, sym, ◌∙◌}
use mathlib.Core.Bool.{and-false}
use native.Mathlib.Omega.{arith}
use borrow.Author.Tests.{le-leb, lt-leb}
use Rattle.names.specs.Text.{within}
use Rattle.names.specs.Utf8.{to, has}
use Rattle.names_spelling.specs.Length.{none_answered, some_answered, no_length, a_length}
use Rattle.names_spelling.proofs.Chars.{char_none, char_ascii, char_unled, char_cut, char_second, filling_start, char_tail, filling_next, char_filled}
use Rattle.names_spelling.proofs.utf8.char_len.Goals.{then-second-lowest-via-then-second-lowest, then-second-lowest-via-else-second-lowest+then-highest-second}
use Rattle.names_spelling.proofs.utf8.char_len.Goals as goal

pub returns-then-text-at : goal.returns-then-text-at
returns-then-text-at c = none_answered _ (char_none _ _ c.if-text-at.true)

pub returns-then-first-lt128 : goal.returns-then-first-lt128
returns-then-first-lt128 c =
    some_answered _ 0 (char_ascii _ _ c.if-text-at.false (c.type_inv.text _).fits c.if-first-lt128.true)

pub returns-in_err-n : goal.returns-in_err-n
returns-in_err-n c =
    let unled = char_unled _ _ c.if-text-at.false ((c.type_inv.text _).fits) _ refl c.if-first-lt128.false (no_length _ c.in_err-n.ensures) in
    c.from_residual.ensures ∙ none_answered _ unled

pub returns-then-text-at-2 : goal.returns-then-text-at-2
returns-then-text-at-2 c =
    let n = a_length _ _ c.in_ok-n.ensures in
    none_answered _ (char_cut _ _ c.if-text-at.false ((c.type_inv.text _).fits) _ n.0 c.if-first-lt128.false c.if-text-at-2.true)

pub returns-then-second-lowest : goal.returns-then-second-lowest
unfolding has to within
returns-then-second-lowest c =
    let n = a_length _ _ c.in_ok-n.ensures in
    let second = char_second _ _ c.if-text-at.false ((c.type_inv.text _).fits) _ n.0 c.if-first-lt128.false n.1 (omega arith) in
    elim c.then-second-lowest.branch [
      | then-second-lowest-via-then-second-lowest w ↦ none_answered _ (second (rw (← c.lowest.ensures, lt-leb _ _ w.if-second-lowest.true)))
      | then-second-lowest-via-else-second-lowest+then-highest-second w ↦
          none_answered _ (second (rw (← w.highest.ensures, lt-leb _ _ w.if-highest-second.true) (and-false _)))
    ]

pub loop-i-init : goal.loop-i-init
unfolding has to within
loop-i-init c =
    let n = a_length _ _ c.in_ok-n.ensures in
    filling_start _ _ c.if-text-at.false ((c.type_inv.text _).fits) _ n.0 c.if-first-lt128.false n.1 (omega arith)
    (rw (← c.lowest.ensures, ← c.highest.ensures, le-leb _ _ c.if-second-lowest.false, le-leb _ _ c.if-highest-second.false))

pub returns-then-not-is_tail : goal.returns-then-not-is_tail
returns-then-not-is_tail c =
    let n = a_length _ _ c.in_ok-n.ensures in
    none_answered _
    (char_tail _ _ c.if-text-at.false ((c.type_inv.text _).fits) _ n.0 c.if-first-lt128.false _ c.loop-i.invariant
    (omega arith) (omega arith) (sym c.is_tail.ensures ∙ c.if-not-is_tail.true))

pub loop-i-preserved : goal.loop-i-preserved
loop-i-preserved c =
    let n = a_length _ _ c.in_ok-n.ensures in
    filling_next _ _ c.if-text-at.false ((c.type_inv.text _).fits) _ n.0 c.if-first-lt128.false _ c.loop-i.invariant
    (omega arith) (omega arith) (sym c.is_tail.ensures ∙ c.if-not-is_tail.false)

pub returns : goal.returns
returns c =
    let n = a_length _ _ c.in_ok-n.ensures in
    some_answered _ _
    (char_filled _ _ c.if-text-at.false ((c.type_inv.text _).fits) _ n.0 c.if-first-lt128.false _ c.loop-i.invariant (omega arith))
