-- `show_book` meets its contract: the printer is lent the lines that the translator made.
use Prim.Native.Nat.{ℕ}
use native.Mathlib.Omega.{arith}
use lib.ListN.{length-take}
use Rattle.print.specs.Reply.{answer_prints}
use Rattle.lines.proofs.Showing.{lines_fit, text_shown, unprinted, untranslated}
use Rattle.lines.proofs.show_book.Goals as goal

pub slice_bounds-print-end : goal.slice_bounds-print-end
slice_bounds-print-end c =
    omega (arith, lines_fit _ _ _ _ _ _ _ _ _ c.translate.ensures.answer _ c.in-Ok.is)

pub slice_bounds-print-end-in-Ok : goal.slice_bounds-print-end-in-Ok
slice_bounds-print-end-in-Ok c =
    omega (arith, lines_fit _ _ _ _ _ _ _ _ _ c.translate.ensures.answer _ c.in-Ok.is, length-take {A = ℕ})

pub slice_bounds-print-end-in-Ok-2 : goal.slice_bounds-print-end-in-Ok-2
slice_bounds-print-end-in-Ok-2 c =
    omega (arith, lines_fit _ _ _ _ _ _ _ _ _ c.translate.ensures.answer _ c.in-Ok.is)

pub slice_bounds-print-end-in-Ok-3 : goal.slice_bounds-print-end-in-Ok-3
slice_bounds-print-end-in-Ok-3 c =
    omega (arith, lines_fit _ _ _ _ _ _ _ _ _ c.translate.ensures.answer _ c.in-Ok.is, length-take {A = ℕ})

pub returns-in-Ok-print : goal.returns-in-Ok-print
returns-in-Ok-print c =
    text_shown _ _ _ _ _ _ _ _ _ c.translate.ensures.answer _ _ c.in-Ok.is _ _ (answer_prints _ _ _ _ _ c.print.ensures.print_answer c.print.ensures.numbered)
    _ c.in-Ok-print.is

pub returns-in-Err-print : goal.returns-in-Err-print
returns-in-Err-print c =
    unprinted _ _ _ _ _ _ _ _ _ c.translate.ensures.answer _ _ c.in-Ok.is _ _
    (answer_prints _ _ _ _ _ c.print.ensures.print_answer c.print.ensures.numbered) _ c.in-Err-print.is _ _
    (rw c.number.ensures at c.put_refusal.ensures)

pub returns-in-Err : goal.returns-in-Err
returns-in-Err c =
    untranslated _ _ _ _ _ _ _ _ _ c.translate.ensures.answer _ c.translate.ensures.numbered _ c.in-Err.is _ _ (rw c.number-in-Err.ensures at c.put_refusal-in-Err.ensures)
