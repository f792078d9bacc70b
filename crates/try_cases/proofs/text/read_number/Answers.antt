use Rattle.std.proofs.Common.{◌≡◌, not, length, sym, ap, ◌∙◌, arith}
use Rattle.try_cases.specs.Text.{no_digit}
use Rattle.try_cases.proofs.Reading.{reached_first, reached_more, reached_end, digits_past, digits_stop}
use Rattle.try_cases.proofs.text.read_number.Goals as goal

pub loop-i-init : goal.loop-i-init
loop-i-init c = reached_first c.args.text.now

pub returns-then-not-is_ascii_digit : goal.returns-then-not-is_ascii_digit
unfolding no_digit
returns-then-not-is_ascii_digit c =
    let l = c.loop-i in
    let t = c.args.text.now in
    let h = ap not (sym c.is_ascii_digit.ensures.value ∙ c.if-not-is_ascii_digit.true) in
    reached_end t l.value l.i l.invariant (digits_stop t l.value l.i l.invariant c.loop-i-test.true h)

pub loop-i-preserved : goal.loop-i-preserved
unfolding no_digit
loop-i-preserved c =
    let l = c.loop-i in
    let t = c.args.text.now in
    let h = ap not (sym c.is_ascii_digit.ensures.value ∙ c.if-not-is_ascii_digit.false) in
    reached_more t l.value l.i l.invariant c.with_digit-value.result c.loop-i-test.true h c.with_digit-value.ensures

pub returns : goal.returns
returns c =
    let l = c.loop-i in
    let t = c.args.text.now in
    let all : length t ≡ l.i = omega (arith, l.invariant.inside) in
    rw all (reached_end t l.value l.i l.invariant (digits_past t l.value l.i l.invariant c.loop-i-test.false))
