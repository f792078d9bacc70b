use mathlib.Core.Path.{sym, ◌∙◌}
use native.Mathlib.Omega.{arith}
use lib.ListN.{drop}
use Rattle.names.specs.Utf8.{char_length}
use borrow.Author.Rules.{rules}
use Rattle.names_spelling.specs.Length.{no_length, a_length}
use Rattle.names_check.proofs.Through.{through_none, through_then, through_char, stuck_byte, stuck_char}
use Rattle.names_check.proofs.chars_end.Goals as goal

pub loop-i-init : goal.loop-i-init
loop-i-init c = through_none _ _ c.requires

pub returns-then-not-name_byte : goal.returns-then-not-name_byte
returns-then-not-name_byte c =
    record {
      through = c.loop-i.invariant;
      stuck = λ l d. stuck_byte _ _ l (sym c.name_byte.ensures ∙ c.if-not-name_byte.true) d;
    }

pub returns-in_default : goal.returns-in_default
returns-in_default c =
    record {
      through = c.loop-i.invariant;
      stuck = λ l d. stuck_char _ _ l (no_length _ c.in_default.ensures) d;
    }

pub overflow_add-i : goal.overflow_add-i
overflow_add-i c =
    let n = a_length (char_length (drop c.loop-i.i c.args.names.now)) c.in-Some.n c.in-Some.ensures in
    omega (arith, (through_char _ _ c.loop-i-test.true _ n.0 (λ z. omega (arith, n.1)) (sym c.name_byte.ensures ∙ c.if-not-name_byte.false)).ends)

pub loop-i-smaller : goal.loop-i-smaller
loop-i-smaller c =
    let n = a_length (char_length (drop c.loop-i.i c.args.names.now)) c.in-Some.n c.in-Some.ensures in
    omega (arith, n.1, (through_char _ _ c.loop-i-test.true _ n.0 (λ z. omega (arith, n.1)) (sym c.name_byte.ensures ∙ c.if-not-name_byte.false)).ends)

pub loop-i-preserved : goal.loop-i-preserved
loop-i-preserved c =
    let n = a_length (char_length (drop c.loop-i.i c.args.names.now)) c.in-Some.n c.in-Some.ensures in
    through_then c.loop-i.invariant (through_char _ _ c.loop-i-test.true _ n.0 (λ z. omega (arith, n.1)) (sym c.name_byte.ensures ∙ c.if-not-name_byte.false))

pub returns : goal.returns
returns c = record { through = c.loop-i.invariant; stuck = λ l d. absurd (search rules) }
