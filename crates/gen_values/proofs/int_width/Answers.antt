-- `gen_values::int_width` meets its contract.
use mathlib.Core.Path.{◌≡◌, refl}
use native.Mathlib.Omega.{arith}
use borrow.Author.Tests.{ne_eqb, le-leb, lt-leb}
use Rattle.gen_values.specs.Values.{width_by}
use Rattle.gen_values.proofs.int_width.Goals as goal

pub returns-in-12 : goal.returns-in-12
unfolding width_by
returns-in-12 c = (rw c.in-12.is refl, λ z. omega arith)

pub returns-in-11 : goal.returns-in-11
unfolding width_by
returns-in-11 c = (rw (c.in-11.is, le-leb _ _ c.if-word-le64.true) refl, λ z. omega arith)

pub returns-in_default : goal.returns-in_default
unfolding width_by
returns-in_default c = rw (c.in-11.is, lt-leb _ _ c.if-word-le64.false) refl

pub returns-in_default-2 : goal.returns-in_default-2
unfolding width_by
returns-in_default-2 c = let z : c.args.word ≡ 0 = omega arith in rw (c.in-11.is, z) refl

pub returns-in_default-3 : goal.returns-in_default-3
unfolding width_by
returns-in_default-3 c = rw (ne_eqb c.args.kind 12 (λ z. omega arith), ne_eqb c.args.kind 11 (λ z. omega arith)) refl
