-- `gen_values::sx_kind` meets its contract.
use mathlib.Core.Path.{sym}
use native.Mathlib.Omega.{arith}
use borrow.Author.Tests.{ne_eqb, le-leb, lt-leb}
use Rattle.gen_values.specs.Widths.{sx_kind}
use Rattle.gen_values.proofs.sx_kind.Goals as goal

pub returns-in-8 : goal.returns-in-8
unfolding sx_kind
returns-in-8 c = (sym (simp (le-leb _ _ c.if-to-le32.true, c.in-8.is)), λ z. omega arith)

pub returns-in-16 : goal.returns-in-16
unfolding sx_kind
returns-in-16 c = (sym (simp (le-leb _ _ c.if-to-le32.true, c.in-16.is)), λ z. omega arith)

pub returns-in_default : goal.returns-in_default
unfolding sx_kind
returns-in_default c = simp (le-leb _ _ c.if-to-le32.true, ne_eqb _ _ c.in_default.in_default-own.rest.0.1, ne_eqb _ _ c.in_default.in_default-own.rest.1)

pub returns-in-8-from : goal.returns-in-8-from
unfolding sx_kind
returns-in-8-from c = (sym (simp (lt-leb _ _ c.if-to-le32.false, c.in-8-from.is)), λ z. omega arith)

pub returns-in-16-from : goal.returns-in-16-from
unfolding sx_kind
returns-in-16-from c = (sym (simp (lt-leb _ _ c.if-to-le32.false, c.in-16-from.is)), λ z. omega arith)

pub returns-in-32 : goal.returns-in-32
unfolding sx_kind
returns-in-32 c = (sym (simp (lt-leb _ _ c.if-to-le32.false, c.in-32.is)), λ z. omega arith)

pub returns-in_default-from : goal.returns-in_default-from
unfolding sx_kind
returns-in_default-from c = simp (lt-leb _ _ c.if-to-le32.false, ne_eqb _ _ c.in_default-from.in_default-from-own.rest.0.0.1, ne_eqb _ _ c.in_default-from.in_default-from-own.rest.0.1, ne_eqb _ _ c.in_default-from.in_default-from-own.rest.1)
