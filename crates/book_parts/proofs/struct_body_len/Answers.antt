-- `book_parts::struct_body_len` meets its contract: kind 4 is opaque, and else a struct type is read.
use mathlib.Core.Path.{◌∙◌}
use Rattle.book_parts.specs.Parts as parts
use Rattle.book_parts.proofs.struct_body_len.Goals as goal

pub returns-in_err-kind : goal.returns-in_err-kind
returns-in_err-kind c = c.from_residual.ensures ∙ parts.body_none c.args.names _ c.in_err-kind.ensures

pub returns-then-kind-eq-OPAQUE : goal.returns-then-kind-eq-OPAQUE
returns-then-kind-eq-OPAQUE c =
    c.then_some.ensures ∙ parts.body_opaque c.args.names _ _ _ c.in_ok-kind.ensures c.if-kind-eq-OPAQUE.true

pub returns-then-is_struct : goal.returns-then-is_struct
returns-then-is_struct c =
    c.type_len.ensures ∙ parts.body_struct c.args.names _ _ _ c.in_ok-kind.ensures c.if-kind-eq-OPAQUE.false _ _ c.type_group.ensures
    c.is_struct.ensures c.if-is_struct.true

pub returns-else-is_struct : goal.returns-else-is_struct
returns-else-is_struct c =
    parts.body_other c.args.names _ _ _ c.in_ok-kind.ensures c.if-kind-eq-OPAQUE.false _ _ c.type_group.ensures
    c.is_struct.ensures c.if-is_struct.false
