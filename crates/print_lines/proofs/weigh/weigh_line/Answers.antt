-- `weigh_line` meets its contract by the kind of the line; the comment is counted by a pen.
use Prim.Native.Nat.{◌<◌}
use mathlib.Core.Path.{refl}
use native.Mathlib.Omega.{arith}
use Rattle.names.specs.Labels.{sanitize_length}
use Rattle.print_pen.specs.Pen.{put_same}
use Rattle.print_forms.specs.Kinds.{comment_stands, comment_barred}
use Rattle.print_lines.specs.Weigh.{barred_is, number_weighed, named_weighed, comment_printed, counted_bytes, counted_short}
use Rattle.print_lines.proofs.weigh.weigh_line.Goals as goal

pub returns-then-kind-ge-PUSH_0N : goal.returns-then-kind-ge-PUSH_0N
returns-then-kind-ge-PUSH_0N c =
    let a = c.args in
    number_weighed _ _ _ _ _ _ _ _ _ _ c.if-kind-ge-PUSH_0N.true (c.weigh_number.ensures a.count a.own a.from a.to)

pub weigh_named-requires-clause-label_bound : goal.weigh_named-requires-clause-label_bound
weigh_named-requires-clause-label_bound c =
    let short : c.args.label < 9223372036854775808 = omega (arith, c.requires.label_value, sanitize_length c.args.function.now, c.well_formed) in
    short

pub returns-then-kind-ge-FN_LABEL : goal.returns-then-kind-ge-FN_LABEL
returns-then-kind-ge-FN_LABEL c =
    named_weighed _ _ _ _ _ _ _ _ _ _ c.if-kind-ge-FN_LABEL.true c.if-kind-ge-PUSH_0N.false
    (c.weigh_named.ensures c.args.own c.args.function.now c.requires.label_value)

pub returns-then-x-own : goal.returns-then-x-own
returns-then-x-own c =
    record { is = barred_is _ _ _ (comment_barred _ _ _ _ _ _ c.if-kind-ge-FN_LABEL.false c.if-x-own.true); text = refl }

pub returns-in_default : goal.returns-in_default
returns-in_default c =
    let text = put_same (comment_printed _ _ _ _ _ _ c.if-kind-ge-FN_LABEL.false) c.put_comment.ensures in
    counted_short _ (comment_stands _ _ _ _ _ _ c.if-kind-ge-FN_LABEL.false c.if-x-own.false) text c.in_default.not-Counting

pub returns : goal.returns
returns c =
    let text = put_same (comment_printed _ _ _ _ _ _ c.if-kind-ge-FN_LABEL.false) c.put_comment.ensures in
    counted_bytes _ (comment_stands _ _ _ _ _ _ c.if-kind-ge-FN_LABEL.false c.if-x-own.false) text _ c.in-Counting.is
