-- `weigh_named` meets its contract: a line that may stand has the bytes of its name and those around it.
use Prim.Native.Nat.{◌+◌}
use mathlib.Core.Path.{◌≡◌, sym, ◌∙◌}
use native.Mathlib.Omega.{arith}
use lib.ListN.{length}
use Rattle.names.specs.Name.{lines}
use Rattle.print_forms.specs.Forms.{form_of}
use Rattle.print_forms.specs.Allowed.{ready_form}
use Rattle.print_lines.specs.Lines.{parts_text}
use Rattle.print_lines.specs.Named.{name_inside, skip_fits, line_long}
use Rattle.print_lines.specs.Weigh.{bytes_are, short_alone, barred_is}
use Rattle.print_lines.proofs.weigh.weigh_named.Goals as goal

pub returns-then-not-name_allowed : goal.returns-then-not-name_allowed
returns-then-not-name_allowed c =
    λ own fname l. barred_is _ _ _ (sym (c.name_allowed.ensures own) ∙ c.if-not-name_allowed.true)

pub name_of-name-requires-clause-x_in_bounds : goal.name_of-name-requires-clause-x_in_bounds
name_of-name-requires-clause-x_in_bounds c =
    name_inside (lines c.args.names.now) c.args.kind c.args.x c.requires.le_kind c.requires.kind_bound _ c.pick.ensures (ready_form c.requires.callable 0 (form_of c.args.kind) c.args.x (sym (c.name_allowed.ensures 0) ∙ c.if-not-name_allowed.false))

pub spelled_len-spelled-requires : goal.spelled_len-spelled-requires
spelled_len-spelled-requires c =
    skip_fits (lines c.args.names.now) c.args.kind c.args.x c.requires.le_kind c.requires.kind_bound _ c.pick.ensures _ c.name_of-name.ensures
    (ready_form c.requires.callable 0 (form_of c.args.kind) c.args.x (sym (c.name_allowed.ensures 0) ∙ c.if-not-name_allowed.false))

pub returns-then-left-spelled : goal.returns-then-left-spelled
returns-then-left-spelled c =
    λ own fname l.
    let long : length (parts_text (lines c.args.names.now) fname c.args.kind c.args.x) ≡ c.spelled_len-spelled.result + c.around_len-rest.result =
    line_long (lines c.args.names.now) c.args.kind c.args.x c.requires.le_kind c.requires.kind_bound _ c.pick.ensures _ c.name_of-name.ensures
    fname _ _ _ l c.spelled_len-spelled.ensures c.around_len-rest.ensures in
    short_alone _ _ _ (sym (c.name_allowed.ensures own) ∙ c.if-not-name_allowed.false) (omega (arith, long, c.if-left-spelled.true))

pub returns-then-left-spelled-2 : goal.returns-then-left-spelled-2
returns-then-left-spelled-2 c =
    λ own fname l.
    let long : length (parts_text (lines c.args.names.now) fname c.args.kind c.args.x) ≡ c.spelled_len-spelled.result + c.around_len-rest.result =
    line_long (lines c.args.names.now) c.args.kind c.args.x c.requires.le_kind c.requires.kind_bound _ c.pick.ensures _ c.name_of-name.ensures
    fname _ _ _ l c.spelled_len-spelled.ensures c.around_len-rest.ensures in
    short_alone _ _ _ (sym (c.name_allowed.ensures own) ∙ c.if-not-name_allowed.false) (omega (arith, long, c.if-left-spelled.false, c.if-left-spelled-2.true))

pub returns : goal.returns
returns c =
    λ own fname l.
    let long : length (parts_text (lines c.args.names.now) fname c.args.kind c.args.x) ≡ c.spelled_len-spelled.result + c.around_len-rest.result =
    line_long (lines c.args.names.now) c.args.kind c.args.x c.requires.le_kind c.requires.kind_bound _ c.pick.ensures _ c.name_of-name.ensures
    fname _ _ _ l c.spelled_len-spelled.ensures c.around_len-rest.ensures in
    rw (← long)
    (bytes_are _ _ _ (sym (c.name_allowed.ensures own) ∙ c.if-not-name_allowed.false) (omega (arith, long, c.if-left-spelled.false, c.if-left-spelled-2.false, c.requires.n_le_room)))
