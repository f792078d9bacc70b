-- `layout_step::struct_step` meets its contract.
use mathlib.Core.Path.{refl, sym}
use Rattle.layout_step.specs.Steps as laws
use Rattle.layout_step.proofs.struct_step.Goals as goal

pub returns-in_default : goal.returns-in_default
returns-in_default c =
    laws.struct_varying _ _ _ _ c.args.packed _ c.requires c.in_default.is

pub field_step-requires : goal.field_step-requires
field_step-requires c =
    laws.known_ask _ _ _ _ c.args.packed _ _ c.in-Some.is _ c.known_before-known.ensures

pub returns-then-left-eq0 : goal.returns-then-left-eq0
returns-then-left-eq0 c =
    laws.struct_known _ _ _ _ c.args.packed _ _ c.in-Some.is _ c.known_before-known.ensures _ (sym c.if-left-eq0.true) c.field_step.ensures

pub later_step-requires : goal.later_step-requires
later_step-requires c =
    laws.known_ask _ _ _ _ c.args.packed _ _ c.in-Some.is _ c.known_before-known.ensures

pub returns : goal.returns
returns c =
    laws.struct_known _ _ _ _ c.args.packed _ _ c.in-Some.is _ c.known_before-known.ensures _ refl c.later_step.ensures
