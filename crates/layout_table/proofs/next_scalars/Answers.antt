-- `layout_table::next_scalars` meets its contract.
use Rattle.layout_table.specs.Known as laws
use Rattle.layout_table.proofs.next_scalars.Goals as goal

pub pass_scalars-run-requires : goal.pass_scalars-run-requires
pass_scalars-run-requires c =
    laws.run_from _ _ _ _ _ _ c.requires _ _ c.fields_left-next.ensures

pub returns : goal.returns
returns c =
    laws.run_passed _ _ _ _ _ _ c.requires _ _ c.fields_left-next.ensures _ c.pass_scalars-run.ensures c.if-run-ne0.false
    c.if-run-gt-MOST_BYTES.false c.if-sought-from.false
