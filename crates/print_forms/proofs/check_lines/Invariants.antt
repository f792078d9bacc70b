-- `check_lines` meets its contract: what is left of the lines decides.
use Rattle.std.proofs.Common.{◌≡◌, drop}
use Rattle.print_forms.specs.All.{allowed_all}
use Rattle.print_forms.proofs.check_lines.Given as goal

abbrev pub invariant-loop-i : goal.invariant-loop-i
invariant-loop-i l = allowed_all l.names l.function l.from l.to l.line_kinds l.operands ≡ allowed_all l.names l.function l.from l.to (drop l.i l.line_kinds) (drop l.i l.operands)
