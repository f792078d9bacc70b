-- `weigh_lines` meets its contract: the lines weighed so far and those left are all lines.
use Rattle.std.proofs.Common.{length}
use Rattle.names.specs.Name.{lines}
use Rattle.book.specs.Entry.{entries}
use Rattle.book.specs.Decode.{type_to}
use Rattle.print_types.specs.Types.{type_bytes}
use Rattle.print_lines.specs.Lines.{printed}
use Rattle.print_lines.specs.Weigh.{Weighing}
use Rattle.print_lines.proofs.weigh.weigh_lines.Given as goal

abbrev pub invariant-loop-i : goal.invariant-loop-i
invariant-loop-i l =
    Weighing l.count l.own l.from l.to (printed (lines l.names) l.function (type_bytes (lines l.names) (type_to (length (lines l.names)) 64 (entries l.kinds l.words))) l.params) l.line_kinds l.operands l.initial.text l.before l.i l.text l.n
