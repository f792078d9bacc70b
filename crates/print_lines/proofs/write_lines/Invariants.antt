-- `write_lines` meets its contract: the lines written so far and those left are all lines.
use Rattle.std.proofs.Common.{length}
use Rattle.names.specs.Name.{lines}
use Rattle.book.specs.Entry.{entries}
use Rattle.book.specs.Decode.{type_to}
use Rattle.print_types.specs.Types.{type_bytes}
use Rattle.print_lines.specs.Lines.{printed}
use Rattle.print_lines.specs.All.{Written}
use Rattle.print_lines.proofs.write_lines.Given as goal

abbrev pub invariant-loop-i : goal.invariant-loop-i
invariant-loop-i l =
    Written (printed (lines l.names) l.function (type_bytes (lines l.names) (type_to (length (lines l.names)) 64 (entries l.kinds l.words))) l.params) l.line_kinds l.operands l.initial.text l.start l.end l.i l.text l.at
