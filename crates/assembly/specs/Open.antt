-- opens every definition that a book, its names and its text are computed by: an example says `unfolding openAssembly`
use Rattle.book.specs.Open.{open_book}
use Rattle.assembly.specs.Number.{open_number}
use Rattle.assembly.specs.Text.{open_text}
use Rattle.assembly.specs.Printer.{open_printer}

unfoldable pub open_assembly : Unit {0}
unfolding open_book open_number open_text open_printer
open_assembly = tt
