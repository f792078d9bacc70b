-- `gen_blocks::place_blocks` meets its contract: an entry of kind 7 is the next block that is left, one of kind 5 the next function.
use mathlib.Core.List.{List}
use Rattle.book.specs.Ast.{BasicBlock}
use Rattle.book.specs.Entry.{Entry, entries}
use Rattle.gen_blocks.specs.Words.{WordsKept}
use Rattle.gen_blocks.specs.Blocks as laws
use Rattle.gen_blocks.proofs.place_blocks.Given as goal

abbrev pub invariant-loop-next : goal.invariant-loop-next
invariant-loop-next l =
    (blocks : List BasicBlock) (rest book : List Entry) → laws.BlocksAsked l.names blocks rest book l.at (entries l.kinds l.words) l.initial.work
    → laws.BlocksAt l.names blocks rest book l.at (entries l.kinds l.words) l.work l.next × WordsKept l.names 2 l.initial.work l.work
