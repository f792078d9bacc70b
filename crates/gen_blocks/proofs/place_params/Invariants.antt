-- `gen_blocks::place_params` meets its contract: behind the return type each entry of kind 6 is the next parameter that is left.
use Prim.Native.Nat.{◌-◌, ◌≤◌}
use mathlib.Core.List.{List}
use lib.ListN.{length}
use Rattle.book.specs.Ast.{Function}
use Rattle.book.specs.Entry.{Entry, entries}
use Rattle.gen_blocks.specs.Words.{WordsKept}
use Rattle.gen_blocks.specs.Params as laws
use Rattle.gen_blocks.proofs.place_params.Given as goal

abbrev pub invariant-loop-next : goal.invariant-loop-next
invariant-loop-next l =
    ((f : Function) (rest : List Entry) → laws.ParamsAsked l.names f rest (entries l.kinds l.words) l.initial.work
    → laws.ParamsAt l.names f.params (laws.blocks_of f rest) (entries l.kinds l.words) l.work l.next l.index)
    × WordsKept l.names 0 l.initial.work l.work × (l.index ≤ l.next)

abbrev pub decreases-loop-next : goal.decreases-loop-next
decreases-loop-next l = length l.kinds - l.next
