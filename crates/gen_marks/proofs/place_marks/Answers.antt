-- `gen_marks::place_marks` meets its contract: spelling, then what the entries define.
use Rattle.gen_marks.specs.Defined as laws
use Rattle.gen_marks.proofs.place_marks.Goals as goal

pub returns : goal.returns
returns c =
    laws.marks_placed c.args.kinds.now c.args.words.now c.requires c.spell_marks.ensures c.define_marks.ensures
