-- `gen_frame::frame_inst` meets its contract.
use Rattle.gen_frame.specs.Steps as laws
use Rattle.gen_frame.specs.Taken as facts
use borrow.Author.Rules.{rules}
use Rattle.gen_frame.proofs.frame_inst.Goals as goal

pub take_slots-taken-requires : goal.take_slots-taken-requires
take_slots-taken-requires c =
    laws.take_ask c.args.kinds.now c.args.words.now c.args.work.now c.args.f c.requires

pub bounds-kinds-0 : goal.bounds-kinds-0
bounds-kinds-0 c =
    let h = (facts.inst_front c.args.kinds.now c.args.words.now c.requires.at).in_kinds in
    search rules

pub returns-then-kinds-ne-ALLOCA : goal.returns-then-kinds-ne-ALLOCA
returns-then-kinds-ne-ALLOCA c =
    laws.step_plain c.args.kinds.now c.args.words.now c.args.work.now c.args.f
    c.take_slots-taken.ensures c.requires.ready c.if-kinds-ne-ALLOCA.true

pub slice_bounds-alloca-count : goal.slice_bounds-alloca-count
slice_bounds-alloca-count c =
    let h = (facts.inst_front c.args.kinds.now c.args.words.now c.requires.at).in_kinds in
    search rules

pub slice_bounds-alloca-start : goal.slice_bounds-alloca-start
slice_bounds-alloca-start c =
    let h = (facts.inst_front c.args.kinds.now c.args.words.now c.requires.at).in_kinds in
    search rules

pub slice_bounds-alloca-count-2 : goal.slice_bounds-alloca-count-2
slice_bounds-alloca-count-2 c =
    let h = (facts.inst_front c.args.kinds.now c.args.words.now c.requires.at).in_words in
    search rules

pub slice_bounds-alloca-start-2 : goal.slice_bounds-alloca-start-2
slice_bounds-alloca-start-2 c =
    let h = (facts.inst_front c.args.kinds.now c.args.words.now c.requires.at).in_words in
    search rules

pub bounds-words-0 : goal.bounds-words-0
bounds-words-0 c =
    let h = (facts.inst_front c.args.kinds.now c.args.words.now c.requires.at).in_words in
    search rules

pub alloca-requires : goal.alloca-requires
alloca-requires c =
    laws.alloca_ask c.args.kinds.now c.args.words.now c.args.work.now c.args.f
    c.take_slots-taken.ensures c.if-kinds-ne-ALLOCA.false c.requires

pub returns : goal.returns
returns c =
    laws.step_alloca c.args.kinds.now c.args.words.now c.args.work.now c.args.f
    c.take_slots-taken.ensures c.if-kinds-ne-ALLOCA.false c.requires c.alloca.ensures
