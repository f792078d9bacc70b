-- `gen_frame::slots::slots_for` meets its contract.
use Rattle.gen_frame.specs.Taken as laws
use borrow.Author.Rules.{rules}
use Rattle.gen_frame.proofs.slots.slots_for.Goals as goal

pub bounds-kinds-0 : goal.bounds-kinds-0
bounds-kinds-0 c =
    let h = (laws.inst_front c.args.kinds.now c.args.words.now c.requires.at).in_kinds in
    search rules

pub slice_bounds-call_slots-count : goal.slice_bounds-call_slots-count
slice_bounds-call_slots-count c =
    let h = (laws.inst_front c.args.kinds.now c.args.words.now c.requires.at).in_kinds in
    search rules

pub slice_bounds-call_slots-start : goal.slice_bounds-call_slots-start
slice_bounds-call_slots-start c =
    let h = (laws.inst_front c.args.kinds.now c.args.words.now c.requires.at).in_kinds in
    search rules

pub slice_bounds-call_slots-count-in-76 : goal.slice_bounds-call_slots-count-in-76
slice_bounds-call_slots-count-in-76 c =
    let h = (laws.inst_front c.args.kinds.now c.args.words.now c.requires.at).in_words in
    search rules

pub slice_bounds-call_slots-start-in-76 : goal.slice_bounds-call_slots-start-in-76
slice_bounds-call_slots-start-in-76 c =
    let h = (laws.inst_front c.args.kinds.now c.args.words.now c.requires.at).in_words in
    search rules

pub call_slots-requires : goal.call_slots-requires
call_slots-requires c =
    laws.call_ask c.args.kinds.now c.args.words.now c.args.work.now c.requires c.in-76.is

pub returns-in-80 : goal.returns-in-80
returns-in-80 c =
    laws.slots_cmpxchg c.args.kinds.now c.args.words.now c.args.work.now c.in-80.is

pub returns-in-76 : goal.returns-in-76
returns-in-76 c =
    laws.slots_call c.args.kinds.now c.args.words.now c.args.work.now c.in-76.is c.call_slots.ensures

pub returns-in_default : goal.returns-in_default
returns-in_default c =
    laws.slots_plain c.args.kinds.now c.args.words.now c.args.work.now c.in_default.in_default-own.rest.0.1 c.in_default.in_default-own.rest.1
