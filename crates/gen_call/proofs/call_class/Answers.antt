-- `gen_call::call_class` meets its contract.
use Rattle.std.proofs.Common.{get_or, arith, sym, ◌∙◌}
use Rattle.gen_call.specs.Calls as laws
use Rattle.gen_call.proofs.call_class.Goals as goal

pub bounds-kinds-0 : goal.bounds-kinds-0
bounds-kinds-0 c =
    c.requires.in_kinds

pub bounds-words-0 : goal.bounds-words-0
bounds-words-0 c =
    c.requires.in_words

pub overflow_mul-mark : goal.overflow_mul-mark
overflow_mul-mark c =
    omega (arith, c.requires.there c.if-kinds-ne-GLOBAL.false, c.well_formed)

pub overflow_add-mark : goal.overflow_add-mark
overflow_add-mark c =
    omega (arith, c.requires.there c.if-kinds-ne-GLOBAL.false, c.well_formed)

pub offset_bounds-work-words : goal.offset_bounds-work-words
offset_bounds-work-words c =
    omega (arith, c.requires.there c.if-kinds-ne-GLOBAL.false, c.well_formed)

pub bounds-work-words : goal.bounds-work-words
bounds-work-words c =
    c.requires.there c.if-kinds-ne-GLOBAL.false

pub returns-then-kinds-ne-GLOBAL : goal.returns-then-kinds-ne-GLOBAL
returns-then-kinds-ne-GLOBAL c = λ m k v value marks.
    let kind = get_or c.args.kinds.now 0 0 in
    let word = get_or c.args.words.now 0 0 in
    rw value.is at (laws.class_other m k kind word c.if-kinds-ne-GLOBAL.true)

pub returns-in-1 : goal.returns-in-1
returns-in-1 c = λ m k v value marks.
    let kind = get_or c.args.kinds.now 0 0 in
    let word = get_or c.args.words.now 0 0 in
    (sym c.in-1.is) ∙ rw value.is at (laws.class_global m k kind word c.args.work.now c.if-kinds-ne-GLOBAL.false (rw value.is value.limits) marks)

pub returns-in-2 : goal.returns-in-2
returns-in-2 c = λ m k v value marks.
    let kind = get_or c.args.kinds.now 0 0 in
    let word = get_or c.args.words.now 0 0 in
    (sym c.in-2.is) ∙ rw value.is at (laws.class_global m k kind word c.args.work.now c.if-kinds-ne-GLOBAL.false (rw value.is value.limits) marks)

pub returns-in-3 : goal.returns-in-3
returns-in-3 c = λ m k v value marks.
    let kind = get_or c.args.kinds.now 0 0 in
    let word = get_or c.args.words.now 0 0 in
    (sym c.in-3.is) ∙ rw value.is at (laws.class_global m k kind word c.args.work.now c.if-kinds-ne-GLOBAL.false (rw value.is value.limits) marks)

pub returns-in_default : goal.returns-in_default
returns-in_default c = λ m k v value marks.
    let kind = get_or c.args.kinds.now 0 0 in
    let word = get_or c.args.words.now 0 0 in
    (omega arith) ∙ rw value.is at (laws.class_global m k kind word c.args.work.now c.if-kinds-ne-GLOBAL.false (rw value.is value.limits) marks)
