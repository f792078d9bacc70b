-- `gen_call::gen_call` meets its contract: the mark of the callee tells which call it is.
use Rattle.std.proofs.Common.{get_or, sym, ap, ◌∙◌, arith}
use Rattle.gen_values.specs.Fields.{part_from, value_at, type_in}
use Rattle.gen_call.specs.Calls as laws
use Rattle.gen_call.proofs.gen_call.Goals as goal

pub offset_bounds-kinds-at : goal.offset_bounds-kinds-at
offset_bounds-kinds-at c =
    let ks = c.args.kinds.now in
    let ws = c.args.words.now in
    let callee = laws.callee_part ks ws c.requires.fields c.skip-at.ensures in
    omega (arith, callee.0, callee.1, c.well_formed)

pub slice_bounds-callee_kinds-count : goal.slice_bounds-callee_kinds-count
slice_bounds-callee_kinds-count c =
    let ks = c.args.kinds.now in
    let ws = c.args.words.now in
    let callee = laws.callee_part ks ws c.requires.fields c.skip-at.ensures in
    omega (arith, callee.0, callee.1, c.well_formed)

pub slice_bounds-callee_kinds-start : goal.slice_bounds-callee_kinds-start
slice_bounds-callee_kinds-start c =
    let ks = c.args.kinds.now in
    let ws = c.args.words.now in
    let callee = laws.callee_part ks ws c.requires.fields c.skip-at.ensures in
    omega (arith, callee.0, callee.1, c.well_formed)

pub slice_bounds-callee_kinds-end : goal.slice_bounds-callee_kinds-end
slice_bounds-callee_kinds-end c =
    let ks = c.args.kinds.now in
    let ws = c.args.words.now in
    let callee = laws.callee_part ks ws c.requires.fields c.skip-at.ensures in
    omega (arith, callee.0, callee.1, c.well_formed)

pub offset_bounds-words-at : goal.offset_bounds-words-at
offset_bounds-words-at c =
    let ks = c.args.kinds.now in
    let ws = c.args.words.now in
    let callee = laws.callee_part ks ws c.requires.fields c.skip-at.ensures in
    omega (arith, callee.0, callee.1, c.well_formed)

pub slice_bounds-callee_words-count : goal.slice_bounds-callee_words-count
slice_bounds-callee_words-count c =
    let ks = c.args.kinds.now in
    let ws = c.args.words.now in
    let callee = laws.callee_part ks ws c.requires.fields c.skip-at.ensures in
    omega (arith, callee.0, callee.1, c.well_formed)

pub slice_bounds-callee_words-start : goal.slice_bounds-callee_words-start
slice_bounds-callee_words-start c =
    let ks = c.args.kinds.now in
    let ws = c.args.words.now in
    let callee = laws.callee_part ks ws c.requires.fields c.skip-at.ensures in
    omega (arith, callee.0, callee.1, c.well_formed)

pub slice_bounds-callee_words-end : goal.slice_bounds-callee_words-end
slice_bounds-callee_words-end c =
    let ks = c.args.kinds.now in
    let ws = c.args.words.now in
    let callee = laws.callee_part ks ws c.requires.fields c.skip-at.ensures in
    omega (arith, callee.0, callee.1, c.well_formed)

pub call_class-class-requires : goal.call_class-class-requires
call_class-class-requires c =
    let ks = c.args.kinds.now in
    let ws = c.args.words.now in
    let m = c.args.names in
    let at = c.skip-at.result in
    let callee = laws.callee_part ks ws c.requires.fields c.skip-at.ensures in
    laws.class_reaches m (part_from ks at) (part_from ws at) (value_at (part_from ks at) (part_from ws at) 0 callee.2) c.requires.room

pub bounds-kinds-0 : goal.bounds-kinds-0
bounds-kinds-0 c =
    let ks = c.args.kinds.now in
    let ws = c.args.words.now in
    (type_in ks ws 0 c.requires.fields).0

pub gen_syscall-requires : goal.gen_syscall-requires
gen_syscall-requires c =
    let ks = c.args.kinds.now in
    let ws = c.args.words.now in
    let callee = laws.callee_part ks ws c.requires.fields c.skip-at.ensures in
    record { holds = c.requires.holds.1; fields = callee.2; result = c.requires.result; room = c.requires.room }

pub gen_memcmp_call-requires : goal.gen_memcmp_call-requires
gen_memcmp_call-requires c =
    let ks = c.args.kinds.now in
    let ws = c.args.words.now in
    let callee = laws.callee_part ks ws c.requires.fields c.skip-at.ensures in
    record { holds = c.requires.holds.1; fields = callee.2; result = c.requires.result; room = c.requires.room }

pub gen_plain_call-requires : goal.gen_plain_call-requires
gen_plain_call-requires c =
    let ks = c.args.kinds.now in
    let ws = c.args.words.now in
    let callee = laws.callee_part ks ws c.requires.fields c.skip-at.ensures in
    record { holds = c.requires.holds.1; fields = callee.2; result = c.requires.result; room = c.requires.room }

pub returns-in-Syscall : goal.returns-in-Syscall
returns-in-Syscall c = λ bs p k fields maps.
    let ks = c.args.kinds.now in
    let ws = c.args.words.now in
    let m = c.args.names in
    let at = c.skip-at.result in
    let part = (laws.callee_part ks ws fields c.skip-at.ensures).2 in
    let value = value_at (part_from ks at) (part_from ws at) 0 part in
    let class = c.call_class-class.ensures m k p.1.0 value maps.marks in
    let system-call = c.gen_syscall.ensures p.1 k p.0 part maps.locals (laws.void_kind ks ws fields) in
    laws.system_puts k _ p.0 p.1.1.0 p.1.0 class (ap laws.class_number c.in-Syscall.is)
    (λ x e. rw (sym (laws.global_word (get_or (part_from ks at) 0 0) (get_or (part_from ws at) 0 0) (value.is ∙ e))) system-call)

pub returns-in-Memcmp : goal.returns-in-Memcmp
returns-in-Memcmp c = λ bs p k fields maps.
    let ks = c.args.kinds.now in
    let ws = c.args.words.now in
    let m = c.args.names in
    let at = c.skip-at.result in
    let part = (laws.callee_part ks ws fields c.skip-at.ensures).2 in
    let value = value_at (part_from ks at) (part_from ws at) 0 part in
    let class = c.call_class-class.ensures m k p.1.0 value maps.marks in
    laws.memory_puts k _ p.0 p.1.1.0 p.1.0 class (ap laws.class_number c.in-Memcmp.is) (c.gen_memcmp_call.ensures p.1 k part maps.locals)

pub returns-in-Defined : goal.returns-in-Defined
returns-in-Defined c = λ bs p k fields maps.
    let ks = c.args.kinds.now in
    let ws = c.args.words.now in
    let m = c.args.names in
    let at = c.skip-at.result in
    let part = (laws.callee_part ks ws fields c.skip-at.ensures).2 in
    let value = value_at (part_from ks at) (part_from ws at) 0 part in
    let class = c.call_class-class.ensures m k p.1.0 value maps.marks in
    let plain = laws.plain_class c.in-Defined.is in
    laws.other_puts k _ p.0 p.1.1.0 p.1.0 class plain.0 plain.1
    (c.gen_plain_call.ensures p.1 k part maps.locals (rw c.is_defined.ensures (laws.defined_by_lem k p.1.0 class plain.0 plain.1)))
