-- `gen_call::gen_plain_call` meets its contract.
use Rattle.std.proofs.Common.{arith}
use Rattle.gen_values.specs.Fields.{value_at, operand_at}
use Rattle.gen_fields.specs.Given.{dest_reaches}
use Rattle.gen_call.specs.Calls as laws
use Rattle.gen_call.proofs.gen_plain_call.Goals as goal

pub slice_bounds-arg_kinds-count : goal.slice_bounds-arg_kinds-count
slice_bounds-arg_kinds-count c =
    let ks = c.args.kinds.now in
    let ws = c.args.words.now in
    let inside = laws.callee_in ks ws c.requires.fields in
    omega (arith, inside.0, inside.1)

pub slice_bounds-arg_kinds-start : goal.slice_bounds-arg_kinds-start
slice_bounds-arg_kinds-start c =
    let ks = c.args.kinds.now in
    let ws = c.args.words.now in
    let inside = laws.callee_in ks ws c.requires.fields in
    omega (arith, inside.0, inside.1)

pub slice_bounds-arg_words-count : goal.slice_bounds-arg_words-count
slice_bounds-arg_words-count c =
    let ks = c.args.kinds.now in
    let ws = c.args.words.now in
    let inside = laws.callee_in ks ws c.requires.fields in
    omega (arith, inside.0, inside.1)

pub slice_bounds-arg_words-start : goal.slice_bounds-arg_words-start
slice_bounds-arg_words-start c =
    let ks = c.args.kinds.now in
    let ws = c.args.words.now in
    let inside = laws.callee_in ks ws c.requires.fields in
    omega (arith, inside.0, inside.1)

pub count_args-args-requires : goal.count_args-args-requires
count_args-args-requires c =
    let ks = c.args.kinds.now in
    let ws = c.args.words.now in
    laws.lent_args ks ws c.requires

pub push_args-pushed-requires : goal.push_args-pushed-requires
push_args-pushed-requires c =
    let ks = c.args.kinds.now in
    let ws = c.args.words.now in
    (laws.lent_args ks ws c.requires, c.requires.room)

pub call_target-called-requires : goal.call_target-called-requires
call_target-called-requires c =
    let ks = c.args.kinds.now in
    let ws = c.args.words.now in
    operand_at (value_at ks ws 0 c.requires.fields) c.requires.room

pub store_or_pop-requires : goal.store_or_pop-requires
store_or_pop-requires c =
    dest_reaches c.requires

pub returns : goal.returns
returns c = λ p k fields maps defined.
    let ks = c.args.kinds.now in
    let ws = c.args.words.now in
    let m = c.args.names in
    let args = laws.args_part ks ws fields in
    laws.plain_puts k _ p.0 p.1.0 (c.count_args-args.ensures p.1.0 args) c.need-few.ensures (c.push_args-pushed.ensures p.1.0 k args maps)
    (c.call_target-called.ensures m k p.0 (value_at ks ws 0 fields) maps defined) (c.store_or_pop.ensures m k c.requires.result maps)
