-- `gen_call::gen_memcmp_call` meets its contract.
use Rattle.std.proofs.Common.{arith}
use Rattle.gen_fields.specs.Given.{dest_reaches}
use Rattle.gen_call.specs.Calls as laws
use Rattle.gen_call.proofs.gen_memcmp_call.Goals as goal

pub slice_bounds-push_args-count : goal.slice_bounds-push_args-count
slice_bounds-push_args-count c =
    let ks = c.args.kinds.now in
    let ws = c.args.words.now in
    let inside = laws.callee_in ks ws c.requires.fields in
    omega (arith, inside.0, inside.1)

pub slice_bounds-push_args-start : goal.slice_bounds-push_args-start
slice_bounds-push_args-start c =
    let ks = c.args.kinds.now in
    let ws = c.args.words.now in
    let inside = laws.callee_in ks ws c.requires.fields in
    omega (arith, inside.0, inside.1)

pub slice_bounds-push_args-count-2 : goal.slice_bounds-push_args-count-2
slice_bounds-push_args-count-2 c =
    let ks = c.args.kinds.now in
    let ws = c.args.words.now in
    let inside = laws.callee_in ks ws c.requires.fields in
    omega (arith, inside.0, inside.1)

pub slice_bounds-push_args-start-2 : goal.slice_bounds-push_args-start-2
slice_bounds-push_args-start-2 c =
    let ks = c.args.kinds.now in
    let ws = c.args.words.now in
    let inside = laws.callee_in ks ws c.requires.fields in
    omega (arith, inside.0, inside.1)

pub push_args-pushed-requires : goal.push_args-pushed-requires
push_args-pushed-requires c =
    let ks = c.args.kinds.now in
    let ws = c.args.words.now in
    (laws.lent_args ks ws c.requires, c.requires.room)

pub store_or_pop-requires : goal.store_or_pop-requires
store_or_pop-requires c =
    dest_reaches c.requires

pub returns : goal.returns
returns c = λ p k fields maps.
    let ks = c.args.kinds.now in
    let ws = c.args.words.now in
    let m = c.args.names in
    let args = c.push_args-pushed.ensures p.1.0 k (laws.args_part ks ws fields) maps in
    laws.memcmp_puts k _ p.1.0 args c.put-called.ensures (c.store_or_pop.ensures m k c.requires.result maps)
