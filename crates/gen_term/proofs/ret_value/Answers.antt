-- `gen_term::ret_value` meets its contract: 21 stands for no value.
use Rattle.std.proofs.Common.{arith}
use Rattle.gen_values.specs.Fields.{part_from, fields_part}
use Rattle.gen_fields.specs.Places.{from_front, typed_at}
use Rattle.gen_term.specs.Terms.{ret_in, ret_void_lem, ret_value_lem}
use Rattle.gen_term.specs.Returns as laws
use Rattle.gen_term.proofs.ret_value.Goals as goal

pub bounds-kinds-1 : goal.bounds-kinds-1
bounds-kinds-1 c =
    let a = c.args in
    let ks = a.kinds.now in
    let ws = a.words.now in
    let inside = ret_in ks ws c.requires.val c.requires.fields in
    inside.0

pub returns-then-kinds-eq-ABSENT : goal.returns-then-kinds-eq-ABSENT
returns-then-kinds-eq-ABSENT c = λ k val fields maps.
    let a = c.args in
    let ks = a.kinds.now in
    let ws = a.words.now in
    laws.void_puts k (ret_void_lem ks ws val fields c.if-kinds-eq-ABSENT.true) c.put.ensures

pub slice_bounds-type_kinds-count : goal.slice_bounds-type_kinds-count
slice_bounds-type_kinds-count c =
    let a = c.args in
    let ks = a.kinds.now in
    let ws = a.words.now in
    let inside = ret_in ks ws c.requires.val c.requires.fields in
    omega (arith, inside.0, inside.1)

pub slice_bounds-type_kinds-start : goal.slice_bounds-type_kinds-start
slice_bounds-type_kinds-start c =
    let a = c.args in
    let ks = a.kinds.now in
    let ws = a.words.now in
    let inside = ret_in ks ws c.requires.val c.requires.fields in
    omega (arith, inside.0, inside.1)

pub slice_bounds-type_kinds-end : goal.slice_bounds-type_kinds-end
slice_bounds-type_kinds-end c =
    let a = c.args in
    let ks = a.kinds.now in
    let ws = a.words.now in
    let inside = ret_in ks ws c.requires.val c.requires.fields in
    omega (arith, inside.0, inside.1)

pub slice_bounds-type_words-count : goal.slice_bounds-type_words-count
slice_bounds-type_words-count c =
    let a = c.args in
    let ks = a.kinds.now in
    let ws = a.words.now in
    let inside = ret_in ks ws c.requires.val c.requires.fields in
    omega (arith, inside.0, inside.1)

pub slice_bounds-type_words-start : goal.slice_bounds-type_words-start
slice_bounds-type_words-start c =
    let a = c.args in
    let ks = a.kinds.now in
    let ws = a.words.now in
    let inside = ret_in ks ws c.requires.val c.requires.fields in
    omega (arith, inside.0, inside.1)

pub slice_bounds-type_words-end : goal.slice_bounds-type_words-end
slice_bounds-type_words-end c =
    let a = c.args in
    let ks = a.kinds.now in
    let ws = a.words.now in
    let inside = ret_in ks ws c.requires.val c.requires.fields in
    omega (arith, inside.0, inside.1)

pub push_typed-requires : goal.push_typed-requires
push_typed-requires c =
    let a = c.args in
    let ks = a.kinds.now in
    let ws = a.words.now in
    let ret = ret_value_lem ks ws c.requires.val c.requires.fields c.if-kinds-eq-ABSENT.false in
    typed_at (part_from ks 1) (part_from ws 1) 0 (fields_part ks ws 1 ret.fields) (from_front c.skip-at.ensures) (omega (arith, c.requires.room))

pub returns : goal.returns
returns c = λ k val fields maps.
    let a = c.args in
    let ks = a.kinds.now in
    let ws = a.words.now in
    let m = a.names in
    let given = ret_value_lem ks ws val fields c.if-kinds-eq-ABSENT.false in
    laws.value_puts k given.typed given.is (c.push_typed.ensures m k _ _ (fields_part ks ws 1 given.fields) c.skip-at.ensures maps)
