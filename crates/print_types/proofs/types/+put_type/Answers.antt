use mathlib.Core.Path.{ap}
use mathlib.Core.List.{[], ◌++◌}
use native.Mathlib.Omega.{arith}
use lib.ListN.{length}
use Rattle.names.specs.Text.{bytes}
use Rattle.names.specs.Name.{lines}
use Rattle.print_pen.specs.Pen.{put_same, then_put}
use Rattle.print_types.specs.Types.{typed_kinds, typed_words, typed_level, elem_typed, named_there, type_arm, closed}
use Rattle.print_types.proofs.types.+put_type.Goals as goal

pub bounds-kinds-0 : goal.bounds-kinds-0
bounds-kinds-0 t c =
    let a = c.args in
    typed_kinds [] (length (lines a.names.now)) a.level a.kinds.now a.words.now c.requires.typed

pub bounds-words-0 : goal.bounds-words-0
bounds-words-0 t c =
    let a = c.args in
    typed_words [] (length (lines a.names.now)) a.level a.kinds.now a.words.now c.requires.typed

pub slice_bounds-put_type-count : goal.slice_bounds-put_type-count
slice_bounds-put_type-count t c =
    let a = c.args in
    typed_kinds [] (length (lines a.names.now)) a.level a.kinds.now a.words.now c.requires.typed

pub slice_bounds-put_type-start : goal.slice_bounds-put_type-start
slice_bounds-put_type-start t c =
    let a = c.args in
    typed_kinds [] (length (lines a.names.now)) a.level a.kinds.now a.words.now c.requires.typed

pub slice_bounds-put_type-count-in-Array : goal.slice_bounds-put_type-count-in-Array
slice_bounds-put_type-count-in-Array t c =
    let a = c.args in
    typed_words [] (length (lines a.names.now)) a.level a.kinds.now a.words.now c.requires.typed

pub slice_bounds-put_type-start-in-Array : goal.slice_bounds-put_type-start-in-Array
slice_bounds-put_type-start-in-Array t c =
    let a = c.args in
    typed_words [] (length (lines a.names.now)) a.level a.kinds.now a.words.now c.requires.typed

pub overflow_sub-level : goal.overflow_sub-level
overflow_sub-level t c =
    let a = c.args in
    omega (arith, typed_level [] (length (lines a.names.now)) a.level a.kinds.now a.words.now c.requires.typed)

pub put_type-elem-requires : goal.put_type-elem-requires
put_type-elem-requires t c =
    let a = c.args in
    (omega (arith, c.decreases, typed_level [] (length (lines a.names.now)) a.level a.kinds.now a.words.now c.requires.typed), (c.requires.starts, elem_typed [] (length (lines a.names.now)) a.level a.kinds.now a.words.now c.requires.typed _ c.type_group.ensures _ c.in-Array.is))

pub name_of-requires-clause-x_in_bounds : goal.name_of-requires-clause-x_in_bounds
name_of-requires-clause-x_in_bounds t c =
    let a = c.args in
    named_there [] (length (lines a.names.now)) a.level a.kinds.now a.words.now c.requires.typed _ c.type_group.ensures c.in-Named.is

pub returns-in-Array : goal.returns-in-Array
unfolding closed bytes
returns-in-Array t c =
    let a = c.args in
    put_same
    (type_arm (lines a.names.now) (length (lines a.names.now)) a.level a.kinds.now a.words.now c.requires.typed _ c.type_group.ensures _ c.in-Array.is)
    (then_put c.put_array_head-head.ensures (then_put c.put_type-elem.ensures c.put_either.ensures))

pub returns-in-Void : goal.returns-in-Void
unfolding bytes
returns-in-Void t c =
    let a = c.args in
    put_same
    (type_arm (lines a.names.now) (length (lines a.names.now)) a.level a.kinds.now a.words.now c.requires.typed _ c.type_group.ensures _ c.in-Void.is)
    c.put_bytes.ensures

pub returns-in-Int : goal.returns-in-Int
returns-in-Int t c =
    let a = c.args in
    put_same
    (type_arm (lines a.names.now) (length (lines a.names.now)) a.level a.kinds.now a.words.now c.requires.typed _ c.type_group.ensures _ c.in-Int.is)
    c.put_int.ensures

pub returns-in-Ptr : goal.returns-in-Ptr
unfolding bytes
returns-in-Ptr t c =
    let a = c.args in
    put_same
    (type_arm (lines a.names.now) (length (lines a.names.now)) a.level a.kinds.now a.words.now c.requires.typed _ c.type_group.ensures _ c.in-Ptr.is)
    c.put_bytes-in-Ptr.ensures

pub returns-in-Struct : goal.returns-in-Struct
unfolding bytes
returns-in-Struct t c =
    let a = c.args in
    put_same
    (type_arm (lines a.names.now) (length (lines a.names.now)) a.level a.kinds.now a.words.now c.requires.typed _ c.type_group.ensures _ c.in-Struct.is)
    c.put_bytes-in-Struct.ensures

pub returns-in-Sizeless : goal.returns-in-Sizeless
returns-in-Sizeless t c =
    let a = c.args in
    put_same
    (type_arm (lines a.names.now) (length (lines a.names.now)) a.level a.kinds.now a.words.now c.requires.typed _ c.type_group.ensures _ c.in-Sizeless.is)
    c.put_sizeless.ensures

pub returns-in-Other : goal.returns-in-Other
unfolding bytes
returns-in-Other t c =
    let a = c.args in
    put_same
    (type_arm (lines a.names.now) (length (lines a.names.now)) a.level a.kinds.now a.words.now c.requires.typed _ c.type_group.ensures _ c.in-Other.is)
    c.put_bytes-in-Other.ensures

pub returns-in-Named : goal.returns-in-Named
returns-in-Named t c =
    let a = c.args in
    put_same
    (type_arm (lines a.names.now) (length (lines a.names.now)) a.level a.kinds.now a.words.now c.requires.typed _ c.type_group.ensures _ c.in-Named.is)
    (put_same (ap (λ s. bytes "%" ++ s) c.name_of.ensures) c.put_named.ensures)
