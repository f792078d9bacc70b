-- `function_params` meets its contract: the parameters stand behind the return type.
use mathlib.Core.Path.{sym, ◌∙◌}
use native.Mathlib.Omega.{arith}
use Rattle.print.specs.Function.{fn_kinds, fn_words, fn_no_type, fn_kinds_at, fn_words_at, fn_params_there, fn_params}
use Rattle.print.proofs.params.function_params.Goals as goal

pub slice_bounds-type_len-count : goal.slice_bounds-type_len-count
slice_bounds-type_len-count c = fn_kinds c.args.names c.args.kinds.now c.args.words.now c.requires

pub slice_bounds-type_len-start : goal.slice_bounds-type_len-start
slice_bounds-type_len-start c = fn_kinds c.args.names c.args.kinds.now c.args.words.now c.requires

pub slice_bounds-type_len-count-2 : goal.slice_bounds-type_len-count-2
slice_bounds-type_len-count-2 c = fn_words c.args.names c.args.kinds.now c.args.words.now c.requires

pub slice_bounds-type_len-start-2 : goal.slice_bounds-type_len-start-2
slice_bounds-type_len-start-2 c = fn_words c.args.names c.args.kinds.now c.args.words.now c.requires

pub returns-in_default : goal.returns-in_default
returns-in_default c =
    fn_no_type c.args.names c.args.kinds.now c.args.words.now c.requires
    (sym c.in_default.is ∙ c.type_len.ensures)

pub overflow_add-at : goal.overflow_add-at
overflow_add-at c =
    omega (
      arith,
      fn_kinds_at c.args.names c.args.kinds.now c.args.words.now c.requires _
          c.in-Some.ensures,
      c.well_formed,
    )

pub offset_bounds-kinds-at : goal.offset_bounds-kinds-at
offset_bounds-kinds-at c =
    omega (
      arith,
      fn_kinds_at c.args.names c.args.kinds.now c.args.words.now c.requires _
          c.in-Some.ensures,
      c.well_formed,
    )

pub slice_bounds-list_params-count : goal.slice_bounds-list_params-count
slice_bounds-list_params-count c =
    fn_kinds_at c.args.names c.args.kinds.now c.args.words.now c.requires _
    c.in-Some.ensures

pub slice_bounds-list_params-start : goal.slice_bounds-list_params-start
slice_bounds-list_params-start c =
    fn_kinds_at c.args.names c.args.kinds.now c.args.words.now c.requires _
    c.in-Some.ensures

pub offset_bounds-words-at : goal.offset_bounds-words-at
offset_bounds-words-at c =
    omega (
      arith,
      fn_words_at c.args.names c.args.kinds.now c.args.words.now c.requires _
          c.in-Some.ensures,
      c.well_formed,
    )

pub slice_bounds-list_params-count-2 : goal.slice_bounds-list_params-count-2
slice_bounds-list_params-count-2 c =
    fn_words_at c.args.names c.args.kinds.now c.args.words.now c.requires _
    c.in-Some.ensures

pub slice_bounds-list_params-start-2 : goal.slice_bounds-list_params-start-2
slice_bounds-list_params-start-2 c =
    fn_words_at c.args.names c.args.kinds.now c.args.words.now c.requires _
    c.in-Some.ensures

pub list_params-requires : goal.list_params-requires
list_params-requires c =
    fn_params_there c.args.names c.args.kinds.now c.args.words.now c.requires _
    c.in-Some.ensures

pub returns : goal.returns
returns c =
    fn_params c.args.names c.args.kinds.now c.args.words.now c.requires _
    c.in-Some.ensures _ c.list_params.ensures
