-- `gen_prepare::prepare` meets its contract: the parameters and blocks, then the frame pass.
use Rattle.book_types.specs.Laws.{within_kinds, within_words}
use Rattle.gen_prepare.specs.Passes as laws
use borrow.Author.Rules.{rules}
use Rattle.gen_prepare.proofs.prepare.Goals as goal

pub offset_bounds-kinds-at : goal.offset_bounds-kinds-at
offset_bounds-kinds-at c =
    let w = laws.function_within c.args.kinds.now c.args.words.now c.requires in
    search rules

pub slice_bounds-place_function-count : goal.slice_bounds-place_function-count
slice_bounds-place_function-count c =
    let w = laws.function_within c.args.kinds.now c.args.words.now c.requires in
    search rules

pub slice_bounds-place_function-start : goal.slice_bounds-place_function-start
slice_bounds-place_function-start c =
    let w = laws.function_within c.args.kinds.now c.args.words.now c.requires in
    search rules

pub slice_bounds-place_function-end : goal.slice_bounds-place_function-end
slice_bounds-place_function-end c =
    let w = laws.function_within c.args.kinds.now c.args.words.now c.requires in
    search rules

pub offset_bounds-words-at : goal.offset_bounds-words-at
offset_bounds-words-at c =
    let w = laws.function_within c.args.kinds.now c.args.words.now c.requires in
    search rules

pub slice_bounds-place_function-count-2 : goal.slice_bounds-place_function-count-2
slice_bounds-place_function-count-2 c =
    let w = laws.function_within c.args.kinds.now c.args.words.now c.requires in
    search rules

pub slice_bounds-place_function-start-2 : goal.slice_bounds-place_function-start-2
slice_bounds-place_function-start-2 c =
    let w = laws.function_within c.args.kinds.now c.args.words.now c.requires in
    search rules

pub slice_bounds-place_function-end-2 : goal.slice_bounds-place_function-end-2
slice_bounds-place_function-end-2 c =
    let w = laws.function_within c.args.kinds.now c.args.words.now c.requires in
    search rules

pub place_function-placed-requires : goal.place_function-placed-requires
place_function-placed-requires c =
    (_, (_, laws.function_ask c.args.kinds.now c.args.words.now c.requires))

pub offset_bounds-kinds-from : goal.offset_bounds-kinds-from
offset_bounds-kinds-from c =
    let ks = c.args.kinds.now in
    let ws = c.args.words.now in
    let placed = c.place_function-placed.ensures _ _ (laws.function_ask ks ws c.requires) in
    let order = laws.in_order ks ws c.requires placed in
    let h = within_kinds _ ks ws placed.there in
    search rules

pub slice_bounds-frame_pass-count : goal.slice_bounds-frame_pass-count
slice_bounds-frame_pass-count c =
    let ks = c.args.kinds.now in
    let ws = c.args.words.now in
    let placed = c.place_function-placed.ensures _ _ (laws.function_ask ks ws c.requires) in
    let order = laws.in_order ks ws c.requires placed in
    let h = within_kinds _ ks ws placed.there in
    search rules

pub slice_bounds-frame_pass-start : goal.slice_bounds-frame_pass-start
slice_bounds-frame_pass-start c =
    let ks = c.args.kinds.now in
    let ws = c.args.words.now in
    let placed = c.place_function-placed.ensures _ _ (laws.function_ask ks ws c.requires) in
    let order = laws.in_order ks ws c.requires placed in
    let h = within_kinds _ ks ws placed.there in
    search rules

pub slice_bounds-frame_pass-end : goal.slice_bounds-frame_pass-end
slice_bounds-frame_pass-end c =
    let ks = c.args.kinds.now in
    let ws = c.args.words.now in
    let placed = c.place_function-placed.ensures _ _ (laws.function_ask ks ws c.requires) in
    let order = laws.in_order ks ws c.requires placed in
    let h = within_kinds _ ks ws placed.there in
    search rules

pub offset_bounds-words-from : goal.offset_bounds-words-from
offset_bounds-words-from c =
    let ks = c.args.kinds.now in
    let ws = c.args.words.now in
    let placed = c.place_function-placed.ensures _ _ (laws.function_ask ks ws c.requires) in
    let order = laws.in_order ks ws c.requires placed in
    let h = within_words _ ks ws placed.there in
    search rules

pub slice_bounds-frame_pass-count-2 : goal.slice_bounds-frame_pass-count-2
slice_bounds-frame_pass-count-2 c =
    let ks = c.args.kinds.now in
    let ws = c.args.words.now in
    let placed = c.place_function-placed.ensures _ _ (laws.function_ask ks ws c.requires) in
    let order = laws.in_order ks ws c.requires placed in
    let h = within_words _ ks ws placed.there in
    search rules

pub slice_bounds-frame_pass-start-2 : goal.slice_bounds-frame_pass-start-2
slice_bounds-frame_pass-start-2 c =
    let ks = c.args.kinds.now in
    let ws = c.args.words.now in
    let placed = c.place_function-placed.ensures _ _ (laws.function_ask ks ws c.requires) in
    let order = laws.in_order ks ws c.requires placed in
    let h = within_words _ ks ws placed.there in
    search rules

pub slice_bounds-frame_pass-end-2 : goal.slice_bounds-frame_pass-end-2
slice_bounds-frame_pass-end-2 c =
    let ks = c.args.kinds.now in
    let ws = c.args.words.now in
    let placed = c.place_function-placed.ensures _ _ (laws.function_ask ks ws c.requires) in
    let order = laws.in_order ks ws c.requires placed in
    let h = within_words _ ks ws placed.there in
    search rules

pub frame_pass-requires : goal.frame_pass-requires
frame_pass-requires c =
    let ks = c.args.kinds.now in
    let ws = c.args.words.now in
    laws.frame_ask ks ws c.requires (c.place_function-placed.ensures _ _ (laws.function_ask ks ws c.requires))

pub framed-requires : goal.framed-requires
framed-requires c =
    c.in-Ok.ensures.ends

pub returns-in-Ok : goal.returns-in-Ok
returns-in-Ok c =
    let ks = c.args.kinds.now in
    let ws = c.args.words.now in
    let placed = c.place_function-placed.ensures _ _ (laws.function_ask ks ws c.requires) in
    rw c.framed.ensures (laws.prepared ks ws c.requires placed c.in-Ok.ensures)

pub returns-in-Err : goal.returns-in-Err
returns-in-Err c =
    let ks = c.args.kinds.now in
    let ws = c.args.words.now in
    let placed = c.place_function-placed.ensures _ _ (laws.function_ask ks ws c.requires) in
    laws.refused ks ws c.requires placed c.in-Err.ensures
