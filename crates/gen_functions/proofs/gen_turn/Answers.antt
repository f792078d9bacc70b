-- `gen_functions::gen_turn` meets its contract: what was set is cleared, the function prepared, and its lines put.
use Rattle.book.specs.Refusal.{number_positive}
use Rattle.gen_lines.specs.Puts.{made_refused_lem}
use Rattle.gen_clear.specs.Clear.{cut_within, clear_part}
use Rattle.gen_functions.specs.Turns as laws
use borrow.Author.Rules.{rules}
use Rattle.gen_functions.proofs.gen_turn.Goals as goal

pub offset_bounds-book_kinds-from : goal.offset_bounds-book_kinds-from
offset_bounds-book_kinds-from c =
    let w = cut_within c.args.book_kinds.now c.args.book_words.now c.requires.ask in
    search rules

pub slice_bounds-clear_function-count : goal.slice_bounds-clear_function-count
slice_bounds-clear_function-count c =
    let w = cut_within c.args.book_kinds.now c.args.book_words.now c.requires.ask in
    search rules

pub slice_bounds-clear_function-start : goal.slice_bounds-clear_function-start
slice_bounds-clear_function-start c =
    let w = cut_within c.args.book_kinds.now c.args.book_words.now c.requires.ask in
    search rules

pub slice_bounds-clear_function-end : goal.slice_bounds-clear_function-end
slice_bounds-clear_function-end c =
    let w = cut_within c.args.book_kinds.now c.args.book_words.now c.requires.ask in
    search rules

pub offset_bounds-book_words-from : goal.offset_bounds-book_words-from
offset_bounds-book_words-from c =
    let w = cut_within c.args.book_kinds.now c.args.book_words.now c.requires.ask in
    search rules

pub slice_bounds-clear_function-count-2 : goal.slice_bounds-clear_function-count-2
slice_bounds-clear_function-count-2 c =
    let w = cut_within c.args.book_kinds.now c.args.book_words.now c.requires.ask in
    search rules

pub slice_bounds-clear_function-start-2 : goal.slice_bounds-clear_function-start-2
slice_bounds-clear_function-start-2 c =
    let w = cut_within c.args.book_kinds.now c.args.book_words.now c.requires.ask in
    search rules

pub slice_bounds-clear_function-end-2 : goal.slice_bounds-clear_function-end-2
slice_bounds-clear_function-end-2 c =
    let w = cut_within c.args.book_kinds.now c.args.book_words.now c.requires.ask in
    search rules

pub clear_function-requires : goal.clear_function-requires
clear_function-requires c =
    clear_part c.args.book_kinds.now c.args.book_words.now c.requires.ask

pub prepare-requires : goal.prepare-requires
prepare-requires c =
    let a = c.requires in
    laws.prepare_ask c.args.book_kinds.now c.args.book_words.now a.codegen a.fn a.others a.here a.shared c.clear_function.ensures

pub returns-in-Err : goal.returns-in-Err
returns-in-Err c g f fs here shared ask =
    let ks = c.args.book_kinds.now in
    let ws = c.args.book_words.now in
    let refused = c.in-Err.ensures in
    record {
      puts = laws.refused_turn ks ws g f fs here shared c.clear_function.ensures _ refused.says _ _ c.refuse.ensures;
      next = laws.next ks ws g f fs here refused.stands;
      further = laws.further ks ws g f fs here refused.stands;
      again = λ e. laws.never (made_refused_lem _ (number_positive c.in-Err.e.refusal) c.args.t.s c.refuse.ensures) e;
    }

pub gen_function-s-requires : goal.gen_function-s-requires
gen_function-s-requires c =
    let ks = c.args.book_kinds.now in
    let ws = c.args.book_words.now in
    let a = c.requires in
    laws.function_asked ks ws a.codegen a.fn a.others a.here a.shared c.clear_function.ensures c.in-Ok.ensures

pub returns-in-Ok : goal.returns-in-Ok
returns-in-Ok c g f fs here shared ask =
    let ks = c.args.book_kinds.now in
    let ws = c.args.book_words.now in
    let cleared = c.clear_function.ensures in
    let prepared = c.in-Ok.ensures in
    let x = laws.context ks ws g f fs here shared cleared prepared in
    let did = c.gen_function-s.ensures _ f (laws.function_here ks ws g f fs here prepared.stands)
    (laws.context_framed ks ws g f fs here shared cleared prepared) x.set.maps in
    record {
      puts = laws.lines_put ks ws g f fs here shared cleared prepared did;
      next = laws.next ks ws g f fs here prepared.stands;
      further = laws.further ks ws g f fs here prepared.stands;
      again = λ _. laws.for_next ks ws g f fs here shared cleared prepared did;
    }
