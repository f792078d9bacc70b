-- `find_head` meets its contract: what stands at the first entry of kind 5 with the name is the function.
use native.Mathlib.Omega.{arith}
use Rattle.print.specs.Heads.{fn_beyond, no_head_lem, head_there, head_stands}
use Rattle.print.proofs.heads.find_head.Goals as goal

pub returns-then-count-own : goal.returns-then-count-own
returns-then-count-own c =
    let d = c.requires.book in
    fn_beyond c.args.count c.args.kinds.now c.args.words.now d c.args.own c.if-count-own.true

pub place_of-at-requires : goal.place_of-at-requires
place_of-at-requires c =
    let i = c.requires in
    record {
      kinds_len = i.book.even;
      noted = i.noted;
      x_in_bounds = omega (arith, c.if-count-own.false, i.room);
    }

pub returns-then-kinds-at : goal.returns-then-kinds-at
returns-then-kinds-at c =
    let d = c.requires.book in
    no_head_lem c.args.count c.args.kinds.now c.args.words.now d c.args.own (omega (arith, c.if-kinds-at.true, c.place_of-at.ensures))

pub function_params-params-requires : goal.function_params-params-requires
function_params-params-requires c =
    let d = c.requires.book in
    head_there c.args.count c.args.kinds.now c.args.words.now d c.args.own _ c.place_of-at.ensures (omega (arith, c.if-kinds-at.false))

pub returns : goal.returns
returns c =
    let d = c.requires.book in
    head_stands c.args.count c.args.kinds.now c.args.words.now d c.args.own _ c.place_of-at.ensures (omega (arith, c.if-kinds-at.false)) _
    c.function_params-params.ensures
