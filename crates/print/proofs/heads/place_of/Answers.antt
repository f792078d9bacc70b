use mathlib.Core.Path.{sym, ◌∙◌}
use native.Mathlib.Omega.{arith}
use Rattle.book_types.specs.Laws.{length_entries}
use Rattle.book.specs.Entry.{entries}
use Rattle.print.specs.Heads.{head_inside, head_hit, head_next}
use Rattle.print.proofs.heads.place_of.Goals as goal

pub returns-then-window-eq0 : goal.returns-then-window-eq0
returns-then-window-eq0 c =
    let ks = c.args.kinds.now in
    let ws = c.args.words.now in
    omega (arith, c.requires.noted.none _ c.requires.x_in_bounds c.if-window-eq0.true, head_inside c.args.x (entries ks ws), length_entries ks ws)

pub loop-i-init : goal.loop-i-init
loop-i-init c =
    omega (arith, c.window_start-i.ensures, c.requires.noted.from _ c.requires.x_in_bounds)

pub returns-then-is_head : goal.returns-then-is_head
returns-then-is_head c =
    let test = c.loop-i-test.true in
    let hit = head_hit c.args.x c.args.kinds.now c.args.words.now _ test (omega (arith, test, c.requires.kinds_len)) (sym c.is_head.ensures ∙ c.if-is_head.true) in
    omega (arith, c.loop-i.invariant, hit)

pub loop-i-preserved : goal.loop-i-preserved
loop-i-preserved c =
    let test = c.loop-i-test.true in
    head_next c.args.x c.args.kinds.now c.args.words.now _ test (omega (arith, test, c.requires.kinds_len)) c.loop-i.invariant (sym c.is_head.ensures ∙ c.if-is_head.false)

pub returns : goal.returns
returns c =
    let ks = c.args.kinds.now in
    let ws = c.args.words.now in
    omega (arith, c.loop-i.invariant, c.loop-i-test.false, head_inside c.args.x (entries ks ws), length_entries ks ws)
