use Rattle.std.proofs.lemmas.Result.{err_from_is_err_and}
use borrow.Author.Rules.{rules}
use Rattle.gen_frame.specs.Pass as laws
use Rattle.gen_frame.proofs.frame_pass.Goals as goal
use Rattle.gen_frame.proofs.frame_pass.Goals.{then-acts+in_ok-f, else-acts}

pub loop-at-init : goal.loop-at-init
loop-at-init c =
    laws.going_start c.requires

pub offset_bounds-kinds-at : goal.offset_bounds-kinds-at
offset_bounds-kinds-at c =
    let l = laws.inside c.args.kinds.now c.args.words.now c.shorter-end.ensures c.loop-at-test.true in
    search rules

pub bounds-kinds-at : goal.bounds-kinds-at
bounds-kinds-at c =
    let l = laws.inside c.args.kinds.now c.args.words.now c.shorter-end.ensures c.loop-at-test.true in
    search rules

pub offset_bounds-words-at : goal.offset_bounds-words-at
offset_bounds-words-at c =
    let l = laws.inside c.args.kinds.now c.args.words.now c.shorter-end.ensures c.loop-at-test.true in
    search rules

pub bounds-words-at : goal.bounds-words-at
bounds-words-at c =
    let l = laws.inside c.args.kinds.now c.args.words.now c.shorter-end.ensures c.loop-at-test.true in
    search rules

pub offset_bounds-kinds-at-then-acts : goal.offset_bounds-kinds-at-then-acts
offset_bounds-kinds-at-then-acts c =
    let l = laws.inside c.args.kinds.now c.args.words.now c.shorter-end.ensures c.loop-at-test.true in
    search rules

pub slice_bounds-ks-count : goal.slice_bounds-ks-count
slice_bounds-ks-count c =
    let l = laws.inside c.args.kinds.now c.args.words.now c.shorter-end.ensures c.loop-at-test.true in
    search rules

pub slice_bounds-ks-start : goal.slice_bounds-ks-start
slice_bounds-ks-start c =
    let l = laws.inside c.args.kinds.now c.args.words.now c.shorter-end.ensures c.loop-at-test.true in
    search rules

pub offset_bounds-words-at-then-acts : goal.offset_bounds-words-at-then-acts
offset_bounds-words-at-then-acts c =
    let l = laws.inside c.args.kinds.now c.args.words.now c.shorter-end.ensures c.loop-at-test.true in
    search rules

pub slice_bounds-ws-count : goal.slice_bounds-ws-count
slice_bounds-ws-count c =
    let l = laws.inside c.args.kinds.now c.args.words.now c.shorter-end.ensures c.loop-at-test.true in
    search rules

pub slice_bounds-ws-start : goal.slice_bounds-ws-start
slice_bounds-ws-start c =
    let l = laws.inside c.args.kinds.now c.args.words.now c.shorter-end.ensures c.loop-at-test.true in
    search rules

pub frame_inst-requires : goal.frame_inst-requires
frame_inst-requires c =
    let l = laws.inside c.args.kinds.now c.args.words.now c.shorter-end.ensures c.loop-at-test.true in
    let does = c.acts.ensures.does c.if-acts.true in
    laws.going_ask c.args.kinds.now c.args.words.now c.loop-at.invariant l.0 does.0 does.1

pub loop-at-preserved : goal.loop-at-preserved
loop-at-preserved c =
    let l = laws.inside c.args.kinds.now c.args.words.now c.shorter-end.ensures c.loop-at-test.true in
    let ks = c.args.kinds.now in
    let ws = c.args.words.now in
    let g = c.loop-at.invariant in
    let acts = c.acts.ensures in
    elim c.if-acts.branch [
      | then-acts+in_ok-f w ↦ let does = acts.does w.if-acts.true in rw (w.work-is, w.f-is) (laws.going_inst ks ws g l.0 does.0 does.1 _ w.frame_inst.ensures _ w.in_ok-f.was)
      | else-acts w ↦ rw (w.work-is, w.f-is) (laws.going_idle ks ws g l.0 (acts.idle w.if-acts.false))
    ]

pub returns-in_err-f : goal.returns-in_err-f
returns-in_err-f c =
    let l = laws.inside c.args.kinds.now c.args.words.now c.shorter-end.ensures c.loop-at-test.true in
    let does = c.acts.ensures.does c.if-acts.true in
    let p = err_from_is_err_and c.from_residual.result c.from_residual.ensures.1 in
    rw (p.1, p.2)
    (laws.going_barred c.args.kinds.now c.args.words.now c.loop-at.invariant l.0 does.0 does.1 _ c.frame_inst.ensures _ c.in_err-f.was)

pub shape_of-work : goal.shape_of-work
shape_of-work c =
    c.loop-at.invariant.kept.long

pub returns : goal.returns
returns c =
    laws.going_done c.args.kinds.now c.args.words.now c.loop-at.invariant (rw c.shorter-end.ensures at c.loop-at-test.false)
