-- `gen_frame::places::alloca` meets its contract: a missing name is found first, a varying count measures nothing.
use native.Mathlib.Omega.{arith}
use Rattle.gen_frame.specs.Allocas as laws
use borrow.Author.Rules.{rules}
use Rattle.gen_frame.proofs.places.alloca.Goals as goal

pub returns-then-dest-eq0 : goal.returns-then-dest-eq0
returns-then-dest-eq0 c =
    λ args k. laws.alloca_unnamed c.args.names c.args.dest c.args.kinds.now c.args.words.now args k
    c.if-dest-eq0.true c.requires.ready

pub offset_bounds-kinds-at : goal.offset_bounds-kinds-at
offset_bounds-kinds-at c =
    let s = laws.alloca_starts c.args.names c.args.dest c.args.kinds.now c.args.words.now c.requires.args c.requires.fields in
    let h = (laws.skip_fits c.args.kinds.now c.args.words.now s c.skip-at.ensures).0 in
    search rules

pub slice_bounds-count_of-count : goal.slice_bounds-count_of-count
slice_bounds-count_of-count c =
    let s = laws.alloca_starts c.args.names c.args.dest c.args.kinds.now c.args.words.now c.requires.args c.requires.fields in
    let h = (laws.skip_fits c.args.kinds.now c.args.words.now s c.skip-at.ensures).0 in
    search rules

pub slice_bounds-count_of-start : goal.slice_bounds-count_of-start
slice_bounds-count_of-start c =
    let s = laws.alloca_starts c.args.names c.args.dest c.args.kinds.now c.args.words.now c.requires.args c.requires.fields in
    let h = (laws.skip_fits c.args.kinds.now c.args.words.now s c.skip-at.ensures).0 in
    search rules

pub offset_bounds-words-at : goal.offset_bounds-words-at
offset_bounds-words-at c =
    let s = laws.alloca_starts c.args.names c.args.dest c.args.kinds.now c.args.words.now c.requires.args c.requires.fields in
    let h = (laws.skip_fits c.args.kinds.now c.args.words.now s c.skip-at.ensures).1 in
    search rules

pub slice_bounds-count_of-count-2 : goal.slice_bounds-count_of-count-2
slice_bounds-count_of-count-2 c =
    let s = laws.alloca_starts c.args.names c.args.dest c.args.kinds.now c.args.words.now c.requires.args c.requires.fields in
    let h = (laws.skip_fits c.args.kinds.now c.args.words.now s c.skip-at.ensures).1 in
    search rules

pub slice_bounds-count_of-start-2 : goal.slice_bounds-count_of-start-2
slice_bounds-count_of-start-2 c =
    let s = laws.alloca_starts c.args.names c.args.dest c.args.kinds.now c.args.words.now c.requires.args c.requires.fields in
    let h = (laws.skip_fits c.args.kinds.now c.args.words.now s c.skip-at.ensures).1 in
    search rules

pub count_of-requires : goal.count_of-requires
count_of-requires c =
    let ask = c.requires in
    (ask.args.1.0, laws.count_at c.args.names c.args.dest c.args.kinds.now c.args.words.now ask.args ask.fields c.skip-at.ensures)

pub place-requires : goal.place-requires
place-requires c =
    let ask = c.requires in
    record {
      front = laws.alloca_starts c.args.names c.args.dest c.args.kinds.now c.args.words.now ask.args ask.fields;
      ready = ask.ready;
      named = omega (arith, ask.named, c.if-dest-eq0.false);
      ends = ask.ends;
    }

pub returns-in-Some : goal.returns-in-Some
returns-in-Some c =
    λ args k.
    laws.alloca_fixed c.args.names c.args.dest c.args.kinds.now c.args.words.now args k c.if-dest-eq0.false _
    (c.count_of.ensures args.1.0
    (laws.count_at c.args.names c.args.dest c.args.kinds.now c.args.words.now args k c.skip-at.ensures))
    c.in-Some.is c.place.ensures

pub returns-in-None : goal.returns-in-None
returns-in-None c =
    λ args k.
    laws.alloca_varying c.args.names c.args.dest c.args.kinds.now c.args.words.now args k c.if-dest-eq0.false _
    (c.count_of.ensures args.1.0
    (laws.count_at c.args.names c.args.dest c.args.kinds.now c.args.words.now args k c.skip-at.ensures))
    c.in-None.is c.requires.ready
