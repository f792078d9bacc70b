-- `gen_alloca::gen_dynamic_alloca` meets its contract.
use native.Mathlib.Omega.{arith}
use mathlib.Core.Path.{◌∙◌}
use Rattle.gen_lines.specs.Puts.{then_puts}
use Rattle.gen_fields.specs.Items.{align_at_lem}
use Rattle.gen_size.specs.Lent as lent
use Rattle.gen_fields.specs.Places as places
use Rattle.gen_values.specs.Maps.{maps_after}
use Rattle.gen_alloca.specs.Alloca as laws
use Rattle.gen_alloca.proofs.gen_dynamic_alloca.Goals as goal

pub measured_size-size-requires : goal.measured_size-size-requires
measured_size-size-requires c =
    lent.measurable c.args.kinds.now c.args.words.now c.requires

pub count_place-count-requires : goal.count_place-count-requires
count_place-count-requires c =
    let ks = c.args.kinds.now in
    let ws = c.args.words.now in
    laws.count_front c.args.names _ ks ws c.skip.result (places.past_type ks ws c.requires.fields c.skip.ensures)

pub offset_bounds-kinds-count : goal.offset_bounds-kinds-count
offset_bounds-kinds-count c = omega (arith, (let entry = c in (c.count_place-count.ensures _ entry.requires.holds.1 (places.past_type entry.args.kinds.now entry.args.words.now entry.requires.fields c.skip.ensures)).at).in_kinds)

pub slice_bounds-count_kinds-count : goal.slice_bounds-count_kinds-count
slice_bounds-count_kinds-count c = omega (arith, (let entry = c in (c.count_place-count.ensures _ entry.requires.holds.1 (places.past_type entry.args.kinds.now entry.args.words.now entry.requires.fields c.skip.ensures)).at).in_kinds)

pub slice_bounds-count_kinds-start : goal.slice_bounds-count_kinds-start
slice_bounds-count_kinds-start c = omega (arith, (let entry = c in (c.count_place-count.ensures _ entry.requires.holds.1 (places.past_type entry.args.kinds.now entry.args.words.now entry.requires.fields c.skip.ensures)).at).in_kinds)

pub offset_bounds-words-count : goal.offset_bounds-words-count
offset_bounds-words-count c = omega (arith, (let entry = c in (c.count_place-count.ensures _ entry.requires.holds.1 (places.past_type entry.args.kinds.now entry.args.words.now entry.requires.fields c.skip.ensures)).at).in_words)

pub slice_bounds-count_words-count : goal.slice_bounds-count_words-count
slice_bounds-count_words-count c = omega (arith, (let entry = c in (c.count_place-count.ensures _ entry.requires.holds.1 (places.past_type entry.args.kinds.now entry.args.words.now entry.requires.fields c.skip.ensures)).at).in_words)

pub slice_bounds-count_words-start : goal.slice_bounds-count_words-start
slice_bounds-count_words-start c = omega (arith, (let entry = c in (c.count_place-count.ensures _ entry.requires.holds.1 (places.past_type entry.args.kinds.now entry.args.words.now entry.requires.fields c.skip.ensures)).at).in_words)

pub overflow_add-count : goal.overflow_add-count
overflow_add-count c =
    let ks = c.args.kinds.now in
    let ws = c.args.words.now in
    let past = places.past_type ks ws c.requires.fields c.skip.ensures in
    let count = c.count_place-count.ensures _ c.requires.holds.1 past in
    omega (arith, count.at.in_kinds, c.well_formed)

pub align_or-stated-requires : goal.align_or-stated-requires
align_or-stated-requires c =
    let ks = c.args.kinds.now in
    let ws = c.args.words.now in
    let past = places.past_type ks ws c.requires.fields c.skip.ensures in
    let count = c.count_place-count.ensures _ c.requires.holds.1 past in
    laws.align_lent ks ws _ (align_at_lem ks ws _ count.behind)
    (record { front = (lent.measurable ks ws c.requires).front; ready = c.measured_size-size.ensures.after.ready })

pub push_count-counted-requires : goal.push_count-counted-requires
push_count-counted-requires c =
    let ks = c.args.kinds.now in
    let ws = c.args.words.now in
    let past = places.past_type ks ws c.requires.fields c.skip.ensures in
    let count = c.count_place-count.ensures _ c.requires.holds.1 past in
    laws.count_there _ _ 0 (laws.count_part count.at) c.align_or-stated.ensures.after.ready.room

pub shape_of-work : goal.shape_of-work
shape_of-work c =
    c.align_or-stated.ensures.after.kept.long ∙ c.measured_size-size.ensures.after.kept.long

pub returns : goal.returns
returns c = λ p k fields maps.
    let ks = c.args.kinds.now in
    let ws = c.args.words.now in
    let m = c.args.names in
    let size = c.measured_size-size.ensures in
    let stated = c.align_or-stated.ensures in
    let count = c.count_place-count.ensures _ p.1 (places.past_type ks ws fields c.skip.ensures) in
    let measured = maps_after maps size.after in
    let last = maps_after measured stated.after in
    record {
      puts = laws.dynamic_puts k p.0 p.1.0 p.1.1.0 (lent.size_asked ks ws fields maps size)
          (stated.asked _ p k p.1.1.0 fields measured (align_at_lem ks ws _ count.behind)) c.max.ensures
          (c.raised-start.ensures _ _ _ _ (then_puts (c.push_count-counted.ensures m k p.1.0 (laws.count_part count.at) last.locals) c.moved.ensures));
      maps = last;
    }
