-- `write_plain` meets its contract, one part after the other; a line without an operand ends where the word does.
use mathlib.Core.Path.{ap}
use native.Mathlib.Omega.{arith}
use lib.ListN.{length}
use lib.Seq.{length-sets}
use Rattle.print_pen.specs.Write.{wrote_same}
use Rattle.print_words.specs.Plain.{plain_bare, plain_long, plain_word, short_room, number_wrote, bare_wrote}
use Rattle.print_words.proofs.plain.write_plain.Goals as goal

pub write_word-next-requires : goal.write_word-next-requires
write_word-next-requires c =
    record {
      tables = c.requires.tables;
      kind_bound = c.requires.kind_bound;
      kind_bound_2 = omega (arith, plain_word c.args.kind c.args.x, c.requires.x_bound);
      end_in_bounds = c.requires.end_in_bounds;
    }

pub put_short-number-requires : goal.put_short-number-requires
put_short-number-requires c =
    let w = c.write_word-next.ensures in
    let room = short_room _ _ _ _ _ c.requires.kind_bound c.if-x-end.true w.place in
    record { n_bound = room.0; n_in_bounds = omega (arith, w.long, room.1, c.requires.end_in_bounds) }

pub write_end-behind-requires : goal.write_end-behind-requires
write_end-behind-requires c =
    let w = c.write_word-next.ensures in
    let d = c.put_short-number.ensures in
    let l = simp length-sets at (ap length d.1) in
    let room = short_room c.args.kind c.args.x c.args.at c.args.end _ c.requires.kind_bound c.if-x-end.true w.place in
    omega (arith, w.long, d.0, room.1, c.requires.end_in_bounds)

pub returns-then-kind-ge-ADD_U32 : goal.returns-then-kind-ge-ADD_U32
returns-then-kind-ge-ADD_U32 c =
    let w = c.write_word-next.ensures in
    let room = (short_room _ _ _ _ _ c.requires.kind_bound c.if-x-end.true w.place).1 in
    bare_wrote _ _ w c.put_short-number.ensures c.write_end-behind.ensures room c.requires.end_in_bounds c.if-kind-ge-ADD_U32.true

pub returns-else-kind-ge-ADD_U32 : goal.returns-else-kind-ge-ADD_U32
returns-else-kind-ge-ADD_U32 c =
    let w = c.write_word-next.ensures in
    let room = (short_room _ _ _ _ _ c.requires.kind_bound c.if-x-end.true w.place).1 in
    number_wrote _ _ w c.put_short-number.ensures c.write_end-behind.ensures room c.requires.end_in_bounds c.if-kind-ge-ADD_U32.false

pub returns-then-kind-ge-ADD_U32-2 : goal.returns-then-kind-ge-ADD_U32-2
returns-then-kind-ge-ADD_U32-2 c =
    wrote_same (plain_bare _ _ c.if-kind-ge-ADD_U32-2.true) c.write_word-next.ensures

pub put_decimal-number-requires : goal.put_decimal-number-requires
put_decimal-number-requires c =
    let w = c.write_word-next.ensures in
    omega (arith, w.place, w.long, plain_long c.args.kind c.args.x c.if-kind-ge-ADD_U32-2.false, c.requires.x_bound, c.requires.end_in_bounds)

pub write_end-requires : goal.write_end-requires
write_end-requires c =
    let w = c.write_word-next.ensures in
    let d = c.put_decimal-number.ensures in
    let l = simp length-sets at (ap length d.1) in
    omega (arith, w.place, w.long, d.0, plain_long c.args.kind c.args.x c.if-kind-ge-ADD_U32-2.false, c.requires.x_bound, c.requires.end_in_bounds)

pub returns : goal.returns
returns c =
    let w = c.write_word-next.ensures in
    let size = plain_long c.args.kind c.args.x c.if-kind-ge-ADD_U32-2.false in
    number_wrote _ _ w c.put_decimal-number.ensures c.write_end.ensures (omega (arith, w.place, size, c.requires.x_bound)) c.requires.end_in_bounds c.if-kind-ge-ADD_U32-2.false
