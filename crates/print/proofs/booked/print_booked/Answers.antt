-- `print_booked` meets its contract: a sound book is its two numbers, kinds and words.
use native.Mathlib.Omega.{arith}
use Rattle.print.specs.Book.{book_long, book_few, book_short, middle_inside, book_decoded, booked_printed}
use Rattle.print.proofs.booked.print_booked.Goals as goal

pub bounds-book-1 : goal.bounds-book-1
bounds-book-1 c =
    book_long c.args.book.now c.requires

pub bounds-book-0 : goal.bounds-book-0
bounds-book-0 c =
    omega (arith, book_long c.args.book.now c.requires)

pub overflow_add-middle : goal.overflow_add-middle
overflow_add-middle c =
    omega (arith, middle_inside c.args.book.now c.requires, c.well_formed)

pub slice_bounds-print_sound-end : goal.slice_bounds-print_sound-end
slice_bounds-print_sound-end c =
    middle_inside c.args.book.now c.requires

pub offset_bounds-book-middle : goal.offset_bounds-book-middle
offset_bounds-book-middle c =
    omega (arith, middle_inside c.args.book.now c.requires, c.well_formed)

pub slice_bounds-print_sound-count-2 : goal.slice_bounds-print_sound-count-2
slice_bounds-print_sound-count-2 c =
    middle_inside c.args.book.now c.requires

pub slice_bounds-print_sound-start-2 : goal.slice_bounds-print_sound-start-2
slice_bounds-print_sound-start-2 c =
    middle_inside c.args.book.now c.requires

pub print_sound-requires : goal.print_sound-requires
print_sound-requires c =
    let book = c.args.book.now in
    record {
      decoded = book_decoded book c.requires;
      kinds_len_bound = book_short book c.requires;
      count_bound = book_few book c.requires;
      room_nonzero = omega arith;
    }

pub returns : goal.returns
returns c =
    booked_printed c.args.book.now c.requires _ _ _ _ c.print_sound.ensures
