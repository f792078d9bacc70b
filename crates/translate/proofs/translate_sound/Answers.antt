-- `translate::translate_sound` meets its contract: the book's parts are lent, and what is generated is the definition's.
use native.Mathlib.Omega.{arith}
use Rattle.translate.specs.Sound.{s, size, most, decoded, named, generate_ask, sound_answer}
use Rattle.translate.proofs.translate_sound.Goals as goal

pub bounds-book-0 : goal.bounds-book-0
bounds-book-0 c = omega (arith, size c.requires.sound_ask)

pub overflow_add-words : goal.overflow_add-words
overflow_add-words c = omega (arith, most c.requires.sound_ask)

pub slice_bounds-generate-end : goal.slice_bounds-generate-end
slice_bounds-generate-end c = omega (arith, size c.requires.sound_ask)

pub offset_bounds-book-words : goal.offset_bounds-book-words
offset_bounds-book-words c = omega (arith, most c.requires.sound_ask)

pub slice_bounds-generate-count-2 : goal.slice_bounds-generate-count-2
slice_bounds-generate-count-2 c = omega (arith, size c.requires.sound_ask)

pub slice_bounds-generate-start-2 : goal.slice_bounds-generate-start-2
slice_bounds-generate-start-2 c = omega (arith, size c.requires.sound_ask)

pub bounds-book-1 : goal.bounds-book-1
bounds-book-1 c = omega (arith, size c.requires.sound_ask)

pub generate-requires : goal.generate-requires
generate-requires c = record { generate_ask = generate_ask c.requires.sound_ask; own_lines_len = c.requires.own_kinds_len }

pub returns : goal.returns
returns c =
    sound_answer c.requires.sound_ask _ _ _ _ _ _
    (c.generate.ensures (s c.requires.sound_ask).names (s c.requires.sound_ask).book (named c.requires.sound_ask) (decoded c.requires.sound_ask))
