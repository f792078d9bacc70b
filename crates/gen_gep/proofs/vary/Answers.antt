-- `gen_gep::vary` meets its contract: a term is stored behind the others.
use mathlib.Core.Path.{refl}
use native.Mathlib.Omega.{arith}
use lib.ListN.{length-set}
use Rattle.gen_values.specs.Fields.{part_from, fields_part, width_is}
use Rattle.gen_gep.specs.Walks.{vary_went}
use Rattle.gen_gep.proofs.vary.Goals as goal

pub bounds-work-to-2 : goal.bounds-work-to-2
bounds-work-to-2 c =
    simp length-set (omega (arith, c.requires.room, c.requires.few))

pub returns : goal.returns
returns c =
    let a = c.args in
    λ p k f ready front at.
    let type-here = fields_part a.book_kinds.now a.book_words.now a.index f in
    vary_went a.names a.book_kinds.now a.book_words.now a.work.now k a.w a.index f ready at c.requires.room c.requires.few a.stride a.next front refl
    (c.need_width-wide.ensures p.0 (width_is (part_from a.book_kinds.now a.index) (part_from a.book_words.now a.index) 0 type-here))
