-- `mark_new` meets its contract: the tests are the definition's.
use mathlib.Core.Path.{◌≡◌, refl, sym, ◌∙◌}
use mathlib.Core.Bool.{true, false}
use borrow.Author.Tests.{le-ltb, lt-ltb}
use Rattle.book_marks.specs.Once.{is_new}
use Rattle.book_marks.proofs.mark_new.Goals as goal

pub returns-then-map-x : goal.returns-then-map-x
returns-then-map-x c =
    let a = c.args in
    let e : is_new a.map.now a.x ≡ false = rw (le-ltb _ _ c.if-map-x.true) in
    record { value = sym e; map_after = refl }

pub returns-then-bit : goal.returns-then-bit
returns-then-bit c =
    let a = c.args in
    let e : is_new a.map.now a.x ≡ false = rw (lt-ltb _ _ c.if-map-x.false, sym c.bit.ensures ∙ c.if-bit.true) in
    record { value = sym e; map_after = refl }

pub returns : goal.returns
returns c =
    let a = c.args in
    let e : is_new a.map.now a.x ≡ true = rw (lt-ltb _ _ c.if-map-x.false, sym c.bit.ensures ∙ c.if-bit.false) in
    record { value = sym e; map_after = c.set_bit.ensures }
