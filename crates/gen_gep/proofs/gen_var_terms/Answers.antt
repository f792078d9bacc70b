use mathlib.Core.Path.{refl, ◌∙◌}
use native.Mathlib.Omega.{arith}
use Rattle.lowering.specs.Gep.{gen_var_term}
use Rattle.gen_lines.specs.Follow.{none_puts}
use Rattle.gen_gep.specs.Terms.{term_asked, term_there}
use Rattle.gen_gep.specs.Lines.{terms_on, terms_all}
use Rattle.gen_gep.proofs.gen_var_terms.Goals as goal

pub loop-i-init : goal.loop-i-init
loop-i-init c =
    let a = c.args in
    (refl, refl, λ k ts locals terms e. none_puts (gen_var_term k) a.s a.lines.now a.operands.now)

pub overflow_mul-from : goal.overflow_mul-from
overflow_mul-from c =
    let there = term_there c.requires c.loop-i.i c.loop-i-test.true in
    omega (arith, there, c.well_formed)

pub overflow_mul-from-in-loop-i : goal.overflow_mul-from-in-loop-i
overflow_mul-from-in-loop-i c =
    let there = term_there c.requires c.loop-i.i c.loop-i-test.true in
    omega (arith, there, c.well_formed)

pub overflow_add-from : goal.overflow_add-from
overflow_add-from c =
    let there = term_there c.requires c.loop-i.i c.loop-i-test.true in
    omega (arith, there, c.well_formed)

pub offset_bounds-work-from : goal.offset_bounds-work-from
offset_bounds-work-from c =
    let there = term_there c.requires c.loop-i.i c.loop-i-test.true in
    omega (arith, there, c.well_formed)

pub bounds-work-from : goal.bounds-work-from
bounds-work-from c =
    let there = term_there c.requires c.loop-i.i c.loop-i-test.true in
    omega (arith, there)

pub overflow_add-from-in-loop-i : goal.overflow_add-from-in-loop-i
overflow_add-from-in-loop-i c =
    let there = term_there c.requires c.loop-i.i c.loop-i-test.true in
    omega (arith, there, c.well_formed)

pub offset_bounds-work-from-in-loop-i : goal.offset_bounds-work-from-in-loop-i
offset_bounds-work-from-in-loop-i c =
    let there = term_there c.requires c.loop-i.i c.loop-i-test.true in
    omega (arith, there, c.well_formed)

pub bounds-work-from-in-loop-i : goal.bounds-work-from-in-loop-i
bounds-work-from-in-loop-i c =
    term_there c.requires c.loop-i.i c.loop-i-test.true

pub gen_var_term-reached-requires : goal.gen_var_term-reached-requires
gen_var_term-reached-requires c =
    term_asked c.requires c.loop-i.i c.loop-i-test.true

pub loop-i-preserved : goal.loop-i-preserved
loop-i-preserved c =
    let a = c.args in
    let inv = c.loop-i.invariant in
    let called = c.gen_var_term-reached in
    let less = c.loop-i-test.true in (
      called.auto.lines ∙ inv.0,
      called.auto.operands ∙ inv.1,
      λ k ts locals terms e.
          let so_far = inv.2 k ts locals terms e in
          terms_on k a.names a.book_kinds.now a.book_words.now a.work.now c.loop-i.i ts (omega arith) terms so_far (λ x here. called.ensures k x locals here),
    )

pub shape_of-lines : goal.shape_of-lines
shape_of-lines c =
    c.loop-i.invariant.0

pub shape_of-operands : goal.shape_of-operands
shape_of-operands c =
    c.loop-i.invariant.1

pub returns : goal.returns
returns c =
    λ k ts locals terms e. terms_all k c.loop-i.i ts (omega (arith, c.loop-i-test.false)) (c.loop-i.invariant.2 k ts locals terms e)
