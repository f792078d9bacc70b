-- `gen_passes::pass_over` meets its contract: the first pass finds a refusal, or that the lines do not fit, or they are copied or made again.
use borrow.Author.Rules.{rules}
use native.Mathlib.Omega.{arith}
use mathlib.Core.Path.{◌≡◌, refl}
use Rattle.std.proofs.Common.{Err}
use Rattle.lowering.specs.Function.{gen_functions}
use Rattle.gen_slices.specs.Copies.{copied}
use Rattle.lowering.specs.Numbers.{functions_refuses}
use Rattle.gen_passes.specs.Passes.{Pass, clear_first, noted_range, fit_none, fit_going, fit_copied, fit_written}
use Rattle.gen_passes.proofs.pass_over.Goals as goal

pub gen_functions-counted-requires : goal.gen_functions-counted-requires
gen_functions-counted-requires c =
    let a = c.requires.pass_ask in
    record {
      codegen = a.codegen;
      functions = a.functions;
      here = a.here;
      shared = a.shared;
      ask = clear_first c.args.book_kinds.now c.args.book_words.now a.here a.shared a.clean;
    }

pub counted_lines-requires : goal.counted_lines-requires
counted_lines-requires c =
    let a = c.requires.pass_ask in
    let first = c.gen_functions-counted.ensures a.codegen a.functions a.here a.shared (clear_first c.args.book_kinds.now c.args.book_words.now a.here a.shared a.clean) in
    noted_range (gen_functions a.codegen a.functions) c.args.counter
    (record { puts = first.puts; small = omega (arith, c.well_formed); few_kinds = omega (arith, c.well_formed); few_operands = omega (arith, c.well_formed) })
    (functions_refuses a.codegen a.functions)

pub copy-requires : goal.copy-requires
copy-requires c =
    record { from_reaches = omega (arith, c.if-many-own_lines.true); to_reaches = omega arith }

pub returns-in_err-many : goal.returns-in_err-many
returns-in_err-many c =
    λ g fs here shared clean.
    let ks = c.args.book_kinds.now in
    let ws = c.args.book_words.now in
    let first = c.gen_functions-counted.ensures g fs here shared (clear_first ks ws here shared clean) in
    let is : c.from_residual.result ≡ Err c.in_err-many.field-0.0 = search rules in
    fit_none (gen_functions g fs) c.args.counter
    (record { puts = first.puts; small = omega (arith, c.well_formed); few_kinds = omega (arith, c.well_formed); few_operands = omega (arith, c.well_formed) })
    c.args.lines.now c.args.operands.now (omega (arith, c.well_formed)) _ c.in_err-many.ensures c.in_err-many.field-0.0 refl is

pub returns-then-many-own_lines : goal.returns-then-many-own_lines
returns-then-many-own_lines c =
    λ g fs here shared clean.
    let ks = c.args.book_kinds.now in
    let ws = c.args.book_words.now in
    let first = c.gen_functions-counted.ensures g fs here shared (clear_first ks ws here shared clean) in
    fit_copied (gen_functions g fs) c.args.counter
    (record { puts = first.puts; small = omega (arith, c.well_formed); few_kinds = omega (arith, c.well_formed); few_operands = omega (arith, c.well_formed) })
    c.args.lines.now c.args.operands.now (omega (arith, c.well_formed)) _ c.in_ok-many.ensures
    (omega (arith, c.if-many-own_lines.true, first.puts.long_kinds)) c.requires.own_lines_len _ _ (copied _ _ _ (omega arith) c.copy.ensures) (copied _ _ _ (omega arith) c.copy-then-many-own_lines.ensures)

pub gen_functions-requires : goal.gen_functions-requires
gen_functions-requires c =
    let a = c.requires.pass_ask in
    let ks = c.args.book_kinds.now in
    let ws = c.args.book_words.now in
    let first = c.gen_functions-counted.ensures a.codegen a.functions a.here a.shared (clear_first ks ws a.here a.shared a.clean) in
    let left = first.again (fit_going (gen_functions a.codegen a.functions) c.args.counter
    (record { puts = first.puts; small = omega (arith, c.well_formed); few_kinds = omega (arith, c.well_formed); few_operands = omega (arith, c.well_formed) })
    c.args.lines.now c.args.operands.now (omega (arith, c.well_formed)) _ c.in_ok-many.ensures) in
    record { codegen = a.codegen; functions = a.functions; here = a.here; shared = left.0; ask = left.1 }

pub returns-else-many-own_lines : goal.returns-else-many-own_lines
returns-else-many-own_lines c =
    λ g fs here shared clean.
    let ks = c.args.book_kinds.now in
    let ws = c.args.book_words.now in
    let first = c.gen_functions-counted.ensures g fs here shared (clear_first ks ws here shared clean) in
    let counted : Pass (gen_functions g fs) c.args.counter c.gen_functions-counted.result.s c.args.own_lines.now c.args.own_operands.now c.gen_functions-counted.new.lines c.gen_functions-counted.new.operands =
    record { puts = first.puts; small = omega (arith, c.well_formed); few_kinds = omega (arith, c.well_formed); few_operands = omega (arith, c.well_formed) } in
    let left = first.again (fit_going (gen_functions g fs) c.args.counter counted
    c.args.lines.now c.args.operands.now (omega (arith, c.well_formed)) _ c.in_ok-many.ensures) in
    let second = c.gen_functions.ensures g fs here left.0 left.1 in
    fit_written (gen_functions g fs) c.args.counter counted
    c.args.lines.now c.args.operands.now (omega (arith, c.well_formed)) _ c.in_ok-many.ensures
    (record { puts = second.puts; small = omega (arith, c.well_formed); few_kinds = omega (arith, c.well_formed); few_operands = omega (arith, c.well_formed) })
