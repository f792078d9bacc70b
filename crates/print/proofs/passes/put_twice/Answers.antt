-- `put_twice` meets its contract: the second pass writes what the first has counted.
use mathlib.Core.Path.{sym, ◌∙◌}
use Rattle.std.proofs.lemmas.Result.{err_from_is_err_and}
use Rattle.print_words.specs.Words.{Tables}
use Rattle.print.specs.Passes.{passes_count, passes_done, passes_refused, passes_unheaded}
use Rattle.print.proofs.passes.put_twice.Goals as goal

pub returns-then-not-headed : goal.returns-then-not-headed
returns-then-not-headed c = passes_unheaded _ _ _ _ (sym c.headed.ensures ∙ c.if-not-headed.true)

pub weigh_segments-requires : goal.weigh_segments-requires
weigh_segments-requires c =
    record {
      places_value = c.word_places-places.ensures;
      starts = c.requires.starts;
      named = c.requires.named;
      indexed = c.requires.indexed;
      line_kinds_len = c.requires.line_kinds_len;
    }

pub write_segments-requires : goal.write_segments-requires
write_segments-requires c =
    let n = passes_count c.weigh_segments.ensures _ c.in_ok-n.was in
    let tables : Tables c.word_letters-letters.result c.word_places-places.result =
    record { letters_are = c.word_letters-letters.ensures; places_are = c.word_places-places.ensures } in
    record {
      tables = tables;
      starts = c.requires.starts;
      named = c.requires.named;
      indexed = c.requires.indexed;
      line_kinds_len = c.requires.line_kinds_len;
      operands_value = n.0;
      end_value = n.1.0;
      end_in_bounds = n.1.1;
    }

pub returns-in_err-n : goal.returns-in_err-n
returns-in_err-n c =
    let stands = sym c.headed.ensures ∙ c.if-not-headed.false in
    let same = err_from_is_err_and c.from_residual.result c.from_residual.ensures.1 in
    rw (stands, same.1, same.2) (passes_refused _ c.weigh_segments.ensures _ c.in_err-n.was)

pub returns : goal.returns
returns c =
    let stands = sym c.headed.ensures ∙ c.if-not-headed.false in
    rw stands (passes_done _ c.weigh_segments.ensures _ _ c.in_ok-n.was c.write_segments.ensures)
