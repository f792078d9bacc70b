use native.Mathlib.Omega.{arith}
use Rattle.std.proofs.lemmas.Result.{err_from_is_err_and}
use Rattle.layout_memo.specs.Work.{after_none}
use Rattle.layout_table.specs.Known as laws
use Rattle.layout_table.proofs.+note_fields.Goals as goal

pub next_scalars-requires : goal.next_scalars-requires
next_scalars-requires t c = laws.pass_run c.requires.ask_pass

pub returns-in-Some : goal.returns-in-Some
returns-in-Some t c =
    record { best = c.in-Some.ensures; after = after_none c.requires.ask_pass.ready }

pub returns-then-level-eq0 : goal.returns-then-level-eq0
returns-then-level-eq0 t c =
    laws.pass_one c.requires.ask_pass _ c.next_field.ensures.best c.next_field.ensures.after _ c.ok_or.ensures.value

pub returns-in_err-half : goal.returns-in_err-half
returns-in_err-half t c =
    let p = err_from_is_err_and c.from_residual.result c.from_residual.ensures.1 in
    rw (p.1, p.2) c.in_err-half.ensures

pub note_behind-requires : goal.note_behind-requires
note_behind-requires t c =
    record {
      ask_note = laws.pass_note c.requires.ask_pass c.in_ok-half.ensures;
      start_bound = (laws.pass_place c.requires.ask_pass, c.requires.size_bound);
    }

pub note_fields-requires-2 : goal.note_fields-requires-2
note_fields-requires-2 t c = (
  omega (arith, c.if-level-eq0.false),
  (laws.pass_again c.requires.ask_pass c.in_ok-half.ensures c.note_behind.ensures, c.requires.size_bound),
)

pub returns : goal.returns
returns t c =
    laws.pass_on c.requires.ask_pass _ c.in_ok-half.ensures c.note_behind.ensures _ c.note_fields-2.ensures
