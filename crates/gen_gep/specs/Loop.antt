-- The loop over the indices, and what it leaves for the lines.
use Rattle.std.specs.Prelude.{ℕ, ◌+◌, ◌<◌, ◌≤◌, ◌≡◌, refl, true, drop, get_or}
use Rattle.std.proofs.Math.Path.{ap}
use Rattle.std.proofs.Common.{◌∙◌, arith}
use Rattle.std.proofs.Math.Bool.{false}
use mathlib.Core.List.{List, []}
use Rattle.std.proofs.Math.ListN.{length}
use Rattle.book.specs.Ast.{TypedVal}
use Rattle.book.specs.Entry.{entries}
use Rattle.book.specs.Fields.{Meanings}
use Rattle.book.specs.Result.{Result, bind}
use Rattle.book.specs.Check.{work_for}
use Rattle.layout.specs.Step.{Step as GepStep, const_int}
use Rattle.layout_memo.specs.Front.{Starts, ty_len}
use Rattle.layout_memo.specs.Work.{Ready, structs_in}
use Rattle.lowering.specs.Gep.{Walk as GepWalk, start, took, walk}
use Rattle.gen_lines.specs.declared.Reached.{Reached}
use Rattle.gen_lines.specs.Follow.{Asked, asked_ok}
use Rattle.gen_values.specs.Fields.{Fields, ValueAt, OperandAt, operand_at, type_in, type_starts, type_is}
use Rattle.gen_gep.specs.declared.Way.{Way}
use Rattle.gen_gep.specs.Indices.{index_list, index_then, gep_fields, index_in, More, list_more, list_done, list_in, value_behind, list_behind}
use Rattle.gen_gep.specs.Terms.{TermsAsk, Stays, stays_none, stays_then}
use Rattle.gen_gep.specs.Walks.{step_from, walk_from, walk_same, asked_then, WalkAt, Went, TakeAsk}

-- ---- the loop
-- the indices left, and how the whole walk goes on
pub record WalkLoop (m : ℕ) (bk bw work work' : List ℕ) (whole : Result GepWalk) (s : Reached) (index : ℕ) (w : Way) : Type 0 where
  pub left : List TypedVal
  pub list : Fields m index_list (left, tt) (drop index (entries bk bw))
  pub walk : GepWalk
  pub here : WalkAt m bk bw work' walk w
  pub front : Starts m (drop w.ty (entries bk bw))
  pub stays : Stays m (entries bk bw) work work'
  pub few : w.terms + length left ≤ 32
  pub goes : {u : Reached} {y : GepWalk} → Asked (walk_from (structs_in m (entries bk bw)) w.first left walk) w.s u y → Asked whole s u y

-- all indices are passed
pub record Walked (m : ℕ) (bk bw work work' : List ℕ) (whole : Result GepWalk) (s : Reached) (w : Way) : Type 0 where
  pub walk : GepWalk
  pub here : WalkAt m bk bw work' walk w
  pub asked : Asked whole s w.s walk
  pub stays : Stays m (entries bk bw) work work'
  pub few : w.terms ≤ 32

-- what is lent: base type, pointer and indices from a place on
pub record GepAsk (m : ℕ) (bk bw work : List ℕ) (at : ℕ) : Type 0 where
  pub holds : Meanings gep_fields
  pub fields : Fields m gep_fields holds (drop at (entries bk bw))
  pub ready : Ready m (entries bk bw) work
  pub room : work_for m ≤ length work

-- and the place of the indices
pub record WalkAsk (m : ℕ) (bk bw work : List ℕ) (at index : ℕ) : Type 0 where
  pub lent : GepAsk m bk bw work at
  pub list : Fields m index_list lent.holds.1.1 (drop index (entries bk bw))

module _ (m : ℕ) (bk bw work : List ℕ) (p : Meanings gep_fields) (at index : ℕ) (f : Fields m gep_fields p (drop at (entries bk bw))) (list : Fields m index_list p.1.1 (drop index (entries bk bw)))
    (ready : Ready m (entries bk bw) work) (s : Reached) where
  abbrev whole : Result GepWalk
  whole = walk (structs_in m (entries bk bw)) p.0 p.1.1.0

  pub loop_start : WalkLoop m bk bw work work whole s index (record { first = true; ty = at; sum = 0; terms = 0; s = s })
  unfolding start
  loop_start =
      record {
        left = p.1.1.0;
        list = list;
        walk = start p.0;
        here = record { type = type_is bk bw at f; sum = refl; count = refl; terms = tt };
        front = type_starts bk bw at f;
        stays = stays_none ready;
        few = omega (arith, list.keeps.0.0);
        goes = λ a. rw (walk_same (structs_in m (entries bk bw)) p.0 p.1.1.0) a;
      }

module _ {m : ℕ} {bk bw work work' : List ℕ} {whole : Result GepWalk} {s : Reached} {index : ℕ} {w : Way} (l : WalkLoop m bk bw work work' whole s index w) where
  pub loop_in : index < length bk
  loop_in = list_in m bk bw index l.left l.list

  pub loop_done : get_or bk index 0 ≡ 0 → Walked m bk bw work work' whole s w
  unfolding walk_from
  loop_done z =
      let e : l.left ≡ [] = list_done m bk bw index l.left l.list z in
      record { walk = l.walk; here = l.here; asked = l.goes (rw e (asked_ok w.s l.walk)); stays = l.stays; few = omega (arith, l.few) }

  module _ (z : get_or bk index 0 ≡ 0 → ⊥) where
    more : More m bk bw index l.left
    more = list_more m bk bw index l.left l.list z

    pub loop_take : work_for m ≤ length work → {v n : ℕ} → v ≡ index + n → n ≡ ty_len m (drop index (entries bk bw)) → TakeAsk m bk bw work' index v w
    loop_take room e en =
        record {
          holds = _;
          fields = more.fields;
          behind = e ∙ ap (λ n. index + n) en;
          front = l.front;
          ready = l.stays.ready;
          room = omega (arith, room, l.stays.long);
          few = omega (arith, l.few, ap length more.same);
        }

    pub loop_there : (index < length bk) × (index < length bw)
    loop_there = type_in bk bw index more.fields

    pub loop_value : {v n : ℕ} → v ≡ index + n → n ≡ ty_len m (drop index (entries bk bw)) → v < length bk
    loop_value e en = (value_behind bk bw index more.fields en e).in_kinds

    pub loop_more : {v n : ℕ} → v ≡ index + n → n ≡ ty_len m (drop index (entries bk bw)) → {work'' : List ℕ} {r : Way}
        → ((p : Meanings index_then) (k : GepWalk) → Fields m index_then p (drop index (entries bk bw)) → WalkAt m bk bw work' k w
        → Went m bk bw work' work'' (bind (step_from (structs_in m (entries bk bw)) w.first k.cur_ty (const_int (index_in p).val)) (λ (t : GepStep). took t (index_in p) k)) w r)
        → WalkLoop m bk bw work work'' whole s (v + 1) r
    unfolding walk_from
    loop_more e en {work''} {r} h =
        let q = h _ l.walk more.fields l.here in
        record {
          left = more.later;
          list = list_behind bk bw index more.fields en e;
          walk = q.walk;
          here = q.here;
          front = q.front;
          stays = stays_then l.stays q.stays;
          few = omega (arith, l.few, q.few, ap length more.same);
          goes = λ {u} {y} a. l.goes (rw more.same (asked_then (walk_from (structs_in m (entries bk bw)) false more.later) q.asked (rw q.later at a)));
        }

-- ---- behind the walk
module _ {m : ℕ} {bk bw work : List ℕ} {at : ℕ} (t : GepAsk m bk bw work at) {n pointer : ℕ} (en : n ≡ ty_len m (drop at (entries bk bw))) (e : pointer ≡ at + n) where
  pub pointer_at : {p : Meanings gep_fields} → Fields m gep_fields p (drop at (entries bk bw)) → ValueAt m bk bw pointer p.1.0
  pointer_at f = value_behind bk bw at f en e

  pub indices_at : {p : Meanings gep_fields} → Fields m gep_fields p (drop at (entries bk bw)) → Fields m index_list p.1.1 (drop (pointer + 1) (entries bk bw))
  indices_at f = list_behind bk bw at f en e

  pub walk_asked : WalkAsk m bk bw work at (pointer + 1)
  walk_asked = record { lent = t; list = indices_at t.fields }

  module _ {work' : List ℕ} {whole : Result GepWalk} {s : Reached} {w : Way} (l : Walked m bk bw work work' whole s w) where
    pub pointer_there : OperandAt bk bw pointer work'
    pointer_there = operand_at (pointer_at t.fields) (omega (arith, t.room, l.stays.long))

    pub terms_asked : TermsAsk m bk bw work' w.terms
    terms_asked = record { kept = l.walk.var_terms; count = l.here.count; few = l.few; terms = l.here.terms; room = omega (arith, t.room, l.stays.long) }
