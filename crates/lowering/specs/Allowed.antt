-- The lines of operands are allowed, where slots lie below 65,535 and names within the book.
use Rattle.std.specs.Prelude.{ℕ, ◌≤◌, ◌<◌, Bool, cond, List, length, eqb}
use Rattle.std.proofs.Math.Path.{◌≡◌, refl}
use Rattle.std.proofs.Common.{ap, arith}
use Rattle.std.proofs.Math.Bool.{true, false}
use Rattle.std.proofs.Math.Option.{Option, none, some}
use borrow.Author.Tests.{le-leb, lt-ltb}
use Rattle.book.specs.Ast.{Ty, Value, BasicBlock, Book}
use Rattle.book.specs.Rule.{pick}
use Rattle.book.specs.Result.{ok, ok_or, err_no_ok}
use Rattle.book.specs.Limits.{ValueLimits, BlockLimits}
use Rattle.assembly.specs.Line.{Line, Work}
use Rattle.assembly.specs.Number.{is_name, allowed}
use Rattle.assembly.specs.Lists.{AllAllowed}
use Rattle.lowering.specs.Gen.{Gen, line}
use Rattle.lowering.specs.Context.{FnCtx, named, slot_of}
use Rattle.lowering.specs.Operand.{trunc_lines, emit_trunc_to, sext_bit, sx32_to, sx_line, sext_more, emit_sext, push_int, local_line, add64, mul64, push_value, push_typed, store_dest, store_or_pop, work_of}
use Rattle.lowering.specs.Allows.{Allows, lines_allows, line_allows, bind_allows, any_allows, then_allows, when_allows, choose_allows, plain}
use Rattle.book.specs.Map.{lookup}

-- how many names a context has
abbrev pub count : FnCtx → ℕ
count c = length c.codegen.names

-- slots leave room for a second one; the frame's base has the last at most; blocks are the book's
pub record Within (c : FnCtx) : Type 0 where
  pub slots : (x s : ℕ) → lookup x c.slots ≡ some s → s < 65535
  pub base : c.bp_slot ≤ 65535
  pub blocks : (x : ℕ) (bb : BasicBlock) → lookup x c.blocks ≡ some bb → BlockLimits (count c) bb

-- what there is, is what was asked for
pub ok_some : {A : Type 0} (e : ℕ) (o : Option A) (a : A) → ok_or e o ≡ ok a → o ≡ some a
unfolding ok_or
ok_some e none a h = err_no_ok e a h
ok_some e (some x) a h = let q : x ≡ a = cc in ap some q

module _ (names : List (List ℕ)) (b : Book) where
  all_cond : (t : Bool) (ls ms : List Line) → AllAllowed names b ls → AllAllowed names b ms → AllAllowed names b (cond t ls ms)
  all_cond true ls ms p q = p
  all_cond false ls ms p q = q

  trunc_lines_lem : (w : ℕ) → AllAllowed names b (trunc_lines w)
  unfolding trunc_lines allowed
  trunc_lines_lem w =
      all_cond (eqb w 1) _ _ (AllAllowed.one refl (AllAllowed.one refl AllAllowed.none))
      (all_cond (eqb w 8) _ _ (AllAllowed.one refl AllAllowed.none)
      (all_cond (eqb w 16) _ _ (AllAllowed.one refl AllAllowed.none)
      (all_cond (eqb w 32) _ _ (AllAllowed.one refl AllAllowed.none) AllAllowed.none)))

  pub trunc_allows : (w : ℕ) → Allows names b (emit_trunc_to w)
  unfolding emit_trunc_to
  trunc_allows w = lines_allows names b (trunc_lines w) (trunc_lines_lem w)

  sext_bit_allows : (to : ℕ) → Allows names b (sext_bit to)
  unfolding sext_bit
  sext_bit_allows to = search plain

  sx32_allowed : (w : Work) (l : Line) → sx32_to w ≡ some l → allowed names b l ≡ true
  unfolding sx32_to allowed
  sx32_allowed Work.w32 l h = absurd (let z : ◌≡◌ {A = ℕ} 0 1 = cc in omega arith)
  sx32_allowed Work.w64 l h = let q : Line.sx32 ≡ l = cc in rw (← q)

  sx_allowed : (from : ℕ) (w : Work) (l : Line) → sx_line from w ≡ some l → allowed names b l ≡ true
  unfolding sx_line allowed
  sx_allowed from w l h = go (eqb from 8) (eqb from 16) (eqb from 32) h
    where
      go : (x y z : Bool) → pick x (some (Line.sx8 w)) (pick y (some (Line.sx16 w)) (pick z (sx32_to w) none)) ≡ some l → allowed names b l ≡ true
      go true y z h = let q : Line.sx8 w ≡ l = cc in rw (← q)
      go false true z h = let q : Line.sx16 w ≡ l = cc in rw (← q)
      go false false true h = sx32_allowed w l h
      go false false false h = absurd (let z : ◌≡◌ {A = ℕ} 0 1 = cc in omega arith)

  sext_more_allows : (from to : ℕ) → Allows names b (sext_more from to)
  unfolding sext_more
  sext_more_allows from to =
      bind_allows names b _ _ (λ l h.
      then_allows names b _ _ (line_allows names b l (sx_allowed from (work_of to) l (ok_some 13 _ l h))) (when_allows names b _ _ (trunc_allows to)))

  pub sext_allows : (from to : ℕ) → Allows names b (emit_sext from to)
  unfolding emit_sext
  sext_allows from to = choose_allows names b _ _ _ (λ h. sext_bit_allows to) (sext_more_allows from to)

  pub int_allows : (v w : ℕ) → Allows names b (push_int v w)
  unfolding push_int
  int_allows v w = search plain

  pub add_allows : Allows names b add64
  unfolding add64
  add_allows = search plain

  pub mul_allows : Allows names b mul64
  unfolding mul64
  mul_allows = search plain

module _ (b : Book) (c : FnCtx) (w : Within c) where
  abbrev pub Fine : Gen → Type 0
  Fine g = Allows c.codegen.names b g

  abbrev pub ns : List (List ℕ)
  ns = c.codegen.names

  -- ---- lines over slots and names
  pub get_slot : (s : ℕ) → s ≤ 65535 → Fine (line (Line.get_local s))
  unfolding allowed
  get_slot s h = line_allows ns b _ (le-leb s 65535 h)

  pub set_slot : (s : ℕ) → s ≤ 65535 → Fine (line (Line.set_local s))
  unfolding allowed
  set_slot s h = line_allows ns b _ (le-leb s 65535 h)

  pub base_line : Fine (line (Line.get_local c.bp_slot))
  base_line = get_slot c.bp_slot w.base

  pub set_base : Fine (line (Line.set_local c.bp_slot))
  set_base = set_slot c.bp_slot w.base

  pub is_name_lem : (x : ℕ) → x < count c → is_name ns b x ≡ true
  unfolding is_name
  is_name_lem x h = lt-ltb x (count c) h

  -- ---- operands
  local_allowed : (arg slot : Option ℕ) (l : Line) → ((s : ℕ) → slot ≡ some s → s < 65535) → local_line arg slot ≡ ok l → allowed ns b l ≡ true
  unfolding local_line allowed
  local_allowed (some i) slot l k h = let q : Line.get_arg i ≡ l = cc in rw (← q)
  local_allowed none (some s) l k h =
      let q : Line.get_local s ≡ l = cc in
      let p = k s refl in
      rw (← q) (le-leb s 65535 (omega arith))
  local_allowed none none l k h = err_no_ok 10 l h

  pub push_allows : (v : Value) (wd : ℕ) → ValueLimits (count c) v → Fine (push_value c v wd)
  unfolding push_value allowed
  push_allows (Value.local x) wd k =
      bind_allows ns b _ _ (λ l h. line_allows ns b l (local_allowed (lookup x c.params) (lookup x c.slots) l (λ s e. w.slots x s e) h))
  push_allows (Value.int v) wd k = int_allows ns b v wd
  push_allows (Value.zero z) wd k = search plain
  push_allows (Value.global x) wd k = line_allows ns b _ (is_name_lem x k)
  push_allows Value.other wd k = search plain

  pub typed_allows : (ty : Ty) (v : Value) → ValueLimits (count c) v → Fine (push_typed c ty v)
  unfolding push_typed
  typed_allows ty v k = any_allows ns b _ _ (λ wd. push_allows v wd k)

  -- a result's slot
  named_below : (d : Option ℕ) (s : ℕ) → named d c.slots ≡ some s → s < 65535
  unfolding named
  named_below none s h = absurd (let z : ◌≡◌ {A = ℕ} 0 1 = cc in omega arith)
  named_below (some x) s h = w.slots x s h

  pub slot_below : (d : Option ℕ) (s : ℕ) → slot_of c d ≡ ok s → s < 65535
  unfolding slot_of
  slot_below d s h = named_below d s (ok_some 5 _ s h)

  pub dest_allows : (d : Option ℕ) → Fine (store_dest c d)
  unfolding store_dest
  dest_allows d = bind_allows ns b _ _ (λ s h. let p = slot_below d s h in set_slot s (omega arith))

  pub pop_allows : (d : Option ℕ) → Fine (store_or_pop c d)
  unfolding store_or_pop
  pop_allows none = search plain
  pop_allows (some x) = dest_allows (some x)
