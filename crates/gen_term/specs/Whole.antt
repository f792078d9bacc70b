-- A terminator by its kind: 90 to 93 "as in ast.rs".
use Rattle.std.specs.Prelude.{◌≡◌, ℕ, List, drop, ◌≢◌, slice_index, slice_index_or}
use Rattle.std.proofs.Math.Path.{refl}
use Rattle.std.proofs.Math.Option.{Option}
use Rattle.std.proofs.Common.{arith}
use Rattle.book.specs.Ast.{Ty, Value, TypedVal, Case, Terminator}
use Rattle.book.specs.Entry.{entries}
use Rattle.book.specs.Kinds.{TermTag}
use Rattle.book.specs.Fields.{term_fields}
use Rattle.assembly.specs.Line.{Line}
use Rattle.assembly.specs.Number.{kind_of, operand_of}
use Rattle.lowering.specs.Context.{FnCtx}
use Rattle.lowering.specs.Term.{gen_ret, gen_br, gen_switch, gen_term}
use Rattle.gen_lines.specs.declared.Reached.{Reached}
use Rattle.gen_lines.specs.Puts.{Puts, Lined, same_puts}
use Rattle.gen_values.specs.Maps.{Maps}
use Rattle.gen_values.specs.Push.{bare_puts}
use Rattle.gen_values.specs.Fields.{Fields}
use Rattle.gen_term.specs.Terms.{TermAt, term_fields_lem}
use Rattle.gen_term.specs.Returns.{RetAsk}
use Rattle.gen_term.specs.Branches.{BrAsk}
use Rattle.gen_term.specs.Switches.{SwitchAsk}

-- what `gen_term` is lent
pub record TermAsk (m : ℕ) (ks ws bks bws work : List ℕ) : Type 0 where
  pub ctx : FnCtx
  pub maps : Maps m (entries bks bws) ctx work
  pub term : Terminator
  pub front : TermAt m term (entries ks ws)

-- the terminator of a kind, with its fields
pub record IsRet (m : ℕ) (ks ws : List ℕ) (t : Terminator) : Type 0 where
  pub val : Option TypedVal
  pub is : t ≡ Terminator.ret val
  pub fields : Fields m (term_fields TermTag.ret) (val, tt) (drop 1 (entries ks ws))

pub record IsBr (m : ℕ) (ks ws : List ℕ) (t : Terminator) : Type 0 where
  pub cond : Option Value
  pub if_true : ℕ
  pub if_false : Option ℕ
  pub is : t ≡ Terminator.br cond if_true if_false
  pub fields : Fields m (term_fields TermTag.br) (cond, (if_true, (if_false, tt))) (drop 1 (entries ks ws))

pub record IsSwitch (m : ℕ) (ks ws : List ℕ) (t : Terminator) : Type 0 where
  pub ty : Ty
  pub val : Value
  pub default : ℕ
  pub cases : List Case
  pub is : t ≡ Terminator.switch ty val default cases
  pub fields : Fields m (term_fields TermTag.switch) (ty, (val, (default, (cases, tt)))) (drop 1 (entries ks ws))

module _ {m : ℕ} (ks ws : List ℕ) where
  pub is_ret : (t : Terminator) → TermAt m t (entries ks ws) → slice_index ks 0 ≡ 90 → IsRet m ks ws t
  is_ret (Terminator.ret v) f e = record { val = v; is = refl; fields = (term_fields_lem m _ ks ws f).2 }
  is_ret (Terminator.br c x y) f e = absurd (omega (arith, (term_fields_lem m _ ks ws f).0))
  is_ret (Terminator.switch ty v d cs) f e = absurd (omega (arith, (term_fields_lem m _ ks ws f).0))
  is_ret Terminator.unreachable f e = absurd (omega (arith, (term_fields_lem m _ ks ws f).0))

  pub is_br : (t : Terminator) → TermAt m t (entries ks ws) → slice_index ks 0 ≡ 91 → IsBr m ks ws t
  is_br (Terminator.ret v) f e = absurd (omega (arith, (term_fields_lem m _ ks ws f).0))
  is_br (Terminator.br c x y) f e = record { cond = c; if_true = x; if_false = y; is = refl; fields = (term_fields_lem m _ ks ws f).2 }
  is_br (Terminator.switch ty v d cs) f e = absurd (omega (arith, (term_fields_lem m _ ks ws f).0))
  is_br Terminator.unreachable f e = absurd (omega (arith, (term_fields_lem m _ ks ws f).0))

  pub is_switch : (t : Terminator) → TermAt m t (entries ks ws) → slice_index ks 0 ≡ 92 → IsSwitch m ks ws t
  is_switch (Terminator.ret v) f e = absurd (omega (arith, (term_fields_lem m _ ks ws f).0))
  is_switch (Terminator.br c x y) f e = absurd (omega (arith, (term_fields_lem m _ ks ws f).0))
  is_switch (Terminator.switch ty v d cs) f e = record { ty = ty; val = v; default = d; cases = cs; is = refl; fields = (term_fields_lem m _ ks ws f).2 }
  is_switch Terminator.unreachable f e = absurd (omega (arith, (term_fields_lem m _ ks ws f).0))

  pub is_unreachable : (t : Terminator) → TermAt m t (entries ks ws) → (slice_index ks 0 ≢ 90) → (slice_index ks 0 ≢ 91) → (slice_index ks 0 ≢ 92) → t ≡ Terminator.unreachable
  is_unreachable (Terminator.ret v) f x y z = absurd (x (term_fields_lem m _ ks ws f).0)
  is_unreachable (Terminator.br c a b) f x y z = absurd (y (term_fields_lem m _ ks ws f).0)
  is_unreachable (Terminator.switch ty v d cs) f x y z = absurd (z (term_fields_lem m _ ks ws f).0)
  is_unreachable Terminator.unreachable f x y z = refl

-- what each is lent
module _ {m : ℕ} {ks ws bks bws work : List ℕ} (a : TermAsk m ks ws bks bws work) where
  pub lends_ret : slice_index_or ks 0 0 ≡ 90 → RetAsk m ks ws work
  lends_ret e = let q = is_ret ks ws a.term a.front e in record { val = q.val; fields = q.fields; room = a.maps.room }

  pub lends_br : slice_index_or ks 0 0 ≡ 91 → BrAsk m ks ws bks bws work
  lends_br e =
      let q = is_br ks ws a.term a.front e in
      record { ctx = a.ctx; maps = a.maps; cond = q.cond; if_true = q.if_true; if_false = q.if_false; fields = q.fields }

  pub lends_switch : slice_index_or ks 0 0 ≡ 92 → SwitchAsk m ks ws bks bws work
  lends_switch e =
      let q = is_switch ks ws a.term a.front e in
      record { ctx = a.ctx; maps = a.maps; ty = q.ty; val = q.val; default = q.default; cases = q.cases; fields = q.fields }

-- what each puts
module _ (c : FnCtx) (pred : ℕ) (t : Terminator) {s u : Reached} {ls os ls' os' : List ℕ} where
  pub term_ret : {val : Option TypedVal} → t ≡ Terminator.ret val → Puts (gen_ret c val) s u ls os ls' os' → Puts (gen_term c pred t) s u ls os ls' os'
  unfolding gen_term
  term_ret e p = same_puts (λ n. rw e) p

  pub term_br : {cond : Option Value} {x : ℕ} {y : Option ℕ} → t ≡ Terminator.br cond x y → Puts (gen_br c pred cond x y) s u ls os ls' os' → Puts (gen_term c pred t) s u ls os ls' os'
  unfolding gen_term
  term_br e p = same_puts (λ n. rw e) p

  pub term_switch : {ty : Ty} {val : Value} {default : ℕ} {cs : List Case} → t ≡ Terminator.switch ty val default cs → Puts (gen_switch c pred ty val default cs) s u ls os ls' os'
      → Puts (gen_term c pred t) s u ls os ls' os'
  unfolding gen_term
  term_switch e p = same_puts (λ n. rw e) p

  pub term_unreachable : t ≡ Terminator.unreachable → Lined 90 0 s u ls os ls' os' → Puts (gen_term c pred t) s u ls os ls' os'
  unfolding gen_term kind_of operand_of
  term_unreachable e h = same_puts (λ n. rw e) (bare_puts Line.panic refl refl h)
