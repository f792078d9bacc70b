-- `ret` and `emit_frame_leave`, line by line.
use Rattle.std.specs.Prelude.{◌≡◌, ℕ, ◌+◌, ◌^◌, ◌<◌, ◌≤◌, Bool, true, false, List, length, drop}
use Rattle.std.proofs.Math.Path.{refl, sym, ap}
use Rattle.std.proofs.Common.{◌∙◌, arith}
use Rattle.std.proofs.Math.Option.{Option, none, some}
use Rattle.book.specs.Ast.{TypedVal}
use Rattle.book.specs.Entry.{entries}
use Rattle.book.specs.Kinds.{TermTag}
use Rattle.book.specs.Fields.{term_fields}
use Rattle.book.specs.Work.{name_words}
use Rattle.assembly.specs.Line.{Line}
use Rattle.assembly.specs.Number.{kind_of, operand_of}
use Rattle.lowering.specs.Gen.{line}
use Rattle.lowering.specs.Context.{FnCtx}
use Rattle.lowering.specs.Operand.{push_typed}
use Rattle.lowering.specs.Term.{emit_frame_leave, ret_value, gen_ret}
use Rattle.gen_lines.specs.declared.Reached.{Reached}
use Rattle.gen_lines.specs.Puts.{Puts, Lined, skip_puts, same_puts, then_puts}
use Rattle.gen_lines.specs.Follow.{when_puts}
use Rattle.gen_values.specs.Push.{push_puts, get_local_puts, bare_puts}
use Rattle.gen_values.specs.Fields.{Fields}

-- what `gen_ret` is lent
pub record RetAsk (m : ℕ) (ks ws work : List ℕ) : Type 0 where
  pub val : Option TypedVal
  pub fields : Fields m (term_fields TermTag.ret) (val, tt) (drop 1 (entries ks ws))
  pub room : name_words m + 64 ≤ length work

wrong : {A : Type 0} {b : Bool} → b ≡ true → b ≡ false → A
wrong {A} {b} p q = absurd (let z : true ≡ false = sym p ∙ q in let y : ◌≡◌ {A = ℕ} 0 1 = cc in omega arith)

module _ (c : FnCtx) where
  -- the frame's base goes back into the stack pointer
  pub leave_puts : {held slot : ℕ} {framed : Bool} → c.bp_slot ≡ held → c.has_frame ≡ framed → framed ≡ true → slot ≡ held → held < 2 ^ 64 → {s t u : Reached} {ks os ks' os' ks'' os'' : List ℕ}
      → Lined 10 slot s t ks os ks' os' → Lined 92 0 t u ks' os' ks'' os'' → Puts (emit_frame_leave c) s u ks os ks'' os''
  unfolding emit_frame_leave kind_of operand_of
  leave_puts {held} {slot} b f e i l h k =
      when_puts c.has_frame
      (λ z. then_puts (same_puts (λ n. ap (λ x. line (Line.get_local x) n) (i ∙ sym b)) (get_local_puts slot (rw i l) h)) (bare_puts Line.thread_set refl refl k))
      (λ z. wrong (f ∙ e) z)

  pub stay_puts : {framed : Bool} → c.has_frame ≡ framed → framed ≡ false → (s : Reached) (ks os : List ℕ) → Puts (emit_frame_leave c) s s ks os ks os
  unfolding emit_frame_leave
  stay_puts f e s ks os = when_puts c.has_frame (λ z. wrong z (f ∙ e)) (λ z. skip_puts s ks os)

  module _ {val : Option TypedVal} {s t : Reached} {ks os ks' os' : List ℕ} where
    pub void_puts : val ≡ none → Lined 8 0 s t ks os ks' os' → Puts (ret_value c val) s t ks os ks' os'
    unfolding ret_value
    void_puts e h = same_puts (λ n. rw e) (push_puts 0 (omega arith) h)

    pub value_puts : (tv : TypedVal) → val ≡ some tv → Puts (push_typed c tv.ty tv.val) s t ks os ks' os' → Puts (ret_value c val) s t ks os ks' os'
    unfolding ret_value
    value_puts tv e p = same_puts (λ n. rw e) p

  pub ret_puts : (val : Option TypedVal) {s t u v : Reached} {ks os ks' os' ks'' os'' ks''' os''' : List ℕ} → Puts (ret_value c val) s t ks os ks' os'
      → Puts (emit_frame_leave c) t u ks' os' ks'' os'' → Lined 89 0 u v ks'' os'' ks''' os''' → Puts (gen_ret c val) s v ks os ks''' os'''
  unfolding gen_ret kind_of operand_of
  ret_puts val p q h = then_puts p (then_puts q (bare_puts Line.ret refl refl h))
