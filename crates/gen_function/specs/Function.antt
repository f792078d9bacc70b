-- A function's lines: those around its blocks, and the blocks'.
use Rattle.std.specs.Prelude.{ℕ, ◌+◌, ◌<◌, ◌≤◌, ◌%◌, ◌^◌, ◌≡◌, Bool, true, false, cond, List, ◌++◌, length, drop, get_or, leb, ltb}
use Rattle.std.proofs.Math.Path.{refl, subst}
use Rattle.std.proofs.Common.{sym, ap, ◌∙◌, arith, ltb-true, ltb-false, lt-ltb, le-ltb, le-leb}
use Rattle.std.proofs.lemmas.Bool.{lt-leb}
use Rattle.book.specs.Ast.{BinOp, Function}
use Rattle.book.specs.Entry.{Entry, entries}
use Rattle.book.specs.Encode.{enc_function}
use Rattle.assembly.specs.Line.{Line, Work}
use Rattle.assembly.specs.Number.{kind_of, operand_of, operation, bin_number}
use Rattle.lowering.specs.Gen.{line, refuse, skip, when, each}
use Rattle.lowering.specs.Context.{FnCtx}
use Rattle.lowering.specs.Operand.{add64}
use Rattle.lowering.specs.Function.{prologue, gen_block, gen_lines}
use Rattle.gen_lines.specs.declared.Reached.{Reached}
use Rattle.gen_lines.specs.Puts.{Puts, Lined, or_else, made_refused, line_puts, skip_puts, refuse_puts, then_puts}
use Rattle.gen_lines.specs.Follow.{when_puts}
use Rattle.gen_values.specs.Fields.{entry_at}
use Rattle.gen_values.specs.Push.{word_same}
use Rattle.gen_values.specs.Maps.{Maps, Did}
use Rattle.gen_prepare.specs.declared.Prepared.{Prepared}
use Rattle.gen_function.specs.Blocks.{Listed}

-- the function's entry and its blocks stand at their places
pub record FunctionHere (m : ℕ) (bk bw : List ℕ) (h : Prepared) (f : Function) : Type 0 where
  pub rest : List Entry
  pub here : drop h.at (entries bk bw) ≡ enc_function f ++ rest
  pub blocks : Listed m bk bw h.blocks h.end f.blocks
  pub order : h.blocks ≤ h.end
  pub in_kinds : h.end ≤ length bk

-- the head has the context's frame
pub record Framed (c : FnCtx) (h : Prepared) : Type 0 where
  pub slots : c.bp_slot ≡ h.slots
  pub size : c.frame_size ≡ h.size
  pub framed : c.has_frame ≡ h.framed

pub record FunctionAsk (m : ℕ) (bk bw : List ℕ) (h : Prepared) (work : List ℕ) : Type 0 where
  pub ctx : FnCtx
  pub maps : Maps m (entries bk bw) ctx work
  pub framed : Framed ctx h
  pub fn : Function
  pub here : FunctionHere m bk bw h fn
  pub few : h.slots ≤ 2097152

-- the slots with the base's
unfoldable pub slots_of : Prepared → ℕ
slots_of h = h.slots + cond h.framed 1 0

module _ {m : ℕ} (bk bw : List ℕ) (h : Prepared) {f : Function} (p : FunctionHere m bk bw h f) where
  pub name_in : h.at < length bw
  unfolding enc_function
  name_in = (entry_at bk bw h.at _ _ p.here).3

  pub name_is : get_or bw h.at 0 ≡ f.name
  unfolding enc_function
  name_is = (entry_at bk bw h.at _ _ p.here).1

-- ---- the lines
module _ {s t : Reached} {k x : ℕ} {ks os ks' os' : List ℕ} where
  -- a line whose operand is a word
  word_line : (l : Line) → k ≡ kind_of l → x ≡ operand_of l → x < 2 ^ 64 → Lined k x s t ks os ks' os' → Puts (line l) s t ks os ks' os'
  word_line l e i few h = line_puts l e (subst (λ (n : ℕ). x ≡ n % 2 ^ 64) i (word_same few)) h

-- some slots, or none
module _ {s t : Reached} {x : ℕ} {ks os ks' os' : List ℕ} where
  pub some_slots : 0 < x → x < 2 ^ 64 → Lined 7 x s t ks os ks' os' → Puts (when (ltb 0 x) (line (Line.push0n x))) s t ks os ks' os'
  unfolding kind_of operand_of when
  some_slots l few h = rw (lt-ltb 0 x l) (word_line (Line.push0n x) refl refl few h)

pub no_slots_lem : (s : Reached) (ks os : List ℕ) {x : ℕ} → x ≤ 0 → Puts (when (ltb 0 x) (line (Line.push0n x))) s s ks os ks os
unfolding when
no_slots_lem s ks os {x} l = rw (le-ltb 0 x l) (skip_puts s ks os)

-- more than 65,535 slots are refused
pub slots_limit : (total : ℕ) {s t : Reached} {b : Bool} (ks os : List ℕ) → b ≡ leb total 65535 → t ≡ or_else b s (made_refused s 8)
    → Puts (when (ltb 65535 total) (refuse 8)) s t ks os ks os
slots_limit total {s} {t} {b} ks os e h =
    when_puts (ltb 65535 total)
    (λ i. refuse_puts 8 (omega arith) s ks os (h ∙ ap (λ (x : Bool). or_else x s (made_refused s 8)) (e ∙ lt-leb total 65535 (ltb-true 65535 total i))))
    (λ i.
    let q : t ≡ s = h ∙ ap (λ (x : Bool). or_else x s (made_refused s 8)) (e ∙ le-leb total 65535 (ltb-false 65535 total i)) in
    subst (λ (x : Reached). Puts skip s x ks os ks os) (sym q) (skip_puts s ks os))

module _ (c : FnCtx) {slot size : ℕ} {s t u v w x y : Reached} {k₀ o₀ k₁ o₁ k₂ o₂ k₃ o₃ k₄ o₄ k₅ o₅ k₆ o₆ : List ℕ} where
  pub prologue_lines : c.bp_slot ≡ slot → c.frame_size ≡ size → slot < 2 ^ 64 → size < 2 ^ 64 → Lined 91 0 s t k₀ o₀ k₁ o₁ → Lined 87 0 t u k₁ o₁ k₂ o₂
      → Lined 11 slot u v k₂ o₂ k₃ o₃ → Lined 8 size v w k₃ o₃ k₄ o₄ → Lined 44 0 w x k₄ o₄ k₅ o₅ → Lined 92 0 x y k₅ o₅ k₆ o₆ → Puts (prologue c) s y k₀ o₀ k₆ o₆
  unfolding prologue add64 kind_of operand_of operation bin_number
  prologue_lines e i few small l₁ l₂ l₃ l₄ l₅ l₆ =
      then_puts (line_puts Line.thread_get refl refl l₁)
      (then_puts (line_puts Line.dup refl refl l₂)
      (then_puts (word_line (Line.set_local c.bp_slot) refl (sym e) few l₃)
      (then_puts (word_line (Line.push c.frame_size) refl (sym i) small l₄) (then_puts (line_puts (Line.bin BinOp.add Work.w64) refl refl l₅) (line_puts Line.thread_set refl refl l₆)))))

-- the frame where there is one
module _ (c : FnCtx) {h : Prepared} (f : Framed c h) {s t : Reached} {ks os ks' os' : List ℕ} where
  pub frame_entered : h.framed ≡ true → Puts (prologue c) s t ks os ks' os' → Puts (when c.has_frame (prologue c)) s t ks os ks' os'
  unfolding when
  frame_entered e p = subst (λ (b : Bool). Puts (when b (prologue c)) s t ks os ks' os') (sym (f.framed ∙ e)) p

pub no_frame_lem : (c : FnCtx) {h : Prepared} → Framed c h → (s : Reached) (ks os : List ℕ) → h.framed ≡ false → Puts (when c.has_frame (prologue c)) s s ks os ks os
unfolding when
no_frame_lem c f s ks os e = subst (λ (b : Bool). Puts (when b (prologue c)) s s ks os ks os) (sym (f.framed ∙ e)) (skip_puts s ks os)

module _ (c : FnCtx) (f : Function) {total slots : ℕ} {m : ℕ} {bs : List Entry} {work : List ℕ} {s t u v w x y z : Reached} {k₀ o₀ k₁ o₁ k₂ o₂ k₃ o₃ k₄ o₄ k₅ o₅ k₆ o₆ : List ℕ} where
  pub function_lines : {name : ℕ} → name ≡ f.name → name < 2 ^ 64 → total ≡ slots → Lined 0 name s t k₀ o₀ k₁ o₁ → Lined 1 name t u k₁ o₁ k₂ o₂
      → Puts (when (ltb 65535 total) (refuse 8)) u v k₂ o₂ k₂ o₂
      → Puts (when (ltb 0 total) (line (Line.push0n total))) v w k₂ o₂ k₃ o₃ → Puts (when c.has_frame (prologue c)) w x k₃ o₃ k₄ o₄ → Did (each (gen_block c) f.blocks) m bs c work x y k₄ o₄ k₅ o₅
      → Lined 93 0 y z k₅ o₅ k₆ o₆ → Did (gen_lines c f slots) m bs c work s z k₀ o₀ k₆ o₆
  unfolding gen_lines kind_of operand_of
  function_lines e few same l₁ l₂ p q r d l₃ =
      record {
        puts = subst (λ (n : ℕ). Puts (gen_lines c f n) s z k₀ o₀ k₆ o₆) same (then_puts (word_line (Line.comment f.name) refl e few l₁)
            (then_puts (word_line (Line.fn_label f.name) refl e few l₂)
            (then_puts p (then_puts q (then_puts r (then_puts d.puts (line_puts Line.blank refl refl l₃)))))));
        maps = d.maps;
      }
