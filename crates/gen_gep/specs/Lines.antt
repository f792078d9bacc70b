-- The lines of a getelementptr.
use Rattle.std.specs.Prelude.{ℕ, suc, ◌+◌, ◌<◌, ◌≤◌, ◌≡◌, not, List, [], ◌∷◌, ◌++◌, length, take, ltb, eqb}
use Rattle.std.proofs.Math.Path.{refl, subst}
use Rattle.std.proofs.Common.{sym, ap, ◌∙◌, arith, lt-ltb, le-ltb, eq-eqb, ne_eqb, take_all}
use Rattle.book.specs.Ast.{Value, BinOp}
use Rattle.book.specs.Entry.{entries}
use Rattle.book.specs.Fields.{Meanings}
use Rattle.assembly.specs.Line.{Line, Work}
use Rattle.assembly.specs.Number.{kind_of, operand_of, operation, bin_number}
use Rattle.lowering.specs.Gen.{Gen, ◌>>◌, when, each}
use Rattle.lowering.specs.Context.{FnCtx}
use Rattle.lowering.specs.Operand.{push_int, push_value, emit_sext, add64, mul64}
use Rattle.lowering.specs.Gep.{VarTerm, walk, gen_var_term, gen_gep}
use Rattle.layout_memo.specs.Work.{structs_in}
use Rattle.gen_lines.specs.declared.Reached.{Reached}
use Rattle.gen_lines.specs.Puts.{Puts, Lined, skip_puts, then_puts}
use Rattle.gen_lines.specs.Follow.{Asked, asked_puts, more_puts}
use Rattle.gen_values.specs.Maps.{Locals, Maps, Did}
use Rattle.gen_values.specs.Push.{bare_puts}
use Rattle.gen_gep.specs.declared.Way.{Way}
use Rattle.gen_gep.specs.Indices.{gep_fields}
use Rattle.gen_gep.specs.Terms.{TermAt, Terms, Ith, term_at, maps_stays}
use Rattle.gen_gep.specs.Loop.{Walked}

-- ---- single lines
module _ {s t : Reached} {ks os ks' os' : List ℕ} where
  add_puts : Lined 44 0 s t ks os ks' os' → Puts add64 s t ks os ks' os'
  unfolding add64 kind_of operand_of operation bin_number
  add_puts h = bare_puts (Line.bin BinOp.add Work.w64) refl refl h

  mul_puts : Lined 46 0 s t ks os ks' os' → Puts mul64 s t ks os ks' os'
  unfolding mul64 kind_of operand_of operation bin_number
  mul_puts h = bare_puts (Line.bin BinOp.mul Work.w64) refl refl h

-- ---- "Varying indices are signed"
module _ (w : ℕ) where
  pub widened : {s t : Reached} {ks os ks' os' : List ℕ} → w < 64 → Puts (emit_sext w 64) s t ks os ks' os' → Puts (when (ltb w 64) (emit_sext w 64)) s t ks os ks' os'
  unfolding when
  widened l p = rw (lt-ltb w 64 l) p

  pub wide_enough : (s : Reached) (ks os : List ℕ) → 64 ≤ w → Puts (when (ltb w 64) (emit_sext w 64)) s s ks os ks os
  unfolding when
  wide_enough s ks os l = rw (le-ltb w 64 l) (skip_puts s ks os)

-- a term
module _ (c : FnCtx) (t : VarTerm) {val : Value} {w size : ℕ} (ev : t.val ≡ val) (ew : t.width ≡ w) (es : t.stride ≡ size)
    {s₀ s₁ s₂ s₃ s₄ s₅ : Reached} {k₀ o₀ k₁ o₁ k₂ o₂ k₃ o₃ k₄ o₄ k₅ o₅ : List ℕ} where
  pub term_lines : Puts (push_value c val w) s₀ s₁ k₀ o₀ k₁ o₁ → Puts (when (ltb w 64) (emit_sext w 64)) s₁ s₂ k₁ o₁ k₂ o₂ → Puts (push_int size 64) s₂ s₃ k₂ o₂ k₃ o₃
      → Lined 46 0 s₃ s₄ k₃ o₃ k₄ o₄ → Lined 44 0 s₄ s₅ k₄ o₄ k₅ o₅ → Puts (gen_var_term c t) s₀ s₅ k₀ o₀ k₅ o₅
  unfolding gen_var_term
  term_lines p q r a b = rw (ev, ew, es) (then_puts p (then_puts q (then_puts r (then_puts (mul_puts a) (add_puts b)))))

-- ---- one term more
module _ (c : FnCtx) (m : ℕ) (bk bw work : List ℕ) {s t u : Reached} {ks os ks' os' ks'' os'' : List ℕ} where
  pub terms_on : (i : ℕ) (ts : List VarTerm) → i < length ts → Terms m bk bw work 0 ts → Puts (each (gen_var_term c) (take i ts)) s t ks os ks' os'
      → ((x : VarTerm) → TermAt m bk bw work i x → Puts (gen_var_term c x) t u ks' os' ks'' os'') → Puts (each (gen_var_term c) (take (i + 1) ts)) s u ks os ks'' os''
  terms_on i ts l k p q =
      let x : Ith m bk bw work 0 i ts = term_at m bk bw work 0 i ts l k in
      let n : i + 1 ≡ suc i = omega arith in
      let e : take (i + 1) ts ≡ take i ts ++ (x.term ∷ []) = ap (λ j. take j ts) n ∙ x.more in
      let z : 0 + i ≡ i = omega arith in
      let here : TermAt m bk bw work i x.term = subst (λ (j : ℕ). TermAt m bk bw work j x.term) z x.here in
      subst (λ (l : List VarTerm). Puts (each (gen_var_term c) l) s u ks os ks'' os'') (sym e) (more_puts (gen_var_term c) (take i ts) x.term p (q x.term here))

-- all of them
pub terms_all : (c : FnCtx) (i : ℕ) (ts : List VarTerm) {s t : Reached} {ks os ks' os' : List ℕ} → length ts ≤ i → Puts (each (gen_var_term c) (take i ts)) s t ks os ks' os'
    → Puts (each (gen_var_term c) ts) s t ks os ks' os'
terms_all c i ts {s} {t} {ks} {os} {ks'} {os'} l p = subst (λ (l : List VarTerm). Puts (each (gen_var_term c) l) s t ks os ks' os') (take_all i ts l) p

-- ---- "one `push`, none if the sum is 0"
module _ (sum : ℕ) where
  abbrev pub sum_gen : Gen
  sum_gen = when (not (eqb sum 0)) (push_int sum 64 >> add64)

  pub no_sum : (s : Reached) (ks os : List ℕ) → sum ≡ 0 → Puts sum_gen s s ks os ks os
  unfolding when
  no_sum s ks os z = rw (eq-eqb sum 0 z) (skip_puts s ks os)

  pub one_sum : {s t u : Reached} {ks os ks' os' ks'' os'' : List ℕ} → (sum ≡ 0 → ⊥) → Puts (push_int sum 64) s t ks os ks' os' → Lined 44 0 t u ks' os' ks'' os'' → Puts sum_gen s u ks os ks'' os''
  unfolding when
  one_sum z p h = rw (ne_eqb sum 0 z) (then_puts p (add_puts h))

-- ---- all lines
module _ {m : ℕ} {bk bw work work' : List ℕ} (p : Meanings gep_fields) {c : FnCtx} (maps : Maps m (entries bk bw) c work) {s : Reached} {w : Way}
    (l : Walked m bk bw work work' (walk (structs_in m (entries bk bw)) p.0 p.1.1.0) s w) where
  pub walked_locals : Locals c m work'
  walked_locals = (maps_stays maps l.stays).locals

  pub gep_lines : {t u v : Reached} {k₀ o₀ k₁ o₁ k₂ o₂ k₃ o₃ : List ℕ} → Puts (push_value c p.1.0 64) w.s t k₀ o₀ k₁ o₁
      → ((ts : List VarTerm) → Terms m bk bw work' 0 ts → length ts ≡ w.terms → Puts (each (gen_var_term c) ts) t u k₁ o₁ k₂ o₂) → Puts (sum_gen w.sum) u v k₂ o₂ k₃ o₃
      → Did (gen_gep c p.0 p.1.0 p.1.1.0) m (entries bk bw) c work' s v k₀ o₀ k₃ o₃
  unfolding gen_gep
  gep_lines {t} {u} {v} {k₀} {o₀} {k₁} {o₁} {k₂} {o₂} {k₃} {o₃} a b d =
      let e : Puts (sum_gen l.walk.const_off) u v k₂ o₂ k₃ o₃ = subst (λ (n : ℕ). Puts (sum_gen n) u v k₂ o₂ k₃ o₃) l.here.sum d in
      let asked : Asked (walk c.codegen.structs p.0 p.1.1.0) s w.s l.walk = rw maps.structs l.asked in
      record {
        puts = asked_puts _ asked (then_puts a (then_puts (b l.walk.var_terms l.here.terms l.here.count) e));
        maps = maps_stays maps l.stays;
      }
