-- `br`, line by line: each edge has its copies, and the false one a label.
use Rattle.std.specs.Prelude.{◌≡◌, ℕ, ◌^◌, ◌<◌, List, drop}
use Rattle.std.proofs.Math.Path.{refl}
use Rattle.std.proofs.Common.{subst, ◌∙◌, arith}
use Rattle.std.proofs.Math.Option.{Option, none, some}
use Rattle.book.specs.Ast.{Value}
use Rattle.book.specs.Entry.{Entry, entries}
use Rattle.book.specs.Kinds.{TermTag}
use Rattle.book.specs.Fields.{term_fields}
use Rattle.book.specs.Result.{bind, ok_or}
use Rattle.assembly.specs.Line.{Line, Hint}
use Rattle.assembly.specs.Number.{kind_of, operand_of, hint_number}
use Rattle.lowering.specs.Gen.{refuse, ◌>>=◌}
use Rattle.lowering.specs.Context.{FnCtx}
use Rattle.lowering.specs.Operand.{push_value}
use Rattle.lowering.specs.Edge.{edge}
use Rattle.lowering.specs.Term.{gen_br, gen_cond_br}
use Rattle.gen_lines.specs.declared.Reached.{Reached}
use Rattle.gen_lines.specs.Puts.{Puts, Lined, made_refused, made_fresh, line_puts, refuse_puts, same_puts, then_puts}
use Rattle.gen_lines.specs.Follow.{fresh_puts}
use Rattle.gen_values.specs.Maps.{Maps}
use Rattle.gen_values.specs.Fields.{Fields}

-- what `gen_br` is lent
pub record BrAsk (m : ℕ) (ks ws bks bws work : List ℕ) : Type 0 where
  pub ctx : FnCtx
  pub maps : Maps m (entries bks bws) ctx work
  pub cond : Option Value
  pub if_true : ℕ
  pub if_false : Option ℕ
  pub fields : Fields m (term_fields TermTag.br) (cond, (if_true, (if_false, tt))) (drop 1 (entries ks ws))

pub record CondAsk (m : ℕ) (ks ws bks bws work : List ℕ) : Type 0 where
  pub ctx : FnCtx
  pub maps : Maps m (entries bks bws) ctx work
  pub cond : Value
  pub if_true : ℕ
  pub if_false : Option ℕ
  pub fields : Fields m (term_fields TermTag.br) (some cond, (if_true, (if_false, tt))) (drop 1 (entries ks ws))

pub cond_fields : {m : ℕ} {es : List Entry} {x : ℕ} {y : Option ℕ} (cond : Option Value) (v : Value) → cond ≡ some v
    → Fields m (term_fields TermTag.br) (cond, (x, (y, tt))) es → Fields m (term_fields TermTag.br) (some v, (x, (y, tt))) es
cond_fields {m} {es} {x} {y} cond v e f = subst (λ (o : Option Value). Fields m (term_fields TermTag.br) (o, (x, (y, tt))) es) e f

pub cond_ask : {m : ℕ} {ks ws bks bws work : List ℕ} {v : Value} (b : BrAsk m ks ws bks bws work) → b.cond ≡ some v → CondAsk m ks ws bks bws work
cond_ask {v = v} b e =
    record { ctx = b.ctx; maps = b.maps; cond = v; if_true = b.if_true; if_false = b.if_false; fields = cond_fields b.cond v e b.fields }

module _ (c : FnCtx) (pred if_true : ℕ) (if_false : Option ℕ) where
  module _ {cond : Option Value} {s t : Reached} {ks os ks' os' : List ℕ} where
    -- without a condition the false target is ignored
    pub plain_puts : cond ≡ none → Puts (edge c pred if_true) s t ks os ks' os' → Puts (gen_br c pred cond if_true if_false) s t ks os ks' os'
    unfolding gen_br
    plain_puts e p = same_puts (λ n. rw e) p

    pub tested_puts : (v : Value) → cond ≡ some v → Puts (gen_cond_br c pred v if_true if_false) s t ks os ks' os' → Puts (gen_br c pred cond if_true if_false) s t ks os ks' os'
    unfolding gen_br
    tested_puts v e p = same_puts (λ n. rw e) p

  -- "condition without false target", before anything is pushed
  pub one_way_puts : (v : Value) → if_false ≡ none → (s : Reached) {t : Reached} (ks os : List ℕ) → t ≡ made_refused s 19 → Puts (gen_cond_br c pred v if_true if_false) s t ks os ks os
  unfolding gen_cond_br ok_or ◌>>=◌ bind refuse
  one_way_puts v e s ks os h = same_puts (λ n. rw e) (refuse_puts 19 (omega arith) s ks os h)

  module _ {s a b d e f g : Reached} {ks os k1 o1 k2 o2 k3 o3 k4 o4 k5 o5 : List ℕ} where
    pub both_ways_puts : (v : Value) (other : ℕ) {label : ℕ} → if_false ≡ some other → Puts (push_value c v 1) s a ks os k1 o1 → b ≡ made_fresh a 1
        → label ≡ a.counter → a.counter < 2 ^ 64 → Lined 19 label b d k1 o1 k2 o2 → Puts (edge c pred if_true) d e k2 o2 k3 o3
        → Lined 15 label e f k3 o3 k4 o4 → Puts (edge c pred other) f g k4 o4 k5 o5
        → Puts (gen_cond_br c pred v if_true if_false) s g ks os k5 o5
    unfolding gen_cond_br ok_or ◌>>=◌ bind kind_of operand_of hint_number
    both_ways_puts v other q push made same few jump first label second =
        same_puts (λ n. rw q)
        (then_puts push (fresh_puts made few (λ n i.
        then_puts (line_puts (Line.jump Hint.br_false n) refl (same ∙ i) jump)
        (then_puts first (then_puts (line_puts (Line.label Hint.br_false n) refl (same ∙ i) label) second)))))
