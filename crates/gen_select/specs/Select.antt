-- What `gen_select` is lent, and the law that puts its lines together.
use Rattle.std.specs.Prelude.{ℕ, ◌+◌, ◌<◌, ◌%◌, ◌^◌, ◌≡◌, List, [], ◌∷◌, drop}
use Rattle.std.proofs.Math.Path.{refl}
use Rattle.std.proofs.Common.{ap, ◌∙◌, arith}
use Rattle.book.specs.Ast.{Ty, Value}
use Rattle.book.specs.Entry.{entries}
use Rattle.book.specs.Fields.{Item, Field, Meanings}
use Rattle.book_types.specs.Laws.{lent_from, entries_part}
use Rattle.assembly.specs.Line.{Line, Hint}
use Rattle.assembly.specs.Number.{kind_of, operand_of, hint_number}
use Rattle.lowering.specs.Gen.{line}
use Rattle.lowering.specs.Context.{FnCtx}
use Rattle.lowering.specs.Operand.{int_width, push_value}
use Rattle.lowering.specs.Arith.{gen_select}
use Rattle.layout_memo.specs.Front.{ty_len}
use Rattle.gen_lines.specs.declared.Reached.{Reached}
use Rattle.gen_lines.specs.Puts.{Puts, Lined, made_fresh, line_puts, then_puts}
use Rattle.gen_lines.specs.Follow.{Asked, asked_puts, fresh_puts}
use Rattle.gen_values.specs.Fields.{Fields, ValueAt, value_at, behind_value, behind_type_lem}

-- a value, a type and two values
abbrev pub selected : List Field
selected = Field.plain Item.value ∷ Field.plain Item.type ∷ Field.plain Item.value ∷ Field.plain Item.value ∷ []

module _ {m : ℕ} {p : Meanings selected} (ks ws : List ℕ) (f : Fields m selected p (entries ks ws)) where
  pub condition : ValueAt m ks ws 0 p.0
  condition = value_at ks ws 0 f

  pub typed : Fields m (Field.plain Item.type ∷ Field.plain Item.value ∷ Field.plain Item.value ∷ []) p.1 (drop 1 (entries ks ws))
  typed = behind_value ks ws 0 f

  module _ {n : ℕ} (e : n ≡ ty_len m (lent_from ks ws 1)) where
    sides : Fields m (Field.plain Item.value ∷ Field.plain Item.value ∷ []) p.1.1 (drop (1 + n) (entries ks ws))
    sides = behind_type_lem ks ws 1 typed (e ∙ ap (ty_len m) (entries_part 1 ks ws))

    pub true_side : ValueAt m ks ws (1 + n) p.1.1.0
    true_side = value_at ks ws (1 + n) sides

    pub false_side : ValueAt m ks ws (1 + n + 1) p.1.1.1.0
    false_side = value_at ks ws (1 + n + 1) (behind_value ks ws (1 + n) sides)

-- ---- the lines
module _ {s t : Reached} {ks os ks' os' : List ℕ} where
  jump_puts : (h : Hint) (n : ℕ) {k x : ℕ} → k ≡ 17 + hint_number h → x ≡ n % 2 ^ 64 → Lined k x s t ks os ks' os' → Puts (line (Line.jump h n)) s t ks os ks' os'
  unfolding kind_of operand_of
  jump_puts h n e c l = line_puts (Line.jump h n) e c l

  label_puts : (h : Hint) (n : ℕ) {k x : ℕ} → k ≡ 13 + hint_number h → x ≡ n % 2 ^ 64 → Lined k x s t ks os ks' os' → Puts (line (Line.label h n)) s t ks os ks' os'
  unfolding kind_of operand_of
  label_puts h n e c l = line_puts (Line.label h n) e c l

module _ (c : FnCtx) (test : Value) (ty : Ty) (tval fval : Value) {w : ℕ} {s s₀ s₁ s₂ t₁ t₂ t₃ t₄ t₅ t₆ t₇ : Reached}
    {k₀ o₀ k₁ o₁ k₂ o₂ k₃ o₃ k₄ o₄ k₅ o₅ k₆ o₆ k₇ o₇ : List ℕ} where
  pub select_lines : {x y : ℕ} → Asked (int_width ty) s s₀ w → x ≡ s₀.counter → y ≡ s₁.counter → s₁ ≡ made_fresh s₀ 1 → x < 2 ^ 64 → s₂ ≡ made_fresh s₁ 1 → y < 2 ^ 64
      → Puts (push_value c test 1) s₂ t₁ k₀ o₀ k₁ o₁ → Lined 17 x t₁ t₂ k₁ o₁ k₂ o₂
      → Puts (push_value c tval w) t₂ t₃ k₂ o₂ k₃ o₃ → Lined 18 y t₃ t₄ k₃ o₃ k₄ o₄ → Lined 13 x t₄ t₅ k₄ o₄ k₅ o₅
      → Puts (push_value c fval w) t₅ t₆ k₅ o₅ k₆ o₆ → Lined 14 y t₆ t₇ k₆ o₆ k₇ o₇ → Puts (gen_select c test ty tval fval) s t₇ k₀ o₀ k₇ o₇
  unfolding gen_select hint_number
  select_lines asked ex ey e₁ l₁ e₂ l₂ p j q i l r d =
      asked_puts _ asked (fresh_puts e₁ (omega (arith, ex)) λ n u. fresh_puts e₂ (omega (arith, ey)) λ n' v.
      then_puts p (then_puts (jump_puts Hint.sel_false n refl (ex ∙ u) j) (then_puts q (then_puts (jump_puts Hint.sel_done n' refl (ey ∙ v) i)
      (then_puts (label_puts Hint.sel_false n refl (ex ∙ u) l) (then_puts r (label_puts Hint.sel_done n' refl (ey ∙ v) d)))))))
