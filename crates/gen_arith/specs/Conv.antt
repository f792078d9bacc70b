-- Conversions: the lines of each.
use Rattle.std.specs.Prelude.{ℕ, ◌≡◌, List}
use Rattle.std.proofs.Math.Path.{refl}
use Rattle.book.specs.Ast.{Ty, Value}
use Rattle.book.specs.Ast as ast
use Rattle.book.specs.Ops.{conv_of}
use Rattle.book.specs.declared.ops.ConvOp.{ConvOp}
use Rattle.book.specs.declared.ops.ConvOp.TheVariants as convop
use Rattle.lowering.specs.Context.{FnCtx}
use Rattle.lowering.specs.Operand.{int_width, push_value, push_typed}
use Rattle.lowering.specs.Arith.{emit_conv_op, gen_widths, gen_conv}
use Rattle.gen_lines.specs.declared.Reached.{Reached}
use Rattle.gen_lines.specs.Puts.{Puts, then_puts}
use Rattle.gen_lines.specs.Follow.{Asked, asked_puts}

-- ---- the whole conversion
module _ (c : FnCtx) (from : Ty) (val : Value) (to : Ty) {fw : ℕ} {s s₀ : Reached} (asked : Asked (int_width from) s s₀ fw) where
  pub cast_lines : {s₁ : Reached} {ks os ks' os' : List ℕ} → Puts (push_value c val fw) s₀ s₁ ks os ks' os' → Puts (gen_conv c ast.ConvOp.bit_cast from val to) s s₁ ks os ks' os'
  unfolding gen_conv push_typed
  cast_lines p = asked_puts _ asked p

  module _ {tw : ℕ} {s₁ s₂ s₃ : Reached} {ks os k₂ o₂ k₃ o₃ : List ℕ} (goal : Asked (int_width to) s₀ s₁ tw) (pushed : Puts (push_value c val fw) s₁ s₂ ks os k₂ o₂) where
    widths : (o : ast.ConvOp) → Puts (emit_conv_op o fw tw) s₂ s₃ k₂ o₂ k₃ o₃ → Puts (gen_widths c o from val to) s s₃ ks os k₃ o₃
    unfolding gen_widths
    widths o q = asked_puts _ asked (asked_puts _ goal (then_puts pushed q))

    pub conv_lines : (op : ConvOp) → (op ≡ convop.BitCast → ⊥) → Puts (emit_conv_op (conv_of op) fw tw) s₂ s₃ k₂ o₂ k₃ o₃ → Puts (gen_conv c (conv_of op) from val to) s s₃ ks os k₃ o₃
    unfolding gen_conv
    conv_lines convop.BitCast z q = absurd (z refl)
    conv_lines convop.Trunc z q = widths ast.ConvOp.trunc q
    conv_lines convop.ZExt z q = widths ast.ConvOp.zext q
    conv_lines convop.SExt z q = widths ast.ConvOp.sext q
    conv_lines convop.PtrToInt z q = widths ast.ConvOp.ptr_to_int q
    conv_lines convop.IntToPtr z q = widths ast.ConvOp.int_to_ptr q
