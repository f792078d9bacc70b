-- What the generators of this crate are lent, and the laws that put their lines together.
use Rattle.std.specs.Prelude.{ℕ, ◌+◌, ◌≤◌, ◌≡◌, Bool, false, ◌&&◌, List, [], ◌∷◌, length, drop, ltb}
use Rattle.std.proofs.Math.Path.{refl}
use Rattle.std.proofs.Common.{sym, subst, arith}
use Rattle.book.specs.Ast.{Ty, Value}
use Rattle.book.specs.Ast as ast
use Rattle.book.specs.Entry.{Entry, entries}
use Rattle.book.specs.Fields.{Item, Field, Meanings}
use Rattle.book.specs.Ops.{bin_of, icmp_of}
use Rattle.book.specs.declared.ops.BinOp.{BinOp}
use Rattle.book.specs.declared.ops.BinOp.TheVariants as binop
use Rattle.book.specs.declared.ops.ICmpPred.{ICmpPred}
use Rattle.book.specs.declared.ops.ICmpPred.TheVariants as icmppred
use Rattle.book.specs.Work.{name_words}
use Rattle.assembly.specs.Line.{Line}
use Rattle.assembly.specs.Number.{kind_of, operand_of, operation, bin_number, icmp_number}
use Rattle.lowering.specs.Gen.{Gen, line, when, ◌>>◌}
use Rattle.lowering.specs.Context.{FnCtx}
use Rattle.lowering.specs.Operand.{int_width, work_of, work_bits, emit_trunc_to, emit_sext, push_value}
use Rattle.lowering.specs.Arith.{signed_left, signed_right, signed_pred, gen_bin, gen_icmp}
use Rattle.layout_memo.specs.Front.{ty_len}
use Rattle.gen_lines.specs.declared.Reached.{Reached}
use Rattle.gen_lines.specs.Puts.{Puts, Lined, then_puts, same_puts}
use Rattle.gen_lines.specs.Follow.{Asked, asked_puts, four_then}
use Rattle.gen_values.specs.Fields.{Fields, ValueAt, OperandAt, part_from, operand_part, operand_at, value_at, behind_value, behind_type_lem}
use Rattle.gen_values.specs.Push.{bare_puts}
use Rattle.gen_values.specs.Widths.{bin_puts}

-- a type and two values; a type, a value and a type
abbrev pub two_values : List Field
two_values = Field.plain Item.type ∷ Field.plain Item.value ∷ Field.plain Item.value ∷ []

abbrev pub converted : List Field
converted = Field.plain Item.type ∷ Field.plain Item.value ∷ Field.plain Item.type ∷ []

-- the fields are there, and the words of every name
pub record There (fs : List Field) (m : ℕ) (es : List Entry) (work : List ℕ) : Type 0 where
  pub holds : Meanings fs
  pub fields : Fields m fs holds es
  pub room : name_words m + 64 ≤ length work

-- ---- the values behind a type
module _ {m : ℕ} {fs : List Field} {p : Meanings (Field.plain Item.type ∷ Field.plain Item.value ∷ fs)} (ks ws : List ℕ)
    (f : Fields m (Field.plain Item.type ∷ Field.plain Item.value ∷ fs) p (entries ks ws)) {n : ℕ} (e : n ≡ ty_len m (entries ks ws)) where
  behind : Fields m (Field.plain Item.value ∷ fs) p.1 (drop n (entries ks ws))
  behind =
      let q : 0 + n ≡ n = omega arith in
      subst (λ (k : ℕ). Fields m (Field.plain Item.value ∷ fs) p.1 (drop k (entries ks ws))) q (behind_type_lem ks ws 0 f e)

  pub first_value : ValueAt m ks ws n p.1.0
  first_value = value_at ks ws n behind

  pub behind_first_lem : Fields m fs p.1.1 (drop (n + 1) (entries ks ws))
  behind_first_lem = behind_value ks ws n behind

module _ {m : ℕ} {p : Meanings two_values} (ks ws : List ℕ) (f : Fields m two_values p (entries ks ws)) {n : ℕ} (e : n ≡ ty_len m (entries ks ws)) where
  pub second_value : ValueAt m ks ws (n + 1) p.1.1.0
  second_value = value_at ks ws (n + 1) (behind_first_lem ks ws f e)

-- a value may be pushed
pub operand_there : {m : ℕ} {ks ws : List ℕ} {a : ℕ} {v : Value} (work : List ℕ) → name_words m + 64 ≤ length work → ValueAt m ks ws a v → OperandAt (part_from ks a) (part_from ws a) 0 work
operand_there work r h = operand_part (operand_at h (omega (arith, r)))

-- ---- the lines
module _ {s t : Reached} {ks os ks' os' : List ℕ} where
  pub icmp_puts : (o : ast.ICmpPred) (w : ℕ) {k : ℕ} → k ≡ operation (icmp_number o) (work_of w) → Lined k 0 s t ks os ks' os' → Puts (line (Line.icmp o (work_of w))) s t ks os ks' os'
  unfolding kind_of operand_of
  icmp_puts o w e h = bare_puts (Line.icmp o (work_of w)) e refl h

-- ---- both sides
-- extended where that is asked for
abbrev extended : ℕ → Bool → Gen
extended w b = when (b && ltb w (work_bits w)) (emit_sext w (work_bits w))

unfoldable pub sides : FnCtx → ℕ → (left right : Bool) → (lhs rhs : Value) → Gen
sides c w left right lhs rhs = push_value c lhs w >> (extended w left >> (push_value c rhs w >> extended w right))

module _ (c : FnCtx) (w : ℕ) (left right : Bool) (lhs rhs : Value) {s s₁ s₂ s₃ s₄ : Reached} {ks os k₁ o₁ k₂ o₂ k₃ o₃ k₄ o₄ : List ℕ} where
  pub sides_puts : Puts (push_value c lhs w) s s₁ ks os k₁ o₁ → Puts (extended w left) s₁ s₂ k₁ o₁ k₂ o₂ → Puts (push_value c rhs w) s₂ s₃ k₂ o₂ k₃ o₃
      → Puts (extended w right) s₃ s₄ k₃ o₃ k₄ o₄ → Puts (sides c w left right lhs rhs) s s₄ ks os k₄ o₄
  unfolding sides
  sides_puts p q u v = then_puts p (then_puts q (then_puts u v))

-- what follows both sides
module _ (c : FnCtx) (w : ℕ) (left right : Bool) (lhs rhs : Value) {g : Gen} {s t u : Reached} {ks os k₁ o₁ k₂ o₂ : List ℕ} where
  behind_sides : Puts (sides c w left right lhs rhs) s t ks os k₁ o₁ → Puts g t u k₁ o₁ k₂ o₂
      → Puts (push_value c lhs w >> (extended w left >> (push_value c rhs w >> (extended w right >> g)))) s u ks os k₂ o₂
  unfolding sides
  behind_sides p q = same_puts (four_then (push_value c lhs w) (extended w left) (push_value c rhs w) (extended w right) g) (then_puts p q)

module _ (c : FnCtx) (ty : Ty) (lhs rhs : Value) {w : ℕ} {s s₀ s₁ s₂ : Reached} {ks os k₁ o₁ k₂ o₂ : List ℕ} (asked : Asked (int_width ty) s s₀ w) where
  pub bin_lines : (o : ast.BinOp) {b d : Bool} {s₃ : Reached} {k₃ o₃ : List ℕ} {k : ℕ} → b ≡ signed_left o → d ≡ signed_right o → k ≡ operation (bin_number o) (work_of w)
      → Puts (sides c w b d lhs rhs) s₀ s₁ ks os k₁ o₁ → Lined k 0 s₁ s₂ k₁ o₁ k₂ o₂ → Puts (when (ltb w 32) (emit_trunc_to w)) s₂ s₃ k₂ o₂ k₃ o₃
      → Puts (gen_bin c o ty lhs rhs) s s₃ ks os k₃ o₃
  unfolding gen_bin
  bin_lines o eb ed ek p l t = asked_puts _ asked (behind_sides c w _ _ lhs rhs (rw (sym eb, sym ed) p) (then_puts (bin_puts o w ek l) t))

  pub icmp_lines : (o : ast.ICmpPred) {b : Bool} {k : ℕ} → b ≡ signed_pred o → k ≡ operation (icmp_number o) (work_of w)
      → Puts (sides c w b b lhs rhs) s₀ s₁ ks os k₁ o₁ → Lined k 0 s₁ s₂ k₁ o₁ k₂ o₂ → Puts (gen_icmp c o ty lhs rhs) s s₂ ks os k₂ o₂
  unfolding gen_icmp
  icmp_lines o eb ek p l = asked_puts _ asked (behind_sides c w _ _ lhs rhs (rw (sym eb) p) (icmp_puts o w ek l))

-- ---- which sides are not extended
pub unsigned_left : (op : BinOp) → (op ≡ binop.SDiv → ⊥) → (op ≡ binop.SRem → ⊥) → (op ≡ binop.AShr → ⊥) → false ≡ signed_left (bin_of op)
unfolding signed_left
unsigned_left binop.Add z0 z1 z2 = refl
unsigned_left binop.Sub z0 z1 z2 = refl
unsigned_left binop.Mul z0 z1 z2 = refl
unsigned_left binop.UDiv z0 z1 z2 = refl
unsigned_left binop.SDiv z0 z1 z2 = absurd (z0 refl)
unsigned_left binop.URem z0 z1 z2 = refl
unsigned_left binop.SRem z0 z1 z2 = absurd (z1 refl)
unsigned_left binop.And z0 z1 z2 = refl
unsigned_left binop.Or z0 z1 z2 = refl
unsigned_left binop.Xor z0 z1 z2 = refl
unsigned_left binop.Shl z0 z1 z2 = refl
unsigned_left binop.LShr z0 z1 z2 = refl
unsigned_left binop.AShr z0 z1 z2 = absurd (z2 refl)

pub unsigned_right : (op : BinOp) → (op ≡ binop.SDiv → ⊥) → (op ≡ binop.SRem → ⊥) → false ≡ signed_right (bin_of op)
unfolding signed_right
unsigned_right binop.Add z0 z1 = refl
unsigned_right binop.Sub z0 z1 = refl
unsigned_right binop.Mul z0 z1 = refl
unsigned_right binop.UDiv z0 z1 = refl
unsigned_right binop.SDiv z0 z1 = absurd (z0 refl)
unsigned_right binop.URem z0 z1 = refl
unsigned_right binop.SRem z0 z1 = absurd (z1 refl)
unsigned_right binop.And z0 z1 = refl
unsigned_right binop.Or z0 z1 = refl
unsigned_right binop.Xor z0 z1 = refl
unsigned_right binop.Shl z0 z1 = refl
unsigned_right binop.LShr z0 z1 = refl
unsigned_right binop.AShr z0 z1 = refl

pub unsigned_pred : (op : ICmpPred) → (op ≡ icmppred.Sgt → ⊥) → (op ≡ icmppred.Sge → ⊥) → (op ≡ icmppred.Slt → ⊥) → (op ≡ icmppred.Sle → ⊥) → false ≡ signed_pred (icmp_of op)
unfolding signed_pred
unsigned_pred icmppred.Eq z0 z1 z2 z3 = refl
unsigned_pred icmppred.Ne z0 z1 z2 z3 = refl
unsigned_pred icmppred.Ugt z0 z1 z2 z3 = refl
unsigned_pred icmppred.Uge z0 z1 z2 z3 = refl
unsigned_pred icmppred.Ult z0 z1 z2 z3 = refl
unsigned_pred icmppred.Ule z0 z1 z2 z3 = refl
unsigned_pred icmppred.Sgt z0 z1 z2 z3 = absurd (z0 refl)
unsigned_pred icmppred.Sge z0 z1 z2 z3 = absurd (z1 refl)
unsigned_pred icmppred.Slt z0 z1 z2 z3 = absurd (z2 refl)
unsigned_pred icmppred.Sle z0 z1 z2 z3 = absurd (z3 refl)
