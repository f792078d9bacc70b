-- Places of values and types among the lent entries: what pushing asks of them, and the laws that read them.
use Rattle.std.specs.Prelude.{ℕ, ◌+◌, ◌<◌, ◌≤◌, ◌≡◌, refl, List, ◌∷◌, ◌++◌, length, drop, get_or}
use Rattle.std.proofs.Common.{sym, subst, arith}
use Rattle.book.specs.Entry.{entry, entries}
use Rattle.book.specs.Encode.{enc_fields}
use Rattle.book.specs.Fields.{Item, Field, Meanings}
use Rattle.book.specs.Work.{name_words}
use Rattle.lowering.specs.Context.{FnCtx}
use Rattle.lowering.specs.Operand.{int_width, push_value, push_typed}
use Rattle.layout_memo.specs.Front.{ty_len}
use Rattle.gen_lines.specs.declared.Reached.{Reached}
use Rattle.gen_lines.specs.Puts.{Puts}
use Rattle.gen_lines.specs.Follow.{Asked, asked_puts}
use Rattle.gen_values.specs.Fields.{Fields, ValueAt, OperandAt, operand_at, entry_at, value_at, behind_type_lem, type_in}

-- a value and the entry that begins its type
pub record TypedAt (ks ws : List ℕ) (ty a : ℕ) (work : List ℕ) : Type 0 where
  pub type_kinds : ty < length ks
  pub type_words : ty < length ws
  pub value : OperandAt ks ws a work

-- a place behind what stands at the front
pub from_front : {a n : ℕ} → a ≡ n → a ≡ 0 + n
from_front e = omega arith

-- behind the type in front
pub past_type : {m : ℕ} {fs : List Field} {p : Meanings (Field.plain Item.type ∷ fs)} (ks ws : List ℕ) → Fields m (Field.plain Item.type ∷ fs) p (entries ks ws)
    → {a : ℕ} → a ≡ ty_len m (entries ks ws) → Fields m fs p.1 (drop a (entries ks ws))
past_type {m} {fs} {p} ks ws f e = subst (λ (n : ℕ). Fields m fs p.1 (drop n (entries ks ws))) (sym (from_front e)) (behind_type_lem ks ws 0 f refl)

-- ---- a type and the value behind it
module _ {m : ℕ} {fs : List Field} {p : Meanings (Field.plain Item.type ∷ Field.plain Item.value ∷ fs)} (ks ws : List ℕ) (ty : ℕ)
    (f : Fields m (Field.plain Item.type ∷ Field.plain Item.value ∷ fs) p (drop ty (entries ks ws))) {a : ℕ} (e : a ≡ ty + ty_len m (drop ty (entries ks ws))) where
  pub behind : Fields m (Field.plain Item.value ∷ fs) p.1 (drop a (entries ks ws))
  behind = subst (λ (n : ℕ). Fields m (Field.plain Item.value ∷ fs) p.1 (drop n (entries ks ws))) (sym e) (behind_type_lem ks ws ty f refl)

  pub typed_value : ValueAt m ks ws a p.1.0
  typed_value = value_at ks ws a behind

  pub typed_at : {work : List ℕ} → name_words m ≤ length work → TypedAt ks ws ty a work
  typed_at room = let t = type_in ks ws ty f in record { type_kinds = t.0; type_words = t.1; value = operand_at typed_value room }

  pub typed_puts : (c : FnCtx) {s t u : Reached} {w : ℕ} {qs os qs' os' : List ℕ} → Asked (int_width p.0) s t w → Puts (push_value c p.1.0 w) t u qs os qs' os'
      → Puts (push_typed c p.0 p.1.0) s u qs os qs' os'
  unfolding push_typed
  typed_puts c asked q = asked_puts (λ x. push_value c p.1.0 x) asked q

-- ---- a number
module _ {m : ℕ} {fs : List Field} {p : Meanings (Field.plain Item.index ∷ fs)} (ks ws : List ℕ) (a : ℕ)
    (f : Fields m (Field.plain Item.index ∷ fs) p (drop a (entries ks ws))) where
  number : drop a (entries ks ws) ≡ entry 22 p.0 ∷ (enc_fields fs p.1 ++ f.rest)
  unfolding enc_fields
  number = f.here

  pub index_is : get_or ws a 0 ≡ p.0
  index_is = (entry_at ks ws a _ _ number).1

  pub index_in_lem : a < length ws
  index_in_lem = (entry_at ks ws a _ _ number).3
