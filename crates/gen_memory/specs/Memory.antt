-- `load`, `store` and `freeze` from their parts.
use Rattle.std.specs.Prelude.{ℕ, ◌+◌, ◌≤◌, ◌≡◌, List}
use Rattle.std.proofs.Math.Path.{refl, ap}
use native.Mathlib.Omega.{arith}
use borrow.Author.Tests.{ne_eqb}
use Rattle.book.specs.Ast.{Ty, Value}
use Rattle.book.specs.Result.{ok_or}
use Rattle.layout.specs.Layout.{size_of}
use Rattle.assembly.specs.Line.{Line, Mem}
use Rattle.assembly.specs.Number.{kind_of, operand_of, mem_number}
use Rattle.lowering.specs.Gen.{line, ◌>>=◌, ◌>>◌}
use Rattle.lowering.specs.Context.{FnCtx}
use Rattle.lowering.specs.Operand.{int_width, push_value, push_typed}
use Rattle.lowering.specs.Memory.{mem_of, gen_load, gen_store}
use Rattle.lowering.specs.Arith.{width_or, gen_freeze}
use Rattle.gen_lines.specs.declared.Reached.{Reached}
use Rattle.gen_lines.specs.Puts.{Puts, Lined, made_refused, then_puts, same_puts}
use Rattle.gen_lines.specs.Follow.{Asked, asked_ok, asked_err, asked_puts}
use Rattle.gen_values.specs.Push.{bare_puts}
use Rattle.gen_memory.specs.declared.Width.{Width}

-- ---- the width of so many bytes
pub record MemAsked (n : ℕ) (s : Reached) (r : Width) : Type 0 where
  pub mem : Mem
  pub number : r.number ≡ mem_number mem
  pub asked : Asked (ok_or 11 (mem_of n)) s r.s mem
  pub few : r.number ≤ 3

module _ (s : Reached) where
  pub mem_1 : MemAsked 1 s (record { number = 0; s = s })
  unfolding mem_of mem_number ok_or
  mem_1 = record { mem = Mem.m8; number = refl; asked = asked_ok s Mem.m8; few = omega arith }

  pub mem_2 : MemAsked 2 s (record { number = 1; s = s })
  unfolding mem_of mem_number ok_or
  mem_2 = record { mem = Mem.m16; number = refl; asked = asked_ok s Mem.m16; few = omega arith }

  pub mem_4 : MemAsked 4 s (record { number = 2; s = s })
  unfolding mem_of mem_number ok_or
  mem_4 = record { mem = Mem.m32; number = refl; asked = asked_ok s Mem.m32; few = omega arith }

  pub mem_8 : MemAsked 8 s (record { number = 3; s = s })
  unfolding mem_of mem_number ok_or
  mem_8 = record { mem = Mem.m64; number = refl; asked = asked_ok s Mem.m64; few = omega arith }

  pub mem_none : (n : ℕ) {t : Reached} → (n ≡ 1 → ⊥) → (n ≡ 2 → ⊥) → (n ≡ 4 → ⊥) → (n ≡ 8 → ⊥) → t ≡ made_refused s 11 → MemAsked n s (record { number = 0; s = t })
  unfolding mem_of mem_number ok_or
  mem_none n a b d e h =
      record { mem = Mem.m8; number = refl; asked = rw (ne_eqb n 1 a, ne_eqb n 2 b, ne_eqb n 4 d, ne_eqb n 8 e) (asked_err 11 (omega arith) s Mem.m8 h); few = omega arith }

-- ---- `load` and `store`
module _ (c : FnCtx) (ty : Ty) {n : ℕ} {s s₁ : Reached} {r : Width} where
  module _ (ptr : Value) {t u : Reached} {ks os ks₁ os₁ ks₂ os₂ : List ℕ} where
    pub load_puts : Asked (size_of c.codegen.structs ty) s s₁ n → MemAsked n s₁ r → Puts (push_value c ptr 64) r.s t ks os ks₁ os₁
        → Lined (75 + r.number) 0 t u ks₁ os₁ ks₂ os₂ → Puts (gen_load c ty ptr) s u ks os ks₂ os₂
    unfolding gen_load kind_of operand_of
    load_puts a m p h =
        asked_puts (λ k. ok_or 11 (mem_of k) >>= (λ x. push_value c ptr 64 >> line (Line.load x))) a
        (asked_puts (λ x. push_value c ptr 64 >> line (Line.load x)) m.asked
        (then_puts p (bare_puts (Line.load m.mem) (ap (λ k. 75 + k) m.number) refl h)))

  module _ (val ptr : Value) {t u v : Reached} {ks os ks₁ os₁ ks₂ os₂ ks₃ os₃ : List ℕ} where
    pub store_puts : Asked (size_of c.codegen.structs ty) s s₁ n → MemAsked n s₁ r → Puts (push_value c ptr 64) r.s t ks os ks₁ os₁
        → Puts (push_typed c ty val) t u ks₁ os₁ ks₂ os₂ → Lined (79 + r.number) 0 u v ks₂ os₂ ks₃ os₃ → Puts (gen_store c ty val ptr) s v ks os ks₃ os₃
    unfolding gen_store kind_of operand_of
    store_puts a m p q h =
        asked_puts (λ k. ok_or 11 (mem_of k) >>= (λ x. push_value c ptr 64 >> (push_typed c ty val >> line (Line.store x)))) a
        (asked_puts (λ x. push_value c ptr 64 >> (push_typed c ty val >> line (Line.store x))) m.asked
        (then_puts p (then_puts q (bare_puts (Line.store m.mem) (ap (λ k. 79 + k) m.number) refl h))))

-- ---- `freeze`
module _ (c : FnCtx) (ty : Ty) (val : Value) {n w : ℕ} {s s₁ t : Reached} {ks os ks' os' : List ℕ} where
  pub freeze_puts : Asked (size_of c.codegen.structs ty) s s₁ n → w ≡ width_or (int_width ty) n → Puts (push_value c val w) s₁ t ks os ks' os'
      → Puts (gen_freeze c ty val) s t ks os ks' os'
  unfolding gen_freeze
  freeze_puts a e p = asked_puts (λ k. push_value c val (width_or (int_width ty) k)) a (same_puts (λ i. ap (λ k. push_value c val k i) e) p)
