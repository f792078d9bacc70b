-- Loads, stores, atomics, `gen_cmpxchg` and `gen_extractvalue` do what the source does.
use Rattle.std.specs.Prelude.{ℕ, ◌^◌, ◌≡◌, refl, Bool, true, false, not, List, [], ◌∷◌, ◌++◌, eqb, ltb}
use Rattle.std.proofs.Common.{sym, ◌∙◌, subst, arith}
use Rattle.std.proofs.Math.Path.{ap}
use Rattle.std.proofs.Math.Option.{Option, none, some}
use borrow.Author.Tests.{eqb-true, ltb-true, not-false}
use Rattle.numbers.specs.Width.{width_ok, int_bytes, width_each}
use Rattle.book.specs.Ast.{Ty, Value, StructType}
use Rattle.book.specs.Rule.{pick}
use Rattle.book.specs.Result.{Result, ok, err, given as test, err_no_ok}
use Rattle.layout.specs.Layout.{size_of, size_at, int_size}
use Rattle.assembly.specs.Line.{Line, Mem}
use Rattle.machine.specs.Memory.{peek, poke}
use Rattle.machine.specs.State.{Frame, set_memory}
use Rattle.machine.specs.Line.{does, mem_bytes}
use Rattle.lowering.specs.Gen.{Gen, ◌>>=◌, ◌>>◌}
use Rattle.lowering.specs.Operand.{int_width, push_typed, store_dest}
use Rattle.lowering.specs.Memory.{mem_of, gen_load, gen_store, require_atomic_width, gen_atomic_load, gen_atomic_store}
use Rattle.manual.specs.Stop.{Stop}
use Rattle.manual.specs.Inst.{eval_load, run_load, run_store}
use Rattle.agreement.specs.Holds.{ok_same, H-ok, H-bind, H-eq, H-known, H-need}
use Rattle.agreement.specs.Gives.{Gives, G-line, G-refuse, G-then, G-bind, G-when, G-map}
use Rattle.agreement.specs.Lists.{some_same, none_some}
use Rattle.agreement.specs.Setup.{Setup, ctx, given}
use Rattle.agreement.specs.Reach.{Runs, run_line, seq}
use Rattle.agreement.specs.Relation.{Apart, rel_world}
use Rattle.agreement.specs.Operand.{H-width, Sound, at_most, ok_or_some, ValueOk, value_ok_lem, then_ends, dest_ok}
use Rattle.agreement.specs.Arith.{Computes}
use Rattle.agreement.specs.Instr.{H-no-width, G-width, StepOk}

-- the line reads as many bytes as were measured
mem_case : (n k : ℕ) (c : Mem) (m : Mem) (r : Option Mem) → mem_bytes c ≡ k → (r ≡ some m → mem_bytes m ≡ n) → (b : Bool) → eqb n k ≡ b → pick b (some c) r ≡ some m → mem_bytes m ≡ n
mem_case n k c m r e rest true t h = rw (← some_same h) (e ∙ sym (eqb-true n k t))
mem_case n k c m r e rest false t h = rest h

mem_bytes_lem : (n : ℕ) (m : Mem) → mem_of n ≡ some m → mem_bytes m ≡ n
unfolding mem_of
mem_bytes_lem n m h =
    mem_case n 1 Mem.m8 m _ refl (mem_case n 2 Mem.m16 m _ refl (mem_case n 4 Mem.m32 m _ refl (mem_case n 8 Mem.m64 m none refl (λ e. none_some m e) (eqb n 8) refl) (eqb n 4) refl) (eqb n 2) refl)
    (eqb n 1) refl h

-- a value of 8 bytes has 64 bits
byte_eight : (w : ℕ) → width_ok w ≡ true → int_bytes w ≡ 8 → w ≡ 64
byte_eight w h = width_each (λ w. int_bytes w ≡ 8 → w ≡ 64) (λ e. omega arith) (λ e. omega arith) (λ e. omega arith) (λ e. omega arith) (λ e. refl) w h

pub eight : (structs : List StructType) (ty : Ty) (w : ℕ) → size_of structs ty ≡ ok 8 → int_width ty ≡ ok w → width_ok w ≡ true → w ≡ 64
unfolding size_of size_at int_size int_width test
eight structs (Ty.int v) w e h k =
    let i : v ≡ w = ok_same h in
    let t : width_ok v ≡ true = rw i k in
    byte_eight w k (rw i at (ok_same (rw t at e)))
eight structs Ty.ptr w e h k = sym (ok_same h)
eight structs Ty.void w e h k = err_no_ok 9 w h
eight structs (Ty.sizeless t) w e h k = err_no_ok 9 w h
eight structs (Ty.array p n t) w e h k = err_no_ok 9 w h
eight structs (Ty.named_struct x) w e h k = err_no_ok 9 w h
eight structs (Ty.struct p ts) w e h k = err_no_ok 9 w h

module _ (s : Setup) where
  abbrev structs_of : List StructType
  structs_of = s.codegen.structs

  -- ---- loads
  load_value : (n w : ℕ) (p : Value) (l : Line) → ((e : Frame) (o : List ℕ) (a : ℕ) → Runs s (l ∷ []) e (a ∷ o) e (peek n e.memory a ∷ o))
      → (A : List Line) → ValueOk s 64 p A → Computes s w (λ σ. eval_load (given s) σ n w p) (A ++ (l ∷ []))
  unfolding eval_load
  load_value n w p l run A pa σ e r = H-bind _ (pa σ e r) λ a q. H-need (ltb (peek n σ.memory a) (2 ^ w)) Stop.load_range _ λ t.
      H-ok _ (record { pushes = λ o. seq s (q.pushes o) (subst (λ m. Runs s (l ∷ []) e (a ∷ o) e (peek n m a ∷ o)) r.memory_eq (run e o a)); fits = ltb-true _ _ t })

  load_lines : (ty : Ty) (p : Value) (w : ℕ) → Gives (gen_load (ctx s) ty p) (λ L. (n : ℕ) → size_of structs_of ty ≡ ok n → Computes s w (λ σ. eval_load (given s) σ n w p) L)
  unfolding gen_load does
  load_lines ty p w = G-bind _ _ λ n hn. G-bind _ _ λ m hm. G-then _ (value_ok_lem s 64 p (omega arith)) λ A pa. G-line _ λ k hk.
      let e : mem_bytes m ≡ k = mem_bytes_lem n m (ok_or_some 11 (mem_of n) m hm) ∙ ok_same (sym hn ∙ hk) in
      load_value k w p (Line.load m) (λ f o a. run_line s (rw e refl)) A pa

  -- `require_atomic_width`
  pub atomic_ok : (ty : Ty) → Gives (require_atomic_width (ctx s) ty) (λ L. (L ≡ []) × (size_of structs_of ty ≡ ok 8))
  unfolding require_atomic_width
  atomic_ok ty = G-bind _ _ λ n hn. G-when (not (eqb n 8)) _ (λ t. G-refuse 12) (λ t. (refl, hn ∙ ap {B = Result ℕ} ok (eqb-true n 8 (not-false (eqb n 8) t))))

  atomic_lines : (ty : Ty) (p : Value) (w : ℕ) → Gives (gen_atomic_load (ctx s) ty p) (λ L. (n : ℕ) → size_of structs_of ty ≡ ok n → Computes s w (λ σ. eval_load (given s) σ n w p) L)
  unfolding gen_atomic_load does
  atomic_lines ty p w = G-then _ (atomic_ok ty) λ E (e, h8). rw e (G-then _ (value_ok_lem s 64 p (omega arith)) λ A pa. G-line _ λ k hk.
      let i : 8 ≡ k = ok_same (sym h8 ∙ hk) in
      load_value k w p Line.atomic_load (λ f o a. run_line s (rw i refl)) A pa)

  module _ (ap' : Apart s) where
    -- a load and its name
    loaded : {g : Gen} (dest : Option ℕ) (ty : Ty) (p : Value) → Sound ty
        → ((w : ℕ) → Gives g (λ L. (n : ℕ) → size_of structs_of ty ≡ ok n → Computes s w (λ σ. eval_load (given s) σ n w p) L))
        → Gives (g >> store_dest (ctx s) dest) (StepOk s (run_load (given s) dest ty p))
    unfolding run_load
    loaded dest ty p sound h = G-width ty sound
        (λ w hw k. G-then _ (h w) λ A pa. G-map (dest_ok s ap' dest) λ B d σ e o r.
        H-eq (size_of structs_of ty) _ λ n hn. H-width ty _ hw (
        H-bind _ (pa n hn σ e r) λ v q. H-ok _ (then_ends s (q.pushes o) (d σ e r w v o q.fits))))
        (λ n e L σ f o r. H-eq (size_of structs_of ty) _ λ k hk. H-no-width ty n _ e)

    pub load_ok : (dest : Option ℕ) (ty : Ty) (p : Value) → Sound ty → Gives (gen_load (ctx s) ty p >> store_dest (ctx s) dest) (StepOk s (run_load (given s) dest ty p))
    load_ok dest ty p sound = loaded dest ty p sound (load_lines ty p)

    pub atomic_load_ok : (dest : Option ℕ) (ty : Ty) (p : Value) → Sound ty → Gives (gen_atomic_load (ctx s) ty p >> store_dest (ctx s) dest) (StepOk s (run_load (given s) dest ty p))
    atomic_load_ok dest ty p sound = loaded dest ty p sound (atomic_lines ty p)

  -- ---- stores
  store_value : (n w : ℕ) (ty : Ty) (v p : Value) (l : Line) → int_width ty ≡ ok w → size_of structs_of ty ≡ ok n
      → ((e : Frame) (o : List ℕ) (a x : ℕ) → Runs s (l ∷ []) e (x ∷ a ∷ o) (set_memory e (poke n e.memory a x)) o)
      → (A B : List Line) → ValueOk s 64 p A → ValueOk s w v B → StepOk s (run_store (given s) ty v p) (A ++ (B ++ (l ∷ [])))
  unfolding run_store
  store_value n w ty v p l hw hn run A B pa pb σ e o r = H-known _ hn (H-width ty _ hw (
      H-bind _ (pa σ e r) λ a q. H-bind _ (pb σ e r) λ x k. H-ok _ (record {
        frame = set_memory e (poke n e.memory a x);
        runs = seq s (q.pushes o) (seq s (k.pushes (a ∷ o)) (run e o a x));
        rel = rel_world s r _ _ _ _ (ap (λ m. poke n m a x) r.memory_eq) r.calls_eq;
      })))

  store_none : (ty : Ty) (v p : Value) (n : ℕ) → int_width ty ≡ err n → (L : List Line) → StepOk s (run_store (given s) ty v p) L
  unfolding run_store
  store_none ty v p n e L σ f o r = H-eq (size_of structs_of ty) _ λ k hk. H-no-width ty n _ e

  pub store_ok : (ty : Ty) (v p : Value) → Sound ty → Gives (gen_store (ctx s) ty v p) (StepOk s (run_store (given s) ty v p))
  unfolding gen_store push_typed does
  store_ok ty v p sound = G-width ty sound (λ w hw k. G-bind _ _ λ n hn. G-bind _ _ λ m hm. G-then _ (value_ok_lem s 64 p (omega arith)) λ A pa.
      G-then _ (G-bind (int_width ty) _ λ w' hw'. let i : w' ≡ w = ok_same (sym hw' ∙ hw) in rw i (value_ok_lem s w v (at_most w k))) λ B pb. G-line _ (
      let e : mem_bytes m ≡ n = mem_bytes_lem n m (ok_or_some 11 (mem_of n) m hm) in
      store_value n w ty v p (Line.store m) hw hn (λ f o a x. run_line s (rw e refl)) A B pa pb)) (store_none ty v p)

  pub atomic_store_ok : (ty : Ty) (v p : Value) → Sound ty → Gives (gen_atomic_store (ctx s) ty v p) (StepOk s (run_store (given s) ty v p))
  unfolding gen_atomic_store does
  atomic_store_ok ty v p sound = G-width ty sound (λ w hw k. G-then _ (atomic_ok ty) λ E (e, h8). rw e (G-then _ (value_ok_lem s 64 p (omega arith)) λ A pa.
      G-then _ (value_ok_lem s 64 v (omega arith)) λ B pb. G-line _ (
      let i : w ≡ 64 = eight structs_of ty w h8 hw k in
      store_value 8 w ty v p Line.atomic_store hw h8 (λ f o a x. run_line s refl) A B pa (rw i pb)))) (store_none ty v p)
