-- `gen_inst`: every instruction's lines do what the source does.
use Rattle.std.specs.Prelude.{ℕ, ◌≡◌}
use Rattle.std.proofs.Math.Option.{Option, some}
use mathlib.Core.List.{List, [], ◌∷◌}
use Rattle.book.specs.Ast.{Value, InstKind, Inst}
use Rattle.lowering.specs.Gen.{each}
use Rattle.lowering.specs.Inst.{gen_kind, gen_inst}
use Rattle.manual.specs.Inst.{eval_bin, eval_conv, eval_icmp, eval_select, eval_gep, run_kind, run_inst, run_insts}
use Rattle.manual.specs.Operand.{value}
use Rattle.agreement.specs.Holds.{H-ok, H-err, H-bind, H-map}
use Rattle.agreement.specs.Gives.{Gives, G-skip, G-then, G-map}
use Rattle.agreement.specs.Lists.{In, here, there}
use Rattle.agreement.specs.Setup.{Setup, ctx, given}
use Rattle.agreement.specs.Reach.{Once, runs_nil}
use Rattle.agreement.specs.Relation.{Apart}
use Rattle.agreement.specs.Operand.{H-width, H-integer, Sound, then_ends}
use Rattle.agreement.specs.Instr.{H-no-width, H-no-integer, G-width, StepOk, put_ok}
use Rattle.agreement.specs.Arith.{bin_ok, icmp_ok, conv_ok, select_ok, freeze_ok}
use Rattle.agreement.specs.Memory.{load_ok, atomic_load_ok, store_ok, atomic_store_ok}
use Rattle.agreement.specs.Cmpxchg.{TwoSlots, cmpxchg_ok, extract_ok}
use Rattle.agreement.specs.Alloca.{SoundCount, Varies, alloca_ok}
use Rattle.agreement.specs.Gep.{SoundIndices, gep_ok}
use Rattle.agreement.specs.Syscall.{call_ok}

module _ (s : Setup) where
  -- what an accepted book under the naming conditions says of an instruction: its types are the book's, a varying place has no offset, a cmpxchg has two slots
  -- and does not compare with itself
  abbrev pub Good : Option ℕ → InstKind → Type 0
  Good dest (InstKind.bin op ty a b) = Sound ty
  Good dest (InstKind.conv op from v to) = Sound from × Sound to
  Good dest (InstKind.icmp p ty a b) = Sound ty
  Good dest (InstKind.select c ty a b) = Sound ty
  Good dest (InstKind.load ty p align) = Sound ty
  Good dest (InstKind.store ty v p align) = Sound ty
  Good dest (InstKind.alloca ty count align) = SoundCount count × ((x : ℕ) → dest ≡ some x → Varies s x count)
  Good dest (InstKind.get_element_ptr ty p is) = SoundIndices is
  Good dest (InstKind.phi ty is) = Sound ty
  Good dest (InstKind.call ty v as') = SoundIndices as'
  Good dest (InstKind.freeze ty v) = Sound ty
  Good dest (InstKind.atomic_load ty p) = Sound ty
  Good dest (InstKind.atomic_store ty v p) = Sound ty
  Good dest (InstKind.cmpxchg ty p c n) = Sound ty × ((x : ℕ) → dest ≡ some x → TwoSlots s x × ¬ (c ≡ Value.local x))
  Good dest (InstKind.extract_value v k) = Unit {0}
  Good dest InstKind.fence = Unit {0}

  module _ (u : Once s) (ap' : Apart s) where
    pub kind_ok : (dest : Option ℕ) (k : InstKind) → Good dest k → Gives (gen_kind (ctx s) dest k) (StepOk s (run_kind (given s) dest k))
    unfolding gen_kind run_kind
    kind_ok dest (InstKind.bin op ty a b) sound = G-width ty sound
        (λ w hw k. G-map (put_ok s ap' dest w (λ σ. eval_bin (given s) σ op w a b) (bin_ok s op ty w a b hw k)) λ L p σ e o r. H-integer ty _ hw (p σ e o r))
        (λ n e L σ f o r. H-no-integer ty n _ e)
    kind_ok dest (InstKind.conv op from v to) (sf, st) = G-width from sf
        (λ fw hf kf. G-width to st
        (λ tw ht kt. G-map (put_ok s ap' dest tw (λ σ. eval_conv (given s) σ op fw tw v) (conv_ok s op from to fw tw v hf ht kf kt)) λ L p σ e o r. H-width from _ hf (H-width to _ ht (p σ e o r)))
        (λ n e L σ f o r. H-width from _ hf (H-no-width to n _ e)))
        (λ n e L σ f o r. H-no-width from n _ e)
    kind_ok dest (InstKind.icmp p ty a b) sound = G-width ty sound
        (λ w hw k. G-map (put_ok s ap' dest 1 (λ σ. eval_icmp (given s) σ p w a b) (icmp_ok s p ty w a b hw k)) λ L q σ e o r. H-width ty _ hw (q σ e o r))
        (λ n e L σ f o r. H-no-width ty n _ e)
    kind_ok dest (InstKind.select c ty a b) sound = G-width ty sound
        (λ w hw k. G-map (put_ok s ap' dest w (λ σ. eval_select (given s) σ w c a b) (select_ok s u c ty w a b hw k)) λ L q σ e o r. H-width ty _ hw (q σ e o r))
        (λ n e L σ f o r. H-no-width ty n _ e)
    kind_ok dest (InstKind.load ty p align) sound = load_ok s ap' dest ty p sound
    kind_ok dest (InstKind.store ty v p align) sound = store_ok s ty v p sound
    kind_ok dest (InstKind.alloca ty count align) (sound, vary) = alloca_ok s ap' dest ty count align sound vary
    kind_ok dest (InstKind.get_element_ptr ty p is) sound = put_ok s ap' dest 64 (λ σ. eval_gep (given s) σ ty p is) (gep_ok s ty p is sound)
    kind_ok dest (InstKind.phi ty is) sound = G-skip λ σ e o r. H-err _
    kind_ok dest (InstKind.call ty v as') sound = call_ok s ap' dest ty v as' sound
    kind_ok dest (InstKind.freeze ty v) sound = G-width ty sound
        (λ w hw k. G-map (put_ok s ap' dest w (λ σ. value s.world σ.env w v) (freeze_ok s ty w v hw k)) λ L q σ e o r. H-width ty _ hw (q σ e o r))
        (λ n e L σ f o r. H-no-width ty n _ e)
    kind_ok dest (InstKind.atomic_load ty p) sound = atomic_load_ok s ap' dest ty p sound
    kind_ok dest (InstKind.atomic_store ty v p) sound = atomic_store_ok s ty v p sound
    kind_ok dest (InstKind.cmpxchg ty p c n) (sound, good) = cmpxchg_ok s ap' dest ty p c n sound good
    kind_ok dest (InstKind.extract_value v k) sound = extract_ok s ap' dest v k
    kind_ok dest InstKind.fence sound = G-skip λ σ e o r. H-ok _ (record { frame = e; runs = runs_nil s; rel = r })

    abbrev pub Goods : List Inst → Type 0
    Goods is = (i : Inst) → In i is → Good i.dest i.kind

    pub insts_ok : (is : List Inst) → Goods is → Gives (each (gen_inst (ctx s)) is) (StepOk s (run_insts (given s) is))
    unfolding each gen_inst run_insts run_inst
    insts_ok [] good = G-skip λ σ e o r. H-ok _ (record { frame = e; runs = runs_nil s; rel = r })
    insts_ok (i ∷ is) good = G-then _ (kind_ok i.dest i.kind (good i here)) λ A pa. G-map (insts_ok is (λ j h. good j (there h))) λ B pb σ e o r.
        H-bind _ (pa σ e o r) λ τ a. H-map (pb τ a.frame o a.rel) λ τ' b. then_ends s a.runs b
