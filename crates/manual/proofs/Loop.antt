-- The conditions at work: a loop that counts for ever passes n blocks, for every n, from every state.
use Rattle.std.specs.Prelude.{ℕ, ◌+◌, ◌%◌, ◌^◌, ◌≡◌, [], ◌∷◌}
use Rattle.std.proofs.Math.Path.{refl, ap, subst₂}
use Rattle.std.proofs.Common.{sym, ◌∙◌, inl, arith, lit<}
use Rattle.std.proofs.Math.Option.{none, some}
use Rattle.book.specs.Ast.{Ty, Value, BinOp, InstKind, Inst, Terminator, BasicBlock}
use Rattle.book.specs.Result.{ok}
use Rattle.layout.specs.Frame.{no_frame}
use Rattle.machine.specs.State.{World}
use Rattle.manual.specs.State.{Cell, Given, Source, put}
use Rattle.manual.specs.Inst.{run_inst}
use Rattle.manual.specs.Term.{Stand}
use Rattle.manual.specs.Run.{run_block, run}
use Rattle.manual.specs.Open.{open_manual}
use Rattle.manual.specs.Goes.{Scalar, Integer, Reads, Goes}
use Rattle.manual.specs.GoesOn.{From, Other, Enters, GoesTerm, GoesInsts, GoesBody, GoesBlock}
use Rattle.manual.specs.Going.{ok_same, Going}
use Rattle.manual.proofs.Progress.{run_goes, by_invariant}

-- names: 0 the function, 1 and 2 its blocks, 3 and 4 its values
unfoldable pub next : Inst
next = record { dest = some 4; kind = InstKind.bin BinOp.add (Ty.int 32) (Value.local 3) (Value.int 1) }

unfoldable pub first : BasicBlock
first = record { label = 1; insts = []; term = Terminator.br none 2 none }

-- %3 = phi i32 [ 0, %1 ], [ %4, %2 ]; %4 = add i32 %3, 1; br label %2
unfoldable pub loop : BasicBlock
unfolding next
loop =
    record {
      label = 2;
      insts = record { dest = some 3; kind = InstKind.phi (Ty.int 32) (record { val = Value.int 0; label = 1 } ∷ record { val = Value.local 4; label = 2 } ∷ []) } ∷ next ∷ [];
      term = Terminator.br none 2 none;
    }

unfoldable pub counts : World → Given
unfolding first loop
counts world = record { names = []; structs = []; function = record { name = 0; ret_ty = Ty.void; params = []; blocks = first ∷ loop ∷ [] }; frame = no_frame; world = world; base = 0 }

one_two : ¬ (◌≡◌ {A = ℕ} 1 2)
one_two e = absurd (omega arith)

module _ (world : World) where
  -- in the loop the phi's value is set
  data At : ℕ → Source → Type 0 where
    outside : {σ : Source} → At 1 σ
    inside : {σ : Source} {n : ℕ} → σ.env 3 ≡ some (Cell.one 32 n) → At 2 σ

  after : (n : ℕ) → Source → Source
  after n σ = put (some 4) 32 ((n + 1) % 2 ^ 32) σ

  added : (n : ℕ) (σ : Source) → σ.env 3 ≡ some (Cell.one 32 n) → run_inst (counts world) next σ ≡ ok (after n σ)
  unfolding open_manual counts next after
  added n σ h = rw h refl

  goes : (b : ℕ) (σ : Source) → At b σ → GoesBlock (counts world) b σ
  unfolding open_manual counts next after first loop
  goes b σ At.outside = (_, refl, GoesBody.end (GoesTerm.jump (_, refl, Enters.phi refl (From.here refl) Scalar.int (Reads.int (inl (lit< tt))) (Enters.other Other.plain))))
  goes b σ (At.inside {n = n} h) = (
    _,
    refl,
    GoesBody.phi refl (GoesBody.other Other.plain (GoesInsts.step (Goes.bin Integer.int (Reads.local h) (Reads.int (inl (lit< tt))) tt) λ τ e.
        let set : τ.env 4 ≡ some (Cell.one 32 ((n + 1) % 2 ^ 32)) = ap (λ (z : Source). z.env 4) (sym (ok_same (sym (added n σ h) ∙ e))) in
        GoesInsts.end (GoesTerm.jump (_, refl, Enters.phi refl (From.later one_two (From.here refl)) Scalar.int (Reads.local set) (Enters.other Other.plain))))),
  )

  at_same : {b c : ℕ} {ρ τ : Source} → ok (Stand.at b ρ) ≡ ok (Stand.at c τ) → (b ≡ c) × (ρ ≡ τ)
  at_same e = (cc, cc)

  kept : (b : ℕ) (σ : Source) (c : ℕ) (τ : Source) → At b σ → run_block (counts world) b σ ≡ ok (Stand.at c τ) → At c τ
  unfolding open_manual counts next after first loop
  kept b σ c τ At.outside e = let (h, i) = at_same e in subst₂ (λ d υ. At d υ) h i (At.inside refl)
  kept b σ c τ (At.inside {n = n} h) e =
      let r : run_block (counts world) 2 σ ≡ ok (Stand.at 2 (put (some 3) 32 ((n + 1) % 2 ^ 32) (after n σ))) = rw h refl in
      let (k, i) = at_same (sym r ∙ e) in subst₂ (λ d υ. At d υ) k i (At.inside refl)

  pub loop_goes : (σ : Source) (n : ℕ) → Going (run (counts world) n (Stand.at 1 σ))
  unfolding counts first loop next
  loop_goes σ n = run_goes (counts world) (tt, ((tt, (tt, tt)), tt)) (Stand.at 1 σ) n (by_invariant (counts world) At goes kept (Stand.at 1 σ) n At.outside)
