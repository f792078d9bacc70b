-- Where lines lead that end a block: to the label of the block that the source comes to, or to the same return.
use Rattle.std.specs.Prelude.{ℕ, suc, ◌≤◌, ◌≡◌, List, [], ◌∷◌, ◌++◌, drop}
use Rattle.std.proofs.Common.{arith, ◌∙◌, append_assoc}
use Rattle.assembly.specs.Line.{Line}
use Rattle.machine.specs.State.{Frame}
use Rattle.machine.specs.Run.{State, state, running, returned}
use Rattle.manual.specs.State.{Source}
use Rattle.manual.specs.Term.{Stand}
use Rattle.agreement.specs.Setup.{Setup}
use Rattle.agreement.specs.Reach.{Reaches, next, Runs}
use Rattle.agreement.specs.Relation.{Rel}

module _ (s : Setup) where
  -- at a block's label, with n block labels passed and no operand
  pub record Arrives (x : State) (n b : ℕ) (σ : Source) : Type 0 where
    pub pos : ℕ
    pub rest : List Line
    pub frame : Frame
    pub here : drop pos s.lines ≡ Line.block_label b ∷ rest
    pub way : Reaches s x (running (state pos frame [] n))
    pub rel : Rel s σ frame

  -- returned, with at most n block labels passed, and the stack pointer found at entry
  pub record Returns (x : State) (n v : ℕ) (σ : Source) : Type 0 where
    pub frame : Frame
    pub labels : ℕ
    pub within : labels ≤ n
    pub way : Reaches s x (returned v frame labels)
    pub memory_eq : frame.memory ≡ σ.memory
    pub calls_eq : frame.calls ≡ σ.calls
    pub sp_eq : frame.sp ≡ s.base

  abbrev pub Goes : State → ℕ → Stand → Type 0
  Goes x n (Stand.at b σ) = Arrives x n b σ
  Goes x n (Stand.gave v σ) = Returns x n v σ

  -- what has returned has returned with one block more
  pub later : {x : State} {n v : ℕ} {σ : Source} → Returns x n v σ → Returns x (suc n) v σ
  later a = record { frame = a.frame; labels = a.labels; within = let h = a.within in omega arith; way = a.way; memory_eq = a.memory_eq; calls_eq = a.calls_eq; sp_eq = a.sp_eq }

  pub before : {x y : State} (n : ℕ) (t : Stand) → Reaches s x (running y) → Goes y n t → Goes x n t
  before n (Stand.at b σ) w a = record { pos = a.pos; rest = a.rest; frame = a.frame; here = a.here; way = next s w a.way; rel = a.rel }
  before n (Stand.gave v σ) w a = record { frame = a.frame; labels = a.labels; within = a.within; way = next s w a.way; memory_eq = a.memory_eq; calls_eq = a.calls_eq; sp_eq = a.sp_eq }

  pub record Lands (L : List Line) (e : Frame) (t : Stand) : Type 0 where
    pub lands : (p n : ℕ) (k : List Line) → drop p s.lines ≡ L ++ k → Goes (state p e [] n) n t

  pub then_lands : {L M : List Line} {e e₁ : Frame} {t : Stand} → Runs s L e [] e₁ [] → Lands M e₁ t → Lands (L ++ M) e t
  then_lands {L} {M} {t = t} a b = record {
    lands = λ p n k h.
        let c = a.from p n (M ++ k) (h ∙ append_assoc L M k) in before n t c.way (b.lands c.pos n k c.here);
  }
