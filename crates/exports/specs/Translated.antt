-- The translator's answer in numbers.
use Rattle.std.specs.Prelude.{ℕ, ◌≡◌, List, Ok, Err}
use Rattle.std.proofs.Common.{subst}
use Rattle.book.specs.Refusal.{number_of}
use Rattle.book.specs.declared.refusal.Refusal.{Refusal}
use Rattle.lowering.specs.Translate.{Translating}
use Rattle.translate.specs.Reply.{Answers, Answer}
use Rattle.gen_passes.specs.Reply.{Reply}
use Rattle.gen_passes.specs.declared.Translation.{Translation}

module _ (counter : ℕ) (p : Translating) (r : Reply) (w k o : List ℕ) (a : Answer counter p r w k o) where
  pub accepted_is : (t : Translation) → r ≡ Ok t → Answers counter p 0 t.lines t.counter w k o
  accepted_is t h = subst (λ (q : Reply). Answer counter p q w k o) h a

  pub refused_is : (e : Refusal) → r ≡ Err e → Answers counter p (number_of e) 0 counter w k o
  refused_is e h = subst (λ (q : Reply). Answer counter p q w k o) h a
