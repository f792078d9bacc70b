-- What a call answers, in document 01's numbers.
use Rattle.std.specs.Prelude.{ℕ, ◌%◌, ◌^◌, ◌≡◌, List, map, length, replicate, Ok, Err}
use Rattle.std.proofs.Math.Path.{refl, subst}
use Rattle.std.proofs.Common.{sym, ap, ◌∙◌, arith}
use Rattle.std.proofs.Math.Bool.{true}
use Rattle.std.proofs.Math.Nat.{mod-eq_of_lt}
use Rattle.book.specs.Result.{Result, ok, err}
use Rattle.assembly.specs.Number.{operand_of}
use Rattle.lowering.specs.Gen.{Out}
use Rattle.lowering.proofs.Fits.{Fits, generated_fits, operands_same}
use Rattle.lowering.specs.Numbers.{is_refusal, refusal_range, generated_numbered, refused_numbered}
use Rattle.lowering.specs.Translate as definition
use Rattle.lowering.specs.Translate.{Translating, generated, translation_number, translation_lines, translation_counter, replied, translate}
use Rattle.gen_lines.specs.Puts.{operand_word}
use Rattle.gen_passes.specs.Passes.{Answered, room}
use Rattle.book.specs.Refusal as refusal
use Rattle.book.specs.declared.refusal.Refusal.{Refusal}
use Rattle.gen_passes.specs.Reply.{Reply, number_of, lines_of, counter_of, Numbered}
use Rattle.gen_passes.specs.declared.Translation.{Translation}
use Rattle.gen_slices.specs.Clear.{clear_long}

-- the refusal's number, 0 for none; how many lines, 0 where refused; the next counter, the given one where refused; and the lent slices after the call: each
-- is what the definition of the whole call says
pub record Answers (counter : ℕ) (p : Translating) (e n c : ℕ) (w k o : List ℕ) : Type 0 where
  pub number : e ≡ translation_number p.reply
  pub lines : n ≡ translation_lines p.reply
  pub next : c ≡ translation_counter counter p.reply
  pub work : w ≡ p.work
  pub kinds : k ≡ p.kinds
  pub operands : o ≡ p.operands

-- those of the code's answer
abbrev pub Answer : (counter : ℕ) → Translating → Reply → (work kinds operands : List ℕ) → Type 0
Answer counter p r work kinds operands = Answers counter p (number_of r) (lines_of r) (counter_of counter r) work kinds operands

-- the words of an accepted answer are its numbers
same_operands : (o : Out) → Fits o → map operand_word o.lines ≡ map operand_of o.lines
same_operands o f = operands_same o.lines f.operands

module _ (book names : List ℕ) (counter : ℕ) (work ks os : List ℕ) {cleared : List ℕ} (z : cleared ≡ replicate (length work) 0) where
  abbrev lent : Result Out
  lent = generated book names counter (length work) (room ks os)

  long : length cleared ≡ length work
  long = clear_long (length work) cleared z

  -- what was answered, with the work words cleared again
  module _ (r : Reply) (used work' ks' os' : List ℕ) (a : Answered (generated book names counter (length cleared) (room ks os)) r ks os ks' os')
      (l : length used ≡ length cleared) (y : work' ≡ replicate (length used) 0) where
    all : work' ≡ replicate (length work) 0
    all = y ∙ ap (λ (n : ℕ). replicate n 0) (l ∙ long)

    answered : Answered lent r ks os ks' os'
    answered = subst (λ (n : ℕ). Answered (generated book names counter n (room ks os)) r ks os ks' os') long a

    pub reply_cleared : Answer counter (translate book names counter work ks os) r work' ks' os'
    unfolding translate replied translation_number translation_lines translation_counter
    reply_cleared = go lent refl answered
      where
        go : (g : Result Out) → lent ≡ g → Answered g r ks os ks' os' → Answer counter (replied lent work ks os) r work' ks' os'
        go (ok out) e h =
            let f = generated_fits book names counter (length work) (room ks os) out e in
            let n : out.next % 2 ^ 64 ≡ out.next = mod-eq_of_lt f.next in
            rw (e, h.reply, all, h.kinds, h.operands, same_operands out f, n)
            (record { number = refl; lines = refl; next = refl; work = refl; kinds = refl; operands = refl })
        go (err x) e h =
            rw (e, h.reply, h.number, all, h.kinds, h.operands)
            (record { number = refl; lines = refl; next = refl; work = refl; kinds = refl; operands = refl })

    -- a refusal has one of document 01's numbers
    pub reply_numbered : Numbered r
    reply_numbered = go lent refl answered
      where
        go : (g : Result Out) → lent ≡ g → Answered g r ks os ks' os' → Numbered r
        go (ok out) e h = rw h.reply tt
        go (err x) e h = rw (h.reply, h.number) ((generated_numbered book names counter (length work) (room ks os)).numbered x e)

-- ---- the definition's reply to a call that was answered so
module _ (book names : List ℕ) (counter : ℕ) (work ks os : List ℕ) (r : Reply) (w k o : List ℕ)
    (a : Answer counter (translate book names counter work ks os) r w k o) where
  abbrev reply : definition.Translation
  reply = (translate book names counter work ks os).reply

  pub accepted_reply : (t : Translation) → r ≡ Ok t → reply ≡ definition.Translation.accepted t.lines t.counter
  unfolding translation_number translation_lines translation_counter
  accepted_reply t e =
      go reply refl (ap number_of (sym e) ∙ a.number) (ap lines_of (sym e) ∙ a.lines) (ap (counter_of counter) (sym e) ∙ a.next)
    where
      go : (d : definition.Translation) → reply ≡ d → 0 ≡ translation_number d → t.lines ≡ translation_lines d → t.counter ≡ translation_counter counter d
          → d ≡ definition.Translation.accepted t.lines t.counter
      go (definition.Translation.accepted m c) h i j l = rw (j, l)
      go (definition.Translation.refused x) h i j l =
          absurd (let s = refusal_range x (refused_numbered book names counter work ks os x h) in omega arith)

  pub refused_reply : Numbered r → (x : Refusal) → r ≡ Err x → reply ≡ definition.Translation.refused (refusal.number_of x)
  unfolding translation_number
  refused_reply s x e = go reply (ap number_of (sym e) ∙ a.number)
    where
      numbered : is_refusal (refusal.number_of x) ≡ true
      numbered = subst Numbered e s

      go : (d : definition.Translation) → refusal.number_of x ≡ translation_number d → d ≡ definition.Translation.refused (refusal.number_of x)
      go (definition.Translation.accepted m c) i = absurd (let l = refusal_range (refusal.number_of x) numbered in omega arith)
      go (definition.Translation.refused y) i = rw i
