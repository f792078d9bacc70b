-- Words that are 0.
use Rattle.std.specs.Prelude.{ℕ, ◌≡◌, refl, Bool, true, false, List, ltb, length, get_or, replicate}
use Rattle.std.proofs.Common.{ap, ◌∙◌, arith, ltb-true, ltb-false}
use Rattle.std.proofs.lemmas.List.{length-replicate, get_or-replicate}
use Rattle.std.proofs.Math.ListN.{get_or-eq_default}

abbrev pub Blank : List ℕ → Type 0
Blank work = (i : ℕ) → get_or work i 0 ≡ 0

-- words that were cleared
module _ (n : ℕ) (work : List ℕ) (z : work ≡ replicate n 0) where
  pub clear_long : length work ≡ n
  clear_long = ap length z ∙ length-replicate n 0

  pub clear_blank : Blank work
  clear_blank i = rw z (go (ltb i n) refl)
    where
      go : (b : Bool) → ltb i n ≡ b → ◌≡◌ {A = ℕ} (get_or (replicate n 0) i 0) 0
      go true e = get_or-replicate n i 0 0 (ltb-true i n e)
      go false e = get_or-eq_default (replicate n 0) 0 (omega (arith, ltb-false i n e, length-replicate {A = ℕ} n 0))
