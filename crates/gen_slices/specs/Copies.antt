-- A copy of the first elements of one list over those of another.
use Rattle.std.specs.Prelude.{ℕ, ◌+◌, ◌<◌, ◌≤◌, ◌≡◌, List, ◌++◌, length, get_or, take, drop, set}
use Rattle.std.proofs.Common.{ap, sym, ◌∙◌, arith}
use Rattle.std.proofs.Math.ListN.{length-take}
use Rattle.std.proofs.Math.Seq.{paste, paste-zero}
use Rattle.std.proofs.lemmas.List.Edits.{length-paste, paste_more}
use Rattle.lowering.specs.Translate.{over}

-- i elements are copied
pub record Copying {A : Type 0} (many : ℕ) (from to₀ to : List A) (i : ℕ) : Type 0 where
  pub within : i ≤ many
  pub is : to ≡ paste to₀ 0 from i

module _ {A : Type 0} {many : ℕ} {from to₀ : List A} (from_reaches : many ≤ length from) (to_reaches : many ≤ length to₀) where
  pub copy_long : {to : List A} {i : ℕ} → Copying many from to₀ to i → length to ≡ length to₀
  copy_long {to} {i} c = ap length c.is ∙ length-paste to₀ 0 from i (omega (arith, c.within, to_reaches)) (omega (arith, c.within, from_reaches))

  pub copy_more : {to : List A} {i : ℕ} {x : A} → Copying many from to₀ to i → i < many → x ≡ get_or from i x → Copying many from to₀ (set to i x) (i + 1)
  copy_more {to} {i} {x} c l e =
      let at : 0 + i ≡ i = omega arith in
      record {
        within = omega arith;
        is = ap (λ (ys : List A). set ys i x) c.is
            ∙ ap (λ (j : ℕ). set (paste to₀ 0 from i) j x) (sym at)
            ∙ ap (set (paste to₀ 0 from i) (0 + i)) e
            ∙ paste_more to₀ 0 from i x (omega (arith, to_reaches)) (omega (arith, from_reaches));
      }

  pub copy_done : {to : List A} {i : ℕ} → Copying many from to₀ to i → many ≤ i → to ≡ take many from ++ drop many to₀
  copy_done {to} {i} c l =
      let e : i ≡ many = omega (arith, c.within) in
      let n : 0 + many ≡ many = omega arith in
      c.is ∙ ap (paste to₀ 0 from) e ∙ ap (λ (j : ℕ). take many from ++ drop j to₀) n

pub copy_start : {A : Type 0} (many : ℕ) (from to : List A) → Copying many from to to 0
copy_start many from to = record { within = omega arith; is = paste-zero to 0 from }

pub copied : (many : ℕ) (from to : List ℕ) {new : List ℕ} → many ≤ length from → new ≡ take many from ++ drop many to → new ≡ over (take many from) to
unfolding over
copied many from to l e =
    let n : many ≡ length (take many from) = omega (arith, length-take many from) in
    e ∙ ap (λ (j : ℕ). take many from ++ drop j to) n
