-- What writing bytes at a place leaves behind, where it is known that all bytes fit. More than those asked for may be stored, up to an end that is reached in the end:
-- what is stored later stands over it.
use Rattle.std.specs.Prelude.{ℕ, suc, ◌+◌, ◌≤◌, ◌≡◌, refl, List, [], ◌∷◌, ◌++◌, length, take, drop, set}
use Rattle.std.proofs.Common.{ap, ◌∙◌, append_assoc, arith, le-leb, length-append, drop-set-lt, length-take-le}
use Rattle.std.proofs.lemmas.List.Edits.{sets, sets-eq}
use Rattle.std.proofs.Math.Seq.{length-sets, take-length, take-append-add}
use Rattle.std.proofs.lemmas.List.{take-append-le}
use Rattle.print_pen.specs.Pen.{Put}
use Rattle.print_pen.specs.declared.Pen.{Pen}
use Rattle.print_pen.specs.declared.Pen.TheVariants.{Writing}

-- the bytes bs were written from the place `at` on into the text x; y is the text then, and r the place behind them
pub record Wrote (bs : List ℕ) (at end : ℕ) (x y : List ℕ) (r : ℕ) : Type 0 where
  pub place : r ≡ at + length bs
  pub long : length y ≡ length x
  pub front : take r y ≡ take at x ++ bs
  pub back : drop end y ≡ drop end x

drop_sets : (bs x : List ℕ) (at end : ℕ) → at + length bs ≤ end → drop end (sets x at bs) ≡ drop end x
drop_sets [] x at end h = refl
drop_sets (b ∷ bs) x at end h = drop_sets bs (set x at b) (suc at) end (omega arith) ∙ drop-set-lt end x at b (omega arith)

-- bytes that begin with bs are stored
module _ (bs all x : List ℕ) (at end : ℕ) (short : length bs ≤ length all) (same : take (length bs) all ≡ bs) (room : at + length all ≤ end) (inside : end ≤ length x) where
  before : length (take at x) ≡ at
  before = length-take-le at x (omega arith)

  front_over : take (at + length bs) (sets x at all) ≡ take at x ++ bs
  front_over =
      let e = sets-eq all x at (omega arith) in
      let f = take-append-le (at + length bs) (take at x ++ all) (drop (at + length all) x) (omega (arith, length-append (take at x) all, before)) in
      let g = take-append-add (take at x) all (length bs) in
      ap (take (at + length bs)) e ∙ f ∙ (rw before at g) ∙ ap (λ (l : List ℕ). take at x ++ l) same

  pub wrote_over : Wrote bs at end x (sets x at all) (at + length bs)
  wrote_over = record { place = refl; long = length-sets x at all; front = front_over; back = drop_sets all x at end room }

-- they alone are stored
pub wrote_all : (bs x : List ℕ) (at end : ℕ) → at + length bs ≤ end → end ≤ length x → Wrote bs at end x (sets x at bs) (at + length bs)
wrote_all bs x at end h g = wrote_over bs bs x at end (omega arith) (take-length bs) h g

pub wrote_sets : {bs x y : List ℕ} {at r : ℕ} (end : ℕ) → r ≡ at + length bs → y ≡ sets x at bs → at + length bs ≤ end → end ≤ length x → Wrote bs at end x y r
wrote_sets {bs} {x} {y} {at} {r} end e f h g = rw (e, f) (wrote_all bs x at end h g)

-- one piece after the other
pub then_wrote : {bs cs x y z : List ℕ} {at end q r : ℕ} → Wrote bs at end x y q → Wrote cs q end y z r → Wrote (bs ++ cs) at end x z r
then_wrote {bs} {cs} {x} {y} {z} {at} {end} {q} {r} h g = record {
  place = omega (arith, h.place, g.place, length-append bs cs);
  long = g.long ∙ h.long;
  front = g.front ∙ ap (λ (l : List ℕ). l ++ cs) h.front ∙ append_assoc (take at x) bs cs;
  back = g.back ∙ h.back;
}

pub wrote_same : {bs cs x y : List ℕ} {at end r : ℕ} → bs ≡ cs → Wrote bs at end x y r → Wrote cs at end x y r
wrote_same e h = rw e at h

-- ---- with a pen
-- a writing pen, where the bytes fit
pub pen_wrote : {bs x y : List ℕ} {q : Pen} {at : ℕ} (end : ℕ) → Put bs (Writing at) x y q → at + length bs ≤ end → end ≤ length x
    → (q ≡ Writing (at + length bs)) × Wrote bs at end x y (at + length bs)
pen_wrote {bs} {x} {y} {q} {at} end h f g =
    let l : at + length bs ≤ length x = omega arith in
    (h.says ∙ rw (le-leb _ _ l), rw (h.text l) (wrote_all bs x at end f g))
