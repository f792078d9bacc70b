-- "no label line occurs twice": then a jump finds the line that prints its label.
use Prim.Native.Nat.{ℕ, zero, suc}
use Rattle.std.specs.Prelude.{◌≡◌, Bool}
use Rattle.std.proofs.Math.Path.{refl, ap}
use Rattle.std.proofs.Common.{sym, ◌∙◌}
use Rattle.std.proofs.Math.Bool.{true, false}
use Rattle.std.proofs.lemmas.Bool.{false≢true}
use Rattle.std.proofs.Math.Option.{Option, none, some}
use mathlib.Core.List.{List, [], ◌∷◌}
use Rattle.std.proofs.Math.ListN.{drop}
use Rattle.names.specs.Texts.{same_iff}
use Rattle.machine.specs.Labels.{Placed, moved, prints, label_of, find}
use Rattle.agreement.specs.Lists.{none_some}
use Rattle.agreement.specs.Naming.{LabelsOnce}

module _ (names : List (List ℕ)) where
  prints_some : (t : List ℕ) (u : Option (List ℕ)) → prints t u ≡ true → u ≡ some t
  unfolding prints
  prints_some t none e = absurd (false≢true e)
  prints_some t (some u) e = ap {B = Option (List ℕ)} some (sym ((same_iff t u).0 e))

  pub some_prints : (t : List ℕ) (u : Option (List ℕ)) → u ≡ some t → prints t u ≡ true
  unfolding prints
  some_prints t u e = rw e ((same_iff t t).1 refl)

  record Found (t : List ℕ) (prog : List Placed) : Type 0 where
    place : ℕ
    line : Placed
    rest : List Placed
    finds : find names t prog ≡ some place
    stands : drop place prog ≡ line ∷ rest
    prints_it : label_of names line ≡ some t

  found : (t : List ℕ) (prog : List Placed) (p : ℕ) (l : Placed) (k : List Placed) → drop p prog ≡ l ∷ k → label_of names l ≡ some t → Found t prog
  unfolding find moved
  found t [] zero l k e h = none_some l (ap first e)
    where
      first : List Placed → Option Placed
      first [] = none
      first (x ∷ xs) = some x
  found t [] (suc p) l k e h = none_some l (ap first e)
    where
      first : List Placed → Option Placed
      first [] = none
      first (x ∷ xs) = some x
  found t (x ∷ xs) p l k e h = go (λ q j i. found t xs q l j i h) (prints t (label_of names x)) refl p k e
    where
      go : ((q : ℕ) (j : List Placed) → drop q xs ≡ l ∷ j → Found t xs) → (b : Bool) → prints t (label_of names x) ≡ b → (p : ℕ) (k : List Placed) → drop p (x ∷ xs) ≡ l ∷ k → Found t (x ∷ xs)
      go ih true b p k e = record { place = 0; line = x; rest = xs; finds = rw b refl; stands = refl; prints_it = prints_some t (label_of names x) b }
      go ih false b zero k e =
          let i : x ≡ l = cc in
          absurd (false≢true (sym b ∙ some_prints t (label_of names x) (rw i h)))
      go ih false b (suc p) k e =
          let r = ih p k e in
          record { place = suc r.place; line = r.line; rest = r.rest; finds = rw (b, r.finds) refl; stands = r.stands; prints_it = r.prints_it }

  -- the one line with a label is found
  pub found_there : (prog : List Placed) → LabelsOnce names prog → (t : List ℕ) (p : ℕ) (l : Placed) (k : List Placed) → drop p prog ≡ l ∷ k → label_of names l ≡ some t → find names t prog ≡ some p
  unfolding LabelsOnce
  found_there prog u t p l k e h =
      let r = found t prog p l k e h in
      let same_place : r.place ≡ p = u r.place p r.line l r.rest k t r.stands e r.prints_it h in
      rw (← same_place) r.finds
