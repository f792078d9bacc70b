-- Blocks by their labels: the generator's map has the latest, the source takes the first; where labels are distinct the two are one.
use Rattle.std.specs.Prelude.{ℕ, zero, suc, ◌≡◌, refl, ◌⊎◌, Bool, true, false, List, [], ◌∷◌, ◌++◌, eqb}
use Rattle.std.proofs.Common.{sym, ap, ◌∙◌, subst, inl, inr, ⊎_elim, eqb-true, eq-eqb, ne_eqb}
use Rattle.std.proofs.Math.Option.{some}
use Rattle.book.specs.Ast.{BasicBlock}
use Rattle.book.specs.Rule.{find, pick}
use Rattle.machine.specs.State.{cell_at}
use Rattle.lowering.specs.Context.{block_map}
use Rattle.lowering.specs.Places.{lookup_cons}
use Rattle.manual.specs.Run.{go}
use Rattle.agreement.specs.Lists.{none_some, In, here, there}
use Rattle.agreement.specs.Names.{Stands, stands_left, stands_right, apart, distinct_right}
use Rattle.agreement.specs.Naming.{Distinct}
use Rattle.book.specs.Map.{Map, lookup}

-- ---- a block that is found is one of them
pub block_found : (b : ℕ) (k : BasicBlock) (bs : List BasicBlock) (m : Map BasicBlock) → lookup b (block_map bs m) ≡ some k → (In k bs × (k.label ≡ b)) ⊎ (lookup b m ≡ some k)
unfolding block_map
block_found b k [] m h = inr h
block_found b k (x ∷ bs) m h =
    ⊎_elim (λ q. inl (there q.0, q.1))
    (λ q. ⊎_elim (λ e. inl (subst (λ y. In y (x ∷ bs)) e.1 here, sym (e.0 ∙ ap (λ (y : BasicBlock). y.label) e.1))) inr (lookup_cons b x.label x k m q))
    (block_found b k bs ((x.label, x) ∷ m) h)

-- ---- labels of blocks
pub distinct_nil : Distinct []
unfolding Distinct cell_at
distinct_nil i j x p q = none_some x p

pub distinct_cons : (y : ℕ) (l : List ℕ) → Distinct l → (Stands y l → ⊥) → Distinct (y ∷ l)
unfolding Distinct cell_at
distinct_cons y l d n zero zero x p q = refl
distinct_cons y l d n zero (suc j) x p q = absurd (n (record { place = j; stands = q ∙ sym p }))
distinct_cons y l d n (suc i) zero x p q = absurd (n (record { place = i; stands = p ∙ sym q }))
distinct_cons y l d n (suc i) (suc j) x p q = ap suc (d i j x p q)

stands_first : (x : ℕ) → Stands x (x ∷ [])
unfolding cell_at
stands_first x = record { place = 0; stands = refl }

unfoldable pub labels_of : List BasicBlock → List ℕ
labels_of [] = []
labels_of (k ∷ ks) = (k.label ∷ []) ++ labels_of ks

label_in_lem : {k : BasicBlock} {bs : List BasicBlock} → In k bs → Stands k.label (labels_of bs)
unfolding labels_of
label_in_lem {bs = []} x'' = elim x'' [ ]
label_in_lem {bs = k ∷ bs} here = stands_left (k.label ∷ []) (labels_of bs) (stands_first k.label)
label_in_lem {bs = j ∷ bs} (there h) = stands_right (j.label ∷ []) (labels_of bs) (label_in_lem h)

-- where labels are distinct, a block is the first with its label
pub find_in : {k : BasicBlock} (bs : List BasicBlock) → Distinct (labels_of bs) → In k bs → find (λ (x : BasicBlock). x.label) k.label bs ≡ some k
unfolding labels_of find
find_in {k = k} [] d x'' = elim x'' [ ]
find_in (k ∷ bs) d here = rw (eq-eqb k.label k.label refl) refl
find_in {k} (j ∷ bs) d (there h) =
    let n : eqb j.label k.label ≡ false = ne_eqb j.label k.label (λ e. apart (j.label ∷ []) (labels_of bs) d (rw e (stands_first k.label)) (label_in_lem h)) in
    rw n (find_in bs (distinct_right (j.label ∷ []) (labels_of bs) d) h)

-- what is found is one of them
pub find_some : (b : ℕ) (k : BasicBlock) (bs : List BasicBlock) → find (λ (x : BasicBlock). x.label) b bs ≡ some k → In k bs × (k.label ≡ b)
unfolding find
find_some b k [] h = none_some k h
find_some b k (x ∷ bs) h = go (eqb x.label b) refl (find_some b k bs) h
  where
    go : (t : Bool) → eqb x.label b ≡ t → (find (λ (y : BasicBlock). y.label) b bs ≡ some k → In k bs × (k.label ≡ b)) → pick t (some x) (find (λ (y : BasicBlock). y.label) b bs) ≡ some k → In k (x ∷ bs) × (k.label ≡ b)
    go true t ih h = let z : x ≡ k = cc in (subst (λ y. In y (x ∷ bs)) z here, ap (λ (y : BasicBlock). y.label) (sym z) ∙ eqb-true x.label b t)
    go false t ih h = let (i, e) = ih h in (there i, e)
