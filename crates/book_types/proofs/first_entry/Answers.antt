-- `book_types::first_entry` meets its contract: the entry in front is the first kind with the first word.
use Rattle.std.proofs.Common.{ℕ, ◌≡◌, ◌∙◌, refl, List, [], ◌∷◌, Some, None, slice_get, arith}
use Rattle.book.specs.Entry.{entries}
use Rattle.book_types.specs.Length.{front_of}
use Rattle.book_types.proofs.first_entry.Goals as goal

no_kind : (ks ws : List ℕ) → None ≡ slice_get ks 0 → None ≡ front_of (entries ks ws)
unfolding front_of entries
no_kind [] ws e = refl
no_kind (k ∷ ks) ws e = absurd (let z : ◌≡◌ {A = ℕ} 0 1 = cc in omega arith)

no_word : (ks ws : List ℕ) → None ≡ slice_get ws 0 → None ≡ front_of (entries ks ws)
unfolding front_of entries
no_word [] ws e = refl
no_word (k ∷ ks) [] e = refl
no_word (k ∷ ks) (w ∷ ws) e = absurd (let z : ◌≡◌ {A = ℕ} 0 1 = cc in omega arith)

both_there : (ks ws : List ℕ) (k w : ℕ) → Some k ≡ slice_get ks 0 → Some w ≡ slice_get ws 0 → Some (k, w) ≡ front_of (entries ks ws)
unfolding front_of entries
both_there [] ws k w e f = absurd (let z : ◌≡◌ {A = ℕ} 0 1 = cc in omega arith)
both_there (j ∷ ks) [] k w e f = absurd (let z : ◌≡◌ {A = ℕ} 0 1 = cc in omega arith)
both_there (j ∷ ks) (v ∷ ws) k w e f = let p : k ≡ j = cc in let q : w ≡ v = cc in rw (p, q)

pub returns-in_err-first : goal.returns-in_err-first
returns-in_err-first c = c.from_residual.ensures ∙ no_kind _ _ c.in_err-first.ensures.value

pub returns-in_err-first-2 : goal.returns-in_err-first-2
returns-in_err-first-2 c = c.from_residual-in_err-first-2.ensures ∙ no_word c.args.kinds.now _ c.in_err-first-2.ensures.value

pub returns : goal.returns
returns c = both_there _ _ _ _ c.in_ok-first.ensures.value c.in_ok-first-2.ensures.value
