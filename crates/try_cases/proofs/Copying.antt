-- A copy to the front of a slice, an element at a time.
use Rattle.std.proofs.Common.{◌≡◌, ℕ, suc, ◌+◌, ◌<◌, ◌≤◌, List, [], ◌∷◌, ◌++◌, length, get_or, take, drop, set, sym, ap, ◌∙◌, add-one, arith, length-take-le, drop-cons, take-suc}
use lib.Seq.{set_at, append_snoc, take-length}

-- the element at i is put behind those before it
pub copied_more : (s d : List ℕ) (i z v : ℕ) → i < length s → length s ≤ length d → get_or s i z ≡ v
    → set (take i s ++ drop i d) i v ≡ take (i + 1) s ++ drop (i + 1) d
copied_more s d i z v h k e =
    rw (add-one i)
    (ap (λ (r : List ℕ). set (take i s ++ r) i v) (drop-cons d i 0 (omega arith))
    ∙ set_at (take i s) (get_or d i 0) (drop (suc i) d) v i (length-take-le i s (omega arith))
    ∙ sym (append_snoc (take i s) v (drop (suc i) d))
    ∙ ap (λ (r : List ℕ). r ++ drop (suc i) d) (ap (λ (x : ℕ). take i s ++ (x ∷ [])) (sym e) ∙ sym (take-suc s i z h)))

-- all are put
pub copied_all : (s d t : List ℕ) (i : ℕ) → t ≡ take i s ++ drop i d → i ≡ length s → t ≡ s ++ drop (length s) d
copied_all s d t i e h = e ∙ ap (λ (n : ℕ). take n s ++ drop n d) h ∙ ap (λ (r : List ℕ). r ++ drop (length s) d) (take-length s)
