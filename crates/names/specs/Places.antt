-- Where each name stands in the bytes.
use Rattle.std.specs.Prelude.{ℕ, zero, suc, ◌+◌, ◌<◌, ◌≤◌, ◌≡◌, refl, true, List, [], ◌∷◌, ◌++◌, length, get_or, take, drop}
use Rattle.std.proofs.Common.{sym, ap, ◌∙◌, arith, add-one, length-append, length-drop, drop-cons, get_or-drop}
use Rattle.std.proofs.Math.Seq.{drop-append-add, take-append_seam, get_or-append_seam}
use Rattle.names.specs.Name.{allowed, every_name, join, name_at, start_of, name_from}
use Rattle.names.specs.Tests.{both}
use Rattle.names.specs.Lines.{Names, allowed_bytes, line_of}

pub start_next : (ns : List (List ℕ)) (i : ℕ) → i < length ns → start_of ns (suc i) ≡ start_of ns i + length (name_at ns i) + 1
unfolding start_of name_at
start_next [] i l = absurd (omega arith)
start_next (n ∷ ns) zero l = omega arith
start_next (n ∷ ns) (suc i) l = omega (arith, start_next ns i (omega arith))

drop_start : (ns : List (List ℕ)) (i : ℕ) → i ≤ length ns → drop (start_of ns i) (join ns) ≡ join (drop i ns)
unfolding start_of join
drop_start ns zero l = refl
drop_start [] (suc i) l = absurd (omega arith)
drop_start (n ∷ ns) (suc i) l =
    ap (λ k. drop k (n ++ (10 ∷ join ns))) step ∙ drop-append-add n (10 ∷ join ns) (suc (start_of ns i)) ∙ drop_start ns i (omega arith)
  where
    step : length n + 1 + start_of ns i ≡ length n + suc (start_of ns i)
    step = omega arith

-- from its start: the name, the byte that ends it, and the names behind it
pub at_start_lem : (ns : List (List ℕ)) (i : ℕ) → i < length ns → drop (start_of ns i) (join ns) ≡ name_at ns i ++ (10 ∷ join (drop (suc i) ns))
unfolding join name_at
at_start_lem ns i l = drop_start ns i (omega arith) ∙ ap join (drop-cons ns i [] l)

-- behind the last name the bytes are over
pub start_past : (ns : List (List ℕ)) → start_of ns (length ns) ≡ length (join ns)
unfolding start_of join
start_past [] = refl
start_past (n ∷ ns) = omega (arith, length-append n (10 ∷ join ns), start_past ns)

allowed_at : (ns : List (List ℕ)) → every_name ns ≡ true → (i : ℕ) → i < length ns → allowed (name_at ns i) ≡ true
unfolding every_name name_at
allowed_at [] h i l = absurd (omega arith)
allowed_at (n ∷ ns) h zero l = (both (allowed n) (every_name ns) h).0
allowed_at (n ∷ ns) h (suc i) l = allowed_at ns (both (allowed n) (every_name ns) h).1 i (omega arith)

-- the name n stands at the place `at` of the bytes
pub record Stands (bs : List ℕ) (at : ℕ) (n : List ℕ) : Type 0 where
  pub spelled : take (length n) (drop at bs) ≡ n
  pub closed : get_or bs (at + length n) 0 ≡ 10
  pub inside : at + length n < length bs
  pub from : name_from bs at ≡ n
  pub right : allowed n ≡ true

pub stands : (bs : List ℕ) (ns : List (List ℕ)) → Names bs ns → (i : ℕ) → i < length ns → Stands bs (start_of ns i) (name_at ns i)
unfolding name_from
stands bs ns s i l =
    let n = name_at ns i in
    let r = join (drop (suc i) ns) in
    let ok = allowed_at ns s.ruled i l in
    let e : drop (start_of ns i) bs ≡ n ++ (10 ∷ r) = rw s.joined (at_start_lem ns i l) in
    record {
      spelled = rw e (take-append_seam n (10 ∷ r));
      closed = sym (get_or-drop (start_of ns i) bs (length n) 0) ∙ ap (λ t. get_or t (length n) 0) e ∙ get_or-append_seam n 10 r 0;
      inside = omega (arith, length-drop (start_of ns i) bs, ap length e, length-append n (10 ∷ r));
      from = rw e (line_of n r (allowed_bytes n ok));
      right = ok;
    }

-- a scan of all names goes from each start to the next, and ends with the bytes
pub next_start : (bs : List ℕ) (ns : List (List ℕ)) → Names bs ns → (i : ℕ) → i < length ns
    → start_of ns i + length (name_from bs (start_of ns i)) + 1 ≡ start_of ns (i + 1)
next_start bs ns s i l = rw ((stands bs ns s i l).from, add-one i) (sym (start_next ns i l))

pub last_start : (bs : List ℕ) (ns : List (List ℕ)) → Names bs ns → start_of ns (length ns) ≡ length bs
last_start bs ns s = start_past ns ∙ ap length (sym s.joined)
