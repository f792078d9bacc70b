-- All lines: those of kinds and operands, as many as the shorter of the two lists has.
use Rattle.std.specs.Prelude.{ℕ, ◌+◌, ◌≤◌, ◌<◌, ◌≡◌, refl, List, [], ◌∷◌, ◌++◌, length, get_or, take, drop, min}
use Rattle.std.proofs.Common.{sym, ap, ◌∙◌, append_assoc, append-nil, add-one, arith, length-drop, length-append, drop-cons}
use Rattle.print_pen.specs.Pen.{Put}
use Rattle.print_pen.specs.Write.{Wrote, pen_wrote}
use Rattle.print_pen.specs.declared.Pen.{Pen}
use Rattle.print_pen.specs.declared.Pen.TheVariants.{Writing}

-- the bytes of all lines
abbrev pub printed_all : (ℕ → ℕ → List ℕ) → List ℕ → List ℕ → List ℕ
printed_all one [] xs = []
printed_all one (k ∷ ks) [] = []
printed_all one (k ∷ ks) (x ∷ xs) = one k x ++ printed_all one ks xs

-- ---- over lists
module _ (one : ℕ → ℕ → List ℕ) where
  -- none is left
  pub all_done : (ks xs : List ℕ) (i : ℕ) → min (length ks) (length xs) ≤ i → printed_all one (drop i ks) (drop i xs) ≡ []
  all_done ks xs i h = go (drop i ks) (drop i xs) (omega (arith, length-drop i ks, length-drop i xs))
    where
      go : (l m : List ℕ) → min (length l) (length m) ≡ 0 → printed_all one l m ≡ []
      go [] m e = refl
      go (k ∷ l) [] e = refl
      go (k ∷ l) (x ∷ m) e = absurd (omega arith)

  pub all_step : (ks xs : List ℕ) (i : ℕ) → i < length ks → i < length xs
      → printed_all one (drop i ks) (drop i xs) ≡ one (get_or ks i 0) (get_or xs i 0) ++ printed_all one (drop (i + 1) ks) (drop (i + 1) xs)
  all_step ks xs i h g = rw (drop-cons ks i 0 h, drop-cons xs i 0 g, add-one i)

-- i lines were written from the place s on, and the others fit
pub record Written (one : ℕ → ℕ → List ℕ) (ks xs x : List ℕ) (s end i : ℕ) (y : List ℕ) (at : ℕ) : Type 0 where
  pub room : s + length (printed_all one ks xs) ≤ end
  pub long : length y ≡ length x
  pub rest : at + length (printed_all one (drop i ks) (drop i xs)) ≡ s + length (printed_all one ks xs)
  pub front : take at y ++ printed_all one (drop i ks) (drop i xs) ≡ take s x ++ printed_all one ks xs
  pub back : drop end y ≡ drop end x

pub written_start : (one : ℕ → ℕ → List ℕ) (ks xs x : List ℕ) (s end : ℕ) → s + length (printed_all one ks xs) ≤ end → Written one ks xs x s end 0 x s
written_start one ks xs x s end e = record { room = e; long = refl; rest = refl; front = refl; back = refl }

module _ {one : ℕ → ℕ → List ℕ} {ks xs x : List ℕ} {start end i : ℕ} {y : List ℕ} {at : ℕ} (s : Written one ks xs x start end i y at) where
  pub written_room : i < length ks → i < length xs → at + length (one (get_or ks i 0) (get_or xs i 0)) ≤ end
  written_room h g =
      omega (
        arith,
        s.room,
        s.rest,
        ap length (all_step one ks xs i h g),
        length-append (one (get_or ks i 0) (get_or xs i 0)) (printed_all one (drop (i + 1) ks) (drop (i + 1) xs)),
      )

  pub written_next : (z : List ℕ) (r : ℕ) → i < length ks → i < length xs → Wrote (one (get_or ks i 0) (get_or xs i 0)) at end y z r → Written one ks xs x start end (i + 1) z r
  written_next z r h g t =
      let step = all_step one ks xs i h g in
      let rest = printed_all one (drop (i + 1) ks) (drop (i + 1) xs) in
      record {
        room = s.room;
        long = t.long ∙ s.long;
        rest = omega (arith, s.rest, ap length step, length-append (one (get_or ks i 0) (get_or xs i 0)) rest, t.place);
        front = ap (λ (l : List ℕ). l ++ rest) t.front ∙ append_assoc (take at y) (one (get_or ks i 0) (get_or xs i 0)) rest ∙ ap (λ (l : List ℕ). take at y ++ l) (sym step) ∙ s.front;
        back = t.back ∙ s.back;
      }

  written_end : printed_all one (drop i ks) (drop i xs) ≡ [] → Wrote (printed_all one ks xs) start end x y at
  written_end e = record {
    place = omega (arith, s.rest, ap length e);
    long = s.long;
    front = sym (append-nil (take at y)) ∙ ap (λ (l : List ℕ). take at y ++ l) (sym e) ∙ s.front;
    back = s.back;
  }

  pub written_done : min (length ks) (length xs) ≤ i → Wrote (printed_all one ks xs) start end x y at
  written_done h = written_end (all_done one ks xs i h)

-- ---- a line put with a writing pen, where it fits
module _ {bs x y : List ℕ} {q : Pen} {at : ℕ} (end r : ℕ) (h : Put bs (Writing at) x y q) (f : at + length bs ≤ end) (g : end ≤ length x) where
  pub pen_placed : q ≡ Writing r → Wrote bs at end x y r
  pen_placed e =
      let w = pen_wrote end h f g in
      let i : r ≡ at + length bs = cc (w.0, e) in
      rw i w.1
