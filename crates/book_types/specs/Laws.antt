-- Laws that the readers' proofs cite: entries of slices and of their parts, and lists of items.
use Rattle.std.specs.Prelude.{ℕ, zero, suc, ◌+◌, ◌-◌, ◌≤◌, ◌<◌, min, ◌≡◌, refl, List, [], ◌∷◌, length, get_or, drop, take}
use Rattle.std.proofs.Common.{ap, sym, ◌∙◌, le_of_eq, add-one, arith, length-append, length-drop, take_all}
use Rattle.book.specs.Entry.{Entry, entry, entries}
use Rattle.book.specs.Read.{Read, got, bad, Reader}
use Rattle.book.specs.Agree.{Agrees, Begins}
use Rattle.book_types.specs.Length.{len_of, front_of}
use Rattle.std.specs.Prelude.{Some, None}

-- ---- entries of two slices
pub entries_front : (ks ws : List ℕ) → (length ks ≡ 0 → ⊥) → (length ws ≡ 0 → ⊥) → entries ks ws ≡ entry (get_or ks 0 0) (get_or ws 0 0) ∷ entries (drop 1 ks) (drop 1 ws)
unfolding entries
entries_front [] ws p q = absurd (p refl)
entries_front (k ∷ ks) [] p q = absurd (q refl)
entries_front (k ∷ ks) (w ∷ ws) p q = refl

pub no_kinds : (ks ws : List ℕ) → length ks ≡ 0 → entries ks ws ≡ []
unfolding entries
no_kinds [] ws h = refl
no_kinds (k ∷ ks) ws h = absurd (omega arith)

pub no_words : (ks ws : List ℕ) → length ws ≡ 0 → entries ks ws ≡ []
unfolding entries
no_words [] ws h = refl
no_words (k ∷ ks) [] h = refl
no_words (k ∷ ks) (w ∷ ws) h = absurd (omega arith)

pub length_entries : (ks ws : List ℕ) → length (entries ks ws) ≡ min (length ks) (length ws)
unfolding entries
length_entries [] ws = omega arith
length_entries (k ∷ ks) [] = omega arith
length_entries (k ∷ ks) (w ∷ ws) = omega (arith, length_entries ks ws)

pub entries_drop : (n : ℕ) (ks ws : List ℕ) → entries (drop n ks) (drop n ws) ≡ drop n (entries ks ws)
unfolding entries
entries_drop zero ks ws = refl
entries_drop (suc n) [] ws = refl
entries_drop (suc n) (k ∷ ks) [] = no_words (drop n ks) [] refl
entries_drop (suc n) (k ∷ ks) (w ∷ ws) = entries_drop n ks ws

-- the entry at a place of the slices
pub entry_at : (ks ws : List ℕ) (i : ℕ) → i < length (entries ks ws) → drop i (entries ks ws) ≡ entry (get_or ks i 0) (get_or ws i 0) ∷ drop (i + 1) (entries ks ws)
unfolding entries
entry_at [] ws i h = absurd (omega arith)
entry_at (k ∷ ks) [] i h = absurd (omega arith)
entry_at (k ∷ ks) (w ∷ ws) zero h = refl
entry_at (k ∷ ks) (w ∷ ws) (suc i) h = rw (add-one (suc i)) (entry_at ks ws i (omega arith) ∙ rw (add-one i))

-- the entries of the parts from a on, as the logic has them
pub entries_take : (n : ℕ) (ks ws : List ℕ) → entries (take n ks) (take n ws) ≡ take n (entries ks ws)
unfolding entries
entries_take zero ks ws = refl
entries_take (suc n) [] ws = refl
entries_take (suc n) (k ∷ ks) [] = refl
entries_take (suc n) (k ∷ ks) (w ∷ ws) = ap (λ r. entry k w ∷ r) (entries_take n ks ws)

pub entries_part : (a : ℕ) (ks ws : List ℕ) → entries (take (length ks - a) (drop a ks)) (take (length ws - a) (drop a ws)) ≡ drop a (entries ks ws)
entries_part a ks ws =
    rw (take_all (length ks - a) (drop a ks) (le_of_eq (length-drop a ks)), take_all (length ws - a) (drop a ws) (le_of_eq (length-drop a ws)))
    (entries_drop a ks ws)

-- a place within the entries is within both slices
pub within_kinds : (a : ℕ) (ks ws : List ℕ) → a ≤ length (entries ks ws) → a ≤ length ks
within_kinds a ks ws h = omega (arith, length_entries ks ws)

pub within_words : (a : ℕ) (ks ws : List ℕ) → a ≤ length (entries ks ws) → a ≤ length ws
within_words a ks ws h = omega (arith, length_entries ks ws)

-- the entry in front
pub front_of_lem : (ks ws : List ℕ) → (length ks ≡ 0 → ⊥) → (length ws ≡ 0 → ⊥) → Some (get_or ks 0 0, get_or ws 0 0) ≡ front_of (entries ks ws)
unfolding front_of
front_of_lem ks ws p q = rw (entries_front ks ws p q)

pub front_none : (es : List Entry) → es ≡ [] → None ≡ front_of es
unfolding front_of
front_none es h = rw h

-- there is an entry in front
pub front_there : (es : List Entry) (e : ℕ × ℕ) → Some e ≡ front_of es → 1 ≤ length es
unfolding front_of
front_there [] e h = absurd (let z : ◌≡◌ {A = ℕ} 0 1 = cc in omega arith)
front_there (x ∷ es) e h = omega arith

-- the entries from a on, as a loop lends them
abbrev pub lent_from : List ℕ → List ℕ → ℕ → List Entry
lent_from ks ws a = entries (take (length ks - a) (drop a ks)) (take (length ws - a) (drop a ws))

-- of the entries from a on, one in front stands before the end of both slices
pub front_within : (ks ws : List ℕ) (a : ℕ) (e : ℕ × ℕ) → Some e ≡ front_of (lent_from ks ws a) → a + 1 ≤ length (entries ks ws)
front_within ks ws a e h =
    let there : 1 ≤ length (drop a (entries ks ws)) = front_there _ e (h ∙ ap front_of (entries_part a ks ws)) in
    omega (arith, length-drop a (entries ks ws))

-- ---- lengths
module _ {A : Type 0} where
  -- from an answer to what was read
  pub len_got : (r : Read A) (n : ℕ) → len_of r ≡ Some n → (a : A) × (r ≡ got a n)
  len_got (got a k) n e = (a, ap (got a) (cc))
  len_got bad n e = absurd (let z : ◌≡◌ {A = ℕ} 0 1 = cc in omega arith)

  pub len_bad : (r : Read A) → len_of r ≡ None → r ≡ bad
  len_bad (got a k) e = absurd (let z : ◌≡◌ {A = ℕ} 0 1 = cc in omega arith)
  len_bad bad e = refl

  module _ {p : Reader A} {w : A → List Entry} {K : A → Type 0} (s : Agrees p w K) where
    -- what is read is there
    pub len_fits : (es : List Entry) (n : ℕ) → len_of (p es) ≡ Some n → n ≤ length es
    len_fits es n e =
        let g = len_got (p es) n e in
        let b : Begins w K es g.0 n = s.sound es g.0 n g.1 in
        omega (arith, b.size, ap length b.here, length-append (w g.0) (drop n es))

    -- and ends within the slices
    pub lent_fits : (ks ws : List ℕ) (a n : ℕ) → a ≤ length (entries ks ws) → Some n ≡ len_of (p (lent_from ks ws a)) → a + n ≤ length (entries ks ws)
    lent_fits ks ws a n h e =
        let fits : n ≤ length (drop a (entries ks ws)) = len_fits (drop a (entries ks ws)) n (ap (λ es. len_of (p es)) (sym (entries_part a ks ws)) ∙ sym e) in
        omega (arith, length-drop a (entries ks ws))
