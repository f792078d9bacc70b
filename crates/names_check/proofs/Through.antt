-- Characters that may stand in a name, passed one after the other.
use Prim.Native.Nat.{ℕ, zero, suc, ◌+◌, ◌-◌, ◌<◌, ◌≤◌}
use mathlib.Core.Path.{◌≡◌, refl, sym, ap, ap₂, ◌∙◌}
use mathlib.Core.Bool.{Bool, true, false, ◌&&◌, not, and-false}
use mathlib.Core.List.{List, [], ◌∷◌, ◌++◌}
use native.Mathlib.Nat.{add-zero}
use native.Mathlib.Omega.{arith}
use lib.ListN.{length, get_or, take, drop, length-drop, take-append-drop}
use lib.Seq.{take-add, drop-drop, get_or-drop}
use Rattle.names.specs.Name.{plain_byte, name_byte, is_end, every_byte, spelled, special, up_to, until, line, front, name_from}
use Rattle.names.specs.Utf8.{well_formed, char_length}
use Rattle.names.specs.Tests.{both}
use Rattle.names.specs.Texts.{in_within}
use Rattle.names.specs.Lines.{no_end}
use Rattle.names.specs.Characters.{is_char, char_first, char_bytes, char_taken, char_missing}
use Rattle.names.proofs.Characters.{char_ascii}
use Rattle.names_spelling.proofs.Scan.{until_part, from_place}
use Rattle.names_spelling.proofs.Spell.{name_more}
use Rattle.names_check.specs.Found.{part, Through}

-- ---- bytes in front of others

bytes_over : (c x : List ℕ) → every_byte c ≡ true → every_byte (c ++ x) ≡ every_byte x
unfolding every_byte
bytes_over [] x h = refl
bytes_over (b ∷ c) x h = let k = both (name_byte b) (every_byte c) h in rw k.0 (bytes_over c x k.1)

line_over : (c r : List ℕ) → every_byte c ≡ true → line (c ++ r) ≡ c ++ line r
unfolding every_byte line until up_to
line_over [] r h = refl
line_over (b ∷ c) r h = let k = both (name_byte b) (every_byte c) h in rw (no_end b k.0) (ap (λ t. b ∷ t) (line_over c r k.1))

-- bytes of names behind which the others decide
record Passes (c : List ℕ) : Type 0 where
  pub bytes : every_byte c ≡ true
  pub formed : (x : List ℕ) → well_formed (c ++ x) ≡ well_formed x

spelled_over : (c r : List ℕ) → Passes c → spelled (line (c ++ r)) ≡ spelled (line r)
unfolding spelled
spelled_over c r p = rw (line_over c r p.bytes) (ap₂ (λ s t. s && t) (bytes_over c (line r) p.bytes) (p.formed (line r)))

-- ---- from place to place

through_passes : (names : List ℕ) (at n : ℕ) → at + n ≤ length names → Passes (take n (drop at names)) → Through names at (at + n)
unfolding name_from
through_passes names at n l p =
    record {
      starts = omega arith;
      ends = l;
      bytes = rw drawn p.bytes;
      rest = ap (λ t. spelled (line t)) (sym (take-append-drop n (drop at names))) ∙ spelled_over _ _ p ∙ ap (λ t. spelled (line t)) (drop-drop n at names);
    }
  where
    drawn : at + n - at ≡ n
    drawn = omega arith

pub through_none : (names : List ℕ) (at : ℕ) → at ≤ length names → Through names at at
unfolding every_byte
through_none names at l = record { starts = omega arith; ends = l; bytes = rw drawn refl; rest = refl }
  where
    drawn : at - at ≡ 0
    drawn = omega arith

pub through_then : {names : List ℕ} {at i end : ℕ} → Through names at i → Through names i end → Through names at end
through_then {names} {at} {i} {end} p q =
    record {
      starts = omega (arith, p.starts, q.starts);
      ends = q.ends;
      bytes = ap every_byte joined ∙ bytes_over (part names at i) (part names i end) p.bytes ∙ q.bytes;
      rest = p.rest ∙ q.rest;
    }
  where
    long : end - at ≡ (i - at) + (end - i)
    long = omega (arith, p.starts, q.starts)

    there : at + (i - at) ≡ i
    there = omega (arith, p.starts)

    joined : part names at end ≡ part names at i ++ part names i end
    joined = rw (long, take-add, drop-drop, there)

-- ---- ASCII characters

-- such a byte may stand in a name, and is a character
plain_name : (b : ℕ) → plain_byte b ≡ true → name_byte b ≡ true
unfolding name_byte
plain_name b h = rw h

plain_char : (b : ℕ) → plain_byte b ≡ true → is_char (b ∷ []) ≡ true
unfolding plain_byte
plain_char b h = char_ascii b (omega (arith, (in_within 32 126 b h).1))

plain_passes : (n : ℕ) (bs : List ℕ) → n ≤ length (front bs) → Passes (take n bs) × (n ≤ length bs)
unfolding front until up_to special every_byte
plain_passes zero bs l = (record { bytes = refl; formed = λ x. refl }, omega arith)
plain_passes (suc n) [] l = absurd (omega arith)
plain_passes (suc n) (b ∷ bs) l = step (plain_byte b) refl (plain_passes n bs) l
  where
    step : (t : Bool) → plain_byte b ≡ t → (n ≤ length (until special bs) → Passes (take n bs) × (n ≤ length bs))
        → suc n ≤ length (up_to (not t) b (until special bs)) → Passes (b ∷ take n bs) × (suc n ≤ suc (length bs))
    step true e ih m =
        let p = ih (omega arith) in (
          record {
            bytes = rw (plain_name b e) p.0.bytes;
            formed = λ x. char_first (b ∷ []) (take n bs ++ x) (plain_char b e) ∙ p.0.formed x;
          },
          omega (arith, p.1),
        )
    step false e ih m = absurd (omega arith)

pub through_front : (names : List ℕ) (at n : ℕ) → at ≤ length names → n ≤ length (front (drop at names)) → Through names at (at + n)
through_front names at n l m =
    let p = plain_passes n (drop at names) m in
    through_passes names at n (omega (arith, p.1, length-drop at names)) p.0

-- ---- any character

first_bytes : (n : ℕ) (bs : List ℕ) → 0 < n → 0 < length bs → is_char (take n bs) ≡ true → name_byte (get_or bs 0 0) ≡ true → every_byte (take n bs) ≡ true
first_bytes zero bs p q h e = absurd (omega arith)
first_bytes (suc n) [] p q h e = absurd (omega arith)
first_bytes (suc n) (b ∷ bs) p q h e = char_bytes b (take n bs) h e

module _ (names : List ℕ) (at : ℕ) (l : at < length names) where
  pub through_char : (n : ℕ) → n ≡ char_length (drop at names) → (n ≡ 0 → ⊥) → name_byte (get_or names at 0) ≡ true → Through names at (at + n)
  through_char n e z h =
      let p = char_taken (drop at names) (omega (arith, e)) in
      let c = rw (← e) at p.0 in
      through_passes names at n (omega (arith, p.1, e, length-drop at names))
      record { bytes = first_bytes n (drop at names) (omega arith) (omega (arith, length-drop at names)) c (rw (get_or-drop, add-zero) h); formed = λ x. char_first _ x c }

  pub stuck_byte : name_byte (get_or names at 0) ≡ false → (get_or names at 0 ≡ 10 → ⊥) → spelled (name_from names at) ≡ false
  unfolding spelled every_byte
  stuck_byte h d = rw (name_more names at l d, h)

  pub stuck_char : char_length (drop at names) ≡ 0 → (get_or names at 0 ≡ 10 → ⊥) → spelled (name_from names at) ≡ false
  unfolding spelled name_from line
  stuck_char z d =
      let r = drop (at + 1) names in
      let e : r ≡ name_from names (at + 1) ++ drop (length (line r)) r = sym (take-append-drop (length (line r)) r) ∙ ap (λ t. t ++ drop (length (line r)) r) (until_part is_end r) in
      let z' = rw (from_place names at l) at z in
      let y : well_formed (get_or names at 0 ∷ name_from names (at + 1)) ≡ false = char_missing (get_or names at 0) _ (drop (length (line r)) r) (ap (λ t. char_length (get_or names at 0 ∷ t)) (sym e) ∙ z') in
      ap spelled (name_more names at l d) ∙ ap (λ t. every_byte (get_or names at 0 ∷ name_from names (at + 1)) && t) y ∙ and-false (every_byte (get_or names at 0 ∷ name_from names (at + 1)))
