-- The check of the names, name by name: what is left of it behind the names that were passed.
use Prim.Native.Nat.{ℕ, suc, ◌+◌, ◌-◌, ◌<◌, ◌≤◌}
use mathlib.Core.Path.{◌≡◌, refl, sym, ap, ◌∙◌}
use mathlib.Core.Bool.{Bool, true, false, ◌&&◌, and-false}
use mathlib.Core.List.{List, [], ◌∷◌, ◌++◌}
use native.Mathlib.Nat.{zero-add, add-zero}
use native.Mathlib.Omega.{arith}
use borrow.Author.Tests.{eqb-true, eqb-false, ltb-true, ltb-false}
use Rattle.std.proofs.Common.{⊎_elim}
use lib.Dec.{eqb, ltb}
use lib.ListN.{length, get_or, drop, length-drop, drop_of_length-le}
use lib.Seq.{split_at, take_all, length-take-le, get_or-drop, drop-drop}
use Rattle.names.specs.Utf8.{follow, well_formed}
use Rattle.names.specs.Name.{name_byte, is_end, every_byte, spelled, filled, allowed, every_name, before, ascending_from, ascending, lines, last_or, ended, sound, keep, names_of, counts, accepted, line, name_from}
use Rattle.names.specs.Tests.{both, decide}
use Rattle.names.specs.Lines.{lines_first, line_of, lines_of, no_end, ended_behind}
use Rattle.names_spelling.proofs.Spell.{name_ended}
use Rattle.names_check.specs.Found.{part, Spelled, Unnamed}

-- whether the bytes that are left are names that ascend from `last` and are, with n that were passed, m
unfoldable pub going : List ℕ → List ℕ → ℕ → ℕ → Bool
going last rest n m = (ended rest && (every_name (lines rest) && ascending_from last (lines rest))) && eqb (n + length (lines rest)) m

-- at first nothing was passed: the empty text comes before every name
from_empty : (ns : List (List ℕ)) → (every_name ns && ascending ns) ≡ (every_name ns && ascending_from [] ns)
unfolding every_name allowed filled ascending ascending_from before
from_empty [] = refl
from_empty ([] ∷ ns) = refl
from_empty ((b ∷ n) ∷ ns) = refl

counts_keep : (m : ℕ) (t : Bool) (ns : List (List ℕ)) → counts m (keep t ns) ≡ (t && eqb (0 + length ns) m)
unfolding counts keep
counts_keep m true ns = rw zero-add
counts_keep m false ns = refl

pub going_start : (bs : List ℕ) (m : ℕ) → accepted bs m ≡ going [] bs 0 m
unfolding accepted names_of sound going
going_start bs m =
    counts_keep m (ended bs && (every_name (lines bs) && ascending (lines bs))) (lines bs)
    ∙ ap (λ t. (ended bs && t) && eqb (0 + length (lines bs)) m) (from_empty (lines bs))

-- bytes of a name with no end
last_inside : (b : ℕ) (bs : List ℕ) → every_byte (b ∷ bs) ≡ true → is_end (last_or b bs) ≡ false
unfolding every_byte last_or
last_inside b [] h = no_end b (both (name_byte b) true h).0
last_inside b (c ∷ bs) h = last_inside c bs (both (name_byte b) (every_byte (c ∷ bs)) h).1

open_refused : (f last : List ℕ) (n m : ℕ) → every_byte f ≡ true → 0 < length f → going last f n m ≡ false
unfolding going ended is_end last_or
open_refused [] last n m h l = absurd (omega arith)
open_refused (b ∷ f) last n m h l = rw (last_inside b f h)

-- a name with a character that may not stand in it
misspelled : (rest last : List ℕ) (n m : ℕ) → 0 < length rest → spelled (line rest) ≡ false → going last rest n m ≡ false
unfolding going every_name allowed
misspelled rest last n m l h = simp (lines_first rest l, h, and-false)

-- a name with its end
regroup : (e a b c q : Bool) → ((e && (a && (b && c))) && q) ≡ (b && ((e && (a && c)) && q))
regroup e a true c q = refl
regroup false a false c q = refl
regroup true false false c q = refl
regroup true true false c q = refl

named : (f r last : List ℕ) (n m : ℕ) → every_byte f ≡ true → spelled f ≡ true → going last (f ++ (10 ∷ r)) n m ≡ (before last f && going f r (n + 1) m)
unfolding going every_name allowed filled ascending_from before
named [] r last n m h g = simp (lines_of [] r h, ended_behind [] r, and-false)
named (b ∷ f) r last n m h g =
    rw (lines_of (b ∷ f) r h, ended_behind (b ∷ f) r, g, count_on)
    (regroup (ended r) (every_name (lines r)) (before last (b ∷ f)) (ascending_from (b ∷ f) (lines r)) (eqb (n + 1 + length (lines r)) m))
  where
    count_on : n + suc (length (lines r)) ≡ n + 1 + length (lines r)
    count_on = omega arith

pub going_over : (last names : List ℕ) (at n m : ℕ) → length names ≤ at → going last (drop at names) n m ≡ eqb n m
unfolding going ended last_or every_name ascending_from lines
going_over last names at n m h = rw (drop_of_length-le names h, add-zero)

-- the name at `at`, whose characters end at `end`
module _ (names : List ℕ) (at end : ℕ) (q : Spelled names at end) where
  module _ (l : end < length names) (e : get_or names end 0 ≡ 10) where
    split_named : drop at names ≡ part names at end ++ (10 ∷ drop (end + 1) names)
    split_named = rw (get_or-drop, drop-drop, there, e, behind) at (split_at (drop at names) (end - at) 0 (omega (arith, q.through.starts, length-drop at names)))
      where
        there : at + (end - at) ≡ end
        there = omega (arith, q.through.starts)

        behind : at + suc (end - at) ≡ end + 1
        behind = omega (arith, q.through.starts)

    -- it is the line that stands there
    name_part : name_from names at ≡ part names at end
    unfolding name_from
    name_part = ap line split_named ∙ line_of (part names at end) (drop (end + 1) names) q.through.bytes

    pub end_named : end ≡ at + length (name_from names at)
    end_named = rw name_part (omega (arith, length-take-le (end - at) (drop at names) (omega (arith, length-drop at names)), q.through.starts))

    pub line_named : lines (drop at names) ≡ name_from names at ∷ lines (drop (end + 1) names)
    line_named = rw name_part (ap lines split_named ∙ lines_of (part names at end) (drop (end + 1) names) q.through.bytes)

    -- and one by the rules
    spelled_part : spelled (part names at end) ≡ true
    unfolding spelled every_byte well_formed follow
    spelled_part = ap spelled (sym name_part) ∙ q.through.rest ∙ ap spelled (name_ended names end l e)

  module _ (last : List ℕ) (n m : ℕ) where
    pub going_open : at < length names → length names ≤ end → going last (drop at names) n m ≡ false
    going_open l h =
        let all : part names at end ≡ drop at names = take_all (end - at) (drop at names) (omega (arith, length-drop at names)) in
        open_refused (drop at names) last n m (ap every_byte (sym all) ∙ q.through.bytes) (omega (arith, length-drop at names))

    pub going_barred : end < length names → (get_or names end 0 ≡ 10 → ⊥) → going last (drop at names) n m ≡ false
    unfolding name_from
    going_barred l d = misspelled (drop at names) last n m (omega (arith, q.through.starts, length-drop at names)) (q.through.rest ∙ q.stuck l d)

    -- by whether it comes after the last one
    module _ (l : end < length names) (e : get_or names end 0 ≡ 10) (after : Bool) (o : after ≡ before last (part names at end)) where
      going_named : going last (drop at names) n m ≡ (after && going (part names at end) (drop (end + 1) names) (n + 1) m)
      going_named =
          rw o
          (ap (λ r. going last r n m) (split_named l e) ∙ named (part names at end) (drop (end + 1) names) last n m q.through.bytes (spelled_part l e))

      pub going_unordered : after ≡ false → going last (drop at names) n m ≡ false
      going_unordered b = going_named ∙ ap (λ t. t && going (part names at end) (drop (end + 1) names) (n + 1) m) b

      pub going_ordered : after ≡ true → going last (drop at names) n m ≡ going (part names at end) (drop (end + 1) names) (n + 1) m
      going_ordered b = going_named ∙ ap (λ t. t && going (part names at end) (drop (end + 1) names) (n + 1) m) b

-- no name that comes after the last one
pub going_unnamed : {names : List ℕ} {last past at : ℕ} → at < length names → Unnamed names last past at → (n m : ℕ) → going (part names last past) (drop at names) n m ≡ false
going_unnamed {names} {last} {past} {at} l u n m =
    let p = part names last past in
    ⊎_elim
    (λ i. let i' = ltb-true u.end (length names) i in
    ⊎_elim (λ e. let e' = eqb-true (get_or names u.end 0) 10 e in going_unordered names at u.end u.reached p n m i' e' false (sym (u.unordered i' e')) refl)
    (λ d. going_barred names at u.end u.reached p n m i' (eqb-false (get_or names u.end 0) 10 d))
    (decide (eqb (get_or names u.end 0) 10)))
    (λ h. going_open names at u.end u.reached p n m l (ltb-false u.end (length names) h))
    (decide (ltb u.end (length names)))
