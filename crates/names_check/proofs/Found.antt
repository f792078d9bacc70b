-- The name at a place: where it ends, its key, and its order with the one before it.
use Prim.Native.Nat.{ℕ, ◌+◌, ◌-◌, ◌*◌, ◌^◌, ◌<◌, ◌≤◌}
use mathlib.Core.Path.{◌≡◌, refl, sym, ap, ◌∙◌}
use mathlib.Core.Bool.{Bool, true, false}
use mathlib.Core.List.{List, [], ◌∷◌, ◌++◌}
use native.Mathlib.Numerals.{add-one}
use native.Mathlib.Omega.{arith}
use lib.Dec.{ltb}
use lib.ListN.{length, get_or, take, drop, length-drop}
use lib.Seq.{take-append-le, take-take, take-suc, length-take-le, get_or-drop}
use Rattle.names.specs.Name.{every_byte, before}
use Rattle.names_words.specs.Word.{word, key_of, Octets, word_take, key_order}
use Rattle.std.specs.Bool.{then_some}
use Rattle.names_check.specs.declared.Next.{Next}
use Rattle.names_check.specs.Found.{part, Through, Spelled, Kept, Named, Found}
use Rattle.names_check.proofs.Through.{through_none}
use Rattle.names_check.proofs.Words.{WordRead, room, word_through, word_whole}

-- no name was met: the empty one comes before all others
pub kept_none : (names : List ℕ) → Kept names 0 0 (10 * 2 ^ 56) 0
unfolding every_byte key_of word
kept_none names = record { starts = omega arith; ends = omega arith; bytes = refl; keyed = λ _. refl }

-- the key of a name of n bytes that ends among eight, and of one that does not
key_ended : (n : ℕ) (bs : List ℕ) → n < length bs → get_or bs n 0 ≡ 10 → word 8 (take (n + 1) bs) ≡ key_of (take n bs)
unfolding key_of
key_ended n bs l e = ap (word 8) (rw (add-one, take-suc bs n 0 l, e))

key_over : (n : ℕ) (bs : List ℕ) → 8 ≤ n → n ≤ length bs → word 8 bs ≡ key_of (take n bs)
unfolding key_of
key_over n bs l m = sym (word_take 8 bs) ∙ ap (word 8) same ∙ word_take 8 (take n bs ++ (10 ∷ []))
  where
    same : take 8 bs ≡ take 8 (take n bs ++ (10 ∷ []))
    same = rw (take-append-le 8 (take n bs) (10 ∷ []) (omega (arith, length-take-le n bs m))) (sym (take-take 8 n bs l))

-- the name at `at`, of which the characters in front of `from` were passed, and the word that stands there, where there are eight bytes
pub record Passing (names : List ℕ) (at from w : ℕ) : Type 0 where
  pub through : Through names at from
  pub octets : Octets (drop at names)
  pub same : at + 8 ≤ length names → w ≡ word 8 (drop at names)

pub passing_none : (names : List ℕ) (at w : ℕ) → Octets names → at < length names → length names - at < 8 → Passing names at at w
passing_none names at w o l m = record { through = through_none names at (omega arith); octets = λ i. rw get_or-drop (o (at + i)); same = λ h. absurd (omega arith) }

module _ {names : List ℕ} {at w n : ℕ} (d : WordRead names at w n) where
  pub passing_word : Passing names at (at + n) w
  passing_word = record { through = word_through d; octets = d.octets; same = λ h. d.same }

  pub passing_whole : 8 ≤ n → Passing names at (at + 8) w
  passing_whole l = record { through = word_whole d l; octets = d.octets; same = λ h. d.same }

  -- an ASCII name that ends among the word's bytes is ordered by the keys
  pub found_short : {last past key : ℕ} → Kept names last past key at → (next : Next) → next.end ≡ at + n → n < 8 → get_or names (at + n) 0 ≡ 10
      → ((bs : List ℕ) → Octets bs → w ≡ word 8 bs → next.key ≡ word 8 (take (n + 1) bs)) → Found names last past at (then_some (ltb key next.key) next)
  found_short {last} {past} {key} k next q l e f = go (ltb key next.key) ordered
    where
      drawn : next.end - at ≡ n
      drawn = omega arith

      there : get_or names next.end 0 ≡ 10
      there = ap (λ (i : ℕ). get_or names i 0) q ∙ e

      through : Through names at next.end
      through = rw q (word_through d)

      keyed : next.key ≡ key_of (part names at next.end)
      keyed = f (drop at names) d.octets d.same ∙ key_ended n (drop at names) (omega (arith, d.long)) (rw get_or-drop e) ∙ rw drawn

      ordered : ltb key next.key ≡ before (part names last past) (part names at next.end)
      ordered =
          rw (k.keyed (room d), keyed)
          (sym (key_order (part names last past) (part names at next.end) k.bytes through.bytes (λ _. rw drawn (omega (arith, length-take-le n (drop at names) (omega (arith, d.long)))))))

      reached : Spelled names at next.end
      reached = record { through = through; stuck = λ m z. absurd (z there) }

      go : (t : Bool) → t ≡ before (part names last past) (part names at next.end) → Found names last past at (then_some t next)
      go true o = record {
        reached = reached;
        inside = omega (arith, room d);
        ended = there;
        ordered = sym o;
        kept = record { starts = through.starts; ends = through.ends; bytes = through.bytes; keyed = λ _. keyed };
      }
      go false o = record { end = next.end; reached = reached; unordered = λ _ _. sym o }

-- one that was compared with the name before it
module _ {names : List ℕ} {at from w : ℕ} (p : Passing names at from w) (end : ℕ) (s : Spelled names at end) (l : end < length names) (e : get_or names end 0 ≡ 10)
    (last past : ℕ) (o : before (part names last past) (part names at end) ≡ true) where
  found : (key : ℕ) → (end + 9 ≤ length names → key ≡ key_of (part names at end)) → Named names last past at end key
  found key k =
      record {
        reached = s;
        inside = l;
        ended = e;
        ordered = o;
        kept = record { starts = s.through.starts; ends = s.through.ends; bytes = s.through.bytes; keyed = λ h. k (omega arith) };
      }

  pub found_long : 8 ≤ end - at → Named names last past at end w
  found_long m =
      found w (λ _. p.same (omega (arith, s.through.starts)) ∙ key_over (end - at) (drop at names) m (omega (arith, s.through.ends, length-drop at names)))

  pub found_wide : (key : ℕ) → ((bs : List ℕ) → Octets bs → w ≡ word 8 bs → key ≡ word 8 (take (end - at + 1) bs)) → Named names last past at end key
  found_wide key f =
      found key λ m.
      f (drop at names) p.octets (p.same (omega (arith, s.through.starts)))
      ∙ key_ended (end - at) (drop at names) (omega (arith, s.through.starts, length-drop at names)) (rw (get_or-drop, there) e)
    where
      there : at + (end - at) ≡ end
      there = omega (arith, s.through.starts)
