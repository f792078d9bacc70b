-- Lines stored from the last place down: "then sets slots backwards".
use Rattle.std.specs.Prelude.{◌≡◌, ℕ, suc, ◌+◌, ◌%◌, ◌^◌, ◌<◌, ◌≤◌, List, [], ◌∷◌, ◌++◌, map, reverse, length, slice_set, refl}
use Rattle.std.proofs.Math.Path.{sym, ap}
use Rattle.std.proofs.Common.{◌∙◌, arith, length-set}
use mathlib.Core.List.{reverse-append, reverse-cons, map-append}
use Rattle.std.proofs.lemmas.List.{length-map, length-reverse, set_comm}
use Rattle.std.proofs.lemmas.List.Edits.{sets}
use Rattle.book.specs.Result.{ok, bind}
use Rattle.assembly.specs.Line.{Line}
use Rattle.assembly.specs.Number.{kind_of, operand_of}
use Rattle.lowering.specs.Gen.{lines, line, skip, after, ◌>>◌, each}
use Rattle.lowering.specs.Context.{FnCtx}
use Rattle.lowering.specs.Edge.{Copy, set_copy}
use Rattle.gen_lines.specs.declared.Reached.{Reached}
use Rattle.gen_lines.specs.Puts.{Puts, most, further, operand_word, still, same_puts}

-- a store in front of a run of stores
sets_set : (l : List ℕ) (i j v : ℕ) (vs : List ℕ) → i < j → slice_set (sets l j vs) i v ≡ sets (slice_set l i v) j vs
sets_set l i j v [] h = refl
sets_set l i j v (w ∷ vs) h = sets_set (slice_set l j w) i (suc j) v vs (omega arith) ∙ ap (λ k. sets k (suc j) vs) (set_comm l j i w v (λ e. omega arith))

pub sets_front : (l : List ℕ) (i v : ℕ) (vs : List ℕ) → slice_set (sets l (suc i) vs) i v ≡ sets l i (v ∷ vs)
sets_front l i v vs = sets_set l i (suc i) v vs (omega arith)

map_reverse : {A B : Type 0} (f : A → B) (xs : List A) → map f (reverse xs) ≡ reverse (map f xs)
map_reverse f [] = refl
map_reverse f (x ∷ xs) = ap (map f) (reverse-cons x xs) ∙ map-append f (reverse xs) (x ∷ []) ∙ ap (λ r. r ++ (f x ∷ [])) (map_reverse f xs) ∙ sym (reverse-cons (f x) (map f xs))

map_map : {A B C : Type 0} (g : B → C) (f : A → B) (xs : List A) → map g (map f xs) ≡ map (λ x. g (f x)) xs
map_map g f [] = refl
map_map g f (x ∷ xs) = ap (λ r. g (f x) ∷ r) (map_map g f xs)

abbrev set_line : Copy → Line
set_line cp = Line.set_local cp.slot

sets_each : (c : FnCtx) (cps : List Copy) (n : ℕ) → each (set_copy c) cps n ≡ ok (record { lines = map set_line cps; next = n })
unfolding each set_copy line lines skip ◌>>◌ bind after
sets_each c [] n = refl
sets_each c (cp ∷ cps) n = rw (sets_each c cps n)

-- ---- slots set from the last place down: `left` of them are still to be set, these stand behind
pub record Set (xs : List ℕ) (first left : ℕ) (ks os ks' os' : List ℕ) : Type 0 where
  pub kinds : first ≤ most → ks' ≡ sets ks (first + left) (map (λ (x : ℕ). 11) (reverse xs))
  pub operands : first ≤ most → os' ≡ sets os (first + left) (map (λ (x : ℕ). x % 2 ^ 64) (reverse xs))
  pub long_kinds : length ks' ≡ length ks
  pub long_operands : length os' ≡ length os

pub set_none : (first left : ℕ) (ks os : List ℕ) → Set [] first left ks os ks os
set_none first left ks os = record { kinds = λ h. refl; operands = λ h. refl; long_kinds = refl; long_operands = refl }

reverse_more : (xs : List ℕ) (x : ℕ) → reverse (xs ++ (x ∷ [])) ≡ x ∷ reverse xs
reverse_more xs x = reverse-append xs (x ∷ [])

module _ (xs : List ℕ) (x : ℕ) {first left place : ℕ} {ks os ks' os' ks'' os'' : List ℕ} where
  pub set_more : Set xs first (suc left) ks os ks' os' → (first ≤ most → place ≡ first + left) → ks'' ≡ slice_set ks' place 11 → os'' ≡ slice_set os' place (x % 2 ^ 64)
      → Set (xs ++ (x ∷ [])) first left ks os ks'' os''
  set_more b at ek eo =
      record {
        kinds = λ h.
            let n : first + suc left ≡ suc (first + left) = omega arith in
            ek ∙ rw (at h, b.kinds h, n) (sets_front ks (first + left) 11 (map (λ (y : ℕ). 11) (reverse xs)))
            ∙ ap (λ r. sets ks (first + left) (map (λ (y : ℕ). 11) r)) (sym (reverse_more xs x));
        operands = λ h.
            let n : first + suc left ≡ suc (first + left) = omega arith in
            eo ∙ rw (at h, b.operands h, n) (sets_front os (first + left) (x % 2 ^ 64) (map (λ (y : ℕ). y % 2 ^ 64) (reverse xs)))
            ∙ ap (λ r. sets os (first + left) (map (λ (y : ℕ). y % 2 ^ 64) r)) (sym (reverse_more xs x));
        long_kinds = ap length ek ∙ length-set ks' place 11 ∙ b.long_kinds;
        long_operands = ap length eo ∙ length-set os' place (x % 2 ^ 64) ∙ b.long_operands;
      }

-- all are set
module _ (c : FnCtx) (cps : List Copy) (xs : List ℕ) (same : map (λ (cp : Copy). cp.slot) cps ≡ xs) where
  slots_kinds : map kind_of (map set_line (reverse cps)) ≡ map (λ (x : ℕ). 11) (reverse xs)
  unfolding kind_of
  slots_kinds = map_map kind_of set_line (reverse cps) ∙ sym (map_map (λ (x : ℕ). 11) (λ (cp : Copy). cp.slot) (reverse cps))
      ∙ ap (map (λ (x : ℕ). 11)) (map_reverse (λ (cp : Copy). cp.slot) cps ∙ ap reverse same)

  slots_operands : map operand_word (map set_line (reverse cps)) ≡ map (λ (x : ℕ). x % 2 ^ 64) (reverse xs)
  unfolding operand_of
  slots_operands = map_map operand_word set_line (reverse cps) ∙ sym (map_map (λ (x : ℕ). x % 2 ^ 64) (λ (cp : Copy). cp.slot) (reverse cps))
      ∙ ap (map (λ (x : ℕ). x % 2 ^ 64)) (map_reverse (λ (cp : Copy). cp.slot) cps ∙ ap reverse same)

  slots_length : length (map set_line (reverse cps)) ≡ length xs
  slots_length = length-map (reverse cps) set_line ∙ length-reverse cps ∙ sym (length-map cps (λ (cp : Copy). cp.slot)) ∙ ap length same

  pub set_puts : {s t : Reached} {ks os ks' os' : List ℕ} → Set xs s.at 0 ks os ks' os' → t.at ≡ further s.at (length xs) → t.counter ≡ s.counter → t.refused ≡ s.refused
      → Puts (each (set_copy c) (reverse cps)) s t ks os ks' os'
  set_puts {s} {t} {ks} {os} {ks'} {os'} b place counter refused =
      same_puts (λ n. sym (sets_each c (reverse cps) n))
      (record {
        long_kinds = b.long_kinds;
        long_operands = b.long_operands;
        stays = λ r. record { refused = still refused ∙ r; number = refused };
        goes = λ n a.
            let z : s.at + 0 ≡ s.at = omega arith in
            record {
              going = still refused ∙ a.going;
              place = place ∙ ap (further s.at) (sym slots_length);
              next = counter ∙ a.counts;
              kinds = b.kinds a.within ∙ rw (z, ← slots_kinds);
              operands = b.operands a.within ∙ rw (z, ← slots_operands);
            };
      })
