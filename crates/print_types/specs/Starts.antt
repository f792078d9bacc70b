-- The starts of names: of every one, or of every 8th.
use Rattle.std.specs.Prelude.{ℕ, zero, suc, ◌+◌, ◌-◌, ◌*◌, ◌/◌, ◌%◌, ◌≤◌, ◌<◌, ◌≡◌, refl, Bool, true, false, List, length, get_or, set, take, drop}
use Rattle.std.proofs.Common.{sym, ap, ◌∙◌, ⊎_elim, add-one, arith, length-set, get_or-set_same, get_or-set_other}
use Rattle.std.proofs.Math.Option.{some}
use Rattle.numbers.specs.Tests.{lt_or_le, eq_or_ne}
use Rattle.names.specs.Name.{lines, names_of, name_at, name_from, start_of}
use Rattle.names.specs.Lines.{Names, names_iff, names_lines}
use Rattle.names.specs.Places.{stands, next_start, last_start}
use Rattle.names_check.specs.Nexts.{Noted}

-- the bytes are names, and no more than a book may have
pub record Sound (bs : List ℕ) : Type 0 where
  pub names : Names bs (lines bs)
  pub few : length (lines bs) ≤ 131072

pub sound : (bs : List ℕ) (ns : List (List ℕ)) → names_of bs ≡ some ns → length ns ≤ 131072 → Sound bs
sound bs ns e h =
    let l = names_lines bs ns e in
    record { names = rw l ((names_iff bs ns).0 e); few = rw l h }

-- the number of the name whose start stands at index j: every one is kept, or every 8th
abbrev pub number_at : Bool → ℕ → ℕ
number_at true j = j
number_at false j = 8 * j

-- one more than the last number whose start is kept: where every one is, the end of the bytes stands behind the n names' as a start
abbrev pub past : Bool → ℕ → ℕ
past true n = n + 1
past false n = n

-- the starts before the name numbered n
pub record Before (every : Bool) (bs : List ℕ) (n : ℕ) (starts : List ℕ) : Type 0 where
  pub at : (j : ℕ) → number_at every j < n → get_or starts j 0 ≡ start_of (lines bs) (number_at every j)

-- the starts by which a name is found
pub record Starts (every : Bool) (bs starts : List ℕ) : Type 0 where
  pub sound : Sound bs
  pub room : past every (length (lines bs)) ≤ number_at every (length starts)
  pub all : Before every bs (past every (length (lines bs))) starts

module _ (bs : List ℕ) (s : Sound bs) where
  abbrev ns : List (List ℕ)
  ns = lines bs

  pub start_below : (i : ℕ) → i < length ns → start_of ns i < length bs
  start_below i h = let t = stands bs ns s.names i h in omega (arith, t.inside)

  -- the pass has come to a name or to the end
  pub start_inside : (i : ℕ) → i ≤ length ns → start_of ns i < length bs → i < length ns
  start_inside i h l =
      ⊎_elim (λ b. b) (λ g. let e : i ≡ length ns = omega arith in absurd (omega (arith, ap (start_of ns) e, last_start bs ns s.names))) (lt_or_le i (length ns))

  pub start_over : (i : ℕ) → i ≤ length ns → length bs ≤ start_of ns i → i ≡ length ns
  start_over i h l = ⊎_elim (λ b. absurd (omega (arith, start_below i b))) (λ g. omega arith) (lt_or_le i (length ns))

  -- one name further
  pub start_further : (i at end : ℕ) → i < length ns → at ≡ start_of ns i → end ≡ at + length (name_from bs at) → end + 1 ≡ start_of ns (i + 1)
  start_further i at end h e f = rw (f, e) (next_start bs ns s.names i h)

  -- the end of a name lies before the end of the bytes
  pub end_below : (i at end : ℕ) → i < length ns → at ≡ start_of ns i → end ≡ at + length (name_from bs at) → (at ≤ end) × (end < length bs)
  end_below i at end h e f =
      let t = stands bs ns s.names i h in
      let g : length (name_from bs at) ≡ length (name_at ns i) = rw e (ap length t.from) in
      (omega arith, omega (arith, t.inside))

  -- the bytes of a name
  pub name_bytes : (i at end : ℕ) → i < length ns → at ≡ start_of ns i → end ≡ at + length (name_from bs at) → take (end - at) (drop at bs) ≡ name_at ns i
  name_bytes i at end h e f =
      let t = stands bs ns s.names i h in
      let g : length (name_from bs at) ≡ length (name_at ns i) = rw e (ap length t.from) in
      let k : end - at ≡ length (name_at ns i) = omega arith in
      rw (k, e) t.spelled

-- ---- of every name: what the check has noted from the second word on, and the first name's, which is 0
pub starts_noted : {bs : List ℕ} {m : ℕ} {starts starts' : List ℕ} → Noted 1 1 bs m starts starts' → Sound bs → m ≡ length (lines bs) → m < length starts
    → get_or starts 0 0 ≡ 0 → Starts true bs starts'
unfolding start_of
starts_noted {bs} {m} {starts} {starts'} n s e h z = record { sound = s; room = omega (arith, n.long); all = record { at = start } }
  where
    start : (j : ℕ) → j < length (lines bs) + 1 → get_or starts' j 0 ≡ start_of (lines bs) j
    start zero l = n.same 0 (λ x _ e. omega arith) ∙ z
    start (suc x) l =
        let next : get_or starts' (1 * x + 1) 0 ≡ start_of (lines bs) (x + 1) = n.words x (omega arith) (omega arith) in
        let i : 1 * x + 1 ≡ suc x = omega arith in
        rw (i, add-one x) at next

-- where the start of every name is kept, the name numbered x goes from its own up to the byte before the next
pub record Between (bs starts : List ℕ) (x : ℕ) : Type 0 where
  pub room : x + 1 < length starts
  pub order : get_or starts x 0 < get_or starts (x + 1) 0
  pub inside : get_or starts (x + 1) 0 ≤ length bs
  pub spelled : take (get_or starts (x + 1) 0 - 1 - get_or starts x 0) (drop (get_or starts x 0) bs) ≡ name_at (lines bs) x

pub between : {every : Bool} {bs starts : List ℕ} (x : ℕ) → Starts every bs starts → every ≡ true → x < length (lines bs) → Between bs starts x
between {every} {bs} {starts} x s e h =
    let kept : Starts true bs starts = rw e at s in
    let start : get_or starts x 0 ≡ start_of (lines bs) x = kept.all.at x (omega arith) in
    let next : get_or starts (x + 1) 0 ≡ start_of (lines bs) (x + 1) = kept.all.at (x + 1) (omega arith) in
    let name = stands bs (lines bs) s.sound.names x h in
    let further = next_start bs (lines bs) s.sound.names x h in
    let size : length (name_from bs (start_of (lines bs) x)) ≡ length (name_at (lines bs) x) = ap length name.from in
    let part : get_or starts (x + 1) 0 - 1 - get_or starts x 0 ≡ length (name_at (lines bs) x) = omega arith in
    record { room = omega (arith, kept.room); order = omega arith; inside = omega (arith, name.inside); spelled = rw (part, start) name.spelled }

-- ---- of every 8th name: the pass over the names, at the start of the name numbered i, with room for so many starts
none_before : (bs starts : List ℕ) → Before false bs 0 starts
none_before bs starts = record { at = λ j h. absurd (omega arith) }

-- a name between is not noted
before_skip : {bs starts : List ℕ} {i : ℕ} → Before false bs i starts → (i % 8 ≡ 0 → ⊥) → Before false bs (i + 1) starts
before_skip b h = record { at = λ j l. b.at j (omega (arith, h)) }

before_note : {bs starts : List ℕ} {i : ℕ} → Before false bs i starts → (k at : ℕ) → 8 * k ≡ i → at ≡ start_of (lines bs) i → k < length starts → Before false bs (i + 1) (set starts k at)
before_note {bs} {starts} {i} b k at w e f = record { at = go }
  where
    go : (j : ℕ) → 8 * j < i + 1 → get_or (set starts k at) j 0 ≡ start_of (lines bs) (8 * j)
    go j l = ⊎_elim (λ q. rw q (get_or-set_same starts k at 0 f ∙ e ∙ sym (ap (start_of (lines bs)) w)))
        (λ q. get_or-set_other starts k j at 0 q ∙ b.at j (omega (arith, q)))
        (eq_or_ne j k)

pub record Noting (bs : List ℕ) (size : ℕ) (starts : List ℕ) (at i : ℕ) : Type 0 where
  pub few : i ≤ length (lines bs)
  pub wide : length (lines bs) ≤ 8 * size
  pub room : length starts ≡ size
  pub there : at ≡ start_of (lines bs) i
  pub noted : Before false bs i starts

pub noting_start : (bs starts : List ℕ) → length (lines bs) ≤ 8 * length starts → Noting bs (length starts) starts 0 0
unfolding start_of
noting_start bs starts r = record { few = omega arith; wide = r; room = refl; there = refl; noted = none_before bs starts }

module _ {bs : List ℕ} {size : ℕ} {starts : List ℕ} {at i : ℕ} (s : Sound bs) (t : Noting bs size starts at i) where
  noting_inside : at < length bs → i < length (lines bs)
  noting_inside h = start_inside bs s i t.few (rw t.there at h)

  -- the index at which a name's start is kept
  pub noting_index : (k : ℕ) → 8 * k ≡ i → at < length bs → k < length starts
  noting_index k w h = omega (arith, t.room, t.wide, noting_inside h)

  next : (starts' : List ℕ) (end : ℕ) → at < length bs → end ≡ at + length (name_from bs at) → length starts' ≡ size → Before false bs (i + 1) starts'
      → Noting bs size starts' (end + 1) (i + 1)
  next starts' end h f r b =
      let l = noting_inside h in
      record { few = omega arith; wide = t.wide; room = r; there = start_further bs s i at end l t.there f; noted = b }

  pub noting_note : (k end : ℕ) → 8 * k ≡ i → at < length bs → end ≡ at + length (name_from bs at) → Noting bs size (set starts k at) (end + 1) (i + 1)
  noting_note k end w h f = next (set starts k at) end h f (length-set starts k at ∙ t.room) (before_note t.noted k at w t.there (noting_index k w h))

  pub noting_skip : (end : ℕ) → at < length bs → end ≡ at + length (name_from bs at) → (i % 8 ≡ 0 → ⊥) → Noting bs size starts (end + 1) (i + 1)
  noting_skip end h f z = next starts end h f t.room (before_skip t.noted z)

  pub noting_below : (end : ℕ) → at < length bs → end ≡ at + length (name_from bs at) → (at ≤ end) × (end < length bs)
  noting_below end h f = end_below bs s i at end (noting_inside h) t.there f

  -- behind the last name
  pub noting_end : length bs ≤ at → Starts false bs starts
  noting_end h = let e = start_over bs s i t.few (rw t.there at h) in record { sound = s; room = omega (arith, t.room, t.wide); all = rw e at t.noted }

-- on the way to the name numbered x, with so many names left
pub record Stepping (bs : List ℕ) (x at left : ℕ) : Type 0 where
  pub few : left ≤ x
  pub there : at ≡ start_of (lines bs) (x - left)

pub stepping_start : {bs starts : List ℕ} (x : ℕ) → Starts false bs starts → x < length (lines bs) → Stepping bs x (get_or starts (x / 8) 0) (x % 8)
stepping_start {bs} {starts} x s h =
    let e : 8 * (x / 8) ≡ x - x % 8 = omega arith in
    record { few = omega arith; there = s.all.at (x / 8) (omega arith) ∙ ap (start_of (lines bs)) e }

pub stepping_next : {bs : List ℕ} {x at left : ℕ} (s : Sound bs) → Stepping bs x at left → x < length (lines bs) → 0 < left → (end : ℕ)
    → end ≡ at + length (name_from bs at) → Stepping bs x (end + 1) (left - 1)
stepping_next {bs} {x} {at} {left} s t h l end f =
    let e : x - left + 1 ≡ x - (left - 1) = omega (arith, t.few) in
    record { few = omega (arith, t.few); there = start_further bs s (x - left) at end (omega (arith, t.few)) t.there f ∙ ap (start_of (lines bs)) e }

pub stepping_end : {bs : List ℕ} {x at left : ℕ} → Stepping bs x at left → left ≤ 0 → at ≡ start_of (lines bs) x
stepping_end {bs} {x} {at} {left} t h = let e : x - left ≡ x = omega arith in t.there ∙ ap (start_of (lines bs)) e

pub stepping_below : {bs : List ℕ} {x at left : ℕ} (s : Sound bs) → Stepping bs x at left → x < length (lines bs) → 0 < left → (end : ℕ)
    → end ≡ at + length (name_from bs at) → (at ≤ end) × (end < length bs)
stepping_below {bs} {x} {at} {left} s t h l end f = end_below bs s (x - left) at end (omega (arith, t.few)) t.there f
