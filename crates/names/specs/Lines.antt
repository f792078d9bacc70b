-- Cutting bytes into names and joining names are inverse: the bytes are names exactly when they are a joined list of names by the rules.
use Rattle.std.specs.Prelude.{ℕ, suc, ◌*◌, ◌<◌, ◌≤◌, ◌≡◌, refl, ◌↔◌, Bool, true, false, ◌&&◌, List, [], ◌∷◌, ◌++◌, eqb, length, drop}
use Rattle.std.proofs.Common.{sym, ap, ◌∙◌, ⊎_elim, arith, eqb-true, eq-eqb, ne_eqb, length-append}
use Rattle.std.proofs.lemmas.Bool.{false≢true}
use Rattle.std.proofs.Math.Option.{Option, none, some}
use Rattle.names.specs.Text.{within}
use Rattle.names.specs.Name.{plain_byte, name_byte, spelled, every_byte, filled, allowed, every_name, ascending, cut, lines, last_or, ended, sound, keep, names_of, counts, accepted, join, up_to, until, is_end, line}
use Rattle.names.specs.Utf8.{well_formed}
use Rattle.names.specs.Texts.{in_within}
use Rattle.names.specs.Tests.{both, either}

-- the first line of some bytes, and the lines behind the byte that ends it
pub lines_first : (bs : List ℕ) → 0 < length bs → lines bs ≡ line bs ∷ lines (drop (suc (length (line bs))) bs)
unfolding lines line until cut up_to
lines_first [] h = absurd (omega arith)
lines_first (b ∷ []) h = alone (is_end b)
  where
    alone : (t : Bool) → cut t b [] ≡ up_to t b [] ∷ lines (drop (suc (length (up_to t b []))) (b ∷ []))
    alone true = refl
    alone false = refl
lines_first (b ∷ c ∷ bs) h = more (is_end b) (lines_first (c ∷ bs) (omega arith))
  where
    more : (t : Bool) → lines (c ∷ bs) ≡ line (c ∷ bs) ∷ lines (drop (suc (length (line (c ∷ bs)))) (c ∷ bs))
        → cut t b (lines (c ∷ bs)) ≡ up_to t b (line (c ∷ bs)) ∷ lines (drop (suc (length (up_to t b (line (c ∷ bs))))) (b ∷ c ∷ bs))
    more true ih = refl
    more false ih = ap (cut false b) ih

-- where a byte of a name lies
pub byte_range : (b : ℕ) → name_byte b ≡ true → (32 ≤ b) × (b ≤ 255)
unfolding name_byte plain_byte
byte_range b h =
    ⊎_elim (λ k. let r = in_within 32 126 b k in (r.0, omega (arith, r.1))) (λ k. let r = in_within 128 255 b k in (omega (arith, r.0), r.1))
    (either (plain_byte b) (within 128 255 b) h)

-- it is none that ends one
pub no_end : (b : ℕ) → name_byte b ≡ true → is_end b ≡ false
unfolding is_end
no_end b h = ne_eqb b 10 (λ e. omega (arith, byte_range b h))

pub line_of : (n r : List ℕ) → every_byte n ≡ true → line (n ++ (10 ∷ r)) ≡ n
unfolding every_byte line until up_to is_end
line_of [] r h = refl
line_of (b ∷ n) r h = let h' = both (name_byte b) (every_byte n) h in rw (no_end b h'.0, line_of n r h'.1)

pub lines_of : (n r : List ℕ) → every_byte n ≡ true → lines (n ++ (10 ∷ r)) ≡ n ∷ lines r
unfolding every_byte lines cut is_end
lines_of [] r h = refl
lines_of (b ∷ n) r h = let h' = both (name_byte b) (every_byte n) h in rw (no_end b h'.0, lines_of n r h'.1)

pub allowed_bytes : (n : List ℕ) → allowed n ≡ true → every_byte n ≡ true
unfolding allowed spelled
allowed_bytes n h = (both (every_byte n) (well_formed n) (both (filled n) (spelled n) h).1).0

pub lines_join : (ns : List (List ℕ)) → every_name ns ≡ true → lines (join ns) ≡ ns
unfolding lines join every_name
lines_join [] h = refl
lines_join (n ∷ ns) h =
    let h' = both (allowed n) (every_name ns) h in
    lines_of n (join ns) (allowed_bytes n h'.0) ∙ ap (λ r. n ∷ r) (lines_join ns h'.1)

last_behind : (d : ℕ) (n r : List ℕ) → last_or d (n ++ (10 ∷ r)) ≡ last_or 10 r
unfolding last_or
last_behind d [] r = refl
last_behind d (b ∷ n) r = last_behind b n r

pub ended_behind : (n r : List ℕ) → ended (n ++ (10 ∷ r)) ≡ ended r
unfolding ended
ended_behind n r = rw (last_behind 10 n r)

last_join : (ns : List (List ℕ)) → last_or 10 (join ns) ≡ 10
unfolding last_or join
last_join [] = refl
last_join (n ∷ ns) = last_behind 10 n (join ns) ∙ last_join ns

pub ended_join : (ns : List (List ℕ)) → ended (join ns) ≡ true
unfolding ended
ended_join ns = eq-eqb _ 10 (last_join ns)

pub join_lines : (bs : List ℕ) → ended bs ≡ true → join (lines bs) ≡ bs
unfolding ended last_or lines cut join is_end
join_lines [] h = refl
join_lines (b ∷ []) h = rw (h, eqb-true b 10 h)
join_lines (b ∷ c ∷ bs) h = more (eqb b 10) refl (lines (c ∷ bs)) (lines_first (c ∷ bs) (omega arith)) (join_lines (c ∷ bs) h)
  where
    more : (t : Bool) → eqb b 10 ≡ t → (ns : List (List ℕ)) → ns ≡ line (c ∷ bs) ∷ lines (drop (suc (length (line (c ∷ bs)))) (c ∷ bs))
        → join ns ≡ c ∷ bs → join (cut t b ns) ≡ b ∷ c ∷ bs
    more true e ns f ih = rw (ih, eqb-true b 10 e)
    more false e [] f ih = absurd (let z : ◌≡◌ {A = ℕ} 0 1 = cc in omega arith)
    more false e (n ∷ ns) f ih = ap (λ r. b ∷ r) ih

-- the bytes bs are the names ns
pub record Names (bs : List ℕ) (ns : List (List ℕ)) : Type 0 where
  pub joined : bs ≡ join ns
  pub ruled : every_name ns ≡ true
  pub ascend : ascending ns ≡ true

keep_inv : (t : Bool) (ms ns : List (List ℕ)) → keep t ms ≡ some ns → (t ≡ true) × (ms ≡ ns)
unfolding keep
keep_inv true ms ns e = (refl, cc)
keep_inv false ms ns e = absurd (let z : ◌≡◌ {A = ℕ} 0 1 = cc in omega arith)

-- where the bytes are names, these are the lines
pub names_lines : (bs : List ℕ) (ns : List (List ℕ)) → names_of bs ≡ some ns → lines bs ≡ ns
unfolding names_of
names_lines bs ns e = (keep_inv (sound bs) (lines bs) ns e).1

names_sound : (bs : List ℕ) (ns : List (List ℕ)) → names_of bs ≡ some ns → Names bs ns
unfolding names_of sound
names_sound bs ns e =
    let k = keep_inv (sound bs) (lines bs) ns e in
    let s = both (ended bs) (every_name (lines bs) && ascending (lines bs)) k.0 in
    let r = both (every_name (lines bs)) (ascending (lines bs)) s.1 in
    record { joined = sym (join_lines bs s.0) ∙ ap join k.1; ruled = rw k.1 at r.0; ascend = rw k.1 at r.1 }

names_complete : (bs : List ℕ) (ns : List (List ℕ)) → Names bs ns → names_of bs ≡ some ns
unfolding names_of sound keep
names_complete bs ns s =
    rw (s.joined, lines_join ns s.ruled, ended_join ns, s.ruled, s.ascend)

-- the sentences on names, both ways
pub names_iff : (bs : List ℕ) (ns : List (List ℕ)) → (names_of bs ≡ some ns) ↔ Names bs ns
names_iff bs ns = (names_sound bs ns, names_complete bs ns)

-- what refusal 2 leaves: names, and as many as the book says
pub accepted_iff : (bs : List ℕ) (m : ℕ) → (accepted bs m ≡ true) ↔ ((ns : List (List ℕ)) × (names_of bs ≡ some ns) × (length ns ≡ m))
unfolding accepted counts
accepted_iff bs m = (found (names_of bs), λ w. rw w.1 (holds w.0 w.2))
  where
    found : (o : Option (List (List ℕ))) → counts m o ≡ true → (ns : List (List ℕ)) × (o ≡ some ns) × (length ns ≡ m)
    found none h = absurd (false≢true h)
    found (some ns) h = (ns, refl, eqb-true (length ns) m h)

    holds : (ns : List (List ℕ)) → length ns ≡ m → counts m (some ns) ≡ true
    holds ns e = eq-eqb (length ns) m e

-- these names are the lines, so there are as many lines
pub lines_counted : (bs : List ℕ) (m : ℕ) → accepted bs m ≡ true → length (lines bs) ≡ m
lines_counted bs m h = let x = (accepted_iff bs m).0 h in ap length (names_lines bs x.0 x.1) ∙ x.2

-- ---- a name takes two bytes at least: one of its own, and the one that ends it

filled_long : (n : List ℕ) → filled n ≡ true → 0 < length n
unfolding filled
filled_long [] h = absurd (false≢true h)
filled_long (b ∷ n) h = omega arith

join_long : (ns : List (List ℕ)) → every_name ns ≡ true → 2 * length ns ≤ length (join ns)
unfolding join every_name allowed
join_long [] h = omega arith
join_long (n ∷ ns) h =
    let k = both (allowed n) (every_name ns) h in
    omega (arith, filled_long n (both (filled n) (spelled n) k.0).0, join_long ns k.1, length-append n (10 ∷ join ns))

pub accepted_long : (bs : List ℕ) (m : ℕ) → accepted bs m ≡ true → 2 * m ≤ length bs
accepted_long bs m h =
    let x = (accepted_iff bs m).0 h in
    let s = names_sound bs x.0 x.1 in
    omega (arith, join_long x.0 s.ruled, ap length s.joined, x.2)
