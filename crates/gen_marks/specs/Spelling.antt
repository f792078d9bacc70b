-- The pass over all names: word 5 of each by its spelling, in place of the next one's start.
use Rattle.std.specs.Prelude.{ℕ, ◌+◌, ◌-◌, ◌*◌, ◌<◌, ◌≤◌, ◌≡◌, refl, Bool, true, false, List, eqb, ltb, length, get_or, set}
use Rattle.std.proofs.Common.{sym, ap, ◌∙◌, arith, length-set, get_or-set_same, get_or-set_other, eqb-true, ltb-true, ltb-false}
use Rattle.std.proofs.lemmas.Bool.{eqb-false}
use Rattle.names.specs.Name.{lines, accepted, name_at, name_from, start_of}
use Rattle.names.specs.Spelling.{has_overflow}
use Rattle.names.specs.Lines.{Names, names_iff, names_lines, accepted_iff, lines_counted}
use Rattle.names.specs.Places.{stands, next_start, last_start}
use Rattle.book.specs.Work.{name_words, mark_at}
use Rattle.gen_blocks.specs.Words.{WordsKept, words_none, words_set, words_then}
use Rattle.gen_marks.specs.Mark.{spelled, with_overflow, plain_mark}

-- where the name at `at` ends
pub record Ended (bs : List ℕ) (at end : ℕ) : Type 0 where
  pub ends : end ≡ at + length (name_from bs at)
  pub inside : end < length bs

-- what the pass asks and leaves
pub record SpellAsked (bs : List ℕ) (m : ℕ) (work : List ℕ) : Type 0 where
  pub names : accepted bs m ≡ true
  pub room : name_words m ≤ length work
  pub nexts : (x : ℕ) → x < m → get_or work (mark_at x) 0 ≡ start_of (lines bs) (x + 1)

pub record SpellDone (bs : List ℕ) (m : ℕ) (work work' : List ℕ) : Type 0 where
  pub words : (x : ℕ) → x < m → get_or work' (mark_at x) 0 ≡ plain_mark (name_at (lines bs) x)
  pub kept : WordsKept m 5 work work'

-- at the place `at`, where the name x begins
pub record Spelling (bs : List ℕ) (m : ℕ) (work₀ work : List ℕ) (at x : ℕ) : Type 0 where
  pub names : Names bs (lines bs)
  pub count : length (lines bs) ≡ m
  pub place : at ≡ start_of (lines bs) x
  pub few : x ≤ m
  pub words : (y : ℕ) → y < x → get_or work (mark_at y) 0 ≡ plain_mark (name_at (lines bs) y)
  pub nexts : (y : ℕ) → x ≤ y → y < m → get_or work (mark_at y) 0 ≡ start_of (lines bs) (y + 1)
  pub kept : WordsKept m 5 work₀ work
  pub room : name_words m ≤ length work

pub spell_start : (bs : List ℕ) (m : ℕ) (work : List ℕ) → SpellAsked bs m work → Spelling bs m work work 0 0
unfolding start_of
spell_start bs m work k =
    let a = (accepted_iff bs m).0 k.names in
    let l : lines bs ≡ a.0 = names_lines bs a.0 a.1 in
    record {
      names = rw l ((names_iff bs a.0).0 a.1);
      count = lines_counted bs m k.names;
      place = refl;
      few = omega arith;
      words = λ y h. absurd (omega arith);
      nexts = λ y _. k.nexts y;
      kept = words_none;
      room = k.room;
    }

module _ {bs : List ℕ} {m : ℕ} {work₀ work : List ℕ} {at x : ℕ} (s : Spelling bs m work₀ work at x) where
  abbrev ns : List (List ℕ)
  ns = lines bs

  -- a name is left
  pub spell_more : at < length bs → x < m
  spell_more l = go (ltb x m) refl
    where
      go : (b : Bool) → ltb x m ≡ b → x < m
      go true e = ltb-true x m e
      go false e =
          let q : x ≡ length ns = omega (arith, ltb-false x m e, s.few, s.count) in
          absurd (omega (arith, s.place, ap (start_of ns) q, last_start bs ns s.names))

  -- none is left
  pub spell_done : length bs ≤ at → SpellDone bs m work₀ work
  spell_done l = record { words = λ y h. s.words y (less y h); kept = s.kept }
    where
      whole : (b : Bool) → ltb x m ≡ b → m ≤ x
      whole true e =
          let q : x < length ns = omega (arith, ltb-true x m e, s.count) in
          absurd (omega (arith, s.place, (stands bs ns s.names x q).inside))
      whole false e = ltb-false x m e

      less : (y : ℕ) → y < m → y < x
      less y h = omega (arith, whole (ltb x m) refl)

  module _ (l : at < length bs) where
    here : x < length ns
    here = omega (arith, spell_more l, s.count)

    name_is : name_from bs at ≡ name_at ns x
    name_is = rw s.place (stands bs ns s.names x here).from

    -- the word is one more than the end of the name that begins here
    word_next : get_or work (mark_at x) 0 ≡ at + length (name_from bs at) + 1
    word_next = s.nexts x (omega arith) (spell_more l) ∙ rw s.place (sym (next_start bs ns s.names x here))

    pub more_than_none : 1 ≤ get_or work (mark_at x) 0
    more_than_none = omega (arith, word_next)

    pub ended_here : Ended bs at (get_or work (mark_at x) 0 - 1)
    ended_here =
        record {
          ends = omega (arith, word_next);
          inside = omega (arith, word_next, s.place, ap length name_is, (stands bs ns s.names x here).inside);
        }

    pub spell_next : {end : ℕ} → Ended bs at end → (v : ℕ) → v ≡ plain_mark (name_from bs at) → Spelling bs m work₀ (set work (mark_at x) v) (end + 1) (x + 1)
    spell_next {end} e v d =
        let q : x < m = spell_more l in
        record {
          names = s.names;
          count = s.count;
          place = ap (λ (k : ℕ). k + 1) (e.ends ∙ ap (λ (k : ℕ). k + length (name_from bs k)) s.place) ∙ next_start bs ns s.names x here;
          few = omega arith;
          words = λ y h. stored y h (eqb y x) refl;
          nexts = λ y h k. get_or-set_other work (mark_at x) (mark_at y) v 0 (λ z. omega arith) ∙ s.nexts y (omega arith) k;
          kept = words_then s.kept (words_set x (mark_at x) v q refl);
          room = omega (arith, s.room, length-set work (mark_at x) v);
        }
      where
        stored : (y : ℕ) → y < x + 1 → (b : Bool) → eqb y x ≡ b → get_or (set work (mark_at x) v) (mark_at y) 0 ≡ plain_mark (name_at ns y)
        stored y h true f =
            let r : mark_at x < length work = omega (arith, s.room, spell_more l) in
            rw (eqb-true y x f) (get_or-set_same work (mark_at x) v 0 r ∙ d ∙ ap plain_mark name_is)
        stored y h false f =
            let n = eqb-false y x f in
            get_or-set_other work (mark_at x) (mark_at y) v 0 (λ z. n (omega arith)) ∙ s.words y (omega (arith, n))

-- the word, from its class and its flag
pub word_is : (bs : List ℕ) (at : ℕ) (class v : ℕ) (overflow : Bool) → class ≡ spelled (name_from bs at) → overflow ≡ has_overflow (name_from bs at) → v ≡ with_overflow class overflow
    → v ≡ plain_mark (name_from bs at)
unfolding plain_mark
word_is bs at class v overflow c o e = rw (← c, ← o) e
