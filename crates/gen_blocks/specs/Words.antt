-- Work words that a pass stores: the word j of names, of the 8 that a name has.
use Rattle.std.specs.Prelude.{ℕ, ◌<◌, ◌≡◌, refl, List, length, get_or, set}
use Rattle.std.proofs.Common.{◌∙◌, arith, length-set, get_or-set_other}
use Rattle.book.specs.Entry.{Entry}
use Rattle.book.specs.Work.{body_at, measured_at, word_at}
use Rattle.layout_memo.specs.Work.{Ready, table_at, table_other, facts_kept}

-- no word has changed but the words j of names
pub record WordsKept (m j : ℕ) (work work' : List ℕ) : Type 0 where
  pub long : length work' ≡ length work
  pub same : (i : ℕ) → ((x : ℕ) → x < m → i ≡ word_at x j → ⊥) → get_or work' i 0 ≡ get_or work i 0

module _ {m j : ℕ} where
  pub words_none : {work : List ℕ} → WordsKept m j work work
  words_none = record { long = refl; same = λ i n. refl }

  pub words_then : {a b c : List ℕ} → WordsKept m j a b → WordsKept m j b c → WordsKept m j a c
  words_then p q = record { long = q.long ∙ p.long; same = λ i n. q.same i n ∙ p.same i n }

  pub words_set : {work : List ℕ} (x k v : ℕ) → x < m → k ≡ word_at x j → WordsKept m j work (set work k v)
  words_set {work} x k v l e = record { long = length-set work k v; same = λ i n. get_or-set_other work k i v 0 (λ z. n x l (z ∙ e)) }

-- words other than the bodies (4), the measurements (7) and the table's leave what measuring rests on
module _ {m : ℕ} {bs : List Entry} {work work' : List ℕ} where
  pub ready_kept : Ready m bs work → length work' ≡ length work → ((x : ℕ) → x < m → get_or work' (body_at x) 0 ≡ get_or work (body_at x) 0)
      → ((x : ℕ) → x < m → get_or work' (measured_at x) 0 ≡ get_or work (measured_at x) 0) → ((k : ℕ) → get_or work' (table_at m k) 0 ≡ get_or work (table_at m k) 0) → Ready m bs work'
  ready_kept r long bodies known table =
      record {
        room = omega (arith, r.room);
        bodies = λ x l. rw (bodies x l) (r.bodies x l);
        known = λ x l. rw (known x l) (r.known x l);
        facts = facts_kept work' r table;
        few = r.few;
      }

  pub ready_words : (j : ℕ) → j < 8 → (j ≡ 4 → ⊥) → (j ≡ 6 → ⊥) → (j ≡ 7 → ⊥) → Ready m bs work → WordsKept m j work work' → Ready m bs work'
  ready_words j l n4 n6 n7 r k =
      ready_kept r k.long (λ x _. k.same (body_at x) (λ y _ e. n4 (omega arith))) (λ x _. k.same (measured_at x) (λ y _ e. n7 (omega arith)))
      (λ i. k.same (table_at m i) (λ y ly. table_other m i y j l n6 ly))
