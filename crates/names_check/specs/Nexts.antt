-- Where the name behind each one starts, noted in words: for the first name in one word, for each other one some words on.
use Rattle.std.specs.Prelude.{ℕ, ◌+◌, ◌*◌, ◌<◌, ◌≡◌, cond, List, ltb, length, get_or}
use Rattle.std.proofs.Common.{◌∙◌, arith}
use Rattle.names.specs.Name.{lines, start_of}

-- the starts of the names behind each of the first m stand in those of these words that the slice has, and no other word has changed. Behind
-- the last name the end of the bytes stands for a start
pub record Noted (step first : ℕ) (bs : List ℕ) (m : ℕ) (nexts nexts' : List ℕ) : Type 0 where
  pub words : (x : ℕ) → x < m → step * x + first < length nexts → get_or nexts' (step * x + first) 0 ≡ start_of (lines bs) (x + 1)
  pub same : (i : ℕ) → ((x : ℕ) → x < m → i ≡ step * x + first → ⊥) → get_or nexts' i 0 ≡ get_or nexts i 0
  pub long : length nexts' ≡ length nexts

-- they are noted where this is so. Left free: the words where it is not, since the call is refused then, and who lent them clears them
abbrev pub NotedWhere : (told : Type 0) (step first : ℕ) (bs : List ℕ) (m : ℕ) (nexts nexts' : List ℕ) → Type 0
NotedWhere told step first bs m nexts nexts' = told → Noted step first bs m nexts nexts'

-- words that are 0 but for these
pub record NextsAlone (step first : ℕ) (bs : List ℕ) (m : ℕ) (work : List ℕ) : Type 0 where
  pub nexts : (x : ℕ) → x < m → step * x + first < length work → get_or work (step * x + first) 0 ≡ start_of (lines bs) (x + 1)
  pub blank : (i : ℕ) → ((x : ℕ) → x < m → i ≡ step * x + first → ⊥) → get_or work i 0 ≡ 0

pub nexts_alone : {step first : ℕ} {bs : List ℕ} {m : ℕ} {nexts nexts' : List ℕ} → Noted step first bs m nexts nexts' → ((i : ℕ) → get_or nexts i 0 ≡ 0)
    → NextsAlone step first bs m nexts'
nexts_alone n z = record { nexts = λ x l r. n.words x l (omega (arith, n.long)); blank = λ i o. n.same i o ∙ z i }

-- the place of the next word among so many: a place behind them stays
abbrev pub place_behind : (size step place : ℕ) → ℕ
place_behind size step place = cond (ltb place size) (place + step) place
