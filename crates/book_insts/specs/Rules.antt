-- Fields that are an entry by themselves: which kinds they have, and how large a word.
use Rattle.std.specs.Prelude.{ℕ, ◌+◌, ◌-◌, ◌/◌, ◌%◌, ◌^◌, ◌≤◌, ◌<◌, ◌≡◌, Bool, true, ◌&&◌, ◌||◌, not, List, [], ◌∷◌, length, get_or, eqb, leb, ltb}
use Rattle.std.proofs.Math.Path.{refl}
use Rattle.std.proofs.Math.Bool.{false}
use Rattle.std.proofs.Math.Option.{some}
use Rattle.std.proofs.Common.{arith}
use borrow.Author.Tests.{lt-ltb, leb-true, le-leb, lt-leb, eq-eqb}
use Rattle.numbers.specs.Width.{width_ok}
use Rattle.names.specs.Tests.{both}
use Rattle.book.specs.Entry.{Entry, entry}
use Rattle.book.specs.Fields as book
use Rattle.book.specs.Read.{Read, got, bad, optional, and_then}
use Rattle.book.specs.Decode.{item, field}
use Rattle.book.specs.Forbidden.{other_item, any_there}
use Rattle.book.specs.Open.{open_book}
use Rattle.book_types.specs.Found.{found, found_of}
use Rattle.book_types.specs.Tables.{From, in_range_lem}
use Rattle.std.specs.Prelude.{Some}
use Rattle.book_insts.specs.Insts.{digit_fields, field_of}
use Rattle.book_insts.specs.InstLaws.{field_found}

-- the entry is the field of the digit by itself, whatever follows; kind 37 is the forbidden value
abbrev pub Alone : ℕ → ℕ → ℕ → ℕ → Type 0
Alone m k w d = (es : List Entry) → field_found m (field_of d) (entry k w ∷ es) ≡ Some (found 1 (eqb k 37))

-- by the kinds below 40 the largest word, and behind these the digits, a bit for each; m is the number of names
unfoldable pub rules_of : ℕ → List ℕ
rules_of m =
    0 ∷ 0 ∷ 0 ∷ 0 ∷ 0 ∷ 0 ∷ 0 ∷ 0 ∷ 0 ∷ 0 ∷ 0 ∷ 64 ∷ 0 ∷ 0 ∷ 0 ∷ (m - 1) ∷ 0 ∷ 0 ∷ 0 ∷ 0
    ∷ 0 ∷ 0 ∷ 4294967295 ∷ (m - 1) ∷ 0 ∷ 0 ∷ 0 ∷ 0 ∷ 0 ∷ 0 ∷ (m - 1) ∷ (m - 1) ∷ 18446744073709551615 ∷ 0 ∷ 0 ∷ 0 ∷ 0 ∷ 0 ∷ 0 ∷ 0
    ∷ 0 ∷ 0 ∷ 0 ∷ 0 ∷ 0 ∷ 0 ∷ 0 ∷ 0 ∷ 0 ∷ 0 ∷ 2 ∷ 2 ∷ 2 ∷ 0 ∷ 0 ∷ 2 ∷ 0 ∷ 0 ∷ 2 ∷ 2
    ∷ 2 ∷ 480 ∷ 16 ∷ 264 ∷ 0 ∷ 0 ∷ 0 ∷ 0 ∷ 0 ∷ 0 ∷ 132 ∷ 132 ∷ 132 ∷ 132 ∷ 132 ∷ 132 ∷ 132 ∷ 132 ∷ 0 ∷ 0 ∷ []

pub rules_length : (m : ℕ) → length (rules_of m) ≡ 80
unfolding rules_of
rules_length m = refl

-- whether by such rules an entry is the field of a digit by itself: its kind is below 40, its word is not too large, the digit's bit is set, and
-- an integer has one of the widths
abbrev bit : ℕ → ℕ → Bool
bit n d = eqb (n / 2 ^ d % 2) 1

unfoldable pub alone_by : (rule : List ℕ) (k w d : ℕ) → Bool
alone_by rule k w d = leb k 39 && ((leb w (get_or rule k 0) && bit (get_or rule (k + 40) 0) d) && (not (eqb k 11) || width_ok w))

module _ (rule : List ℕ) (k w d : ℕ) where
  pub alone_beyond : 39 < k → false ≡ alone_by rule k w d
  unfolding alone_by
  alone_beyond h = rw (lt-leb k 39 h) refl

  pub alone_below : k ≤ 39 → (t : Bool) → t ≡ width_ok w
      → ((leb w (get_or rule k 0) && bit (get_or rule (k + 40) 0) d) && (not (eqb k 11) || t)) ≡ alone_by rule k w d
  unfolding alone_by
  alone_below h t e = rw (le-leb k 39 h, e) refl

-- ---- what the rules say is so
-- rows are put together one by one
infixr 5 ◌&◌
abbrev ◌&◌ : {A B : Type 0} → A → B → A × B
a & b = (a, b)

-- what is to be shown where a bit is set
abbrev If : Bool → Type 0 → Type 0
If true A = A
If false A = Unit {0}

if_true_lem : {A : Type 0} (b : Bool) → b ≡ true → If b A → A
if_true_lem true e a = a
if_true_lem false e a = absurd (let z : ◌≡◌ {A = ℕ} 0 1 = cc in omega arith)

module _ (m w : ℕ) where
  -- for each bit of a number, which is a digit from 0 to 15
  abbrev Digits : ℕ → ℕ → Type 0
  Digits n k = From (λ d. If (bit n d) (Alone m k w d)) 0 16

  nothing : (k : ℕ) → Digits 0 k
  nothing k = tt & tt & tt & tt & tt & tt & tt & tt & tt & tt & tt & tt & tt & tt & tt & tt & tt

  types : (k : ℕ) → Alone m k w 1 → Digits 2 k
  types k a = tt & a & tt & tt & tt & tt & tt & tt & tt & tt & tt & tt & tt & tt & tt & tt & tt

  -- an item that may be absent
  there : (i : book.Item) (k : ℕ) (b : Bool) → eqb k 21 ≡ false → (es : List Entry) → field_found m (book.Field.plain i) (entry k w ∷ es) ≡ Some (found 1 b)
      → field_found m (book.Field.optional i) (entry k w ∷ es) ≡ Some (found 1 b)
  unfolding field optional any_there
  there i k b d es h = rw d (go (item m i (entry k w ∷ es)) h)
    where
      go : (r : Read (book.ItemMeaning i)) → found_of (other_item i) r ≡ Some (found 1 b) → found_of (any_there (other_item i)) (and_then r (λ a n. got (some a) n)) ≡ Some (found 1 b)
      go (got a n) h = h
      go bad h = h

  values : (k : ℕ) → eqb k 21 ≡ false → Alone m k w 2 → Digits 132 k
  unfolding digit_fields
  values k d a = tt & tt & a & tt & tt & tt & tt & (λ es. there book.Item.value k (eqb k 37) d es (a es)) & tt & tt & tt & tt & tt & tt & tt & tt & tt

  indices : Alone m 22 w 4 → Digits 16 22
  indices a = tt & tt & tt & tt & a & tt & tt & tt & tt & tt & tt & tt & tt & tt & tt & tt & tt

  blocks : Alone m 23 w 3 → Digits 264 23
  unfolding digit_fields
  blocks a = tt & tt & tt & a & tt & tt & tt & tt & (λ es. there book.Item.block 23 false refl es (a es)) & tt & tt & tt & tt & tt & tt & tt & tt

  absents : w ≡ 0 → Digits 480 21
  unfolding open_book digit_fields
  absents z = tt & tt & tt & tt & tt & (λ es. rw z) & (λ es. rw z) & (λ es. rw z) & (λ es. rw z) & tt & tt & tt & tt & tt & tt & tt & tt

  module _ (named : 1 ≤ m) where
    name : w ≤ m - 1 → ltb w m ≡ true
    name h = lt-ltb w m (omega arith)

    zero : w ≤ 0 → w ≡ 0
    zero h = omega arith

    -- kind by kind
    abbrev Kind : ℕ → Type 0
    Kind k = w ≤ get_or (rules_of m) k 0 → (k ≡ 11 → width_ok w ≡ true) → Digits (get_or (rules_of m) (k + 40) 0) k

    kinds : From Kind 0 40
    unfolding open_book digit_fields rules_of
    kinds =
        (λ h i. nothing 0)
        & (λ h i. nothing 1)
        & (λ h i. nothing 2)
        & (λ h i. nothing 3)
        & (λ h i. nothing 4)
        & (λ h i. nothing 5)
        & (λ h i. nothing 6)
        & (λ h i. nothing 7)
        & (λ h i. nothing 8)
        & (λ h i. nothing 9)
        & (λ h i. types 10 (λ es. rw (zero h)))
        & (λ h i. types 11 (λ es. rw (i refl)))
        & (λ h i. types 12 (λ es. rw (zero h)))
        & (λ h i. nothing 13)
        & (λ h i. nothing 14)
        & (λ h i. types 15 (λ es. rw (name h)))
        & (λ h i. nothing 16)
        & (λ h i. nothing 17)
        & (λ h i. types 18 (λ es. rw (zero h)))
        & (λ h i. types 19 (λ es. rw (zero h)))
        & (λ h i. types 20 (λ es. rw (zero h)))
        & (λ h i. absents (zero h))
        & (λ h i. indices (λ es. rw (lt-ltb w (2 ^ 32) (omega arith))))
        & (λ h i. blocks (λ es. rw (name h)))
        & (λ h i. nothing 24)
        & (λ h i. nothing 25)
        & (λ h i. nothing 26)
        & (λ h i. nothing 27)
        & (λ h i. nothing 28)
        & (λ h i. nothing 29)
        & (λ h i. values 30 refl (λ es. rw (name h)))
        & (λ h i. values 31 refl (λ es. rw (name h)))
        & (λ h i. values 32 refl (λ es. refl))
        & (λ h i. values 33 refl (λ es. rw (zero h)))
        & (λ h i. values 34 refl (λ es. rw (zero h)))
        & (λ h i. values 35 refl (λ es. rw (zero h)))
        & (λ h i. values 36 refl (λ es. rw (zero h)))
        & (λ h i. values 37 refl (λ es. rw (zero h)))
        & (λ h i. nothing 38)
        & (λ h i. nothing 39) & tt

    rules_hold : (k d : ℕ) → k < 40 → d < 16 → w ≤ get_or (rules_of m) k 0 → bit (get_or (rules_of m) (k + 40) 0) d ≡ true → (k ≡ 11 → width_ok w ≡ true) → Alone m k w d
    rules_hold k d hk hd h t i =
        if_true_lem _ t
        (in_range_lem (λ d. If (bit (get_or (rules_of m) (k + 40) 0) d) (Alone m k w d)) 0 16 (in_range_lem Kind 0 40 kinds k (omega arith) (omega arith) h i) d (omega arith) (omega arith))

    -- the same as one test
    pub rules_tell : (rule : List ℕ) → rule ≡ rules_of m → (k d : ℕ) → d < 16 → alone_by rule k w d ≡ true → Alone m k w d
    unfolding alone_by
    rules_tell rule er k d hd h =
        let s = both (leb k 39) _ h in
        let q = both (leb w (get_or rule k 0) && bit (get_or rule (k + 40) 0) d) (not (eqb k 11) || width_ok w) s.1 in
        let p = both (leb w (get_or rule k 0)) (bit (get_or rule (k + 40) 0) d) q.0 in
        rules_hold k d (omega (arith, leb-true k 39 s.0)) hd (leb-true _ _ (rw er at p.0)) (rw er at p.1) (λ e. rw (eq-eqb k 11 e) at q.1)
