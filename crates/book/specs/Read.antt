-- Reading from the front of a list of entries: the value found there with the number of entries that it takes, or nothing.
use Rattle.std.specs.Prelude.{ℕ, zero, suc, ◌+◌, Bool, true, false, List, [], ◌∷◌, length, drop, eqb}
use Rattle.std.proofs.Math.Option.{Option, none, some}
use Rattle.book.specs.Rule.{when, pick, unmentioned}
use Rattle.book.specs.Entry.{Entry}

pub data Read (A : Type 0) : Type 0 where
  got : A → ℕ → Read A
  bad : Read A

abbrev pub Reader : Type 0 → Type 0
Reader A = List Entry → Read A

module _ {A B : Type 0} where
  -- what is read goes on to k
  abbrev pub and_then : Read A → (A → ℕ → Read B) → Read B
  and_then (got a n) k = k a n
  and_then bad k = bad

module _ {A : Type 0} where
  -- with n entries more in front
  abbrev pub behind : ℕ → Read A → Read A
  behind n r = and_then r (λ a m. got a (n + m))

  -- a value that takes n entries, if there is one
  abbrev pub taking : ℕ → Option A → Read A
  taking n none = bad
  taking n (some a) = got a n

  abbrev pub choose : Bool → Read A → Read A → Read A
  choose true a b = a
  choose false a b = b

  -- one entry, by a rule
  unfoldable pub one : (Entry → Option A) → Reader A
  one rule [] = bad
  one rule (e ∷ es) = taking 1 (rule e)

  -- only values that pass a test
  unfoldable pub filtered : (A → Bool) → Reader A → Reader A
  filtered test p es = and_then (p es) (λ a n. taking n (when (test a) a))

module _ {A : Type 0} where
  -- `Option`: 21 is None
  unfoldable pub optional : Reader A → Reader (Option A)
  optional p [] = bad
  optional p (e ∷ es) =
      choose (eqb e.kind 21)
      (taking 1 (when (eqb e.word 0) none))
      (and_then (p (e ∷ es)) (λ a n. got (some a) n))

-- whether the entry in front stops a list of items; so does the end of the entries
unfoldable pub stops : (ℕ → Bool) → List Entry → Bool
stops stop [] = true
stops stop (e ∷ es) = stop e.kind

module _ {A B : Type 0} where
  -- what f makes of the value
  unfoldable pub mapped : (A → B) → Reader A → Reader B
  mapped f p es = and_then (p es) (λ a n. got (f a) n)

  unfoldable pub both : Reader A → Reader B → Reader (A × B)
  both p q es = and_then (p es) (λ a n. and_then (q (drop n es)) (λ b m. got (a, b) (n + m)))

module _ {A B : Type 0} where
  -- items up to the first entry whose kind stops them, then the end; the number bounds the items
  unfoldable pub until : (ℕ → Bool) → Reader A → Reader B → ℕ → Reader (List A × B)
  until stop item end zero es = choose (stops stop es) (mapped (λ b. ([], b)) end es) bad
  until stop item end (suc n) es =
      choose (stops stop es)
      (mapped (λ b. ([], b)) end es)
      (and_then (item es) (λ a k. and_then (until stop item end n (drop k es)) (λ r m. got (a ∷ r.0, r.1) (k + m))))

-- an entry of kind k, the word by a rule
unfoldable pub word : {A : Type 0} → ℕ → (ℕ → Option A) → Reader A
word k rule = one (λ e. pick (eqb e.kind k) (rule e.word) none)

-- "lists .. close with kind 0"
unfoldable pub closing : Reader (Unit {0})
closing = word 0 unmentioned

abbrev pub is_closing : ℕ → Bool
is_closing k = eqb k 0

module _ {A : Type 0} where
  -- at most n items
  unfoldable pub list_of : ℕ → Reader A → Reader (List A)
  list_of n p = mapped (λ r. r.0) (until is_closing p closing n)

  -- as many as there are: an item takes an entry at least
  unfoldable pub many : Reader A → Reader (List A)
  many p es = list_of (length es) p es
