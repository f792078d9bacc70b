-- All lines: those of kinds and operands, as many as the shorter of the two lists has.
use Rattle.std.specs.Prelude.{ℕ, ◌+◌, ◌/◌, ◌≤◌, ◌<◌, ◌≡◌, refl, Bool, true, false, ◌&&◌, List, [], ◌∷◌, length, get_or, drop, min}
use Rattle.std.proofs.Common.{◌∙◌, add-one, arith, length-drop, drop-cons}
use Rattle.names.specs.Name.{name_at}
use Rattle.print_forms.specs.Forms.{form_of, allowed_by}
use Rattle.print_forms.specs.declared.Form.{Form}
use Rattle.print_forms.specs.declared.Form.TheVariants as form

-- the names of an operand are there
abbrev pub Ready : Form → List (List ℕ) → ℕ → Type 0
Ready form.Comment ns x = Unit {0}
Ready form.Name ns x = x < length ns
Ready form.Block ns x = x < length ns
Ready form.Call ns x = x / 256 < length ns
Ready form.Syscall ns x = (x < length ns) × (6 ≤ length (name_at ns x))
Ready form.Count ns x = Unit {0}
Ready form.Any ns x = Unit {0}
Ready form.Slot ns x = Unit {0}
Ready form.Args ns x = Unit {0}
Ready form.Bare ns x = Unit {0}
Ready form.Unknown ns x = Unit {0}

-- there are m names, and those from `from` up to `to` have the six bytes `__uvm_` at least
pub record Callable (ns : List (List ℕ)) (m from to : ℕ) : Type 0 where
  pub count : m ≡ length ns
  pub calls : (x : ℕ) → from ≤ x → x < to → (x < length ns) × (6 ≤ length (name_at ns x))

-- every line may stand
abbrev pub allowed_all : (names function from to : ℕ) → List ℕ → List ℕ → Bool
allowed_all n f a b [] xs = true
allowed_all n f a b (k ∷ ks) [] = true
allowed_all n f a b (k ∷ ks) (x ∷ xs) = allowed_by (form_of k) x n f a b && allowed_all n f a b ks xs

-- the names of every line are there, and its kind is known
pub record AllReady (ns : List (List ℕ)) (ks xs : List ℕ) : Type 0 where
  pub names : (i : ℕ) → i < length ks → i < length xs → Ready (form_of (get_or ks i 0)) ns (get_or xs i 0)
  pub known : (i : ℕ) → i < length ks → i < length xs → get_or ks i 0 < 94

-- ---- the check
module _ (n f a b : ℕ) where
  pub checked_end : (ks xs : List ℕ) (i : ℕ) → min (length ks) (length xs) ≤ i → allowed_all n f a b (drop i ks) (drop i xs) ≡ true
  checked_end ks xs i h = go (drop i ks) (drop i xs) (omega (arith, length-drop i ks, length-drop i xs))
    where
      go : (l m : List ℕ) → min (length l) (length m) ≡ 0 → allowed_all n f a b l m ≡ true
      go [] m e = refl
      go (k ∷ l) [] e = refl
      go (k ∷ l) (x ∷ m) e = absurd (omega arith)

  check_step : (ks xs : List ℕ) (i : ℕ) → i < length ks → i < length xs
      → allowed_all n f a b (drop i ks) (drop i xs) ≡ (allowed_by (form_of (get_or ks i 0)) (get_or xs i 0) n f a b && allowed_all n f a b (drop (i + 1) ks) (drop (i + 1) xs))
  check_step ks xs i h g = rw (drop-cons ks i 0 h, drop-cons xs i 0 g, add-one i)

  pub checked_false : (ks xs : List ℕ) (i : ℕ) → i < length ks → i < length xs → allowed_by (form_of (get_or ks i 0)) (get_or xs i 0) n f a b ≡ false
      → allowed_all n f a b (drop i ks) (drop i xs) ≡ false
  checked_false ks xs i h g e = check_step ks xs i h g ∙ rw e

  pub checked_true : (ks xs : List ℕ) (i : ℕ) → i < length ks → i < length xs → allowed_by (form_of (get_or ks i 0)) (get_or xs i 0) n f a b ≡ true
      → allowed_all n f a b (drop i ks) (drop i xs) ≡ allowed_all n f a b (drop (i + 1) ks) (drop (i + 1) xs)
  checked_true ks xs i h g e = check_step ks xs i h g ∙ rw e
