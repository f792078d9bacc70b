-- The lines that the code allows are those of the definition.
use Rattle.std.specs.Prelude.{ℕ, zero, suc, ◌-◌, ◌/◌, ◌%◌, ◌≤◌, ◌<◌, ◌≡◌, Bool, ◌&&◌, List, [], ◌∷◌, eqb, ltb, get_or}
use Rattle.std.proofs.Math.Path.{refl, ap}
use Rattle.std.proofs.Common.{sym, ◌∙◌, length-append}
use Rattle.std.proofs.Math.Logic.{⊎_elim}
use Rattle.std.proofs.Math.Bool.{true, false}
use Rattle.std.proofs.Math.Option.{Option, none, some}
use native.Mathlib.Omega.{arith}
use borrow.Author.Tests.{ltb-true, leb-true, le-leb, lt-ltb, le-ltb}
use Rattle.std.proofs.Math.Dec.{leb}
use Rattle.std.proofs.Math.ListN.{length, get_elem?}
use Rattle.numbers.specs.Tests.{lt_or_le}
use Rattle.names.specs.Text.{bytes}
use Rattle.names.specs.Texts.{starts_iff}
use Rattle.names.specs.Tests.{both}
use Rattle.names.specs.Name.{name_at, names_of, lines}
use Rattle.names.specs.Spelling.{is_syscall}
use Rattle.names.specs.Prefix.{PrefixRange, past_with}
use Rattle.names.specs.Lines.{names_lines}
use Rattle.names.specs.Ranges.{range_test, range_order}
use Rattle.book.specs.Ast.{Book}
use Rattle.book.specs.Decode.{member, function_names}
use Rattle.assembly.specs.Line.{Line}
use Rattle.assembly.specs.Number.{bins, preds, operations, with_operand, bare, applied, kept, form_of as lineForm, is_name, allowed, if_allowed, line_of}
use Rattle.assembly.specs.Printer.{consed}
use Rattle.book_types.specs.Tables.{From, in_range_lem}
use Rattle.print_forms.specs.Forms.{number_form, name_form, form_of, allowed_by}
use Rattle.print_forms.specs.Kinds.{bare_form, unknown_form, known_form}
use Rattle.print_forms.specs.All.{Ready, Callable, allowed_all, AllReady}
use Rattle.print_forms.specs.declared.Form.{Form}
use Rattle.print_forms.specs.declared.Form.TheVariants as form

abbrev pub is_some : {A : Type 0} → Option A → Bool
is_some none = false
is_some (some a) = true

kept_is : (t : Bool) (l : Line) → t ≡ is_some (kept t (some l))
unfolding kept
kept_is true l = refl
kept_is false l = refl

and-true : (t : Bool) (l : Line) → t ≡ is_some (kept (t && true) (some l))
unfolding kept
and-true true l = refl
and-true false l = refl

and-false : (t : Bool) → (t && false) ≡ false
and-false true = refl
and-false false = refl

-- ---- lines without an operand
abbrev every_line : (Line → Bool) → List Line → Bool
every_line f [] = true
every_line f (l ∷ ls) = f l && every_line f ls

every_at : (f : Line → Bool) (ls : List Line) → every_line f ls ≡ true → (j : ℕ) → j < length ls → (l : Line) × ((get_elem? ls j ≡ some l) × (f l ≡ true))
every_at f [] e j h = absurd (omega arith)
every_at f (l ∷ ls) e zero h = (l, (refl, (both (f l) (every_line f ls) e).0))
every_at f (l ∷ ls) e (suc j) h = every_at f ls (both (f l) (every_line f ls) e).1 j (omega arith)

none_at : (ls : List Line) (j : ℕ) → length ls ≤ j → get_elem? ls j ≡ none
none_at [] j h = refl
none_at (l ∷ ls) zero h = absurd (omega arith)
none_at (l ∷ ls) (suc j) h = none_at ls j (omega arith)

bare_count : length bare ≡ 73
unfolding bare operations bins preds
bare_count = refl

module _ (ns : List (List ℕ)) (b : Book) where
  bare_allowed : every_line (allowed ns b) bare ≡ true
  unfolding bare operations bins preds allowed
  bare_allowed = refl

  if_kept : (t : Bool) (l : Line) → allowed ns b l ≡ true → t ≡ is_some (if_allowed ns b (kept t (some l)))
  unfolding if_allowed kept
  if_kept true l e = rw e
  if_kept false l e = refl

  bare_line : (k x : ℕ) → 21 ≤ k → k < 94 → eqb x 0 ≡ is_some (line_of ns b k x)
  unfolding line_of lineForm
  bare_line k x h g =
      let w = every_at (allowed ns b) bare bare_allowed (k - 21) (omega (arith, bare_count)) in
      rw (le-ltb k 21 h, w.1.0) (if_kept (eqb x 0) w.0 w.1.1)

  kept_none : (t : Bool) → false ≡ is_some (if_allowed ns b (kept t none))
  unfolding if_allowed kept
  kept_none true = refl
  kept_none false = refl

  no_line : (k x : ℕ) → 94 ≤ k → false ≡ is_some (line_of ns b k x)
  unfolding line_of lineForm
  no_line k x h =
      let n = none_at bare (k - 21) (omega (arith, bare_count)) in
      let z : 21 ≤ k = omega arith in
      rw (le-ltb k 21 z, n) (kept_none (eqb x 0))

  -- ---- lines with one
  module _ (from to : ℕ) (range : (x : ℕ) → (leb from x && ltb x to) ≡ (is_name ns b x && is_syscall (name_at ns x))) where
    abbrev Agrees : ℕ → Type 0
    Agrees k = (x own : ℕ) → allowed_by (form_of k) x (length ns) own from to ≡ is_some (line_of ns b k x)

    call_kept : (x : ℕ) → ltb (x / 256) (length ns) ≡ is_some (line_of ns b 5 x)
    unfolding line_of lineForm if_allowed applied with_operand allowed is_name
    call_kept x =
        let z : x % 256 ≤ 255 = omega arith in
        rw (le-leb (x % 256) 255 z) (and-true (ltb (x / 256) (length ns)) (Line.call (x / 256) (x % 256)))

    -- kinds 1 to 20
    with_lines : From Agrees 1 20
    unfolding line_of lineForm if_allowed applied with_operand allowed is_name form_of number_form name_form kept
    with_lines = (
      λ x own. kept_is (ltb x (length ns)) (Line.fn_label x),
      (
        λ x own. kept_is (ltb x (length ns)) (Line.block_label x),
        (
          λ x own. kept_is (ltb x (length ns)) (Line.jmp_block x),
          (
            λ x own. kept_is (ltb x (length ns)) (Line.push_name x),
            (
              λ x own. call_kept x,
              (
                λ x own. range x ∙ kept_is (ltb x (length ns) && is_syscall (name_at ns x)) (Line.syscall x),
                (
                  λ x own. kept_is (leb 1 x && leb x 65535) (Line.push0n x),
                  (
                    λ x own. refl,
                    (
                      λ x own. refl,
                      (
                        λ x own. kept_is (leb x 65535) (Line.get_local x),
                        (
                          λ x own. kept_is (leb x 65535) (Line.set_local x),
                          (
                            λ x own. kept_is (leb x 255) (Line.call_fp x),
                            (λ x own. refl, (λ x own. refl, (λ x own. refl, (λ x own. refl, (λ x own. refl, (λ x own. refl, (λ x own. refl, (λ x own. refl, tt)))))))),
                          ),
                        ),
                      ),
                    ),
                  ),
                ),
              ),
            ),
          ),
        ),
      ),
    )

    -- the code allows what the definition allows, whichever function a line but a comment belongs to
    pub allowed_line : (own k x : ℕ) → 1 ≤ k → allowed_by (form_of k) x (length ns) own from to ≡ is_some (line_of ns b k x)
    allowed_line own k x l =
        ⊎_elim (λ h. in_range_lem Agrees 1 20 with_lines k (omega arith) (omega arith) x own)
        (λ h. ⊎_elim (λ g. rw (bare_form k h g) (bare_line k x h g)) (λ g. rw (unknown_form k g) (no_line k x g)) (lt_or_le k 94))
        (lt_or_le k 21)

  -- a comment names a function of the book
  pub allowed_comment : (x : ℕ) → member x (function_names b) ≡ is_some (line_of ns b 0 x)
  unfolding line_of lineForm if_allowed applied with_operand allowed
  allowed_comment x = kept_is (member x (function_names b)) (Line.comment x)

pub consed_is : (o : Option Line) (os : Option (List Line)) → (is_some o && is_some os) ≡ is_some (consed o os)
unfolding consed
consed_is none os = refl
consed_is (some l) none = refl
consed_is (some l) (some ls) = refl

-- ---- what is allowed is ready to be put
six : length (bytes "__uvm_") ≡ 6
unfolding bytes
six = refl

long_name : (n : List ℕ) → is_syscall n ≡ true → 6 ≤ length n
unfolding is_syscall
long_name n h =
    let w = (starts_iff (bytes "__uvm_") n).0 h in
    omega (arith, ap length w.1, length-append (bytes "__uvm_") w.0, six)

module _ {ns : List (List ℕ)} {m from to : ℕ} (c : Callable ns m from to) (function : ℕ) where
  pub ready_form : (f : Form) (x : ℕ) → allowed_by f x m function from to ≡ true → Ready f ns x
  ready_form form.Comment x h = tt
  ready_form form.Name x h = omega (arith, ltb-true x m h, c.count)
  ready_form form.Block x h = omega (arith, ltb-true x m h, c.count)
  ready_form form.Call x h = omega (arith, ltb-true (x / 256) m h, c.count)
  ready_form form.Syscall x h =
      let w = both (leb from x) (ltb x to) h in
      c.calls x (leb-true from x w.0) (ltb-true x to w.1)
  ready_form form.Count x h = tt
  ready_form form.Any x h = tt
  ready_form form.Slot x h = tt
  ready_form form.Args x h = tt
  ready_form form.Bare x h = tt
  ready_form form.Unknown x h = tt

  allowed_at : (ks xs : List ℕ) → allowed_all m function from to ks xs ≡ true → (i : ℕ) → i < length ks → i < length xs
      → allowed_by (form_of (get_or ks i 0)) (get_or xs i 0) m function from to ≡ true
  allowed_at [] xs h i p q = absurd (omega arith)
  allowed_at (k ∷ ks) [] h i p q = absurd (omega arith)
  allowed_at (k ∷ ks) (x ∷ xs) h zero p q = (both (allowed_by (form_of k) x m function from to) (allowed_all m function from to ks xs) h).0
  allowed_at (k ∷ ks) (x ∷ xs) h (suc i) p q =
      allowed_at ks xs (both (allowed_by (form_of k) x m function from to) (allowed_all m function from to ks xs) h).1 i (omega arith) (omega arith)

  pub all_ready : (ks xs : List ℕ) → allowed_all m function from to ks xs ≡ true → AllReady ns ks xs
  all_ready ks xs h = record {
    names = λ i p q. ready_form (form_of (get_or ks i 0)) (get_or xs i 0) (allowed_at ks xs h i p q);
    known = λ i p q. known_form (get_or ks i 0) (get_or xs i 0) m function from to (allowed_at ks xs h i p q);
  }

-- the names from `from` up to `to` are those that start with `__uvm_`
module _ (bs : List ℕ) (ns : List (List ℕ)) (from to : ℕ) (e : names_of bs ≡ some ns) (r : PrefixRange (bytes "__uvm_") (lines bs) from to) where
  uvm_names : (x : ℕ) → (leb from x && ltb x to) ≡ (ltb x (length ns) && is_syscall (name_at ns x))
  unfolding is_syscall
  uvm_names x =
      ⊎_elim (λ h. rw (lt-ltb x (length ns) h) (range_test (bytes "__uvm_") bs ns from to e r x h))
      (λ h.
      let p = range_order (bytes "__uvm_") (lines bs) in
      let q : past_with (bytes "__uvm_") (lines bs) ≤ length ns = omega (arith, p.1, ap length (names_lines bs ns e)) in
      let z : to ≤ x = omega (arith, r.past) in
      rw (le-ltb x (length ns) h, le-ltb x to z) (and-false (leb from x)))
      (lt_or_le x (length ns))

  pub uvm_range : (b : Book) (x : ℕ) → (leb from x && ltb x to) ≡ (is_name ns b x && is_syscall (name_at ns x))
  unfolding is_name
  uvm_range b x = uvm_names x

  pub uvm_callable : (m : ℕ) → m ≡ length ns → Callable ns m from to
  uvm_callable m c = record {
    count = c;
    calls = λ x h g.
        let w = both (ltb x (length ns)) (is_syscall (name_at ns x)) (sym (uvm_names x) ∙ rw (le-leb from x h, lt-ltb x to g)) in
        (ltb-true x (length ns) w.0, long_name (name_at ns x) w.1);
  }
