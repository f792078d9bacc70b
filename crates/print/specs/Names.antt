-- What the check of the names says of the printer's answer.
use Rattle.std.specs.Prelude.{ℕ, ◌≤◌, ◌<◌, ◌≡◌, Bool, List, Result, Err, length, set}
use Rattle.std.proofs.Math.Path.{refl, ap}
use Rattle.std.proofs.Common.{sym, ◌∙◌, arith, length-set, get_or-set_same}
use Rattle.std.proofs.Math.Bool.{true, false}
use Rattle.std.proofs.lemmas.Bool.{false≢true}
use Rattle.std.proofs.Math.Option.{none, some}
use Rattle.names.specs.Name.{lines, names_of, counts, accepted}
use Rattle.names.specs.Lines.{accepted_iff, lines_counted, names_lines}
use Rattle.names.specs.Text.{bytes}
use Rattle.names.specs.Prefix.{first_with, past_with, PrefixRange}
use Rattle.names_check.specs.Read.{Names, names_read, sorted_read, bad_read}
use Rattle.names_check.specs.Read as names
use Rattle.names_check.specs.Nexts.{Noted}
use Rattle.book.specs.Ast.{Book}
use Rattle.book.specs.Rule.{pick}
use Rattle.book.specs.Input.{names_in}
use Rattle.assembly.specs.Printer.{refusing, needed, print_lines}
use Rattle.print_types.specs.Starts.{Starts, sound, starts_noted}
use Rattle.print.specs.Reply.{Prints}
use Rattle.print.specs.Passes.{with_names, Named}
use Rattle.book.specs.declared.refusal.Refusal.{Refusal}
use Rattle.book.specs.declared.refusal.Refusal.TheVariants as refusal

module _ (m : ℕ) (bs : List ℕ) (r : Names)
    (e : r ≡ names_read (accepted bs m) (first_with (bytes "__uvm_") (lines bs)) (past_with (bytes "__uvm_") (lines bs))) where
  pub names_barred : r ≡ names.Bad → (b : Book) (ks xs x : List ℕ) → Prints (with_names m bs b ks xs x) (Err refusal.Names) x
  unfolding with_names accepted names_in needed refusing
  names_barred f b ks xs x = go (counts m (names_of bs)) (bad_read _ _ _ (sym e ∙ f))
    where
      go : (t : Bool) → t ≡ false → Prints (needed 2 x (pick t (names_of bs) none) (λ ns. print_lines ns b ks xs x)) (Err refusal.Names) x
      go true e = absurd (false≢true (sym e))
      go false e = record { reply = refl; text = refl }

  module _ (from to : ℕ) (f : r ≡ names.Sorted from to) where
    sorted : (accepted bs m ≡ true) × (PrefixRange (bytes "__uvm_") (lines bs) from to)
    sorted = let q = sorted_read _ _ _ from to (sym e ∙ f) in (q.0, record { first = q.1.0; past = q.1.1 })

    named : (ns : List (List ℕ)) × (names_of bs ≡ some ns) × (length ns ≡ m)
    named = (accepted_iff bs m).0 sorted.0

    pub names_named : m ≤ 131072 → Named bs m from to
    names_named l = record {
      sound = sound bs named.0 named.1 (omega (arith, named.2));
      count = sym (lines_counted bs m sorted.0);
      calls = sorted.1;
    }

    -- the first name starts at 0
    pub names_starts : m ≤ 131072 → (starts : List ℕ) {starts' : List ℕ} → m < length starts → (accepted bs m ≡ true → Noted 1 1 bs m (set starts 0 0) starts') → Starts true bs starts'
    names_starts l starts h n =
        let d = names_named l in
        let some : 0 < length starts = omega arith in
        starts_noted (n sorted.0) d.sound d.count (omega (arith, length-set starts 0 0)) (get_or-set_same starts 0 0 0 some)

    pub names_printed : (b : Book) (ks xs x : List ℕ) {r : Result ℕ Refusal} {y : List ℕ} → Prints (print_lines (lines bs) b ks xs x) r y → Prints (with_names m bs b ks xs x) r y
    unfolding with_names names_in accepted needed
    names_printed b ks xs x p = rw (sorted.0, named.1 ∙ ap some (sym (names_lines bs named.0 named.1))) p
