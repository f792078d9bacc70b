-- Measurements as generators ask for them: `size_of` and `align_of`, each with 64 levels.
use Rattle.std.specs.Prelude.{ℕ, ◌≤◌, ◌≡◌, List}
use Rattle.std.proofs.Common.{refl, sym, arith}
use Rattle.book.specs.Ast.{Ty}
use Rattle.book.specs.Entry.{Entry}
use Rattle.std.specs.Prelude.{Ok, Err}
use Rattle.book.specs.Refusal.{number_of, number_positive}
use Rattle.book.specs.Result.{ok, err}
use Rattle.layout.specs.Layout.{size_of, align_of}
use Rattle.layout_memo.specs.Front.{Starts, ty_of}
use Rattle.layout_memo.specs.Measured.{Measured, Measures}
use Rattle.layout_memo.specs.Work.{Ready, After, Ask, Outcome, structs_in, sizes, aligns, size_small, align_small}
use Rattle.lowering.specs.Context.{FnCtx}
use Rattle.gen_lines.specs.declared.Reached.{Reached}
use Rattle.gen_lines.specs.Puts.{made_refused}
use Rattle.gen_lines.specs.Follow.{Asked, asked_ok, asked_err}
use Rattle.gen_values.specs.Maps.{Maps}
use Rattle.gen_size.specs.declared.Bytes.{Bytes}

-- a type at the front, and the work words of measuring
pub record Measurable (m : ℕ) (es bs : List Entry) (work : List ℕ) : Type 0 where
  pub front : Starts m es
  pub ready : Ready m bs work

pub ask : {m : ℕ} {es bs : List Entry} {work : List ℕ} → Measurable m es bs work → Ask m es bs work 64
ask q = record { front = q.front; ready = q.ready; levels = omega arith }

pub record SizeAsked (m : ℕ) (es bs : List Entry) (work work' : List ℕ) (s : Reached) (r : Bytes) : Type 0 where
  pub asked : Asked (size_of (structs_in m bs) (ty_of m es)) s r.s r.bytes
  pub small : r.bytes ≤ 16777216
  pub after : After m bs work work'

pub record AlignAsked (m : ℕ) (es bs : List Entry) (work work' : List ℕ) (s : Reached) (r : Bytes) : Type 0 where
  pub asked : Asked (align_of (structs_in m bs) (ty_of m es)) s r.s r.bytes
  pub small : r.bytes ≤ 8
  pub after : After m bs work work'

-- ---- by the answer of a measurement
abbrev pub noted_of : Measured → Reached → Bytes
noted_of (Ok b) s = record { bytes = b.bytes; s = s }
noted_of (Err e) s = record { bytes = 0; s = made_refused s (number_of e) }

module _ {m : ℕ} {es bs : List Entry} {work work' : List ℕ} (s : Reached) where
  pub size_noted : (q : Measured) → Outcome m bs work work' (sizes (structs_in m bs) (ty_of m es)) 64 q → (r : Bytes) → r ≡ noted_of q s → SizeAsked m es bs work work' s r
  unfolding size_of
  size_noted (Ok b) o r e =
      let g : Measures (sizes (structs_in m bs) (ty_of m es)) 64 (Ok b) = o.says in
      let a : size_of (structs_in m bs) (ty_of m es) ≡ ok b.bytes = g.known.high 64 g.within in
      rw e (record {
        asked = rw a (asked_ok s b.bytes);
        small = size_small (structs_in m bs) (ty_of m es) g.within g.known;
        after = o.after;
      })
  size_noted (Err x) o r e =
      let a : size_of (structs_in m bs) (ty_of m es) ≡ err (number_of x) = o.says in
      rw e (record { asked = rw a (asked_err (number_of x) (number_positive x) s 0 refl); small = omega arith; after = o.after })

  pub align_noted : (q : Measured) → Outcome m bs work work' (aligns (structs_in m bs) (ty_of m es)) 64 q → (r : Bytes) → r ≡ noted_of q s → AlignAsked m es bs work work' s r
  unfolding align_of
  align_noted (Ok b) o r e =
      let g : Measures (aligns (structs_in m bs) (ty_of m es)) 64 (Ok b) = o.says in
      let a : align_of (structs_in m bs) (ty_of m es) ≡ ok b.bytes = g.known.high 64 g.within in
      rw e (record {
        asked = rw a (asked_ok s b.bytes);
        small = (align_small (structs_in m bs) (ty_of m es) g.within g.known).1;
        after = o.after;
      })
  align_noted (Err x) o r e =
      let a : align_of (structs_in m bs) (ty_of m es) ≡ err (number_of x) = o.says in
      rw e (record { asked = rw a (asked_err (number_of x) (number_positive x) s 0 refl); small = omega arith; after = o.after })

-- ---- in a context that the work words hold
module _ {m : ℕ} {es bs : List Entry} {c : FnCtx} {work work' : List ℕ} {s : Reached} {r : Bytes} {ty : Ty} (k : Maps m bs c work) (e : ty_of m es ≡ ty) where
  pub size_in : SizeAsked m es bs work work' s r → Asked (size_of c.codegen.structs ty) s r.s r.bytes
  size_in q = rw (k.structs, sym e) q.asked

  pub align_in_lem : AlignAsked m es bs work work' s r → Asked (align_of c.codegen.structs ty) s r.s r.bytes
  align_in_lem q = rw (k.structs, sym e) q.asked
