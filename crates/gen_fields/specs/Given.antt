-- What a generator is given that stores its own result: its fields at the front, the result word and the work words.
use Rattle.std.specs.Prelude.{ℕ, ◌≤◌, List, length}
use Rattle.std.proofs.Common.{arith}
use Rattle.book.specs.Entry.{Entry}
use Rattle.book.specs.Fields.{Field, Meanings}
use Rattle.book.specs.Work.{name_words}
use Rattle.gen_values.specs.Values.{DestReaches}
use Rattle.gen_values.specs.Fields.{Fields}

pub record Given (m : ℕ) (fs : List Field) (es : List Entry) (dest : ℕ) (work : List ℕ) : Type 0 where
  pub holds : Meanings fs
  pub fields : Fields m fs holds es
  pub result : dest ≤ m
  pub room : name_words m ≤ length work

pub dest_reaches : {m : ℕ} {fs : List Field} {es : List Entry} {dest : ℕ} {work : List ℕ} → Given m fs es dest work → DestReaches dest work
dest_reaches g = record { there = λ z. omega (arith, g.result, g.room) }
