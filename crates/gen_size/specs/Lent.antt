-- What a generator that measures is lent: its fields at the front, the book's entries and the work words.
use Rattle.std.specs.Prelude.{ℕ, List, ◌∷◌}
use Rattle.book.specs.Entry.{Entry, entries}
use Rattle.book.specs.Fields.{Item, Field, Meanings}
use Rattle.layout.specs.Layout.{size_of, align_of}
use Rattle.layout_memo.specs.Work.{Ready, After}
use Rattle.lowering.specs.Gen.{Gen}
use Rattle.lowering.specs.Context.{FnCtx}
use Rattle.gen_lines.specs.declared.Reached.{Reached}
use Rattle.gen_lines.specs.Puts.{Puts}
use Rattle.gen_lines.specs.Follow.{Asked}
use Rattle.gen_values.specs.Maps.{Maps, Did, maps_after}
use Rattle.gen_values.specs.Fields.{Fields, type_starts, type_is}
use Rattle.gen_size.specs.declared.Bytes.{Bytes}
use Rattle.gen_size.specs.Sizes.{Measurable, SizeAsked, AlignAsked, size_in, align_in_lem}

pub record Lent (m : ℕ) (fs : List Field) (es bs : List Entry) (work : List ℕ) : Type 0 where
  pub holds : Meanings fs
  pub fields : Fields m fs holds es
  pub ready : Ready m bs work

-- the type in front is measured
module _ {m : ℕ} {fs : List Field} (ks ws : List ℕ) {bs : List Entry} {work : List ℕ} where
  pub measurable : Lent m (Field.plain Item.type ∷ fs) (entries ks ws) bs work → Measurable m (entries ks ws) bs work
  measurable l = record { front = type_starts ks ws 0 l.fields; ready = l.ready }

  module _ {p : Meanings (Field.plain Item.type ∷ fs)} {c : FnCtx} {work' : List ℕ} {s : Reached} {r : Bytes}
      (f : Fields m (Field.plain Item.type ∷ fs) p (entries ks ws)) (k : Maps m bs c work) where
    pub size_asked : SizeAsked m (entries ks ws) bs work work' s r → Asked (size_of c.codegen.structs p.0) s r.s r.bytes
    size_asked q = size_in k (type_is ks ws 0 f) q

    pub align_asked : AlignAsked m (entries ks ws) bs work work' s r → Asked (align_of c.codegen.structs p.0) s r.s r.bytes
    align_asked q = align_in_lem k (type_is ks ws 0 f) q

-- the lines are put, and the maps are kept
pub did : {g : Gen} {m : ℕ} {bs : List Entry} {c : FnCtx} {work work' : List ℕ} {s t : Reached} {ks os ks' os' : List ℕ} → Maps m bs c work → After m bs work work'
    → Puts g s t ks os ks' os' → Did g m bs c work' s t ks os ks' os'
did k a p = record { puts = p; maps = maps_after k a }
