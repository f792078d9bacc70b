-- A part of a generator is done: what does the rest from here does the whole.
use Rattle.std.specs.Prelude.{ℕ, List}
use Rattle.lowering.specs.Gen.{Gen, skip, ◌>>◌}
use Rattle.gen_lines.specs.declared.Reached.{Reached}
use Rattle.gen_lines.specs.Puts.{Puts, skip_puts, then_puts}

-- from s to t the code did what stands in g before h
pub record Toward (g h : Gen) (s t : Reached) (ks os ks' os' : List ℕ) : Type 0 where
  pub goes : (u : Reached) (ks'' os'' : List ℕ) → Puts h t u ks' os' ks'' os'' → Puts g s u ks os ks'' os''

pub toward_none : (g : Gen) (s : Reached) (ks os : List ℕ) → Toward g g s s ks os ks os
toward_none g s ks os = record { goes = λ u ks'' os'' p. p }

module _ {g : Gen} {s t : Reached} {ks os ks' os' : List ℕ} where
  pub toward_first : (h : Gen) → Puts g s t ks os ks' os' → Toward (g >> h) h s t ks os ks' os'
  toward_first h p = record { goes = λ u ks'' os'' q. then_puts p q }

  pub toward_skip : Toward g skip s t ks os ks' os' → Puts g s t ks os ks' os'
  toward_skip a = a.goes t ks' os' (skip_puts t ks' os')

module _ {g h k : Gen} {s t u : Reached} {ks os ks' os' ks'' os'' : List ℕ} where
  pub toward_then : Toward g h s t ks os ks' os' → Toward h k t u ks' os' ks'' os'' → Toward g k s u ks os ks'' os''
  toward_then a b = record { goes = λ v ks''' os''' p. a.goes v ks''' os''' (b.goes v ks''' os''' p) }
