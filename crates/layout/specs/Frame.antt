-- The frame pass of `gen_function`: "Fixed stack places follow type alignment". Refusals 5, 6, and 7 also where the places end above 2^31.
use Rattle.std.specs.Prelude.{ℕ, ◌+◌, ◌*◌, Bool, true, false, ◌||◌, List, [], ◌∷◌, ltb}
use Rattle.std.proofs.Math.Option.{Option, none, some}
use Rattle.numbers.specs.Align.{align_up}
use Rattle.book.specs.Ast.{Ty, TypedVal, Inst, StructType}
use Rattle.book.specs.Result.{Result, ok, bind as ◌>>=◌, ok_or}
use Rattle.layout.specs.Layout.{align_of, size_of, frame_limit}
use Rattle.layout.specs.Step.{const_int}
use Rattle.book.specs.Shape.{Shape, shape}
use Rattle.book.specs.Map.{Map}

-- `alloca_offsets`, `frame_off`, `has_dynamic_alloca`
pub record Places : Type 0 where
  pub offsets : Map ℕ
  pub off : ℕ
  pub dynamic : Bool

unfoldable pub no_frame : Places
no_frame = record { offsets = []; off = 0; dynamic = false }

-- a constant count, read as u64; none where it varies
unfoldable pub count_of : Option TypedVal → Option ℕ
count_of none = some 1
count_of (some tv) = const_int tv.val

-- one place more, from `start` to `end`
unfoldable pub with_place : (name start end : ℕ) → Places → Places
with_place name start end f = record { offsets = (name, start) ∷ f.offsets; off = end; dynamic = f.dynamic }

unfoldable pub with_dynamic : Places → Places
with_dynamic f = record { offsets = f.offsets; off = f.off; dynamic = true }

module _ (structs : List StructType) where
  unfoldable pub place : (name : ℕ) → Ty → Option ℕ → Places → Result Places
  place name ty none f = ok (with_dynamic f)
  place name ty (some n) f = do
    a ← align_of structs ty
    s ← size_of structs ty
    end ← frame_limit (align_up f.off a + s * n)
    ok (with_place name (align_up f.off a) end f)

  unfoldable pub frame_step : Option ℕ → Shape → Places → Result Places
  frame_step dest (Shape.alloca ty count) f = do
    name ← ok_or 5 dest
    place name ty (count_of count) f
  frame_step dest (Shape.phi ty incoming) f = ok f
  frame_step dest (Shape.call callee) f = ok f
  frame_step dest Shape.cmpxchg f = ok f
  frame_step dest Shape.plain f = ok f

  unfoldable pub frame_pass : List Inst → Places → Result Places
  frame_pass [] f = ok f
  frame_pass (i ∷ is) f = do
    next ← frame_step i.dest (shape i.kind) f
    frame_pass is next

-- `has_frame`: some bytes of fixed places, or a varying one
unfoldable pub framed : Places → Bool
framed fr = ltb 0 (align_up fr.off 8) || fr.dynamic

-- opens every definition of this file, for an example that computes
unfoldable pub open_frame : Unit {0}
unfolding no_frame count_of with_place with_dynamic place frame_step frame_pass framed
open_frame = tt
