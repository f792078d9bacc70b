-- The refusals that the lent slices and the counter decide, and the values next to them that pass; what the slices hold after a call.
use Rattle.std.specs.Prelude.{ℕ, ◌+◌, ◌^◌, ◌≡◌, refl, false, List, [], ◌∷◌, ◌++◌, map, replicate, take}
use Prim.Native.String.{String}
use Rattle.book.specs.Ast.{Ty}
use Rattle.book.specs.Result.{Result, ok, err}
use Rattle.assembly.specs.Cases.{unlines, slice}
use Rattle.lowering.specs.Gen.{Out}
use Rattle.lowering.specs.Context.{FnCtx}
use Rattle.lowering.specs.Function.{gen_lines}
use Rattle.lowering.specs.Translate.{Translation, Translating, translate, translation_number, translation_lines, translation_counter}
use Rattle.lowering.specs.Open.{open_lowering}

-- void @f(), block e: ret void
unfoldable pub tiny : List ℕ
tiny = slice ((5, 1) ∷ (10, 0) ∷ (0, 0) ∷ (7, 0) ∷ (90, 0) ∷ (21, 0) ∷ (0, 0) ∷ (0, 0) ∷ []) ("e" ∷ "f" ∷ [])

unfoldable pub called : List String → (counter work kinds operands : ℕ) → Translating
called names counter work kinds operands = translate tiny (unlines names) counter (replicate work 7) (replicate kinds 8) (replicate operands 9)

unfoldable pub number : List String → (counter work kinds operands : ℕ) → ℕ
number names counter work kinds operands = translation_number (called names counter work kinds operands).reply

-- the counter at 2^32 and above; names descending, empty, one too few; the work slice; the line slices
pub slice_refusals :
    (number ("e" ∷ "f" ∷ []) (2 ^ 32) 80 6 6 ∷ number ("e" ∷ "f" ∷ []) (2 ^ 32 + 1) 80 6 6
    ∷ number ("f" ∷ "e" ∷ []) 0 80 6 6 ∷ number ("e" ∷ "" ∷ []) 0 80 6 6 ∷ number ("e" ∷ []) 0 80 6 6
    ∷ number ("e" ∷ "f" ∷ []) 0 79 6 6 ∷ number ("e" ∷ "f" ∷ []) 0 0 0 0 ∷ number ("e" ∷ "f" ∷ []) 0 80 5 6 ∷ number ("e" ∷ "f" ∷ []) 0 80 6 5 ∷ [])
    ≡ 0 ∷ 1 ∷ 2 ∷ 2 ∷ 2 ∷ 4 ∷ 4 ∷ 20 ∷ 20 ∷ []
unfolding open_lowering unlines slice tiny called number
slice_refusals = refl

-- the book slice: whole, a word behind its entries, its last word missing
unfoldable pub book_number : List ℕ → ℕ
book_number book = translation_number (translate book (unlines ("e" ∷ "f" ∷ [])) 0 (replicate 80 7) (replicate 6 8) (replicate 6 9)).reply

pub book_refusals : map book_number (tiny ∷ (tiny ++ 0 ∷ []) ∷ take 17 tiny ∷ []) ≡ 0 ∷ 1 ∷ 1 ∷ []
unfolding open_lowering unlines slice tiny book_number
book_refusals = refl

-- an accepted call: the lines in front, the rest as it was, the work slice zero
pub accepted_slices :
    called ("e" ∷ "f" ∷ []) 5 80 7 8
    ≡ record {
      reply = Translation.accepted 6 5;
      work = replicate 80 0;
      kinds = 0 ∷ 1 ∷ 2 ∷ 8 ∷ 89 ∷ 93 ∷ 8 ∷ [];
      operands = 1 ∷ 1 ∷ 0 ∷ 0 ∷ 0 ∷ 0 ∷ 9 ∷ 9 ∷ [];
    }
unfolding open_lowering unlines slice tiny called
accepted_slices = refl

-- a refused one: the line slices as they were, the work slice zero; its reply in numbers
pub refused_slices : called ("e" ∷ "f" ∷ []) 5 3 1 2 ≡ record { reply = Translation.refused 4; work = 0 ∷ 0 ∷ 0 ∷ []; kinds = 8 ∷ []; operands = 9 ∷ 9 ∷ [] }
unfolding open_lowering unlines slice tiny called
refused_slices = refl

unfoldable pub in_numbers : Translation → List ℕ
in_numbers t = translation_number t ∷ translation_lines t ∷ translation_counter 5 t ∷ []

pub replies_in_numbers : map in_numbers (Translation.accepted 6 7 ∷ Translation.refused 4 ∷ []) ≡ (0 ∷ 6 ∷ 7 ∷ []) ∷ (4 ∷ 0 ∷ 5 ∷ []) ∷ []
unfolding open_lowering in_numbers
replies_in_numbers = refl

-- 65,535 slots pass
unfoldable pub bare_ctx : FnCtx
bare_ctx =
    record {
      codegen = record { names = []; structs = []; defined = [] };
      params = [];
      slots = [];
      blocks = [];
      alloca_offsets = [];
      frame_size = 0;
      has_frame = false;
      bp_slot = 0;
    }

unfoldable pub refusal_of : Result Out → ℕ
refusal_of (ok out) = 0
refusal_of (err e) = e

unfoldable pub with_slots : ℕ → ℕ
with_slots n = refusal_of (gen_lines bare_ctx (record { name = 0; ret_ty = Ty.void; params = []; blocks = [] }) n 0)

pub slot_refusals : map with_slots (0 ∷ 65535 ∷ 65536 ∷ []) ≡ 0 ∷ 0 ∷ 8 ∷ []
unfolding open_lowering bare_ctx refusal_of with_slots
slot_refusals = refl
