-- What all passes before the first line ask and leave.
use Rattle.std.specs.Prelude.{ℕ, ◌+◌, ◌<◌, ◌≤◌, ◌≡◌, true, ◌||◌, List, ◌++◌, ltb, length, drop, get_or}
use Rattle.std.proofs.Math.Option.{some}
use Rattle.numbers.specs.Align.{align_up}
use Rattle.names.specs.Name.{names_of, accepted}
use Rattle.names_check.specs.Nexts.{NextsAlone}
use Rattle.book.specs.Entry.{Entry}
use Rattle.book.specs.Ast.{Function, Book}
use Rattle.book.specs.Decode.{decode}
use Rattle.book.specs.Encode.{closed, enc_basic_block}
use Rattle.book.specs.Result.{Result, ok, err}
use Rattle.book.specs.Shape.{all_insts}
use Rattle.book.specs.Work.{name_words, param_at, slot_at, block_at, place_at, mark_at}
use Rattle.layout.specs.Frame.{Places, no_frame, frame_pass}
use Rattle.layout_memo.specs.Work.{Ready, structs_in}
use Rattle.layout_memo.specs.Structs.{IsBook}
use Rattle.lowering.specs.Context.{Codegen, codegen_of}
use Rattle.lowering.specs.Function.{context_of}
use Rattle.gen_values.specs.Maps.{Maps, mark_word}
use Rattle.gen_blocks.specs.Function.{function_in, behind_in, functions_in, last_of, FunctionAt, FunctionsAt}
use Rattle.gen_blocks.specs.declared.Placed.{Placed}
use Rattle.std.specs.Prelude
use Rattle.std.specs.Prelude.{Ok, Err}
use Rattle.book.specs.Refusal.{number_of}
use Rattle.book.specs.declared.refusal.Refusal.{Refusal}
use Rattle.gen_frame.specs.declared.Frame.{Frame}
use Rattle.gen_prepare.specs.declared.Prepared.{Prepared}
use Rattle.gen_prepare.specs.declared.RefusedFunction.{RefusedFunction}

-- the answer, from the frame pass's: the bytes are rounded up to 8; a frame is there for bytes and for varying places
abbrev pub prepared_of : (at : ℕ) → Placed → Frame → Prepared
prepared_of at placed f =
    record {
      at = at;
      blocks = placed.blocks;
      end = placed.end;
      slots = f.slots;
      size = align_up f.off 8;
      framed = ltb 0 (align_up f.off 8) || f.dynamic;
    }

-- the same where a place is refused
abbrev pub refused_of : (at : ℕ) → Placed → Refusal → RefusedFunction
refused_of at placed x = record { at = at; blocks = placed.blocks; end = placed.end; refusal = x }

-- ---- the book
-- words 0 to 3 of names are 0: no function has left anything
pub record Clean (m : ℕ) (work : List ℕ) : Type 0 where
  pub params : (x : ℕ) → x < m → get_or work (param_at x) 0 ≡ 0
  pub slots : (x : ℕ) → x < m → get_or work (slot_at x) 0 ≡ 0
  pub blocks : (x : ℕ) → x < m → get_or work (block_at x) 0 ≡ 0
  pub places : (x : ℕ) → x < m → get_or work (place_at x) 0 ≡ 0

-- what functions rest on: how each name is called, the structs, and what measuring knows
pub record Shared (m : ℕ) (es : List Entry) (g : Codegen) (work : List ℕ) : Type 0 where
  pub room : name_words m + 64 ≤ length work
  pub marks : (x : ℕ) → x < m → get_or work (mark_at x) 0 ≡ mark_word g x
  pub structs : g.structs ≡ structs_in m es
  pub measured : Ready m es work

-- names, a book, and work words that are 0 but for where the name behind each one starts
pub record BookAsk (bs : List ℕ) (m : ℕ) (es : List Entry) (work : List ℕ) : Type 0 where
  pub names : accepted bs m ≡ true
  pub book : IsBook m es
  pub room : name_words m + 64 ≤ length work
  pub words : NextsAlone 8 5 bs m work

-- the functions stand from the place r on
pub record BookDone (bs : List ℕ) (m : ℕ) (es : List Entry) (work' : List ℕ) (r : ℕ) : Type 0 where
  pub functions : FunctionsAt m es (last_of es) r (functions_in m es)
  pub clean : Clean m work'
  pub shared : (ns : List (List ℕ)) (b : Book) → names_of bs ≡ some ns → decode m es ≡ some b → Shared m es (codegen_of ns b) work'

-- ---- a function
pub record PrepareAsk (m : ℕ) (es : List Entry) (last a : ℕ) (work : List ℕ) : Type 0 where
  pub fn : FunctionAt m es last a
  pub clean : Clean m work
  pub room : name_words m + 64 ≤ length work
  pub measured : Ready m es work

-- the work words hold the context's maps, and the answer the rest of it
pub record SetUp (g : Codegen) (f : Function) (fr : Places) (m : ℕ) (es : List Entry) (work' : List ℕ) (r : Prepared) : Type 0 where
  pub maps : Maps m es (context_of g f fr) work'
  pub slots : (context_of g f fr).bp_slot ≡ r.slots
  pub size : (context_of g f fr).frame_size ≡ r.size
  pub framed : (context_of g f fr).has_frame ≡ r.framed

-- by the frame pass's answer, which is no refusal
abbrev pub PreparedAs : Result Places → Codegen → Function → (m : ℕ) → List Entry → List ℕ → Prepared → Type 0
PreparedAs (ok fr) g f m es work' r = SetUp g f fr m es work' r
PreparedAs (err e) g f m es work' r = ⊥

-- the function's entry stands at p, the place a, its list of blocks at b, what stands behind it at e
pub record FunctionStands (m : ℕ) (es : List Entry) (a p b e : ℕ) : Type 0 where
  pub at : p ≡ a
  pub blocks : drop b es ≡ closed enc_basic_block (function_in m es a).blocks ++ behind_in m es a
  pub first_there : b ≤ length es
  pub after : drop e es ≡ behind_in m es a
  pub there : e ≤ length es

pub record PreparedAt (m : ℕ) (es : List Entry) (a : ℕ) (work work' : List ℕ) (r : Prepared) : Type 0 where
  pub stands : FunctionStands m es a r.at r.blocks r.end
  pub few : r.slots ≤ 2097152
  pub says : (g : Codegen) → Shared m es g work → PreparedAs (frame_pass g.structs (all_insts (function_in m es a).blocks) no_frame) g (function_in m es a) m es work' r

-- the frame pass refuses a place
abbrev pub PlaceRefused : (m : ℕ) (es : List Entry) (a : ℕ) (work : List ℕ) → Refusal → Type 0
PlaceRefused m es a work e = (g : Codegen) → Shared m es g work → frame_pass g.structs (all_insts (function_in m es a).blocks) no_frame ≡ err (number_of e)

pub record RefusedAt (m : ℕ) (es : List Entry) (a : ℕ) (work : List ℕ) (r : RefusedFunction) : Type 0 where
  pub stands : FunctionStands m es a r.at r.blocks r.end
  pub says : PlaceRefused m es a work r.refusal

-- Left free: what the work words hold where it refuses
abbrev pub PrepareDone : (m : ℕ) (es : List Entry) (a : ℕ) (work work' : List ℕ) → Prelude.Result Prepared RefusedFunction → Type 0
PrepareDone m es a work work' (Ok r) = PreparedAt m es a work work' r
PrepareDone m es a work work' (Err e) = RefusedAt m es a work e
