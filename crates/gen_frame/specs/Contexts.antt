-- What the frame pass leaves for a function's context (`context_of`), where it accepts; else its number.
use Rattle.std.specs.Prelude.{ℕ, ◌+◌, ◌<◌, ◌≤◌, ◌≡◌, refl, Bool, true, false, cond, ◌||◌, List, get_or, leb}
use Rattle.std.proofs.Common.{sym, ap, subst, ◌∙◌}
use Rattle.names.specs.Name.{name_at}
use Rattle.names.specs.Spelling.{is_syscall, is_bcmp, is_memcmp, has_overflow}
use Rattle.book.specs.Entry.{Entry}
use Rattle.book.specs.Ast.{Function, StructType}
use Rattle.book.specs.Decode.{member}
use Rattle.book.specs.Map.{lookup}
use Rattle.book.specs.Result.{Result, ok, err}
use Rattle.book.specs.Shape.{all_insts}
use Rattle.book.specs.Work.{slot_at, place_at, mark_at}
use Rattle.layout.specs.Frame.{Places, no_frame, frame_pass}
use Rattle.layout_memo.specs.Work.{structs_in}
use Rattle.std.specs.Prelude.{Ok, Err, IfOk}
use Rattle.lowering.specs.Context.{Codegen, FnCtx, slot_map, no_slots}
use Rattle.lowering.specs.Function.{slots_of, context_of}
use Rattle.gen_values.specs.Maps.{numbered, call_class, mark_word}
use Rattle.gen_frame.specs.Frames.{Framing, SlotsHold, Overflows, FrameSays}
use Rattle.gen_frame.specs.Pass.{BlocksAt, FrameDone}
use Rattle.gen_frame.specs.declared.Frame.{Frame}

-- word 5 is 4 or more exactly for a name containing `.with.overflow.`
pub marks_overflow : (g : Codegen) (m : ℕ) (work : List ℕ) → ((x : ℕ) → x < m → get_or work (mark_at x) 0 ≡ mark_word g x) → Overflows g.names m work
unfolding mark_word call_class
marks_overflow g m work h x l =
    ap (leb 4) (h x l)
    ∙ at (is_syscall (name_at g.names x)) (is_bcmp (name_at g.names x) || is_memcmp (name_at g.names x)) (member x g.defined) (has_overflow (name_at g.names x))
  where
    at : (a b c d : Bool) → leb 4 (cond a 2 (cond b 3 (cond c 1 0)) + cond d 4 0) ≡ d
    at true b c true = refl
    at true b c false = refl
    at false true c true = refl
    at false true c false = refl
    at false false true true = refl
    at false false true false = refl
    at false false false true = refl
    at false false false false = refl

-- the words of slots and fixed places hold the context's maps, and the answer the rest of it
pub record Framed (m : ℕ) (c : FnCtx) (p : Places) (work : List ℕ) (f : Frame) : Type 0 where
  pub slots : (x : ℕ) → x < m → get_or work (slot_at x) 0 ≡ numbered (lookup x c.slots)
  pub places : (x : ℕ) → x < m → get_or work (place_at x) 0 ≡ numbered (lookup x c.alloca_offsets)
  pub base : f.slots ≡ c.bp_slot
  pub off : f.off ≡ p.off
  pub within : p.off ≤ 2147483648
  pub dynamic : f.dynamic ≡ p.dynamic

-- the same of an answer, which is no refusal
abbrev pub FramedAs : (m : ℕ) (c : FnCtx) (p : Places) (work : List ℕ) → Framing → Type 0
FramedAs m c p work (Ok f) = Framed m c p work f
FramedAs m c p work (Err e) = ⊥

module _ (g : Codegen) (fn : Function) {m : ℕ} {es bs : List Entry} {work work' : List ℕ} {r : Framing}
    (same : g.structs ≡ structs_in m bs) (at : BlocksAt m fn.blocks es) (d : FrameDone m es bs work work' r) where
  says : {res : Result Places} → frame_pass g.structs (all_insts fn.blocks) no_frame ≡ res → FrameSays m res work' r
  says {res} e =
      subst (λ (x : Result Places). FrameSays m x work' r) (ap (λ (x : List StructType). frame_pass x (all_insts fn.blocks) no_frame) (sym same) ∙ e) (d.places fn.blocks at)

  pub frame_context : {p : Places} → ((x : ℕ) → x < m → get_or work (mark_at x) 0 ≡ mark_word g x) → frame_pass g.structs (all_insts fn.blocks) no_frame ≡ ok p → FramedAs m (context_of g fn p) p work' r
  unfolding context_of slots_of
  frame_context {p} marks e = go r (says e) (d.slots fn.blocks at g.names (marks_overflow g m work marks))
    where
      go : (x : Framing) → FrameSays m (ok p) work' x → IfOk x (λ f. SlotsHold m (slot_map g.names (all_insts fn.blocks) no_slots) work' f) → FramedAs m (context_of g fn p) p work' x
      go (Ok f) h s = record { slots = s.words; places = h.words; base = s.count; off = h.off; within = h.within; dynamic = h.dynamic }
      go (Err y) h s = h

  pub frame_refused : {n : ℕ} → frame_pass g.structs (all_insts fn.blocks) no_frame ≡ err n → FrameSays m (err n) work' r
  frame_refused e = says e
