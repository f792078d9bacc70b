-- One pass after the other: what each asks of the ones before it, and what they leave together.
use Rattle.std.specs.Prelude.{ℕ, ◌+◌, ◌<◌, ◌≤◌, ◌≡◌, refl, List, [], ◌++◌, length, get_or, drop}
use Rattle.std.proofs.Math.Path.{sym}
use Rattle.std.proofs.Common.{ap, ◌∙◌, append-nil, arith, length-drop, length-append}
use Rattle.std.proofs.Math.Option.{some}
use Rattle.names.specs.Name.{names_of}
use Rattle.names.specs.Lines.{accepted_iff}
use Rattle.book.specs.Entry.{Entry, entries}
use Rattle.book.specs.Ast.{Function, Book}
use Rattle.book.specs.Decode.{decode}
use Rattle.book.specs.Encode.{closed, enc_basic_block}
use Rattle.book.specs.Result.{Result, ok, err}
use Rattle.book.specs.Shape.{all_insts}
use Rattle.book.specs.Work.{param_at, slot_at, block_at, place_at, body_at, mark_at, measured_at}
use Rattle.book_types.specs.Laws.{within_kinds, within_words}
use Rattle.layout.specs.Frame.{Places, no_frame, frame_pass, framed}
use Rattle.layout_memo.specs.Work.{Ready, settled_word, settled_first, table_at, table_other, structs_in, structs_or}
use Rattle.layout_memo.specs.Structs.{Blank, StructsPlaced}
use Rattle.lowering.specs.Context.{Codegen, codegen_of}
use Rattle.lowering.specs.Function.{context_of}
use Rattle.gen_values.specs.Maps.{Maps, mark_word}
use Rattle.gen_blocks.specs.Words.{WordsKept}
use Rattle.gen_blocks.specs.Function.{function_in, behind_in, functions_in, last_of, FunctionsAt, between, between_is, between_part, cut_bounds}
use Rattle.gen_blocks.specs.Blocks as passed
use Rattle.gen_blocks.specs.Blocks.{FunctionAsked, FunctionPlaced}
use Rattle.gen_blocks.specs.declared.Placed.{Placed}
use Rattle.gen_marks.specs.Defined.{MarksAsked, MarksPlaced, marks_ready}
use Rattle.gen_frame.specs.Pass.{BlocksAt, FrameAsk, FrameDone}
use Rattle.gen_frame.specs.Contexts.{Framed, frame_context, frame_refused}
use Rattle.std.specs.Prelude.{Ok, Err}
use Rattle.book.specs.Refusal.{number_of}
use Rattle.book.specs.declared.refusal.Refusal.{Refusal}
use Rattle.gen_frame.specs.declared.Frame.{Frame}
use Rattle.gen_prepare.specs.Prepare.{prepared_of, refused_of, Shared, BookAsk, BookDone, PrepareAsk, SetUp, PreparedAs, FunctionStands, PreparedAt, PlaceRefused, RefusedAt}

-- ---- the book
-- its structs
structs_are : (m : ℕ) (es : List Entry) (ns : List (List ℕ)) (b : Book) → decode m es ≡ some b → (codegen_of ns b).structs ≡ structs_in m es
unfolding codegen_of structs_in
structs_are m es ns b e = sym (ap structs_or e)

module _ {bs : List ℕ} {m : ℕ} (es : List Entry) {work : List ℕ} (k : BookAsk bs m es work) where
  pub structs_ask : Blank m es work
  structs_ask =
      record {
        book = k.book;
        room = omega (arith, k.room);
        bodies = λ x l. k.words.blank (body_at x) (λ y _ e. omega arith);
        known = λ x l. k.words.blank (measured_at x) (λ y _ e. omega arith);
        table = λ i. k.words.blank (table_at m i) (λ y ly. table_other m i y 5 (omega arith) (λ e. omega arith) ly);
      }

  module _ {work₁ : List ℕ} (s : StructsPlaced m es work work₁) where
    pub marks_ask : MarksAsked bs m es work₁
    marks_ask =
        record {
          names = k.names;
          book = k.book;
          room = omega (arith, k.room, s.kept.long);
          nexts = λ x l. s.kept.same (mark_at x) (λ y _ e. omega arith) ∙ k.words.nexts x l (omega (arith, k.room));
        }

    module _ {work₂ : List ℕ}
        (d : (ns : List (List ℕ)) (b : Book) → names_of bs ≡ some ns → decode m es ≡ some b → MarksPlaced m (codegen_of ns b) work₁ work₂) where
      -- the marks of the book itself
      marks_kept : WordsKept m 5 work₁ work₂
      marks_kept = let n = (accepted_iff bs m).0 k.names in (d n.0 k.book.book n.1 k.book.says).kept

      -- a word that is neither a body's nor a mark
      still_blank : (i : ℕ) → ((x : ℕ) → x < m → i ≡ body_at x → ⊥) → ((x : ℕ) → x < m → i ≡ mark_at x → ⊥) → get_or work₂ i 0 ≡ 0
      still_blank i p q = marks_kept.same i q ∙ s.kept.same i p ∙ k.words.blank i q

      pub book_done : {a : ℕ} → FunctionsAt m es (last_of es) a (functions_in m es) → BookDone bs m es work₂ a
      book_done f =
          record {
            functions = f;
            clean = record {
              params = λ x l. still_blank (param_at x) (λ y _ e. omega arith) (λ y _ e. omega arith);
              slots = λ x l. still_blank (slot_at x) (λ y _ e. omega arith) (λ y _ e. omega arith);
              blocks = λ x l. still_blank (block_at x) (λ y _ e. omega arith) (λ y _ e. omega arith);
              places = λ x l. still_blank (place_at x) (λ y _ e. omega arith) (λ y _ e. omega arith);
            };
            shared = λ ns b en eb. record {
              room = omega (arith, k.room, s.kept.long, marks_kept.long);
              marks = (d ns b en eb).marks;
              structs = structs_are m es ns b eb;
              measured = marks_ready s.ready (d ns b en eb);
            };
          }

-- ---- a function
-- the part of lent kinds and words that a function's blocks are
abbrev pub part : (ks ws : List ℕ) → Placed → List Entry
part ks ws p = between ks ws p.blocks p.end

part_is : (ks ws : List ℕ) (p : Placed) (x y : List Entry) → drop p.blocks (entries ks ws) ≡ x ++ y → drop p.end (entries ks ws) ≡ y → p.blocks ≤ length (entries ks ws) → p.end ≤ length (entries ks ws)
    → part ks ws p ≡ x
part_is ks ws p x y h k l n =
    let many : p.end ≡ p.blocks + length x = omega (arith, ap length h, ap length k, length-append x y, length-drop p.blocks (entries ks ws), length-drop p.end (entries ks ws)) in
    between_part ks ws p.blocks p.end x y h many

module _ {m : ℕ} (ks ws : List ℕ) {last a : ℕ} {work : List ℕ} (k : PrepareAsk m (entries ks ws) last a work) where
  abbrev es : List Entry
  es = entries ks ws

  abbrev fn : Function
  fn = function_in m (entries ks ws) a

  pub function_within : (a ≤ last) × (last ≤ length ks) × (last ≤ length ws)
  function_within = let b = cut_bounds k.fn in (b.0, within_kinds last ks ws b.1, within_words last ks ws b.1)

  pub function_ask : FunctionAsked m es last (between ks ws a last) a work
  function_ask = record { fn = k.fn; part = between_is ks ws a last; room = omega (arith, k.room); params = k.clean.params; blocks = k.clean.blocks }

  module _ {work₁ : List ℕ} {p : Placed} (w : FunctionPlaced m es a work work₁ p) where
    ready : Ready m es work₁
    ready = passed.function_ready k.measured w

    -- the blocks end behind where they begin
    pub in_order : p.blocks ≤ p.end
    in_order =
        omega (
          arith,
          ap length w.first,
          ap length w.after,
          length-append (closed enc_basic_block fn.blocks) (behind_in m es a),
          length-drop p.blocks es,
          length-drop p.end es,
          w.first_there,
          w.there,
        )

    part_blocks : part ks ws p ≡ closed enc_basic_block fn.blocks
    part_blocks = part_is ks ws p (closed enc_basic_block fn.blocks) (behind_in m es a) w.first w.after w.first_there w.there

    few_part : length (part ks ws p) ≤ length es
    few_part =
        omega (arith, ap length part_blocks, ap length w.first, length-append (closed enc_basic_block fn.blocks) (behind_in m es a), length-drop p.blocks es)

    blocks_at : BlocksAt m fn.blocks (part ks ws p)
    blocks_at = record { rest = []; here = part_blocks ∙ sym (append-nil _); keeps = k.fn.limits.1.1.1; few = omega (arith, few_part, k.fn.few) }

    pub frame_ask : FrameAsk m (part ks ws p) es work₁
    unfolding blocks_at
    frame_ask =
        record {
          blocks = fn.blocks;
          at = blocks_at;
          ends = refl;
          ready = ready;
          slots = λ x l. w.same (slot_at x) (λ y _ e. omega arith) (λ y _ e. omega arith) ∙ k.clean.slots x l;
          places = λ x l. w.same (place_at x) (λ y _ e. omega arith) (λ y _ e. omega arith) ∙ k.clean.places x l;
        }

    stands : FunctionStands m es a a p.blocks p.end
    stands = record { at = refl; blocks = w.first; first_there = w.first_there; after = w.after; there = w.there }

    marks₁ : (g : Codegen) → Shared m es g work → (x : ℕ) → x < m → get_or work₁ (mark_at x) 0 ≡ mark_word g x
    marks₁ g sh x l = w.same (mark_at x) (λ y _ e. omega arith) (λ y _ e. omega arith) ∙ sh.marks x l

    -- no place is refused: the context of the function among what the book's functions share
    module _ {work₂ : List ℕ} {t : Frame} (r : FrameDone m (part ks ws p) es work₁ work₂ (Ok t)) where
      module _ (g : Codegen) (sh : Shared m es g work) where
        maps : (fr : Places) → Framed m (context_of g fn fr) fr work₂ t → Maps m es (context_of g fn fr) work₂
        unfolding context_of
        maps fr h =
            record {
              room = omega (arith, k.room, r.kept.long, w.long);
              locals = record {
                params = λ x l. r.kept.same (param_at x) (λ y _ e. omega arith) (λ y _ e. omega arith) (settled_first x l) ∙ w.params x l;
                slots = h.slots;
              };
              blocks = λ x l. rw (r.kept.same (block_at x) (λ y _ e. omega arith) (λ y _ e. omega arith) (settled_word x 2 l (omega arith))) (w.blocks x l);
              places = h.places;
              marks = λ x l. r.kept.same (mark_at x) (λ y _ e. omega arith) (λ y _ e. omega arith) (settled_word x 5 l (omega arith)) ∙ marks₁ g sh x l;
              structs = sh.structs;
              measured = r.ready;
            }

        set_up : (fr : Places) → Framed m (context_of g fn fr) fr work₂ t → SetUp g fn fr m es work₂ (prepared_of a p t)
        unfolding context_of framed
        set_up fr h =
            record {
              maps = maps fr h;
              slots = sym h.base;
              size = rw h.off refl;
              framed = rw (h.off, h.dynamic) refl;
            }

        says : PreparedAs (frame_pass g.structs (all_insts fn.blocks) no_frame) g fn m es work₂ (prepared_of a p t)
        says = go (frame_pass g.structs (all_insts fn.blocks) no_frame) refl
          where
            go : (x : Result Places) → frame_pass g.structs (all_insts fn.blocks) no_frame ≡ x → PreparedAs x g fn m es work₂ (prepared_of a p t)
            go (ok fr) e = set_up fr (frame_context g fn sh.structs blocks_at r (marks₁ g sh) e)
            go (err n) e = frame_refused g fn sh.structs blocks_at r e

      pub prepared : PreparedAt m es a work work₂ (prepared_of a p t)
      prepared =
          record {
            stands = stands;
            few = omega (arith, r.few, few_part, k.fn.few);
            says = says;
          }

    -- one is
    pub place_refused : {work₂ : List ℕ} {x : Refusal} → FrameDone m (part ks ws p) es work₁ work₂ (Err x) → PlaceRefused m es a work x
    place_refused {work₂} {x} r g sh = go (frame_pass g.structs (all_insts fn.blocks) no_frame) refl
      where
        go : (y : Result Places) → frame_pass g.structs (all_insts fn.blocks) no_frame ≡ y → y ≡ err (number_of x)
        go (ok fr) e = absurd (frame_context g fn sh.structs blocks_at r (marks₁ g sh) e)
        go (err n) e = ap err (sym (frame_refused g fn sh.structs blocks_at r e))

    pub refused : {work₂ : List ℕ} {x : Refusal} → FrameDone m (part ks ws p) es work₁ work₂ (Err x) → RefusedAt m es a work (refused_of a p x)
    refused r = record { stands = stands; says = place_refused r }
