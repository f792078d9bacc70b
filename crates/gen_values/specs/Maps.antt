-- What the work words hold for a function's context: the name x has the 8 words from 8 * x on (docs/DECISIONS.md 23). A number has 1 added, 0 is none.
use Rattle.std.specs.Prelude.{ℕ, suc, ◌+◌, ◌-◌, ◌<◌, ◌≤◌, ◌≡◌, cond, ◌||◌, List, ◌++◌, length, drop, get_or}
use Rattle.std.proofs.Common.{◌∙◌, arith}
use Rattle.std.proofs.Math.Option.{Option, none, some}
use Rattle.names.specs.Name.{name_at}
use Rattle.names.specs.Spelling.{is_syscall, is_bcmp, is_memcmp, has_overflow}
use Rattle.book.specs.Ast.{BasicBlock}
use Rattle.book.specs.Entry.{Entry}
use Rattle.book.specs.Work.{block_at, mark_at, name_words, param_at, place_at, slot_at}
use Rattle.book.specs.Encode.{ending, enc_inst, enc_term}
use Rattle.book.specs.Limits.{Each, InstLimits, TermLimits}
use Rattle.book.specs.Map.{lookup}
use Rattle.book.specs.Decode.{member}
use Rattle.lowering.specs.Context.{Codegen, FnCtx}
use Rattle.layout_memo.specs.Work.{Ready, After, kept_word, kept_first, structs_in}
use Rattle.gen_lines.specs.declared.Reached.{Reached}
use Rattle.gen_lines.specs.Puts.{Puts}
use Rattle.lowering.specs.Gen.{Gen}

abbrev pub numbered : Option ℕ → ℕ
numbered none = 0
numbered (some i) = suc i

-- words 0 and 1: parameters and slots
pub record Locals (c : FnCtx) (m : ℕ) (work : List ℕ) : Type 0 where
  pub params : (x : ℕ) → x < m → get_or work (param_at x) 0 ≡ numbered (lookup x c.params)
  pub slots : (x : ℕ) → x < m → get_or work (slot_at x) 0 ≡ numbered (lookup x c.slots)

-- word 2: the place of a block's instructions among the book's entries
pub record BlockAt (m : ℕ) (bs : List Entry) (bb : BasicBlock) (p : ℕ) : Type 0 where
  pub rest : List Entry
  pub here : drop p bs ≡ ending enc_inst (enc_term bb.term) bb.insts ++ rest
  pub keeps : Each (InstLimits m) bb.insts × TermLimits m bb.term
  pub there : p ≤ length bs

pub record BlockWord (m : ℕ) (bs : List Entry) (found : Option BasicBlock) (w : ℕ) : Type 0 where
  pub absent : w ≡ 0 → found ≡ none
  pub present : (w ≡ 0 → ⊥) → (bb : BasicBlock) × (found ≡ some bb) × BlockAt m bs bb (w - 1)

-- word 5: how a global is called, by its spelling and whether it is defined here: 2 a syscall, 3 memcmp, 1 a function that is defined, 0 one that is not;
-- and 4 more where it contains `.with.overflow.`
unfoldable pub call_class : Codegen → ℕ → ℕ
call_class g x =
    cond (is_syscall (name_at g.names x)) 2
    (cond (is_bcmp (name_at g.names x) || is_memcmp (name_at g.names x)) 3
    (cond (member x g.defined) 1 0))

unfoldable pub mark_word : Codegen → ℕ → ℕ
mark_word g x = call_class g x + cond (has_overflow (name_at g.names x)) 4 0

-- all words; bs are the book's entries
pub record Maps (m : ℕ) (bs : List Entry) (c : FnCtx) (work : List ℕ) : Type 0 where
  pub room : name_words m + 64 ≤ length work
  pub locals : Locals c m work
  pub blocks : (x : ℕ) → x < m → BlockWord m bs (lookup x c.blocks) (get_or work (block_at x) 0)
  pub places : (x : ℕ) → x < m → get_or work (place_at x) 0 ≡ numbered (lookup x c.alloca_offsets)
  pub marks : (x : ℕ) → x < m → get_or work (mark_at x) 0 ≡ mark_word c.codegen x
  pub structs : c.codegen.structs ≡ structs_in m bs
  pub measured : Ready m bs work

-- a measurement leaves the maps
module _ {m : ℕ} {bs : List Entry} {c : FnCtx} {work work' : List ℕ} where
  pub maps_after : Maps m bs c work → After m bs work work' → Maps m bs c work'
  maps_after k a =
      record {
        room = omega (arith, k.room, a.kept.long);
        locals = record {
          params = λ x l. kept_first a x l ∙ k.locals.params x l;
          slots = λ x l. kept_word a x 1 l (omega arith) ∙ k.locals.slots x l;
        };
        blocks = λ x l. rw (kept_word a x 2 l (omega arith)) (k.blocks x l);
        places = λ x l. kept_word a x 3 l (omega arith) ∙ k.places x l;
        marks = λ x l. kept_word a x 5 l (omega arith) ∙ k.marks x l;
        structs = k.structs;
        measured = a.ready;
      }

-- a generator that measures: it puts its lines and leaves the maps
pub record Did (g : Gen) (m : ℕ) (bs : List Entry) (c : FnCtx) (work' : List ℕ) (s t : Reached) (ks os ks' os' : List ℕ) : Type 0 where
  pub puts : Puts g s t ks os ks' os'
  pub maps : Maps m bs c work'
