-- A block in front of the entries lent: its label, its instructions and its terminator, and its lines.
use Rattle.std.specs.Prelude.{ℕ, ◌<◌, ◌≤◌, ◌%◌, ◌^◌, ◌≡◌, List, [], ◌∷◌, ◌++◌, length, drop, get_or}
use Rattle.std.proofs.Math.Path.{refl}
use Rattle.std.proofs.Common.{sym, subst, arith, length-drop}
use Rattle.book.specs.Ast.{Terminator, BasicBlock}
use Rattle.book.specs.Entry.{Entry, entry, entries}
use Rattle.book.specs.Encode.{ending, enc_inst, enc_term, enc_basic_block}
use Rattle.book.specs.Limits.{BlockLimits}
use Rattle.book_types.specs.Laws.{lent_from, entries_part}
use Rattle.assembly.specs.Line.{Line}
use Rattle.assembly.specs.Number.{kind_of, operand_of}
use Rattle.lowering.specs.Context.{FnCtx}
use Rattle.lowering.specs.Term.{gen_term}
use Rattle.lowering.specs.Function.{gen_block}
use Rattle.gen_lines.specs.declared.Reached.{Reached}
use Rattle.gen_lines.specs.Puts.{Puts, Lined, line_puts, then_puts}
use Rattle.gen_values.specs.Fields.{entry_at}
use Rattle.gen_values.specs.Push.{word_same}
use Rattle.gen_values.specs.Maps.{Maps, Did}
use Rattle.gen_term.specs.Terms.{TermAt}
use Rattle.gen_block.specs.declared.Passed.{Passed}
use Rattle.gen_block.specs.Body.{BodyAt, InstsAsk, InstsDone}

-- the block stands in front, with the rest behind it
pub record BlockHere (m : ℕ) (b : BasicBlock) (rest es : List Entry) : Type 0 where
  pub here : es ≡ enc_basic_block b ++ rest
  pub keeps : BlockLimits m b
  pub few : length es ≤ 2 ^ 20

-- it stands at the place `at` of the book
pub record BlockAsk (m : ℕ) (ks ws bk bw : List ℕ) (at slot : ℕ) (work : List ℕ) : Type 0 where
  pub ctx : FnCtx
  pub maps : Maps m (entries bk bw) ctx work
  pub base : ctx.bp_slot ≡ slot
  pub block : BasicBlock
  pub rest : List Entry
  pub front : BlockHere m block rest (entries ks ws)
  pub placed : entries ks ws ≡ drop at (entries bk bw)

-- the block is done, and its terminator is at the place reached
pub record BlockDone (m : ℕ) (es bs : List Entry) (c : FnCtx) (b : BasicBlock) (rest : List Entry) (work' : List ℕ) (s : Reached) (r : Passed)
    (ks os ks' os' : List ℕ) : Type 0 where
  pub did : Did (gen_block c b) m bs c work' s r.s ks os ks' os'
  pub ends : BodyAt m es r.at [] b.term rest

module _ {m : ℕ} (ks ws : List ℕ) {b : BasicBlock} {rest : List Entry} (h : BlockHere m b rest (entries ks ws)) where
  head : entries ks ws ≡ entry 7 b.label ∷ (ending enc_inst (enc_term b.term) b.insts ++ rest)
  unfolding enc_basic_block
  head = h.here

  pub block_in_lem : 0 < length ws
  block_in_lem = (entry_at ks ws 0 _ _ head).3

  pub block_name : get_or ws 0 0 ≡ b.label
  block_name = (entry_at ks ws 0 _ _ head).1

  pub body_here : BodyAt m (entries ks ws) 1 b.insts b.term rest
  body_here =
      record { here = (entry_at ks ws 0 _ _ head).4; insts_keep = h.keeps.1.0; term_keeps = h.keeps.1.1; few = h.few }

pub insts_ask : {m : ℕ} (ks ws bk bw : List ℕ) {at slot : ℕ} {work : List ℕ} → BlockAsk m ks ws bk bw at slot work → InstsAsk m ks ws bk bw at slot work
insts_ask ks ws bk bw a =
    record {
      ctx = a.ctx;
      maps = a.maps;
      slot = a.base;
      insts = a.block.insts;
      term = a.block.term;
      rest = a.rest;
      front = body_here ks ws a.front;
      placed = a.placed;
    }

-- the terminator at the place reached
pub term_at : {m : ℕ} (ks ws : List ℕ) {end : ℕ} {t : Terminator} {rest : List Entry} → BodyAt m (entries ks ws) end [] t rest → TermAt m t (lent_from ks ws end)
unfolding ending
term_at {m} ks ws {end} {t} {rest} b =
    subst (TermAt m t) (sym (entries_part end ks ws))
    (record { rest = rest; here = b.here; keeps = b.term_keeps; few = omega (arith, b.few, length-drop end (entries ks ws)) })

-- ---- the lines
module _ (c : FnCtx) {m : ℕ} {es bs : List Entry} {work : List ℕ} (b : BasicBlock) {rest : List Entry} {s t u : Reached} {r : Passed} {k₀ o₀ k₁ o₁ k₂ o₂ k₃ o₃ : List ℕ} where
  pub block_lines : {name : ℕ} → name ≡ b.label → name < 2 ^ 64 → Lined 2 name s t k₀ o₀ k₁ o₁ → InstsDone m es bs c b.insts b.term rest work t r k₁ o₁ k₂ o₂
      → Puts (gen_term c name b.term) r.s u k₂ o₂ k₃ o₃ → BlockDone m es bs c b rest work s (record { at = r.at; s = u }) k₀ o₀ k₃ o₃
  unfolding gen_block kind_of operand_of
  block_lines {name} e few l d p =
      record {
        did = record {
          puts = then_puts (line_puts (Line.block_label b.label) refl (subst (λ (n : ℕ). name ≡ n % 2 ^ 64) e (word_same few)) l)
              (then_puts d.did.puts (subst (λ (n : ℕ). Puts (gen_term c n b.term) r.s u k₂ o₂ k₃ o₃) e p));
          maps = d.did.maps;
        };
        ends = d.ends;
      }
