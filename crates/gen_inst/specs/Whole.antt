-- `gen_inst`: what it is lent, and the body with the result behind it.
use Rattle.std.specs.Prelude.{ℕ, ◌+◌, ◌<◌, ◌≤◌, ◌≡◌, true, false, List, length, drop, get_or}
use Rattle.std.proofs.Common.{sym, ap, subst, ◌∙◌, arith, length-drop, drop-drop}
use Rattle.std.proofs.Math.Option.{some}
use Rattle.book.specs.Ast.{Inst}
use Rattle.book.specs.Entry.{Entry, entries}
use Rattle.book.specs.Kinds.{inst_tag}
use Rattle.book.specs.Fields.{inst_fields, inst_tag_of, inst_args}
use Rattle.book.specs.Work.{name_words}
use Rattle.book_types.specs.Laws.{lent_from, entries_part, length_entries}
use Rattle.book_insts.specs.Insts.{inst_group_of}
use Rattle.book_insts.specs.declared.InstGroup.{InstGroup}
use Rattle.lowering.specs.Context.{FnCtx}
use Rattle.lowering.specs.Operand.{store_dest}
use Rattle.lowering.specs.Inst.{gen_inst}
use Rattle.layout_memo.specs.Work.{Ready}
use Rattle.gen_lines.specs.declared.Reached.{Reached}
use Rattle.gen_lines.specs.Puts.{Puts}
use Rattle.gen_values.specs.Fields.{Fields, InstAt}
use Rattle.gen_values.specs.Maps.{Did}
use Rattle.gen_inst.specs.View.{kind_is, group_is, dest_word_lem, inst_in, fields_behind_lem, dest_below}
use Rattle.gen_inst.specs.Body.{body_gen, stores_of, stored_puts, unstored_puts}
use Rattle.gen_inst.specs.Held.{HeldAt}

-- an instruction stands in front of the part, which is the book from the place `at` on, and its types can be measured
pub record InstThere (m : ℕ) (ks ws bk bw : List ℕ) (at : ℕ) (work : List ℕ) : Type 0 where
  pub inst : Inst
  pub here : InstAt m inst (entries ks ws)
  pub placed : entries ks ws ≡ drop at (entries bk bw)
  pub ready : Ready m (entries bk bw) work
  pub room : name_words m + 64 ≤ length work

-- ---- what the body is lent
-- a part of a part
pub placed_further : (ks ws : List ℕ) (bs : List Entry) (at i : ℕ) → entries ks ws ≡ drop at bs → lent_from ks ws i ≡ drop (at + i) bs
placed_further ks ws bs at i e = entries_part i ks ws ∙ ap (drop i) e ∙ drop-drop i at bs

module _ {m : ℕ} (ks ws : List ℕ) {i : Inst} (h : InstAt m i (entries ks ws)) where
  pub part_fields : Fields m (inst_fields (inst_tag_of i.kind)) (inst_args i.kind) (lent_from ks ws 1)
  part_fields = subst (Fields m (inst_fields (inst_tag_of i.kind)) (inst_args i.kind)) (sym (entries_part 1 ks ws)) (fields_behind_lem ks ws h)

  pub dest_few : get_or ws 0 0 ≤ m
  dest_few = subst (λ (n : ℕ). n ≤ m) (sym (dest_word_lem ks ws h)) (dest_below m i.dest h.keeps.0)

-- the place is one of the book's
pub inst_within : {m : ℕ} (ks ws bk bw : List ℕ) (at : ℕ) {work : List ℕ} → InstThere m ks ws bk bw at work → at < length bk
inst_within ks ws bk bw at t =
    let q = inst_in ks ws t.here in
    omega (arith, q.0, q.1, length_entries ks ws, ap length t.placed, length-drop at (entries bk bw), length_entries bk bw)

pub body_held : {g : InstGroup} {m : ℕ} (ks ws bk bw : List ℕ) (at : ℕ) {work : List ℕ} → InstThere m ks ws bk bw at work → g ≡ inst_group_of (inst_tag (get_or ks 0 0))
    → HeldAt g m (lent_from ks ws 1) (entries bk bw) (at + 1) (get_or ws 0 0) work
body_held ks ws bk bw at t e =
    record {
      held = record { inst = t.inst.kind; is = group_is t.inst.kind (kind_is ks ws t.here) e; fields = part_fields ks ws t.here; ready = t.ready; room = t.room };
      placed = placed_further ks ws (entries bk bw) at 1 t.placed;
      result = dest_few ks ws t.here;
    }

-- ---- the whole instruction
module _ (c : FnCtx) {m : ℕ} {bs : List Entry} {work : List ℕ} {g : InstGroup} (i : Inst) (e : g ≡ inst_group_of (some (inst_tag_of i.kind))) where
  pub inst_stored : {s t u : Reached} {k₀ o₀ k₁ o₁ k₂ o₂ : List ℕ} → stores_of g ≡ true → Did (body_gen c i.dest i.kind) m bs c work s t k₀ o₀ k₁ o₁
      → Puts (store_dest c i.dest) t u k₁ o₁ k₂ o₂ → Did (gen_inst c i) m bs c work s u k₀ o₀ k₂ o₂
  unfolding gen_inst
  inst_stored h b p = record { puts = stored_puts c i.dest i.kind e h b.puts p; maps = b.maps }

  pub inst_unstored : {s t : Reached} {ks os ks' os' : List ℕ} → stores_of g ≡ false → Did (body_gen c i.dest i.kind) m bs c work s t ks os ks' os' → Did (gen_inst c i) m bs c work s t ks os ks' os'
  unfolding gen_inst
  inst_unstored u b = record { puts = unstored_puts c i.dest i.kind e u b.puts; maps = b.maps }
