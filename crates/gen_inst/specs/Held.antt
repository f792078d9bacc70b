-- What an instruction's lines are made from: its fields, which are lent from behind its entry on, and their place in the book.
use Rattle.std.specs.Prelude.{ℕ, ◌+◌, ◌≤◌, ◌≡◌, List, length, drop}
use Rattle.std.proofs.Common.{sym, subst}
use Rattle.std.proofs.Math.Option.{Option, some}
use Rattle.book.specs.Ast.{InstKind}
use Rattle.book.specs.Entry.{Entry}
use Rattle.book.specs.Fields.{inst_fields, inst_tag_of, inst_args}
use Rattle.book.specs.Work.{name_words}
use Rattle.book_insts.specs.Insts.{inst_group_of}
use Rattle.book_insts.specs.declared.InstGroup.{InstGroup}
use Rattle.lowering.specs.Context.{FnCtx}
use Rattle.layout_memo.specs.Work.{Ready}
use Rattle.gen_lines.specs.declared.Reached.{Reached}
use Rattle.gen_values.specs.Fields.{Fields}
use Rattle.gen_values.specs.Maps.{Did}
use Rattle.gen_inst.specs.Body.{body_gen}

-- the fields of an instruction of this group stand there, and types can be measured
pub record Held (g : InstGroup) (m : ℕ) (es bs : List Entry) (work : List ℕ) : Type 0 where
  pub inst : InstKind
  pub is : g ≡ inst_group_of (some (inst_tag_of inst))
  pub fields : Fields m (inst_fields (inst_tag_of inst)) (inst_args inst) es
  pub ready : Ready m bs work
  pub room : name_words m + 64 ≤ length work

-- they stand at the place `from` of the book, and the result word is a name's or 0
pub record HeldAt (g : InstGroup) (m : ℕ) (es bs : List Entry) (from dest : ℕ) (work : List ℕ) : Type 0 where
  pub held : Held g m es bs work
  pub placed : es ≡ drop from bs
  pub result : dest ≤ m

-- the fields of an instruction that is known
pub moved : {m : ℕ} {es : List Entry} {k : InstKind} (j : InstKind) → k ≡ j → Fields m (inst_fields (inst_tag_of k)) (inst_args k) es → Fields m (inst_fields (inst_tag_of j)) (inst_args j) es
moved {m} {es} j e f = subst (λ (i : InstKind). Fields m (inst_fields (inst_tag_of i)) (inst_args i) es) e f

-- its lines
pub as_kind : (c : FnCtx) (d : Option ℕ) {m : ℕ} {bs : List Entry} {work : List ℕ} {s t : Reached} {ks os ks' os' : List ℕ} {k : InstKind} (j : InstKind) → k ≡ j
    → Did (body_gen c d j) m bs c work s t ks os ks' os' → Did (body_gen c d k) m bs c work s t ks os ks' os'
as_kind c d {m} {bs} {work} {s} {t} {ks} {os} {ks'} {os'} j e p = subst (λ (i : InstKind). Did (body_gen c d i) m bs c work s t ks os ks' os') (sym e) p
