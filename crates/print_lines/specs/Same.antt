-- The text that the code puts for a line is the line's.
use Rattle.std.specs.Prelude.{ℕ, ◌+◌, ◌*◌, ◌/◌, ◌%◌, ◌≤◌, ◌≡◌, true, leb, length}
use Rattle.std.proofs.Math.Path.{refl}
use Rattle.std.proofs.Math.Option.{Option, none, some}
use mathlib.Core.List.{List, [], ◌∷◌, ◌++◌, append_assoc}
use native.Mathlib.Omega.{arith}
use Rattle.std.proofs.Common.{leb-true}
use Rattle.names.specs.Text.{bytes}
use Rattle.names.specs.Tests.{both}
use Rattle.names.specs.Name.{name_at}
use Rattle.book.specs.Ast.{BinOp, ICmpPred, Book, Function}
use Rattle.assembly.specs.Line.{Line, Work, Mem, Narrow, Hint}
use Rattle.assembly.specs.Number.{open_number, kind_of, operand_of, is_name, allowed, line_of}
use Rattle.assembly.specs.Text.{work_text, mem_text, narrow_text, bin_text, icmp_text, hint_text, jump_text, hinted, plain, sized, with1, labelled, clean, type_text, block_text, comment_text, text}
use Rattle.assembly.proofs.Laws.{number_of_line}
use Rattle.assembly.specs.Printer.{consed}
use Rattle.print_forms.specs.Forms.{number_form, name_form, form_of}
use Rattle.print_words.specs.Ends.{is_label, ending, params_text}
use Rattle.print_words.specs.Words.{word, word_table, ended}
use Rattle.print_lines.specs.Lines.{parts_text, comment, printed}

-- opens the definitions of both texts
unfoldable open_texts : Unit {0}
unfolding open_number work_text mem_text narrow_text bin_text icmp_text hint_text jump_text hinted plain sized with1 labelled clean block_text comment_text text bytes number_form name_form form_of is_label ending word word_table ended parts_text params_text comment printed
open_texts = tt

module _ (ns : List (List ℕ)) (f : Function) where
  -- what the code puts for kind k and operand x
  abbrev pub put_for : ℕ → ℕ → List ℕ
  put_for k x = printed ns (name_at ns f.name) (type_text ns f.ret_ty) (length f.params) k x

  abbrev Same : Line → Type 0
  Same l = text ns f l ++ (10 ∷ []) ≡ put_for (kind_of l) (operand_of l)

  bin_same : (op : BinOp) (w : Work) → Same (Line.bin op w)
  unfolding open_texts
  bin_same BinOp.add Work.w32 = refl
  bin_same BinOp.add Work.w64 = refl
  bin_same BinOp.sub Work.w32 = refl
  bin_same BinOp.sub Work.w64 = refl
  bin_same BinOp.mul Work.w32 = refl
  bin_same BinOp.mul Work.w64 = refl
  bin_same BinOp.udiv Work.w32 = refl
  bin_same BinOp.udiv Work.w64 = refl
  bin_same BinOp.sdiv Work.w32 = refl
  bin_same BinOp.sdiv Work.w64 = refl
  bin_same BinOp.urem Work.w32 = refl
  bin_same BinOp.urem Work.w64 = refl
  bin_same BinOp.srem Work.w32 = refl
  bin_same BinOp.srem Work.w64 = refl
  bin_same BinOp.and Work.w32 = refl
  bin_same BinOp.and Work.w64 = refl
  bin_same BinOp.or Work.w32 = refl
  bin_same BinOp.or Work.w64 = refl
  bin_same BinOp.xor Work.w32 = refl
  bin_same BinOp.xor Work.w64 = refl
  bin_same BinOp.shl Work.w32 = refl
  bin_same BinOp.shl Work.w64 = refl
  bin_same BinOp.lshr Work.w32 = refl
  bin_same BinOp.lshr Work.w64 = refl
  bin_same BinOp.ashr Work.w32 = refl
  bin_same BinOp.ashr Work.w64 = refl

  icmp_same : (p : ICmpPred) (w : Work) → Same (Line.icmp p w)
  unfolding open_texts
  icmp_same ICmpPred.eq Work.w32 = refl
  icmp_same ICmpPred.eq Work.w64 = refl
  icmp_same ICmpPred.ne Work.w32 = refl
  icmp_same ICmpPred.ne Work.w64 = refl
  icmp_same ICmpPred.ugt Work.w32 = refl
  icmp_same ICmpPred.ugt Work.w64 = refl
  icmp_same ICmpPred.uge Work.w32 = refl
  icmp_same ICmpPred.uge Work.w64 = refl
  icmp_same ICmpPred.ult Work.w32 = refl
  icmp_same ICmpPred.ult Work.w64 = refl
  icmp_same ICmpPred.ule Work.w32 = refl
  icmp_same ICmpPred.ule Work.w64 = refl
  icmp_same ICmpPred.sgt Work.w32 = refl
  icmp_same ICmpPred.sgt Work.w64 = refl
  icmp_same ICmpPred.sge Work.w32 = refl
  icmp_same ICmpPred.sge Work.w64 = refl
  icmp_same ICmpPred.slt Work.w32 = refl
  icmp_same ICmpPred.slt Work.w64 = refl
  icmp_same ICmpPred.sle Work.w32 = refl
  icmp_same ICmpPred.sle Work.w64 = refl

  call_same : (x k : ℕ) → k ≤ 255 → Same (Line.call x k)
  unfolding open_texts
  call_same x k h =
      let q : (x * 256 + k) / 256 ≡ x = omega arith in
      let r : (x * 256 + k) % 256 ≡ k = omega arith in
      rw (q, r) (simp append_assoc)

  label_same : (h : Hint) (n : ℕ) → Same (Line.label h n)
  unfolding open_texts
  label_same Hint.sel_false n = simp append_assoc
  label_same Hint.sel_done n = simp append_assoc
  label_same Hint.br_false n = simp append_assoc
  label_same Hint.sw_case n = simp append_assoc

  jump_same : (h : Hint) (n : ℕ) → Same (Line.jump h n)
  unfolding open_texts
  jump_same Hint.sel_false n = simp append_assoc
  jump_same Hint.sel_done n = simp append_assoc
  jump_same Hint.br_false n = simp append_assoc
  jump_same Hint.sw_case n = simp append_assoc

  module _ (b : Book) where
    same : (l : Line) → allowed ns b l ≡ true → Same l
    unfolding open_texts
    same (Line.comment x) h = simp append_assoc
    same (Line.fn_label x) h = simp append_assoc
    same (Line.block_label x) h = simp append_assoc
    same (Line.jmp_block x) h = simp append_assoc
    same (Line.push_name x) h = simp append_assoc
    same (Line.syscall x) h = simp append_assoc
    same (Line.call x k) h = call_same x k (leb-true k 255 (both (is_name ns b x) (leb k 255) h).1)
    same (Line.push0n n) h = simp append_assoc
    same (Line.push n) h = simp append_assoc
    same (Line.get_arg n) h = simp append_assoc
    same (Line.get_local n) h = simp append_assoc
    same (Line.set_local n) h = simp append_assoc
    same (Line.call_fp n) h = simp append_assoc
    same (Line.label i n) h = label_same i n
    same (Line.jump i n) h = jump_same i n
    same (Line.bin op w) h = bin_same op w
    same (Line.icmp p w) h = icmp_same p w
    same (Line.trunc Narrow.n8) h = refl
    same (Line.trunc Narrow.n16) h = refl
    same (Line.trunc Narrow.n32) h = refl
    same (Line.sx8 Work.w32) h = refl
    same (Line.sx8 Work.w64) h = refl
    same (Line.sx16 Work.w32) h = refl
    same (Line.sx16 Work.w64) h = refl
    same Line.sx32 h = refl
    same (Line.load Mem.m8) h = refl
    same (Line.load Mem.m16) h = refl
    same (Line.load Mem.m32) h = refl
    same (Line.load Mem.m64) h = refl
    same (Line.store Mem.m8) h = refl
    same (Line.store Mem.m16) h = refl
    same (Line.store Mem.m32) h = refl
    same (Line.store Mem.m64) h = refl
    same Line.atomic_load h = refl
    same Line.atomic_store h = refl
    same Line.atomic_cas h = refl
    same Line.sys_memcmp h = refl
    same Line.dup h = refl
    same Line.pop h = refl
    same Line.ret h = refl
    same Line.panic h = refl
    same Line.thread_get h = refl
    same Line.thread_set h = refl
    same Line.blank h = refl

    -- a line's text is what the code puts for its numbers
    pub line_same : (k x : ℕ) (l : Line) → line_of ns b k x ≡ some l → text ns f l ++ (10 ∷ []) ≡ put_for k x
    line_same k x l e =
        let n = number_of_line ns b k x l e in
        rw (n.0.kind, n.0.operand) at (same l n.1)

no_lines : {X : Type 0} (ls : List Line) → ◌≡◌ {A = Option (List Line)} none (some ls) → X
no_lines ls h = absurd (let z : ◌≡◌ {A = ℕ} 0 1 = cc in omega arith)

-- lines have a first one where both parts are there
pub consed_some : (o : Option Line) (os : Option (List Line)) (ls : List Line) → consed o os ≡ some ls
    → (l : Line) × ((ms : List Line) × ((o ≡ some l) × ((os ≡ some ms) × (ls ≡ l ∷ ms))))
unfolding consed
consed_some none os ls h = no_lines ls h
consed_some (some l) none ls h = no_lines ls h
consed_some (some l) (some ms) ls h = (l, (ms, (refl, (refl, cc))))
