-- Laws: a line is the line of its numbers, and the numbers of a line are those that it was read from.
use Rattle.std.specs.Prelude.{ℕ, zero, suc, ◌+◌, ◌-◌, ◌*◌, ◌/◌, ◌%◌, ◌≤◌, ◌≡◌, Bool, true, false, cond, List, [], ◌∷◌, map, length, replicate, eqb, leb, ltb}
use Rattle.std.proofs.Math.Path.{refl}
use Rattle.std.proofs.Common.{sym, ap, ◌∙◌, arith, div-add-mod', eqb-true, leb-true, ltb-false}
use Rattle.std.proofs.Math.Option.{Option, none, some}
use Rattle.std.proofs.Math.ListN.{get_elem?}
use Rattle.names.specs.Tests.{both}
use Rattle.book.specs.Ast.{BinOp, ICmpPred, Book}
use Rattle.assembly.specs.Line.{Line, Work, Mem, Narrow, Hint}
use Rattle.assembly.specs.Number.{hint_number, mem_number, narrow_number, bin_number, icmp_number, operation, kind_of, operand_of, bins, preds, operations, with_operand, bare, applied, kept, form_of, is_name, allowed, if_allowed, line_of}

unfoldable open_forms : Unit {0}
unfolding hint_number mem_number narrow_number bin_number icmp_number operation kind_of operand_of bins preds operations with_operand bare applied kept form_of
open_forms = tt

-- ---- from a line to its numbers and back
bin_back : (op : BinOp) (w : Work) → form_of (kind_of (Line.bin op w)) 0 ≡ some (Line.bin op w)
unfolding open_forms
bin_back BinOp.add Work.w32 = refl
bin_back BinOp.add Work.w64 = refl
bin_back BinOp.sub Work.w32 = refl
bin_back BinOp.sub Work.w64 = refl
bin_back BinOp.mul Work.w32 = refl
bin_back BinOp.mul Work.w64 = refl
bin_back BinOp.udiv Work.w32 = refl
bin_back BinOp.udiv Work.w64 = refl
bin_back BinOp.sdiv Work.w32 = refl
bin_back BinOp.sdiv Work.w64 = refl
bin_back BinOp.urem Work.w32 = refl
bin_back BinOp.urem Work.w64 = refl
bin_back BinOp.srem Work.w32 = refl
bin_back BinOp.srem Work.w64 = refl
bin_back BinOp.and Work.w32 = refl
bin_back BinOp.and Work.w64 = refl
bin_back BinOp.or Work.w32 = refl
bin_back BinOp.or Work.w64 = refl
bin_back BinOp.xor Work.w32 = refl
bin_back BinOp.xor Work.w64 = refl
bin_back BinOp.shl Work.w32 = refl
bin_back BinOp.shl Work.w64 = refl
bin_back BinOp.lshr Work.w32 = refl
bin_back BinOp.lshr Work.w64 = refl
bin_back BinOp.ashr Work.w32 = refl
bin_back BinOp.ashr Work.w64 = refl

icmp_back : (p : ICmpPred) (w : Work) → form_of (kind_of (Line.icmp p w)) 0 ≡ some (Line.icmp p w)
unfolding open_forms
icmp_back ICmpPred.eq Work.w32 = refl
icmp_back ICmpPred.eq Work.w64 = refl
icmp_back ICmpPred.ne Work.w32 = refl
icmp_back ICmpPred.ne Work.w64 = refl
icmp_back ICmpPred.ugt Work.w32 = refl
icmp_back ICmpPred.ugt Work.w64 = refl
icmp_back ICmpPred.uge Work.w32 = refl
icmp_back ICmpPred.uge Work.w64 = refl
icmp_back ICmpPred.ult Work.w32 = refl
icmp_back ICmpPred.ult Work.w64 = refl
icmp_back ICmpPred.ule Work.w32 = refl
icmp_back ICmpPred.ule Work.w64 = refl
icmp_back ICmpPred.sgt Work.w32 = refl
icmp_back ICmpPred.sgt Work.w64 = refl
icmp_back ICmpPred.sge Work.w32 = refl
icmp_back ICmpPred.sge Work.w64 = refl
icmp_back ICmpPred.slt Work.w32 = refl
icmp_back ICmpPred.slt Work.w64 = refl
icmp_back ICmpPred.sle Work.w32 = refl
icmp_back ICmpPred.sle Work.w64 = refl

-- name × 256 + arguments, taken apart
call_back : (x k : ℕ) → k ≤ 255 → form_of 5 (x * 256 + k) ≡ some (Line.call x k)
unfolding open_forms
call_back x k h =
    let q : (x * 256 + k) / 256 ≡ x = omega arith in
    let r : (x * 256 + k) % 256 ≡ k = omega arith in
    rw (q, r)

module _ (names : List (List ℕ)) (b : Book) where
  form_back : (l : Line) → allowed names b l ≡ true → form_of (kind_of l) (operand_of l) ≡ some l
  unfolding open_forms allowed
  form_back (Line.comment x) h = refl
  form_back (Line.fn_label x) h = refl
  form_back (Line.block_label x) h = refl
  form_back (Line.jmp_block x) h = refl
  form_back (Line.push_name x) h = refl
  form_back (Line.syscall x) h = refl
  form_back (Line.call x k) h = call_back x k (leb-true k 255 (both (is_name names b x) (leb k 255) h).1)
  form_back (Line.push0n n) h = refl
  form_back (Line.push n) h = refl
  form_back (Line.get_arg n) h = refl
  form_back (Line.get_local n) h = refl
  form_back (Line.set_local n) h = refl
  form_back (Line.call_fp n) h = refl
  form_back (Line.label Hint.sel_false n) h = refl
  form_back (Line.label Hint.sel_done n) h = refl
  form_back (Line.label Hint.br_false n) h = refl
  form_back (Line.label Hint.sw_case n) h = refl
  form_back (Line.jump Hint.sel_false n) h = refl
  form_back (Line.jump Hint.sel_done n) h = refl
  form_back (Line.jump Hint.br_false n) h = refl
  form_back (Line.jump Hint.sw_case n) h = refl
  form_back (Line.bin op w) h = bin_back op w
  form_back (Line.icmp p w) h = icmp_back p w
  form_back (Line.trunc Narrow.n8) h = refl
  form_back (Line.trunc Narrow.n16) h = refl
  form_back (Line.trunc Narrow.n32) h = refl
  form_back (Line.sx8 Work.w32) h = refl
  form_back (Line.sx8 Work.w64) h = refl
  form_back (Line.sx16 Work.w32) h = refl
  form_back (Line.sx16 Work.w64) h = refl
  form_back Line.sx32 h = refl
  form_back (Line.load Mem.m8) h = refl
  form_back (Line.load Mem.m16) h = refl
  form_back (Line.load Mem.m32) h = refl
  form_back (Line.load Mem.m64) h = refl
  form_back (Line.store Mem.m8) h = refl
  form_back (Line.store Mem.m16) h = refl
  form_back (Line.store Mem.m32) h = refl
  form_back (Line.store Mem.m64) h = refl
  form_back Line.atomic_load h = refl
  form_back Line.atomic_store h = refl
  form_back Line.atomic_cas h = refl
  form_back Line.sys_memcmp h = refl
  form_back Line.dup h = refl
  form_back Line.pop h = refl
  form_back Line.ret h = refl
  form_back Line.panic h = refl
  form_back Line.thread_get h = refl
  form_back Line.thread_set h = refl
  form_back Line.blank h = refl

  -- an allowed line is the line of its numbers
  pub line_of_number : (l : Line) → allowed names b l ≡ true → line_of names b (kind_of l) (operand_of l) ≡ some l
  unfolding line_of if_allowed kept
  line_of_number l h = rw (form_back l h, h)

-- ---- from two numbers to a line and back
-- as many numbers as given, counting from i
abbrev count : ℕ → ℕ → List ℕ
count i zero = []
count i (suc n) = i ∷ count (suc i) n

no_line : {A X : Type 0} (a : A) → none ≡ some a → X
no_line a h = absurd (let z : ◌≡◌ {A = ℕ} 0 1 = cc in omega arith)

at_place : {A : Type 0} (g : A → ℕ) (l : List A) (i k : ℕ) (a : A) → map g l ≡ count i (length l) → get_elem? l k ≡ some a → g a ≡ i + k
at_place g [] i k a e h = no_line a h
at_place g (x ∷ l) i zero a e h =
    let p : x ≡ a = cc in
    let q : g x ≡ i = cc in
    let r : g a ≡ i = rw p at q in
    omega arith
at_place g (x ∷ l) i (suc k) a e h =
    let p : map g l ≡ count (suc i) (length l) = cc in
    let r = at_place g l (suc i) k a p h in
    omega arith

at_any : {A : Type 0} (g : A → ℕ) (l : List A) (v k : ℕ) (a : A) → map g l ≡ replicate (length l) v → get_elem? l k ≡ some a → g a ≡ v
at_any g [] v k a e h = no_line a h
at_any g (x ∷ l) v zero a e h =
    let p : x ≡ a = cc in
    let q : g x ≡ v = cc in
    rw p at q
at_any g (x ∷ l) v (suc k) a e h =
    let p : map g l ≡ replicate (length l) v = cc in
    at_any g l v k a p h

-- the kind of a line is its place in the table
with_kinds : (x : ℕ) → map (λ (f : ℕ → Line). kind_of (f x)) with_operand ≡ count 0 (length with_operand)
unfolding open_forms
with_kinds x = refl

with_operands : (x : ℕ) → map (λ (f : ℕ → Line). operand_of (f x)) with_operand ≡ replicate (length with_operand) x
unfolding open_forms
with_operands x = rw (div-add-mod' x 256)

bare_kinds : map kind_of bare ≡ count 21 (length bare)
unfolding open_forms
bare_kinds = refl

bare_operands : map operand_of bare ≡ replicate (length bare) 0
unfolding open_forms
bare_operands = refl

pub record Numbers (k x : ℕ) (l : Line) : Type 0 where
  pub kind : kind_of l ≡ k
  pub operand : operand_of l ≡ x

applied_some : (f : Option (ℕ → Line)) (x : ℕ) (l : Line) → applied f x ≡ some l → (g : ℕ → Line) × (f ≡ some g) × (g x ≡ l)
unfolding applied
applied_some none x l h = no_line l h
applied_some (some g) x l h = (g, refl, cc)

kept_some : (b : Bool) (o : Option Line) (l : Line) → kept b o ≡ some l → (b ≡ true) × (o ≡ some l)
unfolding kept
kept_some true o l h = (refl, h)
kept_some false o l h = no_line l h

form_numbers : (k x : ℕ) (l : Line) → form_of k x ≡ some l → Numbers k x l
unfolding form_of
form_numbers k x l h = go (ltb k 21) refl h
  where
    go : (t : Bool) → ltb k 21 ≡ t → cond t (applied (get_elem? with_operand k) x) (kept (eqb x 0) (get_elem? bare (k - 21))) ≡ some l → Numbers k x l
    go true e h =
        let g = applied_some (get_elem? with_operand k) x l h in
        let p = at_place (λ (f : ℕ → Line). kind_of (f x)) with_operand 0 k g.0 (with_kinds x) g.1 in
        let q = at_any (λ (f : ℕ → Line). operand_of (f x)) with_operand x k g.0 (with_operands x) g.1 in
        let p' : kind_of (g.0 x) ≡ k = omega arith in
        record { kind = sym (ap kind_of g.2) ∙ p'; operand = sym (ap operand_of g.2) ∙ q }
    go false e h =
        let g = kept_some (eqb x 0) (get_elem? bare (k - 21)) l h in
        let p = at_place kind_of bare 21 (k - 21) l bare_kinds g.1 in
        let q = at_any operand_of bare 0 (k - 21) l bare_operands g.1 in
        record { kind = omega (arith, ltb-false k 21 e); operand = q ∙ sym (eqb-true x 0 g.0) }

module _ (names : List (List ℕ)) (b : Book) where
  allowed_some : (o : Option Line) (l : Line) → if_allowed names b o ≡ some l → (o ≡ some l) × (allowed names b l ≡ true)
  unfolding if_allowed
  allowed_some none l h = no_line l h
  allowed_some (some m) l h =
      let g = kept_some (allowed names b m) (some m) l h in
      let e : m ≡ l = cc g.1 in
      (g.1, rw e at g.0)

  -- a line has the numbers that it was read from, and they are allowed
  pub number_of_line : (k x : ℕ) (l : Line) → line_of names b k x ≡ some l → Numbers k x l × (allowed names b l ≡ true)
  unfolding line_of
  number_of_line k x l h =
      let g = allowed_some (form_of k x) l h in
      (form_numbers k x l g.0, g.1)
