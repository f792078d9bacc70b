-- Law: every operand and the next counter of an accepted function fit a word. The labels are at most two for each entry of the book.
use Rattle.std.specs.Prelude.{ℕ, ◌+◌, ◌*◌, ◌%◌, ◌<◌, ◌≤◌, ◌^◌, ◌≡◌, refl, Bool, true, false, ◌||◌, length, leb, eqb}
use Rattle.std.proofs.Common.{subst, ⊎_elim, mod-eq_of_lt, leb-true, eqb-true}
use Rattle.std.proofs.Math.Option.{Option, none, some}
use mathlib.Core.List.{List, [], ◌∷◌, ◌++◌, map}
use Rattle.std.proofs.Math.ListN.{length-append}
use native.Mathlib.Omega.{arith}
use Rattle.numbers.specs.Align.{align_most}
use Rattle.book.specs.Entry.{Entry, entry}
use Rattle.book.specs.Ast.{Value, InstKind, Inst, Terminator, BasicBlock, Param, Function, Book}
use Rattle.book.specs.Encode.{ending, closed, enc_ty, enc_case, enc_inst, enc_term, value_entry, enc_fields, enc_mark, enc_struct, enc_param, enc_basic_block, enc_function, enc_functions, encode}
use Rattle.book.specs.Decode.{member}
use Rattle.book.specs.Limits.{Each, FunctionLimits, Limits}
use Rattle.book.specs.Map.{Map, lookup, insert}
use Rattle.book.specs.Result.{ok, require, bind_ok, given_ok}
use Rattle.book.specs.Shape.{all_insts}
use Rattle.book.specs.Check.{Sound, checked}
use Rattle.book.proofs.AgreeInput.{slice_sound}
use Rattle.layout.specs.Frame.{Places, no_frame, frame_pass}
use Rattle.assembly.specs.Line.{Line}
use Rattle.assembly.specs.Number.{operand_of}
use Rattle.lowering.specs.Gen.{Out, each}
use Rattle.lowering.specs.Context.{Codegen, codegen_of, param_map}
use Rattle.lowering.specs.Function.{gen_block, gen_lines, context_of, gen_function, gen_functions}
use Rattle.lowering.specs.Translate.{generated}
use Rattle.lowering.specs.Places.{lookup_cons, frame_within}
use Rattle.lowering.specs.Labels.{inst_labels, br_labels, term_labels, sum_of, block_labels, function_labels, functions_labels}
use Rattle.lowering.proofs.AllowedFunction.{functions_allow}
use Rattle.lowering.proofs.Printable.{names_counted, checked_lent}
use Rattle.lowering.proofs.Bounds.{Keeps, all_keep}
use Rattle.lowering.specs.Words.{Word, Words, bind_words, then_words, skip_words, worded}
use Rattle.lowering.proofs.WordsOf.{Numbers, block_words, prologue_words}

-- ---- at most two labels for each entry
module _ {A : Type 0} (write : A → List Entry) where
  -- items that have an entry at least
  pub items_within : ((a : A) → 1 ≤ length (write a)) → (end : List Entry) (xs : List A) → length xs + length end ≤ length (ending write end xs)
  unfolding ending
  items_within h end [] = omega arith
  items_within h end (x ∷ xs) = omega (arith, h x, items_within h end xs, length-append (write x) (ending write end xs))

  -- what is counted of each item is at most two for each of its entries
  sum_within : (f : A → ℕ) → ((a : A) → f a ≤ 2 * length (write a)) → (end : List Entry) (xs : List A) → sum_of f xs + 2 * length end ≤ 2 * length (ending write end xs)
  unfolding ending sum_of
  sum_within f h end [] = omega arith
  sum_within f h end (x ∷ xs) = omega (arith, h x, sum_within f h end xs, length-append (write x) (ending write end xs))

inst_labels_lem : (k : InstKind) → inst_labels k ≤ 2
unfolding inst_labels
inst_labels_lem (InstKind.select c t l r) = omega arith
inst_labels_lem (InstKind.bin op t l r) = omega arith
inst_labels_lem (InstKind.conv op t v u) = omega arith
inst_labels_lem (InstKind.icmp p t l r) = omega arith
inst_labels_lem (InstKind.load t p a) = omega arith
inst_labels_lem (InstKind.store t v p a) = omega arith
inst_labels_lem (InstKind.alloca t n a) = omega arith
inst_labels_lem (InstKind.get_element_ptr t p is) = omega arith
inst_labels_lem (InstKind.phi t vs) = omega arith
inst_labels_lem (InstKind.call t f vs) = omega arith
inst_labels_lem (InstKind.freeze t v) = omega arith
inst_labels_lem (InstKind.atomic_load t p) = omega arith
inst_labels_lem (InstKind.atomic_store t v p) = omega arith
inst_labels_lem (InstKind.cmpxchg t p c v) = omega arith
inst_labels_lem (InstKind.extract_value v i) = omega arith
inst_labels_lem InstKind.fence = omega arith

inst_within : (i : Inst) → inst_labels i.kind ≤ 2 * length (enc_inst i)
unfolding enc_inst
inst_within i = omega (arith, inst_labels_lem i.kind)

br_within : (v : Option Value) → br_labels v ≤ 1
unfolding br_labels
br_within none = omega arith
br_within (some v) = omega arith

term_within : (t : Terminator) → term_labels t ≤ 2 * length (enc_term t)
unfolding enc_term term_labels enc_fields
term_within (Terminator.ret v) = omega arith
term_within (Terminator.br v t f) = omega (arith, br_within v)
term_within (Terminator.switch ty v d ks) =
    let cases = closed enc_case ks in
    omega (
      arith,
      items_within enc_case (λ k. omega arith) (entry 0 0 ∷ []) ks,
      length-append cases [],
      length-append (enc_ty ty) (value_entry v ∷ (entry 23 d ∷ (cases ++ []))),
    )
term_within Terminator.unreachable = omega arith

block_within : (b : BasicBlock) → block_labels b ≤ 2 * length (enc_basic_block b)
unfolding block_labels enc_basic_block
block_within b = omega (arith, sum_within enc_inst (λ (i : Inst). inst_labels i.kind) inst_within (enc_term b.term) b.insts, term_within b.term)

-- ---- the parts of a book
ending_end : {A : Type 0} (write : A → List Entry) (end : List Entry) (xs : List A) → length end ≤ length (ending write end xs)
unfolding ending
ending_end write end [] = omega arith
ending_end write end (x ∷ xs) = omega (arith, ending_end write end xs, length-append (write x) (ending write end xs))

param_pos : (p : Param) → 1 ≤ length (enc_param p)
unfolding enc_param
param_pos p = omega arith

-- the labels and the parameters of a function of n entries
pub record Sized (f : Function) (n : ℕ) : Type 0 where
  pub labels : function_labels f ≤ 2 * n
  pub params : length f.params ≤ n

function_sized : (f : Function) → Sized f (length (enc_function f))
unfolding enc_function function_labels
function_sized f =
    let ps = closed enc_param f.params in
    let bs = closed enc_basic_block f.blocks in
    let a = length-append (enc_ty f.ret_ty) (ps ++ bs) in
    let b = length-append ps bs in
    record {
      labels = omega (arith, sum_within enc_basic_block block_labels block_within (entry 0 0 ∷ []) f.blocks);
      params = omega (arith, items_within enc_param param_pos (entry 0 0 ∷ []) f.params);
    }

-- the labels of functions that have n entries together, and the parameters of each
pub record AllSized (fs : List Function) (n : ℕ) : Type 0 where
  pub labels : sum_of function_labels fs ≤ 2 * n
  pub params : Each (λ (f : Function). length f.params ≤ n) fs

params_sized : (n : ℕ) (fs : List Function) → length (enc_functions fs) ≤ n → Each (λ (f : Function). length f.params ≤ n) fs
unfolding ending
params_sized n [] h = tt
params_sized n (f ∷ fs) h =
    let a = length-append (enc_function f) (enc_functions fs) in
    (omega (arith, (function_sized f).params), params_sized n fs (omega arith))

pub book_sized : (b : Book) → AllSized b.functions (length (encode b))
unfolding encode
book_sized b =
    let fs = enc_functions b.functions in
    let l : length fs ≤ length (encode b) = omega (arith, ending_end enc_struct fs b.structs, ending_end enc_mark (ending enc_struct fs b.structs) b.marks) in
    record {
      labels = omega (arith, sum_within enc_function function_labels (λ f. (function_sized f).labels) (entry 0 0 ∷ []) b.functions);
      params = params_sized (length (encode b)) b.functions l;
    }

-- ---- arguments
-- numbers from i on, below i + the number of parameters
params_below : (i : ℕ) (ps : List Param) (m : Map ℕ) (n : ℕ) → i + length ps ≤ n → ((x j : ℕ) → lookup x m ≡ some j → j < n) → (x j : ℕ) → lookup x (param_map i ps m) ≡ some j → j < n
unfolding param_map insert
params_below i [] m n l h x j e = h x j e
params_below i (p ∷ ps) m n l h x j e = params_below (i + 1) ps (insert p.name i m) n (omega arith) (own p.name) x j e
  where
    own : (o : Option ℕ) (y k : ℕ) → lookup y (insert o i m) ≡ some k → k < n
    own none y k f = h y k f
    own (some z) y k f = ⊎_elim (λ q. let d = q.1 in omega arith) (λ g. h y k g) (lookup_cons y z i k m f)

no_argument : (n x j : ℕ) → lookup x [] ≡ some j → j < n
unfolding lookup
no_argument n x j h = absurd (let z : ◌≡◌ {A = ℕ} 0 1 = cc in omega arith)

-- ---- a function
module _ (m : Codegen) (f : Function) (few : length f.params ≤ 2 ^ 20) where
  numbers : (fr : Places) → frame_pass m.structs (all_insts f.blocks) no_frame ≡ ok fr → Numbers (context_of m f fr)
  unfolding context_of
  numbers fr e =
      let w = frame_within m.structs (all_insts f.blocks) fr e in
      record {
        args = λ x i h. let q : i < 2 ^ 20 = params_below 0 f.params [] (2 ^ 20) (omega arith) (no_argument (2 ^ 20)) x i h in omega arith;
        frame = omega (arith, w.small, align_most fr.off 8);
      }

  function_words : Words 0 (gen_function m f)
  unfolding gen_function gen_lines
  function_words =
      bind_words 0 _ _ (λ fr e.
      let fit = numbers fr e in
      let enter = prologue_words (context_of m f fr) fit 0 in
      let block : (b : BasicBlock) → Words 0 (gen_block (context_of m f fr) b) = block_words (context_of m f fr) fit 0 in
      search (worded, block) depth 9)

-- ---- operands
-- a function's name is a name
named_below : (n x : ℕ) (fs : List Function) → Each (λ (f : Function). f.name < n) fs → member x (map (λ (f : Function). f.name) fs) ≡ true → x < n
unfolding member
named_below n x [] l h = absurd (let z : ◌≡◌ {A = ℕ} 0 1 = cc in omega arith)
named_below n x (f ∷ fs) l h = go (named_below n x fs l.1) (eqb x f.name) refl h
  where
    go : (member x (map (λ (g : Function). g.name) fs) ≡ true → x < n) → (t : Bool) → eqb x f.name ≡ t → (t || member x (map (λ (g : Function). g.name) fs)) ≡ true → x < n
    go later true e k = let q = eqb-true x f.name e in omega (arith, l.0)
    go later false e k = later k

module _ (names : List (List ℕ)) (b : Book) (few : length names ≤ 131072) (named : Each (λ (f : Function). f.name < length names) b.functions) (next : ℕ) (low : next ≤ 2 ^ 64) where
  operand_fits : (l : Line) → Keeps names b l → Word next l → operand_of l < 2 ^ 64
  unfolding operand_of
  operand_fits (Line.comment x) k w = omega (arith, named_below (length names) x b.functions named k)
  operand_fits (Line.fn_label x) k w = omega (arith, k)
  operand_fits (Line.block_label x) k w = omega (arith, k)
  operand_fits (Line.jmp_block x) k w = omega (arith, k)
  operand_fits (Line.push_name x) k w = omega (arith, k)
  operand_fits (Line.call x j) k w = omega (arith, k.0, k.1)
  operand_fits (Line.syscall x) k w = omega (arith, k.0)
  operand_fits (Line.push0n n) k w = omega (arith, k.1)
  operand_fits (Line.push n) k w = w.small
  operand_fits (Line.get_arg n) k w = w.small
  operand_fits (Line.get_local n) k w = omega (arith, k)
  operand_fits (Line.set_local n) k w = omega (arith, k)
  operand_fits (Line.call_fp n) k w = omega (arith, k)
  operand_fits (Line.label h n) k w = omega (arith, w.below)
  operand_fits (Line.jump h n) k w = omega (arith, w.below)
  operand_fits (Line.bin op wk) k w = omega arith
  operand_fits (Line.icmp p wk) k w = omega arith
  operand_fits (Line.trunc n) k w = omega arith
  operand_fits (Line.sx8 wk) k w = omega arith
  operand_fits (Line.sx16 wk) k w = omega arith
  operand_fits Line.sx32 k w = omega arith
  operand_fits (Line.load m) k w = omega arith
  operand_fits (Line.store m) k w = omega arith
  operand_fits Line.atomic_load k w = omega arith
  operand_fits Line.atomic_store k w = omega arith
  operand_fits Line.atomic_cas k w = omega arith
  operand_fits Line.sys_memcmp k w = omega arith
  operand_fits Line.dup k w = omega arith
  operand_fits Line.pop k w = omega arith
  operand_fits Line.ret k w = omega arith
  operand_fits Line.panic k w = omega arith
  operand_fits Line.thread_get k w = omega arith
  operand_fits Line.thread_set k w = omega arith
  operand_fits Line.blank k w = omega arith

  operands_fit : (ls : List Line) → Each (Keeps names b) ls → Each (Word next) ls → Each (λ l. operand_of l < 2 ^ 64) ls
  operands_fit [] k w = tt
  operands_fit (l ∷ ls) k w = (operand_fits l k.0 w.0, operands_fit ls k.1 w.1)

-- what an accepted function gives fits a word: every operand, and the next counter
pub record Fits (o : Out) : Type 0 where
  pub operands : Each (λ l. operand_of l < 2 ^ 64) o.lines
  pub next : o.next < 2 ^ 64

functions_words : (m : Codegen) (fs : List Function) (n : ℕ) → n ≤ 2 ^ 20 → Each (λ (f : Function). length f.params ≤ n) fs → Words 0 (gen_functions m fs)
unfolding gen_functions each
functions_words m [] n h l = skip_words 0
functions_words m (f ∷ fs) n h l = then_words 0 _ _ (function_words m f (omega (arith, l.0))) (functions_words m fs n h l.1)

each_named : (n : ℕ) (fs : List Function) → Each (FunctionLimits n) fs → Each (λ (f : Function). f.name < n) fs
each_named n [] l = tt
each_named n (f ∷ fs) l = (l.0.0, each_named n fs l.1)

pub functions_fit : (names : List (List ℕ)) (b : Book) → Limits (length names) b → length names ≤ 131072 → length (encode b) ≤ 1048576 → (counter : ℕ) → counter ≤ 2 ^ 32
    → (o : Out) → gen_functions (codegen_of names b) b.functions counter ≡ ok o → Fits o
functions_fit names b l few small counter low o h =
    let s = book_sized b in
    let next : o.next < 2 ^ 64 = omega (arith, (functions_labels (codegen_of names b) b.functions).takes counter o h, s.labels) in
    let w = (functions_words (codegen_of names b) b.functions (length (encode b)) (omega arith) s.params).words counter o h (omega arith) in
    let k = all_keep names b o.lines ((functions_allow names b l).allows counter o h) in
    record { operands = operands_fit names b few (each_named (length names) b.functions l.functions.1) o.next (omega arith) o.lines k w; next = next }

-- ---- a sound book
counter_low : (book names : List ℕ) (counter work : ℕ) (s : Sound) → checked book names counter work ≡ ok s → counter ≤ 2 ^ 32
unfolding checked require
counter_low book names counter work s h =
    let a = bind_ok _ _ s h in
    let c = bind_ok _ _ s a.2 in
    leb-true counter (2 ^ 32) (given_ok (leb counter (2 ^ 32)) 1 tt c.0 c.1).0

-- "any number for `push`, `get_arg` and numbered labels": any that a word holds
pub checked_fits : (book names : List ℕ) (counter work : ℕ) (s : Sound) → checked book names counter work ≡ ok s
    → (o : Out) → gen_functions (codegen_of s.names s.book) s.book.functions counter ≡ ok o → Fits o
checked_fits book names counter work s h o e =
    let l = checked_lent book names counter work s h in
    let k = (slice_sound book l.counted l.read).1 in
    let few : length s.names ≤ 131072 = omega (arith, names_counted l.counted.count names s.names l.spelled, k.names) in
    let small : length (encode s.book) ≤ 1048576 = subst (λ (b : Book). length (encode b) ≤ 1048576) l.same k.entries in
    functions_fit s.names s.book l.limits few small counter (counter_low book names counter work s h) o e

pub generated_fits : (book names : List ℕ) (counter work room : ℕ) (o : Out) → generated book names counter work room ≡ ok o → Fits o
unfolding generated
generated_fits book names counter work room o h =
    let a = bind_ok (checked book names counter work) _ o h in
    let c = bind_ok (gen_functions (codegen_of a.0.names a.0.book) a.0.book.functions counter) _ o a.2 in
    let d = given_ok _ _ c.0 o c.2 in
    subst Fits d.1 (checked_fits book names counter work a.0 a.1 c.0 c.1)

-- as words they are what they are
pub operands_same : (ls : List Line) → Each (λ l. operand_of l < 2 ^ 64) ls → map (λ l. operand_of l % 2 ^ 64) ls ≡ map operand_of ls
operands_same [] h = refl
operands_same (l ∷ ls) h = let e = mod-eq_of_lt h.0 in let r = operands_same ls h.1 in cc
