-- "1 name defined here, 2 reserved name", and "All functions of the book count as defined": the pass over a book's entries.
use Rattle.std.specs.Prelude.{ℕ, ◌+◌, ◌*◌, ◌<◌, ◌≤◌, ◌≡◌, refl, Bool, ◌||◌, set}
use Rattle.std.proofs.Common.{sym, ◌∙◌, arith, ne_eqb}
use Rattle.std.proofs.Math.Path.{ap, subst}
use Rattle.std.proofs.Math.Bool.{true, false, cond, or-false}
use Rattle.std.proofs.Math.Option.{Option, none, some}
use mathlib.Core.List.{List, [], ◌∷◌, ◌++◌, map}
use Rattle.std.proofs.Math.Dec.{eqb}
use Rattle.std.proofs.Math.ListN.{length, get_or, drop, length-set, length-drop, drop_of_length-le}
use Rattle.names.specs.Name.{lines, names_of, accepted, name_at, start_of}
use Rattle.names.specs.Lines.{names_lines}
use Rattle.book.specs.Entry.{Entry, entry, entries}
use Rattle.book.specs.Ast.{Ty, Param, BasicBlock, Mark, StructBody, StructType, Function, Book}
use Rattle.book.specs.Decode.{decode, member, mark_name, function_names}
use Rattle.book.specs.Encode.{ending, closed, enc_ty, enc_inst, enc_term, enc_param, enc_basic_block, enc_body, enc_mark, mark_entry, enc_struct, enc_function, enc_functions, encode}
use Rattle.book.specs.Limits.{Each, FunctionLimits}
use Rattle.book.proofs.AgreeBook.{decode_sound}
use Rattle.lowering.specs.Context.{Codegen, defined_by, codegen_of}
use Rattle.layout_memo.specs.Structs.{IsBook}
use Rattle.layout_memo.specs.Work.{Ready}
use Rattle.gen_values.specs.Maps.{mark_word}
use Rattle.gen_values.specs.Fields.{entry_at}
use Rattle.gen_blocks.specs.Words.{WordsKept, words_none, words_set, words_then, ready_words}
use Rattle.book.specs.Heads.{Inside, inside_ty, inside_body}
use Rattle.book.specs.Work.{name_words, mark_at}
use Rattle.gen_marks.specs.Mark.{plain_mark, defined_mark, raised, Raised, raise_one, mark_is}
use Rattle.gen_marks.specs.Spelling.{SpellDone}

-- ---- the entries that define a name: a mark of kind 1, a function
unfoldable pub defines : (kind : ℕ) → Bool
defines k = eqb k 1 || eqb k 5

unfoldable pub definers : List Entry → List ℕ
definers [] = []
definers (e ∷ es) = let rest = definers es in cond (defines e.kind) (e.word ∷ rest) rest

definers_append : (xs ys : List Entry) → definers (xs ++ ys) ≡ definers xs ++ definers ys
unfolding definers
definers_append [] ys = refl
definers_append (x ∷ xs) ys = go (defines x.kind) (definers_append xs ys)
  where
    go : (b : Bool) → definers (xs ++ ys) ≡ definers xs ++ definers ys
        → cond b (x.word ∷ definers (xs ++ ys)) (definers (xs ++ ys)) ≡ cond b (x.word ∷ definers xs) (definers xs) ++ definers ys
    go true e = ap (λ (l : List ℕ). x.word ∷ l) e
    go false e = e

-- entries of other kinds
abbrev Plain : Entry → Type 0
Plain e = defines e.kind ≡ false

plain_append : (xs ys : List Entry) → Each Plain xs → Each Plain ys → Each Plain (xs ++ ys)
plain_append [] ys p q = q
plain_append (x ∷ xs) ys p q = (p.0, plain_append xs ys p.1 q)

none_of : (xs : List Entry) → Each Plain xs → definers xs ≡ []
unfolding definers
none_of [] p = refl
none_of (x ∷ xs) p = rw p.0 (none_of xs p.1)

inside_plain : (xs : List Entry) → Each Inside xs → Each Plain xs
unfolding defines
inside_plain [] p = tt
inside_plain (x ∷ xs) p =
    (rw (ne_eqb x.kind 1 (λ e. p.0 (omega arith) (omega arith)), ne_eqb x.kind 5 (λ e. p.0 (omega arith) (omega arith))) refl, inside_plain xs p.1)

plain_ending : {A : Type 0} (write : A → List Entry) → ((a : A) → Each Plain (write a)) → (end : List Entry) → Each Plain end → (as' : List A) → Each Plain (ending write end as')
unfolding ending
plain_ending write all end e [] = e
plain_ending write all end e (a ∷ as') = plain_append (write a) (ending write end as') (all a) (plain_ending write all end e as')

closing : Each Plain (entry 0 0 ∷ [])
unfolding defines
closing = (refl, tt)

param_plain : (p : Param) → Each Plain (enc_param p)
unfolding enc_param defines
param_plain p = (refl, inside_plain (enc_ty p.ty) (inside_ty p.ty))

block_plain : (b : BasicBlock) → Each Plain (enc_basic_block b)
unfolding enc_basic_block defines
block_plain b = (refl, inside_plain (ending enc_inst (enc_term b.term) b.insts) (inside_body b.insts b.term))

struct_plain : (s : StructType) → Each Plain (enc_struct s)
unfolding enc_struct defines
struct_plain s = (refl, body s.body)
  where
    body : (b : Option StructBody) → Each Plain (enc_body b)
    body none = (refl, tt)
    body (some b) = inside_plain (enc_ty (Ty.struct b.packed b.fields)) (inside_ty (Ty.struct b.packed b.fields))

function_defines : (f : Function) → definers (enc_function f) ≡ f.name ∷ []
unfolding enc_function definers defines
function_defines f =
    let ps = closed enc_param f.params in
    let bs = closed enc_basic_block f.blocks in
    let all = plain_append (enc_ty f.ret_ty) (ps ++ bs) (inside_plain (enc_ty f.ret_ty) (inside_ty f.ret_ty))
    (plain_append ps bs (plain_ending enc_param param_plain (entry 0 0 ∷ []) closing f.params) (plain_ending enc_basic_block block_plain (entry 0 0 ∷ []) closing f.blocks)) in
    ap (λ (l : List ℕ). f.name ∷ l) (none_of (enc_ty f.ret_ty ++ (ps ++ bs)) all)

-- each function defines its name, and the entry that closes them defines none
functions_define : (fs : List Function) → definers (enc_functions fs) ≡ map (λ (f : Function). f.name) fs
unfolding ending definers defines
functions_define [] = refl
functions_define (f ∷ fs) =
    definers_append (enc_function f) (enc_functions fs) ∙ ap (λ (l : List ℕ). l ++ definers (enc_functions fs)) (function_defines f) ∙ ap (λ (l : List ℕ). f.name ∷ l) (functions_define fs)

structs_define : (end : List Entry) (ss : List StructType) → definers (ending enc_struct end ss) ≡ definers end
unfolding ending
structs_define end [] = refl
structs_define end (s ∷ ss) =
    definers_append (enc_struct s) (ending enc_struct end ss) ∙ ap (λ (l : List ℕ). l ++ definers (ending enc_struct end ss)) (none_of (enc_struct s) (struct_plain s)) ∙ structs_define end ss

marks_define : (end : List Entry) (ms : List Mark) → definers (ending enc_mark end ms) ≡ defined_by ms ++ definers end
unfolding ending mark_entry definers defines defined_by
marks_define end [] = refl
marks_define end (Mark.defined x ∷ ms) = ap (λ (l : List ℕ). x ∷ l) (marks_define end ms)
marks_define end (Mark.reserved x ∷ ms) = marks_define end ms

-- they are the names that count as defined
book_defines : (ns : List (List ℕ)) (b : Book) → definers (encode b) ≡ (codegen_of ns b).defined
unfolding encode codegen_of
book_defines ns b =
    marks_define (ending enc_struct (enc_functions b.functions) b.structs) b.marks
    ∙ ap (λ (l : List ℕ). defined_by b.marks ++ l) (structs_define (enc_functions b.functions) b.structs ∙ functions_define b.functions)

pub defined_is : (m : ℕ) (es : List Entry) (ns : List (List ℕ)) (b : Book) → decode m es ≡ some b → definers es ≡ (codegen_of ns b).defined
defined_is m es ns b e = ap definers (decode_sound m es b e).0 ∙ book_defines ns b

-- each is a name
below_append : (m : ℕ) (xs ys : List ℕ) → Each (λ x. x < m) xs → Each (λ x. x < m) ys → Each (λ x. x < m) (xs ++ ys)
below_append m [] ys p q = q
below_append m (x ∷ xs) ys p q = (p.0, below_append m xs ys p.1 q)

marks_below : (m : ℕ) (ms : List Mark) → Each (λ k. mark_name k < m) ms → Each (λ x. x < m) (defined_by ms)
unfolding defined_by
marks_below m [] p = tt
marks_below m (Mark.defined x ∷ ms) p = (p.0, marks_below m ms p.1)
marks_below m (Mark.reserved x ∷ ms) p = marks_below m ms p.1

functions_below : (m : ℕ) (fs : List Function) → Each (FunctionLimits m) fs → Each (λ x. x < m) (map (λ (f : Function). f.name) fs)
functions_below m [] p = tt
functions_below m (f ∷ fs) p = (p.0.0, functions_below m fs p.1)

all_below_lem : (m : ℕ) (es : List Entry) → IsBook m es → Each (λ x. x < m) (definers es)
unfolding codegen_of
all_below_lem m es k =
    let s = decode_sound m es k.book k.says in
    subst (Each (λ x. x < m)) (sym (defined_is m es [] k.book k.says))
    (below_append m (defined_by k.book.marks) (function_names k.book) (marks_below m k.book.marks s.1.marks) (functions_below m k.book.functions s.1.functions.1))

-- ---- the pass: what it asks and leaves
pub record DefineAsked (m : ℕ) (es : List Entry) (work : List ℕ) : Type 0 where
  pub book : IsBook m es
  pub room : name_words m ≤ length work

pub record DefineDone (m : ℕ) (es : List Entry) (work work' : List ℕ) : Type 0 where
  pub words : Raised m (λ x. member x (definers es)) work work'
  pub kept : WordsKept m 5 work work'

-- at the place a, where the names that `seen` tells are done
pub record Marking (m : ℕ) (es : List Entry) (work₀ work : List ℕ) (a : ℕ) : Type 0 where
  pub seen : ℕ → Bool
  pub goes : (x : ℕ) → member x (definers es) ≡ (seen x || member x (definers (drop a es)))
  pub below : Each (λ x. x < m) (definers (drop a es))
  pub words : Raised m seen work₀ work
  pub kept : WordsKept m 5 work₀ work
  pub room : name_words m ≤ length work

pub define_start : (m : ℕ) (es : List Entry) (work : List ℕ) → DefineAsked m es work → Marking m es work work 0
define_start m es work k =
    record { seen = λ x. false; goes = λ x. refl; below = all_below_lem m es k.book; words = λ x l. refl; kept = words_none; room = k.room }

module _ (m : ℕ) (ks ws work₀ work : List ℕ) (a : ℕ) (p : Marking m (entries ks ws) work₀ work a) where
  abbrev es : List Entry
  es = entries ks ws

  abbrev raising : List ℕ
  raising = set work (mark_at (get_or ws a 0)) (defined_mark (get_or work (mark_at (get_or ws a 0)) 0))

  swap : (s e l : Bool) → (s || (e || l)) ≡ ((e || s) || l)
  swap true true l = refl
  swap true false l = refl
  swap false true l = refl
  swap false false l = refl

  -- what stands at the place
  pub record Here : Type 0 where
    pub in_kinds : a + 1 ≤ length ks
    pub in_words : a + 1 ≤ length ws
    pub below : defines (get_or ks a 0) ≡ true → get_or ws a 0 < m
    pub other : defines (get_or ks a 0) ≡ false → Marking m es work₀ work (a + 1)
    pub defined : defines (get_or ks a 0) ≡ true → Marking m es work₀ raising (a + 1)

  view : (rest : List Entry) → drop a es ≡ rest → a < length es → Here
  unfolding definers member
  view [] h l = absurd (omega (arith, ap length h, length-drop a es))
  view (e ∷ rest) h l =
      let q = entry_at ks ws a e rest h in
      record {
        in_kinds = omega (arith, q.2);
        in_words = omega (arith, q.3);
        below = λ i. (subst (Each (λ x. x < m)) (step true i) p.below).0;
        other = λ i. record {
          seen = p.seen;
          goes = λ x. p.goes x ∙ ap (λ (d : List ℕ). p.seen x || member x d) (step false i);
          below = subst (Each (λ x. x < m)) (step false i) p.below;
          words = p.words;
          kept = p.kept;
          room = p.room;
        };
        defined = λ i.
            let w = get_or ws a 0 in
            let both = subst (Each (λ x. x < m)) (step true i) p.below in
            record {
              seen = λ x. eqb x w || p.seen x;
              goes = λ x. p.goes x ∙ ap (λ (d : List ℕ). p.seen x || member x d) (step true i) ∙ swap (p.seen x) (eqb x w) (member x (definers (drop (a + 1) es)));
              below = both.1;
              words = raise_one m p.seen work₀ work p.words p.room w both.0;
              kept = words_then p.kept (words_set w (mark_at w) (defined_mark (get_or work (mark_at w) 0)) both.0 refl);
              room = omega (arith, p.room, length-set work (mark_at w) (defined_mark (get_or work (mark_at w) 0)));
            };
      }
    where
      step : (b : Bool) → defines (get_or ks a 0) ≡ b → definers (drop a es) ≡ cond b (get_or ws a 0 ∷ definers (drop (a + 1) es)) (definers (drop (a + 1) es))
      step b i =
          let q = entry_at ks ws a e rest h in
          ap definers h
          ∙ ap (λ (k : ℕ). cond (defines k) (e.word ∷ definers rest) (definers rest)) (sym q.0)
          ∙ ap (λ (w : ℕ). cond (defines (get_or ks a 0)) (w ∷ definers rest) (definers rest)) (sym q.1)
          ∙ ap (λ (r : List Entry). cond (defines (get_or ks a 0)) (get_or ws a 0 ∷ definers r) (definers r)) (sym q.4)
          ∙ ap (λ (c : Bool). cond c (get_or ws a 0 ∷ definers (drop (a + 1) es)) (definers (drop (a + 1) es))) i

  pub seen_here : a < length es → Here
  seen_here = view (drop a es) refl

  -- no entry is left
  pub define_done : length es ≤ a → DefineDone m es work₀ work
  unfolding definers member
  define_done l =
      let e : drop a es ≡ [] = drop_of_length-le es l in
      let all : (x : ℕ) → member x (definers es) ≡ p.seen x = λ x. p.goes x ∙ ap (λ (r : List Entry). p.seen x || member x (definers r)) e ∙ or-false (p.seen x) in
      record {
        words = λ x h. p.words x h ∙ ap (λ (b : Bool). raised b (get_or work₀ (mark_at x) 0)) (sym (all x));
        kept = p.kept;
      }

-- ---- all of it: the names were accepted and noted is where the next of each starts, the book is sound
pub record MarksAsked (bs : List ℕ) (m : ℕ) (es : List Entry) (work : List ℕ) : Type 0 where
  pub names : accepted bs m ≡ true
  pub book : IsBook m es
  pub room : name_words m ≤ length work
  pub nexts : (x : ℕ) → x < m → get_or work (mark_at x) 0 ≡ start_of (lines bs) (x + 1)

-- word 5 of each name is its mark, and no other word has changed
pub record MarksPlaced (m : ℕ) (g : Codegen) (work work' : List ℕ) : Type 0 where
  pub marks : (x : ℕ) → x < m → get_or work' (mark_at x) 0 ≡ mark_word g x
  pub kept : WordsKept m 5 work work'

module _ {bs : List ℕ} {m : ℕ} (ks ws : List ℕ) {work : List ℕ} (k : MarksAsked bs m (entries ks ws) work) where
  module _ {work₁ : List ℕ} (s : SpellDone bs m work work₁) where
    module _ {work₂ : List ℕ} (d : DefineDone m (entries ks ws) work₁ work₂) where
      pub marks_placed : (ns : List (List ℕ)) (b : Book) → names_of bs ≡ some ns → decode m (entries ks ws) ≡ some b → MarksPlaced m (codegen_of ns b) work work₂
      unfolding codegen_of
      marks_placed ns b en eb =
          let l : lines bs ≡ ns = names_lines bs ns en in
          let e : definers (entries ks ws) ≡ (codegen_of ns b).defined = defined_is m (entries ks ws) ns b eb in
          record {
            marks = λ x h.
                d.words x h ∙ ap (raised (member x (definers (entries ks ws)))) (s.words x h ∙ ap (λ (n : List (List ℕ)). plain_mark (name_at n x)) l)
                ∙ ap (λ (y : List ℕ). raised (member x y) (plain_mark (name_at ns x))) e ∙ mark_is (codegen_of ns b) x;
            kept = words_then s.kept d.kept;
          }

-- measuring is not touched
module _ {m : ℕ} {es : List Entry} {g : Codegen} {work work' : List ℕ} where
  pub marks_ready : Ready m es work → MarksPlaced m g work work' → Ready m es work'
  marks_ready r p = ready_words 5 (omega arith) (λ e. omega arith) (λ e. omega arith) (λ e. omega arith) r p.kept
