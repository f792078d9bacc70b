-- `switch`, case by case: the tests, whose labels count up, then the edges.
use Rattle.std.specs.Prelude.{◌≡◌, ℕ, suc, ◌+◌, ◌%◌, ◌^◌, ◌<◌, List, [], ◌∷◌, length, drop, ◌≢◌, slice_index, slice_index_or}
use Rattle.std.proofs.Math.Path.{refl, ap, subst}
use Rattle.std.proofs.Common.{sym, ◌∙◌, arith}
use mathlib.Core.List.{append_assoc}
use Rattle.std.proofs.Math.ListN.{length-drop}
use Rattle.book.specs.Ast.{Ty, Value, Case, ICmpPred}
use Rattle.book.specs.Entry.{Entry, entries}
use Rattle.book.specs.Kinds.{TermTag}
use Rattle.book.specs.Fields.{Item, Field, term_fields}
use Rattle.book.specs.Encode.{enc_case, enc_fields, closed}
use Rattle.book_types.specs.Laws.{lent_from, entries_part}
use Rattle.layout_memo.specs.Front.{ty_len}
use Rattle.assembly.specs.Line.{Line, Hint}
use Rattle.assembly.specs.Number.{kind_of, operand_of, hint_number, operation, icmp_number}
use Rattle.lowering.specs.Gen.{Gen, skip, ◌>>◌, reserve}
use Rattle.lowering.specs.Context.{FnCtx}
use Rattle.lowering.specs.Operand.{int_width, work_of, push_int, push_value}
use Rattle.lowering.specs.Edge.{edge}
use Rattle.lowering.specs.Term.{case_tests, case_edges, gen_switch}
use Rattle.gen_lines.specs.declared.Reached.{Reached}
use Rattle.gen_lines.specs.Puts.{Puts, Lined, made_fresh, line_puts, same_puts, then_puts}
use Rattle.gen_lines.specs.Follow.{Asked, asked_puts, reserve_puts}
use Rattle.gen_values.specs.Maps.{Maps}
use Rattle.gen_values.specs.Push.{bare_puts}
use Rattle.gen_values.specs.Fields.{Fields, ValueAt, OperandAt, part_from, fields_part, entry_at, value_at, behind_value}
use Rattle.gen_fields.specs.Places.{past_type}
use Rattle.gen_term.specs.Toward.{Toward, toward_none, toward_first, toward_skip, toward_then}
use Rattle.gen_term.specs.Terms.{Cases, CaseAt, cases_in, cases_end, cases_next}

-- ---- cases that are left at a place
pub record CasesAsk (ks ws : List ℕ) : Type 0 where
  pub names : ℕ
  pub cases : List Case
  pub front : Cases names cases (entries ks ws)

-- what the passes over cases are lent
pub record TestsAsk (ks ws case-ks case-ws work : List ℕ) : Type 0 where
  pub lent : CasesAsk case-ks case-ws
  pub value : OperandAt ks ws 0 work

pub record EdgesAsk (m : ℕ) (ks ws bks bws work : List ℕ) : Type 0 where
  pub ctx : FnCtx
  pub maps : Maps m (entries bks bws) ctx work
  pub cases : List Case
  pub front : Cases m cases (entries ks ws)

pub record CasesLeft (m : ℕ) (ks ws : List ℕ) (place : ℕ) : Type 0 where
  pub todo : List Case
  pub front : Cases m todo (drop place (entries ks ws))

-- `counted` of them lie behind the place
pub record Counted (m : ℕ) (ks ws : List ℕ) (cs : List Case) (place counted : ℕ) : Type 0 where
  pub todo : List Case
  pub front : Cases m todo (drop place (entries ks ws))
  pub all : counted + length todo ≡ length cs

module _ (m : ℕ) (ks ws : List ℕ) (cs : List Case) {place counted : ℕ} (w : Counted m ks ws cs place counted) where
  pub count_in_lem : (place < length ks) × (place < length ws)
  count_in_lem = cases_in ks ws place w.todo w.front

  pub count_next : (slice_index ks place ≢ 0) → (place + 1 < length ws) × Counted m ks ws cs (place + 2) (counted + 1)
  count_next z =
      let q = cases_next ks ws place w.todo w.front z in
      (q.in_words, record { todo = q.more; front = q.next; all = omega (arith, w.all, ap length q.same) })

  pub count_end : slice_index_or ks place 0 ≡ 0 → counted ≡ length cs
  count_end z = omega (arith, w.all, ap length (cases_end ks ws place w.todo w.front z))

module _ (m : ℕ) (ks ws : List ℕ) {place : ℕ} (w : CasesLeft m ks ws place) where
  pub case_in : (place < length ks) × (place < length ws)
  case_in = cases_in ks ws place w.todo w.front

  pub case_at : (slice_index ks place ≢ 0) → CaseAt m ks ws place w.todo
  case_at z = cases_next ks ws place w.todo w.front z

  pub case_left : (slice_index ks place ≢ 0) → CasesLeft m ks ws (place + 2)
  case_left z = let q = case_at z in record { todo = q.more; front = q.next }

-- ---- a pass over the cases that does what f says of a label and the cases from it on
pub record CaseWalk (f : ℕ → List Case → Gen) (m : ℕ) (ks ws : List ℕ) (l : ℕ) (cs : List Case) (place label : ℕ) (s t : Reached) (ls os ls' os' : List ℕ) : Type 0 where
  pub todo : List Case
  pub number : ℕ
  pub front : Cases m todo (drop place (entries ks ws))
  pub labelled : label ≡ number % 2 ^ 64
  pub toward : Toward (f l cs) (f number todo) s t ls os ls' os'

module _ (f : ℕ → List Case → Gen) (m : ℕ) (ks ws : List ℕ) (l : ℕ) (cs : List Case) where
  pub walk_start : Cases m cs (entries ks ws) → {label : ℕ} → label ≡ l % 2 ^ 64 → (s : Reached) (ls os : List ℕ) → CaseWalk f m ks ws l cs 0 label s s ls os ls os
  walk_start front e s ls os = record { todo = cs; number = l; front = front; labelled = e; toward = toward_none (f l cs) s ls os }

  module _ {place label : ℕ} {s t : Reached} {ls os ls' os' : List ℕ} (w : CaseWalk f m ks ws l cs place label s t ls os ls' os') where
    pub walk_more : (slice_index ks place ≢ 0) → {label' : ℕ} {u : Reached} {ls'' os'' : List ℕ} → label' ≡ (label + 1) % 2 ^ 64
        → ((n : ℕ) (k : Case) (more : List Case) → label ≡ n % 2 ^ 64 → slice_index ws place ≡ k.value → slice_index ws (place + 1) ≡ k.label
        → Toward (f n (k ∷ more)) (f (suc n) more) t u ls' os' ls'' os'')
        → CaseWalk f m ks ws l cs (place + 2) label' s u ls os ls'' os''
    walk_more z {label'} {u} {ls''} {os''} e one =
        let q = cases_next ks ws place w.todo w.front z in
        let i : label' ≡ suc w.number % 2 ^ 64 = e ∙ rw w.labelled (omega arith) in
        let a : Toward (f l cs) (f w.number (q.case ∷ q.more)) s t ls os ls' os' = subst (λ (xs : List Case). Toward (f l cs) (f w.number xs) s t ls os ls' os') q.same w.toward in
        record {
          todo = q.more;
          number = suc w.number;
          front = q.next;
          labelled = i;
          toward = toward_then a (one w.number q.case q.more w.labelled q.value q.label);
        }

    pub walk_end : ((n : ℕ) → f n [] ≡ skip) → slice_index ks place ≡ 0 → Puts (f l cs) s t ls os ls' os'
    walk_end none z =
        let e : f w.number w.todo ≡ skip = ap (f w.number) (cases_end ks ws place w.todo w.front z) ∙ none w.number in
        toward_skip (subst (λ (g : Gen). Toward (f l cs) g s t ls os ls' os') e w.toward)

-- ---- one test, one edge
module _ (c : FnCtx) (w : ℕ) (val : Value) where
  pub no_tests : (l : ℕ) → case_tests c w val l [] ≡ skip
  unfolding case_tests
  no_tests l = refl

  module _ {s a b d e : Reached} {ks os k1 o1 k2 o2 k3 o3 k4 o4 : List ℕ} where
    pub test_puts : (l : ℕ) (k : Case) (more : List Case) {value label kind : ℕ} → label ≡ l % 2 ^ 64 → value ≡ k.value → kind ≡ operation (icmp_number ICmpPred.eq) (work_of w)
        → Puts (push_value c val w) s a ks os k1 o1 → Puts (push_int value w) a b k1 o1 k2 o2 → Lined kind 0 b d k2 o2 k3 o3 → Lined 20 label d e k3 o3 k4 o4
        → Toward (case_tests c w val l (k ∷ more)) (case_tests c w val (suc l) more) s e ks os k4 o4
    unfolding case_tests kind_of operand_of hint_number icmp_number
    test_puts l k more {value} {label} {kind} i j h p q test jump =
        let n : Puts (push_int k.value w) a b k1 o1 k2 o2 = same_puts (λ n. ap (λ x. push_int x w n) j) q in
        toward_then (toward_first _ p)
        (toward_then (toward_first _ n)
        (toward_then (toward_first _ (bare_puts (Line.icmp ICmpPred.eq (work_of w)) h refl test)) (toward_first _ (line_puts (Line.jump Hint.sw_case l) refl i jump))))

module _ (c : FnCtx) (pred : ℕ) where
  pub no_edges : (l : ℕ) → case_edges c pred l [] ≡ skip
  unfolding case_edges
  no_edges l = refl

  module _ {s a b : Reached} {ks os k1 o1 k2 o2 : List ℕ} where
    pub case_edge_puts : (l : ℕ) (k : Case) (more : List Case) {succ label : ℕ} → label ≡ l % 2 ^ 64 → succ ≡ k.label
        → Lined 16 label s a ks os k1 o1 → Puts (edge c pred succ) a b k1 o1 k2 o2
        → Toward (case_edges c pred l (k ∷ more)) (case_edges c pred (suc l) more) s b ks os k2 o2
    unfolding case_edges kind_of operand_of hint_number
    case_edge_puts l k more i j label q =
        let p : Puts (edge c pred k.label) a b k1 o1 k2 o2 = same_puts (λ n. ap (λ x. edge c pred x n) j) q in
        toward_then (toward_first _ (line_puts (Line.label Hint.sw_case l) refl i label)) (toward_first _ p)

-- ---- the whole
module _ (c : FnCtx) (pred : ℕ) (ty : Ty) (val : Value) (default : ℕ) (cs : List Case) {s a b d e f : Reached} {ks os k1 o1 k2 o2 k3 o3 : List ℕ} where
  pub switch_puts : (w count label : ℕ) → Asked (int_width ty) s a w → count ≡ length cs → b ≡ made_fresh a count → label ≡ a.counter → a.counter < 2 ^ 64
      → ((l : ℕ) → label ≡ l % 2 ^ 64 → Puts (case_tests c w val l cs) b d ks os k1 o1) → Puts (edge c pred default) d e k1 o1 k2 o2
      → ((l : ℕ) → label ≡ l % 2 ^ 64 → Puts (case_edges c pred l cs) e f k2 o2 k3 o3) → Puts (gen_switch c pred ty val default cs) s f ks os k3 o3
  unfolding gen_switch
  switch_puts w count label q i made same few tests p edges =
      asked_puts (λ w. reserve (length cs) (λ l. case_tests c w val l cs >> (edge c pred default >> case_edges c pred l cs))) q
      (reserve_puts (length cs) (made ∙ ap (made_fresh a) i) few (λ l j. then_puts (tests l (same ∙ j)) (then_puts p (edges l (same ∙ j)))))

-- ---- its fields: the type behind the terminator's entry, the value behind the type, the default block, the cases
pub record SwitchAsk (m : ℕ) (ks ws bks bws work : List ℕ) : Type 0 where
  pub ctx : FnCtx
  pub maps : Maps m (entries bks bws) ctx work
  pub ty : Ty
  pub val : Value
  pub default : ℕ
  pub cases : List Case
  pub fields : Fields m (term_fields TermTag.switch) (ty, (val, (default, (cases, tt)))) (drop 1 (entries ks ws))

-- from the value on, behind the type
abbrev pub valued : List Field
valued = Field.plain Item.value ∷ Field.plain Item.block ∷ Field.list Item.case ∷ []

pub record SwitchAt (m : ℕ) (ks ws : List ℕ) (val : Value) (default : ℕ) (cs : List Case) : Type 0 where
  pub value : ValueAt m ks ws 0 val
  pub default_is : slice_index_or ws 1 0 ≡ default
  pub default_below : default < m
  pub in_kinds : 2 < length ks
  pub in_words : 2 < length ws
  pub cases : Cases m cs (lent_from ks ws 2)

module _ {m : ℕ} (ks ws : List ℕ) (val : Value) (default : ℕ) (cs : List Case) where
  pub switch_at : Fields m valued (val, (default, (cs, tt))) (entries ks ws) → SwitchAt m ks ws val default cs
  unfolding enc_fields
  switch_at f =
      let h = behind_value ks ws 0 f in
      let q = entry_at ks ws 1 _ _ h.here in
      let k : Cases m cs (drop 2 (entries ks ws)) = record {
        rest = h.rest;
        here = q.4 ∙ append_assoc (closed enc_case cs) [] h.rest;
        keeps = h.keeps.1.0;
        few = omega (arith, f.few, length-drop 2 (entries ks ws));
      } in
      let inside = cases_in ks ws 2 cs k in
      record {
        value = value_at ks ws 0 f;
        default_is = q.1;
        default_below = h.keeps.0;
        in_kinds = inside.0;
        in_words = inside.1;
        cases = subst (λ (es : List Entry). Cases m cs es) (sym (entries_part 2 ks ws)) k;
      }

-- the value behind the type at the front, and what is behind it
pub record Valued (m : ℕ) (ks ws : List ℕ) (n : ℕ) (val : Value) (default : ℕ) (cs : List Case) : Type 0 where
  pub in_kinds : n < length ks
  pub in_words : n < length ws
  pub at : SwitchAt m (part_from ks n) (part_from ws n) val default cs

pub behind : {m n : ℕ} (ks ws : List ℕ) (ty : Ty) (val : Value) (default : ℕ) (cs : List Case) → Fields m (term_fields TermTag.switch) (ty, (val, (default, (cs, tt)))) (entries ks ws)
    → n ≡ ty_len m (entries ks ws) → Valued m ks ws n val default cs
behind {n = n} ks ws ty val default cs f e =
    let g = past_type ks ws f e in
    let v = value_at ks ws n g in
    record { in_kinds = v.in_kinds; in_words = v.in_words; at = switch_at (part_from ks n) (part_from ws n) val default cs (fields_part ks ws n g) }
