-- `push_value` by the work words.
use Rattle.std.specs.Prelude.{ℕ, ◌-◌, ◌<◌, ◌%◌, ◌^◌, ◌≡◌, List, get_or}
use Rattle.std.proofs.Math.Path.{refl, ap}
use Rattle.std.proofs.Common.{sym, ◌∙◌, arith, mod-eq_of_lt}
use Rattle.std.proofs.Math.Option.{Option, none, some}
use Rattle.numbers.specs.Width.{mask_to_width}
use Rattle.book.specs.Ast.{Value, Zero}
use Rattle.book.specs.Work.{param_at, slot_at}
use Rattle.book.specs.Map.{lookup}
use Rattle.book.specs.Result.{ok, bind}
use Rattle.assembly.specs.Line.{Line}
use Rattle.assembly.specs.Number.{kind_of, operand_of}
use Rattle.lowering.specs.Gen.{line, refuse, ◌>>=◌}
use Rattle.lowering.specs.Context.{FnCtx}
use Rattle.lowering.specs.Operand.{push_int, push_value, local_line}
use Rattle.gen_lines.specs.declared.Reached.{Reached}
use Rattle.gen_lines.specs.Puts.{Puts, Lined, made_refused, line_puts, refuse_puts, same_puts}
use Rattle.gen_values.specs.Maps.{Locals, numbered}

-- a word is itself as an operand
pub word_same : {x : ℕ} → x < 2 ^ 64 → x ≡ x % 2 ^ 64
word_same l = sym (mod-eq_of_lt l)

module _ {s t : Reached} {ks os ks' os' : List ℕ} where
  -- lines with an operand that is a word
  pub push_puts : (x : ℕ) → x < 2 ^ 64 → Lined 8 x s t ks os ks' os' → Puts (line (Line.push x)) s t ks os ks' os'
  unfolding kind_of operand_of
  push_puts x l h = line_puts (Line.push x) refl (word_same l) h

  pub get_arg_puts : (x : ℕ) → x < 2 ^ 64 → Lined 9 x s t ks os ks' os' → Puts (line (Line.get_arg x)) s t ks os ks' os'
  unfolding kind_of operand_of
  get_arg_puts x l h = line_puts (Line.get_arg x) refl (word_same l) h

  pub get_local_puts : (x : ℕ) → x < 2 ^ 64 → Lined 10 x s t ks os ks' os' → Puts (line (Line.get_local x)) s t ks os ks' os'
  unfolding kind_of operand_of
  get_local_puts x l h = line_puts (Line.get_local x) refl (word_same l) h

  pub set_local_puts : (x : ℕ) → x < 2 ^ 64 → Lined 11 x s t ks os ks' os' → Puts (line (Line.set_local x)) s t ks os ks' os'
  unfolding kind_of operand_of
  set_local_puts x l h = line_puts (Line.set_local x) refl (word_same l) h

  pub push_name_puts : (x : ℕ) → x < 2 ^ 64 → Lined 4 x s t ks os ks' os' → Puts (line (Line.push_name x)) s t ks os ks' os'
  unfolding kind_of operand_of
  push_name_puts x l h = line_puts (Line.push_name x) refl (word_same l) h

  pub int_puts : (v w : ℕ) {x : ℕ} → x ≡ mask_to_width v w → x < 2 ^ 64 → Lined 8 x s t ks os ks' os' → Puts (push_int v w) s t ks os ks' os'
  unfolding push_int
  int_puts v w {x} e l h = same_puts (λ n. ap (λ y. line (Line.push y) n) e) (push_puts x l h)

-- ---- values
-- a number that is there, and one that is not
pub some_of : (o : Option ℕ) (w : ℕ) → w ≡ numbered o → (w ≡ 0 → ⊥) → o ≡ some (w - 1)
some_of none w e z = absurd (z e)
some_of (some i) w e z = ap some (omega arith)

pub none_of : (o : Option ℕ) (w : ℕ) → w ≡ numbered o → w ≡ 0 → o ≡ none
none_of none w e z = refl
none_of (some i) w e z = absurd (omega arith)

module _ {s t : Reached} {ks os ks' os' : List ℕ} where
  -- the line of a local is put
  local_puts : (c : FnCtx) (x width : ℕ) (l : Line) → local_line (lookup x c.params) (lookup x c.slots) ≡ ok l → Puts (line l) s t ks os ks' os'
      → Puts (push_value c (Value.local x) width) s t ks os ks' os'
  unfolding push_value ◌>>=◌ bind
  local_puts c x width l e p = same_puts (λ n. rw e) p

module _ (c : FnCtx) (m x width : ℕ) (work : List ℕ) (below : x < m) (k : Locals c m work) {s t : Reached} {ks os ks' os' : List ℕ} where
  pub param_puts : {w : ℕ} → w ≡ get_or work (param_at x) 0 → (w ≡ 0 → ⊥) → w < 2 ^ 64 → Lined 9 (w - 1) s t ks os ks' os' → Puts (push_value c (Value.local x) width) s t ks os ks' os'
  unfolding local_line
  param_puts {w} e z l h =
      let p = some_of (lookup x c.params) w (e ∙ k.params x below) z in
      local_puts c x width (Line.get_arg (w - 1)) (rw p) (get_arg_puts (w - 1) (omega arith) h)

  pub slot_puts : {v w : ℕ} → v ≡ get_or work (param_at x) 0 → v ≡ 0 → w ≡ get_or work (slot_at x) 0 → (w ≡ 0 → ⊥) → w < 2 ^ 64 → Lined 10 (w - 1) s t ks os ks' os'
      → Puts (push_value c (Value.local x) width) s t ks os ks' os'
  unfolding local_line
  slot_puts {v} {w} d y e z l h =
      let p = none_of (lookup x c.params) v (d ∙ k.params x below) y in
      let q = some_of (lookup x c.slots) w (e ∙ k.slots x below) z in
      local_puts c x width (Line.get_local (w - 1)) (rw (p, q)) (get_local_puts (w - 1) (omega arith) h)

module _ (c : FnCtx) (m x width : ℕ) (work : List ℕ) (below : x < m) (k : Locals c m work) {s t : Reached} (ks os : List ℕ) where
  pub unknown_puts : {v w : ℕ} → v ≡ get_or work (param_at x) 0 → v ≡ 0 → w ≡ get_or work (slot_at x) 0 → w ≡ 0 → t ≡ made_refused s 10 → Puts (push_value c (Value.local x) width) s t ks os ks os
  unfolding local_line push_value ◌>>=◌ bind refuse
  unknown_puts {v} {w} d y e z h =
      let p = none_of (lookup x c.params) v (d ∙ k.params x below) y in
      let q = none_of (lookup x c.slots) w (e ∙ k.slots x below) z in
      same_puts (λ n. rw (p, q)) (refuse_puts 10 (omega arith) s ks os h)

module _ (c : FnCtx) (width : ℕ) {s t : Reached} {ks os ks' os' : List ℕ} where
  -- any width for a local
  pub local_width : (x : ℕ) → Puts (push_value c (Value.local x) 0) s t ks os ks' os' → Puts (push_value c (Value.local x) width) s t ks os ks' os'
  unfolding push_value
  local_width x p = p

  pub global_puts : (x : ℕ) → x < 2 ^ 64 → Lined 4 x s t ks os ks' os' → Puts (push_value c (Value.global x) width) s t ks os ks' os'
  unfolding push_value
  global_puts x l h = push_name_puts x l h

  pub number_puts : (v : ℕ) → Puts (push_int v width) s t ks os ks' os' → Puts (push_value c (Value.int v) width) s t ks os ks' os'
  unfolding push_value
  number_puts v p = p

  pub zero_puts : (z : Zero) → Lined 8 0 s t ks os ks' os' → Puts (push_value c (Value.zero z) width) s t ks os ks' os'
  unfolding push_value
  zero_puts z h = push_puts 0 (omega arith) h

module _ (c : FnCtx) (width : ℕ) {s t : Reached} (ks os : List ℕ) where
  pub other_puts : t ≡ made_refused s 3 → Puts (push_value c Value.other width) s t ks os ks os
  unfolding push_value
  other_puts h = refuse_puts 3 (omega arith) s ks os h

-- ---- lines without an operand
module _ {s t : Reached} {ks os ks' os' : List ℕ} where
  pub bare_puts : {k : ℕ} (l : Line) → k ≡ kind_of l → 0 ≡ operand_of l → Lined k 0 s t ks os ks' os' → Puts (line l) s t ks os ks' os'
  bare_puts l e z h = line_puts l e (let q : 0 ≡ operand_of l % 2 ^ 64 = rw (sym z) in q) h
