-- `emit_trunc_to` and `emit_sext` line by line, and where results go.
use Rattle.std.specs.Prelude.{ℕ, ◌+◌, ◌-◌, ◌*◌, ◌<◌, ◌≤◌, ◌%◌, ◌^◌, min, ◌≡◌, Bool, true, false, cond, not, ◌&&◌, List, [], ◌∷◌, get_or, eqb, leb, ltb}
use Rattle.std.proofs.Math.Path.{refl, ap}
use Rattle.std.proofs.Common.{sym, ◌∙◌, arith, mod-eq_of_lt, pow-add, pow_pos, pow_mono, eq-eqb, ne_eqb, le-leb, leb-true, lt-ltb, le-ltb}
use Rattle.std.proofs.Math.Option.{Option, none, some}
use Rattle.std.proofs.Math.Nat.{mul-sub, mul-add-mod_self_left}
use Rattle.std.proofs.lemmas.Bool.{lt-leb}
use Rattle.book.specs.Rule.{pick}
use Rattle.numbers.specs.Width.{mask_to_width}
use Rattle.book.specs.Ast.{BinOp}
use Rattle.book.specs.Work.{slot_at}
use Rattle.book.specs.Map.{lookup}
use Rattle.book.specs.Result.{ok, err, bind, ok_or}
use Rattle.assembly.specs.Line.{Line, Work, Narrow}
use Rattle.assembly.specs.Number.{kind_of, operand_of, operation, bin_number, narrow_number}
use Rattle.lowering.specs.Gen.{Gen, lines, line, skip, refuse, after, ◌>>=◌, ◌>>◌, when, choose}
use Rattle.lowering.specs.Context.{FnCtx, named, slot_of}
use Rattle.lowering.specs.Operand.{work_of, work_bits, trunc_lines, emit_trunc_to, ones, sx32_to, sx_line, sext_bit, sext_more, emit_sext, store_dest, store_or_pop}
use Rattle.gen_lines.specs.declared.Reached.{Reached}
use Rattle.gen_lines.specs.Puts.{Puts, Lined, made_refused, refuse_puts, skip_puts, same_puts, then_puts}
use Rattle.gen_lines.specs.Follow.{when_puts}
use Rattle.gen_values.specs.Maps.{Locals, numbered}
use Rattle.gen_values.specs.Values.{dest_of}
use Rattle.gen_values.specs.Push.{some_of, none_of, push_puts, set_local_puts, bare_puts}

-- ---- results
module _ (c : FnCtx) (m dest : ℕ) (work : List ℕ) (below : dest ≤ m) (k : Locals c m work) where
  found : (dest ≡ 0 → ⊥) → (o : Option ℕ) → get_or work (slot_at (dest - 1)) 0 ≡ numbered o → lookup (dest - 1) c.slots ≡ o → slot_of c (dest_of dest) ≡ ok_or 5 o
  unfolding slot_of named dest_of
  found z o e f = rw (ne_eqb dest 0 z, f)

  module _ {s t : Reached} (ks os : List ℕ) where
    pub nameless_puts : dest ≡ 0 → t ≡ made_refused s 5 → Puts (store_dest c (dest_of dest)) s t ks os ks os
    unfolding store_dest slot_of named dest_of ok_or ◌>>=◌ bind refuse
    nameless_puts z h = same_puts (λ n. rw (eq-eqb dest 0 z)) (refuse_puts 5 (omega arith) s ks os h)

    pub slotless_puts : {w : ℕ} → (dest ≡ 0 → ⊥) → w ≡ get_or work (slot_at (dest - 1)) 0 → w ≡ 0 → t ≡ made_refused s 5 → Puts (store_dest c (dest_of dest)) s t ks os ks os
    unfolding store_dest ok_or ◌>>=◌ bind refuse
    slotless_puts {w} z e y h =
        let q = k.slots (dest - 1) (omega arith) in
        let o = none_of (lookup (dest - 1) c.slots) w (e ∙ q) y in
        let f : slot_of c (dest_of dest) ≡ err 5 = found z none (q ∙ ap numbered o) o in
        same_puts (λ n. rw f) (refuse_puts 5 (omega arith) s ks os h)

  module _ {s t : Reached} {ks os ks' os' : List ℕ} where
    pub stored_puts : {w : ℕ} → (dest ≡ 0 → ⊥) → w ≡ get_or work (slot_at (dest - 1)) 0 → (w ≡ 0 → ⊥) → w < 2 ^ 64 → Lined 11 (w - 1) s t ks os ks' os'
        → Puts (store_dest c (dest_of dest)) s t ks os ks' os'
    unfolding store_dest ok_or ◌>>=◌ bind
    stored_puts {w} z e y l h =
        let q = k.slots (dest - 1) (omega arith) in
        let o = some_of (lookup (dest - 1) c.slots) w (e ∙ q) y in
        let f : slot_of c (dest_of dest) ≡ ok (w - 1) = found z (some (w - 1)) (q ∙ ap numbered o) o in
        same_puts (λ n. rw f) (set_local_puts (w - 1) (omega arith) h)

module _ (c : FnCtx) (dest : ℕ) {s t : Reached} {ks os ks' os' : List ℕ} where
  pub popped_puts : dest ≡ 0 → Lined 88 0 s t ks os ks' os' → Puts (store_or_pop c (dest_of dest)) s t ks os ks' os'
  unfolding store_or_pop dest_of kind_of operand_of
  popped_puts z h = same_puts (λ n. rw (eq-eqb dest 0 z)) (bare_puts Line.pop refl refl h)

  pub kept_puts : (dest ≡ 0 → ⊥) → Puts (store_dest c (dest_of dest)) s t ks os ks' os' → Puts (store_or_pop c (dest_of dest)) s t ks os ks' os'
  unfolding store_or_pop dest_of
  kept_puts z p = same_puts (λ n. rw (ne_eqb dest 0 z)) p

-- ---- the kind of an operation
pub narrow_operation : (n w : ℕ) → w ≤ 32 → 21 + n ≡ operation n (work_of w)
unfolding operation work_of
narrow_operation n w l = rw (le-leb w 32 l)

pub wide_operation : (n w : ℕ) → 32 < w → 44 + n ≡ operation n (work_of w)
unfolding operation work_of
wide_operation n w l = rw (lt-leb w 32 l)

module _ {s t : Reached} {ks os ks' os' : List ℕ} where
  pub bin_puts : (op : BinOp) (w : ℕ) {k : ℕ} → k ≡ operation (bin_number op) (work_of w) → Lined k 0 s t ks os ks' os' → Puts (line (Line.bin op (work_of w))) s t ks os ks' os'
  unfolding kind_of operand_of
  bin_puts op w e h = bare_puts (Line.bin op (work_of w)) e refl h

-- ---- `emit_trunc_to`
lines_line : (l : Line) (n : ℕ) → line l n ≡ lines (l ∷ []) n
unfolding line
lines_line l n = refl

module _ {s t : Reached} {ks os ks' os' : List ℕ} where
  pub trunc_8 : Lined 67 0 s t ks os ks' os' → Puts (emit_trunc_to 8) s t ks os ks' os'
  unfolding emit_trunc_to trunc_lines kind_of operand_of narrow_number line
  trunc_8 h = bare_puts (Line.trunc Narrow.n8) refl refl h

  pub trunc_16 : Lined 68 0 s t ks os ks' os' → Puts (emit_trunc_to 16) s t ks os ks' os'
  unfolding emit_trunc_to trunc_lines kind_of operand_of narrow_number line
  trunc_16 h = bare_puts (Line.trunc Narrow.n16) refl refl h

  pub trunc_32 : Lined 69 0 s t ks os ks' os' → Puts (emit_trunc_to 32) s t ks os ks' os'
  unfolding emit_trunc_to trunc_lines kind_of operand_of narrow_number line
  trunc_32 h = bare_puts (Line.trunc Narrow.n32) refl refl h

module _ {s t u : Reached} {ks os ks' os' ks'' os'' : List ℕ} where
  pub trunc_1 : Lined 8 1 s t ks os ks' os' → Lined 28 0 t u ks' os' ks'' os'' → Puts (emit_trunc_to 1) s u ks os ks'' os''
  unfolding emit_trunc_to trunc_lines kind_of operand_of operation bin_number line lines ◌>>◌ bind after
  trunc_1 h i = same_puts (λ n. refl) (then_puts (push_puts 1 (omega arith) h) (bare_puts (Line.bin BinOp.and Work.w32) refl refl i))

pub trunc_none : (w : ℕ) (s : Reached) (ks os : List ℕ) → (w ≡ 1 → ⊥) → (w ≡ 8 → ⊥) → (w ≡ 16 → ⊥) → (w ≡ 32 → ⊥) → Puts (emit_trunc_to w) s s ks os ks os
unfolding emit_trunc_to trunc_lines skip
trunc_none w s ks os a b c d = same_puts (λ n. rw (ne_eqb w 1 a, ne_eqb w 8 b, ne_eqb w 16 c, ne_eqb w 32 d)) (skip_puts s ks os)

-- ---- `emit_sext`
ones_mask : (w : ℕ) → mask_to_width (2 ^ 64 - 1) w ≡ ones w
unfolding mask_to_width ones
ones_mask w =
    let k = min w 64 in
    let a : 2 ^ k * 2 ^ (64 - k) ≡ 2 ^ 64 = sym (pow-add 2 k (64 - k)) ∙ (let e : k + (64 - k) ≡ 64 = omega arith in ap (λ (n : ℕ). 2 ^ n) e) in
    let p : 1 ≤ 2 ^ k = pow_pos k in
    let q : 1 ≤ 2 ^ (64 - k) = pow_pos (64 - k) in
    let m : k ≤ 64 = omega arith in
    let b : 2 ^ 64 - 1 ≡ 2 ^ k * (2 ^ (64 - k) - 1) + (2 ^ k - 1) = omega (arith, a, mul-sub (2 ^ k) (2 ^ (64 - k)) 1, p, q, pow_mono m) in
    ap (λ (n : ℕ). n % 2 ^ k) b ∙ mul-add-mod_self_left (2 ^ k) (2 ^ (64 - k) - 1) (2 ^ k - 1) ∙ mod-eq_of_lt (omega arith)

module _ {s t u v w : Reached} {ks os ks₁ os₁ ks₂ os₂ ks₃ os₃ ks₄ os₄ : List ℕ} where
  pub bit_puts : (to : ℕ) {k l x : ℕ} → k ≡ operation (bin_number BinOp.and) (work_of to) → x ≡ mask_to_width (2 ^ 64 - 1) to → x < 2 ^ 64 → l ≡ operation (bin_number BinOp.mul) (work_of to) → Lined 8 1 s t ks os ks₁ os₁
      → Lined k 0 t u ks₁ os₁ ks₂ os₂ → Lined 8 x u v ks₂ os₂ ks₃ os₃ → Lined l 0 v w ks₃ os₃ ks₄ os₄ → Puts (sext_bit to) s w ks os ks₄ os₄
  unfolding sext_bit
  bit_puts to {k} {l} {x} ek ex few el h i j o =
      then_puts (push_puts 1 (omega arith) h)
      (then_puts (bin_puts BinOp.and to ek i) (then_puts (same_puts (λ n. ap (λ y. line (Line.push y) n) (ex ∙ ones_mask to)) (push_puts x few j)) (bin_puts BinOp.mul to el o)))

-- the line that extends, where there is one
sx_line_lem : (l : Line) (from to : ℕ) → sx_line from (work_of to) ≡ some l → {s t u : Reached} {ks os ks' os' ks'' os'' : List ℕ} → (from ≡ 1 → ⊥)
    → Puts (line l) s t ks os ks' os' → Puts (when (ltb to (work_bits to)) (emit_trunc_to to)) t u ks' os' ks'' os'' → Puts (emit_sext from to) s u ks os ks'' os''
unfolding emit_sext sext_more ok_or ◌>>=◌ bind choose
sx_line_lem l from to e {s} {t} {u} {ks} {os} {ks'} {os'} {ks''} {os''} z p q = same_puts (λ n. rw (ne_eqb from 1 z, e)) (then_puts p q)

-- the kind of that line, 0 where there is none
unfoldable pub sx_kind : (from to : ℕ) → ℕ
sx_kind from to =
    cond (leb to 32) (cond (eqb from 8) 70 (cond (eqb from 16) 71 0))
    (cond (eqb from 8) 72 (cond (eqb from 16) 73 (cond (eqb from 32) 74 0)))

abbrev SxSays : ℕ → Option Line → Type 0
SxSays k none = k ≡ 0
SxSays k (some l) = (k ≡ kind_of l) × (0 ≡ operand_of l) × (k ≡ 0 → ⊥)

sx_kind_lem : (from to : ℕ) → SxSays (sx_kind from to) (sx_line from (work_of to))
unfolding sx_kind sx_line work_of sx32_to kind_of operand_of
sx_kind_lem from to = at (eqb from 8) (eqb from 16) (eqb from 32) (leb to 32)
  where
    at : (a b d e : Bool) → SxSays (cond e (cond a 70 (cond b 71 0)) (cond a 72 (cond b 73 (cond d 74 0))))
        (pick a (some (Line.sx8 (cond e Work.w32 Work.w64))) (pick b (some (Line.sx16 (cond e Work.w32 Work.w64))) (pick d (sx32_to (cond e Work.w32 Work.w64)) none)))
    at true b d true = (refl, refl, λ z. omega arith)
    at true b d false = (refl, refl, λ z. omega arith)
    at false true d true = (refl, refl, λ z. omega arith)
    at false true d false = (refl, refl, λ z. omega arith)
    at false false true true = refl
    at false false true false = (refl, refl, λ z. omega arith)
    at false false false true = refl
    at false false false false = refl

module _ (from to : ℕ) (not-bit : from ≡ 1 → ⊥) {k : ℕ} (e : k ≡ sx_kind from to) where
  module _ {s t : Reached} (ks os : List ℕ) where
    pub sext_none : k ≡ 0 → t ≡ made_refused s 13 → Puts (emit_sext from to) s t ks os ks os
    unfolding emit_sext sext_more ok_or ◌>>=◌ bind choose refuse
    sext_none z h = at (sx_line from (work_of to)) refl (sx_kind_lem from to)
      where
        at : (o : Option Line) → sx_line from (work_of to) ≡ o → SxSays (sx_kind from to) o → Puts (emit_sext from to) s t ks os ks os
        at none f _ = same_puts (λ n. rw (ne_eqb from 1 not-bit, f)) (refuse_puts 13 (omega arith) s ks os h)
        at (some l) f w = absurd (w.2 (sym e ∙ z))

  module _ {s t u : Reached} {ks os ks' os' ks'' os'' : List ℕ} where
    pub sext_puts : (k ≡ 0 → ⊥) → Lined k 0 s t ks os ks' os' → Puts (when (ltb to (work_bits to)) (emit_trunc_to to)) t u ks' os' ks'' os'' → Puts (emit_sext from to) s u ks os ks'' os''
    sext_puts z h p = at (sx_line from (work_of to)) refl (sx_kind_lem from to)
      where
        at : (o : Option Line) → sx_line from (work_of to) ≡ o → SxSays (sx_kind from to) o → Puts (emit_sext from to) s u ks os ks'' os''
        at none f w = absurd (z (e ∙ w))
        at (some l) f w = sx_line_lem l from to f not-bit (bare_puts l (e ∙ w.0) w.1 h) p

pub sext_bit_lem : (from to : ℕ) {s t : Reached} {ks os ks' os' : List ℕ} → from ≡ 1 → Puts (sext_bit to) s t ks os ks' os' → Puts (emit_sext from to) s t ks os ks' os'
unfolding emit_sext choose
sext_bit_lem from to z p = same_puts (λ n. rw (eq-eqb from 1 z)) p

-- ---- below a working width, or not
below : (w : ℕ) → (w ≡ 32 → ⊥) → w < 64 → ltb w (work_bits w) ≡ true
unfolding work_bits
below w z l = at (leb w 32) refl
  where
    at : (b : Bool) → leb w 32 ≡ b → ltb w (cond b 32 64) ≡ true
    at true e = lt-ltb w 32 (omega (arith, leb-true w 32 e, z))
    at false e = lt-ltb w 64 l

whole_32 : (w : ℕ) → w ≡ 32 → ltb w (work_bits w) ≡ false
unfolding work_bits
whole_32 w e = rw e

whole_64 : (w : ℕ) → 64 ≤ w → ltb w (work_bits w) ≡ false
unfolding work_bits
whole_64 w l = rw (lt-leb w 32 (omega arith)) (le-ltb w 64 l)

module _ (w : ℕ) {g : Gen} {s t : Reached} {ks os ks' os' : List ℕ} where
  pub below_puts : (w ≡ 32 → ⊥) → w < 64 → Puts g s t ks os ks' os' → Puts (when (ltb w (work_bits w)) g) s t ks os ks' os'
  below_puts z l p = when_puts (ltb w (work_bits w)) (λ _. p) (λ e. absurd (let q : ◌≡◌ {A = Bool} true false = sym (below w z l) ∙ e in let y : ◌≡◌ {A = ℕ} 0 1 = cc in omega arith))

module _ (w : ℕ) (g : Gen) (s : Reached) (ks os : List ℕ) where
  pub whole_puts : ltb w (work_bits w) ≡ false → Puts (when (ltb w (work_bits w)) g) s s ks os ks os
  whole_puts e = when_puts (ltb w (work_bits w)) (λ d. absurd (let q : ◌≡◌ {A = Bool} true false = sym d ∙ e in let y : ◌≡◌ {A = ℕ} 0 1 = cc in omega arith)) (λ _. skip_puts s ks os)

  pub whole_32_puts : w ≡ 32 → Puts (when (ltb w (work_bits w)) g) s s ks os ks os
  whole_32_puts e = whole_puts (whole_32 w e)

  pub whole_64_puts : 64 ≤ w → Puts (when (ltb w (work_bits w)) g) s s ks os ks os
  whole_64_puts l = whole_puts (whole_64 w l)

-- ---- extended where that is asked for
pub not_is : (b : Bool) {d : Bool} → not b ≡ d → b ≡ not d
not_is true e = ap not e
not_is false e = ap not e

narrow_bits : (w : ℕ) → w < 32 → work_bits w ≡ 32
unfolding work_bits
narrow_bits w l = rw (le-leb w 32 (omega arith))

wide_bits : (w : ℕ) → 32 < w → work_bits w ≡ 64
unfolding work_bits
wide_bits w l = rw (lt-leb w 32 l)

module _ (b : Bool) (w : ℕ) {s t : Reached} {ks os ks' os' : List ℕ} where
  signed_puts : b ≡ true → (g : Gen) → Puts (when (ltb w (work_bits w)) g) s t ks os ks' os' → Puts (when (b && ltb w (work_bits w)) g) s t ks os ks' os'
  signed_puts e g p = rw e p

  pub narrow_extended : b ≡ true → w < 32 → Puts (emit_sext w 32) s t ks os ks' os' → Puts (when (b && ltb w (work_bits w)) (emit_sext w (work_bits w))) s t ks os ks' os'
  narrow_extended e l p = signed_puts e _ (below_puts w (λ z. omega arith) (omega arith) (same_puts (λ n. ap (λ k. emit_sext w k n) (sym (narrow_bits w l))) p))

  pub wide_extended : b ≡ true → 32 < w → w < 64 → Puts (emit_sext w 64) s t ks os ks' os' → Puts (when (b && ltb w (work_bits w)) (emit_sext w (work_bits w))) s t ks os ks' os'
  wide_extended e l k p = signed_puts e _ (below_puts w (λ z. omega arith) k (same_puts (λ n. ap (λ k. emit_sext w k n) (sym (wide_bits w l))) p))

module _ (b : Bool) (w : ℕ) (s : Reached) (ks os : List ℕ) where
  pub unsigned_kept : b ≡ false → Puts (when (b && ltb w (work_bits w)) (emit_sext w (work_bits w))) s s ks os ks os
  unsigned_kept e = rw e (when_puts false (λ d. absurd (let y : ◌≡◌ {A = ℕ} 0 1 = cc in omega arith)) (λ _. skip_puts s ks os))

  pub kept_32 : b ≡ true → w ≡ 32 → Puts (when (b && ltb w (work_bits w)) (emit_sext w (work_bits w))) s s ks os ks os
  kept_32 e z = rw e (whole_32_puts w (emit_sext w (work_bits w)) s ks os z)

  pub kept_64 : b ≡ true → 64 ≤ w → Puts (when (b && ltb w (work_bits w)) (emit_sext w (work_bits w))) s s ks os ks os
  kept_64 e l = rw e (whole_64_puts w (emit_sext w (work_bits w)) s ks os l)
