-- The instructions of a block from a place of its part on, and the terminator behind them.
use Rattle.std.specs.Prelude.{ℕ, ◌+◌, ◌-◌, ◌<◌, ◌≤◌, ◌^◌, ◌≡◌, refl, take, get_or}
use Rattle.std.proofs.Math.Path.{sym, ap, subst}
use Rattle.std.proofs.Common.{◌∙◌, arith, length-drop, drop-drop}
use mathlib.Core.List.{List, [], ◌∷◌, ◌++◌, append_assoc}
use Rattle.std.proofs.Math.ListN.{length, drop}
use Rattle.std.proofs.Math.Seq.{drop-append_seam}
use Rattle.book.specs.Ast.{InstKind, Inst, Terminator}
use Rattle.book.specs.Entry.{Entry, entries}
use Rattle.book.specs.Kinds.{inst_kind, term_kind}
use Rattle.book.specs.Fields.{inst_fields, inst_tag_of, inst_args, term_tag_of}
use Rattle.book.specs.Encode.{ending, enc_inst, enc_term, enc_fields}
use Rattle.book.specs.Limits.{Each, InstLimits, TermLimits}
use Rattle.book_types.specs.Laws.{lent_from, entries_part, length_entries}
use Rattle.lowering.specs.Gen.{each}
use Rattle.lowering.specs.Context.{FnCtx}
use Rattle.lowering.specs.Inst.{gen_inst}
use Rattle.gen_lines.specs.declared.Reached.{Reached}
use Rattle.gen_values.specs.Fields.{InstAt, entry_at}
use Rattle.gen_values.specs.Maps.{Maps, Did}
use Rattle.gen_inst.specs.Body.{kind_from, bin_range, conv_range, icmp_range}
use Rattle.gen_inst.specs.Whole.{InstThere, placed_further}
use Rattle.gen_walk.specs.Walk.{FirstHigh, next_is, low_fields}
use Rattle.gen_term.specs.Toward.{Toward, toward_none, toward_first, toward_then, toward_skip}
use Rattle.gen_block.specs.declared.Passed.{Passed}

-- these instructions and this terminator stand at the place, with the rest behind them
pub record BodyAt (m : ℕ) (bs : List Entry) (at : ℕ) (insts : List Inst) (term : Terminator) (rest : List Entry) : Type 0 where
  pub here : drop at bs ≡ ending enc_inst (enc_term term) insts ++ rest
  pub insts_keep : Each (InstLimits m) insts
  pub term_keeps : TermLimits m term
  pub few : length bs ≤ 2 ^ 20

-- the part begins at the block's entry, which stands at the place `at` of the book, and the instructions behind it
pub record InstsAsk (m : ℕ) (ks ws bk bw : List ℕ) (at base : ℕ) (work : List ℕ) : Type 0 where
  pub ctx : FnCtx
  pub maps : Maps m (entries bk bw) ctx work
  pub slot : ctx.bp_slot ≡ base
  pub insts : List Inst
  pub term : Terminator
  pub rest : List Entry
  pub front : BodyAt m (entries ks ws) 1 insts term rest
  pub placed : entries ks ws ≡ drop at (entries bk bw)

-- the instructions are done, and the terminator is at the place reached
pub record InstsDone (m : ℕ) (es bs : List Entry) (c : FnCtx) (insts : List Inst) (term : Terminator) (rest : List Entry) (work' : List ℕ) (s : Reached) (r : Passed)
    (ks os ks' os' : List ℕ) : Type 0 where
  pub did : Did (each (gen_inst c) insts) m bs c work' s r.s ks os ks' os'
  pub ends : BodyAt m es r.at [] term rest

-- ---- the entry in front
kind_below : (k : InstKind) → inst_kind (inst_tag_of k) < 90
kind_below (InstKind.bin op ty l r) = omega (arith, (bin_range op).1)
kind_below (InstKind.conv op a v b) = omega (arith, (conv_range op).1)
kind_below (InstKind.icmp p ty l r) = omega (arith, (icmp_range p).1)
kind_below (InstKind.select t ty l r) = omega arith
kind_below (InstKind.load t p a) = omega arith
kind_below (InstKind.store t v p a) = omega arith
kind_below (InstKind.alloca t n a) = omega arith
kind_below (InstKind.get_element_ptr t p is) = omega arith
kind_below (InstKind.phi t vs) = omega arith
kind_below (InstKind.call t f vs) = omega arith
kind_below (InstKind.freeze t v) = omega arith
kind_below (InstKind.atomic_load t p) = omega arith
kind_below (InstKind.atomic_store t v p) = omega arith
kind_below (InstKind.cmpxchg t p x v) = omega arith
kind_below (InstKind.extract_value v i) = omega arith
kind_below InstKind.fence = omega arith

term_from : (t : Terminator) → 90 ≤ term_kind (term_tag_of t)
term_from (Terminator.ret v) = omega arith
term_from (Terminator.br c t f) = omega arith
term_from (Terminator.switch t v d ks) = omega arith
term_from Terminator.unreachable = omega arith

-- an instruction or the terminator
pub record Front (insts : List Inst) (term : Terminator) (rest : List Entry) : Type 0 where
  pub first : Entry
  pub tail : List Entry
  pub same : ending enc_inst (enc_term term) insts ++ rest ≡ first ∷ tail
  pub high : 40 ≤ first.kind

front_of_lem : (insts : List Inst) (term : Terminator) (rest : List Entry) → Front insts term rest
unfolding ending enc_inst enc_term
front_of_lem [] term rest = record { first = _; tail = _; same = refl; high = omega (arith, term_from term) }
front_of_lem (i ∷ is) term rest = record { first = _; tail = _; same = refl; high = kind_from i.kind }

module _ {m : ℕ} (ks ws : List ℕ) (at : ℕ) where
  pub body_in : {insts : List Inst} {term : Terminator} {rest : List Entry} → BodyAt m (entries ks ws) at insts term rest → (at < length ks) × (at < length ws)
  body_in {insts} {term} {rest} b = let f = front_of_lem insts term rest in let q = entry_at ks ws at _ _ (b.here ∙ f.same) in (q.2, q.3)

  pub term_there : {term : Terminator} {rest : List Entry} → BodyAt m (entries ks ws) at [] term rest → 90 ≤ get_or ks at 0
  unfolding ending enc_term
  term_there {term} b = let q = entry_at ks ws at _ _ b.here in subst (λ (n : ℕ). 90 ≤ n) (sym q.0) (term_from term)

  module _ {i : Inst} {more : List Inst} {term : Terminator} {rest : List Entry} (b : BodyAt m (entries ks ws) at (i ∷ more) term rest) where
    whole : drop at (entries ks ws) ≡ enc_inst i ++ (ending enc_inst (enc_term term) more ++ rest)
    unfolding ending
    whole = b.here ∙ append_assoc (enc_inst i) (ending enc_inst (enc_term term) more) (rest)

    pub inst_here : InstAt m i (lent_from ks ws at)
    inst_here =
        subst (InstAt m i) (sym (entries_part at ks ws))
        (record { rest = ending enc_inst (enc_term term) more ++ rest; here = whole; keeps = b.insts_keep.0; few = omega (arith, b.few, length-drop at (entries ks ws)) })

    pub inst_low : get_or ks at 0 < 90
    unfolding ending enc_inst
    inst_low = let q = entry_at ks ws at _ _ b.here in subst (λ (n : ℕ). n < 90) (sym q.0) (kind_below i.kind)

    fields : List Entry
    fields = enc_fields (inst_fields (inst_tag_of i.kind)) (inst_args i.kind)

    behind : drop (at + 1) (entries ks ws) ≡ fields ++ (ending enc_inst (enc_term term) more ++ rest)
    unfolding enc_inst fields
    behind = (entry_at ks ws at _ _ whole).4

    -- the next one
    pub inst_next : {r : ℕ} → FirstHigh ks (at + 1) r → BodyAt m (entries ks ws) r more term rest
    unfolding fields
    inst_next {r} h =
        let f = front_of_lem more term (rest) in
        let e : r ≡ at + 1 + length fields = next_is ks ws (at + 1) fields f.first f.tail (behind ∙ ap (λ (es : List Entry). fields ++ es) f.same) (low_fields (inst_fields (inst_tag_of i.kind)) (inst_args i.kind)) h f.high in
        record {
          here = ap (λ (n : ℕ). drop n (entries ks ws)) e ∙ sym (drop-drop (length fields) (at + 1) (entries ks ws)) ∙ ap (drop (length fields)) behind ∙ drop-append_seam fields _;
          insts_keep = b.insts_keep.1;
          term_keeps = b.term_keeps;
          few = b.few;
        }

-- ---- the loop over them
-- some are done, and the others stand at the place
pub record Walked (m : ℕ) (es bs : List Entry) (c : FnCtx) (insts : List Inst) (term : Terminator) (rest : List Entry) (work : List ℕ) (i : ℕ) (s t : Reached)
    (ks os ks' os' : List ℕ) : Type 0 where
  pub todo : List Inst
  pub front : BodyAt m es i todo term rest
  pub toward : Toward (each (gen_inst c) insts) (each (gen_inst c) todo) s t ks os ks' os'
  pub maps : Maps m bs c work

module _ (m : ℕ) (ks ws bk bw : List ℕ) (base : ℕ) (work₀ ls os : List ℕ) (s : Reached) where
  pub record InstsWalk (work ls' os' : List ℕ) (i : ℕ) (t : Reached) : Type 0 where
    pub long_work : length work ≡ length work₀
    pub long_lines : length ls' ≡ length ls
    pub long_operands : length os' ≡ length os
    pub walked : (c : FnCtx) (insts : List Inst) (term : Terminator) (rest : List Entry) → BodyAt m (entries ks ws) 1 insts term rest → c.bp_slot ≡ base → Maps m (entries bk bw) c work₀
        → Walked m (entries ks ws) (entries bk bw) c insts term rest work i s t ls os ls' os'

  pub walk_start : InstsWalk work₀ ls os 1 s
  walk_start =
      record {
        long_work = refl;
        long_lines = refl;
        long_operands = refl;
        walked = λ c insts term rest b e k. record { todo = insts; front = b; toward = toward_none (each (gen_inst c) insts) s ls os; maps = k };
      }

-- the first of those that are left, by the kind at the place
pub record First (m : ℕ) (bs : List Entry) (at : ℕ) (todo : List Inst) (term : Terminator) (rest : List Entry) : Type 0 where
  pub inst : Inst
  pub more : List Inst
  pub same : todo ≡ inst ∷ more
  pub front : BodyAt m bs at (inst ∷ more) term rest

pub first_left : {m : ℕ} (ks ws : List ℕ) (at : ℕ) (todo : List Inst) {term : Terminator} {rest : List Entry} → BodyAt m (entries ks ws) at todo term rest → get_or ks at 0 < 90
    → First m (entries ks ws) at todo term rest
first_left ks ws at [] b l = absurd (omega (arith, term_there ks ws at b))
first_left ks ws at (i ∷ more) b l = record { inst = i; more = more; same = refl; front = b }

pub none_left : {m : ℕ} (ks ws : List ℕ) (at : ℕ) (todo : List Inst) {term : Terminator} {rest : List Entry} → BodyAt m (entries ks ws) at todo term rest → 90 ≤ get_or ks at 0 → todo ≡ []
none_left ks ws at [] b l = refl
none_left ks ws at (i ∷ more) b l = absurd (omega (arith, inst_low ks ws at b))

module _ {m : ℕ} (ks ws bk bw : List ℕ) {base : ℕ} {work₀ ls os : List ℕ} {s : Reached} {work ls' os' : List ℕ} {i : ℕ} {t : Reached}
    (w : InstsWalk m ks ws bk bw base work₀ ls os s work ls' os' i t) where
  -- what the asked context says
  asked : {at : ℕ} (a : InstsAsk m ks ws bk bw at base work₀) → Walked m (entries ks ws) (entries bk bw) a.ctx a.insts a.term a.rest work i s t ls os ls' os'
  asked a = w.walked a.ctx a.insts a.term a.rest a.front a.slot a.maps

  pub walk_in : {at : ℕ} → InstsAsk m ks ws bk bw at base work₀ → (i < length ks) × (i < length ws) × (at + i < length bk)
  walk_in {at} a =
      let q = body_in ks ws i (asked a).front in
      (q.0, q.1, omega (arith, q.0, q.1, length_entries ks ws, ap length a.placed, length-drop at (entries bk bw), length_entries bk bw))

  pub walk_inst : {at : ℕ} → InstsAsk m ks ws bk bw at base work₀ → get_or ks i 0 < 90 → InstThere m (take (length ks - i) (drop i ks)) (take (length ws - i) (drop i ws)) bk bw (at + i) work
  walk_inst {at} a l =
      let v = asked a in
      let f = first_left ks ws i v.todo v.front l in
      record {
        inst = f.inst;
        here = inst_here ks ws i f.front;
        placed = placed_further ks ws (entries bk bw) at i a.placed;
        ready = v.maps.measured;
        room = v.maps.room;
      }

  -- one more
  pub walk_more : get_or ks i 0 < 90 → {work'' ls'' os'' : List ℕ} {u : Reached} {r : ℕ} → length work'' ≡ length work → length ls'' ≡ length ls' → length os'' ≡ length os'
      → ((c : FnCtx) (j : Inst) → InstAt m j (lent_from ks ws i) → c.bp_slot ≡ base → Maps m (entries bk bw) c work → Did (gen_inst c j) m (entries bk bw) c work'' t u ls' os' ls'' os'')
      → FirstHigh ks (i + 1) r → InstsWalk m ks ws bk bw base work₀ ls os s work'' ls'' os'' r u
  unfolding each
  walk_more l {work''} {ls''} {os''} {u} {r} lw lk lo one h =
      record {
        long_work = lw ∙ w.long_work;
        long_lines = lk ∙ w.long_lines;
        long_operands = lo ∙ w.long_operands;
        walked = λ c insts term rest b e k.
            let v = w.walked c insts term rest b e k in
            let f = first_left ks ws i v.todo v.front l in
            let d = one c f.inst (inst_here ks ws i f.front) e v.maps in
            record {
              todo = f.more;
              front = inst_next ks ws i f.front h;
              toward = toward_then (subst (λ (xs : List Inst). Toward (each (gen_inst c) insts) (each (gen_inst c) xs) s t ls os ls' os') f.same v.toward)
                  (toward_first (each (gen_inst c) f.more) d.puts);
              maps = d.maps;
            };
      }

  pub walk_done : 90 ≤ get_or ks i 0 → (c : FnCtx) (insts : List Inst) (term : Terminator) (rest : List Entry) → BodyAt m (entries ks ws) 1 insts term rest → c.bp_slot ≡ base
      → Maps m (entries bk bw) c work₀ → InstsDone m (entries ks ws) (entries bk bw) c insts term rest work s (record { at = i; s = t }) ls os ls' os'
  unfolding each
  walk_done l c insts term rest b e k =
      let v = w.walked c insts term rest b e k in
      let z = none_left ks ws i v.todo v.front l in
      record {
        did = record {
          puts = toward_skip (subst (λ (xs : List Inst). Toward (each (gen_inst c) insts) (each (gen_inst c) xs) s t ls os ls' os') z v.toward);
          maps = v.maps;
        };
        ends = subst (λ (xs : List Inst). BodyAt m (entries ks ws) i xs term rest) z v.front;
      }
