-- The function's blocks, one after the other.
use Rattle.std.specs.Prelude.{ℕ, ◌+◌, ◌-◌, ◌<◌, ◌≤◌, ◌^◌, ◌≡◌, take}
use Rattle.std.proofs.Math.Path.{refl, sym, ap}
use Rattle.std.proofs.Common.{subst, ◌∙◌, drop-drop}
use mathlib.Core.List.{List, [], ◌∷◌, ◌++◌, append_assoc}
use native.Mathlib.Omega.{arith}
use Rattle.std.proofs.Math.ListN.{length, drop, length-drop, length-append}
use Rattle.std.proofs.Math.Seq.{drop-append_seam}
use Rattle.book.specs.Ast.{Inst, BasicBlock, Terminator}
use Rattle.book.specs.Entry.{Entry, entry, entries}
use Rattle.book.specs.Fields.{term_fields, term_tag_of, term_args}
use Rattle.book.specs.Encode.{ending, closed, enc_inst, enc_term, enc_fields, enc_basic_block}
use Rattle.book.specs.Limits.{Each, BlockLimits}
use Rattle.book_types.specs.Laws.{lent_from, entries_part, length_entries}
use Rattle.lowering.specs.Gen.{each}
use Rattle.lowering.specs.Context.{FnCtx}
use Rattle.lowering.specs.Function.{gen_block}
use Rattle.gen_lines.specs.Puts.{refused_puts}
use Rattle.gen_lines.specs.declared.Reached.{Reached}
use Rattle.gen_values.specs.Fields.{entry_at}
use Rattle.gen_values.specs.Maps.{Maps, Did}
use Rattle.gen_walk.specs.Walk.{Low, low_append, low_fields, FirstBlock, block_is, no_block}
use Rattle.gen_term.specs.Toward.{Toward, toward_none, toward_first, toward_then, toward_skip}
use Rattle.gen_term.specs.declared.Base.{Base}
use Rattle.gen_block.specs.declared.Passed.{Passed}
use Rattle.gen_block.specs.Body.{BodyAt}
use Rattle.gen_block.specs.Block.{BlockHere, BlockAsk, BlockDone}

-- the list of blocks stands at the place, and ends at `end`
pub record Listed (m : ℕ) (ks ws : List ℕ) (from end : ℕ) (blocks : List BasicBlock) : Type 0 where
  pub rest : List Entry
  pub here : drop from (entries ks ws) ≡ closed enc_basic_block blocks ++ rest
  pub ends : end + length rest ≡ length (entries ks ws)
  pub keeps : Each (BlockLimits m) blocks
  pub few : length (entries ks ws) ≤ 2 ^ 20
  pub there : from ≤ length (entries ks ws)

-- the first of these blocks stands at the place, or none is left and the place is the end
abbrev Front : (ks ws : List ℕ) → (end : ℕ) → (rest : List Entry) → ℕ → List BasicBlock → Type 0
Front ks ws end rest at [] = at ≡ end
Front ks ws end rest at (b ∷ bs) = drop at (entries ks ws) ≡ closed enc_basic_block (b ∷ bs) ++ rest

pub record Left (m : ℕ) (ks ws : List ℕ) (end at : ℕ) (todo : List BasicBlock) : Type 0 where
  pub rest : List Entry
  pub front : Front ks ws end rest at todo
  pub ends : end + length rest ≡ length (entries ks ws)
  pub keeps : Each (BlockLimits m) todo
  pub few : length (entries ks ws) ≤ 2 ^ 20

list_long : (todo : List BasicBlock) → 1 ≤ length (closed enc_basic_block todo)
unfolding ending
list_long [] = omega arith
list_long (b ∷ bs) = omega (arith, list_long bs, length-append (enc_basic_block b) (closed enc_basic_block bs))

-- ---- the first block behind fields
module _ {m : ℕ} (ks ws : List ℕ) (few : length (entries ks ws) ≤ 2 ^ 20) (a : ℕ) (there : a ≤ length (entries ks ws)) (x : List Entry) (low : Low x) {end : ℕ} (rest : List Entry)
    (ends : end + length rest ≡ length (entries ks ws)) {r : ℕ} (f : FirstBlock ks end a r) where
  pub next_left : (todo : List BasicBlock) → drop a (entries ks ws) ≡ x ++ (closed enc_basic_block todo ++ rest) → Each (BlockLimits m) todo → Left m ks ws end r todo
  unfolding ending enc_basic_block
  next_left [] here keeps =
      let close = entry 0 0 ∷ [] in
      let h = here ∙ sym (append_assoc x close rest) in
      let e : end ≡ a + length (x ++ close) = omega (arith, ap length h, length-append (x ++ close) rest, length-drop a (entries ks ws)) in
      record {
        rest = rest;
        front = no_block ks ws a (x ++ close) rest h (low_append x close low ((omega arith, λ z. omega arith), tt)) e f;
        ends = ends;
        keeps = keeps;
        few = few;
      }
  next_left (b ∷ bs) here keeps =
      let all = closed enc_basic_block (b ∷ bs) in
      let body = ending enc_inst (enc_term b.term) b.insts in
      let l : a + length x < end = omega (
        arith,
        ap length here,
        length-append x (all ++ rest),
        length-append all rest,
        list_long bs,
        length-append body (closed enc_basic_block bs),
        length-drop a (entries ks ws),
      ) in
      let e : r ≡ a + length x = block_is ks ws a x (entry 7 b.label) _ here low f l refl in
      record {
        rest = rest;
        front = ap (λ (n : ℕ). drop n (entries ks ws)) e ∙ sym (drop-drop (length x) a (entries ks ws)) ∙ ap (drop (length x)) here ∙ drop-append_seam x _;
        ends = ends;
        keeps = keeps;
        few = few;
      }

-- ---- the first of those that are left
pub record First (m : ℕ) (ks ws : List ℕ) (end at : ℕ) (todo : List BasicBlock) : Type 0 where
  pub block : BasicBlock
  pub more : List BasicBlock
  pub rest : List Entry
  pub same : todo ≡ block ∷ more
  pub here : BlockHere m block (closed enc_basic_block more ++ rest) (lent_from ks ws at)
  pub few : length (entries ks ws) ≤ 2 ^ 20
  pub ends : end + length rest ≡ length (entries ks ws)
  pub keeps : Each (BlockLimits m) more

module _ {m : ℕ} (ks ws : List ℕ) {end : ℕ} (at : ℕ) where
  pub first_left : (todo : List BasicBlock) → Left m ks ws end at todo → at < end → First m ks ws end at todo
  unfolding ending
  first_left [] l h = absurd (omega (arith, l.front))
  first_left (b ∷ bs) l h =
      record {
        block = b;
        more = bs;
        rest = l.rest;
        same = refl;
        here = record {
          here = entries_part at ks ws ∙ l.front ∙ append_assoc (enc_basic_block b) (closed enc_basic_block bs) l.rest;
          keeps = l.keeps.0;
          few = omega (arith, l.few, ap length (entries_part at ks ws), length-drop at (entries ks ws));
        };
        few = l.few;
        ends = l.ends;
        keeps = l.keeps.1;
      }

  pub none_left : (todo : List BasicBlock) → Left m ks ws end at todo → end ≤ at → todo ≡ []
  unfolding ending enc_basic_block
  none_left [] l h = refl
  none_left (b ∷ bs) l h =
      let all = closed enc_basic_block (b ∷ bs) in
      let q = entry_at ks ws at _ _ l.front in
      absurd (omega (arith, ap length l.front, length-append all l.rest, list_long (b ∷ bs), length-drop at (entries ks ws), l.ends))

-- ---- behind a block's terminator
-- a place of the block's part in the book
pub in_book : {m : ℕ} (ks ws : List ℕ) (at : ℕ) {i : ℕ} {insts : List Inst} {t : Terminator} {rest : List Entry} → length (entries ks ws) ≤ 2 ^ 20
    → BodyAt m (lent_from ks ws at) i insts t rest → BodyAt m (entries ks ws) (at + i) insts t rest
in_book ks ws at {i} few b =
    record {
      here = sym (drop-drop i at (entries ks ws)) ∙ ap (drop i) (sym (entries_part at ks ws)) ∙ b.here;
      insts_keep = b.insts_keep;
      term_keeps = b.term_keeps;
      few = few;
    }

pub behind_term_lem : {m : ℕ} (ks ws : List ℕ) (more : List BasicBlock) → Each (BlockLimits m) more → {last end r : ℕ} {t : Terminator} (rest : List Entry)
    → last + length rest ≡ length (entries ks ws) → BodyAt m (entries ks ws) end [] t (closed enc_basic_block more ++ rest) → FirstBlock ks last (end + 1) r → Left m ks ws last r more
unfolding ending enc_term
behind_term_lem ks ws more keeps {last} {end} {r} {t} rest ends b f =
    let q = entry_at ks ws end _ _ b.here in
    let there : end + 1 ≤ length (entries ks ws) = omega (arith, ap length b.here, length-drop end (entries ks ws)) in
    next_left ks ws b.few (end + 1) there (enc_fields (term_fields (term_tag_of t)) (term_args t)) (low_fields (term_fields (term_tag_of t)) (term_args t)) rest ends f more q.4 keeps

-- it stands before the end of the list
pub body_before : {m : ℕ} (ks ws : List ℕ) (at : ℕ) (more : List BasicBlock) (rest : List Entry) {end : ℕ} {t : Terminator} → end + length rest ≡ length (entries ks ws)
    → BodyAt m (entries ks ws) at [] t (closed enc_basic_block more ++ rest) → at < end
unfolding ending enc_term
body_before ks ws at more rest {end} {t} ends b =
    omega (
      arith,
      ap length b.here,
      length-append (enc_term t) (closed enc_basic_block more ++ rest),
      length-append (closed enc_basic_block more) rest,
      list_long more,
      length-drop at (entries ks ws),
      ends,
    )

-- ---- the loop over them
pub record Walked (m : ℕ) (bk bw : List ℕ) (c : FnCtx) (blocks : List BasicBlock) (work : List ℕ) (end at : ℕ) (s t : Reached) (ks os ks' os' : List ℕ) : Type 0 where
  pub todo : List BasicBlock
  pub left : Left m bk bw end at todo
  pub toward : Toward (each (gen_block c) blocks) (each (gen_block c) todo) s t ks os ks' os'
  pub maps : Maps m (entries bk bw) c work

abbrev pub Based : FnCtx → Base → Type 0
Based c base = (c.bp_slot ≡ base.slot) × (c.has_frame ≡ base.framed)

pub record BlocksAsk (m : ℕ) (bk bw : List ℕ) (from end : ℕ) (base : Base) (work : List ℕ) : Type 0 where
  pub ctx : FnCtx
  pub maps : Maps m (entries bk bw) ctx work
  pub based : Based ctx base
  pub blocks : List BasicBlock
  pub listed : Listed m bk bw from end blocks
  pub order : from ≤ end
  pub in_kinds : end ≤ length bk

pub in_words : {m : ℕ} (bk bw : List ℕ) {from end : ℕ} {base : Base} {work : List ℕ} → BlocksAsk m bk bw from end base work → end ≤ length bw
in_words bk bw a = omega (arith, a.listed.ends, length_entries bk bw)

pub record BlocksWalk (m : ℕ) (bk bw : List ℕ) (from end : ℕ) (base : Base) (work₀ ks os : List ℕ) (s : Reached) (work ks' os' : List ℕ) (at : ℕ) (t : Reached) : Type 0 where
  pub long_work : length work ≡ length work₀
  pub long_lines : length ks' ≡ length ks
  pub long_operands : length os' ≡ length os
  pub walked : (c : FnCtx) (blocks : List BasicBlock) → Listed m bk bw from end blocks → Based c base → Maps m (entries bk bw) c work₀
      → Walked m bk bw c blocks work end at s t ks os ks' os'

pub walk_start : (m : ℕ) (bk bw : List ℕ) (from end : ℕ) (base : Base) (work ks os : List ℕ) (s : Reached) {at : ℕ} → FirstBlock bk end from at
    → BlocksWalk m bk bw from end base work ks os s work ks os at s
walk_start m bk bw from end base work ks os s f =
    record {
      long_work = refl;
      long_lines = refl;
      long_operands = refl;
      walked = λ c blocks l e k. record {
        todo = blocks;
        left = next_left bk bw l.few from l.there [] tt l.rest l.ends f blocks l.here l.keeps;
        toward = toward_none (each (gen_block c) blocks) s ks os;
        maps = k;
      };
    }

module _ {m : ℕ} (bk bw : List ℕ) {from end : ℕ} {base : Base} {work₀ ks os : List ℕ} {s : Reached} {work ks' os' : List ℕ} {at : ℕ} {t : Reached}
    (w : BlocksWalk m bk bw from end base work₀ ks os s work ks' os' at t) where
  -- what the asked context says
  asked : (a : BlocksAsk m bk bw from end base work₀) → Walked m bk bw a.ctx a.blocks work end at s t ks os ks' os'
  asked a = w.walked a.ctx a.blocks a.listed a.based a.maps

  pub walk_block : BlocksAsk m bk bw from end base work₀ → at < end
      → BlockAsk m (take (length bk - at) (drop at bk)) (take (length bw - at) (drop at bw)) bk bw at base.slot work
  walk_block a l =
      let v = asked a in
      let f = first_left bk bw at v.todo v.left l in
      record { ctx = a.ctx; maps = v.maps; base = a.based.0; block = f.block; rest = closed enc_basic_block f.more ++ f.rest; front = f.here; placed = entries_part at bk bw }

  -- what `gen_block` did
  abbrev pub Did-block : (work'' : List ℕ) → Passed → (ks'' os'' : List ℕ) → Type 0
  Did-block work'' p ks'' os'' = (c : FnCtx) (b : BasicBlock) (rest : List Entry) → BlockHere m b rest (lent_from bk bw at) → Based c base → Maps m (entries bk bw) c work
      → BlockDone m (lent_from bk bw at) (entries bk bw) c b rest work'' t p ks' os' ks'' os''

  module _ (l : at < end) {work'' ks'' os'' : List ℕ} {p : Passed} (one : Did-block work'' p ks'' os'') where
    -- the terminator is there
    pub walk_end : BlocksAsk m bk bw from end base work₀ → at + p.at < end
    walk_end a =
        let v = asked a in
        let f = first_left bk bw at v.todo v.left l in
        let d = one a.ctx f.block _ f.here a.based v.maps in
        body_before bk bw (at + p.at) f.more f.rest f.ends (in_book bk bw at f.few d.ends)

    -- one more
    pub walk_more : length work'' ≡ length work → length ks'' ≡ length ks' → length os'' ≡ length os' → {r : ℕ} → FirstBlock bk end (at + p.at + 1) r
        → BlocksWalk m bk bw from end base work₀ ks os s work'' ks'' os'' r p.s
    unfolding each
    walk_more lw lk lo {r} h =
        record {
          long_work = lw ∙ w.long_work;
          long_lines = lk ∙ w.long_lines;
          long_operands = lo ∙ w.long_operands;
          walked = λ c blocks i e k.
              let v = w.walked c blocks i e k in
              let f = first_left bk bw at v.todo v.left l in
              let d = one c f.block _ f.here e v.maps in
              record {
                todo = f.more;
                left = behind_term_lem bk bw f.more f.keeps f.rest f.ends (in_book bk bw at f.few d.ends) h;
                toward = toward_then (subst (λ (xs : List BasicBlock). Toward (each (gen_block c) blocks) (each (gen_block c) xs) s t ks os ks' os') f.same v.toward)
                    (toward_first (each (gen_block c) f.more) d.did.puts);
                maps = d.did.maps;
              };
        }

  -- behind a refusal the others need not be walked
  pub walk_refused : (t.refused ≡ 0 → ⊥) → (c : FnCtx) (blocks : List BasicBlock) → Listed m bk bw from end blocks → Based c base → Maps m (entries bk bw) c work₀
      → Did (each (gen_block c) blocks) m (entries bk bw) c work s t ks os ks' os'
  walk_refused z c blocks i e k =
      let v = w.walked c blocks i e k in
      record { puts = v.toward.goes t ks' os' (refused_puts ks' os' z); maps = v.maps }

  pub walk_done : end ≤ at → (c : FnCtx) (blocks : List BasicBlock) → Listed m bk bw from end blocks → Based c base → Maps m (entries bk bw) c work₀
      → Did (each (gen_block c) blocks) m (entries bk bw) c work s t ks os ks' os'
  unfolding each
  walk_done l c blocks i e k =
      let v = w.walked c blocks i e k in
      let z = none_left bk bw at v.todo v.left l in
      record { puts = toward_skip (subst (λ (xs : List BasicBlock). Toward (each (gen_block c) blocks) (each (gen_block c) xs) s t ks os ks' os') z v.toward); maps = v.maps }
