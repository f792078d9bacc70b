-- The pass that sets the slots, and an edge as a whole.
use Rattle.std.specs.Prelude.{◌≡◌, ℕ, suc, ◌+◌, ◌-◌, ◌%◌, ◌^◌, ◌<◌, ◌≤◌, List, [], ◌∷◌, ◌++◌, map, reverse, length, take, drop, ◌≢◌, slice_index, slice_index_or, slice_set}
use Rattle.std.proofs.Math.Path.{refl}
use Rattle.std.proofs.Common.{sym, ap, subst, ◌∙◌, append-nil, append_assoc, arith, mod-eq_of_lt, length-append, drop-drop}
use Rattle.std.proofs.Math.Option.{some}
use Rattle.std.proofs.lemmas.List.{map-append, length-map}
use Rattle.book.specs.Ast.{Incoming, BasicBlock}
use Rattle.book.specs.Entry.{Entry, entries}
use Rattle.book.specs.Work.{name_words, block_at}
use Rattle.book.specs.Encode.{ending}
use Rattle.book.specs.Map.{lookup}
use Rattle.book.specs.Result.{bind, ok_or}
use Rattle.book_types.specs.Laws.{lent_from, entries_part, within_kinds, within_words}
use Rattle.assembly.specs.Line.{Line}
use Rattle.assembly.specs.Number.{kind_of, operand_of}
use Rattle.lowering.specs.Gen.{refuse, ◌>>=◌, each}
use Rattle.layout_memo.specs.Front.{ty_len}
use Rattle.lowering.specs.Context.{FnCtx}
use Rattle.lowering.specs.Edge.{Copy, set_copy, emit_edge_copies, edge}
use Rattle.gen_lines.specs.declared.Reached.{Reached}
use Rattle.gen_lines.specs.Puts.{Puts, Lined, further, made_refused, refuse_puts, same_puts, then_puts, line_puts}
use Rattle.gen_values.specs.Maps.{Maps, BlockAt}
use Rattle.gen_values.specs.Push.{word_same}
use Rattle.gen_values.specs.Values.{DestReaches}
use Rattle.gen_edge.specs.Phis.{Phi, leading, enc_phi, Leading, Pairs, PhiAt, pairs_in, pairs_end, pairs_next, leading_next, leading_kind, leading_in, block_leads}
use Rattle.gen_edge.specs.Copies.{slot_word, slot_number, copies_leading, dest_reaches, pushed_end}
use Rattle.gen_edge.specs.Walks.{Passed}
use Rattle.gen_edge.specs.Backwards.{Set, set_none, set_more, set_puts}

-- ---- the phi at the front
pub record PhiLent (m : ℕ) (es : List Entry) : Type 0 where
  pub phi : Phi
  pub more : List Phi
  pub front : Leading m (phi ∷ more) es

-- its type, and its pairs behind the type
pub front_phi : {m : ℕ} (ks ws : List ℕ) (p : Phi) (ps : List Phi) → Leading m (p ∷ ps) (entries ks ws) → PhiAt m ks ws 0 (p ∷ ps)
front_phi ks ws p ps f = leading_next ks ws 0 (p ∷ ps) f (leading_kind ks ws 0 p ps f)

-- what is left of them
pub record Left (m : ℕ) (ks ws : List ℕ) (more : List Phi) (pair : ℕ) : Type 0 where
  pub todo : List Incoming
  pub front : Pairs m todo more (drop pair (entries ks ws))

pub left_start : {m n : ℕ} (ks ws : List ℕ) (p : Phi) (ps : List Phi) → Leading m (p ∷ ps) (entries ks ws) → n ≡ ty_len m (lent_from ks ws 1) → Left m ks ws ps (1 + n)
left_start {m} {n} ks ws p ps f e =
    let q = front_phi ks ws p ps f in
    let same : q.more ≡ ps = cc q.same in
    record { todo = q.phi.incoming; front = subst (λ (qs : List Phi). Pairs m q.phi.incoming qs (drop (1 + n) (entries ks ws))) same (q.pairs (e ∙ ap (ty_len m) (entries_part 1 ks ws))) }

module _ (m : ℕ) (ks ws : List ℕ) (more : List Phi) {pair : ℕ} (l : Left m ks ws more pair) where
  pub left_in : (pair < length ks) × (pair < length ws)
  left_in = pairs_in ks ws pair l.todo l.front

  pub left_next : (slice_index ks pair ≢ 0) → (pair + 1 < length ws) × Left m ks ws more (pair + 2)
  left_next z = let q = pairs_next ks ws pair l.todo l.front z in (q.in_words, record { todo = q.todo; front = q.next })

  pub left_end : slice_index_or ks pair 0 ≡ 0 → Leading m more (drop (pair + 1) (entries ks ws))
  left_end z = (pairs_end ks ws pair l.todo l.front z).1

-- ---- slots
-- phis so many, and the words of their slots
pub record SetAsk (m : ℕ) (ks ws work : List ℕ) (count : ℕ) : Type 0 where
  pub phis : List Phi
  pub front : Leading m phis (entries ks ws)
  pub counted : count ≡ length phis
  pub room : name_words m + 64 ≤ length work

abbrev pub slots_of : List ℕ → List Phi → List ℕ
slots_of work ps = map (λ (p : Phi). slot_number work p.dest) ps

pub record SetWalk (m : ℕ) (ks ws work : List ℕ) (ps : List Phi) (first place left : ℕ) (ls os ls' os' : List ℕ) : Type 0 where
  pub done : List Phi
  pub todo : List Phi
  pub same : done ++ todo ≡ ps
  pub front : Leading m todo (drop place (entries ks ws))
  pub counted : left ≡ length todo
  pub stored : Set (slots_of work done) first left ls os ls' os'

enc_long : (stop : Entry) (rest : List Entry) (ps : List Phi) → length ps ≤ length (ending enc_phi (stop ∷ rest) ps)
unfolding ending enc_phi
enc_long stop rest [] = omega arith
enc_long stop rest (p ∷ ps) = omega (arith, enc_long stop rest ps, length-append (enc_phi p) (ending enc_phi (stop ∷ rest) ps))

pub few_phis : (m : ℕ) (ps : List Phi) (es : List Entry) → Leading m ps es → length ps ≤ 2 ^ 20
few_phis m ps es f = omega (arith, f.few, ap length f.here, enc_long f.stop f.rest ps)

-- a phi stands where some are left
phi_there : (m : ℕ) (ks ws : List ℕ) (place : ℕ) (ps : List Phi) → Leading m ps (drop place (entries ks ws)) → (length ps ≢ 0) → PhiAt m ks ws place ps
phi_there m ks ws place [] f z = absurd (z refl)
phi_there m ks ws place (p ∷ ps) f z = leading_next ks ws place (p ∷ ps) f (leading_kind ks ws place p ps f)

module _ (m : ℕ) (ks ws work : List ℕ) (ps : List Phi) where
  pub set_start : Leading m ps (entries ks ws) → {count : ℕ} → count ≡ length ps → (first : ℕ) (ls os : List ℕ) → SetWalk m ks ws work ps first 0 count ls os ls os
  set_start f {count} e first ls os = record { done = []; todo = ps; same = refl; front = f; counted = e; stored = set_none first count ls os }

  module _ {first place left : ℕ} {ls os ls' os' : List ℕ} (w : SetWalk m ks ws work ps first place left ls os ls' os') where
    pub set_phi : (left ≢ 0) → PhiAt m ks ws place w.todo
    set_phi z = phi_there m ks ws place w.todo w.front (λ e. z (w.counted ∙ e))

    pub set_in : (left ≢ 0) → (place < length ks) × (place < length ws)
    set_in z = leading_in ks ws place w.todo w.front

    pub set_reaches : (z : left ≡ 0 → ⊥) → name_words m + 64 ≤ length work → DestReaches (slice_index ws place) work
    set_reaches z room = let q = set_phi z in dest_reaches m q.phi.dest q.dest q.named room

    -- the phi at the place is at the front of the part, and those behind it are behind its entries
    pub set_front : (z : left ≡ 0 → ⊥) → Leading m ((set_phi z).phi ∷ (set_phi z).more) (lent_from ks ws place)
    set_front z =
        let q = set_phi z in
        subst (Leading m (q.phi ∷ q.more)) (sym (entries_part place ks ws)) (subst (λ (qs : List Phi). Leading m qs (drop place (entries ks ws))) q.same w.front)

    pub set_lent : (left ≢ 0) → PhiLent m (lent_from ks ws place)
    set_lent z = record { phi = (set_phi z).phi; more = (set_phi z).more; front = set_front z }

    pub set_behind : (z : left ≡ 0 → ⊥) (n : ℕ)
        → ((p : Phi) (qs : List Phi) → Leading m (p ∷ qs) (lent_from ks ws place) → Leading m qs (drop n (lent_from ks ws place)))
        → Leading m (set_phi z).more (drop (place + n) (entries ks ws))
    set_behind z n f =
        subst (Leading m (set_phi z).more) (ap (drop n) (entries_part place ks ws) ∙ drop-drop n place (entries ks ws)) (f (set_phi z).phi (set_phi z).more (set_front z))

    -- one slot more
    pub set_next : (z : left ≡ 0 → ⊥) → {place' stored : ℕ} {ls'' os'' : List ℕ} → Leading m (set_phi z).more (drop place' (entries ks ws)) → stored ≡ (first + (left - 1)) % 2 ^ 64
        → ls'' ≡ slice_set ls' stored 11 → os'' ≡ slice_set os' stored ((slot_word (slice_index ws place) work - 1) % 2 ^ 64) → SetWalk m ks ws work ps first place' (left - 1) ls os ls'' os''
    set_next z {place'} {stored} {ls''} {os''} f e ek eo =
        let q = set_phi z in
        let n : length w.todo ≡ suc (length q.more) = ap length q.same in
        let few : left ≤ 2 ^ 20 = omega (arith, few_phis m w.todo _ w.front, w.counted) in
        let s : suc (left - 1) ≡ left = omega (arith, w.counted) in
        let b : Set (slots_of work w.done) first (suc (left - 1)) ls os ls' os' = rw s w.stored in
        record {
          done = w.done ++ (q.phi ∷ []);
          todo = q.more;
          same = append_assoc w.done (q.phi ∷ []) q.more ∙ ap (λ r. w.done ++ r) (sym q.same) ∙ w.same;
          front = f;
          counted = omega (arith, w.counted);
          stored = subst (λ (xs : List ℕ). Set xs first (left - 1) ls os ls'' os'') (sym (map-append (λ (p : Phi). slot_number work p.dest) w.done (q.phi ∷ [])))
              (set_more (slots_of work w.done) (slot_number work q.phi.dest) b (λ h. e ∙ mod-eq_of_lt (omega arith)) ek (eo ∙ rw q.dest));
        }

    -- all are set
    pub set_end : left ≡ 0 → (c : FnCtx) (cps : List Copy) → map (λ (cp : Copy). cp.slot) cps ≡ slots_of work ps → {s t : Reached} → s.at ≡ first
        → t.at ≡ further s.at (length ps) → t.counter ≡ s.counter → t.refused ≡ s.refused → Puts (each (set_copy c) (reverse cps)) s t ls os ls' os'
    set_end z c cps e {s} {t} at place counter refused =
        let d : w.done ≡ ps = sym (append-nil w.done) ∙ ap (λ r. w.done ++ r) (sym (none_left w.todo (sym w.counted ∙ z))) ∙ w.same in
        let b : Set (slots_of work ps) s.at 0 ls os ls' os' = rw (at, sym d, sym z) w.stored in
        set_puts c cps (slots_of work ps) e b (place ∙ ap (further s.at) (sym (length-map ps (λ (p : Phi). slot_number work p.dest)))) counter refused
      where
        none_left : (qs : List Phi) → length qs ≡ 0 → qs ≡ []
        none_left [] h = refl
        none_left (q ∷ qs) h = absurd (omega arith)

-- ---- an edge
pub record EdgeAsk (m succ : ℕ) (bks bws work : List ℕ) : Type 0 where
  pub ctx : FnCtx
  pub maps : Maps m (entries bks bws) ctx work
  pub target : succ < m

module _ (c : FnCtx) (pred succ m : ℕ) (bks bws work : List ℕ) (maps : Maps m (entries bks bws) c work) (below : succ < m) where
  -- no block of this name
  pub unknown_puts : {w : ℕ} → w ≡ slice_index work (block_at succ) → w ≡ 0 → (s : Reached) {t : Reached} (ls os : List ℕ) → t ≡ made_refused s 17
      → Puts (emit_edge_copies c pred succ) s t ls os ls os
  unfolding emit_edge_copies ok_or ◌>>=◌ bind refuse
  unknown_puts e z s ls os h = same_puts (λ n. rw ((maps.blocks succ below).absent (sym e ∙ z))) (refuse_puts 17 (omega arith) s ls os h)

  -- the block at its place, whose entries are lent on
  pub record Target (place : ℕ) : Type 0 where
    pub block : BasicBlock
    pub found : lookup succ c.blocks ≡ some block
    pub in_kinds : place ≤ length bks
    pub in_words : place ≤ length bws
    pub front : Leading m (leading block.insts) (entries (take (length bks - place) (drop place bks)) (take (length bws - place) (drop place bws)))

  pub target : {w : ℕ} → w ≡ slice_index work (block_at succ) → (w ≢ 0) → Target (w - 1)
  target {w} e z =
      let b = (maps.blocks succ below).present (λ y. z (e ∙ y)) in
      let i : slice_index_or work (block_at succ) 0 - 1 ≡ w - 1 = ap (λ x. x - 1) (sym e) in
      let at : BlockAt m (entries bks bws) b.0 (w - 1) = subst (λ (x : ℕ). BlockAt m (entries bks bws) b.0 x) i b.2 in
      record {
        block = b.0;
        found = b.1;
        in_kinds = within_kinds (w - 1) bks bws at.there;
        in_words = within_words (w - 1) bks bws at.there;
        front = subst (λ (es : List Entry). Leading m (leading b.0.insts) es) (sym (entries_part (w - 1) bks bws)) (block_leads m (entries bks bws) b.0 (w - 1) maps.measured.few at);
      }

  pub copied_puts : (bb : BasicBlock) → lookup succ c.blocks ≡ some bb → {count : ℕ} {s r u : Reached} {ls os ls' os' ls'' os'' : List ℕ}
      → Passed c pred work (leading bb.insts) count s r ls os ls' os'
      → ((cps : List Copy) → map (λ (cp : Copy). cp.slot) cps ≡ slots_of work (leading bb.insts) → Puts (each (set_copy c) (reverse cps)) r u ls' os' ls'' os'')
      → Puts (emit_edge_copies c pred succ) s u ls os ls'' os''
  unfolding emit_edge_copies ok_or ◌>>=◌ bind
  copied_puts bb f p q =
      same_puts (λ n. rw (f, copies_leading c pred bb.insts))
      (pushed_end c pred work (leading bb.insts) p.pushed (λ cps. each (set_copy c) (reverse cps)) p.last (q p.pushed.cps p.pushed.slots))

  pub edge_puts : {s t u : Reached} {ls os ls' os' ls'' os'' : List ℕ} → succ < 2 ^ 64 → Puts (emit_edge_copies c pred succ) s t ls os ls' os' → Lined 3 succ t u ls' os' ls'' os''
      → Puts (edge c pred succ) s u ls os ls'' os''
  unfolding edge kind_of operand_of
  edge_puts l p h = then_puts p (line_puts (Line.jmp_block succ) refl (word_same l) h)
