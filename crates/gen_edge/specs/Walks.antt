-- The passes over leading phis, and over the incoming pairs of one.
use Rattle.std.specs.Prelude.{◌≡◌, ℕ, ◌+◌, ◌<◌, ◌≤◌, Bool, true, false, not, List, [], ◌∷◌, ◌++◌, length, drop, ◌==◌, ◌≢◌, slice_index, slice_index_or}
use Rattle.std.proofs.Math.Path.{refl, ap, subst}
use Rattle.std.proofs.Common.{sym, ◌∙◌, arith, eq-eqb, ne_eqb, eqb-true}
use mathlib.Core.List.{append-nil, append_assoc}
use Rattle.std.proofs.lemmas.Bool.{eqb-false}
use Rattle.std.proofs.Math.ListN.{length-append}
use Rattle.book.specs.Ast.{Ty, Value, Incoming}
use Rattle.book.specs.Entry.{entries}
use Rattle.book.specs.Work.{name_words}
use Rattle.book_types.specs.Laws.{lent_from, entries_part}
use Rattle.lowering.specs.Context.{FnCtx}
use Rattle.lowering.specs.Operand.{int_width, push_typed}
use Rattle.lowering.specs.Edge.{push_copy}
use Rattle.layout_memo.specs.Front.{ty_len}
use Rattle.gen_lines.specs.declared.Reached.{Reached}
use Rattle.gen_lines.specs.Puts.{Puts, is_refused, or_else}
use Rattle.gen_values.specs.Maps.{Locals}
use Rattle.gen_values.specs.Values.{width_by, DestReaches}
use Rattle.gen_values.specs.Fields.{WidthSays, ValueAt, OperandAt, operand_at, part_from, part_front, part_there, value_part}
use Rattle.gen_edge.specs.Phis.{Phi, Leading, Pairs, PhiAt, pairs_in, pairs_end, pairs_next, leading_in, leading_end, leading_next}
use Rattle.gen_edge.specs.Copies.{FoundAt, Pushed, copy_at, noted, noted_found, asked_phi, pushed_none, pushed_more, found_none, dest_reaches}

-- what a pass is lent: phis of some context
pub record Lent (m : ℕ) (ks ws work : List ℕ) : Type 0 where
  pub ctx : FnCtx
  pub locals : Locals ctx m work
  pub phis : List Phi
  pub front : Leading m phis (entries ks ws)
  pub room : name_words m + 64 ≤ length work

-- `done` lie behind the place
pub record Walk (c : FnCtx) (pred m : ℕ) (ks ws work : List ℕ) (ps : List Phi) (place count : ℕ) (s n t : Reached) (ls os ls' os' : List ℕ) : Type 0 where
  pub done : List Phi
  pub todo : List Phi
  pub same : done ++ todo ≡ ps
  pub front : Leading m todo (drop place (entries ks ws))
  pub counted : count ≡ length done
  pub pushed : Pushed c pred work done s n t ls os ls' os'

-- the pairs of the phi at the place, of which `seen` lie behind `pair`
pub record PairWalk (pred m : ℕ) (ks ws : List ℕ) (place : ℕ) (ps : List Phi) (pair found : ℕ) : Type 0 where
  pub at : PhiAt m ks ws place ps
  pub seen : List Incoming
  pub todo : List Incoming
  pub same : seen ++ todo ≡ at.phi.incoming
  pub front : Pairs m todo at.more (drop pair (entries ks ws))
  pub first : FoundAt m pred ks ws seen found

-- all leading phis were passed
pub record Passed (c : FnCtx) (pred : ℕ) (work : List ℕ) (ps : List Phi) (count : ℕ) (s r : Reached) (ls os ls' os' : List ℕ) : Type 0 where
  pub noted : Reached
  pub reached : Reached
  pub last : r ≡ or_else (is_refused noted) noted reached
  pub counted : count ≡ length ps
  pub pushed : Pushed c pred work ps s noted reached ls os ls' os'

-- what pushing the value found asks: a type at the front of its part, and the value at the front of its own
pub record FoundAsk (tks tws ks ws work : List ℕ) : Type 0 where
  pub type_kinds : 0 < length tks
  pub type_words : 0 < length tws
  pub value : OperandAt ks ws 0 work

-- ---- pairs
pub value_reaches : (m : ℕ) {ks ws work : List ℕ} {a : ℕ} {v : Value} → ValueAt m ks ws a v → name_words m + 64 ≤ length work → OperandAt ks ws a work
value_reaches m {work = work} q room = operand_at {work = work} q (omega (arith, room))

-- no test is both
pub never : {A : Type 0} {b : Bool} → b ≡ true → b ≡ false → A
never t f = absurd (let q : true ≡ false = sym t ∙ f in let y : ◌≡◌ {A = ℕ} 0 1 = cc in omega arith)

-- a place that is not 0 was found
found_is : (found : ℕ) → not (found == 0) ≡ true → found ≢ 0
found_is found t z = never t (ap not (eq-eqb found 0 z))

module _ (pred m : ℕ) (ks ws : List ℕ) (place : ℕ) (ps : List Phi) where
  pub pairs_start : Leading m ps (drop place (entries ks ws)) → slice_index ks place ≡ 75 → {n : ℕ} → n ≡ ty_len m (lent_from ks ws (place + 1))
      → PairWalk pred m ks ws place ps (place + 1 + n) 0
  pairs_start f k e =
      let a = leading_next ks ws place ps f k in
      record { at = a; seen = []; todo = a.phi.incoming; same = refl; front = a.pairs (e ∙ ap (ty_len m) (entries_part (place + 1) ks ws)); first = found_none m pred ks ws }

  module _ {pair found : ℕ} (w : PairWalk pred m ks ws place ps pair found) where
    pub pair_in : (pair < length ks) × (pair < length ws)
    pair_in = pairs_in ks ws pair w.todo w.front

    -- a type has one entry at least
    pub pair_long : {n : ℕ} → n ≡ ty_len m (lent_from ks ws (place + 1)) → 1 ≤ n
    pair_long e = omega (arith, w.at.long, e ∙ ap (ty_len m) (entries_part (place + 1) ks ws))

    pub pair_label : (slice_index ks pair ≢ 0) → pair + 1 < length ws
    pair_label z = (pairs_next ks ws pair w.todo w.front z).in_words

    -- one pair more
    pub pair_more : (slice_index ks pair ≢ 0) → {found' : ℕ}
        → ((is : List Incoming) (i : Incoming) → FoundAt m pred ks ws is found → slice_index ws (pair + 1) ≡ i.label → ValueAt m ks ws pair i.val → FoundAt m pred ks ws (is ++ (i ∷ [])) found')
        → PairWalk pred m ks ws place ps (pair + 2) found'
    pair_more z f =
        let q = pairs_next ks ws pair w.todo w.front z in
        record {
          at = w.at;
          seen = w.seen ++ (q.pair ∷ []);
          todo = q.todo;
          same = append_assoc w.seen (q.pair ∷ []) q.todo ∙ ap (λ r. w.seen ++ r) (sym q.same) ∙ w.same;
          front = q.next;
          first = f w.seen q.pair w.first q.label q.value;
        }

    -- what the value asks
    pub pair_asks : {work : List ℕ} → name_words m + 64 ≤ length work → not (found == 0) ≡ true
        → FoundAsk (part_from ks (place + 1)) (part_from ws (place + 1)) (part_from ks found) (part_from ws found) work
    pair_asks room t =
        record {
          type_kinds = part_there ks (place + 1) w.at.in_kinds;
          type_words = part_there ws (place + 1) w.at.in_words;
          value = value_reaches m (value_part (w.first.present (found_is found t)).2) room;
        }

    -- the place found is one of the entries, or the first
    pub pair_found : (found ≤ length ks) × (found ≤ length ws)
    pair_found = at (found == 0) refl
      where
        at : (b : Bool) → (found == 0) ≡ b → (found ≤ length ks) × (found ≤ length ws)
        at true e = let z = eqb-true found 0 e in (omega arith, omega arith)
        at false e = let v = (w.first.present (eqb-false found 0 e)).2 in (omega (arith, v.in_kinds), omega (arith, v.in_words))

    pub phi_reaches : {work : List ℕ} → name_words m + 64 ≤ length work → DestReaches (slice_index ws place) work
    phi_reaches room = dest_reaches m w.at.phi.dest w.at.dest w.at.named room

    -- behind the closing entry
    pub pairs_behind : slice_index_or ks pair 0 ≡ 0 → (w.seen ≡ w.at.phi.incoming) × Leading m w.at.more (drop (pair + 1) (entries ks ws))
    pairs_behind z =
        let q = pairs_end ks ws pair w.todo w.front z in
        (sym (append-nil w.seen) ∙ ap (λ r. w.seen ++ r) (sym q.0) ∙ w.same, q.1)

-- ---- phis
module _ (c : FnCtx) (pred m : ℕ) (ks ws work : List ℕ) (ps : List Phi) where
  pub walk_start : Leading m ps (entries ks ws) → (s : Reached) (ls os : List ℕ) → Walk c pred m ks ws work ps 0 0 s s s ls os ls os
  walk_start f s ls os = record { done = []; todo = ps; same = refl; front = f; counted = refl; pushed = pushed_none c pred work s ls os }

  module _ {place count : ℕ} {s n t : Reached} {ls os ls' os' : List ℕ} (w : Walk c pred m ks ws work ps place count s n t ls os ls' os') where
    pub walk_in : (place < length ks) × (place < length ws)
    walk_in = leading_in ks ws place w.todo w.front

    -- one phi more
    module _ (maps : Locals c m work) {pair found : ℕ} (v : PairWalk pred m ks ws place w.todo pair found) (z : slice_index_or ks pair 0 ≡ 0) {n' t' : Reached} {ls'' os'' : List ℕ} where
      pub walk_more : n' ≡ noted (slice_index ws place) found work n
          → (not (found == 0) ≡ true → (m : ℕ) (c : FnCtx) (ty : Ty) (v : Value) → WidthSays (width_by (slice_index (part_from ks (place + 1)) 0) (slice_index (part_from ws (place + 1)) 0)) (int_width ty)
          → ValueAt m (part_from ks found) (part_from ws found) 0 v → Locals c m work → Puts (push_typed c ty v) t t' ls' os' ls'' os'')
          → length ls'' ≡ length ls' → length os'' ≡ length os'
          → Walk c pred m ks ws work ps (pair + 1) (count + 1) s n' t' ls os ls'' os''
      unfolding push_copy
      walk_more e p lk lo =
          let b = pairs_behind pred m ks ws place w.todo v z in
          let phi = v.at.phi in
          let f : FoundAt m pred ks ws phi.incoming found = subst (λ (is : List Incoming). FoundAt m pred ks ws is found) b.0 v.first in
          record {
            done = w.done ++ (phi ∷ []);
            todo = v.at.more;
            same = append_assoc w.done (phi ∷ []) v.at.more ∙ ap (λ r. w.done ++ r) (sym v.at.same) ∙ w.same;
            front = b.1;
            counted = omega (arith, w.counted, length-append w.done (phi ∷ []));
            pushed = pushed_more c pred work w.done phi (copy_at ks ws work found phi) w.pushed refl
                (asked_phi c pred m ks ws work maps phi v.at.named v.at.dest f n e)
                (λ r.
                let y = noted_found (slice_index ws place) found work n e r in
                let q = f.present y in
                rw q.2.is (p (ap not (ne_eqb found 0 y)) m c phi.ty q.0 (rw (part_front ks (place + 1), part_front ws (place + 1)) v.at.width) (value_part q.2) maps)) lk lo;
          }

    -- behind them all
    pub walk_end : (slice_index ks place ≢ 75) → {r : Reached} → r ≡ or_else (is_refused n) n t → Passed c pred work ps count s r ls os ls' os'
    walk_end z {r} e =
        let d : w.done ≡ ps = sym (append-nil w.done) ∙ ap (λ q. w.done ++ q) (sym (leading_end ks ws place w.todo w.front z)) ∙ w.same in
        record {
          noted = n;
          reached = t;
          last = e;
          counted = w.counted ∙ ap length d;
          pushed = subst (λ (qs : List Phi). Pushed c pred work qs s n t ls os ls' os') d w.pushed;
        }
