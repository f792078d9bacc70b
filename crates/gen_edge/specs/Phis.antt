-- The leading phis of a block: "the scan of leading phis ends at the first instruction that is none". What stands at a place of their entries.
use Rattle.std.specs.Prelude.{◌≡◌, ℕ, ◌+◌, ◌^◌, ◌<◌, ◌≤◌, List, [], ◌∷◌, ◌++◌, length, drop, ◌≢◌, slice_index, slice_index_or}
use Rattle.std.proofs.Math.Path.{refl, sym, ap, subst}
use Rattle.std.proofs.Common.{◌∙◌, drop-drop}
use Rattle.std.proofs.Math.Option.{Option, some}
use mathlib.Core.List.{append_assoc}
use native.Mathlib.Omega.{arith}
use Rattle.std.proofs.Math.ListN.{length-append, length-drop}
use Rattle.std.proofs.Math.Seq.{drop-append_seam}
use Rattle.book.specs.Ast.{Ty, Value, Zero, Incoming, InstKind, Inst, Terminator, BasicBlock}
use Rattle.book.specs.Entry.{Entry, entry, entries}
use Rattle.book.specs.Kinds.{InstTag, inst_kind, inst_tag, inst_tags, term_kind}
use Rattle.book.specs.Rule.{find}
use Rattle.book.specs.Fields.{Item, Field, inst_fields, inst_tag_of, term_tag_of}
use Rattle.book.specs.Shape.{Shape, shape}
use Rattle.book.specs.Encode.{enc_ty, value_entry, enc_incoming, enc_fields, enc_inst, enc_term, dest_word, ending, closed}
use Rattle.book.specs.Limits.{Each, Maybe, NameLimits, IncomingLimits, InstLimits, FieldsLimits}
use Rattle.book.specs.AgreeInst.{inst_found}
use Rattle.layout_memo.specs.Front.{Starts, ty_len, len_is, enc_pos}
use Rattle.lowering.specs.Operand.{int_width}
use Rattle.gen_values.specs.Values.{width_by, value_is}
use Rattle.gen_values.specs.Maps.{BlockAt}
use Rattle.gen_values.specs.Fields.{Fields, ValueAt, WidthSays, entry_at, type_in, width_is}

pub record Phi : Type 0 where
  pub dest : Option ℕ
  pub ty : Ty
  pub incoming : List Incoming

abbrev pub phi_then : Option ℕ → Shape → List Phi → List Phi
phi_then dest (Shape.phi ty incoming) rest = record { dest = dest; ty = ty; incoming = incoming } ∷ rest
phi_then dest (Shape.alloca ty count) rest = []
phi_then dest (Shape.call callee) rest = []
phi_then dest Shape.cmpxchg rest = []
phi_then dest Shape.plain rest = []

unfoldable pub leading : List Inst → List Phi
leading [] = []
leading (i ∷ is) = phi_then i.dest (shape i.kind) (leading is)

-- ---- their entries
unfoldable pub enc_phi : Phi → List Entry
enc_phi p = entry 75 (dest_word p.dest) ∷ enc_fields (inst_fields InstTag.phi) (p.ty, (p.incoming, tt))

abbrev pub PhiLimits : ℕ → Phi → Type 0
PhiLimits m p = Maybe (NameLimits m) p.dest × FieldsLimits m (inst_fields InstTag.phi) (p.ty, (p.incoming, tt))

-- these phis stand in front, and an entry behind them that begins none
pub record Leading (m : ℕ) (ps : List Phi) (es : List Entry) : Type 0 where
  pub stop : Entry
  pub rest : List Entry
  pub here : es ≡ ending enc_phi (stop ∷ rest) ps
  pub other : stop.kind ≡ 75 → ⊥
  pub keeps : Each (PhiLimits m) ps
  pub few : length es ≤ 2 ^ 20

only_phi : (t : InstTag) → inst_kind t ≡ 75 → t ≡ InstTag.phi
unfolding inst_tag inst_tags find
only_phi t e = let a : some t ≡ some InstTag.phi = sym (inst_found t) ∙ ap inst_tag e in cc

term_none : (t : Terminator) → term_kind (term_tag_of t) ≢ 75
term_none (Terminator.ret v) e = omega arith
term_none (Terminator.br c t f) e = omega arith
term_none (Terminator.switch t v d cs) e = omega arith
term_none Terminator.unreachable e = omega arith

-- an instruction that is no phi
abbrev Other : Inst → Type 0
Other i = (inst_kind (inst_tag_of i.kind) ≢ 75) × ((rest : List Phi) → phi_then i.dest (shape i.kind) rest ≡ [])

module _ (m : ℕ) where
  none_leads : (i : Inst) (tail es : List Entry) (ps : List Phi) → Other i → length es ≤ 2 ^ 20 → es ≡ enc_inst i ++ tail
      → Leading m (phi_then i.dest (shape i.kind) ps) es
  unfolding enc_inst ending
  none_leads i tail es ps (a, b) few e =
      subst (λ (qs : List Phi). Leading m qs es) (sym (b ps))
      (record { stop = _; rest = _; here = e; other = a; keeps = tt; few = few })

  more_leads : (i : Inst) (ty : Ty) (incoming : List Incoming) (es : List Entry) (ps : List Phi) → i.kind ≡ InstKind.phi ty incoming → InstLimits m i → length es ≤ 2 ^ 20
      → (tail : List Entry) → Leading m ps tail → es ≡ enc_inst i ++ tail → Leading m (phi_then i.dest (shape i.kind) ps) es
  unfolding enc_inst enc_phi ending shape
  more_leads i ty incoming es ps k keeps few tail l e =
      record {
        stop = l.stop;
        rest = l.rest;
        here = e ∙ rw k (ap (λ (r : List Entry). enc_phi (record { dest = i.dest; ty = ty; incoming = incoming }) ++ r) l.here);
        other = l.other;
        keeps = rw k (rw k at keeps, l.keeps);
        few = few;
      }

  -- one instruction in front: a phi leads with those behind it
  module _ (i : Inst) (tail es : List Entry) (ps : List Phi) (keeps : InstLimits m i) (few : length es ≤ 2 ^ 20) (split : es ≡ enc_inst i ++ tail) where
    not_phi : (kind : InstKind) → i.kind ≡ kind → (inst_tag_of kind ≢ InstTag.phi) → ((qs : List Phi) → phi_then i.dest (shape kind) qs ≡ [])
        → Leading m (phi_then i.dest (shape i.kind) ps) es
    not_phi kind q d f = none_leads i tail es ps (λ z. d (only_phi (inst_tag_of kind) (rw q at z)), λ qs. rw q (f qs)) few split

    by_kind : Leading m ps tail → (kind : InstKind) → i.kind ≡ kind → Leading m (phi_then i.dest (shape i.kind) ps) es
    unfolding shape
    by_kind l (InstKind.phi ty incoming) q = more_leads i ty incoming es ps q keeps few tail l split
    by_kind l (InstKind.bin op ty lhs rhs) q = not_phi _ q (λ z. let y : ◌≡◌ {A = ℕ} 0 1 = cc in omega arith) (λ qs. refl)
    by_kind l (InstKind.conv op ty val to) q = not_phi _ q (λ z. let y : ◌≡◌ {A = ℕ} 0 1 = cc in omega arith) (λ qs. refl)
    by_kind l (InstKind.icmp p ty lhs rhs) q = not_phi _ q (λ z. let y : ◌≡◌ {A = ℕ} 0 1 = cc in omega arith) (λ qs. refl)
    by_kind l (InstKind.select a ty u v) q = not_phi _ q (λ z. let y : ◌≡◌ {A = ℕ} 0 1 = cc in omega arith) (λ qs. refl)
    by_kind l (InstKind.load ty p a) q = not_phi _ q (λ z. let y : ◌≡◌ {A = ℕ} 0 1 = cc in omega arith) (λ qs. refl)
    by_kind l (InstKind.store ty v p a) q = not_phi _ q (λ z. let y : ◌≡◌ {A = ℕ} 0 1 = cc in omega arith) (λ qs. refl)
    by_kind l (InstKind.alloca ty n a) q = not_phi _ q (λ z. let y : ◌≡◌ {A = ℕ} 0 1 = cc in omega arith) (λ qs. refl)
    by_kind l (InstKind.get_element_ptr ty p js) q = not_phi _ q (λ z. let y : ◌≡◌ {A = ℕ} 0 1 = cc in omega arith) (λ qs. refl)
    by_kind l (InstKind.call ty f vs) q = not_phi _ q (λ z. let y : ◌≡◌ {A = ℕ} 0 1 = cc in omega arith) (λ qs. refl)
    by_kind l (InstKind.freeze ty v) q = not_phi _ q (λ z. let y : ◌≡◌ {A = ℕ} 0 1 = cc in omega arith) (λ qs. refl)
    by_kind l (InstKind.atomic_load ty p) q = not_phi _ q (λ z. let y : ◌≡◌ {A = ℕ} 0 1 = cc in omega arith) (λ qs. refl)
    by_kind l (InstKind.atomic_store ty v p) q = not_phi _ q (λ z. let y : ◌≡◌ {A = ℕ} 0 1 = cc in omega arith) (λ qs. refl)
    by_kind l (InstKind.cmpxchg ty p a n) q = not_phi _ q (λ z. let y : ◌≡◌ {A = ℕ} 0 1 = cc in omega arith) (λ qs. refl)
    by_kind l (InstKind.extract_value v n) q = not_phi _ q (λ z. let y : ◌≡◌ {A = ℕ} 0 1 = cc in omega arith) (λ qs. refl)
    by_kind l InstKind.fence q = not_phi _ q (λ z. let y : ◌≡◌ {A = ℕ} 0 1 = cc in omega arith) (λ qs. refl)

  -- a block's instructions lead with its leading phis
  pub insts_lead : (t : Terminator) (is : List Inst) (rest es : List Entry) → Each (InstLimits m) is → length es ≤ 2 ^ 20 → es ≡ ending enc_inst (enc_term t) is ++ rest
      → Leading m (leading is) es
  unfolding leading ending enc_term
  insts_lead t [] rest es k few e = record { stop = _; rest = _; here = e; other = term_none t; keeps = tt; few = few }
  insts_lead t (i ∷ is) rest es k few e =
      let tail = ending enc_inst (enc_term t) is ++ rest in
      let split : es ≡ enc_inst i ++ tail = e ∙ append_assoc (enc_inst i) (ending enc_inst (enc_term t) is) rest in
      let small : length tail ≤ 2 ^ 20 = omega (arith, few, ap length split, length-append (enc_inst i) tail) in
      by_kind i tail es (leading is) k.0 few split (insts_lead t is rest tail k.1 small refl) i.kind refl

  -- the block at a place leads with its leading phis
  pub block_leads : (bs : List Entry) (bb : BasicBlock) (p : ℕ) → length bs ≤ 2 ^ 20 → BlockAt m bs bb p → Leading m (leading bb.insts) (drop p bs)
  block_leads bs bb p few b =
      insts_lead bb.term bb.insts b.rest (drop p bs) b.keeps.0 (omega (arith, few, length-drop p bs)) b.here

-- ---- incoming pairs at a place, and the phis behind them
pub record Pairs (m : ℕ) (is : List Incoming) (more : List Phi) (es : List Entry) : Type 0 where
  pub later : List Entry
  pub here : es ≡ closed enc_incoming is ++ later
  pub keeps : Each (IncomingLimits m) is
  pub behind : Leading m more later
  pub few : length es ≤ 2 ^ 20

pub record PairAt (m : ℕ) (ks ws : List ℕ) (b : ℕ) (is : List Incoming) (more : List Phi) : Type 0 where
  pub pair : Incoming
  pub todo : List Incoming
  pub same : is ≡ pair ∷ todo
  pub value : ValueAt m ks ws b pair.val
  pub label : slice_index_or ws (b + 1) 0 ≡ pair.label
  pub in_words : b + 1 < length ws
  pub next : Pairs m todo more (drop (b + 2) (entries ks ws))

value_open : (v : Value) → (value_entry v).kind ≢ 0
unfolding value_entry
value_open (Value.local x) e = omega arith
value_open (Value.global x) e = omega arith
value_open (Value.int x) e = omega arith
value_open (Value.zero Zero.null) e = omega arith
value_open (Value.zero Zero.undef) e = omega arith
value_open (Value.zero Zero.poison) e = omega arith
value_open (Value.zero Zero.zero_init) e = omega arith
value_open Value.other e = omega arith

module _ {m : ℕ} {more : List Phi} (ks ws : List ℕ) (b : ℕ) where
  pub pairs_in : (is : List Incoming) → Pairs m is more (drop b (entries ks ws)) → (b < length ks) × (b < length ws)
  unfolding ending
  pairs_in [] f = let q = entry_at ks ws b _ _ f.here in (q.2, q.3)
  pairs_in (i ∷ is) f = let q = entry_at ks ws b _ _ f.here in (q.2, q.3)

  -- the closing entry: the phis behind
  pub pairs_end : (is : List Incoming) → Pairs m is more (drop b (entries ks ws)) → slice_index ks b ≡ 0 → (is ≡ []) × Leading m more (drop (b + 1) (entries ks ws))
  unfolding ending
  pairs_end [] f z = let q = entry_at ks ws b _ _ f.here in (refl, subst (λ (es : List Entry). Leading m more es) (sym q.4) f.behind)
  pairs_end (i ∷ is) f z = let q = entry_at ks ws b _ _ f.here in absurd (value_open i.val (sym q.0 ∙ z))

  -- one more pair
  pub pairs_next : (is : List Incoming) → Pairs m is more (drop b (entries ks ws)) → (slice_index ks b ≢ 0) → PairAt m ks ws b is more
  unfolding ending
  pairs_next [] f z = let q = entry_at ks ws b _ _ f.here in absurd (z q.0)
  pairs_next (i ∷ is) f z =
      let q = entry_at ks ws b _ _ f.here in
      let r = entry_at ks ws (b + 1) _ _ q.4 in
      let n : b + 1 + 1 ≡ b + 2 = omega arith in
      record {
        pair = i;
        todo = is;
        same = refl;
        value = record { is = rw (q.0, q.1) (value_is i.val); limits = f.keeps.0.0; in_kinds = q.2; in_words = q.3 };
        label = r.1;
        in_words = r.3;
        next = record {
          later = f.later;
          here = ap (λ k. drop k (entries ks ws)) (sym n) ∙ r.4;
          keeps = f.keeps.1;
          behind = f.behind;
          few = omega (arith, f.few, length-drop b (entries ks ws), length-drop (b + 2) (entries ks ws));
        };
      }

-- ---- a phi at a place
pub record PhiAt (m : ℕ) (ks ws : List ℕ) (a : ℕ) (ps : List Phi) : Type 0 where
  pub phi : Phi
  pub more : List Phi
  pub same : ps ≡ phi ∷ more
  pub dest : slice_index_or ws a 0 ≡ dest_word phi.dest
  pub named : Maybe (NameLimits m) phi.dest
  pub in_kinds : a + 1 < length ks
  pub in_words : a + 1 < length ws
  pub width : WidthSays (width_by (slice_index ks (a + 1)) (slice_index ws (a + 1))) (int_width phi.ty)
  pub long : 1 ≤ ty_len m (drop (a + 1) (entries ks ws))
  pub pairs : {n : ℕ} → n ≡ ty_len m (drop (a + 1) (entries ks ws)) → Pairs m phi.incoming more (drop (a + 1 + n) (entries ks ws))

module _ {m : ℕ} (ks ws : List ℕ) (a : ℕ) where
  pub leading_in : (ps : List Phi) → Leading m ps (drop a (entries ks ws)) → (a < length ks) × (a < length ws)
  unfolding ending enc_phi
  leading_in [] f = let q = entry_at ks ws a _ _ f.here in (q.2, q.3)
  leading_in (p ∷ ps) f = let q = entry_at ks ws a _ _ f.here in (q.2, q.3)

  pub leading_end : (ps : List Phi) → Leading m ps (drop a (entries ks ws)) → (slice_index ks a ≢ 75) → ps ≡ []
  unfolding ending enc_phi
  leading_end [] f z = refl
  leading_end (p ∷ ps) f z = let q = entry_at ks ws a _ _ f.here in absurd (z q.0)

  pub leading_kind : (p : Phi) (ps : List Phi) → Leading m (p ∷ ps) (drop a (entries ks ws)) → slice_index ks a ≡ 75
  unfolding ending enc_phi
  leading_kind p ps f = (entry_at ks ws a _ _ f.here).0

  pub leading_next : (ps : List Phi) → Leading m ps (drop a (entries ks ws)) → slice_index ks a ≡ 75 → PhiAt m ks ws a ps
  unfolding ending enc_phi enc_fields
  leading_next [] f z = let q = entry_at ks ws a _ _ f.here in absurd (f.other (sym q.0 ∙ z))
  leading_next (p ∷ ps) f z =
      let es = entries ks ws in
      let tail = ending enc_phi (f.stop ∷ f.rest) ps in
      let q = entry_at ks ws a _ _ f.here in
      let here : drop (a + 1) es ≡ enc_ty p.ty ++ (closed enc_incoming p.incoming ++ tail) = q.4
      ∙ append_assoc (enc_ty p.ty) (closed enc_incoming p.incoming ++ []) tail
      ∙ ap (λ (r : List Entry). enc_ty p.ty ++ r) (append_assoc (closed enc_incoming p.incoming) [] tail) in
      let small : length (drop (a + 1) es) ≤ 2 ^ 20 = omega (arith, f.few, length-drop a es, length-drop (a + 1) es) in
      let g : Fields m (Field.plain Item.type ∷ []) (p.ty, tt) (drop (a + 1) es) = record {
        rest = closed enc_incoming p.incoming ++ tail;
        here = here ∙ sym (append_assoc (enc_ty p.ty) [] _);
        keeps = (f.keeps.0.1.0, tt);
        few = small;
      } in
      let s : Starts m (drop (a + 1) es) = record { ty = p.ty; rest = _; here = here; keeps = f.keeps.0.1.0; few = small } in
      let i = type_in ks ws (a + 1) g in
      record {
        phi = p;
        more = ps;
        same = refl;
        dest = q.1;
        named = f.keeps.0.0;
        in_kinds = i.0;
        in_words = i.1;
        width = width_is ks ws (a + 1) g;
        long = omega (arith, len_is s, enc_pos p.ty);
        pairs = λ {n} e.
            let l : n ≡ length (enc_ty p.ty) = e ∙ len_is s in
            let behind : drop (a + 1 + n) es ≡ closed enc_incoming p.incoming ++ tail = sym (drop-drop n (a + 1) es) ∙ ap (drop n) here
            ∙ ap (λ k. drop k (enc_ty p.ty ++ (closed enc_incoming p.incoming ++ tail))) l ∙ drop-append_seam (enc_ty p.ty) _ in
            let few : length (drop (a + 1 + n) es) ≤ 2 ^ 20 = omega (arith, f.few, length-drop a es, length-drop (a + 1 + n) es) in
            record {
              later = tail;
              here = behind;
              keeps = f.keeps.0.1.1.0;
              behind = record {
                stop = f.stop;
                rest = f.rest;
                here = refl;
                other = f.other;
                keeps = f.keeps.1;
                few = omega (arith, few, ap length behind, length-append (closed enc_incoming p.incoming) tail);
              };
              few = few;
            };
      }
