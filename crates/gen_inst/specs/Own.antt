-- Selects, allocas, getelementptrs, calls, cmpxchgs and extractvalues, phis and fences: the instruction by its group, and its lines.
use Rattle.std.specs.Prelude.{ℕ, ◌≤◌, ◌≡◌, List}
use Rattle.std.proofs.Common.{ap, subst, ◌∙◌, arith}
use Rattle.std.proofs.Math.Option.{Option, some}
use Rattle.book.specs.Ast.{InstKind}
use Rattle.book.specs.Encode.{dest_word}
use Rattle.book.specs.Entry.{Entry, entries}
use Rattle.book.specs.Kinds.{InstTag}
use Rattle.book.specs.Fields.{Meanings, inst_fields, inst_tag_of, inst_args}
use Rattle.book_insts.specs.Insts.{inst_group_of}
use Rattle.book_insts.specs.declared.InstGroup.{InstGroup}
use Rattle.book_insts.specs.declared.InstGroup.TheVariants as group
use Rattle.lowering.specs.Gen.{Gen}
use Rattle.lowering.specs.Context.{FnCtx}
use Rattle.lowering.specs.Memory.{gen_alloca, require_atomic_width, gen_cmpxchg, gen_extract_value}
use Rattle.lowering.specs.Gep.{gen_gep}
use Rattle.lowering.specs.Call.{gen_call}
use Rattle.gen_lines.specs.declared.Reached.{Reached}
use Rattle.gen_lines.specs.Puts.{Puts, skip_puts, then_puts}
use Rattle.gen_values.specs.Fields.{Fields, type_starts}
use Rattle.gen_values.specs.Values.{dest_of, dest_is}
use Rattle.gen_values.specs.Maps.{Maps, Did}
use Rattle.gen_size.specs.Sizes.{Measurable}
use Rattle.gen_fields.specs.Given.{Given}
use Rattle.gen_alloca.specs.Alloca.{ResultLent}
use Rattle.gen_gep.specs.Loop.{GepAsk}
use Rattle.gen_inst.specs.Body.{body_gen}
use Rattle.gen_inst.specs.View.{told_as}
use Rattle.gen_inst.specs.Held.{Held, HeldAt, moved, as_kind}

module _ {g : InstGroup} {m : ℕ} {es bs : List Entry} {dest : ℕ} {work : List ℕ} (h : Held g m es bs work) (result : dest ≤ m) where
  given_as : (j : InstKind) → h.inst ≡ j → Given m (inst_fields (inst_tag_of j)) es dest work
  given_as j e = record { holds = inst_args j; fields = moved j e h.fields; result = result; room = omega (arith, h.room) }

  pub alloca_lent : g ≡ group.Alloca → ResultLent m es bs dest work
  alloca_lent e =
      let (t, n, a, q) = told_as group.Alloca h.inst h.is e in
      let j = InstKind.alloca t n a in
      record { all = record { holds = inst_args j; fields = moved j q h.fields; ready = h.ready }; result = result }

  pub call_given : g ≡ group.Call → Given m (inst_fields InstTag.call) es dest work
  call_given e = let (t, f, vs, q) = told_as group.Call h.inst h.is e in given_as (InstKind.call t f vs) q

  pub swap_given : g ≡ group.Cmpxchg → Given m (inst_fields InstTag.cmpxchg) es dest work
  swap_given e = let (t, p, x, v, q) = told_as group.Cmpxchg h.inst h.is e in given_as (InstKind.cmpxchg t p x v) q

  pub extract_given : g ≡ group.ExtractValue → Given m (inst_fields InstTag.extract_value) es dest work
  extract_given e = let (v, i, q) = told_as group.ExtractValue h.inst h.is e in given_as (InstKind.extract_value v i) q

-- what a getelementptr and a cmpxchg's width ask
pub gep_ask : {g : InstGroup} {m : ℕ} {es : List Entry} (bk bw : List ℕ) {from dest : ℕ} {work : List ℕ} → HeldAt g m es (entries bk bw) from dest work → g ≡ group.GetElementPtr → GepAsk m bk bw work from
gep_ask {g} {m} {es} bk bw {from} {dest} {work} a e =
    let h = a.held in
    let (t, p, is, q) = told_as group.GetElementPtr h.inst h.is e in
    let j = InstKind.get_element_ptr t p is in
    record {
      holds = inst_args j;
      fields = subst (Fields m (inst_fields InstTag.get_element_ptr) (inst_args j)) a.placed (moved j q h.fields);
      ready = h.ready;
      room = h.room;
    }

pub swap_measurable : {g : InstGroup} {m : ℕ} (ks ws : List ℕ) {bs : List Entry} {work : List ℕ} → Held g m (entries ks ws) bs work → g ≡ group.Cmpxchg → Measurable m (entries ks ws) bs work
swap_measurable ks ws h e = let g = swap_given {dest = 0} h (omega arith) e in record { front = type_starts ks ws 0 g.fields; ready = h.ready }

-- ---- the lines
-- a generator that is handed the result's name
named : (g : Option ℕ → Gen) (dest : ℕ) {d : Option ℕ} {s t : Reached} {ks os ks' os' : List ℕ} → dest ≡ dest_word d → Puts (g (dest_of dest)) s t ks os ks' os' → Puts (g d) s t ks os ks' os'
named g dest {d} {s} {t} {ks} {os} {ks'} {os'} e p = subst (λ (o : Option ℕ). Puts (g o) s t ks os ks' os') (ap dest_of e ∙ dest_is d) p

module _ (c : FnCtx) (d : Option ℕ) {g : InstGroup} {m : ℕ} {es bs : List Entry} {work : List ℕ} {s t : Reached} {ks os ks' os' : List ℕ} (k : InstKind)
    (is : g ≡ inst_group_of (some (inst_tag_of k))) (f : Fields m (inst_fields (inst_tag_of k)) (inst_args k) es) where
  pub alloca_arm : g ≡ group.Alloca → (dest : ℕ) → dest ≡ dest_word d
      → ((p : Meanings (inst_fields InstTag.alloca)) → Fields m (inst_fields InstTag.alloca) p es → Did (gen_alloca c (dest_of dest) p.0 p.1.0 p.1.1.0) m bs c work s t ks os ks' os')
      → Did (body_gen c d k) m bs c work s t ks os ks' os'
  unfolding body_gen
  alloca_arm e dest i h =
      let (t, n, a, q) = told_as group.Alloca k is e in
      let j = InstKind.alloca t n a in
      let r = h (inst_args j) (moved j q f) in
      as_kind c d j q (record { puts = named (λ o. gen_alloca c o t n a) dest i r.puts; maps = r.maps })

  pub gep_arm : g ≡ group.GetElementPtr
      → ((p : Meanings (inst_fields InstTag.get_element_ptr)) → Fields m (inst_fields InstTag.get_element_ptr) p es → Did (gen_gep c p.0 p.1.0 p.1.1.0) m bs c work s t ks os ks' os')
      → Did (body_gen c d k) m bs c work s t ks os ks' os'
  unfolding body_gen
  gep_arm e h = let (t, p, xs, q) = told_as group.GetElementPtr k is e in let j = InstKind.get_element_ptr t p xs in as_kind c d j q (h (inst_args j) (moved j q f))

  pub call_arm : g ≡ group.Call → (dest : ℕ) → dest ≡ dest_word d → Maps m bs c work
      → ((p : Meanings (inst_fields InstTag.call)) → Fields m (inst_fields InstTag.call) p es → Puts (gen_call c (dest_of dest) p.0 p.1.0 p.1.1.0) s t ks os ks' os')
      → Did (body_gen c d k) m bs c work s t ks os ks' os'
  unfolding body_gen
  call_arm e dest i maps h =
      let (t, g, vs, q) = told_as group.Call k is e in
      let j = InstKind.call t g vs in
      as_kind c d j q (record { puts = named (λ o. gen_call c o t g vs) dest i (h (inst_args j) (moved j q f)); maps = maps })

  pub extract_arm : g ≡ group.ExtractValue → (dest : ℕ) → dest ≡ dest_word d → Maps m bs c work
      → ((p : Meanings (inst_fields InstTag.extract_value)) → Fields m (inst_fields InstTag.extract_value) p es → Puts (gen_extract_value c p.0 p.1.0 (dest_of dest)) s t ks os ks' os')
      → Did (body_gen c d k) m bs c work s t ks os ks' os'
  unfolding body_gen
  extract_arm e dest i maps h =
      let (v, n, q) = told_as group.ExtractValue k is e in
      let j = InstKind.extract_value v n in
      as_kind c d j q (record { puts = named (λ o. gen_extract_value c v n o) dest i (h (inst_args j) (moved j q f)); maps = maps })

-- a cmpxchg: the width, then the swap
pub swap_arm : (c : FnCtx) (d : Option ℕ) {g : InstGroup} {m : ℕ} {es bs : List Entry} {work : List ℕ} {s t u : Reached} {ks os ks' os' : List ℕ} (k : InstKind)
    → g ≡ inst_group_of (some (inst_tag_of k)) → Fields m (inst_fields (inst_tag_of k)) (inst_args k) es → g ≡ group.Cmpxchg → (dest : ℕ) → dest ≡ dest_word d
    → ((p : Meanings (inst_fields InstTag.cmpxchg)) → Fields m (inst_fields InstTag.cmpxchg) p es → Did (require_atomic_width c p.0) m bs c work s t ks os ks os)
    → ((p : Meanings (inst_fields InstTag.cmpxchg)) → Fields m (inst_fields InstTag.cmpxchg) p es → Puts (gen_cmpxchg c p.1.0 p.1.1.0 p.1.1.1.0 (dest_of dest)) t u ks os ks' os')
    → Did (body_gen c d k) m bs c work s u ks os ks' os'
unfolding body_gen
swap_arm c d {g} {m} {es} {bs} {work} {s} {t} {u} {ks} {os} {ks'} {os'} k is f e dest i w swap =
    let (ty, p, x, v, q) = told_as group.Cmpxchg k is e in
    let j = InstKind.cmpxchg ty p x v in
    let h = w (inst_args j) (moved j q f) in
    let r = subst (λ (o : Option ℕ). Puts (gen_cmpxchg c p x v o) t u ks os ks' os') (ap dest_of i ∙ dest_is d) (swap (inst_args j) (moved j q f)) in
    as_kind c d j q (record { puts = then_puts h.puts r; maps = h.maps })

-- phis and fences: nothing; no instruction is of another group
module _ (c : FnCtx) (d : Option ℕ) {g : InstGroup} {m : ℕ} {bs : List Entry} {work : List ℕ} (s : Reached) (ks os : List ℕ) (k : InstKind)
    (is : g ≡ inst_group_of (some (inst_tag_of k))) (maps : Maps m bs c work) where
  pub phi_arm : g ≡ group.Phi → Did (body_gen c d k) m bs c work s s ks os ks os
  unfolding body_gen
  phi_arm e = let (t, vs, q) = told_as group.Phi k is e in as_kind c d (InstKind.phi t vs) q (record { puts = skip_puts s ks os; maps = maps })

  pub fence_arm : g ≡ group.Fence → Did (body_gen c d k) m bs c work s s ks os ks os
  unfolding body_gen
  fence_arm e = as_kind c d InstKind.fence (told_as group.Fence k is e) (record { puts = skip_puts s ks os; maps = maps })

  pub other_arm : g ≡ group.Other → Did (body_gen c d k) m bs c work s s ks os ks os
  other_arm e = absurd (told_as group.Other k is e)
