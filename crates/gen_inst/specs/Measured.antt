-- Loads, stores and freezes, atomic ones among them: the instruction by its group, and its lines.
use Rattle.std.specs.Prelude.{ℕ, ◌≡◌, List}
use Rattle.std.proofs.Math.Option.{Option, some}
use Rattle.book.specs.Ast.{InstKind}
use Rattle.book.specs.Entry.{Entry}
use Rattle.book.specs.Kinds.{InstTag}
use Rattle.book.specs.Fields.{Meanings, inst_fields, inst_tag_of, inst_args}
use Rattle.book_insts.specs.Insts.{inst_group_of}
use Rattle.book_insts.specs.declared.InstGroup.{InstGroup}
use Rattle.book_insts.specs.declared.InstGroup.TheVariants as group
use Rattle.lowering.specs.Context.{FnCtx}
use Rattle.lowering.specs.Arith.{gen_freeze}
use Rattle.lowering.specs.Memory.{gen_load, gen_store, gen_atomic_load, gen_atomic_store}
use Rattle.gen_lines.specs.declared.Reached.{Reached}
use Rattle.gen_values.specs.Fields.{Fields}
use Rattle.gen_values.specs.Maps.{Did}
use Rattle.gen_size.specs.Lent.{Lent}
use Rattle.gen_inst.specs.Body.{body_gen}
use Rattle.gen_inst.specs.View.{told_as}
use Rattle.gen_inst.specs.Held.{Held, moved, as_kind}

module _ {g : InstGroup} {m : ℕ} {es bs : List Entry} {work : List ℕ} (h : Held g m es bs work) where
  lent_as : (j : InstKind) → h.inst ≡ j → Lent m (inst_fields (inst_tag_of j)) es bs work
  lent_as j e = record { holds = inst_args j; fields = moved j e h.fields; ready = h.ready }

  pub load_lent : g ≡ group.Load → Lent m (inst_fields InstTag.load) es bs work
  load_lent e = let (t, p, a, q) = told_as group.Load h.inst h.is e in lent_as (InstKind.load t p a) q

  pub store_lent : g ≡ group.Store → Lent m (inst_fields InstTag.store) es bs work
  store_lent e = let (t, v, p, a, q) = told_as group.Store h.inst h.is e in lent_as (InstKind.store t v p a) q

  pub freeze_lent : g ≡ group.Freeze → Lent m (inst_fields InstTag.freeze) es bs work
  freeze_lent e = let (t, v, q) = told_as group.Freeze h.inst h.is e in lent_as (InstKind.freeze t v) q

  pub atomic_load_lent : g ≡ group.AtomicLoad → Lent m (inst_fields InstTag.atomic_load) es bs work
  atomic_load_lent e = let (t, p, q) = told_as group.AtomicLoad h.inst h.is e in lent_as (InstKind.atomic_load t p) q

  pub atomic_store_lent : g ≡ group.AtomicStore → Lent m (inst_fields InstTag.atomic_store) es bs work
  atomic_store_lent e = let (t, v, p, q) = told_as group.AtomicStore h.inst h.is e in lent_as (InstKind.atomic_store t v p) q

module _ (c : FnCtx) (d : Option ℕ) {g : InstGroup} {m : ℕ} {es bs : List Entry} {work : List ℕ} {s t : Reached} {ks os ks' os' : List ℕ} (k : InstKind)
    (is : g ≡ inst_group_of (some (inst_tag_of k))) (f : Fields m (inst_fields (inst_tag_of k)) (inst_args k) es) where
  pub load_arm : g ≡ group.Load → ((p : Meanings (inst_fields InstTag.load)) → Fields m (inst_fields InstTag.load) p es → Did (gen_load c p.0 p.1.0) m bs c work s t ks os ks' os')
      → Did (body_gen c d k) m bs c work s t ks os ks' os'
  unfolding body_gen
  load_arm e h = let (t, p, a, q) = told_as group.Load k is e in let j = InstKind.load t p a in as_kind c d j q (h (inst_args j) (moved j q f))

  pub store_arm : g ≡ group.Store
      → ((p : Meanings (inst_fields InstTag.store)) → Fields m (inst_fields InstTag.store) p es → Did (gen_store c p.0 p.1.0 p.1.1.0) m bs c work s t ks os ks' os')
      → Did (body_gen c d k) m bs c work s t ks os ks' os'
  unfolding body_gen
  store_arm e h = let (t, v, p, a, q) = told_as group.Store k is e in let j = InstKind.store t v p a in as_kind c d j q (h (inst_args j) (moved j q f))

  pub freeze_arm : g ≡ group.Freeze → ((p : Meanings (inst_fields InstTag.freeze)) → Fields m (inst_fields InstTag.freeze) p es → Did (gen_freeze c p.0 p.1.0) m bs c work s t ks os ks' os')
      → Did (body_gen c d k) m bs c work s t ks os ks' os'
  unfolding body_gen
  freeze_arm e h = let (t, v, q) = told_as group.Freeze k is e in let j = InstKind.freeze t v in as_kind c d j q (h (inst_args j) (moved j q f))

  pub atomic_load_arm : g ≡ group.AtomicLoad
      → ((p : Meanings (inst_fields InstTag.atomic_load)) → Fields m (inst_fields InstTag.atomic_load) p es → Did (gen_atomic_load c p.0 p.1.0) m bs c work s t ks os ks' os')
      → Did (body_gen c d k) m bs c work s t ks os ks' os'
  unfolding body_gen
  atomic_load_arm e h = let (t, p, q) = told_as group.AtomicLoad k is e in let j = InstKind.atomic_load t p in as_kind c d j q (h (inst_args j) (moved j q f))

  pub atomic_store_arm : g ≡ group.AtomicStore
      → ((p : Meanings (inst_fields InstTag.atomic_store)) → Fields m (inst_fields InstTag.atomic_store) p es → Did (gen_atomic_store c p.0 p.1.0 p.1.1.0) m bs c work s t ks os ks' os')
      → Did (body_gen c d k) m bs c work s t ks os ks' os'
  unfolding body_gen
  atomic_store_arm e h = let (t, v, p, q) = told_as group.AtomicStore k is e in let j = InstKind.atomic_store t v p in as_kind c d j q (h (inst_args j) (moved j q f))
