-- Instructions that put a value into their result's slot and measure nothing: operations, comparisons, conversions, selects.
use Rattle.std.specs.Prelude.{ℕ, ◌≡◌, List}
use Rattle.std.proofs.Math.Option.{Option, some}
use Rattle.book.specs.Ast.{InstKind}
use Rattle.book.specs.Entry.{Entry}
use Rattle.book.specs.Fields.{Meanings, inst_fields, inst_tag_of, inst_args}
use Rattle.book.specs.Ops.{bin_of, conv_of, icmp_of}
use Rattle.book.specs.declared.ops.BinOp.{BinOp}
use Rattle.book.specs.declared.ops.ConvOp.{ConvOp}
use Rattle.book.specs.declared.ops.ICmpPred.{ICmpPred}
use Rattle.book_insts.specs.Insts.{inst_group_of}
use Rattle.book_insts.specs.declared.InstGroup.{InstGroup}
use Rattle.book_insts.specs.declared.InstGroup.TheVariants as group
use Rattle.lowering.specs.Context.{FnCtx}
use Rattle.lowering.specs.Arith.{gen_bin, gen_icmp, gen_conv, gen_select}
use Rattle.gen_lines.specs.declared.Reached.{Reached}
use Rattle.gen_lines.specs.Puts.{Puts}
use Rattle.gen_values.specs.Fields.{Fields}
use Rattle.gen_values.specs.Maps.{Maps, Did}
use Rattle.gen_arith.specs.Arith.{There, two_values, converted}
use Rattle.gen_select.specs.Select.{selected}
use Rattle.gen_inst.specs.Body.{body_gen}
use Rattle.gen_inst.specs.Held.{Held, moved, as_kind}
use Rattle.gen_inst.specs.View.{told_as}

module _ {g : InstGroup} {m : ℕ} {es bs : List Entry} {work : List ℕ} (h : Held g m es bs work) where
  there_as : (j : InstKind) → h.inst ≡ j → There (inst_fields (inst_tag_of j)) m es work
  there_as j e = record { holds = inst_args j; fields = moved j e h.fields; room = h.room }

  pub bin_there : {o : BinOp} → g ≡ group.Bin o → There two_values m es work
  bin_there {o} e = let (ty, l, r, q) = told_as (group.Bin o) h.inst h.is e in there_as (InstKind.bin (bin_of o) ty l r) q

  pub conv_there : {o : ConvOp} → g ≡ group.Conv o → There converted m es work
  conv_there {o} e = let (t, v, u, q) = told_as (group.Conv o) h.inst h.is e in there_as (InstKind.conv (conv_of o) t v u) q

  pub icmp_there : {o : ICmpPred} → g ≡ group.ICmp o → There two_values m es work
  icmp_there {o} e = let (ty, l, r, q) = told_as (group.ICmp o) h.inst h.is e in there_as (InstKind.icmp (icmp_of o) ty l r) q

  pub select_there : g ≡ group.Select → There selected m es work
  select_there e = let (t, ty, l, r, q) = told_as group.Select h.inst h.is e in there_as (InstKind.select t ty l r) q

-- ---- the lines
module _ (c : FnCtx) (d : Option ℕ) {g : InstGroup} {m : ℕ} {es bs : List Entry} {work : List ℕ} {s t : Reached} {ks os ks' os' : List ℕ} (k : InstKind)
    (is : g ≡ inst_group_of (some (inst_tag_of k))) (f : Fields m (inst_fields (inst_tag_of k)) (inst_args k) es) (maps : Maps m bs c work) where
  -- the maps stay as they are
  value : (j : InstKind) → k ≡ j → Puts (body_gen c d j) s t ks os ks' os' → Did (body_gen c d k) m bs c work s t ks os ks' os'
  value j e p = as_kind c d j e (record { puts = p; maps = maps })

  pub bin_arm : {o : BinOp} → g ≡ group.Bin o
      → ((p : Meanings two_values) → Fields m two_values p es → Puts (gen_bin c (bin_of o) p.0 p.1.0 p.1.1.0) s t ks os ks' os') → Did (body_gen c d k) m bs c work s t ks os ks' os'
  unfolding body_gen
  bin_arm {o} e h = let (ty, l, r, q) = told_as (group.Bin o) k is e in let j = InstKind.bin (bin_of o) ty l r in value j q (h (inst_args j) (moved j q f))

  pub conv_arm : {o : ConvOp} → g ≡ group.Conv o
      → ((p : Meanings converted) → Fields m converted p es → Puts (gen_conv c (conv_of o) p.0 p.1.0 p.1.1.0) s t ks os ks' os') → Did (body_gen c d k) m bs c work s t ks os ks' os'
  unfolding body_gen
  conv_arm {o} e h = let (from, v, to, q) = told_as (group.Conv o) k is e in let j = InstKind.conv (conv_of o) from v to in value j q (h (inst_args j) (moved j q f))

  pub icmp_arm : {o : ICmpPred} → g ≡ group.ICmp o
      → ((p : Meanings two_values) → Fields m two_values p es → Puts (gen_icmp c (icmp_of o) p.0 p.1.0 p.1.1.0) s t ks os ks' os') → Did (body_gen c d k) m bs c work s t ks os ks' os'
  unfolding body_gen
  icmp_arm {o} e h = let (ty, l, r, q) = told_as (group.ICmp o) k is e in let j = InstKind.icmp (icmp_of o) ty l r in value j q (h (inst_args j) (moved j q f))

  pub select_arm : g ≡ group.Select
      → ((p : Meanings selected) → Fields m selected p es → Puts (gen_select c p.0 p.1.0 p.1.1.0 p.1.1.1.0) s t ks os ks' os')
      → Did (body_gen c d k) m bs c work s t ks os ks' os'
  unfolding body_gen
  select_arm e h = let (test, ty, l, r, q) = told_as group.Select k is e in let j = InstKind.select test ty l r in value j q (h (inst_args j) (moved j q f))
