-- An instruction in front of the entries lent: what its entry and the group of its kind tell.
use Rattle.std.specs.Prelude.{ℕ, ◌+◌, ◌<◌, ◌≤◌, ◌≡◌, refl, List, ◌∷◌, ◌++◌, length, drop, get_or}
use Rattle.std.proofs.Common.{sym, ap, subst, ◌∙◌, arith, length-drop}
use Rattle.std.proofs.Math.Option.{Option, none, some}
use Rattle.book.specs.Ast.{Ty, Value, TypedVal, Incoming, InstKind, Inst}
use Rattle.book.specs.Entry.{entry, entries}
use Rattle.book.specs.Kinds.{inst_kind, inst_tag}
use Rattle.book.specs.Ops.{bin_of, bin_same, conv_of, conv_same, icmp_of, icmp_same}
use Rattle.book.specs.Fields.{inst_fields, inst_tag_of, inst_args}
use Rattle.book.specs.Encode.{enc_inst, enc_fields, dest_word}
use Rattle.book.specs.Limits.{Maybe, NameLimits}
use Rattle.book.specs.AgreeInst.{inst_found}
use Rattle.book_insts.specs.Insts.{inst_group_of}
use Rattle.book_insts.specs.declared.InstGroup.{InstGroup}
use Rattle.book_insts.specs.declared.InstGroup.TheVariants as group
use Rattle.gen_values.specs.Fields.{Fields, InstAt, entry_at}

module _ {m : ℕ} {i : Inst} (ks ws : List ℕ) (h : InstAt m i (entries ks ws)) where
  front : entries ks ws ≡ entry (inst_kind (inst_tag_of i.kind)) (dest_word i.dest) ∷ (enc_fields (inst_fields (inst_tag_of i.kind)) (inst_args i.kind) ++ h.rest)
  unfolding enc_inst
  front = h.here

  -- its kind and its result word
  pub kind_is : get_or ks 0 0 ≡ inst_kind (inst_tag_of i.kind)
  kind_is = (entry_at ks ws 0 _ _ front).0

  pub dest_word_lem : get_or ws 0 0 ≡ dest_word i.dest
  dest_word_lem = (entry_at ks ws 0 _ _ front).1

  pub inst_in : (0 < length ks) × (0 < length ws)
  inst_in = let q = entry_at ks ws 0 _ _ front in (q.2, q.3)

  -- its fields, behind that entry
  pub fields_behind_lem : Fields m (inst_fields (inst_tag_of i.kind)) (inst_args i.kind) (drop 1 (entries ks ws))
  fields_behind_lem =
      record {
        rest = h.rest;
        here = (entry_at ks ws 0 _ _ front).4;
        keeps = h.keeps.1;
        few = omega (arith, h.few, length-drop 1 (entries ks ws));
      }

-- ---- what the group tells
abbrev pub Told : InstGroup → InstKind → Type 0
Told (group.Bin op) k = (ty : Ty) × (l : Value) × (r : Value) × (k ≡ InstKind.bin (bin_of op) ty l r)
Told (group.Conv op) k = (from : Ty) × (v : Value) × (to : Ty) × (k ≡ InstKind.conv (conv_of op) from v to)
Told (group.ICmp p) k = (ty : Ty) × (l : Value) × (r : Value) × (k ≡ InstKind.icmp (icmp_of p) ty l r)
Told group.Select k = (test : Value) × (ty : Ty) × (l : Value) × (r : Value) × (k ≡ InstKind.select test ty l r)
Told group.Load k = (ty : Ty) × (p : Value) × (a : Option ℕ) × (k ≡ InstKind.load ty p a)
Told group.Store k = (ty : Ty) × (v : Value) × (p : Value) × (a : Option ℕ) × (k ≡ InstKind.store ty v p a)
Told group.Alloca k = (ty : Ty) × (n : Option TypedVal) × (a : Option ℕ) × (k ≡ InstKind.alloca ty n a)
Told group.GetElementPtr k = (ty : Ty) × (p : Value) × (is : List TypedVal) × (k ≡ InstKind.get_element_ptr ty p is)
Told group.Phi k = (ty : Ty) × (vs : List Incoming) × (k ≡ InstKind.phi ty vs)
Told group.Call k = (ty : Ty) × (f : Value) × (vs : List TypedVal) × (k ≡ InstKind.call ty f vs)
Told group.Freeze k = (ty : Ty) × (v : Value) × (k ≡ InstKind.freeze ty v)
Told group.AtomicLoad k = (ty : Ty) × (p : Value) × (k ≡ InstKind.atomic_load ty p)
Told group.AtomicStore k = (ty : Ty) × (v : Value) × (p : Value) × (k ≡ InstKind.atomic_store ty v p)
Told group.Cmpxchg k = (ty : Ty) × (p : Value) × (x : Value) × (v : Value) × (k ≡ InstKind.cmpxchg ty p x v)
Told group.ExtractValue k = (v : Value) × (n : ℕ) × (k ≡ InstKind.extract_value v n)
Told group.Fence k = k ≡ InstKind.fence
Told group.Other k = ⊥

told : (k : InstKind) → Told (inst_group_of (some (inst_tag_of k))) k
told (InstKind.bin op ty l r) = (ty, l, r, ap (λ o. InstKind.bin o ty l r) (sym (bin_same op)))
told (InstKind.conv op t v u) = (t, v, u, ap (λ o. InstKind.conv o t v u) (sym (conv_same op)))
told (InstKind.icmp p ty l r) = (ty, l, r, ap (λ o. InstKind.icmp o ty l r) (sym (icmp_same p)))
told (InstKind.select t ty l r) = (t, ty, l, r, refl)
told (InstKind.load t p a) = (t, p, a, refl)
told (InstKind.store t v p a) = (t, v, p, a, refl)
told (InstKind.alloca t n a) = (t, n, a, refl)
told (InstKind.get_element_ptr t p is) = (t, p, is, refl)
told (InstKind.phi t vs) = (t, vs, refl)
told (InstKind.call t f vs) = (t, f, vs, refl)
told (InstKind.freeze t v) = (t, v, refl)
told (InstKind.atomic_load t p) = (t, p, refl)
told (InstKind.atomic_store t v p) = (t, v, p, refl)
told (InstKind.cmpxchg t p c v) = (t, p, c, v, refl)
told (InstKind.extract_value v i) = (v, i, refl)
told InstKind.fence = refl

-- an instruction of this group
pub told_as : (j : InstGroup) {g : InstGroup} (k : InstKind) → g ≡ inst_group_of (some (inst_tag_of k)) → g ≡ j → Told j k
told_as j k e i = subst (λ (g : InstGroup). Told g k) (sym e ∙ i) (told k)

-- the group of its kind
pub group_is : {n : ℕ} {g : InstGroup} (k : InstKind) → n ≡ inst_kind (inst_tag_of k) → g ≡ inst_group_of (inst_tag n) → g ≡ inst_group_of (some (inst_tag_of k))
group_is k e i = i ∙ ap (λ n. inst_group_of (inst_tag n)) e ∙ ap inst_group_of (inst_found (inst_tag_of k))

-- ---- the result word
pub dest_below : (m : ℕ) (d : Option ℕ) → Maybe (NameLimits m) d → dest_word d ≤ m
dest_below m none k = omega arith
dest_below m (some x) k = omega (arith, k)
