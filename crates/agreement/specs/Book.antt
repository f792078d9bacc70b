-- What an accepted book and the naming conditions say of a function: its types have a book's widths, its names are apart, a cmpxchg has two slots.
use Rattle.std.specs.Prelude.{ℕ, ◌≡◌}
use Rattle.std.proofs.Math.Path.{refl}
use Rattle.std.proofs.Common.{subst}
use Rattle.std.proofs.Math.Logic.{⊎_elim}
use Rattle.std.proofs.Math.Option.{Option, none, some}
use mathlib.Core.List.{List, [], ◌∷◌, ◌++◌}
use Rattle.numbers.specs.Width.{width_ok}
use Rattle.book.specs.Ast.{Ty, TypedVal, InstKind, Inst, Terminator, BasicBlock}
use Rattle.book.specs.Result.{ok, err_no_ok}
use Rattle.book.specs.Shape.{Shape, shape, all_insts}
use Rattle.book.specs.Fields.{inst_fields, inst_tag_of, inst_args}
use Rattle.book.specs.Limits.{Each, Maybe, Parts, TyLimits, TypedLimits, IndexLimits, FieldsLimits, InstLimits, TermLimits, BlockLimits}
use Rattle.lowering.specs.Operand.{int_width}
use Rattle.lowering.specs.Context.{slots_for, no_slots}
use Rattle.layout.specs.Frame.{frame_pass, no_frame}
use Rattle.lowering.specs.Function.{slots_of}
use Rattle.agreement.specs.Holds.{ok_same, H-use}
use Rattle.agreement.specs.Lists.{none_some, In, here, there, in_left, in_right}
use Rattle.agreement.specs.Setup.{Setup}
use Rattle.agreement.specs.Names.{apart, distinct_right, param_name, slot_name}
use Rattle.agreement.specs.Slots.{second_slot}
use Rattle.agreement.specs.Relation.{Apart, arg_of}
use Rattle.agreement.specs.Operand.{Sound}
use Rattle.agreement.specs.Alloca.{SoundCount}
use Rattle.agreement.specs.Gep.{SoundIndices}
use Rattle.agreement.specs.Cmpxchg.{TwoSlots}
use Rattle.agreement.specs.Inst.{Good}
use Rattle.agreement.specs.Measures.{HasPlace}
use Rattle.agreement.specs.Term.{GoodTerm, SoundRet}
use Rattle.agreement.specs.Frame.{varying_place, fixed_place_lem}
use Rattle.agreement.specs.Naming.{param_names, result_names, Distinct, NoSelf}
use Rattle.book.specs.Map.{lookup}

-- ---- the book's types
module _ (m : ℕ) where
  sound_parts : (ty : Ty) → Parts m ty → Sound ty
  unfolding Parts int_width width_ok
  sound_parts (Ty.int v) h = record { width = λ w e. let i : v ≡ w = ok_same e in rw (← i) h }
  sound_parts Ty.ptr h = record { width = λ w e. let i : 64 ≡ w = ok_same e in rw (← i) refl }
  sound_parts Ty.void h = record { width = λ w e. err_no_ok 9 w e }
  sound_parts (Ty.sizeless k) h = record { width = λ w e. err_no_ok 9 w e }
  sound_parts (Ty.array p n t) h = record { width = λ w e. err_no_ok 9 w e }
  sound_parts (Ty.named_struct x) h = record { width = λ w e. err_no_ok 9 w e }
  sound_parts (Ty.struct p ts) h = record { width = λ w e. err_no_ok 9 w e }

  sound_ty : (ty : Ty) → TyLimits m ty → Sound ty
  sound_ty ty h = sound_parts ty h.parts

  sound_typed : (vs : List TypedVal) → Each (TypedLimits m) vs → SoundIndices vs
  sound_typed [] h = tt
  sound_typed (v ∷ vs) h = (sound_ty v.ty h.0.0, sound_typed vs h.1)

  sound_indices : (vs : List TypedVal) → Each (IndexLimits m) vs → SoundIndices vs
  sound_indices [] h = tt
  sound_indices (v ∷ vs) h = (sound_ty v.ty h.0.0.0, sound_indices vs h.1)

  sound_count : (n : Option TypedVal) → Maybe (TypedLimits m) n → SoundCount n
  sound_count none h = tt
  sound_count (some v) h = sound_ty v.ty h.0

  sound_ret : (n : Option TypedVal) → Maybe (TypedLimits m) n → SoundRet n
  sound_ret none h = tt
  sound_ret (some v) h = sound_ty v.ty h.0

  pub good_term : (t : Terminator) → TermLimits m t → GoodTerm t
  good_term (Terminator.ret v) h = sound_ret v h.0
  good_term (Terminator.br v t f) h = tt
  good_term (Terminator.switch ty v d ks) h = sound_ty ty h.0
  good_term Terminator.unreachable h = tt

-- ---- members of lists
pub each_in : {A : Type 0} (P : A → Type 0) {a : A} (l : List A) → Each P l → In a l → P a
each_in {A = A} P {a = a} [] h x'' = elim x'' [ ]
each_in P (x ∷ l) h here = h.0
each_in P (x ∷ l) h (there i) = each_in P l h.1 i

pub inst_in : {i : Inst} {k : BasicBlock} (bs : List BasicBlock) → In k bs → In i k.insts → In i (all_insts bs)
unfolding all_insts
inst_in {i = i} {k = k} [] x'' h = elim x'' [ ]
inst_in (k ∷ bs) here h = in_left (all_insts bs) h
inst_in (j ∷ bs) (there q) h = in_right j.insts (inst_in bs q h)

module _ (s : Setup) where
  abbrev insts : List Inst
  insts = all_insts s.function.blocks

  -- ---- names of results are no names of parameters
  pub apart_ok : Distinct (param_names s.function.params ++ result_names insts) → Apart s
  unfolding Apart slots_of no_slots lookup
  apart_ok d x i h = go (arg_of s x) refl
    where
      go : (r : Option ℕ) → arg_of s x ≡ r → r ≡ none
      go none e = refl
      go (some j) e =
          absurd (⊎_elim (λ p. ⊎_elim (λ q. apart (param_names s.function.params) (result_names insts) d p q) (λ q. none_some i q)
          (slot_name s.codegen.names x i insts no_slots h)) (λ q. none_some j q) (param_name x 0 j s.function.params [] e))

  module _ (d : Distinct (param_names s.function.params ++ result_names insts)) (pass : frame_pass s.codegen.structs insts no_frame ≡ ok s.frame) (self : NoSelf insts) (m : ℕ) where
    results : Distinct (result_names insts)
    results = distinct_right (param_names s.function.params) (result_names insts) d

    two_slots : {i : Inst} (x : ℕ) → In i insts → i.dest ≡ some x → shape i.kind ≡ Shape.cmpxchg → TwoSlots s x
    unfolding slots_of slots_for
    two_slots x h e k j l = second_slot s.codegen.names x insts h e (rw k refl) results j l

    good_case : (dest : Option ℕ) (k : InstKind) → In (record { dest = dest; kind = k }) insts → FieldsLimits m (inst_fields (inst_tag_of k)) (inst_args k) → Good s dest k
    unfolding shape NoSelf
    good_case dest (InstKind.bin op ty a b) i h = sound_ty m ty h.0
    good_case dest (InstKind.conv op t v t') i h = (sound_ty m t h.0, sound_ty m t' h.1.1.0)
    good_case dest (InstKind.icmp p ty a b) i h = sound_ty m ty h.0
    good_case dest (InstKind.select c ty a b) i h = sound_ty m ty h.1.0
    good_case dest (InstKind.load ty p a) i h = sound_ty m ty h.0
    good_case dest (InstKind.store ty v p a) i h = sound_ty m ty h.0
    good_case dest (InstKind.alloca ty n a) i h =
        (sound_count m n h.1.0, λ x e v. H-use s.frame pass (varying_place s.codegen.structs x ty n insts i e refl v results))
    good_case dest (InstKind.get_element_ptr ty p is) i h = sound_indices m is h.1.1.0.1
    good_case dest (InstKind.phi ty is) i h = sound_ty m ty h.0
    good_case dest (InstKind.call ty v as') i h = sound_typed m as' h.1.1.0
    good_case dest (InstKind.freeze ty v) i h = sound_ty m ty h.0
    good_case dest (InstKind.atomic_load ty p) i h = sound_ty m ty h.0
    good_case dest (InstKind.atomic_store ty v p) i h = sound_ty m ty h.0
    good_case dest (InstKind.cmpxchg ty p c n) i h =
        (sound_ty m ty h.0, λ x e. (two_slots x i e refl, self x ty p c n (subst (λ z. In (record { dest = z; kind = InstKind.cmpxchg ty p c n }) insts) e i)))
    good_case dest (InstKind.extract_value v n) i h = tt
    good_case dest InstKind.fence i h = tt

    pub good_inst : Each (BlockLimits m) s.function.blocks → (k : BasicBlock) → In k s.function.blocks → (i : Inst) → In i k.insts → Good s i.dest i.kind
    good_inst h k q i p =
        let b = each_in (BlockLimits m) s.function.blocks h q in
        let l = each_in (InstLimits m) k.insts b.1.0 p in
        good_case i.dest i.kind (inst_in s.function.blocks q p) l.1

    -- a fixed place of the function has its offset
    pub has_place : (k : BasicBlock) → In k s.function.blocks → (i : Inst) → In i k.insts → HasPlace s i.dest i.kind
    has_place k q i p x n ty count e h c = H-use s.frame pass (fixed_place_lem s.codegen.structs x ty count n insts no_frame (inst_in s.function.blocks q p) e h c results)
