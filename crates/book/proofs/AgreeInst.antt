-- Fields, instructions and terminators: decoder and encoder agree.
use Prim.Native.Nat.{ℕ, suc, ◌+◌, ◌-◌, ◌≤◌, ◌<◌, ◌^◌}
use Rattle.std.specs.Prelude.{◌≡◌, Bool, true, false, eqb, ltb, leb}
use Rattle.std.proofs.Math.Path.{refl, ap}
use Rattle.std.proofs.Common.{◌∙◌, subst, arith, eqb-true, ne_eqb, ltb-true, lt-ltb, leb-true, le-leb}
use Rattle.std.proofs.Math.Option.{Option, none, some}
use mathlib.Core.List.{List, [], ◌∷◌}
use Rattle.std.proofs.Math.Numerals.{one-add}
use Rattle.std.proofs.lemmas.Bool.{eqb-false}
use Rattle.numbers.specs.Align.{is_align}
use Rattle.book.specs.Entry.{Entry, entry}
use Rattle.book.specs.Ast.{InstKind, Terminator}
use Rattle.book.specs.Rule.{when, pick, unmentioned}
use Rattle.book.specs.Kinds.{InstTag, TermTag, inst_kind, term_kind, inst_tag, term_tag}
use Rattle.book.specs.Fields.{Item, Field, Meanings, inst_fields, term_fields, inst_of, term_of, inst_tag_of, term_tag_of, inst_args, term_args}
use Rattle.book.specs.Read.{Read, got, bad, and_then, behind, mapped, word, is_closing, many}
use Rattle.book.specs.Decode.{name, maybe_name, type, value, typed_val, index_fits, block, index, align, gep_index, incoming, case, param, item, field, fields, tagged_as, tagged, inst, term}
use Rattle.book.specs.Encode.{closed, enc_ty, enc_value, enc_typed, enc_block, enc_number, enc_incoming, enc_case, dest_word, enc_param, enc_item, enc_field, enc_fields, enc_inst, enc_term}
use Rattle.book.specs.Limits.{Each, Maybe, TyLimits, ValueLimits, NameLimits, TypedLimits, AlignLimits, IndexLimits, IncomingLimits, CaseLimits, ParamLimits, ItemLimits, FieldLimits, FieldsLimits, InstLimits, TermLimits}
use Rattle.book.specs.Agree.{Begins, Sound, Complete, Agrees, no_got, no_some, moved, when_some, entry_is, agrees_word, agrees_both, agrees_mapped, agrees_filtered, agrees_optional, is_absent}
use Rattle.book.proofs.AgreeTy.{agrees_list, agrees_many, agrees_type, agrees_value, agrees_typed}
use Rattle.book.specs.AgreeInst.{item_head, not_closing, not_absent, inst_is, inst_found, term_is, term_found}

-- a word that passes a test
pub agrees_number : (k : ℕ) (test : ℕ → Bool) → Agrees (word k (λ w. when (test w) w)) (λ x. entry k x ∷ []) (λ x. test x ≡ true)
agrees_number k test =
    agrees_word k (λ w. when (test w) w) (λ x. x) (λ x. test x ≡ true)
    (λ w a h. let q = when_some (test w) w a h in (q.1, subst (λ x. test x ≡ true) q.1 q.0))
    (λ a h. rw h)

agrees_index : Agrees index enc_number (λ i. i < 2 ^ 32)
unfolding index
agrees_index = record {
  sound = λ es a n h. let b = s.sound es a n h in record { here = b.here; size = b.size; keeps = ltb-true _ _ b.keeps };
  complete = λ a rest k. s.complete a rest (lt-ltb _ _ k);
}
  where
    s : Agrees (word 22 (λ w. when (ltb w (2 ^ 32)) w)) enc_number (λ x. ltb x (2 ^ 32) ≡ true)
    s = agrees_number 22 (λ w. ltb w (2 ^ 32))

agrees_align : Agrees align enc_number AlignLimits
unfolding align
agrees_align = agrees_number 22 is_align

-- the integer of a switch case
pub agrees_integer : Agrees (word 32 some) (λ x. entry 32 x ∷ []) (λ x. Unit {0})
agrees_integer = agrees_word 32 some (λ x. x) (λ x. Unit {0}) (λ w a h. (cc, tt)) (λ a k. refl)

module _ (m : ℕ) where
  -- name + 1, or 0
  maybe_is : (w : ℕ) (d : Option ℕ) → maybe_name m w ≡ some d → (w ≡ dest_word d) × Maybe (NameLimits m) d
  maybe_is w d h = go (eqb w 0) refl h
    where
      named : (b : Bool) → leb w m ≡ b → (w ≡ 0 → ⊥) → when b (some (w - 1)) ≡ some d → (w ≡ dest_word d) × Maybe (NameLimits m) d
      named true eb nz h =
          let z : some (w - 1) ≡ d = cc in
          let l : w ≤ m = leb-true w m eb in
          subst (λ x. (w ≡ dest_word x) × Maybe (NameLimits m) x) z (omega (arith, nz), omega (arith, nz))
      named false eb nz h = no_some d h

      go : (b : Bool) → eqb w 0 ≡ b → pick b (some none) (when (leb w m) (some (w - 1))) ≡ some d → (w ≡ dest_word d) × Maybe (NameLimits m) d
      go true eb h =
          let z : none ≡ d = cc in
          subst (λ x. (w ≡ dest_word x) × Maybe (NameLimits m) x) z (eqb-true w 0 eb, tt)
      go false eb h = named (leb w m) refl (eqb-false w 0 eb) h

  maybe_found : (d : Option ℕ) → Maybe (NameLimits m) d → maybe_name m (dest_word d) ≡ some d
  maybe_found none k = refl
  maybe_found (some x) k =
      let e : x + 1 - 1 ≡ x = omega arith in
      rw (ne_eqb (x + 1) 0 (λ z. omega arith), le-leb (x + 1) m (omega arith), e)

  pub agrees_maybe_name : (k : ℕ) → Agrees (word k (maybe_name m)) (λ d. entry k (dest_word d) ∷ []) (Maybe (NameLimits m))
  agrees_maybe_name k = agrees_word k (maybe_name m) dest_word (Maybe (NameLimits m)) maybe_is maybe_found

module _ (m : ℕ) where
  -- a word that is a name
  pub agrees_name : (k : ℕ) → Agrees (word k (name m)) (λ x. entry k x ∷ []) (NameLimits m)
  agrees_name k =
      agrees_word k (name m) (λ x. x) (NameLimits m)
      (λ w a h. let q = when_some (ltb w m) w a h in (q.1, subst (λ x. x < m) q.1 (ltb-true w m q.0)))
      (λ a h. rw (lt-ltb a m h))

  pub agrees_block : Agrees (block m) enc_block (NameLimits m)
  unfolding block
  agrees_block = agrees_name 23

  agrees_gep_index : Agrees (gep_index m) enc_typed (IndexLimits m)
  unfolding gep_index
  agrees_gep_index = agrees_filtered (λ i. index_fits i.val) (typed_val m) enc_typed (TypedLimits m) (agrees_typed m)

  agrees_incoming : Agrees (incoming m) enc_incoming (IncomingLimits m)
  unfolding incoming
  agrees_incoming =
      agrees_mapped (λ p. record { val = p.0; label = p.1 }) (λ v. (v.val, v.label)) _ _ _ (λ x. refl) (λ x. refl)
      (agrees_both (value m) (block m) enc_value enc_block (ValueLimits m) (NameLimits m) (agrees_value m) agrees_block)

  agrees_case : Agrees (case m) enc_case (CaseLimits m)
  unfolding case
  agrees_case = record {
    sound = λ es a n h. let b = s.sound es a n h in record { here = b.here; size = b.size; keeps = b.keeps.1 };
    complete = λ a rest k. s.complete a rest (tt, k);
  }
    where
      s : Agrees (case m) enc_case (λ c. Unit {0} × (c.label < m))
      s =
          agrees_mapped (λ p. record { value = p.0; label = p.1 }) (λ v. (v.value, v.label)) _ _ _ (λ x. refl) (λ x. refl)
          (agrees_both (word 32 some) (block m) (λ x. entry 32 x ∷ []) enc_block (λ x. Unit {0}) (NameLimits m)
          agrees_integer agrees_block)

  agrees_param : Agrees (param m) enc_param (ParamLimits m)
  unfolding param enc_param
  agrees_param =
      agrees_mapped (λ p. record { ty = p.1; name = p.0 }) (λ p. (p.name, p.ty)) _ _ _ (λ x. refl) (λ x. refl)
      (agrees_both (word 6 (maybe_name m)) (type m) (λ d. entry 6 (dest_word d) ∷ []) enc_ty (Maybe (NameLimits m)) (TyLimits m) (agrees_maybe_name m 6) (agrees_type m))

  pub agrees_item : (i : Item) → Agrees (item m i) (enc_item i) (ItemLimits m i)
  unfolding item
  agrees_item Item.type = agrees_type m
  agrees_item Item.value = agrees_value m
  agrees_item Item.block = agrees_block
  agrees_item Item.index = agrees_index
  agrees_item Item.align = agrees_align
  agrees_item Item.typed = agrees_typed m
  agrees_item Item.gep_index = agrees_gep_index
  agrees_item Item.incoming = agrees_incoming
  agrees_item Item.case = agrees_case
  agrees_item Item.param = agrees_param

  pub agrees_items : (i : Item) → Agrees (many (item m i)) (closed (enc_item i)) (Each (ItemLimits m i))
  agrees_items i = agrees_many (item m i) (enc_item i) (ItemLimits m i) (λ a rest k. item_head is_closing not_closing i a rest) (agrees_item i)

  pub agrees_field : (f : Field) → Agrees (field m f) (enc_field f) (FieldLimits m f)
  unfolding field
  agrees_field (Field.plain i) = agrees_item i
  agrees_field (Field.optional i) = agrees_optional (item m i) (enc_item i) (ItemLimits m i) (λ a rest k. item_head is_absent not_absent i a rest) (agrees_item i)
  agrees_field (Field.list i) = agrees_items i
  agrees_field (Field.up_to n i) = agrees_list (item m i) (enc_item i) (ItemLimits m i) (λ a rest k. item_head is_closing not_closing i a rest) (agrees_item i) n

  pub agrees_fields : (fs : List Field) → Agrees (fields m fs) (enc_fields fs) (FieldsLimits m fs)
  unfolding fields enc_fields
  agrees_fields [] = record { sound = λ es a n h. moved (enc_fields []) (FieldsLimits m []) es tt a 0 n h (record { here = refl; size = refl; keeps = tt }); complete = λ a rest k. refl }
  agrees_fields (f ∷ fs) = agrees_both (field m f) (fields m fs) (enc_field f) (enc_fields fs) (FieldLimits m f) (FieldsLimits m fs) (agrees_field f) (agrees_fields fs)

-- a tag with its fields
abbrev Tagged : Type 0
Tagged = (t : InstTag) × Meanings (inst_fields t)

inst_args_lem : (t : InstTag) (p : Meanings (inst_fields t)) → ◌≡◌ {A = Tagged} (inst_tag_of (inst_of t p), inst_args (inst_of t p)) (t, p)
inst_args_lem (InstTag.bin op) p = refl
inst_args_lem (InstTag.conv op) p = refl
inst_args_lem (InstTag.icmp c) p = refl
inst_args_lem InstTag.select p = refl
inst_args_lem InstTag.load p = refl
inst_args_lem InstTag.store p = refl
inst_args_lem InstTag.alloca p = refl
inst_args_lem InstTag.get_element_ptr p = refl
inst_args_lem InstTag.phi p = refl
inst_args_lem InstTag.call p = refl
inst_args_lem InstTag.freeze p = refl
inst_args_lem InstTag.atomic_load p = refl
inst_args_lem InstTag.atomic_store p = refl
inst_args_lem InstTag.cmpxchg p = refl
inst_args_lem InstTag.extract_value p = refl
inst_args_lem InstTag.fence p = refl

inst_again : (k : InstKind) → inst_of (inst_tag_of k) (inst_args k) ≡ k
inst_again (InstKind.bin op t l r) = refl
inst_again (InstKind.conv op t v u) = refl
inst_again (InstKind.icmp p t l r) = refl
inst_again (InstKind.select c t l r) = refl
inst_again (InstKind.load t p a) = refl
inst_again (InstKind.store t v p a) = refl
inst_again (InstKind.alloca t n a) = refl
inst_again (InstKind.get_element_ptr t p is) = refl
inst_again (InstKind.phi t vs) = refl
inst_again (InstKind.call t f vs) = refl
inst_again (InstKind.freeze t v) = refl
inst_again (InstKind.atomic_load t p) = refl
inst_again (InstKind.atomic_store t v p) = refl
inst_again (InstKind.cmpxchg t p c v) = refl
inst_again (InstKind.extract_value v i) = refl
inst_again InstKind.fence = refl

abbrev TermTagged : Type 0
TermTagged = (t : TermTag) × Meanings (term_fields t)

term_args_lem : (t : TermTag) (p : Meanings (term_fields t)) → ◌≡◌ {A = TermTagged} (term_tag_of (term_of t p), term_args (term_of t p)) (t, p)
term_args_lem TermTag.ret p = refl
term_args_lem TermTag.br p = refl
term_args_lem TermTag.switch p = refl
term_args_lem TermTag.unreachable p = refl

term_again : (t : Terminator) → term_of (term_tag_of t) (term_args t) ≡ t
term_again (Terminator.ret v) = refl
term_again (Terminator.br c t f) = refl
term_again (Terminator.switch t v d cs) = refl
term_again Terminator.unreachable = refl

-- ---- an entry with its tag's fields
module _ (m : ℕ) {Tag D : Type 0} (fields_of : Tag → List Field) (tag : ℕ → Option Tag) (kind : Tag → ℕ) (rule : ℕ → Option D) (write : D → ℕ) (Keeps : D → Type 0) where
  abbrev Node : Type 0
  Node = D × ((t : Tag) × Meanings (fields_of t))

  abbrev enc_tagged : Node → List Entry
  enc_tagged x = entry (kind x.1.0) (write x.0) ∷ enc_fields (fields_of x.1.0) x.1.1

  abbrev TaggedLimits : Node → Type 0
  TaggedLimits x = Keeps x.0 × FieldsLimits m (fields_of x.1.0) x.1.1

  module _ (tag_is : (k : ℕ) (t : Tag) → tag k ≡ some t → k ≡ kind t) (rule-is : (w : ℕ) (d : D) → rule w ≡ some d → (w ≡ write d) × Keeps d) where
    tagged_sound : (e : Entry) (es : List Entry) (d : Option D) (t : Option Tag) → rule e.word ≡ d → tag e.kind ≡ t → (x : Node) (n : ℕ)
        → behind 1 (tagged_as m fields_of d t es) ≡ got x n → Begins enc_tagged TaggedLimits (e ∷ es) x n
    unfolding tagged_as mapped
    tagged_sound e es d none ed et x n h = no_got x n h
    tagged_sound e es none (some t) ed et x n h = no_got x n h
    tagged_sound e es (some d) (some t) ed et x n h = go (fields m (fields_of t) es) refl h
      where
        go : (r : Read (Meanings (fields_of t))) → fields m (fields_of t) es ≡ r
            → behind 1 (and_then r (λ p k. got (d, (t, p)) k)) ≡ got x n → Begins enc_tagged TaggedLimits (e ∷ es) x n
        go (got p k) er h =
            let s : Begins (enc_fields (fields_of t)) (FieldsLimits m (fields_of t)) es p k = (agrees_fields m (fields_of t)).sound es p k er in
            let q = rule-is e.word d ed in
            moved enc_tagged TaggedLimits (e ∷ es) (d, (t, p)) x (1 + k) n h (record {
              here = rw one-add (ap (λ x. x ∷ es) (entry_is e _ _ (tag_is _ _ et) q.0) ∙ ap (λ r. entry (kind t) (write d) ∷ r) s.here);
              size = rw one-add (ap suc s.size);
              keeps = (q.1, s.keeps);
            })
        go bad er h = no_got x n h

    agrees_tagged : ((t : Tag) → tag (kind t) ≡ some t) → ((d : D) → Keeps d → rule (write d) ≡ some d) → Agrees (tagged m fields_of tag rule) enc_tagged TaggedLimits
    unfolding tagged tagged_as mapped
    agrees_tagged tag-found Rule-found = record { sound = sound; complete = complete }
      where
        sound : Sound enc_tagged TaggedLimits (tagged m fields_of tag rule)
        sound [] x n h = no_got x n h
        sound (e ∷ es) x n h = tagged_sound e es _ _ refl refl x n h

        complete : Complete enc_tagged TaggedLimits (tagged m fields_of tag rule)
        complete x rest k =
            rw (Rule-found x.0 k.0, tag-found x.1.0, (agrees_fields m (fields_of x.1.0)).complete x.1.1 rest k.1, one-add)

module _ (m : ℕ) where
  pub agrees_inst : Agrees (inst m) enc_inst (InstLimits m)
  unfolding inst enc_inst
  agrees_inst =
      agrees_mapped (λ x. record { dest = x.0; kind = inst_of x.1.0 x.1.1 }) (λ i. (i.dest, (inst_tag_of i.kind, inst_args i.kind))) _ _ _
      (λ x. ap (λ (y : Tagged). (x.0, y)) (inst_args_lem x.1.0 x.1.1))
      (λ i. ap (λ k. record { dest = i.dest; kind = k }) (inst_again i.kind))
      (agrees_tagged m inst_fields inst_tag inst_kind (maybe_name m) dest_word (Maybe (NameLimits m)) inst_is (maybe_is m) inst_found (maybe_found m))

  pub agrees_term : Agrees (term m) enc_term (TermLimits m)
  unfolding term enc_term
  agrees_term = record {
    sound = λ es a n h. let b = s.sound es a n h in record { here = b.here; size = b.size; keeps = b.keeps.1 };
    complete = λ a rest k. s.complete a rest (tt, k);
  }
    where
      s : Agrees (term m) enc_term (λ t. Unit {0} × TermLimits m t)
      s =
          agrees_mapped (λ x. term_of x.1.0 x.1.1) (λ t. (tt, (term_tag_of t, term_args t))) _ _ _
          (λ x. ap (λ (y : TermTagged). (tt, y)) (term_args_lem x.1.0 x.1.1)) term_again
          (agrees_tagged m term_fields term_tag term_kind unmentioned (λ u. 0) (λ u. Unit {0}) term_is
          (λ w d h. (eqb-true w 0 (when_some (eqb w 0) tt d h).0, tt)) term_found (λ d k. refl))
