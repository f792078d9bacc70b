-- Laws on instructions, terminators and their fields.
use Prim.Native.Nat.{ℕ, zero, suc, ◌+◌, ◌-◌, ◌≤◌, ◌<◌}
use Rattle.std.proofs.Math.Path.{◌≡◌, refl, ap}
use Rattle.std.proofs.Common.{sym, ◌∙◌, arith, ne_eqb, leb-false, ltb-true, ltb-false}
use Rattle.std.specs.Prelude.{Bool, List, [], ◌∷◌, ◌++◌, length, eqb, leb, ltb}
use Rattle.std.proofs.Math.Bool.{true, false}
use Rattle.std.proofs.Math.Option.{Option, none, some}
use Rattle.std.proofs.Math.ListN.{get_or-eq_default}
use Rattle.book.specs.Entry.{Entry}
use Rattle.book.specs.Rule.{when, pick, unmentioned}
use Rattle.book.specs.Kinds.{InstTag, TermTag, inst_tag, term_tag}
use Rattle.book.specs.Fields as book
use Rattle.book.specs.Read.{Read, got, bad, Reader, and_then, behind, mapped, optional, list_of, many}
use Rattle.book.specs.Decode.{maybe_name, item, field, fields, tagged_as, tagged, inst, term}
use Rattle.book.specs.Encode.{enc_field}
use Rattle.book.specs.Open.{open_book}
use Rattle.book.specs.Forbidden.{other_field, other_fields, other_inst, other_term}
use Rattle.book.specs.Agree.{no_got}
use Rattle.book.proofs.AgreeInst.{agrees_field}
use Rattle.book_types.specs.Found.{found, found_of, joined, followed_by}
use Rattle.book_types.specs.Tables.{in_range_lem}
use Rattle.book_types.specs.Passes.{both_found, found_got}
use Rattle.book_insts.specs.Insts.{inst_group_of, term_group_of, inst_shape, term_shape, digit_fields, field_of, digit_of, field_by, tag_fields, fields_behind}
use Rattle.book_insts.specs.declared.Field.{Field}
use Rattle.book_insts.specs.declared.Field.TheVariants as variant
use Rattle.book_types.specs.declared.Found.{Found}
use Rattle.std.specs.Prelude as code
use Rattle.std.specs.Prelude.{Some, None}

-- ---- fields by their numbers
pub by_digit : (f : Field) → field_of (digit_of f) ≡ field_by f
unfolding digit_fields
by_digit variant.Type = refl
by_digit variant.Value = refl
by_digit variant.Block = refl
by_digit variant.Index = refl
by_digit variant.Align = refl
by_digit variant.SomeTyped = refl
by_digit variant.SomeValue = refl
by_digit variant.SomeBlock = refl
by_digit variant.GepIndices = refl
by_digit variant.Incoming = refl
by_digit variant.Arguments = refl
by_digit variant.Cases = refl

pub digit_small : (f : Field) → digit_of f < 16
digit_small variant.Type = omega arith
digit_small variant.Value = omega arith
digit_small variant.Block = omega arith
digit_small variant.Index = omega arith
digit_small variant.Align = omega arith
digit_small variant.SomeTyped = omega arith
digit_small variant.SomeValue = omega arith
digit_small variant.SomeBlock = omega arith
digit_small variant.GepIndices = omega arith
digit_small variant.Incoming = omega arith
digit_small variant.Arguments = omega arith
digit_small variant.Cases = omega arith

-- ---- a digit that is none of a field's
abbrev pub NoField : ℕ → Type 0
NoField d = ((((((((((Unit {0} × (d ≡ 2 → ⊥)) × (d ≡ 3 → ⊥)) × (d ≡ 4 → ⊥)) × (d ≡ 5 → ⊥)) × (d ≡ 6 → ⊥)) × (d ≡ 7 → ⊥)) × (d ≡ 8 → ⊥)) × (d ≡ 9 → ⊥)) × (d ≡ 10 → ⊥)) × (d ≡ 11 → ⊥)) × (d ≡ 12 → ⊥)

pub other_digit : (d : ℕ) → NoField d → field_of d ≡ book.Field.plain book.Item.type
unfolding digit_fields
other_digit d r = go (ltb d 13) refl
  where
    go : (t : Bool) → ltb d 13 ≡ t → field_of d ≡ book.Field.plain book.Item.type
    go true e =
        in_range_lem (λ d. NoField d → field_of d ≡ book.Field.plain book.Item.type) 0 13
        (λ r. refl, (λ r. refl, (λ r. absurd (r.0.0.0.0.0.0.0.0.0.0.1 refl), (λ r. absurd (r.0.0.0.0.0.0.0.0.0.1 refl), (λ r. absurd (r.0.0.0.0.0.0.0.0.1 refl), (λ r. absurd (r.0.0.0.0.0.0.0.1 refl), (λ r. absurd (r.0.0.0.0.0.0.1 refl), (λ r. absurd (r.0.0.0.0.0.1 refl), (λ r. absurd (r.0.0.0.0.1 refl), (λ r. absurd (r.0.0.0.1 refl), (λ r. absurd (r.0.0.1 refl), (λ r. absurd (r.0.1 refl), (λ r. absurd (r.1 refl), tt)))))))))))))
        d (omega arith) (omega (arith, ltb-true d 13 e)) r
    go false e = get_or-eq_default digit_fields (book.Field.plain book.Item.type) (ltb-false d 13 e)

-- ---- fields one after the other
module _ (m : ℕ) where
  -- the answers for a field and for fields
  abbrev pub field_found : book.Field → List Entry → code.Option Found
  field_found f es = found_of (other_field f) (field m f es)

  abbrev pub fields_found : List book.Field → List Entry → code.Option Found
  fields_found fs es = found_of (other_fields fs) (fields m fs es)

  pub fields_none : (es : List Entry) → fields_found [] es ≡ Some (found 0 false)
  unfolding fields other_fields
  fields_none es = refl

  -- the first field, then the others
  pub fields_next : (f : book.Field) (fs : List book.Field) (es : List Entry) → fields_found (f ∷ fs) es ≡ followed_by (field_found f es) (fields_found fs) es
  unfolding fields other_fields
  fields_next f fs es = both_found (field m f) (fields m fs) (other_field f) (other_fields fs) es

  -- where there is no entry, there is no field
  no_item : (i : book.Item) → item m i [] ≡ bad
  unfolding open_book
  no_item book.Item.type = refl
  no_item book.Item.value = refl
  no_item book.Item.block = refl
  no_item book.Item.index = refl
  no_item book.Item.align = refl
  no_item book.Item.typed = refl
  no_item book.Item.gep_index = refl
  no_item book.Item.incoming = refl
  no_item book.Item.case = refl
  no_item book.Item.param = refl

  no_list : {A : Type 0} (n : ℕ) (p : Reader A) → list_of n p [] ≡ bad
  unfolding open_book
  no_list zero p = refl
  no_list (suc n) p = refl

  pub no_field : (f : book.Field) → field m f [] ≡ bad
  unfolding field optional many
  no_field (book.Field.plain i) = no_item i
  no_field (book.Field.optional i) = refl
  no_field (book.Field.list i) = no_list 0 (item m i)
  no_field (book.Field.up_to n i) = no_list n (item m i)

  -- so a field takes an entry at least
  pub field_takes : (f : book.Field) (es : List Entry) (x : Found) → field_found f es ≡ Some x → 1 ≤ x.entries
  field_takes f es x h =
      let g = found_got (other_field f) (field m f es) x h in
      let s = (agrees_field m f).sound es g.0 x.entries g.1.0 in
      go (enc_field f g.0) s.size ((agrees_field m f).complete g.0 [] s.keeps)
    where
      go : {a : book.Meaning f} (w : List Entry) → x.entries ≡ length w → field m f (w ++ []) ≡ got a (length w) → 1 ≤ x.entries
      go {a} [] z e = no_got a 0 (sym (no_field f) ∙ e)
      go (e ∷ w) z h = omega arith

-- ---- the fields of a group are those of its tag
pub inst_shape_lem : (t : Option InstTag) → inst_shape (inst_group_of t) ≡ tag_fields book.inst_fields t
inst_shape_lem none = refl
inst_shape_lem (some (InstTag.bin op)) = refl
inst_shape_lem (some (InstTag.conv op)) = refl
inst_shape_lem (some (InstTag.icmp p)) = refl
inst_shape_lem (some InstTag.select) = refl
inst_shape_lem (some InstTag.load) = refl
inst_shape_lem (some InstTag.store) = refl
inst_shape_lem (some InstTag.alloca) = refl
inst_shape_lem (some InstTag.get_element_ptr) = refl
inst_shape_lem (some InstTag.phi) = refl
inst_shape_lem (some InstTag.call) = refl
inst_shape_lem (some InstTag.freeze) = refl
inst_shape_lem (some InstTag.atomic_load) = refl
inst_shape_lem (some InstTag.atomic_store) = refl
inst_shape_lem (some InstTag.cmpxchg) = refl
inst_shape_lem (some InstTag.extract_value) = refl
inst_shape_lem (some InstTag.fence) = refl

pub term_shape_lem : (t : Option TermTag) → term_shape (term_group_of t) ≡ tag_fields book.term_fields t
term_shape_lem none = refl
term_shape_lem (some TermTag.ret) = refl
term_shape_lem (some TermTag.br) = refl
term_shape_lem (some TermTag.switch) = refl
term_shape_lem (some TermTag.unreachable) = refl

-- ---- an entry with its tag's fields
module _ (m : ℕ) {Tag D C : Type 0} (tagFieldsOf : Tag → List book.Field) (tag : ℕ → Option Tag) (rule : ℕ → Option D) (f : D × ((t : Tag) × book.Meanings (tagFieldsOf t)) → C)
    (test : C → Bool) (same : (d : D) (t : Tag) (p : book.Meanings (tagFieldsOf t)) → test (f (d, (t, p))) ≡ other_fields (tagFieldsOf t) p) (e : Entry) (es : List Entry) where
  abbrev node : Reader C
  node = mapped f (tagged m tagFieldsOf tag rule)

  abbrev read : Option D → Option Tag → code.Option Found
  read d t = found_of test (and_then (behind 1 (tagged_as m tagFieldsOf d t es)) (λ a n. got (f a) n))

  node_as : found_of test (node (e ∷ es)) ≡ read (rule e.word) (tag e.kind)
  unfolding mapped tagged
  node_as = refl

  known : (d : D) (t : Tag) → read (some d) (some t) ≡ joined 1 false (fields_found m (tagFieldsOf t) es)
  unfolding tagged_as mapped
  known d t = go (fields m (tagFieldsOf t) es)
    where
      go : (r : Read (book.Meanings (tagFieldsOf t)))
          → found_of test (and_then (behind 1 (and_then r (λ p n. got (d, (t, p)) n))) (λ a n. got (f a) n)) ≡ joined 1 false (found_of (other_fields (tagFieldsOf t)) r)
      go (got p n) = ap (λ b. Some (found (1 + n) b)) (same d t p)
      go bad = refl

  unknown : (d : Option D) (t : Option Tag) → tag_fields tagFieldsOf t ≡ none → read d t ≡ None
  unfolding tagged_as
  unknown d none h = refl
  unknown d (some t) h = absurd (let z : ◌≡◌ {A = ℕ} 0 1 = cc in omega arith)

  -- by whether the word is one that the entry may have
  pub node_known : (ok : Bool) → (ok ≡ true → (d : D) × (rule e.word ≡ some d)) → (fs : List book.Field) → pick ok (tag_fields tagFieldsOf (tag e.kind)) none ≡ some fs
      → found_of test (node (e ∷ es)) ≡ joined 1 false (fields_found m fs es)
  node_known true r fs h = let q = r refl in node_as ∙ rw q.1 (go (tag e.kind) h)
    where
      go : (t : Option Tag) → tag_fields tagFieldsOf t ≡ some fs → read (some (r refl).0) t ≡ joined 1 false (fields_found m fs es)
      go none h = absurd (let z : ◌≡◌ {A = ℕ} 0 1 = cc in omega arith)
      go (some t) h = let z : tagFieldsOf t ≡ fs = cc in known (r refl).0 t ∙ ap (λ x. joined 1 false (fields_found m x es)) z
  node_known false r fs h = absurd (let z : ◌≡◌ {A = ℕ} 0 1 = cc in omega arith)

  pub node_unknown : (ok : Bool) → (ok ≡ false → rule e.word ≡ none) → pick ok (tag_fields tagFieldsOf (tag e.kind)) none ≡ none → found_of test (node (e ∷ es)) ≡ None
  unfolding tagged_as
  node_unknown true r h = node_as ∙ unknown (rule e.word) (tag e.kind) h
  node_unknown false r h = node_as ∙ rw (r refl) (go (tag e.kind))
    where
      go : (t : Option Tag) → read none t ≡ None
      go none = refl
      go (some t) = refl

-- an instruction and a terminator have the values of their fields
pub same_inst : (d : Option ℕ) (t : InstTag) (p : book.Meanings (book.inst_fields t)) → other_inst (record { dest = d; kind = book.inst_of t p }) ≡ other_fields (book.inst_fields t) p
same_inst d (InstTag.bin op) p = refl
same_inst d (InstTag.conv op) p = refl
same_inst d (InstTag.icmp c) p = refl
same_inst d InstTag.select p = refl
same_inst d InstTag.load p = refl
same_inst d InstTag.store p = refl
same_inst d InstTag.alloca p = refl
same_inst d InstTag.get_element_ptr p = refl
same_inst d InstTag.phi p = refl
same_inst d InstTag.call p = refl
same_inst d InstTag.freeze p = refl
same_inst d InstTag.atomic_load p = refl
same_inst d InstTag.atomic_store p = refl
same_inst d InstTag.cmpxchg p = refl
same_inst d InstTag.extract_value p = refl
same_inst d InstTag.fence p = refl

pub same_term : (u : Unit {0}) (t : TermTag) (p : book.Meanings (book.term_fields t)) → other_term (book.term_of t p) ≡ other_fields (book.term_fields t) p
same_term u TermTag.ret p = refl
same_term u TermTag.br p = refl
same_term u TermTag.switch p = refl
same_term u TermTag.unreachable p = refl

-- the word of an instruction, name + 1 or 0, and of a terminator, 0
maybe_none : (m w : ℕ) → leb w m ≡ false → maybe_name m w ≡ none
maybe_none m w h = rw (ne_eqb w 0 (λ z. omega (arith, leb-false w m h)), h)

maybe_some : (m w : ℕ) → leb w m ≡ true → (d : Option ℕ) × (maybe_name m w ≡ some d)
maybe_some m w h = go (eqb w 0)
  where
    go : (b : Bool) → (d : Option ℕ) × (pick b (some none) (when (leb w m) (some (w - 1))) ≡ some d)
    go true = (none, refl)
    go false = (some (w - 1), rw h)

-- ---- the instruction or terminator in front
module _ (m : ℕ) (e : Entry) (es : List Entry) where
  abbrev behind_inst : Option (List book.Field)
  behind_inst = pick (leb e.word m) (tag_fields book.inst_fields (inst_tag e.kind)) none

  abbrev behind_term : Option (List book.Field)
  behind_term = pick (eqb e.word 0) (tag_fields book.term_fields (term_tag e.kind)) none

  pub inst_known : leb 90 e.kind ≡ false → (fs : List book.Field) → fields_behind m e.kind e.word ≡ some fs
      → found_of other_inst (inst m (e ∷ es)) ≡ joined 1 false (fields_found m fs es)
  unfolding inst
  inst_known t fs h =
      node_known m book.inst_fields inst_tag (maybe_name m) (λ x. record { dest = x.0; kind = book.inst_of x.1.0 x.1.1 }) other_inst same_inst e es
      (leb e.word m) (maybe_some m e.word) fs (sym (ap (λ b. pick b behind_term behind_inst) t) ∙ h)

  pub inst_unknown : leb 90 e.kind ≡ false → fields_behind m e.kind e.word ≡ none → found_of other_inst (inst m (e ∷ es)) ≡ None
  unfolding inst
  inst_unknown t h =
      node_unknown m book.inst_fields inst_tag (maybe_name m) (λ x. record { dest = x.0; kind = book.inst_of x.1.0 x.1.1 }) other_inst same_inst e es
      (leb e.word m) (maybe_none m e.word) (sym (ap (λ b. pick b behind_term behind_inst) t) ∙ h)

  pub term_known : leb 90 e.kind ≡ true → (fs : List book.Field) → fields_behind m e.kind e.word ≡ some fs
      → found_of other_term (term m (e ∷ es)) ≡ joined 1 false (fields_found m fs es)
  unfolding term
  term_known t fs h =
      node_known m book.term_fields term_tag unmentioned (λ x. book.term_of x.1.0 x.1.1) other_term same_term e es
      (eqb e.word 0) (λ z. (tt, rw z)) fs (sym (ap (λ b. pick b behind_term behind_inst) t) ∙ h)

  pub term_unknown : leb 90 e.kind ≡ true → fields_behind m e.kind e.word ≡ none → found_of other_term (term m (e ∷ es)) ≡ None
  unfolding term
  term_unknown t h =
      node_unknown m book.term_fields term_tag unmentioned (λ x. book.term_of x.1.0 x.1.1) other_term same_term e es
      (eqb e.word 0) (λ z. rw z) (sym (ap (λ b. pick b behind_term behind_inst) t) ∙ h)
