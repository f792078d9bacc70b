-- The callee of a call: whether it may not be called, by the entries and by the definition.
use Rattle.std.specs.Prelude.{ℕ, Bool, false, ◌&&◌, ◌||◌, List, [], ◌∷◌, ◌++◌, drop, eqb}
use Rattle.std.proofs.Math.Path.{◌≡◌, refl}
use Rattle.std.proofs.Common.{ap, sym, ◌∙◌, append_assoc, zero-add, arith, ne_eqb}
use Rattle.std.proofs.Math.Bool.{or_comm}
use Rattle.std.proofs.Math.Option.{Option, some}
use Rattle.std.proofs.Math.Seq.{drop-append_seam}
use Rattle.book.specs.Entry.{Entry, entries}
use Rattle.book.specs.Ast.{Zero, Ty, Value, InstKind, Inst, Terminator, BasicBlock, Param}
use Rattle.book.specs.Kinds.{InstTag, inst_kind, inst_tag}
use Rattle.book.specs.Fields.{Item}
use Rattle.book.specs.Shape.{shape}
use Rattle.book.specs.Read.{Read, got, bad}
use Rattle.book.specs.Decode.{type, inst}
use Rattle.book.specs.Encode.{enc_ty, value_entry, enc_value, enc_fields, enc_inst}
use Rattle.book.specs.Limits.{InstLimits}
use Rattle.book.specs.Forbidden.{any, other_item, other_inst, other_term, barred_callee, barred_shape, forbidden_inst, forbidden_block}
use Rattle.book.proofs.AgreeTy.{agrees_type}
use Rattle.book.specs.AgreeInst.{inst_found}
use Rattle.book.proofs.AgreeInst.{agrees_inst}
use Rattle.book_types.specs.Length.{len_of, front_of}
use Rattle.book_types.specs.Found.{found, found_of, joined, all_test, pair_test, never}
use Rattle.book_types.specs.Laws.{entries_part, lent_from, len_got, len_bad}
use Rattle.std.specs.Prelude as code
use Rattle.std.specs.Prelude.{Some, None}

-- the instructions and the terminator of a block
abbrev pub forbidden_body : (ℕ → Bool) → List Inst × Terminator → Bool
forbidden_body barred = all_test (forbidden_inst barred) other_term

-- ---- a callee that is no callee, behind a call's return type
module _ (barred : ℕ → Bool) where
  abbrev pub callee_barred : code.Option (ℕ × ℕ) → Bool
  callee_barred None = false
  callee_barred (Some e) = eqb e.0 31 && barred e.1

  abbrev pub behind_type : List Entry → Read Ty → Bool
  behind_type es (got t n) = callee_barred (front_of (drop n es))
  behind_type es bad = false

  -- the callee of a call, behind its return type; m is the number of names
  abbrev pub behind_call : ℕ → List Entry → Bool
  behind_call m es = behind_type es (type m es)

  unfoldable pub call_barred : ℕ → List Entry → Bool
  call_barred m [] = false
  call_barred m (e ∷ es) = eqb e.kind 76 && behind_call m es

-- ---- by the definition
module _ (barred : ℕ → Bool) where
  callee_is : (v : Value) (rest : List Entry) → callee_barred barred (front_of (enc_value v ++ rest)) ≡ barred_callee barred v
  unfolding front_of value_entry barred_callee
  callee_is (Value.local x) rest = refl
  callee_is (Value.global x) rest = refl
  callee_is (Value.int c) rest = refl
  callee_is (Value.zero Zero.null) rest = refl
  callee_is (Value.zero Zero.undef) rest = refl
  callee_is (Value.zero Zero.poison) rest = refl
  callee_is (Value.zero Zero.zero_init) rest = refl
  callee_is Value.other rest = refl

  module _ (m : ℕ) where
    -- only a call has kind 76
    not_call : (t : InstTag) → inst_kind t ≡ 76 → (t ≡ InstTag.call → ⊥) → ⊥
    not_call t e d =
        let g : some t ≡ some InstTag.call = sym (inst_found t) ∙ ap inst_tag e ∙ inst_found InstTag.call in
        d (cc)

    call_is : (d : Option ℕ) (k : InstKind) (rest : List Entry) → InstLimits m (record { dest = d; kind = k }) → call_barred barred m (enc_inst (record { dest = d; kind = k }) ++ rest) ≡ barred_shape barred (shape k)
    unfolding call_barred enc_inst enc_fields shape
    call_is d (InstKind.call t v vs) rest lim =
        rw (append_assoc (enc_ty t) _ rest, (agrees_type m).complete t _ lim.1.0, drop-append_seam (enc_ty t) _) (callee_is v _)
    call_is d (InstKind.bin op t l r) rest lim = rw (ne_eqb (inst_kind (InstTag.bin op)) 76 (λ z. not_call (InstTag.bin op) z (λ y. let q : ◌≡◌ {A = ℕ} 0 1 = cc in omega arith)))
    call_is d (InstKind.conv op t v u) rest lim = rw (ne_eqb (inst_kind (InstTag.conv op)) 76 (λ z. not_call (InstTag.conv op) z (λ y. let q : ◌≡◌ {A = ℕ} 0 1 = cc in omega arith)))
    call_is d (InstKind.icmp p t l r) rest lim = rw (ne_eqb (inst_kind (InstTag.icmp p)) 76 (λ z. not_call (InstTag.icmp p) z (λ y. let q : ◌≡◌ {A = ℕ} 0 1 = cc in omega arith)))
    call_is d (InstKind.select c t l r) rest lim = refl
    call_is d (InstKind.load t p a) rest lim = refl
    call_is d (InstKind.store t v p a) rest lim = refl
    call_is d (InstKind.alloca t n a) rest lim = refl
    call_is d (InstKind.get_element_ptr t p is) rest lim = refl
    call_is d (InstKind.phi t vs) rest lim = refl
    call_is d (InstKind.freeze t v) rest lim = refl
    call_is d (InstKind.atomic_load t p) rest lim = refl
    call_is d (InstKind.atomic_store t v p) rest lim = refl
    call_is d (InstKind.cmpxchg t p c v) rest lim = refl
    call_is d (InstKind.extract_value v n) rest lim = refl
    call_is d InstKind.fence rest lim = refl

    call_flag : (es : List Entry) (i : Inst) (n : ℕ) → inst m es ≡ got i n → (other_inst i || call_barred barred m es) ≡ forbidden_inst barred i
    call_flag es i n e =
        let b = (agrees_inst m).sound es i n e in
        ap (λ c. other_inst i || c) (ap (call_barred barred m) b.here ∙ call_is i.dest i.kind (drop n es) b.keeps)

    -- so an instruction is forbidden for a value in it or for its callee
    pub call_also : (es : List Entry) → found_of (forbidden_inst barred) (inst m es) ≡ joined 0 (call_barred barred m es) (found_of other_inst (inst m es))
    call_also es = go (inst m es) refl
      where
        go : (r : Read Inst) → inst m es ≡ r → found_of (forbidden_inst barred) r ≡ joined 0 (call_barred barred m es) (found_of other_inst r)
        go (got i n) e = rw (zero-add n) (ap (λ b. Some (found n b)) (sym (call_flag es i n e) ∙ or_comm (other_inst i) (call_barred barred m es)))
        go bad e = refl

-- ---- the arms of the code
module _ (barred : ℕ → Bool) (m : ℕ) where
  pub behind_bad : (es : List Entry) → len_of (type m es) ≡ None → false ≡ behind_call barred m es
  behind_bad es h = sym (rw (len_bad (type m es) h))

  pub behind_arm : (ks ws : List ℕ) (n : ℕ) → len_of (type m (entries ks ws)) ≡ Some n → (f : code.Option (ℕ × ℕ)) (b : Bool)
      → f ≡ front_of (lent_from ks ws n) → b ≡ callee_barred barred f → b ≡ behind_call barred m (entries ks ws)
  behind_arm ks ws n h f b ef eb =
      let g = len_got (type m (entries ks ws)) n h in
      eb ∙ ap (callee_barred barred) (ef ∙ ap front_of (entries_part n ks ws)) ∙ sym (rw g.1)

-- ---- nothing in a parameter is forbidden
pub no_param : (barred : ℕ → Bool) (f : ℕ × (Ty × (List Param × List BasicBlock)))
    → pair_test never (pair_test never (pair_test (any (other_item Item.param)) (any (forbidden_block barred)))) f ≡ any (forbidden_block barred) f.1.1.1
unfolding any
no_param barred f = ap (λ b. b || any (forbidden_block barred) f.1.1.1) (go f.1.1.0)
  where
    go : (ps : List Param) → any (other_item Item.param) ps ≡ false
    go [] = refl
    go (p ∷ ps) = go ps
