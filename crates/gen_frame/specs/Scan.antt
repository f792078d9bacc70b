-- The entries of a function's blocks one after the other: those of kinds 40 to 89 are its instructions, in their order. The fields of instructions and
-- terminators have kinds below 40.
use Rattle.std.specs.Prelude.{ℕ, ◌<◌, ◌≤◌, ◌≡◌, refl, Bool, true, false, ltb, leb}
use Rattle.std.proofs.Common.{sym, arith, ltb-true, leb-true}
use Rattle.std.proofs.Math.Path.{subst}
use mathlib.Core.List.{List, [], ◌∷◌, ◌++◌, append_assoc}
use Rattle.book.specs.Entry.{Entry}
use Rattle.book.specs.Ast.{Inst, Terminator, BasicBlock}
use Rattle.book.specs.Kinds.{InstTag, inst_kind, inst_tags, inst_tag, term_kind}
use Rattle.book.specs.Fields.{inst_fields, inst_tag_of, inst_args, term_fields, term_tag_of, term_args}
use Rattle.book.specs.Encode.{ending, closed, enc_fields, enc_inst, enc_term, enc_basic_block}
use Rattle.book.specs.Limits.{Each, InstLimits, BlockLimits}
use Rattle.book.specs.Shape.{all_insts}
use Rattle.book.specs.AgreeTy.{find_every}
use Rattle.book.specs.AgreeInst.{inst_found}
use Rattle.gen_walk.specs.Walk.{Low, low_fields}

-- an entry is that of an instruction that takes slots or a place; one that is not is of a field, a block, a terminator or an instruction that takes none
pub record Acts (kind word : ℕ) (r : Bool) : Type 0 where
  pub does : r ≡ true → (40 ≤ kind) × (kind < 90)
  pub idle : r ≡ false → 40 ≤ kind → kind < 90 → (word ≡ 0) × (kind ≡ 73 → ⊥)

-- ---- what stands among entries
-- an instruction stands at the front, and behind its own entry what P says of the others
pub record First (P : List Inst → Type 0) (m : ℕ) (is : List Inst) (es : List Entry) : Type 0 where
  pub own : Inst
  pub others : List Inst
  pub split : is ≡ own ∷ others
  pub rest : List Entry
  pub here : es ≡ enc_inst own ++ rest
  pub keeps : InstLimits m own
  pub behind : P others

-- these instructions and no others
abbrev pub Scan : ℕ → List Inst → List Entry → Type 0
Scan m is [] = is ≡ []
Scan m is (e ∷ es) = (e.kind < 40 → Scan m is es) × (90 ≤ e.kind → Scan m is es) × (40 ≤ e.kind → e.kind < 90 → First (λ (others : List Inst). Scan m others es) m is (e ∷ es))

-- ---- the blocks of a function
pub inst_kinds : (t : InstTag) → (40 ≤ inst_kind t) × (inst_kind t < 90)
unfolding inst_tag inst_tags
inst_kinds t = (
  leb-true _ _ (find_every (λ t. leb 40 (inst_kind t)) inst_kind (inst_kind t) inst_tags t refl (inst_found t)),
  ltb-true _ _ (find_every (λ t. ltb (inst_kind t) 90) inst_kind (inst_kind t) inst_tags t refl (inst_found t)),
)

term_kind_lem : (t : Terminator) → 90 ≤ term_kind (term_tag_of t)
term_kind_lem (Terminator.ret v) = omega arith
term_kind_lem (Terminator.br c t f) = omega arith
term_kind_lem (Terminator.switch t v d cs) = omega arith
term_kind_lem Terminator.unreachable = omega arith

module _ (m : ℕ) where
  scan_low : (is : List Inst) (x y : List Entry) → Low x → Scan m is y → Scan m is (x ++ y)
  scan_low is [] y l h = h
  scan_low is (e ∷ x) y l h = let t = scan_low is x y l.1 h in ((λ a. t), (λ a. t), λ a b. absurd (omega (arith, l.0.0)))

  scan_inst : (is : List Inst) (i : Inst) (y : List Entry) → InstLimits m i → Scan m is y → Scan m (i ∷ is) (enc_inst i ++ y)
  unfolding enc_inst
  scan_inst is i y k h =
      let fs = inst_fields (inst_tag_of i.kind) in
      let n = inst_kinds (inst_tag_of i.kind) in (
        (λ a. absurd (omega (arith, n.0))),
        (λ a. absurd (omega (arith, n.1))),
        λ a b.
            record {
              own = i;
              others = is;
              split = refl;
              rest = y;
              here = refl;
              keeps = k;
              behind = scan_low is (enc_fields fs (inst_args i.kind)) y (low_fields fs (inst_args i.kind)) h;
            },
      )

  scan_term : (is : List Inst) (t : Terminator) (y : List Entry) → Scan m is y → Scan m is (enc_term t ++ y)
  unfolding enc_term
  scan_term is t y h =
      let fs = term_fields (term_tag_of t) in
      let b = scan_low is (enc_fields fs (term_args t)) y (low_fields fs (term_args t)) h in
      ((λ a. b), (λ a. b), λ a c. absurd (omega (arith, term_kind_lem t)))

  scan_body : (is own : List Inst) (t : Terminator) (y : List Entry) → Each (InstLimits m) own → Scan m is y → Scan m (own ++ is) (ending enc_inst (enc_term t) own ++ y)
  unfolding ending
  scan_body is [] t y k h = scan_term is t y h
  scan_body is (i ∷ own) t y k h =
      let end = ending enc_inst (enc_term t) own in
      subst (Scan m (i ∷ (own ++ is))) (sym (append_assoc (enc_inst i) end y)) (scan_inst (own ++ is) i (end ++ y) k.0 (scan_body is own t y k.1 h))

  pub scan_blocks : (bs : List BasicBlock) → Each (BlockLimits m) bs → Scan m (all_insts bs) (closed enc_basic_block bs)
  unfolding ending enc_basic_block all_insts
  scan_blocks [] k = ((λ a. refl), (λ a. refl), λ a b. absurd (omega arith))
  scan_blocks (b ∷ bs) k =
      let t = scan_body (all_insts bs) b.insts b.term (closed enc_basic_block bs) k.0.1.0 (scan_blocks bs k.1) in
      ((λ a. t), (λ a. t), λ a c. absurd (omega arith))
