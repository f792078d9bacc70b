-- `book_insts::term_group` meets its contract: each kind is looked up, and what is below or above the table is not in it.
use Prim.Native.Nat.{ℕ, suc-le-suc}
use mathlib.Core.Path.{◌≡◌, refl, sym, ap}
use native.Mathlib.Omega.{arith}
use Rattle.book.specs.Rule.{find}
use Rattle.book.specs.Kinds.{term_tag, term_tags, term_kind}
use Rattle.book_insts.specs.Insts.{term_group_of}
use Rattle.book_types.specs.Tables.{find_below, find_above, in_range_lem}
use Rattle.book_insts.specs.declared.TermGroup.TheVariants.{Unreachable}
use Rattle.book_insts.proofs.term_group.Goals as goal

-- the kinds that are none of those before
abbrev Rest : ℕ → Type 0
Rest k = ((Unit {0} × (k ≡ 90 → ⊥)) × (k ≡ 91 → ⊥)) × (k ≡ 92 → ⊥)

pub returns-then-kind-lt-RET : goal.returns-then-kind-lt-RET
unfolding term_tag term_tags
returns-then-kind-lt-RET c = ap term_group_of (sym (find_above term_kind _ 89 term_tags refl (omega arith)))

pub returns-then-kind-gt-UNREACHABLE : goal.returns-then-kind-gt-UNREACHABLE
unfolding term_tag term_tags
returns-then-kind-gt-UNREACHABLE c = ap term_group_of (sym (find_below term_kind _ 94 term_tags refl (omega arith)))

pub returns-in-90 : goal.returns-in-90
unfolding term_tag find term_tags
returns-in-90 c = ap (λ k. term_group_of (term_tag k)) (sym c.in-90.is)

pub returns-in-91 : goal.returns-in-91
unfolding term_tag find term_tags
returns-in-91 c = ap (λ k. term_group_of (term_tag k)) (sym c.in-91.is)

pub returns-in-92 : goal.returns-in-92
unfolding term_tag find term_tags
returns-in-92 c = ap (λ k. term_group_of (term_tag k)) (sym c.in-92.is)

pub returns-in_default : goal.returns-in_default
unfolding term_tag find term_tags
returns-in_default c =
    in_range_lem (λ k. Rest k → Unreachable ≡ term_group_of (term_tag k)) 90 4
    (λ r. absurd (r.0.0.1 refl), (λ r. absurd (r.0.1 refl), (λ r. absurd (r.1 refl), (λ r. refl, tt))))
    _ c.if-kind-lt-RET.false (suc-le-suc c.if-kind-gt-UNREACHABLE.false) c.in_default.in_default-own.rest
