-- A place among the fields of a struct.
use Rattle.std.specs.Prelude.{ℕ, ◌+◌, ◌<◌, ◌≤◌, ◌^◌, ◌≡◌, List, length, get_or, drop}
use Rattle.std.proofs.Common.{sym, ap, ◌∙◌, subst, arith, length-drop, drop-drop}
use Rattle.book.specs.Entry.{Entry, entries}
use Rattle.book.specs.Ast.{Tys}
use Rattle.layout_memo.specs.Front.{StartsFields, ty_of, tys_of, ty_len, Fielded, fields_there, fields_nil, fields_cons, kind_at_lem}

-- ---- a place among the fields
module _ (m : ℕ) (ks ws : List ℕ) where
  pub record AtFields (a : ℕ) : Type 0 where
    pub fields : StartsFields m (drop a (entries ks ws))
    pub there : a < length (entries ks ws)
    pub few : length (entries ks ws) ≤ 2 ^ 20

  pub at_start_lem : StartsFields m (entries ks ws) → AtFields 0
  at_start_lem s = record { fields = s; there = omega (arith, fields_there s); few = s.few }

module _ {m : ℕ} {ks ws : List ℕ} {a : ℕ} (f : AtFields m ks ws a) where
  pub at_nil : get_or ks a 0 ≡ 0 → tys_of m (drop a (entries ks ws)) ≡ Tys.nil
  at_nil z = fields_nil f.fields (kind_at_lem ks ws a f.there ∙ z)

  module _ (z : get_or ks a 0 ≡ 0 → ⊥) where
    pub at_field : Fielded m (drop a (entries ks ws))
    at_field = fields_cons f.fields (λ e. z (sym (kind_at_lem ks ws a f.there) ∙ e))

    pub at_next : AtFields m ks ws (a + ty_len m (drop a (entries ks ws)))
    at_next =
        record {
          fields = subst (StartsFields m) (drop-drop (ty_len m (drop a (entries ks ws))) a (entries ks ws)) at_field.later;
          there = omega (arith, at_field.fits, length-drop a (entries ks ws));
          few = f.few;
        }

    pub at_cons : tys_of m (drop a (entries ks ws)) ≡ Tys.cons (ty_of m (drop a (entries ks ws))) (tys_of m (drop (a + ty_len m (drop a (entries ks ws))) (entries ks ws)))
    at_cons = at_field.same ∙ ap (λ (es : List Entry). Tys.cons (ty_of m (drop a (entries ks ws))) (tys_of m es)) (drop-drop (ty_len m (drop a (entries ks ws))) a (entries ks ws))
