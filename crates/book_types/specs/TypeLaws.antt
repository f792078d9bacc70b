-- Laws on lists of types and on the type at the front of the entries.
use Prim.Native.Nat.{ℕ, zero, suc, ◌-◌, ◌≤◌}
use Rattle.std.specs.Prelude.{◌≡◌, Bool, drop, take, eqb, ltb}
use Rattle.std.proofs.Math.Path.{refl}
use Rattle.std.proofs.Common.{ap, sym, ◌∙◌, sub-one, ne_eqb}
use Rattle.std.proofs.Math.Bool.{true, false}
use Rattle.std.proofs.Math.Option as math
use Rattle.std.specs.Prelude.{Option, Some, None}
use mathlib.Core.List.{List, [], ◌∷◌}
use native.Mathlib.Omega.{arith}
use Rattle.std.proofs.Math.ListN.{length}
use Rattle.numbers.specs.Width.{width_ok}
use Rattle.book.specs.Entry.{Entry, entries}
use Rattle.book.specs.Agree.{Agrees}
use Rattle.book.specs.AgreeTy.{ty_head}
use Rattle.book.proofs.AgreeTy.{agrees_many, agrees_type_to}
use Rattle.book.specs.Encode.{closed, enc_ty}
use Rattle.book.specs.Limits.{Each, TyTo}
use Rattle.book.specs.Rule.{when}
use Rattle.book.specs.Kinds.{TyTag, ty_tag}
use Rattle.book.specs.Read.{Read, got, bad, Reader, and_then, behind, taking, choose, mapped, until, closing, is_closing, list_of, many}
use Rattle.book.specs.Ast.{Ty}
use Rattle.book.specs.Decode.{tys, type_as, type_to}
use Rattle.std.specs.Bool.{then_some}
use Rattle.book_types.specs.Length.{len_of, further, front_of}
use Rattle.book_types.specs.Groups.{type_group_of, group_head, type_head_of}
use Rattle.book_types.specs.Laws.{entries_part, front_there}
use Rattle.book_types.specs.declared.types.TypeHead.{TypeHead}
use Rattle.book_types.specs.declared.types.TypeHead.TheVariants as ty

-- the length of a list is that of the items and the closing entry
pub many_len : {A : Type 0} (item : Reader A) (es : List Entry) → len_of (many item es) ≡ len_of (until is_closing item closing (length es) es)
unfolding many list_of mapped
many_len {A} item es = go (until is_closing item closing (length es) es)
  where
    go : (r : Read (List A × Unit {0})) → len_of (and_then r (λ a n. got a.0 n)) ≡ len_of r
    go (got a n) = refl
    go bad = refl

-- ---- types
abbrev pub type_len : Option TypeHead → Option ℕ → Option ℕ → Option ℕ
type_len (Some ty.Leaf) a s = Some 1
type_len (Some ty.Array) a s = further 1 a
type_len (Some ty.Struct) a s = further 1 s
type_len None a s = None

pub type_zero : (m : ℕ) (l : ℕ) (es : List Entry) → l ≡ 0 → len_of (type_to m l es) ≡ None
unfolding type_to
type_zero m zero es h = refl
type_zero m (suc l) es h = absurd (omega arith)

-- the type in front, by its entry and the length of its parts
module _ (m : ℕ) where
  leaf_len : (u : Ty) (a s : Option ℕ) (b : Bool) → len_of (behind 1 (taking 0 (when b u))) ≡ type_len (then_some b ty.Leaf) a s
  leaf_len u a s true = refl
  leaf_len u a s false = refl

  tag_len : (l : ℕ) (e : Entry) (es : List Entry) (t : math.Option TyTag)
      → len_of (behind 1 (type_as m (type_to m l) e.word t es)) ≡ type_len (group_head m e.word (type_group_of t)) (len_of (type_to m l es)) (len_of (many (type_to m l) es))
  unfolding type_as
  tag_len l e es math.none = refl
  tag_len l e es (math.some TyTag.void) = leaf_len Ty.void _ _ (eqb e.word 0)
  tag_len l e es (math.some TyTag.int) = leaf_len (Ty.int e.word) _ _ (width_ok e.word)
  tag_len l e es (math.some TyTag.ptr) = leaf_len Ty.ptr _ _ (eqb e.word 0)
  tag_len l e es (math.some (TyTag.array p)) = go (type_to m l es)
    where
      go : (r : Read Ty) → len_of (behind 1 (and_then r (λ t n. got (Ty.array p e.word t) n))) ≡ further 1 (len_of r)
      go (got t n) = refl
      go bad = refl
  tag_len l e es (math.some TyTag.named) = leaf_len (Ty.named_struct e.word) _ _ (ltb e.word m)
  tag_len l e es (math.some (TyTag.struct p)) = go (eqb e.word 0) (many (type_to m l) es)
    where
      go : (b : Bool) (r : Read (List Ty)) → len_of (behind 1 (choose b (and_then r (λ ts n. got (Ty.struct p (tys ts)) n)) bad)) ≡ type_len (then_some b ty.Struct) (len_of (type_to m l es)) (len_of r)
      go true (got ts n) = refl
      go true bad = refl
      go false r = refl
  tag_len l e es (math.some (TyTag.sizeless s)) = leaf_len (Ty.sizeless s) _ _ (eqb e.word 0)

  pub type_len_lem : (l : ℕ) (es : List Entry) (k w : ℕ) → (l ≡ 0 → ⊥) → Some (k, w) ≡ front_of es
      → len_of (type_to m l es) ≡ type_len (group_head m w (type_group_of (ty_tag k))) (len_of (type_to m (l - 1) (drop 1 es))) (len_of (many (type_to m (l - 1)) (drop 1 es)))
  unfolding type_to front_of
  type_len_lem zero es k w d h = absurd (d refl)
  type_len_lem (suc l) [] k w d h = absurd (let z : ◌≡◌ {A = ℕ} 0 1 = cc in omega arith)
  type_len_lem (suc l) (e ∷ es) k w d h =
      let same : ◌≡◌ {A = ℕ × ℕ} (k, w) (e.kind, e.word) = cc in
      rw (sub-one (suc l), ap (λ x. x.0) same, ap (λ x. x.1) same) (tag_len l e es (ty_tag e.kind))

  pub type_none : (l : ℕ) (es : List Entry) → None ≡ front_of es → None ≡ len_of (type_to m l es)
  unfolding type_to front_of
  type_none zero es h = refl
  type_none (suc l) [] h = refl
  type_none (suc l) (e ∷ es) h = absurd (let z : ◌≡◌ {A = ℕ} 0 1 = cc in omega arith)

-- ---- the arms of the code, over the parts that it lends
-- the entries behind the one in front
abbrev pub behind_front : List ℕ → List ℕ → List Entry
behind_front ks ws = entries (take (length ks - 1) (drop 1 ks)) (take (length ws - 1) (drop 1 ws))

module _ (m l : ℕ) (ks ws : List ℕ) (k w : ℕ) (f : Some (k, w) ≡ front_of (entries ks ws)) (d : l ≡ 0 → ⊥) where
  abbrev head_here : Option TypeHead
  head_here = group_head m w (type_group_of (ty_tag k))

  -- the type is as long as what the entry in front begins says
  pub type_arm : (h : Option TypeHead) → h ≡ head_here → len_of (type_to m l (entries ks ws)) ≡ type_len h (len_of (type_to m (l - 1) (behind_front ks ws))) (len_of (many (type_to m (l - 1)) (behind_front ks ws)))
  type_arm h e = type_len_lem m l (entries ks ws) k w d f ∙ rw (e, entries_part 1 ks ws)

-- the same, where there may be no entry
module _ (m l : ℕ) (ks ws : List ℕ) (f : Option (ℕ × ℕ)) (ef : f ≡ front_of (entries ks ws)) where
  -- where the entry begins something, it is there
  pub head_there : (h : TypeHead) → Some h ≡ type_head_of m f → 1 ≤ length (entries ks ws)
  head_there h e = go f ef e
    where
      go : (f : Option (ℕ × ℕ)) → f ≡ front_of (entries ks ws) → Some h ≡ type_head_of m f → 1 ≤ length (entries ks ws)
      go None ef e = absurd (let z : ◌≡◌ {A = ℕ} 0 1 = cc in omega arith)
      go (Some x) ef e = front_there (entries ks ws) x ef

  pub head_arm : (l ≡ 0 → ⊥) → (h : Option TypeHead) → h ≡ type_head_of m f → len_of (type_to m l (entries ks ws)) ≡ type_len h (len_of (type_to m (l - 1) (behind_front ks ws))) (len_of (many (type_to m (l - 1)) (behind_front ks ws)))
  head_arm d h e = go f ef e
    where
      go : (f : Option (ℕ × ℕ)) → f ≡ front_of (entries ks ws) → h ≡ type_head_of m f → len_of (type_to m l (entries ks ws)) ≡ type_len h (len_of (type_to m (l - 1) (behind_front ks ws))) (len_of (many (type_to m (l - 1)) (behind_front ks ws)))
      go None ef e = rw e (sym (type_none m l (entries ks ws) ef))
      go (Some x) ef e = type_arm m l ks ws x.0 x.1 ef d h e

pub agrees_types : (m l : ℕ) → Agrees (many (type_to m l)) (closed enc_ty) (Each (TyTo m l))
agrees_types m l = agrees_many (type_to m l) enc_ty (TyTo m l) (λ t rest k. ty_head is_closing (λ j p q. ne_eqb j 0 (λ z. omega arith)) t rest) (agrees_type_to m l)
