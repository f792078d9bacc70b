-- The text of a type, by its first entry.
use Prim.Native.Nat.{ℕ, zero, suc, ◌-◌, ◌≤◌, ◌<◌}
use Rattle.std.specs.Prelude.{◌≡◌, Bool, length, get_or, take, drop, eqb}
use Rattle.std.proofs.Math.Path.{refl}
use Rattle.std.proofs.Common.{sym, ap, ◌∙◌, sub-one}
use Rattle.std.proofs.Math.Bool.{true, false, false≢true}
use Rattle.std.proofs.Math.Option.{Option, none, some}
use mathlib.Core.List.{List, [], ◌∷◌, ◌++◌, append_assoc}
use native.Mathlib.Omega.{arith}
use borrow.Author.Tests.{ltb-true}
use Rattle.std.proofs.Math.Dec.{ltb}
use Rattle.numbers.specs.Width.{width_ok}
use Rattle.numbers.specs.Digits.{decimal}
use Rattle.names.specs.Text.{bytes}
use Rattle.names.specs.Name.{name_at}
use Rattle.book.specs.Ast.{Ty, Sizeless}
use Rattle.book.specs.Entry.{Entry, entries}
use Rattle.book.specs.Rule.{when}
use Rattle.book.specs.AgreeTy.{find_is}
use Rattle.book.specs.Kinds.{TyTag, ty_tag, ty_tags, ty_kind}
use Rattle.book.specs.Read.{Read, got, bad, Reader, and_then, behind, taking, choose, many}
use Rattle.book.specs.Decode.{tys, type_as, type_to}
use Rattle.assembly.specs.Text.{type_text}
use Rattle.book_types.specs.Groups.{type_group_of}
use Rattle.book_types.specs.Laws.{entries_front, entries_part, length_entries}
use Rattle.book_types.specs.TypeLaws.{behind_front}
use Rattle.book_types.specs.declared.types.TypeGroup.{TypeGroup}
use Rattle.book_types.specs.declared.types.TypeGroup.TheVariants as group
use Rattle.print_pen.specs.Pen.{pick_bytes}

abbrev pub is_got : {A : Type 0} → Read A → Bool
is_got (got a n) = true
is_got bad = false

module _ (ns : List (List ℕ)) where
  -- the text of a type that was read
  abbrev pub type_bytes : Read Ty → List ℕ
  type_bytes (got t n) = type_text ns t
  type_bytes bad = []

-- a type of m names and so many levels stands at the front of the entries
pub record Typed (m level : ℕ) (ks ws : List ℕ) : Type 0 where
  pub got : is_got (type_to m level (entries ks ws)) ≡ true

unfoldable pub opened : Bool → List ℕ
opened p = pick_bytes p (bytes "<") (bytes "[")

unfoldable pub closed : Bool → List ℕ
closed p = pick_bytes p (bytes ">") (bytes "]")

unfoldable pub array_head : Bool → ℕ → List ℕ
array_head p n = opened p ++ (decimal n ++ bytes " x ")

unfoldable pub sizeless_text : ℕ → List ℕ
sizeless_text k = pick_bytes (eqb k 18) (bytes "fn") (pick_bytes (eqb k 19) (bytes "label") (bytes "metadata"))

module _ (ns : List (List ℕ)) where
  -- by the group, kind and word of the first entry and the text of an array's element
  abbrev pub group_text : TypeGroup → ℕ → ℕ → List ℕ → List ℕ
  group_text group.Void k w inner = bytes "void"
  group_text group.Int k w inner = bytes "i" ++ decimal w
  group_text group.Ptr k w inner = bytes "ptr"
  group_text (group.Array p) k w inner = array_head p w ++ (inner ++ closed p)
  group_text group.Named k w inner = bytes "%" ++ name_at ns w
  group_text (group.Struct p) k w inner = bytes "struct"
  group_text group.Sizeless k w inner = sizeless_text k
  group_text group.Other k w inner = []

-- what is known of the first entry's parts
abbrev pub Parts : TypeGroup → (m w : ℕ) → Read Ty → Type 0
Parts group.Void m w r = Unit {0}
Parts group.Int m w r = Unit {0}
Parts group.Ptr m w r = Unit {0}
Parts (group.Array p) m w r = is_got r ≡ true
Parts group.Named m w r = w < m
Parts (group.Struct p) m w r = Unit {0}
Parts group.Sizeless m w r = Unit {0}
Parts group.Other m w r = Unit {0}

tag_is : (k : ℕ) (t : TyTag) → ty_tag k ≡ some t → ty_kind t ≡ k
unfolding ty_tag
tag_is k t e = find_is ty_kind k ty_tags t e

sizeless_is : (ns : List (List ℕ)) (k : ℕ) (s : Sizeless) → ty_tag k ≡ some (TyTag.sizeless s) → type_text ns (Ty.sizeless s) ≡ sizeless_text k
unfolding type_text sizeless_text
sizeless_is ns k Sizeless.func e = let h : 18 ≡ k = tag_is k (TyTag.sizeless Sizeless.func) e in rw (← h)
sizeless_is ns k Sizeless.label e = let h : 19 ≡ k = tag_is k (TyTag.sizeless Sizeless.label) e in rw (← h)
sizeless_is ns k Sizeless.metadata e = let h : 20 ≡ k = tag_is k (TyTag.sizeless Sizeless.metadata) e in rw (← h)

array_is : (ns : List (List ℕ)) (p : Bool) (n : ℕ) (t : Ty) → type_text ns (Ty.array p n t) ≡ array_head p n ++ (type_text ns t ++ closed p)
unfolding type_text array_head opened closed
array_is ns true n t = simp append_assoc
array_is ns false n t = simp append_assoc

module _ (ns : List (List ℕ)) where
  void_is : type_text ns Ty.void ≡ bytes "void"
  unfolding type_text
  void_is = refl

  int_is : (w : ℕ) → type_text ns (Ty.int w) ≡ bytes "i" ++ decimal w
  unfolding type_text
  int_is w = refl

  ptr_is : type_text ns Ty.ptr ≡ bytes "ptr"
  unfolding type_text
  ptr_is = refl

  named_is : (w : ℕ) → type_text ns (Ty.named_struct w) ≡ bytes "%" ++ name_at ns w
  unfolding type_text
  named_is w = refl

  struct_is : (p : Bool) (ts : List Ty) → type_text ns (Ty.struct p (tys ts)) ≡ bytes "struct"
  unfolding type_text
  struct_is p ts = refl

module _ (ns : List (List ℕ)) (m : ℕ) (part : Reader Ty) (k w : ℕ) (es : List Entry) where
  leaf_text : (u : Ty) (b : Bool) → is_got (taking 0 (when b u)) ≡ true → type_bytes ns (taking 0 (when b u)) ≡ type_text ns u
  leaf_text u true h = refl
  leaf_text u false h = absurd (false≢true h)

  tag_text : (t : Option TyTag) → ty_tag k ≡ t → is_got (type_as m part w t es) ≡ true
      → type_bytes ns (type_as m part w t es) ≡ group_text ns (type_group_of t) k w (type_bytes ns (part es))
  unfolding type_as
  tag_text none e h = refl
  tag_text (some TyTag.void) e h = leaf_text Ty.void (eqb w 0) h ∙ void_is ns
  tag_text (some TyTag.int) e h = leaf_text (Ty.int w) (width_ok w) h ∙ int_is ns w
  tag_text (some TyTag.ptr) e h = leaf_text Ty.ptr (eqb w 0) h ∙ ptr_is ns
  tag_text (some (TyTag.array p)) e h = go (part es) h
    where
      go : (r : Read Ty) → is_got {A = Ty} (and_then r (λ t n. got (Ty.array p w t) n)) ≡ true
          → type_bytes ns (and_then r (λ t n. got (Ty.array p w t) n)) ≡ array_head p w ++ (type_bytes ns r ++ closed p)
      go (got t n) h = array_is ns p w t
      go bad h = absurd (false≢true h)
  tag_text (some TyTag.named) e h = leaf_text (Ty.named_struct w) (ltb w m) h ∙ named_is ns w
  tag_text (some (TyTag.struct p)) e h = go (eqb w 0) (many part es) h
    where
      go : (b : Bool) (r : Read (List Ty)) → is_got {A = Ty} (choose b (and_then r (λ ts n. got (Ty.struct p (tys ts)) n)) bad) ≡ true
          → type_bytes ns (choose b (and_then r (λ ts n. got (Ty.struct p (tys ts)) n)) bad) ≡ bytes "struct"
      go true (got ts n) h = struct_is ns p ts
      go true bad h = absurd (false≢true h)
      go false r h = absurd (false≢true h)
  tag_text (some (TyTag.sizeless s)) e h = leaf_text (Ty.sizeless s) (eqb w 0) h ∙ sizeless_is ns k s e

  tag_parts : (t : Option TyTag) → is_got (type_as m part w t es) ≡ true → Parts (type_group_of t) m w (part es)
  unfolding type_as
  tag_parts none h = tt
  tag_parts (some TyTag.void) h = tt
  tag_parts (some TyTag.int) h = tt
  tag_parts (some TyTag.ptr) h = tt
  tag_parts (some (TyTag.array p)) h = go (part es) h
    where
      go : (r : Read Ty) → is_got {A = Ty} (and_then r (λ t n. got (Ty.array p w t) n)) ≡ true → is_got r ≡ true
      go (got t n) h = refl
      go bad h = absurd (false≢true h)
  tag_parts (some TyTag.named) h = go (ltb w m) refl h
    where
      go : (b : Bool) → ltb w m ≡ b → is_got {A = Ty} (taking 0 (when b (Ty.named_struct w))) ≡ true → w < m
      go true e h = ltb-true w m e
      go false e h = absurd (false≢true h)
  tag_parts (some (TyTag.struct p)) h = tt
  tag_parts (some (TyTag.sizeless s)) h = tt

behind_got : {A : Type 0} (r : Read A) → is_got (behind 1 r) ≡ true → is_got r ≡ true
behind_got (got a n) h = refl
behind_got bad h = h

behind_text : (ns : List (List ℕ)) (r : Read Ty) → type_bytes ns (behind 1 r) ≡ type_bytes ns r
behind_text ns (got t n) = refl
behind_text ns bad = refl

module _ (ns : List (List ℕ)) (m l : ℕ) (ks ws : List ℕ) (h : Typed m l ks ws) where
  no_level : (l : ℕ) (es : List Entry) → is_got (type_to m l es) ≡ true → l ≡ 0 → ⊥
  unfolding type_to
  no_level zero es g e = false≢true g
  no_level (suc l) es g e = omega arith

  pub typed_level : l ≡ 0 → ⊥
  typed_level = no_level l (entries ks ws) h.got

  no_entry : (l : ℕ) (es : List Entry) → is_got (type_to m l es) ≡ true → 1 ≤ length es
  unfolding type_to
  no_entry zero es g = absurd (false≢true g)
  no_entry (suc l) [] g = absurd (false≢true g)
  no_entry (suc l) (e ∷ es) g = omega arith

  pub typed_kinds : 0 < length ks
  typed_kinds = omega (arith, no_entry l (entries ks ws) h.got, length_entries ks ws)

  pub typed_words : 0 < length ws
  typed_words = omega (arith, no_entry l (entries ks ws) h.got, length_entries ks ws)

  unrolled : (l : ℕ) → (l ≡ 0 → ⊥) → type_to m l (entries ks ws) ≡ behind 1 (type_as m (type_to m (l - 1)) (get_or ws 0 0) (ty_tag (get_or ks 0 0)) (behind_front ks ws))
  unfolding type_to
  unrolled zero d = absurd (d refl)
  unrolled (suc l) d =
      let z : (length ks ≡ 0 → ⊥) = λ q. omega (arith, typed_kinds) in
      let y : (length ws ≡ 0 → ⊥) = λ q. omega (arith, typed_words) in
      rw (sub-one (suc l), entries_part 1 ks ws, entries_front ks ws z y)

  here : is_got (type_as m (type_to m (l - 1)) (get_or ws 0 0) (ty_tag (get_or ks 0 0)) (behind_front ks ws)) ≡ true
  here = behind_got (type_as m (type_to m (l - 1)) (get_or ws 0 0) (ty_tag (get_or ks 0 0)) (behind_front ks ws)) (rw (unrolled l typed_level) at h.got)

  module _ (g : TypeGroup) (e : g ≡ type_group_of (ty_tag (get_or ks 0 0))) where
    pub type_text_lem : type_bytes ns (type_to m l (entries ks ws)) ≡ group_text ns g (get_or ks 0 0) (get_or ws 0 0) (type_bytes ns (type_to m (l - 1) (behind_front ks ws)))
    type_text_lem =
        ap (type_bytes ns) (unrolled l typed_level) ∙ behind_text ns (type_as m (type_to m (l - 1)) (get_or ws 0 0) (ty_tag (get_or ks 0 0)) (behind_front ks ws))
        ∙ tag_text ns m (type_to m (l - 1)) (get_or ks 0 0) (get_or ws 0 0) (behind_front ks ws) (ty_tag (get_or ks 0 0)) refl here
        ∙ rw e

    pub type_parts : Parts g m (get_or ws 0 0) (type_to m (l - 1) (behind_front ks ws))
    type_parts = rw e (tag_parts ns m (type_to m (l - 1)) (get_or ks 0 0) (get_or ws 0 0) (behind_front ks ws) (ty_tag (get_or ks 0 0)) here)

    pub type_arm : (f : TypeGroup) → g ≡ f → group_text ns f (get_or ks 0 0) (get_or ws 0 0) (type_bytes ns (type_to m (l - 1) (behind_front ks ws))) ≡ type_bytes ns (type_to m l (entries ks ws))
    type_arm f q = sym (rw q at type_text_lem)

    pub elem_typed : (p : Bool) → g ≡ group.Array p → Typed m (l - 1) (take (length ks - 1) (drop 1 ks)) (take (length ws - 1) (drop 1 ws))
    elem_typed p q = record { got = rw q at type_parts }

    pub named_there : g ≡ group.Named → get_or ws 0 0 < m
    named_there q = rw q at type_parts
