-- Types and values: their kinds in the tables, and what an encoding begins with. That decoder and encoder agree stands in proofs/AgreeTy.
use Prim.Native.Nat.{ℕ, ◌≤◌}
use Rattle.std.proofs.Math.Path.{◌≡◌, refl, ap, subst}
use Rattle.std.proofs.Common.{sym}
use Rattle.std.specs.Prelude.{Bool, ◌&&◌}
use Rattle.std.proofs.Math.Bool.{true, false}
use Rattle.std.proofs.Math.Option.{some}
use mathlib.Core.List.{List, [], ◌∷◌, ◌++◌}
use native.Mathlib.Omega.{arith}
use borrow.Author.Tests.{eqb-true}
use Rattle.std.proofs.Math.Dec.{eqb}
use Rattle.book.specs.Entry.{Entry}
use Rattle.book.specs.Ast.{Sizeless, Ty, Tys, Zero, Value}
use Rattle.book.specs.Rule.{pick, find}
use Rattle.book.specs.Kinds.{TyTag, ValTag, ty_kind, val_kind, ty_tags, val_tags, ty_tag, val_tag}
use Rattle.book.specs.Read.{stops}
use Rattle.book.specs.Decode.{tys}
use Rattle.book.specs.Encode.{ending, closed, enc_ty, enc_tys, depth, value_entry, enc_value}
use Rattle.book.specs.Agree.{no_some}

-- ---- tables
module _ {A : Type 0} (number : A → ℕ) where
  pub find_is : (k : ℕ) (as' : List A) (a : A) → find number k as' ≡ some a → number a ≡ k
  unfolding find
  find_is k [] a e = no_some a e
  find_is k (b ∷ as') a e = go (eqb (number b) k) refl (find_is k as' a) e
    where
      go : (t : Bool) → eqb (number b) k ≡ t → (find number k as' ≡ some a → number a ≡ k) → pick t (some b) (find number k as') ≡ some a → number a ≡ k
      go true et ih h = subst (λ x. number x ≡ k) (cc) (eqb-true _ _ et)
      go false et ih h = ih h

module _ {A : Type 0} (test : A → Bool) where
  abbrev every : List A → Bool
  every [] = true
  every (a ∷ as') = test a && every as'

  -- a test that the whole table passes
  pub find_every : (number : A → ℕ) (k : ℕ) (as' : List A) (a : A) → every as' ≡ true → find number k as' ≡ some a → test a ≡ true
  unfolding find
  find_every number k [] a t e = no_some a e
  find_every number k (b ∷ as') a t e = go (test b) refl t (eqb (number b) k) (find_every number k as' a) e
    where
      go : (u : Bool) → test b ≡ u → u && every as' ≡ true → (x : Bool) → (every as' ≡ true → find number k as' ≡ some a → test a ≡ true)
          → pick x (some b) (find number k as') ≡ some a → test a ≡ true
      go true eu t true ih h = subst (λ c. test c ≡ true) (cc) eu
      go true eu t false ih h = ih t h
      go false eu t x ih h = absurd (let z : ◌≡◌ {A = ℕ} 0 1 = cc in omega arith)

pub ty_is : (k : ℕ) (t : TyTag) → ty_tag k ≡ some t → k ≡ ty_kind t
unfolding ty_tag
ty_is k t e = sym (find_is ty_kind k ty_tags t e)

pub ty_found : (t : TyTag) → ty_tag (ty_kind t) ≡ some t
unfolding ty_tag ty_tags find
ty_found TyTag.void = refl
ty_found TyTag.int = refl
ty_found TyTag.ptr = refl
ty_found (TyTag.array false) = refl
ty_found (TyTag.array true) = refl
ty_found TyTag.named = refl
ty_found (TyTag.struct false) = refl
ty_found (TyTag.struct true) = refl
ty_found (TyTag.sizeless Sizeless.func) = refl
ty_found (TyTag.sizeless Sizeless.label) = refl
ty_found (TyTag.sizeless Sizeless.metadata) = refl

pub val_is : (k : ℕ) (t : ValTag) → val_tag k ≡ some t → k ≡ val_kind t
unfolding val_tag
val_is k t e = sym (find_is val_kind k val_tags t e)

pub val_found : (t : ValTag) → val_tag (val_kind t) ≡ some t
unfolding val_tag val_tags find
val_found ValTag.local = refl
val_found ValTag.global = refl
val_found ValTag.int = refl
val_found (ValTag.zero Zero.null) = refl
val_found (ValTag.zero Zero.undef) = refl
val_found (ValTag.zero Zero.poison) = refl
val_found (ValTag.zero Zero.zero_init) = refl
val_found ValTag.other = refl

-- ---- types
unfoldable pub untys : Tys → List Ty
untys Tys.nil = []
untys (Tys.cons t ts) = t ∷ untys ts

pub tys_untys : (ts : Tys) → tys (untys ts) ≡ ts
unfolding tys untys
tys_untys Tys.nil = refl
tys_untys (Tys.cons t ts) = ap (Tys.cons t) (tys_untys ts)

pub enc_tys_lem : (ts : List Ty) → enc_tys (tys ts) ≡ closed enc_ty ts
unfolding tys enc_tys ending
enc_tys_lem [] = refl
enc_tys_lem (t ∷ ts) = ap (λ r. enc_ty t ++ r) (enc_tys_lem ts)

pub depth_pos : (t : Ty) → 1 ≤ depth t
unfolding depth
depth_pos Ty.void = omega arith
depth_pos Ty.ptr = omega arith
depth_pos (Ty.sizeless s) = omega arith
depth_pos (Ty.int w) = omega arith
depth_pos (Ty.array p n t) = omega arith
depth_pos (Ty.named_struct x) = omega arith
depth_pos (Ty.struct p ts) = omega arith

-- whether the entry of a type stops something
pub ty_head : (stop : ℕ → Bool) → ((k : ℕ) → 10 ≤ k → k ≤ 20 → stop k ≡ false) → (t : Ty) (rest : List Entry) → stops stop (enc_ty t ++ rest) ≡ false
unfolding stops enc_ty
ty_head stop h Ty.void rest = h 10 (omega arith) (omega arith)
ty_head stop h Ty.ptr rest = h 12 (omega arith) (omega arith)
ty_head stop h (Ty.sizeless Sizeless.func) rest = h 18 (omega arith) (omega arith)
ty_head stop h (Ty.sizeless Sizeless.label) rest = h 19 (omega arith) (omega arith)
ty_head stop h (Ty.sizeless Sizeless.metadata) rest = h 20 (omega arith) (omega arith)
ty_head stop h (Ty.int w) rest = h 11 (omega arith) (omega arith)
ty_head stop h (Ty.array false n t) rest = h 13 (omega arith) (omega arith)
ty_head stop h (Ty.array true n t) rest = h 14 (omega arith) (omega arith)
ty_head stop h (Ty.named_struct x) rest = h 15 (omega arith) (omega arith)
ty_head stop h (Ty.struct false ts) rest = h 16 (omega arith) (omega arith)
ty_head stop h (Ty.struct true ts) rest = h 17 (omega arith) (omega arith)

pub val_head : (stop : ℕ → Bool) → ((k : ℕ) → 30 ≤ k → k ≤ 37 → stop k ≡ false) → (v : Value) (rest : List Entry) → stops stop (enc_value v ++ rest) ≡ false
unfolding stops value_entry
val_head stop h (Value.local x) rest = h 30 (omega arith) (omega arith)
val_head stop h (Value.global x) rest = h 31 (omega arith) (omega arith)
val_head stop h (Value.int c) rest = h 32 (omega arith) (omega arith)
val_head stop h (Value.zero Zero.null) rest = h 33 (omega arith) (omega arith)
val_head stop h (Value.zero Zero.undef) rest = h 34 (omega arith) (omega arith)
val_head stop h (Value.zero Zero.poison) rest = h 35 (omega arith) (omega arith)
val_head stop h (Value.zero Zero.zero_init) rest = h 36 (omega arith) (omega arith)
val_head stop h Value.other rest = h 37 (omega arith) (omega arith)
