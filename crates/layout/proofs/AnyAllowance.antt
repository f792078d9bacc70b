-- Law: what is measured with some allowance has the same measure with any other, or is refused with 7.
use Prim.Native.Nat.{ℕ, zero, suc, ◌+◌, ◌*◌, max}
use Rattle.std.specs.Prelude.{◌≡◌, ◌⊎◌, Bool, List}
use Rattle.std.proofs.Math.Path.{refl}
use Rattle.std.proofs.Math.Logic.{inl, inr}
use Rattle.std.proofs.Math.Bool.{true, false}
use Rattle.book.specs.Ast.{Ty, Tys, StructType}
use Rattle.book.specs.Result.{Result, ok, err, bind, err_no_ok, bind_ok}
use Rattle.layout.specs.Layout.{limit, placed, max_align, struct_align, size_from, struct_size, as_type, resolve, align_at, size_at}

-- the answer n, or 7
abbrev pub Or7 : Result ℕ → ℕ → Type 0
Or7 r n = (r ≡ ok n) ⊎ (r ≡ err 7)

-- where g answers, f answers the same or 7
abbrev pub SameOr7 : (f g : Ty → Result ℕ) → Type 0
SameOr7 f g = (t : Ty) (n : ℕ) → g t ≡ ok n → Or7 (f t) n

-- a chain is 7 where its first part is
first : (r : Result ℕ) (a : ℕ) (f : ℕ → Result ℕ) (n : ℕ) → Or7 r a → Or7 (f a) n → Or7 (bind r f) n
unfolding bind
first r a f n (inl e) h = rw e h
first r a f n (inr e) h = rw e (inr refl)

module _ {al al' : Ty → Result ℕ} (a⊒ : SameOr7 al al') where
  max_align_less : (ts : Tys) (m a : ℕ) → max_align al' ts m ≡ ok a → Or7 (max_align al ts m) a
  unfolding max_align
  max_align_less Tys.nil m a h = inl h
  max_align_less (Tys.cons t ts) m a h =
      let x = bind_ok (al' t) (λ b. max_align al' ts (max m b)) a h in
      first (al t) x.0 (λ b. max_align al ts (max m b)) a (a⊒ t x.0 x.1) (max_align_less ts (max m x.0) a x.2)

  struct_align_less : (p : Bool) (ts : Tys) (a : ℕ) → struct_align al' (record { packed = p; fields = ts }) ≡ ok a → Or7 (struct_align al (record { packed = p; fields = ts })) a
  unfolding struct_align
  struct_align_less true ts a h = inl h
  struct_align_less false ts a h = max_align_less ts 1 a h

module _ {al al' sz sz' : Ty → Result ℕ} (a⊒ : SameOr7 al al') (s⊒ : SameOr7 sz sz') where
  size_from_less : (p : Bool) (ts : Tys) (off m s : ℕ) → size_from al' sz' p ts off m ≡ ok s → Or7 (size_from al sz p ts off m) s
  unfolding size_from
  size_from_less p Tys.nil off m s h = inl h
  size_from_less p (Tys.cons t ts) off m s h =
      let x = bind_ok (al' t) (λ b. bind (sz' t) (λ z. size_from al' sz' p ts (placed p off b + z) (max m b))) s h in
      let y = bind_ok (sz' t) (λ z. size_from al' sz' p ts (placed p off x.0 + z) (max m x.0)) s x.2 in
      first (al t) x.0 (λ b. bind (sz t) (λ z. size_from al sz p ts (placed p off b + z) (max m b))) s (a⊒ t x.0 x.1)
      (first (sz t) y.0 (λ z. size_from al sz p ts (placed p off x.0 + z) (max m x.0)) s (s⊒ t y.0 y.1)
      (size_from_less p ts (placed p off x.0 + y.0) (max m x.0) s y.2))

module _ (structs : List StructType) where
  pub align_any : (k k' : ℕ) → SameOr7 (align_at structs k) (align_at structs k')
  unfolding align_at bind
  align_any zero k' t n h = inr refl
  align_any (suc k) zero t n h = err_no_ok 7 n h
  align_any (suc k) (suc k') Ty.void n h = inl h
  align_any (suc k) (suc k') Ty.ptr n h = inl h
  align_any (suc k) (suc k') (Ty.sizeless s) n h = inl h
  align_any (suc k) (suc k') (Ty.int w) n h = inl h
  align_any (suc k) (suc k') (Ty.array p l t) n h = align_any k k' t n h
  align_any (suc k) (suc k') (Ty.named_struct x) n h =
      let b = bind_ok (resolve structs x) (λ b. align_at structs k' (as_type b)) n h in
      rw b.1 (align_any k k' (as_type b.0) n b.2)
  align_any (suc k) (suc k') (Ty.struct p ts) n h = struct_align_less (align_any k k') p ts n h

  pub size_any : (k k' : ℕ) → SameOr7 (size_at structs k) (size_at structs k')
  unfolding size_at struct_size bind
  size_any zero k' t n h = inr refl
  size_any (suc k) zero t n h = err_no_ok 7 n h
  size_any (suc k) (suc k') Ty.void n h = inl h
  size_any (suc k) (suc k') Ty.ptr n h = inl h
  size_any (suc k) (suc k') (Ty.sizeless s) n h = inl h
  size_any (suc k) (suc k') (Ty.int w) n h = inl h
  size_any (suc k) (suc k') (Ty.array p l t) n h =
      let b = bind_ok (size_at structs k' t) (λ e. limit (l * e)) n h in
      first (size_at structs k t) b.0 (λ e. limit (l * e)) n (size_any k k' t b.0 b.1) (inl b.2)
  size_any (suc k) (suc k') (Ty.named_struct x) n h =
      let b = bind_ok (resolve structs x) (λ b. size_at structs k' (as_type b)) n h in
      rw b.1 (size_any k k' (as_type b.0) n b.2)
  size_any (suc k) (suc k') (Ty.struct p ts) n h = size_from_less (align_any k k') (size_any k k') p ts 0 1 n h
