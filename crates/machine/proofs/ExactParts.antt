-- An operation has a result exactly where it is defined, and a jump finds its label exactly where a line has it.
use Prim.Native.Nat.{ℕ, zero, suc, ◌-◌, ◌^◌}
use Rattle.std.specs.Prelude.{◌≡◌, Bool, ltb}
use Rattle.std.proofs.Math.Path.{refl, ap}
use Rattle.std.proofs.Common.{sym}
use Rattle.std.proofs.Math.Bool.{true, false}
use Rattle.std.proofs.lemmas.Bool.{false≢true}
use Rattle.std.proofs.Math.Option.{Option, none, some}
use mathlib.Core.List.{List, [], ◌∷◌}
use Rattle.std.specs.Int.Signed.{quot_z, mag}
use borrow.Author.Tests.{ltb-true, lt-ltb}
use Rattle.names.specs.Tests.{both}
use Rattle.names.specs.Texts.{same_iff}
use Rattle.book.specs.Ast.{BinOp}
use Rattle.book.specs.Rule.{when, pick}
use Rattle.machine.specs.Signed.{signed, nonzero, signed_nonzero, nonzero_signed}
use Rattle.machine.specs.Overflow.{no_overflow, overflow_no}
use Rattle.machine.specs.Cells.{none_some, some_same}
use Rattle.machine.specs.State.{cell_at}
use Rattle.machine.specs.Values.{divides, word_op}
use Rattle.machine.specs.Labels.{Placed, moved, prints, label_of, find}
use Rattle.machine.specs.Works.{Divides, Defined, Labelled}

-- ---- operations
when_some : {b : Bool} (x : ℕ) → b ≡ true → (y : ℕ) × (when b x ≡ some y)
when_some x e = (x, rw e refl)

some_when : (b : Bool) (x y : ℕ) → when b x ≡ some y → b ≡ true
some_when true x y e = refl
some_when false x y e = none_some y e

module _ (w a b : ℕ) where
  divides_test : Divides w a b → divides w (signed w b) (quot_z (signed w a) (signed w b)) ≡ true
  unfolding divides
  divides_test (h, k) = rw (signed_nonzero w b h) (lt-ltb _ _ (no_overflow w a b k))

  test_divides : divides w (signed w b) (quot_z (signed w a) (signed w b)) ≡ true → Divides w a b
  unfolding divides
  test_divides e = let (h, k) = both (nonzero (signed w b)) (ltb (mag (quot_z (signed w a) (signed w b))) (2 ^ (w - 1))) e in (nonzero_signed w b h, overflow_no w a b (ltb-true _ _ k))

  pub defined_op : (op : BinOp) → Defined op w a b → (x : ℕ) × (word_op op w a b ≡ some x)
  unfolding word_op
  defined_op BinOp.add h = (_, refl)
  defined_op BinOp.sub h = (_, refl)
  defined_op BinOp.mul h = (_, refl)
  defined_op BinOp.udiv h = when_some _ (lt-ltb 0 b h)
  defined_op BinOp.urem h = when_some _ (lt-ltb 0 b h)
  defined_op BinOp.sdiv h = when_some _ (divides_test h)
  defined_op BinOp.srem h = when_some _ (divides_test h)
  defined_op BinOp.and h = (_, refl)
  defined_op BinOp.or h = (_, refl)
  defined_op BinOp.xor h = (_, refl)
  defined_op BinOp.shl h = when_some _ (lt-ltb b w h)
  defined_op BinOp.lshr h = when_some _ (lt-ltb b w h)
  defined_op BinOp.ashr h = when_some _ (lt-ltb b w h)

  pub op_defined : (op : BinOp) (x : ℕ) → word_op op w a b ≡ some x → Defined op w a b
  unfolding word_op
  op_defined BinOp.add x e = tt
  op_defined BinOp.sub x e = tt
  op_defined BinOp.mul x e = tt
  op_defined BinOp.udiv x e = ltb-true 0 b (some_when _ _ x e)
  op_defined BinOp.urem x e = ltb-true 0 b (some_when _ _ x e)
  op_defined BinOp.sdiv x e = test_divides (some_when _ _ x e)
  op_defined BinOp.srem x e = test_divides (some_when _ _ x e)
  op_defined BinOp.and x e = tt
  op_defined BinOp.or x e = tt
  op_defined BinOp.xor x e = tt
  op_defined BinOp.shl x e = ltb-true b w (some_when _ _ x e)
  op_defined BinOp.lshr x e = ltb-true b w (some_when _ _ x e)
  op_defined BinOp.ashr x e = ltb-true b w (some_when _ _ x e)

-- ---- labels
module _ (names : List (List ℕ)) where
  pub label_find : (lines : List Placed) (t : List ℕ) (i : ℕ) (l : Placed) → cell_at lines i ≡ some l → label_of names l ≡ some t → (p : ℕ) × (find names t lines ≡ some p)
  unfolding find prints cell_at moved
  label_find [] t i l e h = none_some l e
  label_find (k ∷ lines) t zero l e h = let z : label_of names k ≡ some t = rw (some_same e) h in (0, rw (z, (same_iff t t).1 refl) refl)
  label_find (k ∷ lines) t (suc i) l e h = let (p, q) = label_find lines t i l e h in go p q (prints t (label_of names k))
    where
      go : (p : ℕ) → find names t lines ≡ some p → (b : Bool) → (q : ℕ) × (pick b (some 0) (moved (find names t lines)) ≡ some q)
      go p q true = (0, refl)
      go p q false = (suc p, rw q refl)

  pub find_label : (lines : List Placed) (t : List ℕ) (p : ℕ) → find names t lines ≡ some p → Labelled names lines t
  unfolding find cell_at prints moved
  find_label [] t p e = none_some p e
  find_label (k ∷ lines) t p e = go (prints t (label_of names k)) refl e (λ q h. find_label lines t q h)
    where
      same_label : (u : Option (List ℕ)) → prints t u ≡ true → u ≡ some t
      same_label none h = absurd (false≢true h)
      same_label (some u) h = ap {B = Option (List ℕ)} some (sym ((same_iff t u).0 h))

      later : (o : Option ℕ) → moved o ≡ some p → (q : ℕ) × (o ≡ some q)
      later none h = none_some p h
      later (some q) h = (q, refl)

      go : (b : Bool) → prints t (label_of names k) ≡ b → pick b (some 0) (moved (find names t lines)) ≡ some p → ((q : ℕ) → find names t lines ≡ some q → Labelled names lines t) → Labelled names (k ∷ lines) t
      go true h e rest = (0, k, refl, same_label (label_of names k) h)
      go false h e rest = let (q, z) = later (find names t lines) e in let (i, l, c, d) = rest q z in (suc i, l, c, d)
