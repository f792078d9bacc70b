-- The order of two names as the code gives it.
use Rattle.std.specs.Prelude.{ℕ, ◌≡◌, refl, Bool, true, false, List, ltb}
use Rattle.std.proofs.Common.{ap, ◌∙◌, ⊎_elim, arith, le_of_lt, lt-ltb, le-ltb, eq-eqb, ne_eqb}
use Rattle.std.specs.Ordering.{is_lt, nat_cmp}
use Rattle.std.specs.declared.cmp.Ordering.{Ordering}
use Rattle.std.specs.declared.cmp.Ordering.TheVariants.{Less, Equal, Greater}
use Rattle.names.specs.Name.{before}
use Rattle.names.specs.Order.{compared}
use Rattle.names.specs.Compare.{Order, order_by, order}

abbrev pub ordering : Order → Ordering
ordering Order.less = Less
ordering Order.equal = Equal
ordering Order.greater = Greater

by_less : (p q : Bool) → is_lt (ordering (order_by p q)) ≡ p
unfolding order_by
by_less true q = refl
by_less false true = refl
by_less false false = refl

-- whether the first stands before the second
pub less_before : (a b : List ℕ) (r : Ordering) → r ≡ ordering (order a b) → is_lt r ≡ before a b
unfolding order
less_before a b r e = ap is_lt e ∙ by_less (before a b) (before b a)

-- the order of two numbers
pub number_order : (x y : ℕ) → nat_cmp x y ≡ ordering (order_by (ltb x y) (ltb y x))
unfolding order_by
number_order x y =
    ⊎_elim (λ l. rw (lt-ltb x y l))
    (⊎_elim (λ e. rw (e, le-ltb y y (omega arith), eq-eqb y y refl))
    (λ l. rw (le-ltb x y (le_of_lt l), ne_eqb x y (λ e. omega arith), lt-ltb y x l)))
    (compared x y)
