-- What a source run answers where it has no state: the number of one of document 01's stops, or 200 for a reply that does not fit its call's width.
use Rattle.std.specs.Prelude.{ℕ, zero, suc, ◌-◌, ◌^◌, refl, ◌⊎◌, Bool, cond, eqb, ltb}
use Rattle.std.proofs.Math.Path.{◌≡◌, sym}
use Rattle.std.proofs.Common.{inl}
use Rattle.std.proofs.Math.Logic.{inr}
use Rattle.std.proofs.Math.Bool.{true, false}
use Rattle.std.proofs.Math.Option.{Option, none, some}
use mathlib.Core.List.{List, [], ◌∷◌}
use Rattle.std.specs.Int.Signed.{quot_z, mag}
use Rattle.book.specs.Ast.{Ty, Value, TypedVal, BinOp, ICmpPred, ConvOp, Incoming, Case, Terminator, BasicBlock}
use Rattle.book.specs.Result.{Result, ok, err, bind, ok_or, err_no_ok}
use Rattle.book.specs.Rule.{find}
use Rattle.machine.specs.State.{World}
use Rattle.machine.specs.Signed.{signed, nonzero}
use Rattle.manual.specs.Stop.{Stop, stops, stop_number, unfit, need}
use Rattle.manual.specs.Values.{bin_value, constant, in_range, conv_widths}
use Rattle.manual.specs.State.{Cell, Env, Given, Source, put}
use Rattle.manual.specs.Operand.{width_of, integer_width, scalar, value, typed, typeds}
use Rattle.manual.specs.Call.{result_width, fitting, receive, target_of, run_call}
use Rattle.manual.specs.Inst.{part, eval_bin, eval_icmp, eval_conv, eval_select, eval_load, run_extract, run_fixed}
use Rattle.manual.specs.Term.{Phi, incoming_for, take_phis, case_for, block_named, edge, returns, run_br, run_term}

-- the number of a stop, or that of a broken premise
abbrev pub Reason : ℕ → Type 0
Reason e = ((s : Stop) × (e ≡ stop_number s)) ⊎ (e ≡ 200)

pub record Only {A : Type 0} (r : Result A) : Type 0 where
  pub only : (e : ℕ) → r ≡ err e → Reason e

-- ---- laws
pub O-ok : {A : Type 0} (a : A) → Only (ok a)
O-ok a = record { only = λ e h. err_no_ok e a (sym h) }

pub O-stop : {A : Type 0} (s : Stop) → Only {A = A} (stops s)
O-stop {A} s = record { only = λ e h. inl (s, same e h) }
  where
    same : (e : ℕ) → ◌≡◌ {A = Result A} (stops s) (err e) → e ≡ stop_number s
    same e h = let z : stop_number s ≡ e = cc in sym z

pub O-bind : {A B : Type 0} {r : Result A} (f : A → Result B) → Only r → ((a : A) → r ≡ ok a → Only (f a)) → Only (bind r f)
unfolding bind
O-bind {r = ok a} f h k = k a refl
O-bind {A} {B} {r = err n} f h k = record { only = λ e i. let z : n ≡ e = same e i in rw (← z) (h.only n refl) }
  where
    same : (e : ℕ) → ◌≡◌ {A = Result B} (err n) (err e) → n ≡ e
    same e i = cc

-- whatever comes before
pub O-then : {A B : Type 0} {r : Result A} (f : A → Result B) → Only r → ((a : A) → Only (f a)) → Only (bind r f)
O-then f h k = O-bind f h (λ a e. k a)

-- the answer is known
pub O-known : {A B : Type 0} {r : Result A} {a : A} (f : A → Result B) → r ≡ ok a → Only (f a) → Only (bind r f)
unfolding bind
O-known f e h = rw e h

pub O-need : (b : Bool) (s : Stop) → Only (need b s)
unfolding need
O-need true s = O-ok tt
O-need false s = O-stop s

pub O-okOr : {A : Type 0} (s : Stop) (o : Option A) → Only (ok_or (stop_number s) o)
unfolding ok_or
O-okOr s (some a) = O-ok a
O-okOr s none = O-stop s

pub O-cond : {A : Type 0} (b : Bool) (x y : Result A) → Only x → Only y → Only (cond b x y)
O-cond true x y h k = h
O-cond false x y h k = k

-- a test, then an answer
tested : {A : Type 0} (b : Bool) (s : Stop) (a : A) → Only (bind (need b s) (λ _. ok a))
tested b s a = O-then _ (O-need b s) λ _. O-ok a

-- ---- operands
pub width_only : (ty : Ty) → Only (width_of ty)
unfolding width_of
width_only (Ty.int w) = O-ok w
width_only Ty.ptr = O-ok 64
width_only Ty.void = O-stop Stop.ill_formed
width_only (Ty.sizeless k) = O-stop Stop.ill_formed
width_only (Ty.array p n t) = O-stop Stop.aggregate
width_only (Ty.named_struct x) = O-stop Stop.aggregate
width_only (Ty.struct p ts) = O-stop Stop.aggregate

pub integer_only : (ty : Ty) → Only (integer_width ty)
unfolding integer_width
integer_only (Ty.int w) = O-ok w
integer_only Ty.ptr = O-stop Stop.ill_formed
integer_only Ty.void = O-stop Stop.ill_formed
integer_only (Ty.sizeless k) = O-stop Stop.ill_formed
integer_only (Ty.array p n t) = O-stop Stop.aggregate
integer_only (Ty.named_struct x) = O-stop Stop.aggregate
integer_only (Ty.struct p ts) = O-stop Stop.aggregate

constant_only : (w v : ℕ) → Only (constant w v)
unfolding constant
constant_only w v = tested (in_range w v) Stop.integer_range _

scalar_only : (w : ℕ) (c : Cell) → Only (scalar w c)
unfolding scalar
scalar_only w (Cell.one v n) = tested (eqb v w) Stop.other_width n
scalar_only w (Cell.two v a b) = O-stop Stop.aggregate

module _ (world : World) (ρ : Env) where
  pub value_only : (w : ℕ) (v : Value) → Only (value world ρ w v)
  unfolding value
  value_only w (Value.local x) = O-then _ (O-okOr Stop.unset (ρ x)) λ c. scalar_only w c
  value_only w (Value.int v) = constant_only w v
  value_only w (Value.zero z) = O-ok 0
  value_only w (Value.global x) = tested (eqb w 64) Stop.ill_formed _
  value_only w Value.other = O-stop Stop.ill_formed

  pub typed_only : (ty : Ty) (v : Value) → Only (typed world ρ ty v)
  unfolding typed
  typed_only ty v = O-then _ (width_only ty) λ w. value_only w v

  typeds_only : (vs : List TypedVal) → Only (typeds world ρ vs)
  unfolding typeds
  typeds_only [] = O-ok []
  typeds_only (v ∷ vs) = O-then _ (typed_only v.ty v.val) λ x. O-then _ (typeds_only vs) λ xs. O-ok (x ∷ xs)

-- ---- operations
bin_only : (op : BinOp) (w x y : ℕ) → Only (bin_value op w x y)
unfolding bin_value
bin_only BinOp.add w x y = O-ok _
bin_only BinOp.sub w x y = O-ok _
bin_only BinOp.mul w x y = O-ok _
bin_only BinOp.udiv w x y = tested (ltb 0 y) Stop.undefined _
bin_only BinOp.urem w x y = tested (ltb 0 y) Stop.undefined _
bin_only BinOp.sdiv w x y = O-then _ (O-need (nonzero (signed w y)) Stop.undefined) λ _. tested (ltb (mag (quot_z (signed w x) (signed w y))) (2 ^ (w - 1))) Stop.undefined _
bin_only BinOp.srem w x y = O-then _ (O-need (nonzero (signed w y)) Stop.undefined) λ _. tested (ltb (mag (quot_z (signed w x) (signed w y))) (2 ^ (w - 1))) Stop.undefined _
bin_only BinOp.and w x y = O-ok _
bin_only BinOp.or w x y = O-ok _
bin_only BinOp.xor w x y = O-ok _
bin_only BinOp.shl w x y = tested (ltb y w) Stop.undefined _
bin_only BinOp.lshr w x y = tested (ltb y w) Stop.undefined _
bin_only BinOp.ashr w x y = tested (ltb y w) Stop.undefined _

part_only : (k : ℕ) (c : Cell) → Only (part k c)
unfolding part
part_only k (Cell.one w n) = O-stop Stop.ill_formed
part_only zero (Cell.two w a b) = O-ok _
part_only (suc zero) (Cell.two w a b) = O-ok _
part_only (suc (suc k)) (Cell.two w a b) = O-stop Stop.ill_formed

module _ (g : Given) where
  reads : (σ : Source) (w : ℕ) (v : Value) → Only (value g.world σ.env w v)
  reads σ w v = value_only g.world σ.env w v

  pub eval_bin_only : (σ : Source) (op : BinOp) (w : ℕ) (a b : Value) → Only (eval_bin g σ op w a b)
  unfolding eval_bin
  eval_bin_only σ op w a b = O-then _ (reads σ w a) λ x. O-then _ (reads σ w b) λ y. bin_only op w x y

  pub eval_icmp_only : (σ : Source) (p : ICmpPred) (w : ℕ) (a b : Value) → Only (eval_icmp g σ p w a b)
  unfolding eval_icmp
  eval_icmp_only σ p w a b = O-then _ (reads σ w a) λ x. O-then _ (reads σ w b) λ y. O-ok _

  pub eval_conv_only : (σ : Source) (op : ConvOp) (fw tw : ℕ) (v : Value) → Only (eval_conv g σ op fw tw v)
  unfolding eval_conv
  eval_conv_only σ op fw tw v = O-then _ (reads σ fw v) λ x. tested (conv_widths op fw tw) Stop.ill_formed _

  pub eval_select_only : (σ : Source) (w : ℕ) (c a b : Value) → Only (eval_select g σ w c a b)
  unfolding eval_select
  eval_select_only σ w c a b = O-then _ (reads σ 1 c) λ t. O-cond (eqb t 0) _ _ (reads σ w b) (reads σ w a)

  pub eval_load_only : (σ : Source) (n w : ℕ) (p : Value) → Only (eval_load g σ n w p)
  unfolding eval_load
  eval_load_only σ n w p = O-then _ (reads σ 64 p) λ a. O-then _ (O-need _ Stop.load_range) λ _. O-ok _

  pub extract_only : (dest : Option ℕ) (v : Value) (k : ℕ) (σ : Source) → Only (run_extract g dest v k σ)
  unfolding run_extract
  extract_only dest (Value.local x) k σ = O-then _ (O-okOr Stop.unset (σ.env x)) λ c. O-then _ (part_only k c) λ d. O-ok _
  extract_only dest (Value.global x) k σ = O-stop Stop.ill_formed
  extract_only dest (Value.int v) k σ = O-stop Stop.ill_formed
  extract_only dest (Value.zero z) k σ = O-stop Stop.aggregate
  extract_only dest Value.other k σ = O-stop Stop.ill_formed

  pub fixed_only : (x : ℕ) (σ : Source) → Only (run_fixed g x σ)
  unfolding run_fixed
  fixed_only x σ = O-then _ (O-need _ Stop.place_empty) λ _. O-then _ (O-need _ Stop.place_twice) λ _. O-then _ (O-okOr Stop.ill_formed _) λ off. O-ok _

  -- ---- calls
  result_only : (ty : Ty) → Only (result_width ty)
  unfolding result_width
  result_only Ty.void = O-ok none
  result_only (Ty.int w) = O-ok _
  result_only Ty.ptr = O-ok _
  result_only (Ty.sizeless k) = O-stop Stop.result_type
  result_only (Ty.array p n t) = O-stop Stop.result_type
  result_only (Ty.named_struct x) = O-stop Stop.result_type
  result_only (Ty.struct p ts) = O-stop Stop.result_type

  target_only : (ρ : Env) (v : Value) → Only (target_of g ρ v)
  unfolding target_of
  target_only ρ (Value.global x) = O-ok _
  target_only ρ (Value.local x) = O-then _ (value_only g.world ρ 64 (Value.local x)) λ a. O-ok _
  target_only ρ (Value.int v) = O-stop Stop.ill_formed
  target_only ρ (Value.zero z) = O-stop Stop.ill_formed
  target_only ρ Value.other = O-stop Stop.ill_formed

  fitting_only : (b : Bool) (σ : Source) → Only (fitting b σ)
  unfolding fitting
  fitting_only true σ = O-ok σ
  fitting_only false σ = record { only = λ e h. inr (same e h) }
    where
      same : (e : ℕ) → ◌≡◌ {A = Result Source} unfit (err e) → e ≡ 200
      same e h = let z : ◌≡◌ {A = ℕ} 200 e = cc in sym z

  receive_only : (r dest : Option ℕ) (c : ℕ) (σ : Source) → Only (receive r dest c σ)
  unfolding receive
  receive_only none none c σ = O-ok σ
  receive_only none (some x) c σ = O-stop Stop.ill_formed
  receive_only (some w) dest c σ = fitting_only (ltb c (2 ^ w)) (put dest w c σ)

  pub call_only : (dest : Option ℕ) (ty : Ty) (v : Value) (as' : List TypedVal) (σ : Source) → Only (run_call g dest ty v as' σ)
  unfolding run_call
  call_only dest ty v as' σ = O-then _ (typeds_only g.world σ.env as') λ xs. O-then _ (target_only σ.env v) λ t. O-then _ (result_only ty) λ r.
      O-then _ (O-need _ Stop.syscall_shape) λ _. receive_only r dest _ _

  -- ---- terminators
  incoming_only : (p : ℕ) (is : List Incoming) → Only (incoming_for p is)
  unfolding incoming_for
  incoming_only p [] = O-stop Stop.ill_formed
  incoming_only p (i ∷ is) = O-cond (eqb i.label p) _ _ (O-ok _) (incoming_only p is)

  phis_only : (p : ℕ) (qs : List Phi) (ρ : Env) → Only (take_phis g.world p qs ρ)
  unfolding take_phis
  phis_only p [] ρ = O-ok ρ
  phis_only p (q ∷ qs) ρ = O-then _ (incoming_only p q.incoming) λ v. O-then _ (width_only q.ty) λ w. O-then _ (value_only g.world ρ w v) λ x. O-then _ (phis_only p qs ρ) λ τ. O-ok _

  pub block_only : (b : ℕ) → Only (block_named g b)
  block_only b = O-okOr Stop.no_block (find (λ (k : BasicBlock). k.label) b g.function.blocks)

  edge_only : (p b : ℕ) (σ : Source) → Only (edge g p b σ)
  unfolding edge
  edge_only p b σ = O-then _ (block_only b) λ k. O-then _ (phis_only p _ σ.env) λ ρ. O-ok _

  case_only : (w x d : ℕ) (ks : List Case) → Only (case_for w x d ks)
  unfolding case_for
  case_only w x d [] = O-ok d
  case_only w x d (k ∷ ks) = O-then _ (constant_only w k.value) λ y. O-cond (eqb x y) _ _ (O-ok _) (case_only w x d ks)

  returns_only : (r : Option ℕ) (v : Option TypedVal) (σ : Source) → Only (returns g r v σ)
  unfolding returns
  returns_only r none σ = O-then _ (O-need _ Stop.ill_formed) λ _. O-ok 0
  returns_only r (some v) σ = O-then _ (width_only v.ty) λ w. O-then _ (O-need _ Stop.ill_formed) λ _. value_only g.world σ.env w v.val

  br_only : (p : ℕ) (v : Option Value) (t : ℕ) (f : Option ℕ) (σ : Source) → Only (run_br g p v t f σ)
  unfolding run_br
  br_only p none t f σ = edge_only p t σ
  br_only p (some v) t f σ = O-then _ (O-okOr Stop.ill_formed f) λ d. O-then _ (value_only g.world σ.env 1 v) λ x. O-cond (eqb x 0) _ _ (edge_only p d σ) (edge_only p t σ)

  pub term_only : (p : ℕ) (t : Terminator) (σ : Source) → Only (run_term g p t σ)
  unfolding run_term
  term_only p (Terminator.ret v) σ = O-then _ (result_only g.function.ret_ty) λ r. O-then _ (returns_only r v σ) λ x. O-ok _
  term_only p (Terminator.br v t f) σ = br_only p v t f σ
  term_only p (Terminator.switch ty v d ks) σ = O-then _ (integer_only ty) λ w. O-then _ (value_only g.world σ.env w v) λ x. O-then _ (case_only w x d ks) λ b. edge_only p b σ
  term_only p Terminator.unreachable σ = O-stop Stop.unreachable
