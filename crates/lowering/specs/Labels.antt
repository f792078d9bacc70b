-- Law: the next counter is the given one and the number of labels: two for each select, one for each conditional br, one for each case of a switch.
use Rattle.std.specs.Prelude.{ℕ, ◌+◌, List, [], ◌∷◌, length}
use Rattle.std.proofs.Math.Option.{Option, none, some}
use Rattle.std.proofs.Common.{arith}
use Rattle.book.specs.Ast.{Ty, Value, Case, InstKind, Inst, Terminator, BasicBlock, Function}
use Rattle.lowering.specs.Gen.{Gen, each}
use Rattle.lowering.specs.Context.{Codegen, FnCtx}
use Rattle.lowering.specs.Arith.{gen_select}
use Rattle.lowering.specs.Inst.{gen_kind, gen_inst}
use Rattle.lowering.specs.Term.{gen_cond_br, gen_br, gen_switch, gen_term}
use Rattle.lowering.specs.Function.{gen_block, prologue, gen_lines, gen_function, gen_functions}
use Rattle.lowering.specs.Takes.{Takes, line_takes, skip_takes, refuse_takes, bind_takes, then_takes, when_takes, fresh_takes, reserve_takes, as_many, quiet}
use Rattle.lowering.specs.Quiet.{add_takes, push_takes, dest_takes, bin_takes, conv_takes, icmp_takes, load_takes, store_takes, alloca_takes, gep_takes, call_takes, freeze_takes, atomic_load_takes, atomic_store_takes, width_takes, cmpxchg_takes, extract_takes, edge_takes, ret_takes, tests_takes, case_edges_takes}

module _ (c : FnCtx) where
  -- ---- the labels of an instruction, a terminator, a block, a function
  select_takes : (v : Value) (ty : Ty) (a b : Value) → Takes (gen_select c v ty a b) 2
  unfolding gen_select
  select_takes v ty a b = bind_takes _ _ (λ w. fresh_takes _ (λ l. fresh_takes _ (λ m. search (quiet, push_takes) depth 9)))

  cond_br_takes : (p : ℕ) (v : Value) (t : ℕ) (f : Option ℕ) → Takes (gen_cond_br c p v t f) 1
  unfolding gen_cond_br
  cond_br_takes p v t f = bind_takes _ _ (λ l. then_takes _ _ (push_takes c v 1) (fresh_takes {k = 0} _ (λ m. search (quiet, edge_takes))))

  switch_takes : (p : ℕ) (ty : Ty) (v : Value) (d : ℕ) (ks : List Case) → Takes (gen_switch c p ty v d ks) (length ks)
  unfolding gen_switch
  switch_takes p ty v d ks =
      bind_takes _ _ (λ w. as_many (reserve_takes {k = 0} (length ks) _ (λ l. search (quiet, tests_takes, edge_takes, case_edges_takes))) (omega arith))

unfoldable pub inst_labels : InstKind → ℕ
inst_labels (InstKind.select cond ty tval fval) = 2
inst_labels (InstKind.bin op ty lhs rhs) = 0
inst_labels (InstKind.conv op fromTy val toTy) = 0
inst_labels (InstKind.icmp pred ty lhs rhs) = 0
inst_labels (InstKind.load ty ptr align) = 0
inst_labels (InstKind.store ty val ptr align) = 0
inst_labels (InstKind.alloca ty count align) = 0
inst_labels (InstKind.get_element_ptr baseTy ptr indices) = 0
inst_labels (InstKind.phi ty incoming) = 0
inst_labels (InstKind.call ret_ty callee args) = 0
inst_labels (InstKind.freeze ty val) = 0
inst_labels (InstKind.atomic_load ty ptr) = 0
inst_labels (InstKind.atomic_store ty val ptr) = 0
inst_labels (InstKind.cmpxchg ty ptr cmp new) = 0
inst_labels (InstKind.extract_value agg index) = 0
inst_labels InstKind.fence = 0

unfoldable pub br_labels : Option Value → ℕ
br_labels none = 0
br_labels (some v) = 1

unfoldable pub term_labels : Terminator → ℕ
term_labels (Terminator.ret val) = 0
term_labels (Terminator.br cond if_true if_false) = br_labels cond
term_labels (Terminator.switch ty val default cases) = length cases
term_labels Terminator.unreachable = 0

unfoldable pub sum_of : {A : Type 0} → (A → ℕ) → List A → ℕ
sum_of f [] = 0
sum_of f (x ∷ xs) = f x + sum_of f xs

unfoldable pub block_labels : BasicBlock → ℕ
block_labels b = sum_of (λ (i : Inst). inst_labels i.kind) b.insts + term_labels b.term

unfoldable pub function_labels : Function → ℕ
function_labels f = sum_of block_labels f.blocks

each_sum : {A : Type 0} (f : A → Gen) (k : A → ℕ) (xs : List A) → ((x : A) → Takes (f x) (k x)) → Takes (each f xs) (sum_of k xs)
unfolding each sum_of
each_sum f k [] t = skip_takes
each_sum f k (x ∷ xs) t = then_takes (f x) (each f xs) (t x) (each_sum f k xs t)

module _ (c : FnCtx) where
  kind_takes : (d : Option ℕ) (i : InstKind) → Takes (gen_kind c d i) (inst_labels i)
  unfolding gen_kind inst_labels
  kind_takes d (InstKind.select v ty a b) = then_takes _ _ (select_takes c v ty a b) (dest_takes c d)
  kind_takes d (InstKind.bin op ty a b) = search (quiet, bin_takes, dest_takes)
  kind_takes d (InstKind.conv op t v u) = search (quiet, conv_takes, dest_takes)
  kind_takes d (InstKind.icmp p ty a b) = search (quiet, icmp_takes, dest_takes)
  kind_takes d (InstKind.load ty p a) = search (quiet, load_takes, dest_takes)
  kind_takes d (InstKind.store ty v p a) = store_takes c ty v p
  kind_takes d (InstKind.alloca ty n a) = alloca_takes c d ty n a
  kind_takes d (InstKind.get_element_ptr ty p is) = search (quiet, gep_takes, dest_takes)
  kind_takes d (InstKind.phi ty is) = skip_takes
  kind_takes d (InstKind.call ty v as') = call_takes c d ty v as'
  kind_takes d (InstKind.freeze ty v) = search (quiet, freeze_takes, dest_takes)
  kind_takes d (InstKind.atomic_load ty p) = search (quiet, atomic_load_takes, dest_takes)
  kind_takes d (InstKind.atomic_store ty v p) = atomic_store_takes c ty v p
  kind_takes d (InstKind.cmpxchg ty p x y) = search (quiet, width_takes, cmpxchg_takes)
  kind_takes d (InstKind.extract_value v i) = extract_takes c v i d
  kind_takes d InstKind.fence = skip_takes

  pub inst_takes : (i : Inst) → Takes (gen_inst c i) (inst_labels i.kind)
  unfolding gen_inst
  inst_takes i = kind_takes i.dest i.kind

  br_takes : (p : ℕ) (v : Option Value) (t : ℕ) (f : Option ℕ) → Takes (gen_br c p v t f) (br_labels v)
  unfolding gen_br br_labels
  br_takes p none t f = edge_takes c p t
  br_takes p (some v) t f = cond_br_takes c p v t f

  pub term_labels_lem : (p : ℕ) (t : Terminator) → Takes (gen_term c p t) (term_labels t)
  unfolding gen_term term_labels
  term_labels_lem p (Terminator.ret v) = ret_takes c v
  term_labels_lem p (Terminator.br v t f) = br_takes p v t f
  term_labels_lem p (Terminator.switch ty v d ks) = switch_takes c p ty v d ks
  term_labels_lem p Terminator.unreachable = search quiet

  pub block_takes : (b : BasicBlock) → Takes (gen_block c b) (block_labels b)
  unfolding gen_block block_labels
  block_takes b =
      as_many
      (then_takes _ _ (line_takes _) (then_takes _ _ (each_sum (gen_inst c) (λ (i : Inst). inst_labels i.kind) b.insts inst_takes) (term_labels_lem b.label b.term)))
      (omega arith)

  prologue_takes : Takes (prologue c) 0
  unfolding prologue
  prologue_takes = search (quiet, add_takes) depth 9

  pub lines_labels : (f : Function) (n : ℕ) → Takes (gen_lines c f n) (function_labels f)
  unfolding gen_lines function_labels
  lines_labels f n =
      as_many
      (then_takes _ _ (line_takes _) (then_takes _ _ (line_takes _) (then_takes _ _ (when_takes _ _ (refuse_takes 8 0)) (then_takes _ _ (when_takes _ _ (line_takes _))
      (then_takes _ _ (when_takes _ _ prologue_takes) (then_takes _ _ (each_sum (gen_block c) block_labels f.blocks block_takes) (line_takes _)))))))
      (omega arith)

-- the next counter of a function
pub function_labels_lem : (m : Codegen) (f : Function) → Takes (gen_function m f) (function_labels f)
unfolding gen_function
function_labels_lem m f = bind_takes _ _ (λ fr. lines_labels _ f _)

-- the next counter of functions, one after the other
pub functions_labels : (m : Codegen) (fs : List Function) → Takes (gen_functions m fs) (sum_of function_labels fs)
unfolding gen_functions
functions_labels m fs = each_sum (gen_function m) function_labels fs (function_labels_lem m)
