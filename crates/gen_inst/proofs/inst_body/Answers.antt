-- `gen_inst::inst_body` meets its contract: the group tells the instruction.
use native.Mathlib.Omega.{arith}
use mathlib.Core.Logic.{⊎_elim}
use mathlib.Core.Path.{subst}
use Rattle.book.specs.Kinds.{InstTag}
use Rattle.book.specs.Fields.{inst_fields}
use Rattle.gen_values.specs.Fields.{Fields}
use Rattle.gen_inst.specs.Values.{bin_there, conv_there, icmp_there, select_there, bin_arm, conv_arm, icmp_arm, select_arm}
use Rattle.gen_inst.specs.Measured.{load_lent, store_lent, freeze_lent, atomic_load_lent, atomic_store_lent}
use Rattle.gen_inst.specs.Measured.{load_arm, store_arm, freeze_arm, atomic_load_arm, atomic_store_arm}
use Rattle.gen_inst.specs.Own.{alloca_lent, gep_ask, call_given, swap_measurable, swap_given, extract_given}
use Rattle.gen_inst.specs.Own.{alloca_arm, gep_arm, call_arm, swap_arm, extract_arm, phi_arm, fence_arm, other_arm}
use Rattle.gen_inst.proofs.inst_body.Goals as goal

pub gen_bin-requires : goal.gen_bin-requires
gen_bin-requires c = bin_there c.requires.held c.in-Bin.is

pub gen_conv-requires : goal.gen_conv-requires
gen_conv-requires c = conv_there c.requires.held c.in-Conv.is

pub gen_icmp-requires : goal.gen_icmp-requires
gen_icmp-requires c = icmp_there c.requires.held c.in-ICmp.is

pub gen_select-requires : goal.gen_select-requires
gen_select-requires c = select_there c.requires.held c.in-Select.is

pub gen_load-requires : goal.gen_load-requires
gen_load-requires c = load_lent c.requires.held c.in-Load.is

pub gen_store-requires : goal.gen_store-requires
gen_store-requires c = store_lent c.requires.held c.in-Store.is

pub gen_freeze-requires : goal.gen_freeze-requires
gen_freeze-requires c = freeze_lent c.requires.held c.in-Freeze.is

pub gen_atomic_load-requires : goal.gen_atomic_load-requires
gen_atomic_load-requires c = atomic_load_lent c.requires.held c.in-AtomicLoad.is

pub gen_atomic_store-requires : goal.gen_atomic_store-requires
gen_atomic_store-requires c = atomic_store_lent c.requires.held c.in-AtomicStore.is

pub gen_alloca-requires : goal.gen_alloca-requires
gen_alloca-requires c = alloca_lent c.requires.held c.requires.result c.in-Alloca.is

pub gen_gep-requires : goal.gen_gep-requires
gen_gep-requires c = gep_ask c.args.book_kinds.now c.args.book_words.now c.requires c.in-GetElementPtr.is

pub gen_call-requires : goal.gen_call-requires
gen_call-requires c = call_given c.requires.held c.requires.result c.in-Call.is

pub require_atomic_width-wide-requires : goal.require_atomic_width-wide-requires
require_atomic_width-wide-requires c = swap_measurable c.args.kinds.now c.args.words.now c.requires.held c.in-Cmpxchg.is

pub gen_cmpxchg-requires : goal.gen_cmpxchg-requires
gen_cmpxchg-requires c =
    let g = swap_given c.requires.held c.requires.result c.in-Cmpxchg.is in
    record { holds = g.holds; fields = g.fields; result = g.result; room = omega (arith, g.room, c.require_atomic_width-wide.auto.work) }

pub gen_extractvalue-requires : goal.gen_extractvalue-requires
gen_extractvalue-requires c = extract_given c.requires.held c.requires.result c.in-ExtractValue.is

pub returns-in-Bin : goal.returns-in-Bin
returns-in-Bin c = λ k d i e named base maps f. bin_arm k d i e f maps c.in-Bin.is (λ p g. c.gen_bin.ensures k maps.locals p g)

pub returns-in-Conv : goal.returns-in-Conv
returns-in-Conv c = λ k d i e named base maps f. conv_arm k d i e f maps c.in-Conv.is (λ p g. c.gen_conv.ensures k maps.locals p g)

pub returns-in-ICmp : goal.returns-in-ICmp
returns-in-ICmp c = λ k d i e named base maps f. icmp_arm k d i e f maps c.in-ICmp.is (λ p g. c.gen_icmp.ensures k maps.locals p g)

pub returns-in-Select : goal.returns-in-Select
returns-in-Select c = λ k d i e named base maps f. select_arm k d i e f maps c.in-Select.is (λ p g. c.gen_select.ensures k maps.locals p g)

pub returns-in-Load : goal.returns-in-Load
returns-in-Load c = λ k d i e named base maps f. load_arm k d i e f c.in-Load.is (λ p g. c.gen_load.ensures p k g maps)

pub returns-in-Store : goal.returns-in-Store
returns-in-Store c = λ k d i e named base maps f. store_arm k d i e f c.in-Store.is (λ p g. c.gen_store.ensures p k g maps)

pub returns-in-Freeze : goal.returns-in-Freeze
returns-in-Freeze c = λ k d i e named base maps f. freeze_arm k d i e f c.in-Freeze.is (λ p g. c.gen_freeze.ensures p k g maps)

pub returns-in-AtomicLoad : goal.returns-in-AtomicLoad
returns-in-AtomicLoad c = λ k d i e named base maps f. atomic_load_arm k d i e f c.in-AtomicLoad.is (λ p g. c.gen_atomic_load.ensures p k g maps)

pub returns-in-AtomicStore : goal.returns-in-AtomicStore
returns-in-AtomicStore c = λ k d i e named base maps f. atomic_store_arm k d i e f c.in-AtomicStore.is (λ p g. c.gen_atomic_store.ensures p k g maps)

pub returns-in-Alloca : goal.returns-in-Alloca
returns-in-Alloca c =
    λ k d i e named base maps f.
    alloca_arm k d i e f c.in-Alloca.is c.args.dest named (λ p g. c.gen_alloca.ensures p k g maps base)

pub returns-in-GetElementPtr : goal.returns-in-GetElementPtr
returns-in-GetElementPtr c =
    λ k d i e named base maps f.
    gep_arm k d i e f c.in-GetElementPtr.is
    (λ p g. c.gen_gep.ensures k maps p (subst (Fields c.args.names (inst_fields InstTag.get_element_ptr) p) c.requires.placed g))

pub returns-in-Call : goal.returns-in-Call
returns-in-Call c =
    λ k d i e named base maps f.
    call_arm k d i e f c.in-Call.is c.args.dest named maps (λ p g. c.gen_call.ensures _ p k g maps)

pub returns-in-Cmpxchg : goal.returns-in-Cmpxchg
returns-in-Cmpxchg c =
    λ k d i e named base maps f.
    swap_arm k d i e f c.in-Cmpxchg.is c.args.dest named
    (λ p g. c.require_atomic_width-wide.ensures _ p k c.args.lines.now c.args.operands.now g maps)
    (λ p g. c.gen_cmpxchg.ensures p k g
    (c.require_atomic_width-wide.ensures _ p k c.args.lines.now c.args.operands.now g maps).maps.locals)

pub returns-in-ExtractValue : goal.returns-in-ExtractValue
returns-in-ExtractValue c =
    λ k d i e named base maps f.
    extract_arm k d i e f c.in-ExtractValue.is c.args.dest named maps (λ p g. c.gen_extractvalue.ensures p k g maps.locals)

pub returns-in-Phi : goal.returns-in-Phi
returns-in-Phi c =
    let a = c.args in
    λ k d i e named base maps f.
    ⊎_elim (phi_arm k d a.s a.lines.now a.operands.now i e maps)
    (⊎_elim (fence_arm k d a.s a.lines.now a.operands.now i e maps) (other_arm k d a.s a.lines.now a.operands.now i e maps)) c.in-Phi.is
