-- codegen.rs: `gen_function`.
use Rattle.std.specs.Prelude.{ℕ, ◌+◌, cond, List, [], ltb}
use Rattle.numbers.specs.Align.{align_up}
use Rattle.book.specs.Ast.{BasicBlock, Function}
use Rattle.assembly.specs.Line.{Line}
use Rattle.lowering.specs.Gen.{Gen, line, refuse, ◌>>=◌, ◌>>◌, when, each}
use Rattle.book.specs.Shape.{all_insts}
use Rattle.lowering.specs.Context.{Codegen, FnCtx, Slots, param_map, block_map, slot_map, no_slots}
use Rattle.lowering.specs.Operand.{add64}
use Rattle.layout.specs.Frame.{Places, frame_pass, no_frame, framed}
use Rattle.lowering.specs.Inst.{gen_inst}
use Rattle.lowering.specs.Term.{gen_term}

module _ (c : FnCtx) where
  unfoldable pub gen_block : BasicBlock → Gen
  gen_block bb = do
    line (Line.block_label bb.label)
    each (gen_inst c) bb.insts
    gen_term c bb.label bb.term

  -- the frame is entered: its base is kept in a slot, the stack pointer moved behind it
  unfoldable pub prologue : Gen
  prologue = do
    line Line.thread_get
    line Line.dup
    line (Line.set_local c.bp_slot)
    line (Line.push c.frame_size)
    add64
    line Line.thread_set

  -- the lines of a function with so many slots; 8 above 65,535
  unfoldable pub gen_lines : Function → (total_slots : ℕ) → Gen
  gen_lines f total_slots = do
    line (Line.comment f.name)
    line (Line.fn_label f.name)
    when (ltb 65535 total_slots) (refuse 8)
    when (ltb 0 total_slots) (line (Line.push0n total_slots))
    when c.has_frame prologue
    each gen_block f.blocks
    line Line.blank

module _ (m : Codegen) (f : Function) where
  unfoldable pub slots_of : Slots
  slots_of = slot_map m.names (all_insts f.blocks) no_slots

  unfoldable pub context_of : Places → FnCtx
  context_of fr =
      record {
        codegen = m;
        params = param_map 0 f.params [];
        slots = slots_of.slots;
        blocks = block_map f.blocks [];
        alloca_offsets = fr.offsets;
        frame_size = align_up fr.off 8;
        has_frame = framed fr;
        bp_slot = slots_of.num;
      }

  unfoldable pub total_slots : Places → ℕ
  total_slots fr = slots_of.num + cond (framed fr) 1 0

  unfoldable pub gen_function : Gen
  gen_function = do
    fr ← frame_pass m.structs (all_insts f.blocks) no_frame
    gen_lines (context_of fr) f (total_slots fr)

-- the functions in order, each beginning with the counter that the last one left
unfoldable pub gen_functions : Codegen → List Function → Gen
gen_functions m = each (gen_function m)

-- opens every definition of this file, for an example that computes
unfoldable pub open_function : Unit {0}
unfolding gen_block prologue gen_lines slots_of context_of total_slots gen_function gen_functions
open_function = tt
