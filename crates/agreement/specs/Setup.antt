-- A translated function and what it runs in: the context of its generators, what the source run is given, and the machine's lines.
use Rattle.std.specs.Prelude.{ℕ, List, []}
use Rattle.numbers.specs.Align.{align_up}
use Rattle.book.specs.Ast.{Function}
use Rattle.assembly.specs.Line.{Line}
use Rattle.machine.specs.State.{World}
use Rattle.lowering.specs.Context.{Codegen, FnCtx, param_map, block_map}
use Rattle.lowering.specs.Function.{slots_of}
use Rattle.manual.specs.State.{Given}
use Rattle.layout.specs.Frame.{Places, framed}

pub record Setup : Type 0 where
  pub codegen : Codegen
  pub function : Function
  pub frame : Places
  pub world : World
  -- the argument cells, and the stack pointer found at entry
  pub args : List ℕ
  pub base : ℕ
  pub lines : List Line

-- `context_of` of the function
abbrev pub ctx : Setup → FnCtx
ctx s =
    record {
      codegen = s.codegen;
      params = param_map 0 s.function.params [];
      slots = (slots_of s.codegen s.function).slots;
      blocks = block_map s.function.blocks [];
      alloca_offsets = s.frame.offsets;
      frame_size = align_up s.frame.off 8;
      has_frame = framed s.frame;
      bp_slot = (slots_of s.codegen s.function).num;
    }

abbrev pub given : Setup → Given
given s =
    record { names = s.codegen.names; structs = s.codegen.structs; function = s.function; frame = s.frame; world = s.world; base = s.base }
