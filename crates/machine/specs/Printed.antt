-- Law: a line that has a label prints it, with `:` behind it.
use Rattle.std.specs.Prelude.{ℕ, ◌≡◌, List}
use Rattle.std.proofs.Common.{ap, arith}
use Rattle.std.proofs.Math.Option.{none, some}
use Rattle.book.specs.Ast.{Function}
use Rattle.assembly.specs.Line.{Line}
use Rattle.assembly.specs.Text.{labelled, text}
use Rattle.machine.specs.Labels.{label_in, block_in}

no_label : {X : Type 0} (t : List ℕ) → none ≡ some t → X
no_label t h = absurd (let z : ◌≡◌ {A = ℕ} 0 1 = cc in omega arith)

the_label : {t u : List ℕ} → some t ≡ some u → labelled t ≡ labelled u
the_label h = ap labelled (same h)
  where
    same : {t u : List ℕ} → some t ≡ some u → t ≡ u
    same h = cc

pub label_prints : (names : List (List ℕ)) (f : Function) (l : Line) (t : List ℕ) → label_in names (some f.name) l ≡ some t → text names f l ≡ labelled t
unfolding label_in block_in text
label_prints names f (Line.fn_label x) t h = the_label h
label_prints names f (Line.block_label x) t h = the_label h
label_prints names f (Line.label k n) t h = the_label h
label_prints names f (Line.comment x) t h = no_label t h
label_prints names f (Line.jmp_block x) t h = no_label t h
label_prints names f (Line.push_name x) t h = no_label t h
label_prints names f (Line.syscall x) t h = no_label t h
label_prints names f (Line.call x k) t h = no_label t h
label_prints names f (Line.push0n n) t h = no_label t h
label_prints names f (Line.push n) t h = no_label t h
label_prints names f (Line.get_arg n) t h = no_label t h
label_prints names f (Line.get_local n) t h = no_label t h
label_prints names f (Line.set_local n) t h = no_label t h
label_prints names f (Line.call_fp k) t h = no_label t h
label_prints names f (Line.jump k n) t h = no_label t h
label_prints names f (Line.bin op w) t h = no_label t h
label_prints names f (Line.icmp p w) t h = no_label t h
label_prints names f (Line.trunc n) t h = no_label t h
label_prints names f (Line.sx8 w) t h = no_label t h
label_prints names f (Line.sx16 w) t h = no_label t h
label_prints names f Line.sx32 t h = no_label t h
label_prints names f (Line.load m) t h = no_label t h
label_prints names f (Line.store m) t h = no_label t h
label_prints names f Line.atomic_load t h = no_label t h
label_prints names f Line.atomic_store t h = no_label t h
label_prints names f Line.atomic_cas t h = no_label t h
label_prints names f Line.sys_memcmp t h = no_label t h
label_prints names f Line.dup t h = no_label t h
label_prints names f Line.pop t h = no_label t h
label_prints names f Line.ret t h = no_label t h
label_prints names f Line.panic t h = no_label t h
label_prints names f Line.thread_get t h = no_label t h
label_prints names f Line.thread_set t h = no_label t h
label_prints names f Line.blank t h = no_label t h
