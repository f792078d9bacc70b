-- From the entries of a sound book to its functions' lines.
use Rattle.std.specs.Prelude.{ℕ, ◌-◌, ◌<◌, ◌≡◌, List, length}
use Rattle.std.proofs.Common.{ap, subst, ◌∙◌, arith, length-append}
use Rattle.std.proofs.Math.Option.{some}
use Rattle.names.specs.Lines.{accepted_iff}
use Rattle.book.specs.Ast.{Book, Function}
use Rattle.book.specs.Entry.{entries}
use Rattle.book.specs.Decode.{decode}
use Rattle.book.specs.Encode.{enc_functions}
use Rattle.book.proofs.AgreeBook.{functions_begin, decode_sound}
use Rattle.book.specs.Heads.{book_heads}
use Rattle.book_types.specs.Laws.{length_entries}
use Rattle.lowering.specs.Context.{codegen_of}
use Rattle.lowering.specs.Function.{gen_functions}
use Rattle.gen_blocks.specs.Function.{functions_in, functions_are, last_of, FunctionsAt}
use Rattle.gen_prepare.specs.Prepare.{BookAsk, BookDone}
use Rattle.gen_passes.specs.Passes.{fitted, Answered, PassAsk}
use Rattle.gen_passes.specs.Reply.{Reply}

pub record GenerateAsk (bs : List ℕ) (m : ℕ) (bk bw work : List ℕ) : Type 0 where
  pub ask : BookAsk bs m (entries bk bw) work
  pub even : length bk ≡ length bw

-- ---- what `prepare_book` leaves is what the passes ask
module _ {bs : List ℕ} {m : ℕ} (bk bw : List ℕ) {work : List ℕ} (a : GenerateAsk bs m bk bw work) {work' : List ℕ} {first : ℕ} (d : BookDone bs m (entries bk bw) work' first) where
  -- where the functions end
  last_is : last_of (entries bk bw) ≡ length bk - 1
  last_is = omega (arith, length_entries bk bw, a.even)

  pub here : FunctionsAt m (entries bk bw) (length bk - 1) first (functions_in m (entries bk bw))
  here = subst (λ (l : ℕ). FunctionsAt m (entries bk bw) l first (functions_in m (entries bk bw))) last_is d.functions

  -- there is an entry
  pub some_entry : 0 < length bk
  some_entry =
      let k = a.ask.book in
      let s = decode_sound m (entries bk bw) k.book k.says in
      let h = book_heads k.book in
      let five = functions_begin m k.book.functions s.1.functions in
      omega (arith, length_entries bk bw, a.even, ap length (s.0 ∙ h.here), length-append h.pre (enc_functions k.book.functions), ap length five.1.1)

  pub passes_ask : PassAsk m bk bw first (length bk - 1) work'
  passes_ask =
      let n = (accepted_iff bs m).0 a.ask.names in
      let k = a.ask.book in
      record { codegen = codegen_of n.0 k.book; functions = functions_in m (entries bk bw); here = here; shared = d.shared n.0 k.book n.1 k.says; clean = d.clean }

  -- what they answer is what the definition gives
  pub passes_answer : (ns : List (List ℕ)) (b : Book) → decode m (entries bk bw) ≡ some b → (counter k : ℕ) (r : Reply) (ks os ks' os' : List ℕ)
      → Answered (fitted (gen_functions (codegen_of ns b) (functions_in m (entries bk bw)) counter) k) r ks os ks' os'
      → Answered (fitted (gen_functions (codegen_of ns b) b.functions counter) k) r ks os ks' os'
  passes_answer ns b eb counter k r ks os ks' os' h =
      subst (λ (fs : List Function). Answered (fitted (gen_functions (codegen_of ns b) fs counter) k) r ks os ks' os') (functions_are m (entries bk bw) b eb) h
