-- What the lines of an operation leave is the manual's value, at every width of a book: the operands stand in argument cells, the lines run from the first to
-- the last, and one operand is left.
use Rattle.std.specs.Prelude.{ℕ, suc, ◌^◌, ◌<◌, ◌≡◌, true, cond, drop}
use Rattle.std.proofs.Math.Path.{refl}
use Rattle.std.proofs.Common.{sym}
use Rattle.std.proofs.Math.Option.{some}
use mathlib.Core.List.{List, [], ◌∷◌, map, append-nil}
use borrow.Author.Tests.{lt-ltb, eq-eqb}
use Rattle.numbers.specs.Width.{width_ok}
use Rattle.book.specs.Ast.{Ty, Value, BinOp, ConvOp, ICmpPred, Param, Function}
use Rattle.book.specs.Result.{Result, ok}
use Rattle.assembly.specs.Line.{Line}
use Rattle.machine.specs.Memory.{Memory}
use Rattle.machine.specs.State.{World}
use Rattle.machine.specs.Run.{state, running, steps, start}
use Rattle.lowering.specs.Gen.{Gen, Out}
use Rattle.lowering.specs.Context.{Codegen, FnCtx}
use Rattle.layout.specs.Frame.{no_frame}
use Rattle.lowering.specs.Function.{context_of}
use Rattle.lowering.specs.Arith.{gen_bin, gen_icmp, gen_conv}
use Rattle.manual.specs.Values.{bin_value, icmp_value, conv_value, conv_widths}
use Rattle.manual.specs.State.{Source}
use Rattle.manual.specs.Run.{args_fit}
use Rattle.manual.specs.Open.{open_manual}
use Rattle.lowering.specs.Open.{open_lowering}
use Rattle.agreement.specs.Holds.{H-use}
use Rattle.agreement.specs.Gives.{Gives}
use Rattle.agreement.specs.Setup.{Setup}
use Rattle.agreement.specs.Placing.{under}
use Rattle.agreement.specs.Start.{at_block, at_entry, rel_start}
use Rattle.agreement.specs.Arith.{Computes, bin_ok, icmp_ok, conv_ok}

-- a function of nothing but parameters: integers of these widths, named 0, 1, ..
numbered : ℕ → List ℕ → List Param
numbered i [] = []
numbered i (w ∷ ws) = record { ty = Ty.int w; name = some i } ∷ numbered (suc i) ws

unfoldable pub of_params : List ℕ → Function
unfolding numbered
of_params ws = record { name = 0; ret_ty = Ty.void; params = numbered 0 ws; blocks = [] }

unfoldable pub empty_book : Codegen
empty_book = record { names = []; structs = []; defined = [] }

-- the context in which its lines are made
abbrev pub within : (widths : List ℕ) → FnCtx
within ws = context_of empty_book (of_params ws) no_frame

module _ (world : World) (memory : Memory) (sp : ℕ) (word : sp < 2 ^ 64) where
  -- from the first line and no operand, the lines, those of function 0, come to their end with this one
  abbrev pub Leave : (args : List ℕ) (lines : List Line) (value : ℕ) → Type 0
  Leave args L v = (k p : ℕ) × (steps [] world (map (under 0) L) k (running (start 0 args memory sp)) ≡ running (state p (start 0 args memory sp).frame (v ∷ []) 0)) × (drop p L ≡ [])

  setup : (widths args : List ℕ) → List Line → Setup
  unfolding empty_book of_params
  setup ws args L = record { codegen = empty_book; function = of_params ws; frame = no_frame; world = world; args = args; base = sp; lines = L }

  -- lines that compute what the source does leave it
  left : (ws args : List ℕ) (w v : ℕ) {g : Gen} {f : Source → Result ℕ} (counter : ℕ) (out : Out) → g counter ≡ ok out → args_fit (of_params ws).params args ≡ true
      → Gives g (Computes (setup ws args out.lines) w f) → f (at_entry (setup ws args out.lines) memory) ≡ ok v → Leave args out.lines v
  unfolding setup of_params numbered empty_book open_manual open_lowering at_block start
  left ws args w v counter out made fits gives value =
      let s : Setup = setup ws args out.lines in
      let p = H-use v value (H-use out made (gives.made counter) (at_entry s memory) (at_block s memory) (rel_start s word memory fits)) in
      let c = (p.pushes []).from 0 0 [] (sym (append-nil out.lines)) in
      (c.way.number, c.pos, c.way.reach, c.here)

  -- ---- `gen_bin`, `gen_icmp`, `gen_conv` of parameters
  -- the 13 operations
  pub bin_leaves : (op : BinOp) (w : ℕ) → width_ok w ≡ true → (x y v : ℕ) → x < 2 ^ w → y < 2 ^ w → bin_value op w x y ≡ ok v
      → (counter : ℕ) (out : Out) → gen_bin (within (w ∷ w ∷ [])) op (Ty.int w) (Value.local 0) (Value.local 1) counter ≡ ok out → Leave (x ∷ y ∷ []) out.lines v
  unfolding setup of_params numbered empty_book open_manual open_lowering
  bin_leaves op w h x y v hx hy e counter out made =
      left (w ∷ w ∷ []) (x ∷ y ∷ []) w v counter out made (rw (lt-ltb x (2 ^ w) hx, lt-ltb y (2 ^ w) hy) refl)
      (bin_ok (setup (w ∷ w ∷ []) (x ∷ y ∷ []) out.lines) op (Ty.int w) w (Value.local 0) (Value.local 1) refl h) (rw (eq-eqb w w refl) e)

  -- the 10 predicates: 1 or 0
  pub icmp_leaves : (p : ICmpPred) (w : ℕ) → width_ok w ≡ true → (x y : ℕ) → x < 2 ^ w → y < 2 ^ w
      → (counter : ℕ) (out : Out) → gen_icmp (within (w ∷ w ∷ [])) p (Ty.int w) (Value.local 0) (Value.local 1) counter ≡ ok out
      → Leave (x ∷ y ∷ []) out.lines (cond (icmp_value p w x y) 1 0)
  unfolding setup of_params numbered empty_book open_manual open_lowering
  icmp_leaves p w h x y hx hy counter out made =
      left (w ∷ w ∷ []) (x ∷ y ∷ []) 1 _ counter out made (rw (lt-ltb x (2 ^ w) hx, lt-ltb y (2 ^ w) hy) refl)
      (icmp_ok (setup (w ∷ w ∷ []) (x ∷ y ∷ []) out.lines) p (Ty.int w) w (Value.local 0) (Value.local 1) refl h) (rw (eq-eqb w w refl) refl)

  -- the conversions between integers, of widths that the manual allows
  pub conv_leaves : (op : ConvOp) (fw tw : ℕ) → width_ok fw ≡ true → width_ok tw ≡ true → conv_widths op fw tw ≡ true → (x : ℕ) → x < 2 ^ fw
      → (counter : ℕ) (out : Out) → gen_conv (within (fw ∷ [])) op (Ty.int fw) (Value.local 0) (Ty.int tw) counter ≡ ok out
      → Leave (x ∷ []) out.lines (conv_value op fw tw x)
  unfolding setup of_params numbered empty_book open_manual open_lowering
  conv_leaves op fw tw hf ht c x hx counter out made =
      left (fw ∷ []) (x ∷ []) tw _ counter out made (rw (lt-ltb x (2 ^ fw) hx) refl)
      (conv_ok (setup (fw ∷ []) (x ∷ []) out.lines) op (Ty.int fw) (Ty.int tw) fw tw (Value.local 0) refl refl hf ht) (rw (eq-eqb fw fw refl, c) refl)
