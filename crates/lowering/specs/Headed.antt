-- The lines of functions are headed: each function's begin with its comment line.
use Rattle.std.specs.Prelude.{ℕ, ◌≡◌, true, List, [], ◌∷◌, ◌++◌}
use Rattle.std.proofs.Common.{ap, sym, ◌∙◌}
use Rattle.book.specs.Ast.{Function}
use Rattle.book.specs.Result.{ok, bind, bind_ok}
use Rattle.assembly.specs.Line.{Line}
use Rattle.assembly.specs.Number.{kind_of}
use Rattle.assembly.specs.Printer.{is_comment, headed}
use Rattle.layout.specs.Frame.{frame_pass, no_frame}
use Rattle.book.specs.Shape.{all_insts}
use Rattle.lowering.specs.Gen.{Out, Gen, lines, line, skip, after, ◌>>=◌, ◌>>◌, each}
use Rattle.lowering.specs.Context.{Codegen, FnCtx}
use Rattle.lowering.specs.Function.{gen_lines, context_of, total_slots, gen_function, gen_functions}

-- lines that begin with a comment
abbrev Begun : List Line → Type 0
Begun ls = (x : ℕ) × ((rest : List Line) × (ls ≡ Line.comment x ∷ rest))

-- what two ways of generating give one after the other
parts : (g h : Gen) (n : ℕ) (o : Out) → (g >> h) n ≡ ok o → (p : Out) × ((q : Out) × ((g n ≡ ok p) × (o.lines ≡ p.lines ++ q.lines)))
unfolding ◌>>◌ after
parts g h n o e =
    let x = bind_ok (g n) (λ p. bind (h p.next) (λ q. ok (after p.lines q))) o e in
    let y = bind_ok (h x.0.next) (λ q. ok (after x.0.lines q)) o x.2 in
    let c : after x.0.lines y.0 ≡ o = cc y.2 in
    (x.0, (y.0, (x.1, sym (ap (λ (z : Out). z.lines) c))))

line_is : (l : Line) (n : ℕ) (p : Out) → line l n ≡ ok p → p.lines ≡ l ∷ []
unfolding line lines
line_is l n p e = let c : record { lines = l ∷ []; next = n } ≡ p = cc in sym (ap (λ (z : Out). z.lines) c)

lines_begin : (c : FnCtx) (f : Function) (slots n : ℕ) (o : Out) → gen_lines c f slots n ≡ ok o → Begun o.lines
unfolding gen_lines
lines_begin c f slots n o e =
    let p = parts (line (Line.comment f.name)) _ n o e in
    (f.name, (p.1.0.lines, p.1.1.1 ∙ ap (λ (r : List Line). r ++ p.1.0.lines) (line_is (Line.comment f.name) n p.0 p.1.1.0)))

function_begins : (m : Codegen) (f : Function) (n : ℕ) (o : Out) → gen_function m f n ≡ ok o → Begun o.lines
unfolding gen_function ◌>>=◌
function_begins m f n o e =
    let x = bind_ok (frame_pass m.structs (all_insts f.blocks) no_frame) (λ fr. gen_lines (context_of m f fr) f (total_slots m f fr) n) o e in
    lines_begin (context_of m f x.0) f (total_slots m f x.0) n o x.2

begun_headed : (ls ms : List Line) → Begun ls → headed (ls ++ ms) ≡ true
unfolding headed is_comment kind_of
begun_headed ls ms b = ap (λ (l : List Line). headed (l ++ ms)) b.1.1

-- "a block label or jump takes the function of the last comment line before it": there is one
pub functions_headed : (m : Codegen) (fs : List Function) (n : ℕ) (o : Out) → gen_functions m fs n ≡ ok o → headed o.lines ≡ true
unfolding gen_functions each skip lines headed
functions_headed m [] n o e = let c : record { lines = []; next = n } ≡ o = cc in sym (ap (λ (z : Out). headed z.lines) c)
functions_headed m (f ∷ fs) n o e =
    let p = parts (gen_function m f) (each (gen_function m) fs) n o e in
    ap headed p.1.1.1 ∙ begun_headed p.0.lines p.1.0.lines (function_begins m f n p.0 p.1.1.0)
