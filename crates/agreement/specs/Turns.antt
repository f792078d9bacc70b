-- Where the lines of a book's functions stand: one function's after the other's, "each beginning with the counter that the last one left".
use Rattle.std.specs.Prelude.{ℕ, zero, suc, ◌+◌, ◌≡◌, refl, List, [], ◌∷◌, ◌++◌, map, length, drop}
use Rattle.std.proofs.Common.{sym, ap, ◌∙◌, subst, ⊎_elim, append_assoc, append-nil, arith, length-append}
use Rattle.std.proofs.Math.Option.{none}
use Rattle.book.specs.Ast.{Function}
use Rattle.book.specs.Limits.{FunctionLimits}
use Rattle.book.specs.Result.{ok, bind_ok}
use Rattle.assembly.specs.Line.{Line}
use Rattle.machine.specs.Labels.{Placed, function_from, label_in, placed}
use Rattle.lowering.specs.Gen.{Out, after, skip, lines, ◌>>◌, each}
use Rattle.lowering.specs.Context.{Codegen}
use Rattle.lowering.specs.Function.{gen_function, gen_functions}
use Rattle.agreement.specs.Holds.{ok_same}
use Rattle.agreement.specs.Lists.{none_some, drop_map, drop_right, drop_parts, drop_each, In, here, there}
use Rattle.agreement.specs.Naming.{LabelsOnce}
use Rattle.agreement.specs.Placing.{under, Plain, OwnLines, own_lines, within}
use Rattle.agreement.specs.Piece.{at_within}
use Rattle.agreement.specs.Statement.{LinesAt, BeginsAt}

-- ---- by themselves, and behind others
pub by_itself : (g : Codegen) (f : Function) (c : ℕ) (own : Out) → gen_function g f c ≡ ok own → LinesAt g f own.lines 0
by_itself g f c own makes = record { counter = c; own = own; made = makes; before = []; after = []; parts = sym (append-nil own.lines); position = refl }

behind : {g : Codegen} {f : Function} {ls : List Line} {p : ℕ} (a : List Line) → LinesAt g f ls p → LinesAt g f (a ++ ls) (length a + p)
behind a at = record {
  counter = at.counter;
  own = at.own;
  made = at.made;
  before = a ++ at.before;
  after = at.after;
  parts = ap (λ l. a ++ l) at.parts ∙ sym (append_assoc a at.before _);
  position = ap (λ k. length a + k) at.position ∙ sym (length-append a at.before);
}

-- ---- in turn
-- the first function's lines, and those of the others at the counter that it left
record Turn (g : Codegen) (f : Function) (fs : List Function) (c : ℕ) (out : Out) : Type 0 where
  own : Out
  more : Out
  made : gen_function g f c ≡ ok own
  others : gen_functions g fs own.next ≡ ok more
  parts : own.lines ++ more.lines ≡ out.lines

turn : (g : Codegen) (f : Function) (fs : List Function) (c : ℕ) (out : Out) → gen_functions g (f ∷ fs) c ≡ ok out → Turn g f fs c out
unfolding gen_functions each ◌>>◌ after
turn g f fs c out h =
    let (own, made, h₁) = bind_ok (gen_function g f c) _ out h in
    let (more, others, h₂) = bind_ok (each (gen_function g) fs own.next) _ out h₁ in
    record { own = own; more = more; made = made; others = others; parts = ap (λ (o : Out). o.lines) (ok_same h₂) }

this_turn : {g : Codegen} {f : Function} {fs : List Function} {c : ℕ} {out : Out} → Turn g f fs c out → LinesAt g f out.lines 0
this_turn {c} t = record { counter = c; own = t.own; made = t.made; before = []; after = t.more.lines; parts = sym t.parts; position = refl }

later_turn : {g : Codegen} {f k : Function} {fs : List Function} {c : ℕ} {out : Out} {p : ℕ} (t : Turn g f fs c out) → LinesAt g k t.more.lines p → LinesAt g k out.lines (length t.own.lines + p)
later_turn {g} {k} {p} t at = subst (λ ls. LinesAt g k ls (length t.own.lines + p)) t.parts (behind t.own.lines at)

-- each function's lines are there
pub in_turn_lem : (g : Codegen) {f : Function} (fs : List Function) (c : ℕ) (out : Out) → gen_functions g fs c ≡ ok out → In f fs → (p : ℕ) × LinesAt g f out.lines p
in_turn_lem g {f = f} [] c out h x'' = elim x'' [ ]
in_turn_lem g (f ∷ fs) c out h here = (0, this_turn (turn g f fs c out h))
in_turn_lem g (k ∷ fs) c out h (there i) =
    let t = turn g k fs c out h in
    let (p, at) = in_turn_lem g fs t.own.next t.more t.others i in
    (length t.own.lines + p, later_turn t at)

-- ---- comment lines
pub begins_at : (g : Codegen) (f : Function) → FunctionLimits (length g.names) f → (lines : List Line) (from : ℕ) → LinesAt g f lines from → BeginsAt f lines from
begins_at g f limits lines from at =
    let own = own_lines g f limits at.counter at.own at.made in
    let here : from ≡ length at.before + 0 = omega (arith, at.position) in
    (_, ap (λ p. drop p lines) here ∙ ap (drop (length at.before + 0)) at.parts ∙ drop_right at.before _ 0 ∙ ap (λ l. l ++ at.after) own.begins)

no_comment_lem : {X : Type 0} (x : ℕ) → Plain (Line.comment x) → X
unfolding function_from
no_comment_lem x h = none_some x (sym (h none))

-- a function's lines have one comment line, the first
own_first : (g : Codegen) (f : Function) {ls : List Line} → OwnLines g f ls → (p : ℕ) {x : ℕ} {j : List Line} → drop p ls ≡ Line.comment x ∷ j → (p ≡ 0) × (f.name ≡ x)
own_first g f o zero e = (refl, same (sym o.begins ∙ e))
  where
    same : {x y : ℕ} {ls ks : List Line} → ◌≡◌ {A = List Line} (Line.comment x ∷ ls) (Line.comment y ∷ ks) → x ≡ y
    same e = cc
own_first g f o (suc p) {x} e = no_comment_lem x (drop_each Plain (Line.fn_label f.name ∷ o.rest) p o.plain (ap (drop (suc p)) (sym o.begins) ∙ e))

-- and its label behind that
label_line : (g : Codegen) (lines : List Line) (f : Function) → FunctionLimits (length g.names) f → (p : ℕ) → LinesAt g f lines p
    → (rest : List Placed) × (drop (p + 1) (placed lines) ≡ under f.name (Line.fn_label f.name) ∷ rest)
label_line g lines f limits p at =
    let w = within g f limits lines p at in
    let own = own_lines g f limits at.counter at.own at.made in (
      _,
      at_within g.names w.before (map (under f.name) at.own.lines) w.after (placed lines) w.parts p w.position 1
          (drop_map (under f.name) at.own.lines 1 (ap (drop 1) own.begins)),
    )

-- a comment line is where a function's lines begin
pub comment_turn : (g : Codegen) (fs : List Function) → ((f : Function) → In f fs → FunctionLimits (length g.names) f) → (c : ℕ) (out : Out) → gen_functions g fs c ≡ ok out
    → (p : ℕ) {x : ℕ} {rest : List Line} → drop p out.lines ≡ Line.comment x ∷ rest → (k : Function) × In k fs × (k.name ≡ x) × LinesAt g k out.lines p
unfolding gen_functions each skip lines
comment_turn g [] limits c out h p {x} e = no_line p (ap (λ (o : Out). drop p o.lines) (ok_same h) ∙ e)
  where
    first : List Line → ℕ
    first [] = 0
    first (l ∷ ls) = 1

    no_line : {X : Type 0} (p : ℕ) {l : Line} {ls : List Line} → drop p [] ≡ l ∷ ls → X
    no_line zero e = absurd (let z : ◌≡◌ {A = ℕ} 0 1 = ap first e in omega arith)
    no_line (suc p) e = absurd (let z : ◌≡◌ {A = ℕ} 0 1 = ap first e in omega arith)
comment_turn g (f ∷ fs) limits c out h p e =
    let t = turn g f fs c out h in
    ⊎_elim
    (λ (j, d). let (first, same) = own_first g f (own_lines g f (limits f here) c t.own t.made) p d in (f, here, same, subst (LinesAt g f out.lines) (sym first) (this_turn t)))
    (λ (q, i, d). let (k, of, same, at) = comment_turn g fs (λ k of. limits k (there of)) t.own.next t.more t.others q d in (k, there of, same, subst (LinesAt g k out.lines) (sym i) (later_turn t at)))
    (drop_parts t.own.lines t.more.lines p (ap (drop p) t.parts ∙ e))

-- where no label line occurs twice, functions of one name begin at one position: each has its label behind its comment line
pub one_comment : (g : Codegen) (lines : List Line) → LabelsOnce g.names (placed lines) → (f k : Function) → FunctionLimits (length g.names) f → FunctionLimits (length g.names) k → k.name ≡ f.name
    → (p q : ℕ) → LinesAt g f lines p → LinesAt g k lines q → p ≡ q
unfolding LabelsOnce label_in
one_comment g lines u f k lf lk same p q at_f at-k =
    let (a, x) = label_line g lines f lf p at_f in
    let (b, y) = label_line g lines k lk q at-k in
    let e : p + 1 ≡ q + 1 = u (p + 1) (q + 1) _ _ a b _ x y refl (rw same refl) in
    omega arith
