-- Laws: an accepted translation has as many lines as were generated, each of them allowed, and the printer reads them back: it never answers 21.
use Rattle.std.specs.Prelude.{ℕ, ◌+◌, ◌≤◌, min, ◌≡◌, refl, Bool, true, false, cond, List, [], ◌∷◌, ◌++◌, map, length, take, drop, leb}
use Rattle.std.proofs.Common.{sym, ap, subst, arith, leb-true}
use Rattle.std.proofs.Math.Option.{none, some}
use Rattle.names.specs.Name.{names_of, counts, accepted}
use Rattle.names.specs.Lines.{accepted_iff}
use Rattle.book.specs.Rule.{pick}
use Rattle.book.specs.Limits.{Limits}
use Rattle.book.specs.Result.{Result, ok, err, bind_ok, given_ok}
use Rattle.book.specs.Input.{Counted, book_in, names_in}
use Rattle.book.proofs.AgreeInput.{slice_sound}
use Rattle.book.specs.Check.{Sound, checked}
use Rattle.assembly.specs.Line.{Line}
use Rattle.assembly.specs.Number.{kind_of, operand_of}
use Rattle.assembly.specs.Lists.{AllAllowed}
use Rattle.assembly.proofs.Lists.{lines_of_numbers}
use Rattle.assembly.specs.Printer.{Printed, printed_number, refusing, writing, needed, headed, book_texts, print_lines, print}
use Rattle.lowering.specs.Gen.{Out}
use Rattle.lowering.specs.Context.{codegen_of}
use Rattle.lowering.specs.Function.{gen_functions}
use Rattle.lowering.specs.Translate.{generated, Translation, Translating, over, replied, translate}
use Rattle.lowering.specs.Labels.{sum_of, function_labels, functions_labels}
use Rattle.lowering.specs.Allowed.{ok_some}
use Rattle.lowering.proofs.AllowedFunction.{functions_allow}
use Rattle.lowering.specs.Headed.{functions_headed}

-- ---- a sound book: what was read, and that it keeps its limits
pub record Lent (book names : List ℕ) (s : Sound) : Type 0 where
  pub counted : Counted
  pub read : book_in book ≡ some counted
  pub spelled : names_in counted.count names ≡ some s.names
  pub same : counted.book ≡ s.book
  pub limits : Limits (length s.names) s.book

pub names_counted : (m : ℕ) (names : List ℕ) (ns : List (List ℕ)) → names_in m names ≡ some ns → length ns ≡ m
unfolding names_in accepted
names_counted m names ns h = go (counts m (names_of names)) refl h
  where
    go : (t : Bool) → counts m (names_of names) ≡ t → pick t (names_of names) none ≡ some ns → length ns ≡ m
    go true e k =
        let x = (accepted_iff names m).0 e in
        let q : x.0 ≡ ns = cc (x.1, k) in
        rw q at x.2
    go false e k = absurd (let z : ◌≡◌ {A = ℕ} 0 1 = cc in omega arith)

pub checked_lent : (book names : List ℕ) (counter work : ℕ) (s : Sound) → checked book names counter work ≡ ok s → Lent book names s
unfolding checked
checked_lent book names counter work s h =
    let a = bind_ok _ _ s h in
    let c = bind_ok _ _ s a.2 in
    let d = bind_ok _ _ s c.2 in
    let e = bind_ok _ _ s d.2 in
    let f = given_ok _ _ _ s e.2 in
    let p = ok_some 1 (book_in book) a.0 a.1 in
    let q = ok_some 2 (names_in a.0.count names) d.0 d.1 in
    let g : record { names = d.0; book = a.0.book } ≡ s = f.1 in
    let k = (slice_sound book a.0 p).1.book in
    let n = names_counted a.0.count names d.0 q in
    subst (Lent book names) g (record { counted = a.0; read = p; spelled = q; same = refl; limits = subst (λ (m : ℕ). Limits m a.0.book) (sym n) k })

-- ---- what is generated
pub record Accepted (book names : List ℕ) (counter : ℕ) (o : Out) : Type 0 where
  pub sound : Sound
  pub lent : Lent book names sound
  pub allowed : AllAllowed sound.names sound.book o.lines
  pub headed : headed o.lines ≡ true
  pub labels : o.next ≡ counter + sum_of function_labels sound.book.functions

-- every line is allowed and headed, they fit, and the next counter is the given one and the number of labels
pub generated_allowed : (book names : List ℕ) (counter work room : ℕ) (o : Out) → generated book names counter work room ≡ ok o → Accepted book names counter o × (length o.lines ≤ room)
unfolding generated
generated_allowed book names counter work room o h =
    let a = bind_ok (checked book names counter work) _ o h in
    let c = bind_ok (gen_functions (codegen_of a.0.names a.0.book) a.0.book.functions counter) _ o a.2 in
    let d = given_ok _ _ c.0 o c.2 in
    let l = checked_lent book names counter work a.0 a.1 in
    let f = (functions_allow a.0.names a.0.book l.limits).allows counter c.0 c.1 in
    let g = functions_headed (codegen_of a.0.names a.0.book) a.0.book.functions counter c.0 c.1 in
    let k = (functions_labels (codegen_of a.0.names a.0.book) a.0.book.functions).takes counter c.0 c.1 in
    subst (λ (q : Out). Accepted book names counter q × (length q.lines ≤ room)) d.1 (record { sound = a.0; lent = l; allowed = f; headed = g; labels = k }, leb-true _ _ d.0)

-- ---- the printer
pub take_over : (f : Line → ℕ) (ls : List Line) (slice : List ℕ) → take (length ls) (over (map f ls) slice) ≡ map f ls
unfolding over
take_over f ls slice = go ls (drop (length (map f ls)) slice)
  where
    go : (ls : List Line) (rest : List ℕ) → take (length ls) (map f ls ++ rest) ≡ map f ls
    go [] rest = refl
    go (l ∷ ls) rest = ap {B = List ℕ} (λ r. f l ∷ r) (go ls rest)

-- the lines of an accepted translation print as their text
pub prints_lines : (book names : List ℕ) (counter : ℕ) (o : Out) (a : Accepted book names counter o) (text : List ℕ)
    → print book names (map kind_of o.lines) (map operand_of o.lines) text ≡ writing (book_texts a.sound.names a.sound.book.functions o.lines) text
unfolding print print_lines needed
prints_lines book names counter o a text =
    let l = a.lent in
    let r = lines_of_numbers a.sound.names a.sound.book o.lines a.allowed in
    rw (l.read, l.spelled, l.same, r, a.headed)

-- an accepted translation: what was generated, and the line slices from index 0
pub record Translated (book names : List ℕ) (given n next : ℕ) (t : Translating) : Type 0 where
  pub out : Out
  pub accepted : Accepted book names given out
  pub many : length out.lines ≡ n
  pub counter : out.next ≡ next
  pub kinds : take n t.kinds ≡ map kind_of out.lines
  pub operands : take n t.operands ≡ map operand_of out.lines

count_of_lem : Translation → ℕ
count_of_lem (Translation.accepted n next) = n
count_of_lem (Translation.refused e) = 0

next_of : Translation → ℕ
next_of (Translation.accepted n next) = next
next_of (Translation.refused e) = 0

is_accepted_lem : Translation → ℕ
is_accepted_lem (Translation.accepted n next) = 1
is_accepted_lem (Translation.refused e) = 0

-- "Accepted: the number of lines and the next counter; lines from index 0"
pub translate_accepted : (book names : List ℕ) (counter : ℕ) (work kinds operands : List ℕ) (n next : ℕ)
    → (translate book names counter work kinds operands).reply ≡ Translation.accepted n next
    → Translated book names counter n next (translate book names counter work kinds operands) × (n ≤ min (length kinds) (length operands))
unfolding translate replied count_of_lem next_of is_accepted_lem
translate_accepted book names counter work kinds operands n next h = go (generated book names counter (length work) room) refl h
  where
    room : ℕ
    room = min (length kinds) (length operands)

    go : (r : Result Out) → generated book names counter (length work) room ≡ r → (replied r work kinds operands).reply ≡ Translation.accepted n next
        → Translated book names counter n next (replied r work kinds operands) × (n ≤ room)
    go (err x) e k = absurd (let z : ◌≡◌ {A = ℕ} 0 1 = ap is_accepted_lem k in omega arith)
    go (ok o) e k =
        let a = generated_allowed book names counter (length work) room o e in
        let p : length o.lines ≡ n = ap count_of_lem k in
        let q : o.next ≡ next = ap next_of k in
        let f = a.1 in (
          record {
            out = o;
            accepted = a.0;
            many = p;
            counter = q;
            kinds = subst (λ (m : ℕ). take m (over (map kind_of o.lines) kinds) ≡ map kind_of o.lines) p (take_over kind_of o.lines kinds);
            operands = subst (λ (m : ℕ). take m (over (map operand_of o.lines) operands) ≡ map operand_of o.lines) p (take_over operand_of o.lines operands);
          },
          omega arith,
        )

writing_fits : (bs text : List ℕ) → printed_number (writing bs text).reply ≡ 21 → ⊥
unfolding writing printed_number refusing
writing_fits bs text h = go (leb (length bs) (length text)) h
  where
    go : (t : Bool) → printed_number (cond t (record { reply = Printed.accepted (length bs); text = bs ++ drop (length bs) text }) (refusing 20 text)).reply ≡ 21 → ⊥
    go true k = omega arith
    go false k = omega arith

-- the printer never answers 21 on the lines of an accepted translation
pub never_21 : (book names : List ℕ) (counter : ℕ) (work kinds operands text : List ℕ) (n next : ℕ)
    → (translate book names counter work kinds operands).reply ≡ Translation.accepted n next
    → printed_number (print book names (take n (translate book names counter work kinds operands).kinds) (take n (translate book names counter work kinds operands).operands) text).reply ≡ 21 → ⊥
never_21 book names counter work kinds operands text n next h k =
    let t = (translate_accepted book names counter work kinds operands n next h).0 in
    let q = prints_lines book names counter t.out t.accepted text in
    writing_fits _ text (rw (t.kinds, t.operands, q) at k)
