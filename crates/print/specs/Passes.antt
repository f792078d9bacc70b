-- The two passes, and the answer of the call.
use Rattle.std.specs.Prelude.{ℕ, zero, suc, ◌+◌, ◌-◌, ◌≤◌, ◌<◌, min, ◌≡◌, ◌⊎◌, Bool, Result, Ok, Err, ◌&&◌, eqb, leb, ltb, length, take, drop}
use Rattle.std.proofs.Math.Path.{refl, ap}
use Rattle.std.proofs.Common.{sym, ◌∙◌, subst, inl, inr, arith, length-take}
use Rattle.std.proofs.Math.Bool.{true, false, cond}
use Rattle.std.proofs.Math.Option.{Option, none, some}
use mathlib.Core.List.{List, [], ◌∷◌, ◌++◌, append_assoc}
use borrow.Author.Tests.{le-leb, lt-leb, eqb-true, eqb-false, eq-eqb}
use Rattle.names.specs.Text.{bytes}
use Rattle.names.specs.Tests.{both}
use Rattle.names.specs.Spelling.{is_syscall}
use Rattle.names.specs.Name.{name_at, lines}
use Rattle.names.specs.Lines.{names_iff}
use Rattle.names.specs.Prefix.{PrefixRange}
use Rattle.book.specs.Ast.{Ty, Function, Book}
use Rattle.book.specs.Read.{Read}
use Rattle.book.specs.Decode.{type_to, member, function_names}
use Rattle.book.specs.Input.{names_in}
use Rattle.assembly.specs.Line.{Line}
use Rattle.assembly.specs.Number.{is_name, line_of}
use Rattle.assembly.proofs.Laws.{number_of_line}
use Rattle.assembly.specs.Text.{type_text, text}
use Rattle.assembly.specs.Printer.{Printing, refusing, writing, needed, consed, lines_of, function_named, is_comment, of_block, headed, heading, texts_from, first, book_texts, print_lines}
use Rattle.print_types.specs.Starts.{Sound}
use Rattle.print_types.specs.Types.{is_got, Typed, type_bytes}
use Rattle.print_pen.specs.Write.{Wrote}
use Rattle.book_types.specs.Laws.{lent_from}
use Rattle.print_forms.specs.Forms.{name_form, form_of, allowed_by}
use Rattle.print_forms.specs.All.{Callable, allowed_all}
use Rattle.print_forms.specs.Allowed.{is_some, allowed_line, allowed_comment, consed_is, uvm_range, uvm_callable}
use Rattle.print_lines.specs.Lines.{printed}
use Rattle.print_lines.specs.All.{printed_all}
use Rattle.print_lines.specs.Same.{put_for, line_same, consed_some}
use Rattle.print_lines.specs.Weigh.{Weighed, is_bytes, is_err, barred_is}
use Rattle.book.specs.declared.refusal.Refusal.{Refusal}
use Rattle.book.specs.declared.refusal.Refusal.TheVariants.{NoRoom, BadLine}
use Rattle.print.specs.Heads.{Decoded, book_at, is_fn, fn_named, first_of, Standing, named_name, first_is, first_named}
use Rattle.print.specs.Segments.{turned, printed_from, stand_from, headed_kinds}
use Rattle.print.specs.Reply.{Prints}

-- lines that may stand are written where they fit; others are refused with 21
abbrev pub passed : Bool → (bytes text : List ℕ) → Printing
passed t bs x = cond t (writing bs x) (refusing 21 x)

-- ---- the passes
-- what was counted, where it fits
pub passes_count : {t : Bool} {size : ℕ} {x y : List ℕ} {r : Result ℕ Refusal} → Weighed t size x y r → (n : ℕ) → r ≡ Ok n → (t ≡ true) × ((n ≡ size) × (n ≤ length y))
passes_count {t} {size} {x} {y} {r} w n e =
    let s = is_bytes t size (length x) n (sym w.is ∙ e) in
    (s.0, (s.1.0, omega (arith, s.1.0, s.1.1, ap length w.text)))

module _ (bs : List ℕ) {t : Bool} {x y : List ℕ} {r : Result ℕ Refusal} (w : Weighed t (length bs) x y r) where
  pub passes_refused : (d : Refusal) → r ≡ Err d → Prints (passed t bs x) (Err d) y
  unfolding writing refusing
  passes_refused d e = go (is_err t (length bs) (length x) d (sym w.is ∙ e))
    where
      go : ((t ≡ false) × (d ≡ BadLine)) ⊎ ((t ≡ true) × ((length x < length bs) × (d ≡ NoRoom))) → Prints (passed t bs x) (Err d) y
      go (inl s) = rw (s.0, s.1, w.text) (record { reply = refl; text = refl })
      go (inr s) = rw (s.0, lt-leb (length bs) (length x) s.1.0, s.1.1, w.text) (record { reply = refl; text = refl })

  pub passes_done : (n : ℕ) (z : List ℕ) → r ≡ Ok n → z ≡ bs ++ drop n y → Prints (passed t bs x) (Ok n) z
  unfolding writing
  passes_done n z e f =
      let s = is_bytes t (length bs) (length x) n (sym w.is ∙ e) in
      rw (s.0, le-leb (length bs) (length x) s.1.1, f, s.1.0, w.text) (record { reply = refl; text = refl })

-- lines that are not headed
module _ (t u : Bool) (bs x : List ℕ) where
  pub passes_unheaded : t ≡ false → Prints (passed (t && u) bs x) (Err BadLine) x
  unfolding refusing
  passes_unheaded e = rw e (record { reply = refl; text = refl })

-- ---- from the numbers of lines to the definition
-- the part behind the refusal 1, where m names are to be
unfoldable pub with_names : ℕ → List ℕ → Book → (kinds operands text : List ℕ) → Printing
with_names m bs b ks xs x = needed 2 x (names_in m bs) (λ ns. print_lines ns b ks xs x)

-- the bytes of a line of the function named own
abbrev pub one_of : (bs : List ℕ) (m : ℕ) (ks ws : List ℕ) (own : ℕ) → ℕ → ℕ → List ℕ
one_of bs m ks ws own = put_for (lines bs) (fn_named m ks ws own)

-- the names behind their check: m of them, and those from `from` up to and without `to` start `__uvm_`
pub record Named (bs : List ℕ) (m from to : ℕ) : Type 0 where
  pub sound : Sound bs
  pub count : m ≡ length (lines bs)
  pub calls : PrefixRange (bytes "__uvm_") (lines bs) from to

-- ---- lines of the function named own, which stands at the place p
module _ {bs : List ℕ} {m from to : ℕ} (d : Named bs m from to) {ks ws : List ℕ} {own p n : ℕ} (s : Standing m ks ws own p n) where
  pub under_typed : Typed (length (lines bs)) 64 (take (length ks - (p + 1)) (drop (p + 1) ks)) (take (length ws - (p + 1)) (drop (p + 1) ws))
  under_typed =
      let t : Typed m 64 (take (length ks - (p + 1)) (drop (p + 1) ks)) (take (length ws - (p + 1)) (drop (p + 1) ws)) = record { got = ap is_got s.type } in
      rw d.count at t

  module _ (fname : List ℕ) (f : fname ≡ name_at (lines bs) own) where
    -- as the code puts them
    abbrev put : ℕ → ℕ → List ℕ
    put = printed (lines bs) fname (type_bytes (lines bs) (type_to (length (lines bs)) 64 (lent_from ks ws (p + 1)))) n

    under_same : put ≡ one_of bs m ks ws own
    under_same =
        let named : fname ≡ name_at (lines bs) (fn_named m ks ws own).name = f ∙ ap (name_at (lines bs)) (sym (named_name own (book_at m ks ws).functions)) in
        let typed : type_bytes (lines bs) (type_to (length (lines bs)) 64 (lent_from ks ws (p + 1))) ≡ type_text (lines bs) (fn_named m ks ws own).ret_ty =
        subst (λ (q : ℕ). type_bytes (lines bs) (type_to q 64 (lent_from ks ws (p + 1))) ≡ type_text (lines bs) (fn_named m ks ws own).ret_ty) d.count
        (ap (λ (t : Read Ty). type_bytes (lines bs) t) s.type) in
        rw (named, typed, s.count)

    pub under_weighed : (lk ops : List ℕ) (before : ℕ) {x y : List ℕ} {r : Result ℕ Refusal} → Weighed (allowed_all m own from to lk ops) (before + length (printed_all put lk ops)) x y r
        → Weighed (is_fn m ks ws own && allowed_all m own from to lk ops) (before + length (printed_all (one_of bs m ks ws own) lk ops)) x y r
    under_weighed lk ops before {x} {y} {r} w =
        rw s.is (subst (λ (one : ℕ → ℕ → List ℕ). Weighed (allowed_all m own from to lk ops) (before + length (printed_all one lk ops)) x y r) under_same w)

    pub under_room : (lk ops : List ℕ) (start end : ℕ) → start + length (printed_all (one_of bs m ks ws own) lk ops) ≤ end → start + length (printed_all put lk ops) ≤ end
    under_room lk ops start end h = subst (λ (one : ℕ → ℕ → List ℕ). start + length (printed_all one lk ops) ≤ end) (sym under_same) h

    pub under_wrote : (lk ops : List ℕ) {x y : List ℕ} {start end r : ℕ} → Wrote (printed_all put lk ops) start end x y r → Wrote (printed_all (one_of bs m ks ws own) lk ops) start end x y r
    under_wrote lk ops {x} {y} {start} {end} {r} w = subst (λ (one : ℕ → ℕ → List ℕ). Wrote (printed_all one lk ops) start end x y r) under_same w

-- where there is none
pub nowhere_weighed : (t u : Bool) (size : ℕ) (x : List ℕ) → t ≡ false → Weighed (t && u) size x x (Err BadLine)
nowhere_weighed t u size x e = record { is = barred_is _ _ _ (rw e); text = refl }

-- as many lines as both slices hold
pub lines_trimmed : (ns : List (List ℕ)) (b : Book) (n : ℕ) (ks xs : List ℕ) → min (length ks) (length xs) ≤ n → lines_of ns b (take n ks) (take n xs) ≡ lines_of ns b ks xs
unfolding lines_of
lines_trimmed ns b n [] xs h = rw (take_nil n)
  where
    take_nil : (n : ℕ) → take {A = ℕ} n [] ≡ []
    take_nil zero = refl
    take_nil (suc n) = refl
lines_trimmed ns b zero (k ∷ ks) [] h = refl
lines_trimmed ns b (suc n) (k ∷ ks) [] h = refl
lines_trimmed ns b zero (k ∷ ks) (x ∷ xs) h = absurd (omega arith)
lines_trimmed ns b (suc n) (k ∷ ks) (x ∷ xs) h = ap (consed (line_of ns b k x)) (lines_trimmed ns b n ks xs (omega arith))

module _ {bs : List ℕ} {m from to : ℕ} (d : Named bs m from to) where
  pub names_callable : Callable (lines bs) m from to
  names_callable = uvm_callable bs (lines bs) from to ((names_iff bs (lines bs)).1 d.sound.names) d.calls m d.count

  module _ (b : Book) where
    abbrev ns : List (List ℕ)
    ns = lines bs

    abbrev fs : List Function
    fs = b.functions

    abbrev is : ℕ → Bool
    is x = member x (function_names b)

    abbrev one : ℕ → ℕ → ℕ → List ℕ
    one own = put_for ns (function_named fs own)

    -- a line that may stand
    comment_form : (x n f : ℕ) → allowed_by (form_of 0) x n f from to ≡ eqb x f
    unfolding form_of name_form
    comment_form x n f = refl

    line_check : (own k x : ℕ) → is own ≡ true → (is (turned own k x) && allowed_by (form_of k) x m (turned own k x) from to) ≡ is_some (line_of ns b k x)
    line_check own k x h = go (eqb k 0) refl
      where
        range : (x : ℕ) → (leb from x && ltb x to) ≡ (is_name ns b x && is_syscall (name_at ns x))
        range = uvm_range bs ns from to ((names_iff bs ns).1 d.sound.names) d.calls b

        and-true : (t : Bool) → (t && true) ≡ t
        and-true true = refl
        and-true false = refl

        go : (t : Bool) → eqb k 0 ≡ t → (is (cond t x own) && allowed_by (form_of k) x m (cond t x own) from to) ≡ is_some (line_of ns b k x)
        go true e =
            let z : k ≡ 0 = eqb-true k 0 e in
            rw (z, comment_form x m x, eq-eqb x x refl, and-true (is x)) (allowed_comment ns b x)
        go false e =
            let z : 1 ≤ k = omega (arith, eqb-false k 0 e) in
            rw (h, d.count) (allowed_line ns b from to range own k x z)

    same_check : (own : ℕ) → is own ≡ true → (ks xs : List ℕ) → stand_from is m from to own ks xs ≡ is_some (lines_of ns b ks xs)
    unfolding lines_of
    same_check own h [] xs = refl
    same_check own h (k ∷ ks) [] = refl
    same_check own h (k ∷ ks) (x ∷ xs) = go (is (turned own k x) && allowed_by (form_of k) x m (turned own k x) from to) refl (λ g. same_check (turned own k x) g ks xs) ∙ consed_is (line_of ns b k x) (lines_of ns b ks xs)
      where
        go : (t : Bool) → (is (turned own k x) && allowed_by (form_of k) x m (turned own k x) from to) ≡ t → (is (turned own k x) ≡ true → stand_from is m from to (turned own k x) ks xs ≡ is_some (lines_of ns b ks xs))
            → (t && stand_from is m from to (turned own k x) ks xs) ≡ (is_some (line_of ns b k x) && is_some (lines_of ns b ks xs))
        go true e ih = rw (sym (line_check own k x h) ∙ e) (ih (both (is (turned own k x)) _ e).0)
        go false e ih = rw (sym (line_check own k x h) ∙ e)

    -- lines that were read
    same_headed : (ks xs : List ℕ) (ls : List Line) → length ks ≡ length xs → lines_of ns b ks xs ≡ some ls → headed ls ≡ headed_kinds ks
    unfolding lines_of headed is_comment of_block
    same_headed [] xs ls l h = let e : [] ≡ ls = cc in rw (← e)
    same_headed (k ∷ ks) [] ls l h = absurd (omega arith)
    same_headed (k ∷ ks) (x ∷ xs) ls l h =
        let w = consed_some (line_of ns b k x) (lines_of ns b ks xs) ls h in
        let n = (number_of_line ns b k x w.0 w.1.1.0).0.kind in
        rw (w.1.1.1.1, n, same_headed ks xs w.1.0 (omega arith) w.1.1.1.0)

    same_texts : (own : ℕ) (ks xs : List ℕ) (ls : List Line) → lines_of ns b ks xs ≡ some ls → texts_from ns fs (function_named fs own) ls ≡ printed_from one own ks xs
    unfolding lines_of texts_from heading is_comment
    same_texts own [] xs ls h = let e : [] ≡ ls = cc in rw (← e)
    same_texts own (k ∷ ks) [] ls h = let e : [] ≡ ls = cc in rw (← e)
    same_texts own (k ∷ ks) (x ∷ xs) ls h =
        let w = consed_some (line_of ns b k x) (lines_of ns b ks xs) ls h in
        let l = w.0 in
        let n = (number_of_line ns b k x l w.1.1.0).0 in
        let f = function_named fs (turned own k x) in
        let rest = same_texts (turned own k x) ks xs w.1.0 w.1.1.1.0 in
        let line = line_same ns f b k x l w.1.1.0 in
        ap (texts_from ns fs (function_named fs own)) w.1.1.1.1
        ∙ rw (n.kind, n.operand, turn (eqb k 0), rest) (sym (append_assoc (text ns f l) (10 ∷ []) (printed_from one (turned own k x) ks xs)) ∙ ap (λ (u : List ℕ). u ++ printed_from one (turned own k x) ks xs) line)
      where
        turn : (t : Bool) → cond t (function_named fs x) (function_named fs own) ≡ function_named fs (cond t x own)
        turn true = refl
        turn false = refl

    -- what the passes put is what the definition prints
    pub lines_passed : (own : ℕ) → is own ≡ true → first fs ≡ function_named fs own → (ks xs x : List ℕ) → length ks ≡ length xs
        → passed (headed_kinds ks && stand_from is m from to own ks xs) (printed_from one own ks xs) x ≡ print_lines ns b ks xs x
    unfolding print_lines needed book_texts
    lines_passed own h f ks xs x l = rw (same_check own h ks xs) (go (lines_of ns b ks xs) refl)
      where
        and-false : (t : Bool) → (t && false) ≡ false
        and-false true = refl
        and-false false = refl

        and-true : (t : Bool) → (t && true) ≡ t
        and-true true = refl
        and-true false = refl

        go : (o : Option (List Line)) → lines_of ns b ks xs ≡ o → passed (headed_kinds ks && is_some o) (printed_from one own ks xs) x
            ≡ needed 21 x o (λ ls. cond (headed ls) (writing (book_texts ns fs ls) x) (refusing 21 x))
        go none e = rw (and-false (headed_kinds ks))
        go (some ls) e = rw (and-true (headed_kinds ks), same_headed ks xs ls l e, f, same_texts own ks xs ls e)

-- the same for the lines of slices that may differ in length
pub known_printed : {bs : List ℕ} {m from to : ℕ} (d : Named bs m from to) (ks ws : List ℕ) → Decoded m ks ws → (own : ℕ) → own ≡ first_of m ks ws
    → (lk ops x : List ℕ) (n : ℕ) → n ≡ min (length lk) (length ops) → {r : Result ℕ Refusal} {y : List ℕ}
    → Prints (passed (headed_kinds (take n lk) && stand_from (is_fn m ks ws) m from to own (take n lk) (take n ops)) (printed_from (one_of bs m ks ws) own (take n lk) (take n ops)) x) r y
    → Prints (print_lines (lines bs) (book_at m ks ws) lk ops x) r y
unfolding print_lines
known_printed {bs} {m} {from} {to} d ks ws e own f lk ops x n l {r} {y} p =
    let b = book_at m ks ws in
    let same : length (take n lk) ≡ length (take n ops) = omega (arith, length-take n lk, length-take n ops, l) in
    let is : is_fn m ks ws own ≡ true = rw f (first_is m ks ws e) in
    let named : first b.functions ≡ fn_named m ks ws own = rw f (first_named m ks ws e) in
    subst (λ (g : Printing). Prints g r y)
    (lines_passed d b own is named (take n lk) (take n ops) x same
    ∙ ap (λ (o : Option (List Line)). needed 21 x o (λ ls. cond (headed ls) (writing (book_texts (lines bs) b.functions ls) x) (refusing 21 x)))
    (lines_trimmed (lines bs) b n lk ops (omega (arith, l))))
    p
