-- The copies of an edge, phi by phi: what is refused before a value is pushed, and the values pushed. "The first matching predecessor counts."
use Rattle.std.specs.Prelude
use Rattle.std.specs.Prelude.{◌≡◌, ℕ, ◌+◌, ◌-◌, ◌<◌, ◌≤◌, Bool, true, false, cond, not, ◌&&◌, List, [], ◌∷◌, ◌++◌, map, length, ◌==◌, ◌≢◌, slice_index, SomeIff, is_some, unwrap_or, Some, None}
use Rattle.std.proofs.Math.Path.{refl, sym, ap}
use Rattle.std.proofs.Common.{subst, ◌∙◌, arith}
use Rattle.std.proofs.Math.Option.{Option, none, some}
use Rattle.std.proofs.lemmas.List.{map-append}
use borrow.Author.Tests.{eq-eqb, ne_eqb, eqb-true, eqb-false}
use Rattle.book.specs.Ast.{Ty, Value, Incoming, Inst}
use Rattle.book.specs.Rule.{pick}
use Rattle.book.specs.Shape.{Shape, shape}
use Rattle.book.specs.Map.{lookup}
use Rattle.book.specs.Encode.{dest_word}
use Rattle.book.specs.Work.{name_words, slot_at}
use Rattle.book.specs.Limits.{Maybe, NameLimits}
use Rattle.book.specs.Result.{Result, ok, err, bind, ok_or}
use Rattle.lowering.specs.Gen.{Gen, ◌>>=◌, ◌>>◌, each}
use Rattle.lowering.specs.Context.{FnCtx, named, slot_of}
use Rattle.lowering.specs.Operand.{int_width, push_value, push_typed}
use Rattle.lowering.specs.Edge.{Copy, incoming_from, copy_of, copy_step, copies, push_copy}
use Rattle.gen_lines.specs.declared.Reached.{Reached}
use Rattle.gen_lines.specs.Puts.{Puts, Barred, is_refused, or_else, made_refused, made_refused_lem, then_puts}
use Rattle.gen_lines.specs.Follow.{Asked, Answered, asked_puts, asked_ok, asked_err, none_puts, more_puts}
use Rattle.gen_values.specs.Maps.{Locals, numbered}
use Rattle.gen_values.specs.Push.{some_of, none_of}
use Rattle.gen_values.specs.Values.{value_of, DestReaches}
use Rattle.gen_values.specs.Fields.{ValueAt}
use Rattle.gen_edge.specs.Phis.{Phi, phi_then, leading}

-- ---- asking twice
module _ {A B : Type 0} {r : Result A} (g : A → Result B) {s t u : Reached} {x : A} {y : B} where
  pub asked_then : Asked r s t x → Asked (g x) t u y → Asked (bind r g) s u y
  unfolding bind
  asked_then p q = record { stays = λ h. later (p.stays h); goes = λ h. go r (p.goes h) h }
    where
      later : {e : ℕ} → Barred e t → Barred e u
      later b = let d = q.stays b.refused in record { refused = d.refused; number = d.number ∙ b.number }

      go : (r : Result A) → Answered r s t x → is_refused s ≡ false → Answered (bind r g) s u y
      go (err e) b h = later b
      go (ok a) (i, j) h =
          let w : Answered (g x) t u y = q.goes (ap is_refused i ∙ h) in
          subst (λ (z : A). Answered (g z) s u y) j (subst (λ (v : Reached). Answered (g x) v u y) i w)

-- a test that `need` makes
module _ {A : Type 0} {r : Result A} (e : ℕ) (positive : 0 < e) (s : Reached) {t : Reached} (x : A) where
  pub asked_need : (b : Bool) → (b ≡ true → r ≡ ok x) → (b ≡ false → r ≡ err e) → t ≡ or_else b s (made_refused s e) → Asked r s t x
  asked_need true p q h = subst (λ (v : Result A). Asked v s t x) (sym (p refl)) (subst (λ (v : Reached). Asked (ok x) s v x) (sym h) (asked_ok s x))
  asked_need false p q h = subst (λ (v : Result A). Asked v s t x) (sym (q refl)) (asked_err e positive s x h)

-- what came behind a refusal is refused, so nothing was refused before where nothing is
pub asked_going : {A : Type 0} {r : Result A} {s t : Reached} {x : A} → Asked r s t x → is_refused t ≡ false → is_refused s ≡ false
asked_going {A} {r} {s} {t} {x} q f = at (is_refused s) refl
  where
    at : (b : Bool) → is_refused s ≡ b → b ≡ false
    at false h = refl
    at true h = let d = q.stays h in sym d.refused ∙ f

not-false : (b : Bool) → not b ≡ false → b ≡ true
not-false true h = refl
not-false false h = sym h

both_true : (a b : Bool) → (a && b) ≡ true → (a ≡ true) × (b ≡ true)
both_true true b h = (refl, h)
both_true false b h = absurd (let z : ◌≡◌ {A = ℕ} 0 1 = cc in omega arith)

-- ---- the slot of a result word, with 1 added, 0 for none
unfoldable pub slot_word : (dest : ℕ) (work : List ℕ) → ℕ
slot_word d work = cond (d == 0) 0 (slice_index work (slot_at (d - 1)))

-- as the code answers it
low : (w : ℕ) → (1 ≤ w → ⊥) → w ≡ 0
low w k = omega (arith, k)

module _ (o : Prelude.Option ℕ) (w : ℕ) where
  pub slot_some : SomeIff o (1 ≤ w) (w - 1) → is_some o ≡ not (w == 0)
  slot_some h = at o h
    where
      at : (o : Prelude.Option ℕ) → SomeIff o (1 ≤ w) (w - 1) → is_some o ≡ not (w == 0)
      at None k = rw (eq-eqb w 0 (low w k))
      at (Some x) k = rw (ne_eqb w 0 (λ z. omega (arith, k.0)))

  pub slot_or : SomeIff o (1 ≤ w) (w - 1) → unwrap_or o 0 ≡ w - 1
  slot_or h = at o h
    where
      at : (o : Prelude.Option ℕ) → SomeIff o (1 ≤ w) (w - 1) → unwrap_or o 0 ≡ w - 1
      at None k = rw (low w k) refl
      at (Some x) k = k.1

-- the slot itself, where there is one
abbrev pub slot_number : List ℕ → Option ℕ → ℕ
slot_number work dest = slot_word (dest_word dest) work - 1

pub dest_reaches : (m : ℕ) {d : ℕ} {work : List ℕ} (dest : Option ℕ) → d ≡ dest_word dest → Maybe (NameLimits m) dest → name_words m + 64 ≤ length work → DestReaches d work
dest_reaches m none e k r = record { there = λ z. absurd (z e) }
dest_reaches m (some x) e k r = record { there = λ z. omega arith }

module _ (c : FnCtx) (m : ℕ) (work : List ℕ) (maps : Locals c m work) (dest : Option ℕ) (limits : Maybe (NameLimits m) dest) where
  slot_is : (w : ℕ) → w ≡ slot_word (dest_word dest) work → (b : Bool) → b ≡ not (w == 0) → (b ≡ true → slot_of c dest ≡ ok (w - 1)) × (b ≡ false → slot_of c dest ≡ err 5)
  unfolding slot_word slot_of named ok_or
  slot_is w e b d = at dest limits e
    where
      zero_of : b ≡ false → w ≡ 0
      zero_of f = eqb-true w 0 (not-false (w == 0) (sym d ∙ f))

      other_of : b ≡ true → w ≢ 0
      other_of t z = let q : true ≡ false = sym t ∙ d ∙ ap not (eq-eqb w 0 z) in let y : ◌≡◌ {A = ℕ} 0 1 = cc in omega arith

      at : (o : Option ℕ) → Maybe (NameLimits m) o → w ≡ slot_word (dest_word o) work → (b ≡ true → slot_of c o ≡ ok (w - 1)) × (b ≡ false → slot_of c o ≡ err 5)
      at none k q = (λ t. absurd (other_of t q), λ f. refl)
      at (some x) k q =
          let i : slot_at (x + 1 - 1) ≡ slot_at x = omega arith in
          let v : w ≡ numbered (lookup x c.slots) = q ∙ rw (ne_eqb (x + 1) 0 (λ z. omega arith), i) (maps.slots x k) in
          (λ t. rw (some_of (lookup x c.slots) w v (other_of t)), λ f. rw (none_of (lookup x c.slots) w v (zero_of f)))

  pub asked_slot : (s : Reached) {t : Reached} (w : ℕ) {b : Bool} → w ≡ slot_word (dest_word dest) work → b ≡ not (w == 0) → t ≡ or_else b s (made_refused s 5)
      → Asked (slot_of c dest) s t (w - 1)
  asked_slot s w {b} e d h = let q = slot_is w e b d in asked_need 5 (omega arith) s (w - 1) b q.0 q.1 h

-- ---- the first matching predecessor: the place of its value, 0 for none
module _ (m pred : ℕ) (ks ws : List ℕ) where
  pub record FoundAt (is : List Incoming) (found : ℕ) : Type 0 where
    pub absent : found ≡ 0 → incoming_from pred is ≡ none
    pub present : (found ≢ 0) → (v : Value) × (incoming_from pred is ≡ some v) × ValueAt m ks ws found v

  abbrev or_next : Option Value → Option Value → Option Value
  or_next (some v) o = some v
  or_next none o = o

  from_append : (is : List Incoming) (i : Incoming) → incoming_from pred (is ++ (i ∷ [])) ≡ or_next (incoming_from pred is) (incoming_from pred (i ∷ []))
  unfolding incoming_from
  from_append [] i = refl
  from_append (j ∷ js) i = at (j.label == pred) (from_append js i)
    where
      at : (b : Bool) → incoming_from pred (js ++ (i ∷ [])) ≡ or_next (incoming_from pred js) (incoming_from pred (i ∷ []))
          → pick b (some j.val) (incoming_from pred (js ++ (i ∷ []))) ≡ or_next (pick b (some j.val) (incoming_from pred js)) (incoming_from pred (i ∷ []))
      at true h = refl
      at false h = h

  pub found_none : FoundAt [] 0
  unfolding incoming_from
  found_none = record { absent = λ z. refl; present = λ z. absurd (z refl) }

  module _ (is : List Incoming) (i : Incoming) {found : ℕ} (f : FoundAt is found) where
    -- one was found before
    found_before : (found ≢ 0) → FoundAt (is ++ (i ∷ [])) found
    found_before z =
        let p = f.present z in
        record { absent = λ y. absurd (z y); present = λ y. (p.0, from_append is i ∙ ap (λ o. or_next o (incoming_from pred (i ∷ []))) p.1, p.2) }

    -- the pair is another's
    found_other : (i.label ≢ pred) → FoundAt (is ++ (i ∷ [])) found
    unfolding incoming_from
    found_other z =
        let e : incoming_from pred (i ∷ []) ≡ none = rw (ne_eqb i.label pred z) in
        record {
          absent = λ y. from_append is i ∙ ap (λ o. or_next o (incoming_from pred (i ∷ []))) (f.absent y) ∙ e;
          present = λ y. let p = f.present y in (p.0, from_append is i ∙ ap (λ o. or_next o (incoming_from pred (i ∷ []))) p.1, p.2);
        }

    -- the first one
    found_here : {b : ℕ} → found ≡ 0 → i.label ≡ pred → (b ≢ 0) → ValueAt m ks ws b i.val → FoundAt (is ++ (i ∷ [])) b
    unfolding incoming_from
    found_here z e n v =
        let q : incoming_from pred (i ∷ []) ≡ some i.val = rw (eq-eqb i.label pred e) in
        record { absent = λ y. absurd (n y); present = λ y. (i.val, from_append is i ∙ ap (λ o. or_next o (incoming_from pred (i ∷ []))) (f.absent z) ∙ q, v) }

    -- a turn that finds it, and one that does not
    module _ {label : ℕ} (e : label ≡ i.label) {found' : ℕ} where
      pub found_hit : (found == 0 && label == pred) ≡ true → {b : ℕ} → (b ≢ 0) → found' ≡ b → ValueAt m ks ws b i.val → FoundAt (is ++ (i ∷ [])) found'
      found_hit t n d v =
          let q = both_true (found == 0) (label == pred) t in
          subst (λ (x : ℕ). FoundAt (is ++ (i ∷ [])) x) (sym d) (found_here (eqb-true found 0 q.0) (sym e ∙ eqb-true label pred q.1) n v)

      pub found_miss : (found == 0 && label == pred) ≡ false → found' ≡ found → FoundAt (is ++ (i ∷ [])) found'
      found_miss t d = subst (λ (x : ℕ). FoundAt (is ++ (i ∷ [])) x) (sym d) (at (found == 0) refl t)
        where
          at : (x : Bool) → (found == 0) ≡ x → (x && label == pred) ≡ false → FoundAt (is ++ (i ∷ [])) found
          at true h u = found_other (λ z. eqb-false label pred u (e ∙ z))
          at false h u = found_before (eqb-false found 0 h)

  -- the value that stands there
  pub found_value : (is : List Incoming) {found : ℕ} → FoundAt is found → (found ≢ 0) → incoming_from pred is ≡ some (value_of (slice_index ks found) (slice_index ws found))
  found_value is f z = let p = f.present z in p.1 ∙ ap some (sym p.2.is)

  pub asked_found : (is : List Incoming) (found : ℕ) → FoundAt is found → (s : Reached) {t : Reached} {b : Bool} → b ≡ not (found == 0) → t ≡ or_else b s (made_refused s 18)
      → Asked (ok_or 18 (incoming_from pred is)) s t (value_of (slice_index ks found) (slice_index ws found))
  unfolding ok_or
  asked_found is found f s {t} {b} d h =
      asked_need 18 (omega arith) s _ b
      (λ y. rw (found_value is f (λ z. let q : true ≡ false = sym y ∙ d ∙ ap not (eq-eqb found 0 z) in let x : ◌≡◌ {A = ℕ} 0 1 = cc in omega arith)))
      (λ y. rw (f.absent (eqb-true found 0 (not-false (found == 0) (sym d ∙ y))))) h

-- ---- copies of leading phis
module _ (c : FnCtx) (pred : ℕ) where
  abbrev copy_phi : Phi → Result Copy
  copy_phi p = copy_of c pred p.dest p.ty p.incoming

  unfoldable pub copies_of : List Phi → Result (List Copy)
  copies_of [] = ok []
  copies_of (p ∷ ps) = bind (copy_phi p) (λ cp. bind (copies_of ps) (λ cps. ok (cp ∷ cps)))

  pub copies_leading : (is : List Inst) → copies c pred is ≡ copies_of (leading is)
  unfolding copies copies_of leading copy_step
  copies_leading [] = refl
  copies_leading (i ∷ is) = at (shape i.kind) (copies_leading is)
    where
      at : (sh : Shape) → copies c pred is ≡ copies_of (leading is) → copy_step c pred i.dest sh (copies c pred is) ≡ copies_of (phi_then i.dest sh (leading is))
      at (Shape.phi ty incoming) h = rw h
      at (Shape.alloca ty count) h = refl
      at (Shape.call callee) h = refl
      at Shape.cmpxchg h = refl
      at Shape.plain h = refl

  -- one phi more
  copies_more : (ps : List Phi) (p : Phi) → copies_of (ps ++ (p ∷ [])) ≡ bind (copies_of ps) (λ cps. bind (copy_phi p) (λ cp. ok (cps ++ (cp ∷ []))))
  unfolding copies_of bind
  copies_more [] p = refl
  copies_more (q ∷ qs) p = first (copy_phi q) (copies_more qs p)
    where
      second : (cq : Copy) (r : Result (List Copy)) → bind (bind r (λ cps. bind (copy_phi p) (λ cp. ok (cps ++ (cp ∷ []))))) (λ cps. ok (cq ∷ cps))
          ≡ bind (bind r (λ cps. ok (cq ∷ cps))) (λ cps. bind (copy_phi p) (λ cp. ok (cps ++ (cp ∷ []))))
      second cq (err e) = refl
      second cq (ok cps) = third (copy_phi p)
        where
          third : (r : Result Copy) → bind (bind r (λ cp. ok (cps ++ (cp ∷ [])))) (λ xs. ok (cq ∷ xs)) ≡ bind r (λ cp. ok (cq ∷ (cps ++ (cp ∷ []))))
          third (ok cp) = refl
          third (err e) = refl

      first : (r : Result Copy) → copies_of (qs ++ (p ∷ [])) ≡ bind (copies_of qs) (λ cps. bind (copy_phi p) (λ cp. ok (cps ++ (cp ∷ []))))
          → bind r (λ cp. bind (copies_of (qs ++ (p ∷ []))) (λ cps. ok (cp ∷ cps)))
          ≡ bind (bind r (λ cp. bind (copies_of qs) (λ cps. ok (cp ∷ cps)))) (λ cps. bind (copy_phi p) (λ cp. ok (cps ++ (cp ∷ []))))
      first (err e) h = refl
      first (ok cq) h = rw h (second cq (copies_of qs))

-- ---- what is noted of a phi: 5 without a slot, then 18 without the predecessor
abbrev pub noted : (dest found : ℕ) → List ℕ → Reached → Reached
noted dest found work s =
    let n = or_else (not (slot_word dest work == 0)) s (made_refused s 5) in
    or_else (not (found == 0)) n (made_refused n 18)

abbrev pub copy_at : (ks ws work : List ℕ) (found : ℕ) → Phi → Copy
copy_at ks ws work found p = record { slot = slot_number work p.dest; val = value_of (slice_index ks found) (slice_index ws found); ty = p.ty }

module _ (c : FnCtx) (pred m : ℕ) (ks ws work : List ℕ) (maps : Locals c m work) (p : Phi) (limits : Maybe (NameLimits m) p.dest) where
  pub asked_phi : {dest found : ℕ} → dest ≡ dest_word p.dest → FoundAt m pred ks ws p.incoming found → (s : Reached) {t : Reached} → t ≡ noted dest found work s
      → Asked (copy_of c pred p.dest p.ty p.incoming) s t (copy_at ks ws work found p)
  unfolding copy_of
  asked_phi {dest} {found} e f s {t} h =
      let n : Reached = or_else (not (slot_word (dest_word p.dest) work == 0)) s (made_refused s 5) in
      let q : t ≡ or_else (not (found == 0)) n (made_refused n 18) = h ∙ rw e in
      asked_then (λ slot. bind (ok_or 18 (incoming_from pred p.incoming)) (λ val. ok (record { slot = slot; val = val; ty = p.ty })))
      (asked_slot c m work maps p.dest limits s (slot_word (dest_word p.dest) work) refl refl refl)
      (asked_then (λ val. ok (record { slot = slot_number work p.dest; val = val; ty = p.ty })) (asked_found m pred ks ws p.incoming found f n refl q) (asked_ok t _))

-- a phi without the predecessor is refused
pub noted_found : (dest found : ℕ) (work : List ℕ) (s : Reached) {t : Reached} → t ≡ noted dest found work s → is_refused t ≡ false → found ≢ 0
noted_found dest found work s {t} h f z =
    let n : Reached = or_else (not (slot_word dest work == 0)) s (made_refused s 5) in
    let y : true ≡ false = sym (made_refused_lem 18 (omega arith) n (h ∙ rw (eq-eqb found 0 z))) ∙ f in
    let x : ◌≡◌ {A = ℕ} 0 1 = cc in
    omega arith

-- ---- a value at its type's width
pub typed_puts : (c : FnCtx) (ty : Ty) (v : Value) {w : ℕ} {s t u : Reached} {ks os ks' os' : List ℕ} → Asked (int_width ty) s t w → Puts (push_value c v w) t u ks os ks' os'
    → Puts (push_typed c ty v) s u ks os ks' os'
unfolding push_typed
typed_puts c ty v a p = asked_puts (λ x. push_value c v x) a p

-- ---- the phis behind which a pass has come
pub record Pushed (c : FnCtx) (pred : ℕ) (work : List ℕ) (ps : List Phi) (s n t : Reached) (ks os ks' os' : List ℕ) : Type 0 where
  pub cps : List Copy
  pub slots : map (λ (cp : Copy). cp.slot) cps ≡ map (λ (p : Phi). slot_number work p.dest) ps
  pub asked : Asked (copies_of c pred ps) s n cps
  pub puts : is_refused n ≡ false → Puts (each (push_copy c) cps) s t ks os ks' os'
  pub long_kinds : length ks' ≡ length ks
  pub long_operands : length os' ≡ length os

module _ (c : FnCtx) (pred : ℕ) (work : List ℕ) where
  pub pushed_none : (s : Reached) (ks os : List ℕ) → Pushed c pred work [] s s s ks os ks os
  unfolding copies_of
  pushed_none s ks os = record { cps = []; slots = refl; asked = asked_ok s []; puts = λ r. none_puts (push_copy c) s ks os; long_kinds = refl; long_operands = refl }

  module _ (ps : List Phi) (p : Phi) (cp : Copy) {s n t n' t' : Reached} {ks os ks' os' ks'' os'' : List ℕ} where
    pub pushed_more : Pushed c pred work ps s n t ks os ks' os' → cp.slot ≡ slot_number work p.dest → Asked (copy_of c pred p.dest p.ty p.incoming) n n' cp
        → (is_refused n' ≡ false → Puts (push_copy c cp) t t' ks' os' ks'' os'') → length ks'' ≡ length ks' → length os'' ≡ length os'
        → Pushed c pred work (ps ++ (p ∷ [])) s n' t' ks os ks'' os''
    pushed_more b e a q lk lo =
        record {
          cps = b.cps ++ (cp ∷ []);
          slots = map-append (λ (x : Copy). x.slot) b.cps (cp ∷ []) ∙ ap (λ r. r ++ (cp.slot ∷ [])) b.slots
              ∙ ap (λ x. map (λ (y : Phi). slot_number work y.dest) ps ++ (x ∷ [])) e ∙ sym (map-append (λ (y : Phi). slot_number work y.dest) ps (p ∷ []));
          asked = subst (λ (r : Result (List Copy)). Asked r s n' (b.cps ++ (cp ∷ []))) (sym (copies_more c pred ps p))
              (asked_then (λ xs. bind (copy_of c pred p.dest p.ty p.incoming) (λ x. ok (xs ++ (x ∷ [])))) b.asked
              (asked_then (λ x. ok (b.cps ++ (x ∷ []))) a (asked_ok n' _)));
          puts = λ r. more_puts (push_copy c) b.cps cp (b.puts (asked_going a r)) (q r);
          long_kinds = lk ∙ b.long_kinds;
          long_operands = lo ∙ b.long_operands;
        }

  -- behind them all: what was noted comes first
  module _ (ps : List Phi) {s n t r u : Reached} {ks os ks' os' ks'' os'' : List ℕ} (b : Pushed c pred work ps s n t ks os ks' os') where
    pub pushed_end : (f : List Copy → Gen) → r ≡ or_else (is_refused n) n t → Puts (f b.cps) r u ks' os' ks'' os''
        → Puts (copies_of c pred ps >>= (λ cps. each (push_copy c) cps >> f cps)) s u ks os ks'' os''
    pushed_end f e p = asked_puts (λ cps. each (push_copy c) cps >> f cps) b.asked (at (is_refused n) refl)
      where
        refused : is_refused n ≡ true → Puts (each (push_copy c) b.cps >> f b.cps) n u ks os ks'' os''
        refused h =
            let q : Puts (f b.cps) n u ks' os' ks'' os'' = subst (λ (v : Reached). Puts (f b.cps) v u ks' os' ks'' os'') (e ∙ rw h) p in
            record {
              long_kinds = p.long_kinds ∙ b.long_kinds;
              long_operands = p.long_operands ∙ b.long_operands;
              stays = q.stays;
              goes = λ k a. absurd (let z : true ≡ false = sym h ∙ a.going in let x : ◌≡◌ {A = ℕ} 0 1 = cc in omega arith);
            }

        going : is_refused n ≡ false → (o : Result (List Copy)) → Answered o s n b.cps → Puts (each (push_copy c) b.cps >> f b.cps) n u ks os ks'' os''
        going h (err x) d = absurd (let z : true ≡ false = sym d.refused ∙ h in let x : ◌≡◌ {A = ℕ} 0 1 = cc in omega arith)
        going h (ok xs) d =
            let q : Puts (f b.cps) t u ks' os' ks'' os'' = subst (λ (v : Reached). Puts (f b.cps) v u ks' os' ks'' os'') (e ∙ rw h) p in
            subst (λ (v : Reached). Puts (each (push_copy c) b.cps >> f b.cps) v u ks os ks'' os'') (sym d.0) (then_puts (b.puts h) q)

        at : (x : Bool) → is_refused n ≡ x → Puts (each (push_copy c) b.cps >> f b.cps) n u ks os ks'' os''
        at true h = refused h
        at false h = going h (copies_of c pred ps) (b.asked.goes (asked_going b.asked h))
