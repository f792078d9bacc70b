-- Every word that a function's context fills is set by one of the function's entries.
use Rattle.std.specs.Prelude.{ℕ, ◌+◌, ◌*◌, ◌<◌, ◌≤◌, ◌≡◌, ◌⊎◌, get_or}
use Rattle.std.proofs.Math.Path.{refl, sym, ap}
use Rattle.std.proofs.Common.{◌∙◌, arith}
use Rattle.std.proofs.Math.Logic.{inl, inr, ⊎_elim}
use Rattle.std.proofs.Math.Option.{Option, none, some}
use mathlib.Core.List.{List, [], ◌∷◌, ◌++◌}
use Rattle.book.specs.Entry.{Entry, entry}
use Rattle.book.specs.Ast.{Ty, Inst, BasicBlock, Param, Function, StructType}
use Rattle.book.specs.Fields.{inst_tag_of}
use Rattle.book.specs.Encode.{ending, closed, enc_ty, enc_inst, enc_term, enc_param, enc_basic_block, enc_function}
use Rattle.book.specs.Map.{Map, lookup, insert}
use Rattle.book.specs.Result.{ok, bind, ok_or, bind_ok, err_no_ok}
use Rattle.book.specs.Shape.{Shape, shape, all_insts}
use Rattle.layout.specs.Frame.{Places, count_of, with_place, with_dynamic, place, frame_step, frame_pass, no_frame}
use Rattle.layout.specs.Layout.{align_of, size_of, frame_limit}
use Rattle.numbers.specs.Align.{align_up}
use Rattle.book.specs.Work.{param_at, slot_at, block_at, place_at}
use Rattle.lowering.specs.Context.{Codegen, Slots, slot_step, slot_map, no_slots, param_map, block_map}
use Rattle.lowering.specs.Places.{lookup_cons}
use Rattle.lowering.specs.Function.{slots_of, context_of}
use Rattle.gen_values.specs.Maps.{Maps, BlockWord, numbered}
use Rattle.gen_frame.specs.Scan.{inst_kinds}
use Rattle.gen_clear.specs.Sets.{Sets, Somewhere, some_left, some_right}

-- the name is in a map
abbrev Has : {A : Type 0} → ℕ → Map A → Type 0
Has {A} x m = (a : A) × (lookup x m ≡ some a)

has_none : {A B : Type 0} (x : ℕ) → ((a : A) × (lookup x [] ≡ some a)) → B
unfolding lookup
has_none x (a, h) = absurd (let z : ◌≡◌ {A = ℕ} 0 1 = cc in omega arith)

has_cons : {A : Type 0} (x y : ℕ) (a : A) (m : Map A) → Has x ((y, a) ∷ m) → (x ≡ y) ⊎ Has x m
has_cons x y a m (b, h) = ⊎_elim (λ p. inl p.0) (λ p. inr (b, p)) (lookup_cons x y a b m h)

-- ---- parameters
param_here : (x : ℕ) (p : Param) (n : ℕ) (m : Map ℕ) → Has x (insert p.name n m) → Has x m ⊎ Somewhere (λ e. Sets e x 0) (enc_param p)
unfolding insert enc_param
param_here x p n m h = go p.name refl h
  where
    go : (o : Option ℕ) → p.name ≡ o → Has x (insert o n m) → Has x m ⊎ Somewhere (λ e. Sets e x 0) (enc_param p)
    go none e h = inl h
    go (some y) e h = ⊎_elim (λ q. inr (inl (Sets.param refl refl (rw e (ap (λ z. z + 1) (sym q)))))) (λ q. inl q) (has_cons x y n m h)

params_set : (x i : ℕ) (ps : List Param) (m : Map ℕ) (end : List Entry) → Has x (param_map i ps m) → Has x m ⊎ Somewhere (λ e. Sets e x 0) (ending enc_param end ps)
unfolding param_map ending
params_set x i [] m end h = inl h
params_set x i (p ∷ ps) m end h =
    ⊎_elim (λ q. ⊎_elim (λ r. inl r) (λ r. inr (some_left (λ e. Sets e x 0) (enc_param p) (ending enc_param end ps) r)) (param_here x p i m q))
    (λ q. inr (some_right (λ e. Sets e x 0) (enc_param p) (ending enc_param end ps) q)) (params_set x (i + 1) ps (insert p.name i m) end h)

-- ---- blocks
blocks_set : (x : ℕ) (bs : List BasicBlock) (m : Map BasicBlock) (end : List Entry) → Has x (block_map bs m) → Has x m ⊎ Somewhere (λ e. Sets e x 2) (ending enc_basic_block end bs)
unfolding block_map ending enc_basic_block
blocks_set x [] m end h = inl h
blocks_set x (b ∷ bs) m end h =
    ⊎_elim (λ q. ⊎_elim (λ r. inr (inl (Sets.block refl refl (sym r)))) (λ r. inl r) (has_cons x b.label b m q))
    (λ q. inr (some_right (λ e. Sets e x 2) (enc_basic_block b) (ending enc_basic_block end bs) q)) (blocks_set x bs ((b.label, b) ∷ m) end h)

-- ---- results
abbrev Result-of : ℕ → Inst → Type 0
Result-of x i = i.dest ≡ some x

-- the entry of such an instruction
abbrev Says : ℕ → Entry → Type 0
Says x e = (40 ≤ e.kind) × (e.word ≡ x + 1)

inst_says : (x : ℕ) (i : Inst) → Result-of x i → Somewhere (Says x) (enc_inst i)
unfolding enc_inst
inst_says x i h = inl ((inst_kinds (inst_tag_of i.kind)).0, rw h refl)

insts_say : (x : ℕ) (is : List Inst) (end : List Entry) → Somewhere (Result-of x) is → Somewhere (Says x) (ending enc_inst end is)
unfolding ending
insts_say x [] end x'' = elim x'' [ ]
insts_say x (i ∷ is) end (inl h) = some_left (Says x) (enc_inst i) (ending enc_inst end is) (inst_says x i h)
insts_say x (i ∷ is) end (inr h) = some_right (Says x) (enc_inst i) (ending enc_inst end is) (insts_say x is end h)

somewhere_split : {A : Type 0} (P : A → Type 0) (xs ys : List A) → Somewhere P (xs ++ ys) → Somewhere P xs ⊎ Somewhere P ys
somewhere_split P [] ys h = inr h
somewhere_split P (x ∷ xs) ys (inl h) = inl (inl h)
somewhere_split P (x ∷ xs) ys (inr h) = ⊎_elim (λ p. inl (inr p)) (λ p. inr p) (somewhere_split P xs ys h)

blocks_say : (x : ℕ) (bs : List BasicBlock) (end : List Entry) → Somewhere (Result-of x) (all_insts bs) → Somewhere (Says x) (ending enc_basic_block end bs)
unfolding all_insts ending enc_basic_block
blocks_say x [] end h = elim h [ ]
blocks_say x (b ∷ bs) end h =
    ⊎_elim (λ p. some_left (Says x) (enc_basic_block b) (ending enc_basic_block end bs) (inr (insts_say x b.insts (enc_term b.term) p)))
    (λ p. some_right (Says x) (enc_basic_block b) (ending enc_basic_block end bs) (blocks_say x bs end p)) (somewhere_split (Result-of x) b.insts (all_insts bs) h)

somewhere_map : {A : Type 0} (P Q : A → Type 0) → ((a : A) → P a → Q a) → (xs : List A) → Somewhere P xs → Somewhere Q xs
somewhere_map {A = A} P Q f [] x' = elim x' [ ]
somewhere_map P Q f (x ∷ xs) (inl p) = inl (f x p)
somewhere_map P Q f (x ∷ xs) (inr p) = inr (somewhere_map P Q f xs p)

-- slots
slot_here : (names : List (List ℕ)) (x : ℕ) (i : Inst) (s : Slots) → Has x (slot_step names i.dest (shape i.kind) s).slots → Has x s.slots ⊎ Result-of x i
unfolding slot_step
slot_here names x i s h = go i.dest refl h
  where
    go : (o : Option ℕ) → i.dest ≡ o → Has x (slot_step names o (shape i.kind) s).slots → Has x s.slots ⊎ (i.dest ≡ some x)
    go none e h = inl h
    go (some y) e h = ⊎_elim (λ q. inr (e ∙ ap {B = Option ℕ} some (sym q))) (λ q. inl q) (has_cons x y s.num s.slots h)

slots_set : (names : List (List ℕ)) (x : ℕ) (is : List Inst) (s : Slots) → Has x (slot_map names is s).slots → Has x s.slots ⊎ Somewhere (Result-of x) is
unfolding slot_map
slots_set names x [] s h = inl h
slots_set names x (i ∷ is) s h =
    ⊎_elim (λ q. ⊎_elim (λ r. inl r) (λ r. inr (inl r)) (slot_here names x i s q)) (λ q. inr (inr q)) (slots_set names x is (slot_step names i.dest (shape i.kind) s) h)

-- fixed places
same_places : {f g : Places} → ok f ≡ ok g → f ≡ g
same_places h = cc

module _ (structs : List StructType) (x : ℕ) where
  place_here : (name : ℕ) (ty : Ty) (n : Option ℕ) (f g : Places) → place structs name ty n f ≡ ok g → Has x g.offsets → Has x f.offsets ⊎ (x ≡ name)
  unfolding place with_dynamic with_place
  place_here name ty none f g e h = inl (rw (same_places (sym e)) at h)
  place_here name ty (some n) f g e h =
      let a = bind_ok (align_of structs ty) _ g e in
      let s = bind_ok (size_of structs ty) _ g a.2 in
      let z = bind_ok (frame_limit (align_up f.off a.0 + s.0 * n)) _ g s.2 in
      let k : Has x ((name, align_up f.off a.0) ∷ f.offsets) = rw (same_places (sym z.2)) at h in
      ⊎_elim (λ q. inr q) (λ q. inl q) (has_cons x name (align_up f.off a.0) f.offsets k)

  step_here : (i : Inst) (f g : Places) → frame_step structs i.dest (shape i.kind) f ≡ ok g → Has x g.offsets → Has x f.offsets ⊎ Result-of x i
  unfolding frame_step ok_or bind
  step_here i f g e h = go i.dest refl (shape i.kind) e
    where
      alloca : (o : Option ℕ) → i.dest ≡ o → (ty : Ty) (n : Option ℕ) → bind (ok_or 5 o) (λ name. place structs name ty n f) ≡ ok g → Has x f.offsets ⊎ (i.dest ≡ some x)
      alloca none d ty n e = err_no_ok 5 g e
      alloca (some y) d ty n e =
          let k = bind_ok (ok_or 5 (some y)) (λ name. place structs name ty n f) g e in
          let q : y ≡ k.0 = ok_same k.1 in
          ⊎_elim (λ r. inl r) (λ r. inr (d ∙ ap {B = Option ℕ} some (q ∙ sym r))) (place_here k.0 ty n f g k.2 h)
        where
          ok_same : {a b : ℕ} → ok a ≡ ok b → a ≡ b
          ok_same h = cc

      stays : ok f ≡ ok g → Has x f.offsets ⊎ (i.dest ≡ some x)
      stays e = inl (rw (same_places (sym e)) at h)

      go : (o : Option ℕ) → i.dest ≡ o → (sh : Shape) → frame_step structs i.dest sh f ≡ ok g → Has x f.offsets ⊎ (i.dest ≡ some x)
      go o d (Shape.alloca ty count) e = alloca i.dest refl ty (count_of count) e
      go o d (Shape.phi ty incoming) e = stays e
      go o d (Shape.call callee) e = stays e
      go o d Shape.cmpxchg e = stays e
      go o d Shape.plain e = stays e

  places_set : (is : List Inst) (f g : Places) → frame_pass structs is f ≡ ok g → Has x g.offsets → Has x f.offsets ⊎ Somewhere (Result-of x) is
  unfolding frame_pass
  places_set [] f g e h = inl (rw (same_places (sym e)) at h)
  places_set (i ∷ is) f g e h =
      let k = bind_ok (frame_step structs i.dest (shape i.kind) f) _ g e in
      ⊎_elim (λ q. ⊎_elim (λ r. inl r) (λ r. inr (inl r)) (step_here i f k.0 k.1 q)) (λ q. inr (inr q)) (places_set is k.0 g k.2 h)

-- ---- a function's words
has_of : (x : ℕ) (m : Map ℕ) → (numbered (lookup x m) ≡ 0 → ⊥) → Has x m
has_of x m h = go (lookup x m) refl h
  where
    go : (o : Option ℕ) → lookup x m ≡ o → (numbered o ≡ 0 → ⊥) → Has x m
    go none e n = absurd (n refl)
    go (some a) e n = (a, e)

block_has : {m w : ℕ} {bs : List Entry} (x : ℕ) (bb : Map BasicBlock) → BlockWord m bs (lookup x bb) w → (w ≡ 0 → ⊥) → Has x bb
block_has x bb k n = let p = k.present n in (p.0, p.1)

-- of the parts of a function: its return type, its parameters, its blocks
module _ (P : Entry → Type 0) (f : Function) where
  in_params : Somewhere P (closed enc_param f.params) → Somewhere P (enc_function f)
  unfolding enc_function
  in_params h = inr (some_right P (enc_ty f.ret_ty) _ (some_left P (closed enc_param f.params) (closed enc_basic_block f.blocks) h))

  in_blocks : Somewhere P (closed enc_basic_block f.blocks) → Somewhere P (enc_function f)
  unfolding enc_function
  in_blocks h = inr (some_right P (enc_ty f.ret_ty) _ (some_right P (closed enc_param f.params) (closed enc_basic_block f.blocks) h))

-- a word that is not 0 is set by one of the function's entries
module _ {m : ℕ} {es : List Entry} (g : Codegen) (f : Function) (fr : Places) (pass : frame_pass g.structs (all_insts f.blocks) no_frame ≡ ok fr) {work : List ℕ}
    (k : Maps m es (context_of g f fr) work) (x : ℕ) (l : x < m) where
  pub covers_params : (get_or work (param_at x) 0 ≡ 0 → ⊥) → Somewhere (λ e. Sets e x 0) (enc_function f)
  unfolding context_of
  covers_params n =
      ⊎_elim (λ p. has_none x p) (λ p. in_params (λ e. Sets e x 0) f p)
      (params_set x 0 f.params [] (entry 0 0 ∷ []) (has_of x (param_map 0 f.params []) (λ z. n (k.locals.params x l ∙ z))))

  pub covers_blocks : (get_or work (block_at x) 0 ≡ 0 → ⊥) → Somewhere (λ e. Sets e x 2) (enc_function f)
  unfolding context_of
  covers_blocks n =
      ⊎_elim (λ p. has_none x p) (λ p. in_blocks (λ e. Sets e x 2) f p)
      (blocks_set x f.blocks [] (entry 0 0 ∷ []) (block_has x (block_map f.blocks []) (k.blocks x l) n))

  says_function : Somewhere (Result-of x) (all_insts f.blocks) → Somewhere (Says x) (enc_function f)
  says_function h = in_blocks (Says x) f (blocks_say x f.blocks (entry 0 0 ∷ []) h)

  pub covers_slots : (get_or work (slot_at x) 0 ≡ 0 → ⊥) → Somewhere (λ e. Sets e x 1) (enc_function f)
  unfolding context_of slots_of no_slots
  covers_slots n =
      somewhere_map (Says x) (λ e. Sets e x 1) (λ e p. Sets.slot refl p.0 p.1) (enc_function f)
      (⊎_elim (λ p. has_none x p) says_function
      (slots_set g.names x (all_insts f.blocks) no_slots (has_of x (slots_of g f).slots (λ z. n (k.locals.slots x l ∙ z)))))

  pub covers_places : (get_or work (place_at x) 0 ≡ 0 → ⊥) → Somewhere (λ e. Sets e x 3) (enc_function f)
  unfolding context_of no_frame
  covers_places n =
      somewhere_map (Says x) (λ e. Sets e x 3) (λ e p. Sets.place refl p.0 p.1) (enc_function f)
      (⊎_elim (λ p. has_none x p) says_function
      (places_set g.structs x (all_insts f.blocks) no_frame fr pass (has_of x fr.offsets (λ z. n (k.places x l ∙ z)))))
