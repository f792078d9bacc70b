-- Word 0 of each name, filled from the function's list of parameters: "list of 6 parameters (name + 1, or 0; type)", "later duplicates win".
use Rattle.std.specs.Prelude.{ℕ, ◌+◌, ◌-◌, ◌<◌, ◌≤◌, ◌^◌, ◌≡◌, Bool, take, drop, set}
use Rattle.std.proofs.Math.Path.{refl, sym, ap}
use Rattle.std.proofs.Common.{◌∙◌, subst, add-zero, le_of_eq, length-set, length-append, length-drop, drop-drop, take_all, get_or-drop, get_or-set_same}
use Rattle.std.proofs.Math.Bool.{true, false}
use Rattle.std.proofs.Math.Option.{Option, none, some}
use mathlib.Core.List.{List, [], ◌∷◌, ◌++◌, append_assoc}
use native.Mathlib.Omega.{arith}
use Rattle.std.proofs.Math.Numerals.{add-one}
use Rattle.std.proofs.Math.Dec.{eqb}
use Rattle.std.proofs.Math.ListN.{length, get_or}
use Rattle.std.proofs.Math.Seq.{drop-append_seam, get_or-set_other}
use borrow.Author.Tests.{eqb-true, eqb-false}
use Rattle.book.specs.Entry.{Entry, entry, entries}
use Rattle.book.specs.Ast.{Function, Param}
use Rattle.book.specs.Map.{Map, lookup, insert}
use Rattle.book.specs.Rule.{pick}
use Rattle.book.specs.Encode.{ending, closed, enc_ty, enc_param, enc_basic_block, enc_function, dest_word}
use Rattle.book.specs.Limits.{Each, Maybe, NameLimits, ParamLimits, FunctionLimits}
use Rattle.book.specs.Work.{name_words, param_at}
use Rattle.book_types.specs.Laws.{entries_part}
use Rattle.lowering.specs.Context.{param_map}
use Rattle.layout_memo.specs.Front.{Starts, ty_len, len_is, enc_pos}
use Rattle.layout_memo.specs.Calls.{lent}
use Rattle.gen_values.specs.Maps.{numbered}
use Rattle.gen_values.specs.Fields.{entry_at}
use Rattle.gen_blocks.specs.Words.{WordsKept, words_none, words_set}
use Rattle.gen_blocks.specs.Function.{ending_append}

-- behind the parameters of a function: its blocks, and what stands behind it
abbrev pub blocks_of : Function → List Entry → List Entry
blocks_of f rest = closed enc_basic_block f.blocks ++ rest

-- at the place a of a list of parameters, where the parameter i may stand: `all` are in the list, and behind it stands `rest`
pub record ParamsAt (m : ℕ) (all : List Param) (rest es : List Entry) (work : List ℕ) (a i : ℕ) : Type 0 where
  pub left : List Param
  pub done : Map ℕ
  pub here : drop a es ≡ ending enc_param (entry 0 0 ∷ rest) left
  pub limits : Each (ParamLimits m) left
  pub goes : param_map i left done ≡ param_map 0 all []
  pub words : (x : ℕ) → x < m → get_or work (param_at x) 0 ≡ numbered (lookup x done)
  pub room : name_words m ≤ length work
  pub few : length es ≤ 2 ^ 20

-- what `place_params` asks and leaves: the function f stands at the front, and behind it `rest`
pub record ParamsAsked (m : ℕ) (f : Function) (rest es : List Entry) (work : List ℕ) : Type 0 where
  pub here : es ≡ enc_function f ++ rest
  pub limits : FunctionLimits m f
  pub room : name_words m ≤ length work
  pub blank : (x : ℕ) → x < m → get_or work (param_at x) 0 ≡ 0
  pub few : length es ≤ 2 ^ 20

pub record ParamsPlaced (m : ℕ) (f : Function) (rest es : List Entry) (work work' : List ℕ) (r : ℕ) : Type 0 where
  pub words : (x : ℕ) → x < m → get_or work' (param_at x) 0 ≡ numbered (lookup x (param_map 0 f.params []))
  pub blocks : drop r es ≡ blocks_of f rest
  pub there : r ≤ length es
  pub kept : WordsKept m 0 work work'

-- ---- the return type
module _ (m : ℕ) (ks ws : List ℕ) (f : Function) (rest : List Entry) (work : List ℕ) (k : ParamsAsked m f rest (entries ks ws) work) where
  abbrev own : List Entry
  own = entries ks ws

  abbrev later : List Entry
  later = closed enc_param f.params ++ blocks_of f rest

  return_type : (0 < length ks) × (0 < length ws) × (drop 1 own ≡ enc_ty f.ret_ty ++ later)
  unfolding enc_function
  return_type =
      let q = entry_at ks ws 0 _ _ k.here in
      let p = closed enc_param f.params in
      let b = closed enc_basic_block f.blocks in
      (q.2, q.3, q.4 ∙ append_assoc (enc_ty f.ret_ty) (p ++ b) rest ∙ ap (λ (x : List Entry). enc_ty f.ret_ty ++ x) (append_assoc p b rest))

  pub return_kinds : 1 ≤ length ks
  return_kinds = omega (arith, return_type.0)

  pub return_words : 1 ≤ length ws
  return_words = omega (arith, return_type.1)

  starts : Starts m (drop 1 own)
  starts = record { ty = f.ret_ty; rest = later; here = return_type.2; keeps = k.limits.1.0; few = omega (arith, k.few, length-drop 1 own) }

  module _ (n : ℕ) (en : n ≡ ty_len m (lent ks ws 1)) where
    length_is : n ≡ length (enc_ty f.ret_ty)
    unfolding starts
    length_is = en ∙ ap (ty_len m) (entries_part 1 ks ws) ∙ len_is starts

    behind : drop (1 + n) own ≡ later
    behind =
        sym (drop-drop n 1 own) ∙ ap (λ j. drop j (drop 1 own)) length_is ∙ ap (drop (length (enc_ty f.ret_ty))) return_type.2
        ∙ drop-append_seam (enc_ty f.ret_ty) later

    pub return_fits : 1 + n ≤ 1048576
    return_fits = omega (arith, length_is, ap length return_type.2, length-append (enc_ty f.ret_ty) later, length-drop 1 own, k.few, enc_pos f.ret_ty)

    pub params_start : ParamsAt m f.params (blocks_of f rest) own work (1 + n) 0
    unfolding lookup
    params_start =
        record {
          left = f.params;
          done = [];
          here = behind ∙ ending_append enc_param (entry 0 0 ∷ []) (blocks_of f rest) f.params;
          limits = k.limits.1.1.0;
          goes = refl;
          words = k.blank;
          room = k.room;
          few = k.few;
        }

-- ---- a parameter
-- it stands at the front
pub record AtParam (m : ℕ) (all : List Param) (rest : List Entry) (ks ws work : List ℕ) (i : ℕ) : Type 0 where
  pub params : ParamsAt m all rest (entries ks ws) work 0 i
  pub kind : get_or ks 0 0 ≡ 6
  pub small : i ≤ 1048576

pub record NextParam (m : ℕ) (all : List Param) (rest es : List Entry) (work work' : List ℕ) (i r : ℕ) : Type 0 where
  pub next : ParamsAt m all rest es work' r (i + 1)
  pub more : 0 < r
  pub kept : WordsKept m 0 work work'

-- the list from a place on, and back
params_whole : {m : ℕ} {all : List Param} {rest : List Entry} (ks ws : List ℕ) {work : List ℕ} (a r : ℕ) {i : ℕ} → length (entries ks ws) ≤ 2 ^ 20
    → ParamsAt m all rest (lent ks ws a) work r i → ParamsAt m all rest (entries ks ws) work (a + r) i
params_whole ks ws a r few p =
    record {
      left = p.left;
      done = p.done;
      here = sym (drop-drop r a (entries ks ws)) ∙ ap (drop r) (sym (entries_part a ks ws)) ∙ p.here;
      limits = p.limits;
      goes = p.goes;
      words = p.words;
      room = p.room;
      few = few;
    }

module _ {m : ℕ} {all : List Param} {rest : List Entry} (ks ws : List ℕ) {work : List ℕ} (a : ℕ) {i : ℕ} where
  params_part : ParamsAt m all rest (entries ks ws) work a i → ParamsAt m all rest (lent ks ws a) work 0 i
  params_part p =
      record {
        left = p.left;
        done = p.done;
        here = entries_part a ks ws ∙ p.here;
        limits = p.limits;
        goes = p.goes;
        words = p.words;
        room = p.room;
        few = omega (arith, p.few, ap length (entries_part a ks ws), length-drop a (entries ks ws));
      }

  -- the parameter at a place
  pub at_param : ParamsAt m all rest (entries ks ws) work a i → get_or ks a 0 ≡ 6 → i ≤ 1048576
      → AtParam m all rest (take (length ks - a) (drop a ks)) (take (length ws - a) (drop a ws)) work i
  at_param p e l =
      record {
        params = params_part p;
        kind = rw (take_all (length ks - a) (drop a ks) (le_of_eq (length-drop a ks)), get_or-drop, add-zero) e;
        small = l;
      }

  pub behind_param : {work' : List ℕ} {r : ℕ} → ParamsAt m all rest (entries ks ws) work a i → NextParam m all rest (lent ks ws a) work work' i r
      → ParamsAt m all rest (entries ks ws) work' (a + r) (i + 1)
  behind_param {r = r} p n = params_whole ks ws a r p.few n.next

-- the word of a name after a store
module _ (m : ℕ) (work : List ℕ) (done : Map ℕ) (words : (x : ℕ) → x < m → get_or work (param_at x) 0 ≡ numbered (lookup x done)) (room : name_words m ≤ length work) (y i : ℕ) (l : y < m) where
  stored : (x : ℕ) → x < m → get_or (set work (param_at y) (i + 1)) (param_at x) 0 ≡ numbered (lookup x (insert (some y) i done))
  unfolding lookup insert
  stored x lx = go (eqb x y) refl
    where
      go : (b : Bool) → eqb x y ≡ b → get_or (set work (param_at y) (i + 1)) (param_at x) 0 ≡ numbered (pick b (some i) (lookup x done))
      go true e =
          let s : param_at y < length work = omega arith in
          rw (eqb-true x y e) (get_or-set_same work (param_at y) (i + 1) 0 s ∙ add-one i)
      go false e =
          let n = eqb-false x y e in
          get_or-set_other work (param_at y) (param_at x) (i + 1) 0 (λ z. n (omega arith)) ∙ words x lx

module _ (m : ℕ) (ks ws : List ℕ) (all : List Param) (rest : List Entry) (work : List ℕ) (a i : ℕ) (p : ParamsAt m all rest (entries ks ws) work a i) where
  abbrev es : List Entry
  es = entries ks ws

  abbrev listed : List Param → List Entry
  listed = ending enc_param (entry 0 0 ∷ rest)

  -- what stands at the place
  pub record Here : Type 0 where
    pub param : Param
    pub others : List Param
    pub is : p.left ≡ param ∷ others
    pub word : get_or ws a 0 ≡ dest_word param.name
    pub type : drop (a + 1) es ≡ enc_ty param.ty ++ listed others

  view : (ps : List Param) → p.left ≡ ps → drop a es ≡ listed ps
      → (a < length ks) × ((a < length ws) × (((get_or ks a 0 ≡ 6 → ⊥) → (ps ≡ []) × (drop (a + 1) es ≡ rest)) × (get_or ks a 0 ≡ 6 → Here)))
  unfolding ending enc_param
  view [] e h =
      let q = entry_at ks ws a _ _ h in
      (q.2, (q.3, ((λ _. (refl, q.4)), λ k. absurd (let z : 6 ≡ 0 = sym k ∙ q.0 in omega arith))))
  view (x ∷ xs) e h =
      let q = entry_at ks ws a _ _ h in
      (q.2, (q.3, ((λ n. absurd (n q.0)), λ _. record { param = x; others = xs; is = e; word = q.1; type = q.4 })))

  seen : (a < length ks) × ((a < length ws) × (((get_or ks a 0 ≡ 6 → ⊥) → (p.left ≡ []) × (drop (a + 1) es ≡ rest)) × (get_or ks a 0 ≡ 6 → Here)))
  seen = view p.left refl p.here

  pub params_kinds : a + 1 ≤ length ks
  params_kinds = omega (arith, seen.0)

  pub params_words : a + 1 ≤ length ws
  params_words = omega (arith, seen.1.0)

  some_left : (ps : List Param) → 1 ≤ length (listed ps)
  unfolding ending enc_param
  some_left [] = omega arith
  some_left (x ∷ xs) = omega arith

  there : a + 1 ≤ length es
  there = omega (arith, seen.0, ap length p.here, length-drop a es, some_left p.left)

  pub params_few : a ≤ 1048576
  params_few = omega (arith, there, p.few)

  -- behind the last
  pub params_done : (get_or ks a 0 ≡ 6 → ⊥)
      → ((x : ℕ) → x < m → get_or work (param_at x) 0 ≡ numbered (lookup x (param_map 0 all []))) × (drop (a + 1) es ≡ rest) × (a + 1 ≤ length es)
  unfolding param_map
  params_done n =
      let d = seen.1.1.0 n in
      ((λ x l. p.words x l ∙ ap (λ (o : Map ℕ). numbered (lookup x o)) (sym (ap (λ (ps : List Param). param_map i ps p.done) d.0) ∙ p.goes)), d.1, there)

  module _ (k6 : get_or ks a 0 ≡ 6) where
    here : Here
    here = seen.1.1.1 k6

    limits_here : Each (ParamLimits m) (here.param ∷ here.others)
    limits_here = subst (Each (ParamLimits m)) here.is p.limits

    goes_here : param_map (i + 1) here.others (insert here.param.name i p.done) ≡ param_map 0 all []
    unfolding param_map
    goes_here = sym (ap (λ (ps : List Param). param_map i ps p.done) here.is) ∙ p.goes

    starts_here : Starts m (drop (a + 1) es)
    starts_here =
        record { ty = here.param.ty; rest = listed here.others; here = here.type; keeps = limits_here.0.1; few = omega (arith, p.few, length-drop (a + 1) es) }

    -- the name
    name_of : (o : Option ℕ) → here.param.name ≡ o → (get_or ws a 0 ≡ 0 → ⊥) → (y : ℕ) × ((here.param.name ≡ some y) × ((get_or ws a 0 - 1 ≡ y) × (y < m)))
    name_of none e z = absurd (z (here.word ∙ ap dest_word e))
    name_of (some y) e z =
        let w : get_or ws a 0 ≡ y + 1 = here.word ∙ ap dest_word e in
        (y, (e, (omega arith, subst (Maybe (NameLimits m)) e limits_here.0.0)))

    pub name_below : (get_or ws a 0 ≡ 0 → ⊥) → get_or ws a 0 - 1 < m
    name_below z = let q = name_of here.param.name refl z in rw q.1.1.0 q.1.1.1

    none_of : (o : Option ℕ) → here.param.name ≡ o → get_or ws a 0 ≡ 0 → here.param.name ≡ none
    none_of none e z = e
    none_of (some y) e z = absurd (let w : get_or ws a 0 ≡ y + 1 = here.word ∙ ap dest_word e in omega arith)

    module _ (n : ℕ) (en : n ≡ ty_len m (lent ks ws (a + 1))) where
      type_length : n ≡ length (enc_ty here.param.ty)
      unfolding starts_here
      type_length = en ∙ ap (ty_len m) (entries_part (a + 1) ks ws) ∙ len_is starts_here

      after : drop (a + 1 + n) es ≡ listed here.others
      after =
          sym (drop-drop n (a + 1) es) ∙ ap (λ j. drop j (drop (a + 1) es)) type_length ∙ ap (drop (length (enc_ty here.param.ty))) here.type
          ∙ drop-append_seam (enc_ty here.param.ty) (listed here.others)

      pub type_fits : a + 1 + n ≤ 1048577
      type_fits = omega (arith, type_length, ap length here.type, length-append (enc_ty here.param.ty) (listed here.others), length-drop (a + 1) es, p.few, there)

      next_with : (work' : List ℕ) → length work' ≡ length work
          → ((x : ℕ) → x < m → get_or work' (param_at x) 0 ≡ numbered (lookup x (insert here.param.name i p.done))) → ParamsAt m all rest es work' (a + 1 + n) (i + 1)
      next_with work' long words =
          record {
            left = here.others;
            done = insert here.param.name i p.done;
            here = after;
            limits = limits_here.1;
            goes = goes_here;
            words = words;
            room = omega (arith, p.room);
            few = p.few;
          }

      -- without a name
      pub next_unnamed : get_or ws a 0 ≡ 0 → ParamsAt m all rest es work (a + 1 + n) (i + 1)
      unfolding insert
      next_unnamed z =
          let e = none_of here.param.name refl z in
          next_with work refl (λ x l. p.words x l ∙ ap (λ (o : Option ℕ). numbered (lookup x (insert o i p.done))) (sym e))

      -- with one
      pub next_named : (get_or ws a 0 ≡ 0 → ⊥) → ParamsAt m all rest es (set work (param_at (get_or ws a 0 - 1)) (i + 1)) (a + 1 + n) (i + 1)
      next_named z =
          let q = name_of here.param.name refl z in
          let y = q.0 in
          let s : (x : ℕ) → x < m → get_or (set work (param_at (get_or ws a 0 - 1)) (i + 1)) (param_at x) 0 ≡ numbered (lookup x (insert here.param.name i p.done)) =
          λ x l. ap (λ (j : ℕ). get_or (set work (param_at j) (i + 1)) (param_at x) 0) q.1.1.0 ∙ stored m work p.done p.words p.room y i q.1.1.1 x l
          ∙ ap (λ (o : Option ℕ). numbered (lookup x (insert o i p.done))) (sym q.1.0) in
          next_with (set work (param_at (get_or ws a 0 - 1)) (i + 1)) (length-set work (param_at (get_or ws a 0 - 1)) (i + 1)) s

-- at the front
module _ {m : ℕ} {all : List Param} {rest : List Entry} (ks ws work : List ℕ) {i : ℕ} (p : AtParam m all rest ks ws work i) {n : ℕ} (en : n ≡ ty_len m (lent ks ws 1)) where
  pub unnamed : get_or ws 0 0 ≡ 0 → NextParam m all rest (entries ks ws) work work i (1 + n)
  unnamed z = record { next = next_unnamed m ks ws all rest work 0 i p.params p.kind n en z; more = omega arith; kept = words_none }

  pub named : (get_or ws 0 0 ≡ 0 → ⊥) → NextParam m all rest (entries ks ws) work (set work (param_at (get_or ws 0 0 - 1)) (i + 1)) i (1 + n)
  named z =
      record {
        next = next_named m ks ws all rest work 0 i p.params p.kind n en z;
        more = omega arith;
        kept = words_set (get_or ws 0 0 - 1) (param_at (get_or ws 0 0 - 1)) (i + 1) (name_below m ks ws all rest work 0 i p.params p.kind z) (omega arith);
      }
