-- The book: decoder and encoder agree.
use Rattle.std.specs.Prelude.{ℕ, ◌<◌, ◌↔◌, Bool, ◌&&◌, length, drop, ltb}
use Rattle.std.proofs.Math.Path.{◌≡◌, refl, ap}
use Rattle.std.proofs.Common.{◌∙◌, subst, arith}
use Rattle.std.proofs.Math.Bool.{true, false}
use Rattle.std.proofs.Math.Option.{Option, none, some}
use mathlib.Core.List.{List, [], ◌∷◌, ◌++◌, append-nil}
use borrow.Author.Tests.{eqb-true, eq-eqb, ltb-true, lt-ltb, lt-leb, leb-true, le-leb}
use Rattle.std.proofs.Math.Seq.{drop-length}
use Rattle.std.proofs.Math.Dec.{eqb, leb}
use Rattle.book.specs.Entry.{Entry, entry}
use Rattle.book.specs.Ast.{Ty, Tys, Function, StructBody, StructType, Mark, Book}
use Rattle.book.specs.Rule.{when, pick}
use Rattle.book.specs.Kinds.{InstTag, TermTag, inst_kind, term_kind, inst_tags, term_tags, inst_tag, term_tag}
use Rattle.book.specs.Fields.{Item, inst_tag_of, term_tag_of}
use Rattle.book.specs.Read.{Read, got, bad, and_then, taking, choose, stops, mapped, both, word, many}
use Rattle.book.specs.Decode.{name, type, inst, term, body, basic_block, item, function, mark_as, mark, body_of, struct_body, struct_type, functions, structs_and_functions, parts, mark_name, book_of, once_each, whole, decode}
use Rattle.book.specs.Encode.{ending, closed, enc_ty, enc_inst, enc_term, enc_basic_block, enc_param, enc_function, enc_functions, mark_entry, enc_mark, enc_body, enc_struct, encode}
use Rattle.book.specs.Limits.{Each, TyLimits, NameLimits, InstLimits, TermLimits, BlockLimits, ParamLimits, FunctionLimits, FunctionsLimits, BodyLimits, StructLimits, Limits}
use Rattle.book.specs.Agree.{Begins, Sound, Complete, Heads, Agrees, no_got, no_some, moved, when_some, entry_is, agrees_one, agrees_both, agrees_mapped, agrees_filtered, agrees_all}
use Rattle.book.specs.AgreeTy.{find_every}
use Rattle.book.proofs.AgreeTy.{agrees_many, agrees_type}
use Rattle.book.specs.AgreeInst.{inst_found, term_found}
use Rattle.book.proofs.AgreeInst.{agrees_name, agrees_items, agrees_inst, agrees_term}

-- a function's entry stands in front
abbrev pub Five : List Entry → Type 0
Five es = (x : ℕ) × ((rest : List Entry) × (es ≡ entry 5 x ∷ rest))

-- an instruction stands below 90, a terminator not
inst_more : (t : InstTag) → leb 90 (inst_kind t) ≡ false
unfolding inst_tag inst_tags
inst_more t = lt-leb 90 (inst_kind t) (ltb-true _ _ (find_every (λ t. ltb (inst_kind t) 90) inst_kind (inst_kind t) inst_tags t refl (inst_found t)))

term_stop : (t : TermTag) → leb 90 (term_kind t) ≡ true
unfolding term_tag term_tags
term_stop t = find_every (λ t. leb 90 (term_kind t)) term_kind (term_kind t) term_tags t refl (term_found t)

module _ (m : ℕ) where
  pub agrees_body : Agrees (body m) (λ x. ending enc_inst (enc_term x.1) x.0) (λ x. Each (InstLimits m) x.0 × TermLimits m x.1)
  unfolding body stops enc_inst enc_term
  agrees_body =
      agrees_all (leb 90) (inst m) (term m) enc_inst enc_term (InstLimits m) (TermLimits m) (agrees_inst m) (agrees_term m)
      (λ i rest k. inst_more (inst_tag_of i.kind)) (λ t rest k. term_stop (term_tag_of t))

  pub agrees_basic_block : Agrees (basic_block m) enc_basic_block (BlockLimits m)
  unfolding basic_block enc_basic_block
  agrees_basic_block =
      agrees_mapped (λ p. record { label = p.0; insts = p.1.0; term = p.1.1 }) (λ b. (b.label, (b.insts, b.term))) _ _ _ (λ x. refl) (λ x. refl)
      (agrees_both (word 7 (name m)) (body m) (λ x. entry 7 x ∷ []) (λ x. ending enc_inst (enc_term x.1) x.0) (NameLimits m) (λ x. Each (InstLimits m) x.0 × TermLimits m x.1) (agrees_name m 7) agrees_body)

  pub agrees_blocks : Agrees (many (basic_block m)) (closed enc_basic_block) (Each (BlockLimits m))
  unfolding enc_basic_block stops
  agrees_blocks = agrees_many (basic_block m) enc_basic_block (BlockLimits m) (λ b rest k. refl) agrees_basic_block

  pub agrees_params_and_blocks : Agrees (both (many (item m Item.param)) (many (basic_block m))) (λ x. closed enc_param x.0 ++ closed enc_basic_block x.1) (λ x. Each (ParamLimits m) x.0 × Each (BlockLimits m) x.1)
  agrees_params_and_blocks =
      agrees_both (many (item m Item.param)) (many (basic_block m)) (closed enc_param) (closed enc_basic_block) (Each (ParamLimits m)) (Each (BlockLimits m)) (agrees_items m Item.param) agrees_blocks

  pub agrees_signature_and_blocks : Agrees (both (type m) (both (many (item m Item.param)) (many (basic_block m))))
      (λ x. enc_ty x.0 ++ (closed enc_param x.1.0 ++ closed enc_basic_block x.1.1)) (λ x. TyLimits m x.0 × (Each (ParamLimits m) x.1.0 × Each (BlockLimits m) x.1.1))
  agrees_signature_and_blocks =
      agrees_both (type m) (both (many (item m Item.param)) (many (basic_block m))) enc_ty _ (TyLimits m) _ (agrees_type m) agrees_params_and_blocks

  pub agrees_function : Agrees (function m) enc_function (FunctionLimits m)
  unfolding function enc_function
  agrees_function =
      agrees_mapped (λ p. record { name = p.0; ret_ty = p.1.0; params = p.1.1.0; blocks = p.1.1.1 }) (λ f. (f.name, (f.ret_ty, (f.params, f.blocks)))) _ _ _ (λ x. refl) (λ x. refl)
      (agrees_both (word 5 (name m)) (both (type m) (both (many (item m Item.param)) (many (basic_block m)))) (λ x. entry 5 x ∷ []) _ (NameLimits m) _ (agrees_name m 5) agrees_signature_and_blocks)

  -- ---- marks
  mark_of : (e : Entry) (u k : Mark) (b : Bool) → (b ≡ true → (e ≡ mark_entry u) × (mark_name u < m)) → when b u ≡ some k → (e ≡ mark_entry k) × (mark_name k < m)
  mark_of e u k true f h = subst (λ x. (e ≡ mark_entry x) × (mark_name x < m)) (cc) (f refl)
  mark_of e u k false f h = no_some k h

  mark_is : (e : Entry) (k : Mark) → mark_as m e.kind e.word ≡ some k → (e ≡ mark_entry k) × (mark_name k < m)
  unfolding mark_as mark_entry
  mark_is e k h = first (eqb e.kind 1) refl h
    where
      second : (b : Bool) → eqb e.kind 2 ≡ b → pick b (when (ltb e.word m) (Mark.reserved e.word)) none ≡ some k → (e ≡ mark_entry k) × (mark_name k < m)
      second true eb h = mark_of e (Mark.reserved e.word) k _ (λ t. (entry_is e 2 e.word (eqb-true _ _ eb) refl, ltb-true _ _ t)) h
      second false eb h = no_some k h

      first : (b : Bool) → eqb e.kind 1 ≡ b → pick b (when (ltb e.word m) (Mark.defined e.word)) (pick (eqb e.kind 2) (when (ltb e.word m) (Mark.reserved e.word)) none) ≡ some k
          → (e ≡ mark_entry k) × (mark_name k < m)
      first true eb h = mark_of e (Mark.defined e.word) k _ (λ t. (entry_is e 1 e.word (eqb-true _ _ eb) refl, ltb-true _ _ t)) h
      first false eb h = second (eqb e.kind 2) refl h

  mark_found : (k : Mark) → mark_name k < m → mark_as m (mark_entry k).kind (mark_entry k).word ≡ some k
  unfolding mark_as mark_entry
  mark_found (Mark.defined x) h = rw (lt-ltb x m h)
  mark_found (Mark.reserved x) h = rw (lt-ltb x m h)

  pub agrees_mark : Agrees (mark m) enc_mark (λ k. mark_name k < m)
  unfolding mark
  agrees_mark = agrees_one _ mark_entry (λ k. mark_name k < m) mark_is mark_found

  -- ---- named structs
  body_is : (es : List Entry) (t : Ty) (k : ℕ) → Begins enc_ty (TyLimits m) es t k → (b : Option StructBody) (n : ℕ) → body_of m t k ≡ got b n → Begins enc_body (BodyLimits m) es b n
  unfolding body_of
  body_is es (Ty.struct p ts) k s b n h =
      moved enc_body (BodyLimits m) es (some (record { packed = p; fields = ts })) b k n h (record { here = s.here; size = s.size; keeps = s.keeps })
  body_is es Ty.void k s b n h = no_got b n h
  body_is es Ty.ptr k s b n h = no_got b n h
  body_is es (Ty.sizeless z) k s b n h = no_got b n h
  body_is es (Ty.int w) k s b n h = no_got b n h
  body_is es (Ty.array p l t) k s b n h = no_got b n h
  body_is es (Ty.named_struct x) k s b n h = no_got b n h

  pub agrees_struct_body : Agrees (struct_body m) enc_body (BodyLimits m)
  unfolding struct_body body_of enc_ty
  agrees_struct_body = record { sound = sound; complete = complete }
    where
      opaque : (e : Entry) (es : List Entry) (b : Option StructBody) (n : ℕ) → e.kind ≡ 4 → (z : Bool) → eqb e.word 0 ≡ z → taking 1 (when z none) ≡ got b n → Begins enc_body (BodyLimits m) (e ∷ es) b n
      opaque e es b n ek true ez h = moved enc_body (BodyLimits m) (e ∷ es) none b 1 n h (record { here = ap (λ x. x ∷ es) (entry_is e 4 0 ek (eqb-true _ _ ez)); size = refl; keeps = tt })
      opaque e es b n ek false ez h = no_got b n h

      typed : (e : Entry) (es : List Entry) (b : Option StructBody) (n : ℕ) (r : Read Ty) → type m (e ∷ es) ≡ r → and_then r (body_of m) ≡ got b n → Begins enc_body (BodyLimits m) (e ∷ es) b n
      typed e es b n (got t k) er h = body_is (e ∷ es) t k ((agrees_type m).sound (e ∷ es) t k er) b n h
      typed e es b n bad er h = no_got b n h

      either : (e : Entry) (es : List Entry) (b : Option StructBody) (n : ℕ) (z : Bool) → eqb e.kind 4 ≡ z
          → choose z (taking 1 (when (eqb e.word 0) none)) (and_then (type m (e ∷ es)) (body_of m)) ≡ got b n → Begins enc_body (BodyLimits m) (e ∷ es) b n
      either e es b n true ez h = opaque e es b n (eqb-true _ _ ez) (eqb e.word 0) refl h
      either e es b n false ez h = typed e es b n (type m (e ∷ es)) refl h

      sound : Sound enc_body (BodyLimits m) (struct_body m)
      sound [] b n h = no_got b n h
      sound (e ∷ es) b n h = either e es b n (eqb e.kind 4) refl h

      complete : Complete enc_body (BodyLimits m) (struct_body m)
      complete none rest k = refl
      complete (some b) rest k = struct b.packed b.fields k
        where
          struct : (p : Bool) (ts : Tys) → TyLimits m (Ty.struct p ts)
              → struct_body m (enc_ty (Ty.struct p ts) ++ rest) ≡ got (some (record { packed = p; fields = ts })) (length (enc_ty (Ty.struct p ts)))
          struct false ts l = rw ((agrees_type m).complete (Ty.struct false ts) rest l)
          struct true ts l = rw ((agrees_type m).complete (Ty.struct true ts) rest l)

  pub agrees_struct_type : Agrees (struct_type m) enc_struct (StructLimits m)
  unfolding struct_type enc_struct
  agrees_struct_type =
      agrees_mapped (λ p. record { name = p.0; body = p.1 }) (λ s. (s.name, s.body)) _ _ _ (λ x. refl) (λ x. refl)
      (agrees_both (word 3 (name m)) (struct_body m) (λ x. entry 3 x ∷ []) enc_body (NameLimits m) (BodyLimits m) (agrees_name m 3) agrees_struct_body)

  -- ---- the book
  -- one function or more, closed
  pub agrees_functions : Agrees (functions m) enc_functions (FunctionsLimits m)
  unfolding functions enc_function stops
  agrees_functions = record {
    sound = λ es fs n h. sound es fs n (a.sound es fs n h);
    complete = λ fs r k. a.complete fs r (k.1, le-leb 1 (length fs) k.0);
  }
    where
      a : Agrees (functions m) enc_functions (λ fs. Each (FunctionLimits m) fs × (leb 1 (length fs) ≡ true))
      a = agrees_filtered (λ fs. leb 1 (length fs)) (many (function m)) enc_functions (Each (FunctionLimits m)) (agrees_many (function m) enc_function (FunctionLimits m) (λ f r k. refl) agrees_function)

      sound : (es : List Entry) (fs : List Function) (n : ℕ) → Begins enc_functions (λ fs. Each (FunctionLimits m) fs × (leb 1 (length fs) ≡ true)) es fs n
          → Begins enc_functions (FunctionsLimits m) es fs n
      sound es fs n s = record { here = s.here; size = s.size; keeps = (leb-true 1 (length fs) s.keeps.1, s.keeps.0) }

  -- there is one at least
  pub functions_begin : (fs : List Function) → FunctionsLimits m fs → Five (enc_functions fs)
  unfolding ending enc_function
  functions_begin [] k = absurd (omega (arith, k.0))
  functions_begin (f ∷ fs) k = (f.name, (_, refl))

  functions_stop : (stop : ℕ → Bool) → stop 5 ≡ true → Heads enc_functions (FunctionsLimits m) stop true
  unfolding stops ending enc_function
  functions_stop stop h [] r k = absurd (omega (arith, k.0))
  functions_stop stop h (f ∷ fs) r k = h

  abbrev pub rest : List StructType × List Function → List Entry
  rest x = ending enc_struct (enc_functions x.1) x.0

  abbrev pub RestLimits : List StructType × List Function → Type 0
  RestLimits x = Each (StructLimits m) x.0 × FunctionsLimits m x.1

  pub agrees_structs : Agrees (structs_and_functions m) rest RestLimits
  unfolding structs_and_functions stops enc_struct
  agrees_structs =
      agrees_all (leb 4) (struct_type m) (functions m) enc_struct enc_functions (StructLimits m) (FunctionsLimits m) agrees_struct_type agrees_functions
      (λ s r k. refl) (functions_stop (leb 4) refl)

  rest_stops : Heads rest RestLimits (leb 3) true
  unfolding stops ending enc_struct
  rest_stops x r k = go x.0
    where
      go : (ss : List StructType) → stops (leb 3) (ending enc_struct (enc_functions x.1) ss ++ r) ≡ true
      go [] = functions_stop (leb 3) refl x.1 r k.1
      go (s ∷ ss) = refl

  mark_more : Heads enc_mark (λ k. mark_name k < m) (leb 3) false
  unfolding stops mark_entry
  mark_more (Mark.defined x) r k = refl
  mark_more (Mark.reserved x) r k = refl

  agrees_parts : Agrees (parts m) (λ x. ending enc_mark (rest x.1) x.0) (λ x. Each (λ k. mark_name k < m) x.0 × RestLimits x.1)
  unfolding parts
  agrees_parts =
      agrees_all (leb 3) (mark m) (structs_and_functions m) enc_mark rest (λ k. mark_name k < m) RestLimits agrees_mark agrees_structs mark_more rest_stops

  abbrev pub PartsLimits : Book → Type 0
  PartsLimits b = Each (λ k. mark_name k < m) b.marks × (Each (StructLimits m) b.structs × FunctionsLimits m b.functions)

  pub agrees_book : Agrees (mapped book_of (parts m)) encode PartsLimits
  unfolding encode
  agrees_book = agrees_mapped book_of (λ b. (b.marks, (b.structs, b.functions))) _ _ _ (λ x. refl) (λ x. refl) agrees_parts

  -- what decodes is the encoding of a book within the limits
  pub decode_sound : (es : List Entry) (b : Book) → decode m es ≡ some b → (es ≡ encode b) × Limits m b
  unfolding decode
  decode_sound es b h = go (mapped book_of (parts m) es) refl h
    where
      two : (x y : Bool) → x && y ≡ true → (x ≡ true) × (y ≡ true)
      two true true e = (refl, refl)
      two true false e = (refl, e)
      two false y e = (e, absurd (let z : ◌≡◌ {A = ℕ} 0 1 = cc in omega arith))

      go : (r : Read Book) → mapped book_of (parts m) es ≡ r → whole es r ≡ some b → (es ≡ encode b) × Limits m b
      go (got a n) er h =
          let s : Begins encode PartsLimits es a n = agrees_book.sound es a n er in
          let w = when_some (eqb n (length es) && once_each a) a b h in
          let t = two (eqb n (length es)) (once_each a) w.0 in
          let e : n ≡ length es = eqb-true _ _ t.0 in
          let d : drop n es ≡ [] = ap (λ k. drop k es) e ∙ drop-length es in
          let f : es ≡ encode a = s.here ∙ ap (λ r. encode a ++ r) d ∙ append-nil (encode a) in
          let l : Limits m a = record { marks = s.keeps.0; structs = s.keeps.1.0; functions = s.keeps.1.1; once = t.1 } in
          subst (λ x. (es ≡ encode x) × Limits m x) w.1 (f, l)
      go bad er h = no_some b h

  -- and every such encoding decodes to its book
  pub decode_complete : (b : Book) → Limits m b → decode m (encode b) ≡ some b
  unfolding decode
  decode_complete b l =
      let c : mapped book_of (parts m) (encode b ++ []) ≡ got b (length (encode b)) = agrees_book.complete b [] (l.marks, (l.structs, l.functions)) in
      let c' : mapped book_of (parts m) (encode b) ≡ got b (length (encode b)) = rw append-nil at c in
      rw (c', eq-eqb (length (encode b)) (length (encode b)) refl, l.once)

  pub decode_exactly : (es : List Entry) (b : Book) → (decode m es ≡ some b) ↔ ((es ≡ encode b) × Limits m b)
  decode_exactly es b = (decode_sound es b, λ h. rw h.0 (decode_complete b h.1))
